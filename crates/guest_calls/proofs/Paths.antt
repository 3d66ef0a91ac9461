-- Calls that are given a path: exec, open and unlink.
use Rattle.std.proofs.Common.{◌≡◌, ℕ, ◌||◌, ◌&&◌, ◌==◌, Bool, true, false, nat_lt, not, if◌then◌else◌, List, [], ◌∷◌, Option, Some, IfOk, IfSome, refl, sym, ap, ◌∙◌, subst, ne_eqb}
use Rattle.std.specs.Prelude.{Result}
use Rattle.std.proofs.lemmas.Result.{IfOk-weaker}
use Rattle.arn_base.specs.declared.errors.NoMemory.{NoMemory}
use Rattle.parts_model.specs.declared.limits.TheConstants.{MOST_BLOCK_BYTES}
use Rattle.parts_model.specs.declared.refusals.TheConstants.{BAD_ADDRESS, BAD_ARGUMENT}
use Rattle.parts_model.specs.Files.{find_file}
use Rattle.acts_model.specs.Bodies.{View}
use Rattle.acts_model.specs.Views.{argument, can_reach, error}
use Rattle.arn_model.specs.Doing.{Request, refuse, returns, unless_refused}
use Rattle.arn_model.specs.FileCalls.{open_found, open_new, open_row, unlink_found, unlink_row}
use Rattle.arn_model.specs.Kernel.{Kernel, Machine}
use Rattle.arn_model.specs.Paths.{isnt_path_len, path_of}
use Rattle.arn_model.specs.ProcessCalls.{exec_file, exec_row}
use Rattle.guest_bodies.specs.Shown.{Guests, seen_in}
use Rattle.guest_requests.specs.Paths.{goes_on_by}
use Rattle.guest_calls.specs.Acted.{Carried}
use Rattle.guest_calls.specs.Kept.{state_of}
use Rattle.guest_calls.specs.State.{State, OfProcess}
use Rattle.guest_calls.specs.declared.kernel.Kernel.TheInside.{Inside}
use Rattle.guest_calls.specs.declared.outcomes.Done.{Done}
use Rattle.guest_calls.proofs.Carries.{argument-is, carried-same}
use Rattle.guest_calls.proofs.Stands.{at-seen, machine_with}

-- the refusals for a path
abbrev pub by_path : Kernel → View → ℕ → ℕ → Bool → Request → Request
by_path k v at len bad goes_on =
    unless_refused k (refuse BAD_ARGUMENT (isnt_path_len len || bad) ∷ refuse BAD_ADDRESS (not (can_reach v at len)) ∷ []) goes_on

abbrev pub ByPath : Guests → ℕ → ℕ → ℕ → Bool → Option ℕ → Type 0
ByPath guests pid at len bad answer = IfSome (seen_in guests pid) (λ v. (m : Machine) → (goes_on : Request) → by_path m.kernel v at len bad goes_on ≡ goes_on_by answer m goes_on)

module _ (k : Inside) (s new : State) (pid at len : ℕ) (bad : Bool) (answer : Option ℕ) (row goes : Machine → View → Request) (is : state_of k ≡ s) (told : ByPath k.bodies pid at len bad answer) (same : (m : Machine) (v : View) → seen_in s.guests pid ≡ Some v → by_path m.kernel v at len bad (goes m v) ≡ row m v) where
  row-by : (m : Machine) (v : View) → seen_in s.guests pid ≡ Some v → goes_on_by answer m (goes m v) ≡ row m v
  row-by m v sees =
      sym (at-seen (seen_in s.guests pid) v (λ (w : View). (n : Machine) → (goes_on : Request) → by_path n.kernel w at len bad goes_on ≡ goes_on_by answer n goes_on) sees
      (subst (λ (x : State). ByPath x.guests pid at len bad answer) is told) m (goes m v))
      ∙ same m v sees

  -- a call ends as it goes on, or as it is refused
  pub path-carried : (d : Done) (one : Machine → View → Request) → ((m : Machine) (v : View) → seen_in s.guests pid ≡ Some v → one m v ≡ goes_on_by answer m (goes m v)) → OfProcess s pid (λ m v. Carried (one m v) d m pid v new) → OfProcess s pid (λ m v. Carried (row m v) d m pid v new)
  path-carried d one on carried =
      carried-same pid d s new one row carried (λ b v sees. on (machine_with b s) v sees ∙ row-by (machine_with b s) v sees)

  pub path-ends : (r : Result Done NoMemory) (one : Machine → View → Request) → ((m : Machine) (v : View) → seen_in s.guests pid ≡ Some v → one m v ≡ goes_on_by answer m (goes m v)) → IfOk r (λ (d : Done). OfProcess s pid (λ m v. Carried (one m v) d m pid v new)) → IfOk r (λ (d : Done). OfProcess s pid (λ m v. Carried (row m v) d m pid v new))
  path-ends r one on carried =
      IfOk-weaker r (λ (d : Done). OfProcess s pid (λ m v. Carried (one m v) d m pid v new)) (λ (d : Done). OfProcess s pid (λ m v. Carried (row m v) d m pid v new)) (λ d carries. path-carried d one on carries) carried

-- what comes after the refusals for a path
abbrev pub exec_on : ℕ → ℕ → ℕ → ℕ → ℕ → Machine → View → Request
exec_on pid at len block block_len m v =
    unless_refused m.kernel (refuse BAD_ADDRESS (nat_lt 0 block_len && not (can_reach v block block_len)) ∷ []) (exec_file m pid v (find_file m.kernel.files (path_of v at len)))

abbrev pub open_on : ℕ → ℕ → ℕ → ℕ → Machine → View → Request
open_on pid at len mode m v =
    if mode == 0 then open_found m pid (path_of v at len) (find_file m.kernel.files (path_of v at len)) else open_new m pid (path_of v at len)

abbrev pub unlink_on : ℕ → ℕ → Machine → View → Request
unlink_on at len m v = unlink_found m (path_of v at len) (find_file m.kernel.files (path_of v at len))

-- a call's arguments as they were read
abbrev pub IsArgument : State → ℕ → ℕ → ℕ → Type 0
IsArgument s pid place a = IfSome (seen_in s.guests pid) (λ w. a ≡ argument w.body.cpu place)

pub exec-by : (s : State) (pid at len block block_len : ℕ) → IsArgument s pid 0 at → IsArgument s pid 1 len → IsArgument s pid 2 block → IsArgument s pid 3 block_len → (m : Machine) (v : View) → seen_in s.guests pid ≡ Some v → by_path m.kernel v at len (nat_lt MOST_BLOCK_BYTES block_len) (exec_on pid at len block block_len m v) ≡ exec_row m pid v
exec-by s pid at len block block_len first second third fourth m v sees =
    let by : ℕ → ℕ → ℕ → ℕ → Request = λ a l b n. by_path m.kernel v a l (nat_lt MOST_BLOCK_BYTES n) (exec_on pid a l b n m v) in
    let a0 = argument v.body.cpu 0 in
    let a1 = argument v.body.cpu 1 in
    let a2 = argument v.body.cpu 2 in
    ap (λ (a : ℕ). by a len block block_len) (argument-is s pid 0 at v sees first)
    ∙ ap (λ (l : ℕ). by a0 l block block_len) (argument-is s pid 1 len v sees second)
    ∙ ap (λ (b : ℕ). by a0 a1 b block_len) (argument-is s pid 2 block v sees third)
    ∙ ap (λ (n : ℕ). by a0 a1 a2 n) (argument-is s pid 3 block_len v sees fourth)

pub open-by : (s : State) (pid at len mode : ℕ) → IsArgument s pid 0 at → IsArgument s pid 1 len → IsArgument s pid 2 mode → (m : Machine) (v : View) → seen_in s.guests pid ≡ Some v → by_path m.kernel v at len (nat_lt 1 mode) (open_on pid at len mode m v) ≡ open_row m pid v
open-by s pid at len mode first second third m v sees =
    let by : ℕ → ℕ → ℕ → Request = λ a l n. by_path m.kernel v a l (nat_lt 1 n) (open_on pid a l n m v) in
    let a0 = argument v.body.cpu 0 in
    let a1 = argument v.body.cpu 1 in
    ap (λ (a : ℕ). by a len mode) (argument-is s pid 0 at v sees first)
    ∙ ap (λ (l : ℕ). by a0 l mode) (argument-is s pid 1 len v sees second)
    ∙ ap (λ (n : ℕ). by a0 a1 n) (argument-is s pid 2 mode v sees third)

or-false : (b : Bool) → b || false ≡ b
or-false true = refl
or-false false = refl

pub unlink-by : (s : State) (pid at len : ℕ) → IsArgument s pid 0 at → IsArgument s pid 1 len → (m : Machine) (v : View) → seen_in s.guests pid ≡ Some v → by_path m.kernel v at len false (unlink_on at len m v) ≡ unlink_row m pid v
unlink-by s pid at len first second m v sees =
    let by : Bool → ℕ → ℕ → Request = λ x a l. unless_refused m.kernel (refuse BAD_ARGUMENT x ∷ refuse BAD_ADDRESS (not (can_reach v a l)) ∷ []) (unlink_on a l m v) in
    let a0 = argument v.body.cpu 0 in
    ap (λ (x : Bool). by x at len) (or-false (isnt_path_len len))
    ∙ ap (λ (a : ℕ). by (isnt_path_len len) a len) (argument-is s pid 0 at v sees first)
    ∙ ap (λ (l : ℕ). by (isnt_path_len l) a0 l) (argument-is s pid 1 len v sees second)

-- the path that was read
pub path-is : (k : Inside) (s : State) (pid at len : ℕ) (path : List ℕ) → state_of k ≡ s → IfSome (seen_in k.bodies pid) (λ v. path ≡ path_of v at len) → (v : View) → seen_in s.guests pid ≡ Some v → path ≡ path_of v at len
path-is k s pid at len path is named v sees =
    at-seen (seen_in s.guests pid) v (λ (w : View). path ≡ path_of w at len) sees (subst (λ (x : State). IfSome (seen_in x.guests pid) (λ w. path ≡ path_of w at len)) is named)

-- the file of a path is opened, or a new one is made
pub found-goes : (pid at len mode : ℕ) (path : List ℕ) → mode ≡ 0 → (m : Machine) (v : View) → path ≡ path_of v at len → open_found m pid path (find_file m.kernel.files path) ≡ open_on pid at len mode m v
found-goes pid at len mode path zero m v named =
    ap (λ (p : List ℕ). open_found m pid p (find_file m.kernel.files p)) named ∙ ap (λ (n : ℕ). open_on pid at len n m v) (sym zero)

pub new-goes : (pid at len mode : ℕ) (path : List ℕ) → (mode ≡ 0 → ⊥) → (m : Machine) (v : View) → path ≡ path_of v at len → open_new m pid path ≡ open_on pid at len mode m v
new-goes pid at len mode path some m v named =
    ap (open_new m pid) named
    ∙ ap (λ (b : Bool). if b then open_found m pid (path_of v at len) (find_file m.kernel.files (path_of v at len)) else open_new m pid (path_of v at len)) (sym (ne_eqb mode 0 some))

-- a process lacks its argument block, or it does not
pub exec-lacks : (k : Inside) (s : State) (pid at len block block_len answer : ℕ) (lacks : Bool) → state_of k ≡ s → IfSome (seen_in k.bodies pid) (λ v. lacks ≡ (nat_lt 0 block_len && not (can_reach v block block_len))) → lacks ≡ true → answer ≡ error BAD_ADDRESS → (m : Machine) (v : View) → seen_in s.guests pid ≡ Some v → returns answer m.kernel ≡ exec_on pid at len block block_len m v
exec-lacks k s pid at len block block_len answer lacks is told lacking numbered m v sees =
    let block-is : lacks ≡ (nat_lt 0 block_len && not (can_reach v block block_len)) = at-seen (seen_in s.guests pid) v (λ (w : View). lacks ≡ (nat_lt 0 block_len && not (can_reach w block block_len))) sees (subst (λ (x : State). IfSome (seen_in x.guests pid) (λ w. lacks ≡ (nat_lt 0 block_len && not (can_reach w block block_len)))) is told) in
    ap (λ (a : ℕ). returns a m.kernel) numbered
    ∙ ap (λ (b : Bool). unless_refused m.kernel (refuse BAD_ADDRESS b ∷ []) (exec_file m pid v (find_file m.kernel.files (path_of v at len)))) (sym lacking ∙ block-is)

pub exec-goes : (k : Inside) (s : State) (pid at len block block_len : ℕ) (path given : List ℕ) (lacks : Bool) → state_of k ≡ s → IfSome (seen_in k.bodies pid) (λ v. lacks ≡ (nat_lt 0 block_len && not (can_reach v block block_len))) → lacks ≡ false → IfSome (seen_in k.bodies pid) (λ v. path ≡ path_of v at len) → given ≡ path → (m : Machine) (v : View) → seen_in s.guests pid ≡ Some v → exec_file m pid v (find_file m.kernel.files given) ≡ exec_on pid at len block block_len m v
exec-goes k s pid at len block block_len path given lacks is told having named gives m v sees =
    let block-is : lacks ≡ (nat_lt 0 block_len && not (can_reach v block block_len)) = at-seen (seen_in s.guests pid) v (λ (w : View). lacks ≡ (nat_lt 0 block_len && not (can_reach w block block_len))) sees (subst (λ (x : State). IfSome (seen_in x.guests pid) (λ w. lacks ≡ (nat_lt 0 block_len && not (can_reach w block block_len)))) is told) in
    ap (λ (p : List ℕ). exec_file m pid v (find_file m.kernel.files p)) (gives ∙ path-is k s pid at len path is named v sees)
    ∙ ap (λ (b : Bool). unless_refused m.kernel (refuse BAD_ADDRESS b ∷ []) (exec_file m pid v (find_file m.kernel.files (path_of v at len)))) (sym having ∙ block-is)
