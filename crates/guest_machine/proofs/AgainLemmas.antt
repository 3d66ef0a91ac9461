-- Inputs that records name, run again: refused ones do nothing, and devices answer as records say.
use Rattle.std.proofs.Common.{◌≡◌, ◌⊎◌, inl, inr, ℕ, zero, suc, ◌+◌, ◌≤◌, ◌++◌, Bool, true, false, cond, nat_lt, List, [], ◌∷◌, length, Option, None, Some, option_map, OnOk, Result, refl, sym, ap, subst, ◌∙◌, arith, append-nil}
use Rattle.std.specs.Prelude.{count_by}
use Rattle.std.proofs.lemmas.Bool.Decides.{nat_tests}
use Rattle.arn_base.specs.declared.records.Extra.{Extra}
use Rattle.arn_base.specs.declared.records.Record.{Record}
use Rattle.arn_base.specs.declared.records.Record.TheVariants as entry
use Rattle.parts_model.specs.Replies.{Answered}
use Rattle.acts_model.specs.Bodies.{View, seen}
use Rattle.arn_model.specs.Kernel.{Machine}
use Rattle.arn_model.specs.Laws.{RequestsAreBounded}
use Rattle.arn_model.specs.Parts.{TurnsHaveParts, one_if_some}
use Rattle.arn_model.specs.Run.{Input, Slice, input_steps, instructions_in, steps_from}
use Rattle.rv64_model.specs.Instruction.{Effect, Next, Call, End}
use Rattle.acts_model.specs.Views.{stands_at}
use Rattle.arn_model.specs.Doing.{Request, Waits, Does, Asks}
use Rattle.arn_model.specs.Row.{does, request}
use Rattle.log_model.specs.Records.{reply_behind, slice_records}
use Rattle.arn_model.specs.Step.{Step, call_step, last_by}
use Rattle.arn_model.specs.Turn.{Turn, after_steps, is_possible, last_in, last_of, plain_in, plains, steps_of, steps_then, turn}
use Rattle.guest_bodies.specs.Shown.{IsLive}
use Rattle.guest_devices.specs.Answers.{Asked}
use Rattle.guest_devices.specs.Told.{CountsHere, CountsReads}
use Rattle.guest_calls.specs.State.{StandsFor}
use Rattle.guest_machine.specs.Again.{is_slice, named_first}
use Rattle.guest_machine.specs.Recorded.{OfEach, Recorded, Runs}
use Rattle.guest_machine.specs.Slices.{Begun, CanTake, IsCut, IsPart, RanSlice, Unbegun, delivered}
use Rattle.guest_machine.proofs.RunsLemmas.{Runs-none, Runs-one}
use Rattle.guest_machine.proofs.SliceLemmas.{can-turn}
use Rattle.guest_machine.proofs.ToldLemmas.{Tells, turn-told}
use Rattle.guest_machine.proofs.TurnLemmas.{sees}

-- a slice in which devices answered as a record tells
told-steps : RequestsAreBounded → CountsHere → CountsReads → {A : Type 0} (answers : A → Asked → Answered → A → Type 0) (reply : Option Answered) (asked asked' : A) → Tells reply answers asked → (m : Machine) (pid count : ℕ) (r r' : Recorded) (out out' : List Record) → (s : RanSlice answers m pid count asked asked' r r' out out') → input_steps m (Slice pid count s.reply) ≡ input_steps m (Slice pid count reply)
told-steps bounded here reads answers reply asked asked' tells m pid count r r' out out' s =
    ap (λ (t : Turn). cond (is_possible m pid count) (steps_of t) []) (turn-told bounded here reads answers reply asked tells m pid count s.reply asked' s.replied)

pub told-Runs : RequestsAreBounded → CountsHere → CountsReads → {A : Type 0} (answers : A → Asked → Answered → A → Type 0) (reply : Option Answered) (asked asked' : A) → Tells reply answers asked → (pid count : ℕ) (r r' : Recorded) (out out' : List Record) → OfEach r.kernel (λ m. RanSlice answers m pid count asked asked' r r' out out') → OfEach r.kernel (λ m. Runs m (Slice pid count reply ∷ []) r r' out out')
told-Runs bounded here reads answers reply asked asked' tells pid count r r' out out' ran m stands =
    let s = ran m stands in
    let steps = input_steps m (Slice pid count s.reply) in
    let same = told-steps bounded here reads answers reply asked asked' tells m pid count r r' out out' s in
    let one : steps_from m (Slice pid count s.reply ∷ []) ≡ steps = append-nil steps in
    Runs-one m (Slice pid count reply) steps r r' out out' (sym same) s.runs.leads
    (s.runs.counted ∙ ap (λ (xs : List Step). r.instructions + instructions_in xs) one)
    (s.runs.recorded ∙ ap (λ (entries : List Record). out ++ entries) (append-nil (slice_records pid steps)))

-- how many steps it took
pub told-few : RequestsAreBounded → CountsHere → CountsReads → {A : Type 0} (answers : A → Asked → Answered → A → Type 0) (reply : Option Answered) (asked asked' : A) → Tells reply answers asked → (pid count : ℕ) (r r' : Recorded) (out out' : List Record) (steps steps' : ℕ) → OfEach r.kernel (λ m. RanSlice answers m pid count asked asked' r r' out out')
    → steps' + r.instructions ≤ steps + r'.instructions + 1 → OfEach r.kernel (λ m. steps' ≤ steps + instructions_in (input_steps m (Slice pid count reply)) + 1)
told-few bounded here reads answers reply asked asked' tells pid count r r' out out' steps steps' ran few m stands =
    let s = ran m stands in
    let same = ap instructions_in (told-steps bounded here reads answers reply asked asked' tells m pid count r r' out out' s) in
    let one = ap instructions_in (append-nil (input_steps m (Slice pid count s.reply))) in
    omega (arith, few, s.runs.counted, same, one)

-- up to fewer instructions as many ran, or the same
then-grown : (o : Option Step) (k n pid : ℕ) → ((m : Machine) → ((length (plains k pid m) ≡ k) × (k ≤ length (plains n pid m))) ⊎ (plains k pid m ≡ plains n pid m))
    → ((length (steps_then o (plains k pid)) ≡ suc k) × (suc k ≤ length (steps_then o (plains n pid)))) ⊎ (steps_then o (plains k pid) ≡ steps_then o (plains n pid))
then-grown None k n pid grown = inr refl
then-grown (Some s) k n pid grown = by (grown s.after)
  where
    by : ((length (plains k pid s.after) ≡ k) × (k ≤ length (plains n pid s.after))) ⊎ (plains k pid s.after ≡ plains n pid s.after) → ((length (s ∷ plains k pid s.after) ≡ suc k) × (suc k ≤ length (s ∷ plains n pid s.after))) ⊎ (s ∷ plains k pid s.after ≡ s ∷ plains n pid s.after)
    by (inl full) = inl (omega (arith, full.0), omega (arith, full.1))
    by (inr same) = inr (ap (λ (steps : List Step). s ∷ steps) same)

plains-grown : (k n pid : ℕ) → k ≤ n → (m : Machine) → ((length (plains k pid m) ≡ k) × (k ≤ length (plains n pid m))) ⊎ (plains k pid m ≡ plains n pid m)
plains-grown zero n pid few m = inl (refl, omega arith)
plains-grown (suc k) zero pid few m = absurd (omega (arith, few))
plains-grown (suc k) (suc n) pid few m = then-grown (plain_in m pid (seen m.bodies pid)) k n pid (plains-grown k n pid (omega (arith, few)))

-- there is a last step by any reply
does-some : (m : Machine) (pid : ℕ) (v : View) (a b : Option Answered) (r : Request) → one_if_some (option_map (call_step m pid v) (does m pid v a r)) ≡ one_if_some (option_map (call_step m pid v) (does m pid v b r))
does-some m pid v a b Waits = refl
does-some m pid v a b (Does d) = refl
does-some m pid v a b (Asks question) = refl

by-some : (m : Machine) (pid : ℕ) (v : View) (a b : Option Answered) (e : Effect) → one_if_some (last_by m pid v a e) ≡ one_if_some (last_by m pid v b e)
by-some m pid v a b (Next instr cpu memory) = refl
by-some m pid v a b Call = does-some m pid v a b (request m pid v)
by-some m pid v a b (End status) = refl

last-some : (m : Machine) (pid : ℕ) (a b : Option Answered) (o : Option View) → one_if_some (last_in m pid a o) ≡ one_if_some (last_in m pid b o)
last-some m pid a b None = refl
last-some m pid a b (Some v) = by-some m pid v a b (stands_at v)

last-fewer : (p q : Bool) (x y : Option Step) → (p ≡ true → q ≡ true) → one_if_some x ≡ one_if_some y → one_if_some (cond p x None) ≤ one_if_some (cond q y None)
last-fewer false q x y then_ same = omega arith
last-fewer true true x y then_ same = omega (arith, same)
last-fewer true false x y then_ same = absurd (no_true (then_ refl))
  where
    no_true : false ≡ true → ⊥
    no_true is = cc

later : (len k n : ℕ) → k ≤ n → nat_lt len k ≡ true → nat_lt len n ≡ true
later len k n few is = grind (arith, nat_tests)

none-last : (len k : ℕ) (o : Option Step) → len ≡ k → one_if_some (cond (nat_lt len k) o None) ≡ 0
none-last len k o is =
    let spent : nat_lt len k ≡ false = grind (arith, nat_tests) in
    ap (λ (b : Bool). one_if_some (cond b o None)) spent

-- a turn for fewer instructions runs no more
turn-fewer : TurnsHaveParts → (m : Machine) (pid k n : ℕ) (a b : Option Answered) → k ≤ n → instructions_in (steps_of (turn k pid a m)) ≤ instructions_in (steps_of (turn n pid b m))
turn-fewer parts m pid k n a b few = by (plains-grown k n pid few (delivered pid m))
  where
    by : ((length (plains k pid (delivered pid m)) ≡ k) × (k ≤ length (plains n pid (delivered pid m)))) ⊎ (plains k pid (delivered pid m) ≡ plains n pid (delivered pid m)) → instructions_in (steps_of (turn k pid a m)) ≤ instructions_in (steps_of (turn n pid b m))
    by (inl full) =
        let m1 = delivered pid m in
        let m2 = after_steps m1 (plains k pid m1) in
        let last = none-last (length (plains k pid m1)) k (last_in m2 pid a (seen m2.bodies pid)) full.0 in
        omega (arith, (parts k pid a m).instructions, (parts n pid b m).instructions, full.0, full.1, last)
    by (inr same) =
        let m1 = delivered pid m in
        let plain = plains n pid m1 in
        let m2 = after_steps m1 plain in
        let fewer = last-fewer (nat_lt (length plain) k) (nat_lt (length plain) n) (last_in m2 pid a (seen m2.bodies pid)) (last_in m2 pid b (seen m2.bodies pid)) (later (length plain) k n few) (last-some m2 pid a b (seen m2.bodies pid)) in
        let one = ap (λ (steps : List Step). one_if_some (last_of k pid a m1 steps)) same in
        let long = ap length same in
        omega (arith, (parts k pid a m).instructions, (parts n pid b m).instructions, fewer, one, long)

-- so a part of a slice takes no more steps than the whole
pub cut-few : TurnsHaveParts → (pid count : ℕ) (reply : Option Answered) (r r' : Recorded) (out out' : List Record) (steps steps' : ℕ) → IsLive r.kernel.guests pid → OfEach r.kernel (λ m. CanTake m pid count) → OfEach r.kernel (λ m. IsCut m pid count r r' out out')
    → steps' + r.instructions ≤ steps + r'.instructions + 1 → OfEach r.kernel (λ m. steps' ≤ steps + instructions_in (input_steps m (Slice pid count reply)) + 1)
cut-few parts pid count reply r r' out out' steps steps' live can cut few m stands = by (cut m stands).inputs (cut m stands).part (cut m stands).runs
  where
    by : (inputs : List Input) → IsPart pid count inputs → Runs m inputs r r' out out' → steps' ≤ steps + instructions_in (input_steps m (Slice pid count reply)) + 1
    by inputs Unbegun runs = omega (arith, few, runs.counted)
    by inputs (Begun k within) runs =
        let v = sees r.kernel m pid stands live in
        let part = ap instructions_in (append-nil (input_steps m (Slice pid k None)) ∙ can-turn m pid count k v.0 None v.1 (can m stands) (omega (arith, within))) in
        let whole = ap instructions_in (can-turn m pid count count v.0 reply v.1 (can m stands) (omega arith)) in
        omega (arith, few, runs.counted, part, whole, turn-fewer parts m pid k count None reply (omega (arith, within)))

-- the input that a record names has run
pub Runs-named : {T E : Type 0} (done : Result T E) (e named : Record) (behind : List Record) (r r' : Recorded) (out out' : List Record) → e ≡ named → OnOk done (OfEach r.kernel (λ m. Runs m (named_first named behind) r r' out out'))
    → OnOk done (OfEach r.kernel (λ m. Runs m (named_first e behind) r r' out out'))
Runs-named done e named behind r r' out out' is runs = subst (λ (x : Record). OnOk done (OfEach r.kernel (λ m. Runs m (named_first x behind) r r' out out'))) (sym is) runs

-- or it names none
pub Runs-unnamed : (m : Machine) (e : Record) (behind : List Record) (r : Recorded) (out : List Record) → named_first e behind ≡ [] → StandsFor r.kernel m → Runs m (named_first e behind) r r out out
Runs-unnamed m e behind r out none stands = subst (λ (inputs : List Input). Runs m inputs r r out out) (sym none) (Runs-none m r out stands)

pub unnamed : (e : Record) (behind : List Record) → ((pid : ℕ) × (signal : ℕ) × (cut : Bool) × (handler : ℕ) × e ≡ entry.Signal pid signal cut handler) ⊎ (((pid : ℕ) × (number : ℕ) × (answer : ℕ) × (did : Extra) × e ≡ entry.Call pid number answer did) ⊎ ((pid : ℕ) × (status : ℕ) × e ≡ entry.End pid status))
    → named_first e behind ≡ []
unnamed e behind (inl s) = ap (λ (x : Record). named_first x behind) s.4
unnamed e behind (inr (inl s)) = ap (λ (x : Record). named_first x behind) s.4
unnamed e behind (inr (inr s)) = ap (λ (x : Record). named_first x behind) s.2

-- how many steps a slice took that a record names
pub steps-of-slice : (m : Machine) (e : Record) (pid ran : ℕ) (behind : List Record) (steps steps' : ℕ) → e ≡ entry.Slice pid ran → steps' ≤ steps + instructions_in (input_steps m (Slice pid ran (reply_behind behind))) + 1
    → steps' ≤ steps + instructions_in (steps_from m (named_first e behind)) + count_by is_slice (e ∷ [])
steps-of-slice m e pid ran behind steps steps' is few =
    subst (λ (x : Record). steps' ≤ steps + instructions_in (steps_from m (named_first x behind)) + count_by is_slice (x ∷ [])) (sym is)
    (omega (arith, few, ap instructions_in (append-nil (input_steps m (Slice pid ran (reply_behind behind))))))
