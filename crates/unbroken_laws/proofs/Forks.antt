-- What a call comes to that forks.
use Rattle.std.proofs.Common.{◌≡◌, ℕ, ◌+◌, ◌==◌, Bool, true, false, cond, if◌then◌else◌, length, Option, None, Some, refl, sym, subst, eqb-true}
use Rattle.arn_base.specs.declared.records.Extra.{Extra}
use Rattle.arn_base.specs.declared.records.Extra.TheVariants as extra
use Rattle.parts_model.specs.declared.calls.TheConstants.{FORK}
use Rattle.parts_model.specs.declared.refusals.TheConstants.{NO_PROCESS_ROOM, NO_SUCH_CALL}
use Rattle.parts_model.specs.Processes as table
use Rattle.parts_model.specs.Replies.{Answered, is_success}
use Rattle.acts_model.specs.Acts.{result_of, beginning_of, start_of}
use Rattle.acts_model.specs.Bodies.{View}
use Rattle.acts_model.specs.Views.{call_number, error}
use Rattle.arn_model.specs.Doing.{Doing, Request, Waits, Does, Asks, refused}
use Rattle.arn_model.specs.Kernel.{Machine}
use Rattle.arn_model.specs.Laws.{NoStart, ProcessesCount}
use Rattle.arn_model.specs.ProcessCalls.{child_act, child_extra, fork_row}
use Rattle.arn_model.specs.Row.{row, request, is_built, does}

-- a fork makes a child, or is refused
abbrev pub IsStartOf : View → Extra → Type 0
IsStartOf v (extra.Start start) = start ≡ start_of (beginning_of v)
IsStartOf v more = Unit {0}

pub data ForkDoes (m : Machine) (v : View) (d : Doing) : Type 0 where
  Refuses : length d.kernel.processes ≡ length m.kernel.processes → NoStart d.extra → is_success (result_of d.act) ≡ false → ForkDoes m v d
  Makes : result_of d.act ≡ length m.kernel.processes + 1 → length d.kernel.processes ≡ length m.kernel.processes + 1 → IsStartOf v d.extra → ForkDoes m v d

abbrev pub Forking : Machine → View → Request → Type 0
Forking m v Waits = Unit {0}
Forking m v (Does d) = ForkDoes m v d
Forking m v (Asks question) = ⊥

if-Forking : (m : Machine) (v : View) (b : Bool) (x y : Request) → Forking m v x → Forking m v y → Forking m v (cond b x y)
if-Forking m v true x y is is' = is
if-Forking m v false x y is is' = is'

refused-Forking : (m : Machine) (v : View) (number : ℕ) → is_success (error number) ≡ false → Forking m v (refused number m.kernel)
refused-Forking m v number e = Refuses refl tt e

child-result : (segment : Option ℕ) (child : ℕ) → result_of (child_act segment child) ≡ child
child-result None child = refl
child-result (Some made) child = refl

child-start : (segment : Option ℕ) (v : View) → IsStartOf v (child_extra segment v)
child-start None v = refl
child-start (Some made) v = tt

fork-Forking : ProcessesCount → (m : Machine) (pid : ℕ) (v : View) → Forking m v (fork_row m pid v)
fork-Forking counts m pid v =
    if-Forking m v (table.is_full m.kernel.processes) (refused NO_PROCESS_ROOM m.kernel) _ (refused-Forking m v NO_PROCESS_ROOM refl)
    (Makes (child-result v.body.segment (table.next_process m.kernel.processes)) (counts.after_fork pid m.kernel) (child-start v.body.segment v))

row-Forking : ProcessesCount → (m : Machine) (pid : ℕ) (v : View) → Forking m v (row FORK m pid v)
unfolding row
row-Forking counts m pid v = fork-Forking counts m pid v

request-Forking : ProcessesCount → (m : Machine) (pid : ℕ) (v : View) (b : Bool) → Forking m v (if b then row FORK m pid v else refused NO_SUCH_CALL m.kernel)
request-Forking counts m pid v b = if-Forking m v b _ _ (row-Forking counts m pid v) (refused-Forking m v NO_SUCH_CALL refl)

does-forks : (m : Machine) (pid : ℕ) (v : View) (reply : Option Answered) (r : Request) → Forking m v r → (d : Doing) → does m pid v reply r ≡ Some d → ForkDoes m v d
does-forks m pid v reply Waits is d e = absurd (cc)
does-forks m pid v reply (Does x) is d e = let same : x ≡ d = cc in subst (ForkDoes m v) same is
does-forks m pid v reply (Asks question) is d e = absurd is

pub call-forks : ProcessesCount → (m : Machine) (pid : ℕ) (v : View) (reply : Option Answered) (d : Doing) → (call_number v.body.cpu == FORK) ≡ true → does m pid v reply (request m pid v) ≡ Some d → ForkDoes m v d
call-forks counts m pid v reply d fork e =
    let n = call_number v.body.cpu in
    let forking : Forking m v (request m pid v) = subst (λ (i : ℕ). Forking m v (if is_built n then row i m pid v else refused NO_SUCH_CALL m.kernel)) (sym (eqb-true n FORK fork)) (request-Forking counts m pid v (is_built n)) in
    does-forks m pid v reply (request m pid v) forking d e
