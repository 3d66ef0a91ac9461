-- Process 1 among no others.
use Rattle.std.proofs.Common.{◌≡◌, ◌≢◌, ℕ, zero, suc, ◌==◌, Bool, true, false, List, [], length, Option, Some, None, IfSome, is_some, refl, sym, ap, ◌∙◌, subst, true≢false}
use Rattle.std.specs.Prelude.{IsNone, nat_lt}
use Rattle.std.proofs.lemmas.Bool.{eqb-true, eqb-false}
use Rattle.parts_model.specs.Files.{Files}
use Rattle.parts_model.specs.Numbered.{nth}
use Rattle.parts_model.specs.Processes.{Process, Processes, live_process, process}
use Rattle.arn_model.specs.Kernel.{Opened}
use Rattle.guest_bodies.specs.Follows.{SetsWatch}
use Rattle.guest_bodies.specs.Shown.{Guests, fresh_watch}
use Rattle.guest_calls.specs.Kept.{IsFull, IsKept, IsPast, IsSound}
use Rattle.guest_calls.specs.Starts.{first_processes}
use Rattle.guest_calls.specs.declared.kernel.Kernel.TheInside.{Inside}
use Rattle.guest_calls.proofs.Ends.{if_live}
use Rattle.guest_calls.proofs.Watches.{live-same, live-watch}

none-live : (all : Processes) (p : ℕ) → all ≡ [] → is_some (live_process all p) ≡ false
none-live all p none = ap (λ (x : Processes). is_some (live_process x p)) none ∙ nobody p
  where
    nobody : (q : ℕ) → is_some (live_process [] q) ≡ false
    nobody zero = refl
    nobody (suc i) = refl

-- before any process, there is no body and nothing is open
module _ (k : Inside) (kept : IsKept k) (none : k.procs ≡ []) where
  absent : {A : Type 0} (o : Option A) → is_some o ≡ false → IsNone o
  absent None is = refl
  absent (Some x) is = absurd (true≢false is)

  pub no-body : (p : ℕ) → IsNone (nth k.bodies p)
  no-body p = absent (nth k.bodies p) (kept.alive p ∙ none-live k.procs p none)

  pub none-open : k.resources.descriptions ≡ []
  none-open = kept.closed (kept.made ∙ ap (λ (all : Processes). nat_lt 0 (length all)) none)

first-other : (p : ℕ) → p ≢ 1 → process first_processes p ≡ None
first-other zero other = refl
first-other (suc zero) other = absurd (other refl)
first-other (suc (suc i)) other = refl

module _ (k : Inside) (new : Guests) (kept : IsKept k) (none : k.procs ≡ []) (sets : SetsWatch 1 (Some fresh_watch) k.bodies new) where
  alive-at : (q : ℕ) (own : Bool) → (q == 1) ≡ own → is_some (nth new q) ≡ is_some (live_process first_processes q)
  alive-at q true e =
      subst (λ (i : ℕ). is_some (nth new i) ≡ is_some (live_process first_processes i)) (sym (eqb-true q 1 e)) (live-watch new 1 ∙ ap is_some sets.own)
  alive-at q false e =
      live-same k.bodies new q (sets.kept q (eqb-false q 1 e))
      ∙ (kept.alive q
      ∙ (none-live k.procs q none ∙ sym (ap (λ (x : Option Process). is_some (if_live x)) (first-other q (eqb-false q 1 e)))))

  full-at : (q : ℕ) (own : Bool) → (q == 1) ≡ own → IfSome (process first_processes q) IsFull
  full-at q true e = subst (λ (i : ℕ). IfSome (process first_processes i) IsFull) (sym (eqb-true q 1 e)) refl
  full-at q false e = subst (λ (x : Option Process). IfSome x IsFull) (sym (first-other q (eqb-false q 1 e))) tt

  pub begun-sound : (procs : Processes) (files : Files) (ds : List (Option Opened)) (events : ℕ) → procs ≡ first_processes → IsPast new events → IsSound new procs files ds true events
  begun-sound procs files ds events are past =
      subst (λ (x : Processes). IsSound new x files ds true events) (sym are) (record {
        made = refl;
        alive = λ q. alive-at q (q == 1) refl;
        full = λ q. full-at q (q == 1) refl;
        before = λ early. absurd (true≢false early);
        closed = λ early. absurd (true≢false early);
        past = past;
      })
