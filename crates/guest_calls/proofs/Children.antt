-- A child that is gone.
use Rattle.std.proofs.Common.{◌≡◌, ℕ, zero, suc, ◌==◌, Bool, true, false, List, [], ◌∷◌, length, set, Option, None, Some, IfSome, is_some, refl, sym, ap, ◌∙◌, subst}
use Rattle.std.specs.Prelude.{nat_lt, option_and_then}
use Rattle.std.proofs.lemmas.Bool.{eqb-true, eqb-false}
use Rattle.std.proofs.lemmas.List.{length-set}
use Rattle.parts_model.specs.declared.tagged.TaggedByte.{TaggedByte}
use Rattle.parts_model.specs.Numbered.{nth}
use Rattle.parts_model.specs.Processes.{Life, Live, Ended, Process, Processes, live_process, process, reaped, status_in, status_of}
use Rattle.guest_calls.specs.Kept.{IsFull, IsKept, IsSound}
use Rattle.guest_calls.specs.declared.kernel.Kernel.TheInside.{Inside}
use Rattle.guest_calls.proofs.Ends.{if_live, with_process-other}

-- a child that has ended doesn't live
ended-dead : (x : Option Process) (status : TaggedByte) → option_and_then (λ p. status_in p.life) x ≡ Some status → is_some (if_live x) ≡ false
ended-dead None status is = refl
ended-dead (Some p) status is = by p.life p.parent p.descriptors is
  where
    by : (state : Life) (parent : Option ℕ) (descriptors : List (Option ℕ)) → status_in state ≡ Some status → is_some (if_live (Some (record { life = state; parent = parent; descriptors = descriptors }))) ≡ false
    by Live parent descriptors is = cc
    by (Ended s) parent descriptors is = refl

no-process : (all : Processes) (pid : ℕ) → process (reaped all pid) pid ≡ None
no-process all zero = refl
no-process all (suc i) = nth-none all i
  where
    nth-none : (xs : Processes) (n : ℕ) → nth (set xs n None) n ≡ None
    nth-none [] n = refl
    nth-none (x ∷ xs) zero = refl
    nth-none (x ∷ xs) (suc n) = nth-none xs n

length-reaped : (all : Processes) (pid : ℕ) → length (reaped all pid) ≡ length all
length-reaped all zero = refl
length-reaped all (suc i) = length-set all i None

module _ (k : Inside) (child : ℕ) (status : TaggedByte) (ended : status_of k.procs child ≡ Some status) (kept : IsKept k) where
  alive-at : (q : ℕ) (b : Bool) → (q == child) ≡ b → is_some (nth k.bodies q) ≡ is_some (live_process (reaped k.procs child) q)
  alive-at q true e =
      subst (λ (i : ℕ). is_some (nth k.bodies i) ≡ is_some (live_process (reaped k.procs child) i)) (sym (eqb-true q child e))
      (kept.alive child ∙ (ended-dead (process k.procs child) status ended ∙ sym (ap (λ (x : Option Process). is_some (if_live x)) (no-process k.procs child))))
  alive-at q false e = kept.alive q ∙ sym (ap (λ (x : Option Process). is_some (if_live x)) (with_process-other k.procs child None q (eqb-false q child e)))

  full-at : (q : ℕ) (b : Bool) → (q == child) ≡ b → IfSome (process (reaped k.procs child) q) IsFull
  full-at q true e =
      subst (λ (i : ℕ). IfSome (process (reaped k.procs child) i) IsFull) (sym (eqb-true q child e))
      (subst (λ (x : Option Process). IfSome x IsFull) (sym (no-process k.procs child)) tt)
  full-at q false e = subst (λ (x : Option Process). IfSome x IsFull) (sym (with_process-other k.procs child None q (eqb-false q child e))) (kept.full q)

  pub reaped-sound : IsSound k.bodies (reaped k.procs child) k.resources.files k.resources.descriptions k.booted k.events
  reaped-sound =
      record {
        made = kept.made ∙ ap (nat_lt 0) (sym (length-reaped k.procs child));
        alive = λ q. alive-at q (q == child) refl;
        full = λ q. full-at q (q == child) refl;
        before = kept.before;
        closed = kept.closed;
        past = kept.past;
      }
