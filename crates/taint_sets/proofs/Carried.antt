-- Numbers of sets that are carried over.
use Rattle.std.proofs.Common.{zero, suc, ◌++◌, drop, replicate, slice_get, take, Some, Result, Ok, Err, IfOk, ◌≡◌, ℕ, ◌+◌, ◌<◌, ◌≤◌, nat_lt, Bool, true, false, List, [], length, Option, unwrap_or, is_some, refl, sym, ap, subst, ◌∙◌, arith}
use Rattle.std.proofs.Math.Seq.{take-append_seam}
use Rattle.arn_base.specs.declared.errors.NoMemory.{NoMemory}
use Rattle.set_store.specs.Carried.{AreCarried}
use Rattle.std.proofs.lemmas.Bool.{ltb-true, ltb-false}
use Rattle.set_store.specs.declared.item.Item.{Item}
use Rattle.set_store.specs.Sets as stored
use Rattle.taint_sets.specs.declared.run.Run.{Run}
use Rattle.taint_sets.specs.Numbered.{IsSet, Numbered, first_received, members_of, set_at}
use Rattle.taint_sets.specs.Carried.{Carried, CarriesOn, HasNumber}
use Rattle.taint_sets.proofs.Standing.{kept-grown, kept-members, kept-set, received-at}

-- sets with the same received bytes
abbrev pub carried : List (List Item) → List (List Item) → List Run → Carried
carried from into runs = record { from = record { kept = from; runs = runs }; into = record { kept = into; runs = runs } }

-- a number that stands for the same
same-at : (old new : Numbered) (number : ℕ) → set_at new number ≡ set_at old number → (IsSet old number → IsSet new number) × (members_of new number ≡ members_of old number)
unfolding IsSet members_of
same-at old new number e = (λ is. ap (λ (o : Option (List Item)). is_some o) e ∙ is, ap (λ (o : Option (List Item)). unwrap_or o []) e)

module _ (from into : List (List Item)) (runs : List Run) where
  -- a received byte keeps its number
  pub received-stays : (number : ℕ) → first_received ≤ number → HasNumber (carried from into runs) number number
  received-stays number large =
      let fresh : Numbered = record { kept = into; runs = runs } in
      let before : Numbered = record { kept = from; runs = runs } in
      let is = same-at before fresh number (received-at fresh number large ∙ sym (received-at before number large)) in
      record { there = is.0; same = is.1; given = λ small. absurd (omega arith) }

  -- a set that is kept has one
  pub kept-has : (was is : ℕ) → was < first_received → is < first_received → stored.IsSet into is → stored.members_of into is ≡ stored.members_of from was → HasNumber (carried from into runs) was is
  kept-has was is low small there same =
      let fresh = kept-set (record { kept = into; runs = runs }) is small there in
      record {
        there = λ set. fresh.0;
        same = fresh.1 ∙ same ∙ sym (kept-members (record { kept = from; runs = runs }) was low);
        given = λ s. fresh.0;
      }

  -- as it was carried over
  pub has-carried : (r : Result ℕ NoMemory) (was : ℕ) → was < first_received → IfOk r (λ is. is < first_received) → IfOk r (stored.IsSet into) → IfOk r (λ is. stored.members_of into is ≡ stored.members_of from was) → IfOk r (HasNumber (carried from into runs) was)
  has-carried (Ok is) was low small there same = kept-has was is low small there same
  has-carried (Err e) was low small there same = tt

-- none is carried over yet
zeros : (n s number : ℕ) → slice_get (replicate n 0) s ≡ Some number → number ≡ 0
zeros zero s number e = absurd (cc)
zeros (suc n) zero number e = cc
zeros (suc n) (suc s) number e = zeros n s number e

pub none-carried : (from into : List (List Item)) (numbers : List ℕ) (n : ℕ) → numbers ≡ replicate n 0 → AreCarried from into numbers
none-carried from into numbers n e s number at some = let none = zeros n s number (ap (λ (l : List ℕ). slice_get l s) (sym e) ∙ at) in absurd (omega (arith, none, some))

pub slice-back : {X : Type 0} (n : ℕ) (old new : List X) → length new ≡ n → take n (new ++ drop (length new) old) ≡ new
slice-back n old new e = subst (λ k. take k (new ++ drop (length new) old) ≡ new) e (take-append_seam new (drop (length new) old))

-- more sets are kept
pub goes-on : (from old new : List (List Item)) (runs : List Run) → stored.StandAsBefore old new → CarriesOn (carried from old runs) (carried from new runs)
goes-on from old new runs stand = record { from = refl; stands = kept-grown old new runs stand; still = still }
  where
    still : (was is : ℕ) → HasNumber (carried from old runs) was is → HasNumber (carried from new runs) was is
    still was is h = record {
      there = λ set. (kept-grown old new runs stand).there is (h.there set);
      same = by (nat_lt is first_received) refl ∙ h.same;
      given = λ small. (kept-grown old new runs stand).there is (h.given small);
    }
      where
        by : (b : Bool) → nat_lt is first_received ≡ b → members_of (record { kept = new; runs = runs }) is ≡ members_of (record { kept = old; runs = runs }) is
        by true e =
            (kept-grown old new runs stand).same is (h.given (ltb-true is first_received e))
        by false e =
            let large = ltb-false is first_received e in
            (same-at (record { kept = old; runs = runs }) (record { kept = new; runs = runs }) is
            (received-at (record { kept = new; runs = runs }) is large ∙ sym (received-at (record { kept = old; runs = runs }) is large))).1
