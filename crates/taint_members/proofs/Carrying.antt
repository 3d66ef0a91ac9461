-- A member whose sets are carried over.
use Rattle.std.proofs.Common.{List, OnOk, Result, Ok, Err, refl, ◌∙◌, ℕ}
use Rattle.taint_members.specs.declared.member.MemberSets.{MemberSets}
use Rattle.taint_members.specs.Carried.{CarriesMember}
use Rattle.taint_spans.specs.Carried.{Carried, CarriesOn, HaveNumbers}

-- what was carried over stays so
have-still : (a b : Carried) (was is : List ℕ) → CarriesOn a b → HaveNumbers a was is → HaveNumbers b was is
have-still a b was is on h = record { len = h.len; each = λ k below. on.still _ _ (h.each k below) }

pub on-twice : (a b c : Carried) → CarriesOn a b → CarriesOn b c → CarriesOn a c
on-twice a b c f g = record { from = g.from ∙ f.from; still = λ was is h. g.still was is (f.still was is h) }

-- registers and slot one after the other
pub member-carried : {X Y : Type 0} (r : Result X Y) (first second : Carried) (m : MemberSets) (registers slot : List ℕ) → HaveNumbers first m.registers registers
    → CarriesOn first second → OnOk r (HaveNumbers second m.slot slot) → OnOk r (CarriesMember second m (record m { registers = registers; slot = slot }))
member-carried (Ok x) first second m registers slot one on two = record {
  registers = have-still first second m.registers registers on one;
  slot = two;
  window = refl;
  segment = refl;
}
member-carried (Err e) first second m registers slot one on two = tt
