-- A replay over records.
use Rattle.std.proofs.lemmas.Bool.Decides.{nat_tests}
use Rattle.std.proofs.Common.{◌≡◌, ◌<◌, ℕ, zero, suc, ◌+◌, Bool, true, false, List, [], ◌∷◌, ◌++◌, length, take, get_or, ap, sym, subst, append_assoc, arith}
use Rattle.std.proofs.lemmas.Grind.{flat_map-append}
use Rattle.std.proofs.lemmas.List.Sums.{sum_by-append}
use Rattle.arn_base.specs.declared.records.Record.{Record}
use Rattle.guest_bodies.specs.Shown.{Guests}
use Rattle.history_model.specs.Alone as alone
use Rattle.history_model.specs.Alone.{Own, Made, Fails, and_then, replayed}
use Rattle.history_model.specs.Broken.{greatest_after, greatest_from}
use Rattle.replay_steps.specs.Notices.{Listener, Notice, Told}
use Rattle.replay_steps.specs.Standing.{GoesOn, Reaches}

-- one after the other
module _ {A : Type 0} (l : Listener A) where
  told-append : (ns ms : List Notice) (x y z : A) → Told l ns x y → Told l ms y z → Told l (ns ++ ms) x z
  told-append [] ms x y z e told = subst (λ (v : A). Told l ms v z) (sym e) told
  told-append (n ∷ ns) ms x y z s told = (s.0, s.1, told-append ns ms s.0 y z s.2 told)

  pub goes-both : (x y z : A) (a b c : ℕ) (own own' own'' : Own) → GoesOn l x a own own' y b → GoesOn l y b own' own'' z c → GoesOn l x a own own'' z c
  goes-both x y z a b c own own' own'' h1 h2 = grind (arith, nat_tests, append_assoc, flat_map-append, told-append, sum_by-append)

  pub further : (x y z : A) (a b c : ℕ) (own : Own) (made made' : Made) (guests guests' : Guests) (event event' : ℕ) → (r : Reaches l x a own made guests event y b) → Reaches l y b r.own' made' guests' event' z c → Reaches l x a own made' guests' event' z c
  further x y z a b c own made made' guests guests' event event' r s =
      record { own' = s.own'; makes = s.makes; stands = s.stands; goes_on = goes-both x y z a b c own r.own' s.own' r.goes_on s.goes_on }

-- one record more
pub greatest-snoc : (n : ℕ) (entries : List Record) (i : ℕ) (e : Record) → i < length entries → e ≡ get_or entries i e → greatest_from n (take (suc i) entries) ≡ greatest_after e (greatest_from n (take i entries))
greatest-snoc n [] i e lt is = absurd (omega arith)
greatest-snoc n (x ∷ entries) zero e lt is = ap (λ (r : Record). greatest_after r n) (sym is)
greatest-snoc n (x ∷ entries) (suc i) e lt is = greatest-snoc (greatest_after x n) entries i e (omega arith) is

-- what failed stays so
made-if-fails : (b : Bool) (made : Made) (next : Own → Made) (d : alone.Disagrees) → made ≡ Fails d → alone.made_if b made next ≡ Fails d
made-if-fails true made next d fails = ap (λ (m : Made). and_then m next) fails
made-if-fails false made next d fails = fails

pub after-fails : (g until : ℕ) (t : alone.Standing) (e : Record) (d : alone.Disagrees) → t.made ≡ Fails d → (alone.after_record g until t e).made ≡ Fails d
after-fails g until t e d h1 = grind (arith, nat_tests, made-if-fails)

pub stays-failed : (g until : ℕ) (t : alone.Standing) (entries : List Record) (d : alone.Disagrees) → t.made ≡ Fails d → alone.settled (replayed g until t entries) ≡ Fails d
stays-failed g until t [] d fails = ap (λ (m : Made). and_then m (alone.plains (alone.slice_of t) 0 t.owed)) fails
stays-failed g until t (e ∷ entries) d fails = stays-failed g until (alone.after_record g until t e) entries d (after-fails g until t e d fails)
