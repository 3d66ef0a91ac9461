-- How a replay goes on, one thing after the other.
use Rattle.std.proofs.Common.{◌≡◌, ℕ, ◌+◌, List, [], ◌∷◌, ◌++◌, cond, count_by, flat_map, refl, sym, ap, subst, ◌∙◌, append_assoc, add_assoc, arith}
use Rattle.std.proofs.lemmas.Grind.{flat_map-append}
use Rattle.std.proofs.lemmas.List.{append-nil}
use Rattle.std.proofs.lemmas.List.Sums.{sum_by-append}
use Rattle.acts_model.specs.Moved.{Inside}
use Rattle.guest_bodies.specs.Shown.{Guests}
use Rattle.history_model.specs.Alone.{Own, Made, Makes, and_then}
use Rattle.replay_steps.specs.Notices.{Listener, Notice, Told, notices}
use Rattle.replay_steps.specs.Standing.{Explains, GoesOn, Reaches, is_counted}
use Rattle.replay_steps.specs.declared.errors.ReplayError.{ReplayError}
use Rattle.replay_steps.specs.declared.errors.ReplayError.TheVariants as replay_error

module _ {A : Type 0} (l : Listener A) where
  pub Told-append : (ns ms : List Notice) (x y z : A) → Told l ns x y → Told l ms y z → Told l (ns ++ ms) x z
  Told-append [] ms x y z e told = subst (λ (v : A). Told l ms v z) (sym e) told
  Told-append (n ∷ ns) ms x y z s told = (s.0, s.1, Told-append ns ms s.0 y z s.2 told)

  -- nothing more happened
  pub goes-nowhere : (x : A) (n : ℕ) (own : Own) → GoesOn l x n own own x n
  goes-nowhere x n own = record { more = []; inside = sym (append-nil own.inside); told = refl; counted = omega arith }

  pub goes-one : (x y : A) (m n : ℕ) (own own' : Own) (i : Inside) → own'.inside ≡ own.inside ++ i ∷ [] → Told l (notices i) x y → n ≡ m + count_by is_counted (i ∷ []) → GoesOn l x m own own' y n
  goes-one x y m n own own' i inside told counted =
      record { more = i ∷ []; inside = inside; told = subst (λ (ns : List Notice). Told l ns x y) (sym (append-nil (notices i))) told; counted = counted }

  pub goes-both : (x y z : A) (a b c : ℕ) (own own' own'' : Own) → GoesOn l x a own own' y b → GoesOn l y b own' own'' z c → GoesOn l x a own own'' z c
  goes-both x y z a b c own own' own'' p q =
      record {
        more = p.more ++ q.more;
        inside = q.inside ∙ (ap (λ (is : List Inside). is ++ q.more) p.inside ∙ append_assoc own.inside p.more q.more);
        told = subst (λ (ns : List Notice). Told l ns x z) (sym (flat_map-append notices p.more q.more)) (Told-append (flat_map notices p.more) (flat_map notices q.more) x y z p.told q.told);
        counted = q.counted ∙ (ap (λ (n : ℕ). n + count_by is_counted q.more) p.counted ∙ (add_assoc a (count_by is_counted p.more) (count_by is_counted q.more) ∙ ap (λ (n : ℕ). a + n) (sym (sum_by-append (λ (i : Inside). cond (is_counted i) 1 0) p.more q.more))));
      }

-- what stands at an event stands at a later one

-- what follows from what was made
pub reaches-both : {A : Type 0} (l : Listener A) (x y z : A) (a b c : ℕ) (own : Own) (made : Made) (next : Own → Made) (guests guests' : Guests) (event event' : ℕ) → (r : Reaches l x a own made guests event y b) → Reaches l y b r.own' (next r.own') guests' event' z c → Reaches l x a own (and_then made next) guests' event' z c
reaches-both l x y z a b c own made next guests guests' event event' r s =
    record {
      own' = s.own';
      makes = ap (λ (m : Made). and_then m next) r.makes ∙ s.makes;
      stands = s.stands;
      goes_on = goes-both l x y z a b c own r.own' s.own' r.goes_on s.goes_on;
    }

pub explains-first : (made : Made) (next : Own → Made) (e : ReplayError) → Explains made e → Explains (and_then made next) e
explains-first made next (replay_error.Disagrees d) is = ap (λ (m : Made). and_then m next) is
explains-first made next replay_error.NoMemory is = tt

pub explains-second : (made : Made) (next : Own → Made) (own : Own) (e : ReplayError) → made ≡ Makes own → Explains (next own) e → Explains (and_then made next) e
explains-second made next own e is explains = subst (λ (m : Made). Explains (and_then m next) e) (sym is) explains
