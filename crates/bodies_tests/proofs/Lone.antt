-- One process among none.
use Rattle.std.proofs.Common.{◌≡◌, ℕ, ◌==◌, Bool, true, false, [], Option, Some, None, IsSome, IsNone, IfSome, option_map, ap, subst, sym, refl, ◌∙◌, arith}
use Rattle.std.proofs.lemmas.Bool.{eqb-true, eqb-false}
use Rattle.parts_model.specs.Numbered.{nth}
use Rattle.acts_model.specs.Acts.{Beginning, begun, child_view}
use Rattle.acts_model.specs.Bodies.{View, nobody, body_at, seen, put}
use Rattle.guest_bodies.specs.Follows.{Follows}
use Rattle.guest_bodies.specs.Shown.{Guests, Shown, IsFresh, IsUnheldBy, IsLive, seen_in}
use Rattle.guest_bodies.proofs.Puts.{own_segment, refreshed, seen-other, seen-same}

nobody-seen : (p : ℕ) → seen nobody p ≡ None
unfolding body_at
nobody-seen p = refl

module _ (old new : Guests) (b : Beginning) (none : old ≡ []) (follows : Follows old (begun 1 0 b) new) where
  seen-first : (p : ℕ) → seen_in new p ≡ seen (put 1 (child_view 0 b None []) nobody) p
  seen-first p = (follows.shows nobody (record { same = λ q. ap (λ (gs : Guests). seen_in gs q) none ∙ sym (nobody-seen q) })).same p

  seen-one : seen_in new 1 ≡ Some (record { body = (child_view 0 b None []).body; window = b.window; segment = own_segment (child_view 0 b None []) None })
  seen-one = seen-first 1 ∙ seen-same 1 (child_view 0 b None []) nobody

  seen-none : (p : ℕ) → (p ≡ 1 → ⊥) → seen_in new p ≡ None
  seen-none p ne = seen-first p ∙ (seen-other 1 (child_view 0 b None []) nobody p ne ∙ ap (option_map (refreshed (child_view 0 b None []))) (nobody-seen p))

  there : (o : Option Shown) (v : View) → option_map (λ (s : Shown). s.view) o ≡ Some v → IsSome o
  there None v e = cc
  there (Some s) v e = refl

  gone : (o : Option Shown) → option_map (λ (s : Shown). s.view) o ≡ None → IsNone o
  gone None e = refl
  gone (Some s) e = cc

  pub first-live : IsLive new 1
  first-live = there (nth new 1) _ seen-one

  pub first-alone : IsNone (nth new 2)
  first-alone = gone (nth new 2) (seen-none 2 (λ (e : 2 ≡ 1). absurd (omega arith)))

  pub first-fresh : IsFresh new 1
  first-fresh = record { unheld = λ p. by_test p (p == 1) refl }
    where
      by_test : (p : ℕ) (t : Bool) → (p == 1) ≡ t → IfSome (seen_in new p) (λ v. IsUnheldBy 1 v.body)
      by_test p true e = subst (λ (o : Option View). IfSome o (λ v. IsUnheldBy 1 v.body)) (sym (ap (seen_in new) (eqb-true p 1 e) ∙ seen-one)) (record { window = λ (q : 0 ≡ 1). absurd (omega arith); segment = λ q. cc })
      by_test p false e = subst (λ (o : Option View). IfSome o (λ v. IsUnheldBy 1 v.body)) (sym (seen-none p (eqb-false p 1 e))) tt
