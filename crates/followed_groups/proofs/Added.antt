-- One group more.
use Rattle.std.proofs.Common.{◌≡◌, ◌⊎◌, inl, inr, ℕ, Bool, true, false, cond, List, Option, Some, None, IfSome, IsSome, Ordering, Less, Equal, Greater, is_eq, nat_cmp, refl, sym, ap, subst, ◌∙◌}
use Rattle.std.proofs.lemmas.Map.Lookups.{exact_unsigned}
use Rattle.std.specs.BTreeMap.{is_at}
use Rattle.std.specs.Cmp.{nat_cmp_is}
use Rattle.std.specs.Map.{lookup}
use Rattle.taint_state.specs.Kept.{Kept}
use Rattle.followed_groups.specs.Follows.{Follows}
use Rattle.followed_groups.specs.Following.{Following, IsFollowing}

equal-of : (o : Ordering) → is_eq o ≡ true → o ≡ Equal
equal-of Equal h = refl
equal-of Less h = absurd (cc)
equal-of Greater h = absurd (cc)

pub following-more : (f : Following) (g : ℕ) (kept : Kept) (trackers : List (ℕ × Kept)) → IsFollowing f → Follows f.linkage f.entries f.until g kept
    → ((q : ℕ) → lookup (is_at (nat_cmp q)) trackers ≡ cond (is_at (nat_cmp g) q) (Some kept) (lookup (is_at (nat_cmp q)) f.trackers)) → IsFollowing (record f { trackers = trackers })
following-more f g kept trackers all one h q = subst (λ (o : Option Kept). IfSome o (Follows f.linkage f.entries f.until q)) (sym (h q)) (by_test (is_at (nat_cmp g) q) refl)
  where
    by_test : (b : Bool) → is_at (nat_cmp g) q ≡ b → IfSome (cond b (Some kept) (lookup (is_at (nat_cmp q)) f.trackers)) (Follows f.linkage f.entries f.until q)
    by_test true e = subst (λ (n : ℕ). Follows f.linkage f.entries f.until n kept) (exact_unsigned g q (equal-of (nat_cmp g q) e)) one
    by_test false e = all q

-- the others were there before
pub only-added : (g : ℕ) (kept : Kept) (old new : List (ℕ × Kept)) → ((q : ℕ) → lookup (is_at (nat_cmp q)) new ≡ cond (is_at (nat_cmp g) q) (Some kept) (lookup (is_at (nat_cmp q)) old))
    → (h : ℕ) → IsSome (lookup (is_at (nat_cmp h)) new) → IsSome (lookup (is_at (nat_cmp h)) old) ⊎ (h ≡ g)
only-added g kept old new updates h s = by_test (is_at (nat_cmp g) h) refl (subst (λ (o : Option Kept). IsSome o) (updates h) s)
  where
    by_test : (b : Bool) → is_at (nat_cmp g) h ≡ b → IsSome (cond b (Some kept) (lookup (is_at (nat_cmp h)) old)) → IsSome (lookup (is_at (nat_cmp h)) old) ⊎ (h ≡ g)
    by_test true e t = inr (sym (exact_unsigned g h (equal-of (nat_cmp g h) e)))
    by_test false e t = inl t

-- without one that is taken out
pub following-less : (f : Following) (g : ℕ) (trackers : List (ℕ × Kept)) → IsFollowing f → ((q : ℕ) → lookup (is_at (nat_cmp q)) trackers ≡ cond (is_at (nat_cmp g) q) None (lookup (is_at (nat_cmp q)) f.trackers))
    → IsFollowing (record f { trackers = trackers })
following-less f g trackers all h q = subst (λ (o : Option Kept). IfSome o (Follows f.linkage f.entries f.until q)) (sym (h q)) (by_test (is_at (nat_cmp g) q))
  where
    by_test : (b : Bool) → IfSome (cond b None (lookup (is_at (nat_cmp q)) f.trackers)) (Follows f.linkage f.entries f.until q)
    by_test true = tt
    by_test false = all q

equal-self : (n : ℕ) → is_at (nat_cmp n) n ≡ true
equal-self n = ap is_eq (sym (nat_cmp_is n n Equal refl))

-- it is there now, and so are those that were
pub has-added : (g : ℕ) (kept : Kept) (old new : List (ℕ × Kept)) → ((q : ℕ) → lookup (is_at (nat_cmp q)) new ≡ cond (is_at (nat_cmp g) q) (Some kept) (lookup (is_at (nat_cmp q)) old)) → IsSome (lookup (is_at (nat_cmp g)) new)
has-added g kept old new updates = subst (λ (o : Option Kept). IsSome o) (sym (updates g ∙ ap (λ (b : Bool). cond b (Some kept) (lookup (is_at (nat_cmp g)) old)) (equal-self g))) refl

pub keeps-added : (g : ℕ) (kept : Kept) (old new : List (ℕ × Kept)) → ((q : ℕ) → lookup (is_at (nat_cmp q)) new ≡ cond (is_at (nat_cmp g) q) (Some kept) (lookup (is_at (nat_cmp q)) old))
    → (h : ℕ) → IsSome (lookup (is_at (nat_cmp h)) old) → IsSome (lookup (is_at (nat_cmp h)) new)
keeps-added g kept old new updates h s = subst (λ (o : Option Kept). IsSome o) (sym (updates h)) (by_test (is_at (nat_cmp g) h))
  where
    by_test : (b : Bool) → IsSome (cond b (Some kept) (lookup (is_at (nat_cmp h)) old))
    by_test true = refl
    by_test false = s
