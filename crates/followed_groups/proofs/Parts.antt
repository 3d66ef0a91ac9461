-- Which groups were replayed, group by group.
use Rattle.std.proofs.Common.{◌≡◌, ℕ, ◌+◌, ◌<◌, ◌≤◌, List, [], ◌∷◌, ◌++◌, length, get_or, take, inl, inr, sym, ap, subst, ◌∙◌, arith}
use Rattle.std.proofs.lemmas.List.{take_more, take_all}
use Rattle.std.proofs.lemmas.List.Sums.{sum_by-append}
use Rattle.arn_base.specs.declared.records.Record.{Record}
use Rattle.replayer.specs.Bounds.{ran_before}
use Rattle.followed_groups.specs.Parts.{IsPart, IsReplayed, OfNone, Leaves, Takes, ran_in}

leaves-last : (part whole : List ℕ) (n : ℕ) → IsPart part whole → IsPart part (whole ++ n ∷ [])
leaves-last _ _ n OfNone = Leaves [] [] n OfNone
leaves-last _ _ n (Leaves part whole m h) = Leaves part (whole ++ n ∷ []) m (leaves-last part whole n h)
leaves-last _ _ n (Takes part whole m h) = Takes part (whole ++ n ∷ []) m (leaves-last part whole n h)

takes-last : (part whole : List ℕ) (n : ℕ) → IsPart part whole → IsPart (part ++ n ∷ []) (whole ++ n ∷ [])
takes-last _ _ n OfNone = Takes [] [] n OfNone
takes-last _ _ n (Leaves part whole m h) = Leaves (part ++ n ∷ []) (whole ++ n ∷ []) m (takes-last part whole n h)
takes-last _ _ n (Takes part whole m h) = Takes (part ++ n ∷ []) (whole ++ n ∷ []) m (takes-last part whole n h)

-- before the first
pub none-yet : (part groups : List ℕ) → part ≡ [] → IsPart part (take 0 groups)
none-yet part groups h = subst (λ (xs : List ℕ). IsPart xs []) (sym h) OfNone

pub ran-none : (entries : List Record) (until : ℕ) (part : List ℕ) (n : ℕ) → part ≡ [] → n ≡ n + ran_in entries until part
ran-none entries until part n h = let none : ran_in entries until part ≡ 0 = ap (ran_in entries until) h in omega (arith, none)

-- with one group more
module _ (entries : List Record) (until : ℕ) (groups : List ℕ) (i : ℕ) (inside : i < length groups) (old new : List ℕ) (before after : ℕ) (h : IsReplayed entries until (get_or groups i 0) old new before after) where
  pub part-more : IsPart old (take i groups) → IsPart new (take (i + 1) groups)
  part-more part = subst (IsPart new) (sym (take_more groups i 0 inside)) (elim h [
    | inl ran ↦ subst (λ (xs : List ℕ). IsPart xs (take i groups ++ get_or groups i 0 ∷ [])) (sym ran.0) (takes-last old (take i groups) (get_or groups i 0) part)
    | inr same ↦ subst (λ (xs : List ℕ). IsPart xs (take i groups ++ get_or groups i 0 ∷ [])) (sym same.0) (leaves-last old (take i groups) (get_or groups i 0) part)
  ])

  pub ran-more : (first : ℕ) → before ≡ first + ran_in entries until old → after ≡ first + ran_in entries until new
  ran-more first is = elim h [
    | inl ran ↦
        let more : ran_in entries until new ≡ ran_in entries until old + (0 + ran_before entries (get_or groups i 0) until) = ap (ran_in entries until) ran.0 ∙ sum_by-append (λ g. ran_before entries g until) old (get_or groups i 0 ∷ []) in
        let steps = ran.1 in
        omega (arith, is, more, steps)
    | inr same ↦ same.1 ∙ (is ∙ ap (λ (xs : List ℕ). first + ran_in entries until xs) (sym same.0))
  ]

pub part-all : (groups part : List ℕ) (i : ℕ) → length groups ≤ i → IsPart part (take i groups) → IsPart part groups
part-all groups part i h is = subst (IsPart part) (take_all i groups h) is
