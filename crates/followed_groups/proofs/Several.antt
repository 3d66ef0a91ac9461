-- Groups, followed one after the other.
use Rattle.std.proofs.Common.{◌≡◌, ℕ, ◌+◌, ◌<◌, ◌≤◌, List, [], ◌∷◌, ◌++◌, length, get_or, take, drop, Contains, Option, None, IsSome, sym, ap, subst, ◌∙◌, inl, inr, add-one, drop-cons, drop_of_length-le}
use Rattle.std.proofs.lemmas.List.{take_more, take_all}
use Rattle.std.proofs.lemmas.List.Elements.{Contains-append_left, Contains-push, Contains-push_cases}
use Rattle.std.proofs.lemmas.List.Sums.{sum_by-drop_more}
use Rattle.arn_base.specs.declared.records.Record.{Record}
use Rattle.rv64_model.specs.declared.linkage.Linkage.{Linkage}
use Rattle.history_model.specs.Alone.{alone}
use Rattle.history_model.specs.Alone as history
use Rattle.query_model.specs.Answers.{disagreement_in, first_disagreement, or_first}
use Rattle.replay_steps.specs.declared.errors.QueryError.{QueryError}
use Rattle.replay_steps.specs.declared.errors.QueryError.TheVariants as error
use Rattle.replayer.specs.Bounds.{ran_before}
use Rattle.taint_state.specs.Kept.{Kept}
use Rattle.followed_groups.specs.Follows.{Explains, Follows}
use Rattle.followed_groups.specs.Following.{Adds, AddsOnly, Following, HasFollowed, HasOnly, IsOf, tracker_of}
use Rattle.followed_groups.specs.Parts.{ran_in}

drop-more : (xs : List ℕ) (i : ℕ) → i < length xs → drop i xs ≡ get_or xs i 0 ∷ drop (i + 1) xs
drop-more xs i h = drop-cons xs i 0 h ∙ ap (λ (n : ℕ). get_or xs i 0 ∷ drop n xs) (sym (add-one i))

module _ (entries : List Record) (until : ℕ) (groups : List ℕ) (i : ℕ) (inside : i < length groups) where
  abbrev here : ℕ
  here = get_or groups i 0

  first-here : first_disagreement entries until (drop i groups) ≡ or_first (disagreement_in (alone entries here until)) (first_disagreement entries until (drop (i + 1) groups))
  first-here = ap (first_disagreement entries until) (drop-more groups i inside)

  -- a group that was followed doesn't disagree
  pub next-agrees : (linkage : Linkage) (kept : Kept) (all : Option history.Disagrees) → Follows linkage entries until here kept → all ≡ first_disagreement entries until (drop i groups)
      → all ≡ first_disagreement entries until (drop (i + 1) groups)
  next-agrees linkage kept all f h = h ∙ first-here ∙ ap (λ made. or_first (disagreement_in made) (first_disagreement entries until (drop (i + 1) groups))) f.makes

  -- one that does is the first
  pub first-explains : (all : Option history.Disagrees) (e : QueryError) → all ≡ first_disagreement entries until (drop i groups) → Explains (disagreement_in (alone entries here until)) e → Explains all e
  first-explains all (error.Disagrees d) h k = h ∙ first-here ∙ ap (λ o. or_first o (first_disagreement entries until (drop (i + 1) groups))) k
  first-explains all error.NoPoint h k = k
  first-explains all error.NoMemory h k = tt

  pub ran-here : ran_in entries until (drop i groups) ≡ ran_before entries here until + ran_in entries until (drop (i + 1) groups)
  ran-here = sum_by-drop_more (λ g. ran_before entries g until) groups i 0 inside

-- behind the last none is left
pub none-left : (entries : List Record) (until : ℕ) (groups : List ℕ) (i : ℕ) → length groups ≤ i → first_disagreement entries until (drop i groups) ≡ None
none-left entries until groups i h = ap (first_disagreement entries until) (drop_of_length-le groups h)

pub has-more : (groups : List ℕ) (i : ℕ) (old new : Following) → i < length groups → Adds (get_or groups i 0) old new → HasFollowed old (take i groups) → HasFollowed new (take (i + 1) groups)
has-more groups i old new inside adds has g c =
    elim (Contains-push_cases (take i groups) (get_or groups i 0) g (subst (λ (xs : List ℕ). Contains xs g) (take_more groups i 0 inside) c)) [
      | inl d ↦ adds.keeps g (has g d)
      | inr e ↦ subst (λ (h : ℕ). IsSome (tracker_of new h)) e adds.has
    ]

pub only-more : (groups : List ℕ) (i : ℕ) (old new : Following) → i < length groups → AddsOnly (get_or groups i 0) old new → HasOnly old (take i groups) → HasOnly new (take (i + 1) groups)
only-more groups i old new inside adds only g s =
    subst (λ (xs : List ℕ). Contains xs g) (sym (take_more groups i 0 inside)) (elim (adds g s) [
      | inl before ↦ Contains-append_left (take i groups) (get_or groups i 0 ∷ []) g (only g before)
      | inr same ↦ subst (λ (h : ℕ). Contains (take i groups ++ get_or groups i 0 ∷ []) h) (sym same) (Contains-push (take i groups) (get_or groups i 0))
    ])

pub only-all : (groups : List ℕ) (i : ℕ) (f : Following) → length groups ≤ i → HasOnly f (take i groups) → HasOnly f groups
only-all groups i f h only g s = subst (λ (xs : List ℕ). Contains xs g) (take_all i groups h) (only g s)

pub still-of : (entries : List Record) (linkage : Linkage) (until g : ℕ) (old new : Following) → IsOf entries linkage until old → Adds g old new → IsOf entries linkage until new
still-of entries linkage until g old new of adds =
    record { entries_are = adds.of.entries_are ∙ of.entries_are; linkage_is = adds.of.linkage_is ∙ of.linkage_is; until_is = adds.of.until_is ∙ of.until_is }

pub has-all : (groups : List ℕ) (i : ℕ) (f : Following) → length groups ≤ i → HasFollowed f (take i groups) → HasFollowed f groups
has-all groups i f h has g c = has g (subst (λ (xs : List ℕ). Contains xs g) (sym (take_all i groups h)) c)
