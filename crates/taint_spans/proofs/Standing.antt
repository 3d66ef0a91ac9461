-- What numbers stand for.
use Rattle.std.proofs.Common.{◌≡◌, ◌↔◌, ℕ, zero, suc, ◌+◌, ◌-◌, ◌^◌, ◌<◌, ◌≤◌, Bool, true, false, if◌then◌else◌, List, [], ◌∷◌, ◌++◌, length, slice_get, Option, Some, None, IsSome, is_some, unwrap_or, Contains, refl, sym, ap, subst, ◌∙◌, arith}
use Rattle.std.proofs.lemmas.Bool.Decides.{nat_tests}
use Rattle.std.proofs.lemmas.List.{append-nil}
use Rattle.set_store.specs.declared.item.Item.{Item}
use Rattle.taint_sets.specs.Numbered as plain
use Rattle.taint_spans.specs.Numbered.{AreReceivedFrom, IsSet, IsSpanOf, Numbered, StandAsBefore, first_span, is_span, members_of, set_at}
use Rattle.taint_spans.specs.Sound.{lists_of}
use Rattle.taint_spans.specs.Spans.{IsSpan, IsWithin, members_from, span_members}
use Rattle.taint_spans.specs.declared.span.Span.{Span}
use Rattle.taint_spans.proofs.Members.{from-next, from-none, span-same, within-has}

some-of : {X : Type 0} (o : Option X) → is_some o ≡ true → (x : X) × (o ≡ Some x)
some-of None e = absurd (cc)
some-of (Some x) e = (x, refl)

-- a number that stands for these
pub set-from : (sets : Numbered) (number : ℕ) (members : List Item) → set_at sets number ≡ Some members → IsSet sets number × (members_of sets number ≡ members)
unfolding IsSet members_of
set-from sets number members e = (ap (λ (o : Option (List Item)). is_some o) e, ap (λ (o : Option (List Item)). unwrap_or o []) e)

pub from-set : (sets : Numbered) (number : ℕ) → IsSet sets number → (members : List Item) × (set_at sets number ≡ Some members)
unfolding IsSet
from-set sets number is = some-of (set_at sets number) is

-- one that isn't a span's
pub plain-at : (sets : Numbered) (number : ℕ) → is_span number ≡ false → set_at sets number ≡ plain.set_at sets.sets number
plain-at sets number e = ap (λ (t : Bool). if t then slice_get sets.spans (number - first_span) else plain.set_at sets.sets number) e

pub span-at : (sets : Numbered) (number : ℕ) → is_span number ≡ true → set_at sets number ≡ slice_get sets.spans (number - first_span)
span-at sets number e = ap (λ (t : Bool). if t then slice_get sets.spans (number - first_span) else plain.set_at sets.sets number) e

pub plain-set : (sets : Numbered) (number : ℕ) → is_span number ≡ false → plain.IsSet sets.sets number → IsSet sets number
unfolding IsSet plain.IsSet
plain-set sets number e is = subst (λ (o : Option (List Item)). IsSome o) (sym (plain-at sets number e)) is

pub set-plain : (sets : Numbered) (number : ℕ) → is_span number ≡ false → IsSet sets number → plain.IsSet sets.sets number
unfolding IsSet plain.IsSet
set-plain sets number e is = subst (λ (o : Option (List Item)). IsSome o) (plain-at sets number e) is

pub plain-members : (sets : Numbered) (number : ℕ) → is_span number ≡ false → members_of sets number ≡ plain.members_of sets.sets number
unfolding members_of plain.members_of
plain-members sets number e = ap (λ (o : Option (List Item)). unwrap_or o []) (plain-at sets number e)

-- a number below those of spans, or behind them
pub below-spans : (number : ℕ) → number < first_span → is_span number ≡ false
below-spans number h1 = grind (arith, nat_tests)

pub behind-spans : (number : ℕ) → plain.first_received ≤ number → is_span number ≡ false
behind-spans number h1 = grind (arith, nat_tests)

pub past-spans : (number : ℕ) → is_span number ≡ false → first_span ≤ number → plain.first_received ≤ number
past-spans number h1 h2 = grind (arith, nat_tests)

pub within-spans : (number : ℕ) → is_span number ≡ true → first_span ≤ number
within-spans number h1 = grind (arith, nat_tests)

-- plain sets as before, one by one
plain-same : (old new : plain.Numbered) (number : ℕ) (members : List Item) → plain.StandAsBefore old new → plain.set_at old number ≡ Some members → plain.set_at new number ≡ Some members
unfolding plain.IsSet plain.members_of
plain-same old new number members stand e =
    let is : IsSome (plain.set_at old number) = ap (λ (o : Option (List Item)). is_some o) e in
    let there = some-of (plain.set_at new number) (stand.there number is) in
    let same : unwrap_or (plain.set_at new number) [] ≡ unwrap_or (plain.set_at old number) [] = stand.same number is in
    there.1 ∙ ap (λ (l : List Item). Some l) (sym (ap (λ (o : Option (List Item)). unwrap_or o []) there.1) ∙ (same ∙ ap (λ (o : Option (List Item)). unwrap_or o []) e))

-- sets stand where each number stands for the same
stands : (old new : Numbered) → ((number : ℕ) (members : List Item) → set_at old number ≡ Some members → set_at new number ≡ Some members) → StandAsBefore old new
stands old new keeps = record {
  there = λ number is. let at = from-set old number is in (set-from new number at.0 (keeps number at.0 at.1)).0;
  same = λ number is. let at = from-set old number is in (set-from new number at.0 (keeps number at.0 at.1)).1 ∙ sym (set-from old number at.0 at.1).1;
}

pub stand-same : (sets : Numbered) → StandAsBefore sets sets
stand-same sets = record { there = λ set h. h; same = λ set h. refl }

pub stand-trans : (old mid new : Numbered) → StandAsBefore old mid → StandAsBefore mid new → StandAsBefore old new
stand-trans old mid new a b = record { there = λ set h. b.there set (a.there set h); same = λ set h. b.same set (a.there set h) ∙ a.same set h }

-- the same plain sets, and the first spans
pub stand-both : (old new : plain.Numbered) (spans more : List (List Item)) → plain.StandAsBefore old new → ((place : ℕ) (members : List Item) → slice_get spans place ≡ Some members → slice_get more place ≡ Some members)
    → StandAsBefore (record { sets = old; spans = spans }) (record { sets = new; spans = more })
stand-both old new spans more stand first = stands (record { sets = old; spans = spans }) (record { sets = new; spans = more }) keeps
  where
    keeps : (number : ℕ) (members : List Item) → set_at (record { sets = old; spans = spans }) number ≡ Some members → set_at (record { sets = new; spans = more }) number ≡ Some members
    keeps number members e = by (is_span number) refl
      where
        by : (b : Bool) → is_span number ≡ b → set_at (record { sets = new; spans = more }) number ≡ Some members
        by true t = span-at (record { sets = new; spans = more }) number t ∙ first (number - first_span) members (sym (span-at (record { sets = old; spans = spans }) number t) ∙ e)
        by false t = plain-at (record { sets = new; spans = more }) number t ∙ plain-same old new number members stand (sym (plain-at (record { sets = old; spans = spans }) number t) ∙ e)

-- the members of spans by place
pub list-at : (sets : plain.Numbered) (spans : List Span) (place : ℕ) (span : Span) → slice_get spans place ≡ Some span → slice_get (lists_of sets spans) place ≡ Some (span_members sets span)
list-at sets [] place span e = cc
list-at sets (x ∷ xs) zero span e = let same : x ≡ span = cc in ap (λ s. Some (span_members sets s)) same
list-at sets (x ∷ xs) (suc place) span e = list-at sets xs place span e

pub at-list : (sets : plain.Numbered) (spans : List Span) (place : ℕ) (members : List Item) → slice_get (lists_of sets spans) place ≡ Some members → (span : Span) × (slice_get spans place ≡ Some span) × (span_members sets span ≡ members)
at-list sets [] place members e = cc
at-list sets (x ∷ xs) zero members e = (x, refl, cc)
at-list sets (x ∷ xs) (suc place) members e = at-list sets xs place members e

pub within-list : (spans : List Span) (place : ℕ) (span : Span) → slice_get spans place ≡ Some span → place < length spans
within-list [] place span e = cc
within-list (x ∷ xs) zero span e = omega arith
within-list (x ∷ xs) (suc place) span e = let below = within-list xs place span e in omega arith

-- they are the same in later plain sets
pub lists-same : (old new : plain.Numbered) (spans : List Span) → plain.StandAsBefore old new → ((place : ℕ) (span : Span) → slice_get spans place ≡ Some span → IsSpan old span)
    → (place : ℕ) (members : List Item) → slice_get (lists_of old spans) place ≡ Some members → slice_get (lists_of new spans) place ≡ Some members
lists-same old new spans stand are place members e =
    let at = at-list old spans place members e in
    list-at new spans place at.0 at.1 ∙ ap (λ (l : List Item). Some l) (span-same old new at.0 stand (are place at.0 at.1) ∙ at.2)

-- a set's span
pub span-of : (sets : plain.Numbered) (spans : List Span) (number : ℕ) → is_span number ≡ true → IsSet (record { sets = sets; spans = lists_of sets spans }) number
    → (span : Span) × (slice_get spans (number - first_span) ≡ Some span) × (members_of (record { sets = sets; spans = lists_of sets spans }) number ≡ span_members sets span)
span-of sets spans number e is =
    let all : Numbered = record { sets = sets; spans = lists_of sets spans } in
    let at = from-set all number is in
    let found = at-list sets spans (number - first_span) at.0 (sym (span-at all number e) ∙ at.1) in
    (found.0, found.1, (set-from all number at.0 at.1).1 ∙ sym found.2)

-- the number of a span
pub numbered-span : (sets : plain.Numbered) (spans : List Span) (place number : ℕ) (span : Span) → slice_get spans place ≡ Some span → number ≡ first_span + place → is_span number ≡ true
    → IsSet (record { sets = sets; spans = lists_of sets spans }) number × (members_of (record { sets = sets; spans = lists_of sets spans }) number ≡ span_members sets span)
numbered-span sets spans place number span at e t =
    let all : Numbered = record { sets = sets; spans = lists_of sets spans } in
    let same : number - first_span ≡ place = omega arith in
    set-from all number (span_members sets span) (span-at all number t ∙ (ap (slice_get (lists_of sets spans)) same ∙ list-at sets spans place span at))

-- received bytes
pub received-all : (sets : Numbered) (event at count first : ℕ) → plain.AreReceivedFrom sets.sets event at count first → AreReceivedFrom sets event at count first
received-all sets event at count first are = record {
  fits = are.fits;
  items = λ k h.
      let item = are.items k h in
      let least = are.received in
      let apart = behind-spans (first + k) (omega (arith, least)) in
      record { there = plain-set sets (first + k) apart item.there; members = plain-members sets (first + k) apart ∙ item.members };
}

-- the empty set alone
no-list : (place : ℕ) (members : List Item) → slice_get [] place ≡ Some members → ⊥
no-list place members e = cc

pub alone-at : (sets : plain.Numbered) → ((set : ℕ) → plain.IsSet sets set ↔ (set ≡ 0)) → (number : ℕ) → IsSet (record { sets = sets; spans = [] }) number ↔ (number ≡ 0)
alone-at sets alone number = (only, λ e. subst (IsSet (record { sets = sets; spans = [] })) (sym e) (plain-set (record { sets = sets; spans = [] }) 0 refl ((alone 0).1 refl)))
  where
    only : IsSet (record { sets = sets; spans = [] }) number → number ≡ 0
    only is = by (is_span number) refl
      where
        by : (b : Bool) → is_span number ≡ b → number ≡ 0
        by true t = let at = from-set (record { sets = sets; spans = [] }) number is in absurd (no-list (number - first_span) at.0 (sym (span-at (record { sets = sets; spans = [] }) number t) ∙ at.1))
        by false t = (alone number).0 (set-plain (record { sets = sets; spans = [] }) number t is)

pub plain-before : (sets : plain.Numbered) → plain.StandAsBefore sets sets
plain-before sets = record { there = λ set h. h; same = λ set h. refl }

pub plain-trans : (old mid new : plain.Numbered) → plain.StandAsBefore old mid → plain.StandAsBefore mid new → plain.StandAsBefore old new
plain-trans old mid new a b = record { there = λ set h. b.there set (a.there set h); same = λ set h. b.same set (a.there set h) ∙ a.same set h }

-- a plain set is a span without bytes, and a received byte one with it alone
pub plain-is : (sets : Numbered) (number : ℕ) → is_span number ≡ false → IsSet sets number → number < 2 ^ 32 → IsSpanOf sets number (record { base = number; first = number; len = 0 })
plain-is sets number e is fits = record {
  is = record { base = set-plain sets number e is; fits = omega (arith, fits); bytes = λ k h. absurd (omega (arith, h)); received = λ some. absurd (omega (arith, some)) };
  members = plain-members sets number e ∙ (sym (append-nil (plain.members_of sets.sets number)) ∙ ap (λ l. plain.members_of sets.sets number ++ l) (sym (from-none sets.sets number)));
}

pub one-is : (sets : Numbered) (number : ℕ) → plain.first_received ≤ number → is_span number ≡ false → IsSet sets number → IsSet sets 0 → members_of sets 0 ≡ [] → number < 2 ^ 32 → IsSpanOf sets number (record { base = 0; first = number; len = 1 })
one-is sets number large e is nought empty fits = record {
  is = record { base = set-plain sets 0 refl nought; fits = omega (arith, fits); bytes = λ k h. subst (plain.IsSet sets.sets) (let none : number ≡ number + k = omega (arith, h) in none) there; received = λ some. large };
  members = plain-members sets number e ∙ (ap (plain.members_of sets.sets) (let same : number ≡ number + 0 = omega arith in same)
      ∙ (sym (ap (λ l. l ++ plain.members_of sets.sets (number + 0)) (from-none sets.sets number))
      ∙ (sym (from-next sets.sets number 0) ∙ ap (λ l. l ++ members_from sets.sets number 1) (sym (sym (plain-members sets 0 refl) ∙ empty)))));
}
  where
    there : plain.IsSet sets.sets number
    there = set-plain sets number e is

-- the members by the number of a span, or of none
pub numbered-members : (sets : plain.Numbered) (spans : List Span) (number : ℕ) (span : Span) → is_span number ≡ true → slice_get spans (number - first_span) ≡ Some span
    → members_of (record { sets = sets; spans = lists_of sets spans }) number ≡ span_members sets span
numbered-members sets spans number span t at =
    let all : Numbered = record { sets = sets; spans = lists_of sets spans } in
    (set-from all number (span_members sets span) (span-at all number t ∙ list-at sets spans (number - first_span) span at)).1

no-list-at : (sets : plain.Numbered) (spans : List Span) (place : ℕ) → slice_get spans place ≡ None → slice_get (lists_of sets spans) place ≡ None
no-list-at sets [] place e = refl
no-list-at sets (x ∷ xs) zero e = cc
no-list-at sets (x ∷ xs) (suc place) e = no-list-at sets xs place e

pub no-span : (sets : plain.Numbered) (spans : List Span) (number : ℕ) → is_span number ≡ true → slice_get spans (number - first_span) ≡ None → members_of (record { sets = sets; spans = lists_of sets spans }) number ≡ []
unfolding members_of
no-span sets spans number t none =
    let all : Numbered = record { sets = sets; spans = lists_of sets spans } in
    ap (λ (o : Option (List Item)). unwrap_or o []) (span-at all number t ∙ no-list-at sets spans (number - first_span) none)

-- what one set's span has within another one's
pub has-within : (sets : Numbered) (set other : ℕ) (span within : Span) → IsSpanOf sets set span → IsSpanOf sets other within → members_of sets 0 ≡ [] → IsWithin span within → (item : Item) → Contains (members_of sets set) item → Contains (members_of sets other) item
has-within sets set other span within of another empty inside item c =
    subst (λ l. Contains l item) (sym another.members)
    (within-has sets.sets span within (sym (plain-members sets 0 refl) ∙ empty) inside item (subst (λ l. Contains l item) of.members c))
