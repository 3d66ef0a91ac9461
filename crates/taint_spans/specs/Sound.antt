-- What holds of spans.
use Rattle.std.specs.Prelude.{◌≡◌, ◌⊎◌, ℕ, ◌+◌, ◌≤◌, List, length, map, slice_get, slice_index, Some}
use Rattle.set_store.specs.declared.item.Item.{Item}
use Rattle.set_store.specs.Sets.{HaveSame}
use Rattle.taint_sets.specs.Carried as inner
use Rattle.taint_sets.specs.Numbered as plain
use Rattle.taint_sets.specs.Numbered.{Numbered}
use Rattle.taint_spans.specs.Carried.{Carried, HasNumber}
use Rattle.taint_spans.specs.Numbered.{first_span}
use Rattle.taint_spans.specs.Spans.{IsSpan, span_members}
use Rattle.taint_spans.specs.declared.span.Span.{Span}

-- a plain number stands for what a span has
pub record IsSettled (sets : Numbered) (span : Span) (set : ℕ) : Type 0 where
  pub there : plain.IsSet sets set
  pub members : HaveSame (plain.members_of sets set) (span_members sets span)

-- each is a span of these sets
abbrev pub AreSpans : Numbered → List Span → Type 0
AreSpans sets spans = (place : ℕ) (span : Span) → slice_get spans place ≡ Some span → IsSpan sets span

-- Each span has sets, and the plain number that is remembered of it, if it isn't 0, stands for what it has. Behind the last
-- span none is remembered.
pub record IsSound (sets : Numbered) (spans : List Span) (settled : List ℕ) : Type 0 where
  pub are_spans : AreSpans sets spans
  pub are_settled : (place : ℕ) (span : Span) → slice_get spans place ≡ Some span → (slice_index settled place ≡ 0) ⊎ IsSettled sets span (slice_index settled place)
  pub none_behind : (place : ℕ) → length spans ≤ place → slice_index settled place ≡ 0

-- the members of each span
abbrev pub lists_of : Numbered → List Span → List (List Item)
lists_of sets spans = map (span_members sets) spans

-- plain sets and spans that are carried over
abbrev pub carried_of : inner.Carried → List Span → List Span → Carried
carried_of plain from into = record {
  from = record { sets = plain.from; spans = lists_of plain.from from };
  into = record { sets = plain.into; spans = lists_of plain.into into };
}

-- Each span of before and each fresh one has sets, and a number that is remembered of one of before, if it isn't 0, is the one
-- that it has from now on.
pub record IsCarrying (plain : inner.Carried) (old fresh : List Span) (known : List ℕ) : Type 0 where
  pub from : AreSpans plain.from old
  pub into : AreSpans plain.into fresh
  pub numbers : (place : ℕ) → (slice_index known place ≡ 0) ⊎ HasNumber (carried_of plain old fresh) (first_span + place) (slice_index known place)
