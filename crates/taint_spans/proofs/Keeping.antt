-- What holds of spans goes on to hold.
use Rattle.std.proofs.Common.{◌≡◌, ◌⊎◌, ℕ, zero, suc, ◌<◌, true, List, [], ◌∷◌, ◌++◌, length, slice_get, slice_index, Some, refl, sym, ap, subst, ◌∙◌, inl, inr, arith, length-append}
use Rattle.std.proofs.lemmas.Bool.Decides.{nat_tests, Decides-eqb}
use Rattle.set_store.specs.declared.item.Item.{Item}
use Rattle.set_store.specs.Sets.{HaveSame}
use Rattle.taint_sets.specs.Numbered as plain
use Rattle.taint_spans.specs.Sound.{AreSpans, IsSettled, IsSound, lists_of}
use Rattle.taint_spans.specs.Spans.{IsSpan, span_members}
use Rattle.taint_spans.specs.contracts.span.SpanPartialEq.TheImpl.{eq-value}
use Rattle.taint_spans.specs.declared.span.Span.{Span}
use Rattle.taint_spans.proofs.Members.{span-kept, span-same}
use Rattle.taint_spans.proofs.Standing.{within-list}

pub sound-first : (sets : plain.Numbered) → IsSound sets [] []
sound-first sets = record { are_spans = λ place span e. cc; are_settled = λ place span e. cc; none_behind = λ place h. refl }

settled-kept : (old new : plain.Numbered) (span : Span) (set : ℕ) → plain.StandAsBefore old new → IsSpan old span → IsSettled old span set → IsSettled new span set
settled-kept old new span set stand is settled = record {
  there = stand.there set settled.there;
  members = subst (λ l. HaveSame l (span_members new span)) (sym (stand.same set settled.there)) (subst (HaveSame (plain.members_of old set)) (sym (span-same old new span stand is)) settled.members);
}

pub sound-grown : (old new : plain.Numbered) (spans : List Span) (settled : List ℕ) → plain.StandAsBefore old new → IsSound old spans settled → IsSound new spans settled
sound-grown old new spans settled stand sound = record {
  are_spans = λ place span e. span-kept old new span stand (sound.are_spans place span e);
  are_settled = λ place span e. elim (sound.are_settled place span e) [ inl nought ↦ inl nought | inr is ↦ inr (settled-kept old new span (slice_index settled place) stand (sound.are_spans place span e) is) ];
  none_behind = sound.none_behind;
}

-- the same is remembered at each place
pub sound-alike : (sets : plain.Numbered) (spans : List Span) (settled more : List ℕ) → ((k : ℕ) → slice_index more k ≡ slice_index settled k) → IsSound sets spans settled → IsSound sets spans more
sound-alike sets spans settled more same sound = record {
  are_spans = sound.are_spans;
  are_settled = λ place span e. subst (λ n. (n ≡ 0) ⊎ IsSettled sets span n) (sym (same place)) (sound.are_settled place span e);
  none_behind = λ place h. same place ∙ sound.none_behind place h;
}

-- and at one place what stands for its span
pub sound-settled : (sets : plain.Numbered) (spans : List Span) (settled more : List ℕ) (place set : ℕ) (span : Span) → slice_get spans place ≡ Some span → IsSettled sets span set
    → ((k : ℕ) → (slice_index more k ≡ slice_index settled k) ⊎ ((k ≡ place) × (slice_index more k ≡ set))) → IsSound sets spans settled → IsSound sets spans more
sound-settled sets spans settled more place set span at is each sound = record {
  are_spans = sound.are_spans;
  are_settled = λ k other e. elim (each k) [
    | inl same ↦ subst (λ n. (n ≡ 0) ⊎ IsSettled sets other n) (sym same) (sound.are_settled k other e)
    | inr new ↦
        let one : Some span ≡ Some other = sym at ∙ (ap (slice_get spans) (sym new.0) ∙ e) in
        let same : span ≡ other = cc in
        inr (subst (λ n. IsSettled sets other n) (sym new.1) (subst (λ s. IsSettled sets s set) same is))
  ];
  none_behind = λ k h. elim (each k) [
    | inl same ↦ same ∙ sound.none_behind k h
    | inr new ↦ absurd (let below = within-list spans place span at in let here = new.0 in omega (arith, below, here, h))
  ];
}

-- one span more
push-cases : (spans : List Span) (span other : Span) (place : ℕ) → slice_get (spans ++ span ∷ []) place ≡ Some other → (slice_get spans place ≡ Some other) ⊎ ((place ≡ length spans) × (span ≡ other))
push-cases [] span other zero e = inr (refl, cc)
push-cases [] span other (suc place) e = cc
push-cases (x ∷ xs) span other zero e = inl e
push-cases (x ∷ xs) span other (suc place) e = elim (push-cases xs span other place e) [ inl was ↦ inl was | inr is ↦ inr ((let same = is.0 in omega arith), is.1) ]

push-before : {X : Type 0} (xs : List X) (x y : X) (place : ℕ) → slice_get xs place ≡ Some y → slice_get (xs ++ x ∷ []) place ≡ Some y
push-before [] x y place e = cc
push-before (z ∷ zs) x y zero e = e
push-before (z ∷ zs) x y (suc place) e = push-before zs x y place e

lists-push : (sets : plain.Numbered) (spans : List Span) (span : Span) → lists_of sets (spans ++ span ∷ []) ≡ lists_of sets spans ++ span_members sets span ∷ []
lists-push sets [] span = refl
lists-push sets (x ∷ xs) span = ap (λ l. span_members sets x ∷ l) (lists-push sets xs span)

sound-push : (sets : plain.Numbered) (spans : List Span) (settled : List ℕ) (span : Span) → IsSpan sets span → IsSound sets spans settled → IsSound sets (spans ++ span ∷ []) settled
sound-push sets spans settled span is sound = record {
  are_spans = λ place other e. elim (push-cases spans span other place e) [ inl was ↦ sound.are_spans place other was | inr new ↦ subst (IsSpan sets) new.1 is ];
  are_settled = λ place other e. elim (push-cases spans span other place e) [
    | inl was ↦ sound.are_settled place other was
    | inr new ↦ inl (sound.none_behind place (let here = new.0 in omega (arith, here)))
  ];
  none_behind = λ place h. sound.none_behind place (let more = length-append spans (span ∷ []) in omega (arith, more, h));
}

spans-push : (sets : plain.Numbered) (spans : List Span) (span : Span) → IsSpan sets span → AreSpans sets spans → AreSpans sets (spans ++ span ∷ [])
spans-push sets spans span is are place other e = elim (push-cases spans span other place e) [ inl was ↦ are place other was | inr new ↦ subst (IsSpan sets) new.1 is ]

-- spans with one more, or the same ones
pub sound-added : (sets : plain.Numbered) (old new : List Span) (settled : List ℕ) (span : Span) → (new ≡ old) ⊎ (new ≡ old ++ span ∷ []) → IsSpan sets span → IsSound sets old settled → IsSound sets new settled
sound-added sets old new settled span e is sound = elim e [
  | inl same ↦ subst (λ spans. IsSound sets spans settled) (sym same) sound
  | inr more ↦ subst (λ spans. IsSound sets spans settled) (sym more) (sound-push sets old settled span is sound)
]

pub spans-added : (sets : plain.Numbered) (old new : List Span) (span : Span) → (new ≡ old) ⊎ (new ≡ old ++ span ∷ []) → IsSpan sets span → AreSpans sets old → AreSpans sets new
spans-added sets old new span e is are = elim e [
  | inl same ↦ subst (λ spans. AreSpans sets spans) (sym same) are
  | inr more ↦ subst (λ spans. AreSpans sets spans) (sym more) (spans-push sets old span is are)
]

pub first-added : (sets : plain.Numbered) (old new : List Span) (span : Span) → (new ≡ old) ⊎ (new ≡ old ++ span ∷ [])
    → (place : ℕ) (members : List Item) → slice_get (lists_of sets old) place ≡ Some members → slice_get (lists_of sets new) place ≡ Some members
first-added sets old new span e place members at = elim e [
  | inl same ↦ subst (λ spans. slice_get (lists_of sets spans) place ≡ Some members) (sym same) at
  | inr more ↦ subst (λ spans. slice_get (lists_of sets spans) place ≡ Some members) (sym more) (subst (λ l. slice_get l place ≡ Some members) (sym (lists-push sets old span)) (push-before (lists_of sets old) (span_members sets span) members place at))
]

-- what equals a span by its fields is it
pub is-one : (span other : Span) → eq-value.it span other ≡ true → span ≡ other
is-one span other e = grind (arith, nat_tests, Decides-eqb)

-- a remembered number that isn't 0
pub known-settled : (sets : plain.Numbered) (spans : List Span) (settled : List ℕ) (place number : ℕ) (span : Span) → IsSound sets spans settled → slice_get spans place ≡ Some span → number ≡ slice_index settled place → 0 < number → IsSettled sets span number
known-settled sets spans settled place number span sound at e some = elim (sound.are_settled place span at) [
  | inl nought ↦ absurd (omega (arith, nought, e, some))
  | inr is ↦ subst (IsSettled sets span) (sym e) is
]

-- what was united stands for the span in the sets that it was united in
pub settled-now : (old new : plain.Numbered) (span : Span) (set : ℕ) → plain.StandAsBefore old new → IsSpan old span → plain.IsSet new set → HaveSame (plain.members_of new set) (span_members old span) → IsSettled new span set
settled-now old new span set stand is there same = record { there = there; members = subst (HaveSame (plain.members_of new set)) (sym (span-same old new span stand is)) same }
