-- Numbers of sets that are carried over.
use Rattle.std.proofs.Common.{◌≡◌, ◌⊎◌, ℕ, zero, suc, ◌+◌, ◌-◌, ◌<◌, ◌≤◌, ◌==◌, ◌++◌, nat_lt, Bool, true, false, List, [], ◌∷◌, length, slice_get, slice_index, slice_index_or, slice_set, Option, Some, None, Result, Ok, Err, IfOk, inl, inr, refl, sym, ap, subst, ◌∙◌, arith}
use Rattle.std.proofs.lemmas.Bool.{eqb-true, eqb-false, ltb-true, ltb-false}
use Rattle.std.proofs.lemmas.Grind.{get_or-set_at}
use Rattle.std.proofs.lemmas.List.{get_or-set_other, length-set}
use Rattle.arn_base.specs.declared.errors.NoMemory.{NoMemory}
use Rattle.set_store.specs.declared.item.Item.{Item}
use Rattle.taint_sets.specs.Carried as inner
use Rattle.taint_sets.specs.Numbered as plain
use Rattle.taint_spans.specs.Carried.{Carried, CarriesOn, HasNumber, HaveNumbers, KeepZeros}
use Rattle.taint_spans.specs.Numbered.{IsSet, IsSpanOf, StandAsBefore, first_received, first_span, is_span, members_of}
use Rattle.taint_spans.specs.Sound.{AreSpans, IsCarrying, carried_of, lists_of}
use Rattle.taint_spans.specs.Spans.{IsSpan, members_from, span_members}
use Rattle.taint_spans.specs.declared.span.Span.{Span}
use Rattle.taint_spans.proofs.Keeping.{first-added, spans-added}
use Rattle.taint_spans.proofs.Members.{from-next, from-none, span-kept}
use Rattle.taint_spans.proofs.Standing.{behind-spans, lists-same, numbered-members, plain-before, plain-members, plain-set, set-plain, stand-both}

-- received bytes keep their numbers
abbrev pub KeepReceived : inner.Carried → Type 0
KeepReceived p = (n : ℕ) → first_received ≤ n → inner.HasNumber p n n

-- a number that isn't a span's
pub plain-has : (p : inner.Carried) (from into : List Span) (was is : ℕ) → is_span was ≡ false → is_span is ≡ false → inner.HasNumber p was is → HasNumber (carried_of p from into) was is
plain-has p from into was is d e h = record {
  there = λ set. plain-set (carried_of p from into).into is e (h.there (set-plain (carried_of p from into).from was d set));
  same = plain-members (carried_of p from into).into is e ∙ (h.same ∙ sym (plain-members (carried_of p from into).from was d));
  given = λ small. plain-set (carried_of p from into).into is e (h.given small);
}

-- what still holds
pub still-on : (old new : Carried) → new.from ≡ old.from → StandAsBefore old.into new.into → ((n : ℕ) → first_received ≤ n → members_of new.into n ≡ members_of old.into n) → CarriesOn old new
still-on old new from stands large = record { from = from; still = still }
  where
    still : (was is : ℕ) → HasNumber old was is → HasNumber new was is
    still was is h = record {
      there = λ set. stands.there is (h.there (subst (λ s. IsSet s was) from set));
      same = by (nat_lt is first_received) refl ∙ (h.same ∙ ap (λ s. members_of s was) (sym from));
      given = λ small. stands.there is (h.given small);
    }
      where
        by : (b : Bool) → nat_lt is first_received ≡ b → members_of new.into is ≡ members_of old.into is
        by true e = stands.same is (h.given (ltb-true is first_received e))
        by false e = large is (ltb-false is first_received e)

pub spans-kept : (old new : plain.Numbered) (spans : List Span) → plain.StandAsBefore old new → AreSpans old spans → AreSpans new spans
spans-kept old new spans stand are place span at = span-kept old new span stand (are place span at)

-- more plain sets are carried over
pub carries-plain : (p q : inner.Carried) (from into : List Span) → AreSpans p.into into → inner.CarriesOn p q → KeepReceived p → CarriesOn (carried_of p from into) (carried_of q from into)
carries-plain p q from into are on keeps =
    still-on (carried_of p from into) (carried_of q from into) (ap (λ s. record { sets = s; spans = lists_of s from }) on.from)
    (stand-both p.into q.into (lists_of p.into into) (lists_of q.into into) on.stands (lists-same p.into q.into into on.stands are)) large
  where
    large : (n : ℕ) → first_received ≤ n → members_of (carried_of q from into).into n ≡ members_of (carried_of p from into).into n
    large n least =
        plain-members (carried_of q from into).into n (behind-spans n least)
        ∙ ((on.still n n (keeps n least)).same
        ∙ (ap (λ s. plain.members_of s n) on.from
        ∙ (sym (keeps n least).same ∙ sym (plain-members (carried_of p from into).into n (behind-spans n least)))))

-- more spans are kept
pub carries-spans : (p : inner.Carried) (from into more : List Span) → StandAsBefore (carried_of p from into).into (carried_of p from more).into → CarriesOn (carried_of p from into) (carried_of p from more)
carries-spans p from into more stands =
    still-on (carried_of p from into) (carried_of p from more) refl stands
    (λ n least. plain-members (carried_of p from more).into n (behind-spans n least) ∙ sym (plain-members (carried_of p from into).into n (behind-spans n least)))

-- a span whose set is carried over
pub carried-span : (q : inner.Carried) (span : Span) (base : ℕ) → inner.HasNumber q span.base base → IsSpan q.from span → KeepReceived q → IsSpan q.into (record { base = base; first = span.first; len = span.len })
carried-span q span base has is keeps = record {
  base = has.there is.base;
  fits = is.fits;
  bytes = λ k h. let least = is.received (omega (arith, h)) in (keeps (span.first + k) (omega (arith, least))).there (is.bytes k h);
  received = is.received;
}

from-carried : (q : inner.Carried) (first count : ℕ) → KeepReceived q → (0 < count → first_received ≤ first) → members_from q.into first count ≡ members_from q.from first count
from-carried q first zero keeps large = from-none q.into first ∙ sym (from-none q.from first)
from-carried q first (suc count) keeps large =
    let least = large (omega arith) in
    from-next q.into first count
    ∙ (ap (λ l. l ++ plain.members_of q.into (first + count)) (from-carried q first count keeps (λ some. least))
    ∙ (ap (λ l. members_from q.from first count ++ l) (keeps (first + count) (omega (arith, least))).same ∙ sym (from-next q.from first count)))

pub carried-members : (q : inner.Carried) (span : Span) (base : ℕ) → inner.HasNumber q span.base base → IsSpan q.from span → KeepReceived q → span_members q.into (record { base = base; first = span.first; len = span.len }) ≡ span_members q.from span
carried-members q span base has is keeps =
    ap (λ l. l ++ members_from q.into span.first span.len) has.same ∙ ap (λ l. plain.members_of q.from span.base ++ l) (from-carried q span.first span.len keeps is.received)

pub on-same : (sets : Carried) → CarriesOn sets sets
on-same sets = record { from = refl; still = λ was is h. h }

pub on-twice : (a b c : Carried) → CarriesOn a b → CarriesOn b c → CarriesOn a c
on-twice a b c f g = record { from = g.from ∙ f.from; still = λ was is h. g.still was is (f.still was is h) }

-- the numbers before a place are carried over, and those from it on aren't yet
pub record CarriedTo (begun now : Carried) (first numbers : List ℕ) (place : ℕ) : Type 0 where
  pub len : length numbers ≡ length first
  pub done : (k : ℕ) → k < place → HasNumber now (slice_index_or first k 0) (slice_index_or numbers k 0)
  pub rest : (k : ℕ) → place ≤ k → slice_index_or numbers k 0 ≡ slice_index_or first k 0
  pub zeros : KeepZeros first numbers
  pub on : CarriesOn begun now

pub carried-first : (sets : Carried) (numbers : List ℕ) → CarriedTo sets sets numbers numbers 0
carried-first sets numbers = record { len = refl; done = λ k below. absurd (omega arith); rest = λ k from. refl; zeros = λ k e. e; on = on-same sets }

-- one more number has another in its place
pub carried-more : (begun now next : Carried) (first numbers : List ℕ) (place number : ℕ) → CarriedTo begun now first numbers place → place < length numbers → CarriesOn now next
    → HasNumber next (slice_index_or numbers place 0) number → (slice_index_or numbers place 0 ≡ 0 → number ≡ 0) → CarriedTo begun next first (slice_set numbers place number) (place + 1)
carried-more begun now next first numbers place number so inside on one empty = record {
  len = length-set numbers place number ∙ so.len;
  done = λ k below. done k below (k == place) refl;
  rest = λ k behind. get_or-set_other numbers place k number 0 (λ e. omega (arith, behind, e)) ∙ so.rest k (omega (arith, behind));
  zeros = λ k e. zeros k (so.zeros k e) (k == place) refl;
  on = on-twice begun now next so.on on;
}
  where
    done : (k : ℕ) → k < place + 1 → (b : Bool) → (k == place) ≡ b → HasNumber next (slice_index_or first k 0) (slice_index_or (slice_set numbers place number) k 0)
    done k below true e =
        let same = eqb-true k place e in
        subst (HasNumber next (slice_index_or first k 0)) (sym (get_or-set_at numbers place k number 0 same inside))
        (subst (λ n. HasNumber next n number) (ap (λ j. slice_index_or numbers j 0) (sym same) ∙ so.rest k (omega (arith, same))) one)
    done k below false e =
        let apart = eqb-false k place e in
        subst (HasNumber next (slice_index_or first k 0)) (sym (get_or-set_other numbers place k number 0 apart)) (on.still (slice_index_or first k 0) (slice_index_or numbers k 0) (so.done k (omega (arith, below, apart))))

    zeros : (k : ℕ) → slice_index_or numbers k 0 ≡ 0 → (b : Bool) → (k == place) ≡ b → slice_index_or (slice_set numbers place number) k 0 ≡ 0
    zeros k e true t = let same = eqb-true k place t in get_or-set_at numbers place k number 0 same inside ∙ empty (ap (λ j. slice_index_or numbers j 0) (sym same) ∙ e)
    zeros k e false t = get_or-set_other numbers place k number 0 (eqb-false k place t) ∙ e

pub carried-all : (begun now : Carried) (first numbers : List ℕ) (place : ℕ) → CarriedTo begun now first numbers place → length first ≤ place → HaveNumbers now first numbers
carried-all begun now first numbers place so all = record { len = so.len; each = λ k below. so.done k (omega (arith, below, all)) }

pub still-received : (p q : inner.Carried) → inner.CarriesOn p q → KeepReceived p → KeepReceived q
still-received p q on keeps n least = on.still n n (keeps n least)

pub no-spans : (sets : plain.Numbered) → AreSpans sets []
no-spans sets place span at = cc

-- a number that was kept for a span
pub has-kept : (r : Result ℕ NoMemory) (sets : Carried) (was : ℕ) (members : List Item) → IfOk r (IsSet sets.into) → IfOk r (λ is. members_of sets.into is ≡ members) → members_of sets.from was ≡ members → IfOk r (HasNumber sets was)
has-kept (Ok is) sets was members there same from = record { there = λ set. there; same = same ∙ sym from; given = λ small. there }
has-kept (Err e) sets was members there same from = there

pub none-from : (o : Option Span) → ((span : Span) → o ≡ Some span → ⊥) → o ≡ None
none-from None not = refl
none-from (Some span) not = absurd (not span refl)

-- numbers that are remembered, as places of spans
abbrev AreNumbers : Carried → List ℕ → Type 0
AreNumbers sets numbers = (place : ℕ) → (slice_index numbers place ≡ 0) ⊎ HasNumber sets (first_span + place) (slice_index numbers place)

still-numbers : (old new : Carried) (numbers : List ℕ) → CarriesOn old new → AreNumbers old numbers → AreNumbers new numbers
still-numbers old new numbers on are place = elim (are place) [ inl nought ↦ inl nought | inr has ↦ inr (on.still (first_span + place) (slice_index numbers place) has) ]

-- no span is carried over yet
pub carrying-first : (p : inner.Carried) (from into : List Span) → AreSpans p.from from → into ≡ [] → IsCarrying p from into []
carrying-first p from into are none = record {
  from = are;
  into = subst (AreSpans p.into) (sym none) (no-spans p.into);
  numbers = λ place. inl refl;
}

-- more plain sets are carried over
pub carrying-plain : (p q : inner.Carried) (from into : List Span) (numbers : List ℕ) → IsCarrying p from into numbers → inner.CarriesOn p q → KeepReceived p → IsCarrying q from into numbers
carrying-plain p q from into numbers is on keeps = record {
  from = subst (λ sets. AreSpans sets from) (sym on.from) is.from;
  into = spans-kept p.into q.into into on.stands is.into;
  numbers = still-numbers (carried_of p from into) (carried_of q from into) numbers (carries-plain p q from into is.into on keeps) is.numbers;
}

-- a span more is kept
pub carries-span : (p : inner.Carried) (from into more : List Span) (span : Span) → (more ≡ into) ⊎ (more ≡ into ++ span ∷ []) → CarriesOn (carried_of p from into) (carried_of p from more)
carries-span p from into more span e =
    carries-spans p from into more (stand-both p.into p.into (lists_of p.into into) (lists_of p.into more) (plain-before p.into) (first-added p.into into more span e))

pub carrying-span : (p : inner.Carried) (from into more : List Span) (numbers : List ℕ) (span : Span) → (more ≡ into) ⊎ (more ≡ into ++ span ∷ []) → IsSpan p.into span → IsCarrying p from into numbers → IsCarrying p from more numbers
carrying-span p from into more numbers span e one is = record {
  from = is.from;
  into = spans-added p.into into more span e one is.into;
  numbers = still-numbers (carried_of p from into) (carried_of p from more) numbers (carries-span p from into more span e) is.numbers;
}

-- one more number is remembered, at the place of its span or at none
pub carrying-number : (p : inner.Carried) (from into : List Span) (numbers more : List ℕ) (set number : ℕ) → first_span ≤ set → HasNumber (carried_of p from into) set number
    → ((k : ℕ) → (slice_index more k ≡ slice_index numbers k) ⊎ ((k ≡ set - first_span) × (slice_index more k ≡ number))) → IsCarrying p from into numbers → IsCarrying p from into more
carrying-number p from into numbers more set number least has each is = record {
  from = is.from;
  into = is.into;
  numbers = λ k. elim (each k) [
    | inl same ↦ subst (λ n. (n ≡ 0) ⊎ HasNumber (carried_of p from into) (first_span + k) n) (sym same) (is.numbers k)
    | inr new ↦
        let place = new.0 in
        let at : set ≡ first_span + k = omega (arith, place, least) in
        inr (subst (HasNumber (carried_of p from into) (first_span + k)) (sym new.1) (subst (λ j. HasNumber (carried_of p from into) j number) at has))
  ];
}

-- a number that is remembered
pub known-number : (p : inner.Carried) (from into : List Span) (numbers : List ℕ) (place number : ℕ) → IsCarrying p from into numbers → number ≡ slice_index numbers place → 0 < number → HasNumber (carried_of p from into) (first_span + place) number
known-number p from into numbers place number is e some = elim (is.numbers place) [
  | inl nought ↦ absurd (omega (arith, nought, e, some))
  | inr has ↦ subst (HasNumber (carried_of p from into) (first_span + place)) (sym e) has
]

-- the span of a number of before
pub from-span : (p : inner.Carried) (from into : List Span) (numbers : List ℕ) (set place : ℕ) (span : Span) → IsCarrying p from into numbers → is_span set ≡ true → set ≡ first_span + place → slice_get from place ≡ Some span → IsSpanOf (carried_of p from into).from set span
from-span p from into numbers set place span is t e at = record {
  is = is.from place span at;
  members = numbered-members p.from from set span t (let same : set - first_span ≡ place = omega (arith, e) in ap (slice_get from) same ∙ at);
}
