-- An event has happened at its own moment.
use Rattle.std.proofs.Common.{◌≡◌, ℕ, suc, ◌+◌, ◌<◌, Bool, true, false, if◌then◌else◌, nat_le, List, [], ◌∷◌, length, map, filter, Option, Some, None, slice_get, unwrap_or, refl, ap, sym, subst, arith, add-zero, Contains, le-leb}
use Rattle.std.proofs.lemmas.Bool.Decides.{nat_tests}
use Rattle.std.proofs.lemmas.Option.{none-some, same_Some, slice_get-get_or}
use Rattle.arn_base.specs.declared.records.Record.{Record}
use Rattle.arn_base.specs.declared.records.Record.TheVariants as entry
use Rattle.acts_model.specs.Records.{is_event}
use Rattle.history_model.specs.Events.{how_many}
use Rattle.history_model.specs.Moments.{Numbered, ran_in, if_happened, events_from, events_until}
use Rattle.history_index.specs.Lookups.{if_kept, begin_after, moment_in, moments_from, event_moment}
use Rattle.query_model.specs.Answers.{moment_of}
use Rattle.query_laws.proofs.Lists.{first-in, later-in}

-- the numbers of events that have happened
abbrev pub numbers : List Numbered → List ℕ
numbers happened = map (λ e. e.number) happened

happened-first : (at moment k : ℕ) (e : Record) (rest : List Numbered) → at ≡ moment → Contains (numbers (if_happened (nat_le at moment) k e rest)) k
happened-first at moment k e rest is =
    subst (λ (b : Bool). Contains (numbers (if_happened b k e rest)) k) (sym (le-leb at moment (omega (arith, is)))) (first-in k (numbers rest))

happened-later : (b : Bool) (k j : ℕ) (e : Record) (rest : List Numbered) → Contains (numbers rest) j → Contains (numbers (if_happened b k e rest)) j
happened-later true k j e rest has = later-in k j (numbers rest) has
happened-later false k j e rest has = has

-- one event, which happens at this moment, and those behind it
happened-next : (at moment k n : ℕ) (e : Record) (rest : List Numbered) (moments : List ℕ) → ((n : ℕ) → slice_get moments n ≡ Some moment → Contains (numbers rest) (k + 1 + n))
    → slice_get (at ∷ moments) n ≡ Some moment → Contains (numbers (if_happened (nat_le at moment) k e rest)) (k + n)
happened-next at moment k n e rest moments h1 h2 = grind (arith, nat_tests, happened-first, happened-later, numbers, same_Some)

pub happened : (entries : List Record) (begins ends k n moment : ℕ) → slice_get (moments_from begins ends entries) n ≡ Some moment → Contains (numbers (events_from moment begins ends k entries)) (k + n)
happened [] begins ends k n moment is = absurd (none-some moment is)
happened (entry.Slice pid ran ∷ entries) begins ends k n moment is = happened entries ends (ends + ran) k n moment is
happened (entry.Signal pid signal cut handler ∷ entries) begins ends k n moment is =
    happened-next begins moment k n (entry.Signal pid signal cut handler) (events_from moment begins ends (k + 1) entries) (moments_from begins (ends + 0) entries)
    (λ n at. happened entries begins ends (k + 1) n moment (subst (λ (x : ℕ). slice_get (moments_from begins x entries) n ≡ Some moment) (add-zero ends) at)) is
happened (e ∷ entries) begins ends k n moment is =
    happened-next ends moment k n e (events_from moment begins ends (k + 1) entries) (moments_from begins (ends + 0) entries)
    (λ n at. happened entries begins ends (k + 1) n moment (subst (λ (x : ℕ). slice_get (moments_from begins x entries) n ≡ Some moment) (add-zero ends) at)) is

-- each event has a moment
as-many : (b : Bool) (m : ℕ) (e : Record) (ms : List ℕ) (es : List Record) → length ms ≡ length es → length (if_kept b m ms) ≡ length (if b then e ∷ es else es)
as-many true m e ms es h = ap suc h
as-many false m e ms es h = h

moments-len : (entries : List Record) (begins ends : ℕ) → length (moments_from begins ends entries) ≡ how_many entries
moments-len [] begins ends = refl
moments-len (e ∷ entries) begins ends =
    as-many (is_event e) (moment_in begins ends e) e (moments_from (begin_after begins ends e) (ends + ran_in e) entries) (filter is_event entries)
    (moments-len entries (begin_after begins ends e) (ends + ran_in e))

has-moment : (o : Option ℕ) (m : ℕ) → o ≡ Some m → o ≡ Some (unwrap_or o 0)
has-moment None m h = absurd (none-some m h)
has-moment (Some x) m h = refl

pub moment-is : (entries : List Record) (n : ℕ) → n < how_many entries → event_moment entries n ≡ Some (moment_of entries n)
moment-is entries n there =
    has-moment (event_moment entries n) _ (slice_get-get_or (moments_from 0 0 entries) n 0 (omega (arith, moments-len entries 0 0, there)))

pub has-happened : (entries : List Record) (n : ℕ) → n < how_many entries → Contains (numbers (events_until (moment_of entries n) entries)) n
has-happened entries n there =
    let same : 0 + n ≡ n = omega arith in
    subst (λ (j : ℕ). Contains (numbers (events_until (moment_of entries n) entries)) j) same (happened entries 0 0 0 n (moment_of entries n) (moment-is entries n there))
