-- The events that have happened at a moment, one after the other.
use Rattle.std.proofs.Common.{◌≡◌, ℕ, zero, suc, ◌+◌, nat_le, if◌then◌else◌, length, Bool, true, false, List, [], ◌∷◌, ◌++◌, Option, Some, None, unwrap_or, refl, sym, ap, ◌∙◌, slice_get, arith}
use Rattle.std.proofs.lemmas.Bool.Decides.{nat_tests}
use Rattle.arn_base.specs.declared.records.Record.{Record}
use Rattle.arn_base.specs.declared.records.Record.TheVariants as entry
use Rattle.acts_model.specs.Records.{LifeChange, life_told, lives_after}
use Rattle.history_index.specs.Lookups.{moments_from}
use Rattle.history_model.specs.Events.{events, how_many}
use Rattle.history_model.specs.Moments.{Numbered, events_from, events_until, if_happened, lives_at, lives_by, segment_at, segments_by, segments_told}
use Rattle.past_lives.specs.Happened.{happened, happened_by, held_by, life_after}
use Rattle.past_lives.specs.declared.segments.Source.{Source}

abbrev pub numbered : ℕ → Option Record → List Numbered
numbered n None = []
numbered n (Some e) = record { number = n; entry = e } ∷ []

-- those of the first so many events
abbrev pub first : List Record → ℕ → ℕ → List Numbered
first entries moment zero = []
first entries moment (suc k) = first entries moment k ++ numbered k (happened entries moment k)

-- events numbered from one on, with their moments
abbrev zipped : ℕ → ℕ → List Record → List ℕ → List Numbered
zipped moment n [] ms = []
zipped moment n (e ∷ es) [] = []
zipped moment n (e ∷ es) (m ∷ ms) = if_happened (nat_le m moment) n e (zipped moment (n + 1) es ms)

abbrev firsts : ℕ → ℕ → List Record → List ℕ → ℕ → List Numbered
firsts moment n es ms zero = []
firsts moment n es ms (suc k) = firsts moment n es ms k ++ numbered (n + k) (happened_by moment (slice_get es k) (slice_get ms k))

if-append : (t : Bool) (n : ℕ) (e : Record) (xs ys : List Numbered) → if_happened t n e xs ++ ys ≡ if_happened t n e (xs ++ ys)
if-append true n e xs ys = refl
if-append false n e xs ys = refl

if-alone : (t : Bool) (n : ℕ) (e : Record) → numbered n (if t then Some e else None) ≡ if_happened t n e []
if-alone true n e = refl
if-alone false n e = refl

firsts-cons : (moment n : ℕ) (e : Record) (es : List Record) (m : ℕ) (ms : List ℕ) (k : ℕ) → firsts moment n (e ∷ es) (m ∷ ms) (suc k) ≡ if_happened (nat_le m moment) n e (firsts moment (n + 1) es ms k)
firsts-cons moment n e es m ms zero = grind (arith, nat_tests, if-alone (nat_le m moment) n e)
firsts-cons moment n e es m ms (suc k) = grind (arith, nat_tests, firsts-cons moment n e es m ms k, if-append (nat_le m moment) n e (firsts moment (n + 1) es ms k) (numbered ((n + 1) + k) (happened_by moment (slice_get es k) (slice_get ms k))))

none-by : (moment : ℕ) (o : Option Record) → happened_by moment o None ≡ None
none-by moment None = refl
none-by moment (Some e) = refl

abbrev no_moments : List ℕ
no_moments = []

no-moments : (k : ℕ) → slice_get no_moments k ≡ None
no-moments zero = refl
no-moments (suc k) = refl

firsts-none : (moment n : ℕ) (es : List Record) (k : ℕ) → firsts moment n es [] k ≡ []
firsts-none moment n es zero = refl
firsts-none moment n es (suc k) = grind (arith, nat_tests, no-moments k, none-by moment (slice_get es k), firsts-none moment n es k)

zipped-firsts : (moment n : ℕ) (es : List Record) (ms : List ℕ) → zipped moment n es ms ≡ firsts moment n es ms (length es)
zipped-firsts moment n [] ms = refl
zipped-firsts moment n (e ∷ es) [] = sym (firsts-none moment n (e ∷ es) (length (e ∷ es)))
zipped-firsts moment n (e ∷ es) (m ∷ ms) = ap (if_happened (nat_le m moment) n e) (zipped-firsts moment (n + 1) es ms) ∙ sym (firsts-cons moment n e es m ms (length es))

-- an event at a moment, and what comes behind it
at-rest : (moment begins ends n : ℕ) (e : Record) (at : ℕ) (entries : List Record) → events_from moment begins ends (n + 1) entries ≡ zipped moment (n + 1) (events entries) (moments_from begins ends entries)
    → if_happened (nat_le at moment) n e (events_from moment begins ends (n + 1) entries) ≡ zipped moment n (e ∷ events entries) (at ∷ moments_from begins (ends + 0) entries)
at-rest moment begins ends n e at entries h1 = grind (arith, nat_tests, zipped)

from-zipped : (moment begins ends n : ℕ) (entries : List Record) → events_from moment begins ends n entries ≡ zipped moment n (events entries) (moments_from begins ends entries)
from-zipped moment begins ends n [] = refl
from-zipped moment begins ends n (entry.Slice pid ran ∷ entries) = from-zipped moment ends (ends + ran) n entries
from-zipped moment begins ends n (entry.Signal pid signal cut handler ∷ entries) = at-rest moment begins ends n (entry.Signal pid signal cut handler) begins entries (from-zipped moment begins ends (n + 1) entries)
from-zipped moment begins ends n (e ∷ entries) = at-rest moment begins ends n e ends entries (from-zipped moment begins ends (n + 1) entries)

firsts-first : (entries : List Record) (moment k : ℕ) → firsts moment 0 (events entries) (moments_from 0 0 entries) k ≡ first entries moment k
firsts-first entries moment zero = refl
firsts-first entries moment (suc k) = grind (arith, nat_tests, firsts-first entries moment k)

-- all of them
pub until-all : (entries : List Record) (moment : ℕ) → events_until moment entries ≡ first entries moment (how_many entries)
until-all entries moment =
    from-zipped moment 0 0 0 entries ∙ (zipped-firsts moment 0 (events entries) (moments_from 0 0 entries) ∙ firsts-first entries moment (how_many entries))

-- who lives after one event more

lives-append : (xs ys : List Numbered) (pid : ℕ) (before : Bool) → lives_by (xs ++ ys) pid before ≡ lives_by ys pid (lives_by xs pid before)
lives-append [] ys pid before = refl
lives-append (x ∷ xs) ys pid before = lives-append xs ys pid (lives_after (life_told x.entry) pid before)

abbrev pub lives_first : List Record → ℕ → ℕ → ℕ → Bool
lives_first entries moment pid k = lives_by (first entries moment k) pid false

pub lives-all : (entries : List Record) (moment pid : ℕ) → lives_at entries moment pid ≡ lives_first entries moment pid (how_many entries)
lives-all entries moment pid = ap (λ (xs : List Numbered). lives_by xs pid false) (until-all entries moment)

lives-next : (entries : List Record) (moment pid k : ℕ) (o : Option Record) → happened entries moment k ≡ o → lives_first entries moment pid (suc k) ≡ lives_by (numbered k o) pid (lives_first entries moment pid k)
lives-next entries moment pid k o is =
    ap (λ (o : Option Record). lives_by (first entries moment k ++ numbered k o) pid false) is ∙ lives-append (first entries moment k) (numbered k o) pid false

pub lives-passed : (entries : List Record) (moment pid k : ℕ) → happened entries moment k ≡ None → lives_first entries moment pid (suc k) ≡ lives_first entries moment pid k
lives-passed entries moment pid k is = lives-next entries moment pid k None is

own-life : (c : LifeChange) (pid : ℕ) (before : Bool) → lives_after c pid before ≡ unwrap_or (life_after c pid) before
own-life c pid before = grind (arith, nat_tests)

pub lives-told : (entries : List Record) (moment pid k : ℕ) (e : Record) (o : Option Bool) → happened entries moment k ≡ Some e → life_after (life_told e) pid ≡ o
    → lives_first entries moment pid (suc k) ≡ unwrap_or o (lives_first entries moment pid k)
lives-told entries moment pid k e o is told = cc (lives-next entries moment pid k (Some e) is, own-life (life_told e) pid (lives_first entries moment pid k))

-- and who holds which segment

segments-append : (xs ys : List Numbered) (held : ℕ → Option ℕ) → segments_by (xs ++ ys) held ≡ segments_by ys (segments_by xs held)
segments-append [] ys held = refl
segments-append (x ∷ xs) ys held = segments-append xs ys (segments_told x.number x.entry held)

abbrev pub held_first : List Record → ℕ → ℕ → ℕ → Option ℕ
held_first entries moment k = segments_by (first entries moment k) (λ q. None)

pub held-all : (entries : List Record) (moment pid : ℕ) → segment_at entries moment pid ≡ held_first entries moment (how_many entries) pid
held-all entries moment pid = ap (λ (xs : List Numbered). segments_by xs (λ q. None) pid) (until-all entries moment)

held-next : (entries : List Record) (moment pid k : ℕ) (o : Option Record) → happened entries moment k ≡ o → held_first entries moment (suc k) pid ≡ segments_by (numbered k o) (held_first entries moment k) pid
held-next entries moment pid k o h1 = grind (arith, nat_tests, first, numbered, segments-append)

pub held-passed : (entries : List Record) (moment pid k : ℕ) → happened entries moment k ≡ None → held_first entries moment (suc k) pid ≡ held_first entries moment k pid
held-passed entries moment pid k is = held-next entries moment pid k None is

pub held-traced : (entries : List Record) (moment pid k : ℕ) (e : Record) (s : Source) → happened entries moment k ≡ Some e
    → ((held : ℕ → Option ℕ) → held_by s held ≡ segments_told k e held pid) → held_first entries moment (suc k) pid ≡ held_by s (held_first entries moment k)
held-traced entries moment pid k e s is traced = held-next entries moment pid k (Some e) is ∙ sym (traced (held_first entries moment k))
