-- What one more record does to what records tell.
use Rattle.std.proofs.Common.{◌≡◌, ℕ, suc, ◌+◌, Bool, true, false, if◌then◌else◌, List, [], ◌∷◌, ◌++◌, length, Option, Some, None, refl, ap, sym, ◌∙◌, arith, append_assoc, add-zero, append-nil}
use Rattle.std.proofs.lemmas.List.Elements.{filter-append}
use Rattle.arn_base.specs.declared.records.Record.{Record}
use Rattle.arn_base.specs.declared.records.Record.TheVariants as entry
use Rattle.acts_model.specs.Records.{is_event}
use Rattle.history_model.specs.Broken.{Behind, behind_from, behind_record, broken_from, first_broken, cant_follow, greatest_from, greatest_after}
use Rattle.history_model.specs.Events.{events, how_many}
use Rattle.history_model.specs.Groups.{Groups, groups_from, groups_told, count_from, ran_for}
use Rattle.history_model.specs.Moments.{ran_in, total}
use Rattle.history_index.specs.declared.slices.SliceAt.{SliceAt}
use Rattle.history_index.specs.Indexes.{begin_from}
use Rattle.history_index.specs.Lookups.{if_kept, places_from, moment_in, begin_after, moments_from, slice_in, slices_from, events_in}

pub total-snoc : (entries : List Record) (e : Record) → total (entries ++ e ∷ []) ≡ total entries + ran_in e
total-snoc [] e = omega arith
total-snoc (x ∷ entries) e = let h = total-snoc entries e in omega arith

pub behind-snoc : (b : Behind) (entries : List Record) (e : Record) → behind_from b (entries ++ e ∷ []) ≡ behind_record (behind_from b entries) e
behind-snoc b [] e = refl
behind-snoc b (x ∷ entries) e = behind-snoc (behind_record b x) entries e

pub greatest-snoc : (n : ℕ) (entries : List Record) (e : Record) → greatest_from n (entries ++ e ∷ []) ≡ greatest_after e (greatest_from n entries)
greatest-snoc n [] e = refl
greatest-snoc n (x ∷ entries) e = greatest-snoc (greatest_after x n) entries e

pub groups-snoc : (groups : Groups) (entries : List Record) (e : Record) → groups_from (entries ++ e ∷ []) groups ≡ groups_told e (groups_from entries groups)
groups-snoc groups [] e = refl
groups-snoc groups (x ∷ entries) e = groups-snoc (groups_told x groups) entries e

pub begin-snoc : (begins ends : ℕ) (entries : List Record) (e : Record) → begin_from begins ends (entries ++ e ∷ []) ≡ begin_after (begin_from begins ends entries) (ends + total entries) e
begin-snoc begins ends [] e = rw add-zero refl
begin-snoc begins ends (x ∷ entries) e =
    let same : ends + (ran_in x + 0) + total entries ≡ ends + (ran_in x + total entries) = omega arith in
    begin-snoc (begin_after begins ends x) (ends + (ran_in x + 0)) entries e ∙ ap (λ (k : ℕ). begin_after (begin_from (begin_after begins ends x) (ends + (ran_in x + 0)) entries) k e) same

pub if_kept-append : {A : Type 0} (test : Bool) (x : A) (xs ys : List A) → if_kept test x xs ++ ys ≡ if_kept test x (xs ++ ys)
if_kept-append true x xs ys = refl
if_kept-append false x xs ys = refl

pub events-snoc : (entries : List Record) (e : Record) → events (entries ++ e ∷ []) ≡ events entries ++ if_kept (is_event e) e []
events-snoc entries e = filter-append is_event entries (e ∷ [])

pub places-snoc : (place : ℕ) (entries : List Record) (e : Record) → places_from place (entries ++ e ∷ []) ≡ places_from place entries ++ if_kept (is_event e) (place + length entries) []
places-snoc place [] e = rw add-zero refl
places-snoc place (x ∷ entries) e =
    let same : place + 1 + length entries ≡ place + suc (length entries) = omega arith in
    ap (λ (xs : List ℕ). if_kept (is_event x) place xs) (places-snoc (place + 1) entries e ∙ ap (λ (k : ℕ). places_from (place + 1) entries ++ if_kept (is_event e) k []) same)
    ∙ sym (if_kept-append (is_event x) place (places_from (place + 1) entries) (if_kept (is_event e) (place + suc (length entries)) []))

pub moments-snoc : (begins ends : ℕ) (entries : List Record) (e : Record) → moments_from begins ends (entries ++ e ∷ []) ≡ moments_from begins ends entries ++ if_kept (is_event e) (moment_in (begin_from begins ends entries) (ends + total entries) e) []
moments-snoc begins ends [] e = rw add-zero refl
moments-snoc begins ends (x ∷ entries) e =
    let b = begin_after begins ends x in
    let plain : ends + (ran_in x + 0) ≡ ends + ran_in x = omega arith in
    let same : ends + ran_in x + total entries ≡ ends + (ran_in x + total entries) = omega arith in
    let rest : moments_from b (ends + ran_in x) (entries ++ e ∷ []) ≡ moments_from b (ends + ran_in x) entries ++ if_kept (is_event e) (moment_in (begin_from b (ends + (ran_in x + 0)) entries) (ends + (ran_in x + total entries)) e) [] =
    moments-snoc b (ends + ran_in x) entries e
    ∙ ap (λ (k : ℕ). moments_from b (ends + ran_in x) entries ++ if_kept (is_event e) (moment_in (begin_from b (ends + ran_in x) entries) k e) []) same
    ∙ ap (λ (k : ℕ). moments_from b (ends + ran_in x) entries ++ if_kept (is_event e) (moment_in (begin_from b k entries) (ends + (ran_in x + total entries)) e) []) (sym plain) in
    ap (λ (xs : List ℕ). if_kept (is_event x) (moment_in begins ends x) xs) rest
    ∙ sym (if_kept-append (is_event x) (moment_in begins ends x) (moments_from b (ends + ran_in x) entries) (if_kept (is_event e) (moment_in (begin_from b (ends + (ran_in x + 0)) entries) (ends + (ran_in x + total entries)) e) []))

slice_in-append : (place moment event : ℕ) (e : Record) (xs ys : List SliceAt) → slice_in place moment event e xs ++ ys ≡ slice_in place moment event e (xs ++ ys)
slice_in-append place moment event (entry.File name bytes) xs ys = refl
slice_in-append place moment event _ xs ys = refl

how_many-cons : (e : Record) (entries : List Record) → how_many (e ∷ entries) ≡ events_in e + how_many entries
how_many-cons (entry.File name bytes) entries = omega arith
how_many-cons _ entries = omega arith

pub slices-snoc : (place moment event : ℕ) (entries : List Record) (e : Record) → slices_from place moment event (entries ++ e ∷ []) ≡ slices_from place moment event entries ++ slice_in (place + length entries) (moment + total entries) (event + how_many entries) e []
slices-snoc place moment event [] e = simp add-zero
slices-snoc place moment event (x ∷ entries) e =
    let places : place + 1 + length entries ≡ place + suc (length entries) = omega arith in
    let moments : moment + ran_in x + total entries ≡ moment + (ran_in x + total entries) = omega arith in
    let numbers : event + events_in x + how_many entries ≡ event + how_many (x ∷ entries) = omega (arith, how_many-cons x entries) in
    let front = slices_from (place + 1) (moment + ran_in x) (event + events_in x) entries in
    ap (λ (xs : List SliceAt). slice_in place moment event x xs)
    (slices-snoc (place + 1) (moment + ran_in x) (event + events_in x) entries e
    ∙ ap (λ (k : ℕ). front ++ slice_in k (moment + ran_in x + total entries) (event + events_in x + how_many entries) e []) places
    ∙ ap (λ (k : ℕ). front ++ slice_in (place + suc (length entries)) k (event + events_in x + how_many entries) e []) moments
    ∙ ap (λ (k : ℕ). front ++ slice_in (place + suc (length entries)) (moment + (ran_in x + total entries)) k e []) numbers)
    ∙ sym (slice_in-append place moment event x front (slice_in (place + suc (length entries)) (moment + (ran_in x + total entries)) (event + how_many (x ∷ entries)) e []))

pub count-snoc : (g : ℕ) (groups : Groups) (entries : List Record) (e : Record) → count_from g groups (entries ++ e ∷ []) ≡ count_from g groups entries + ran_for g groups e
count-snoc g groups [] e = omega arith
count-snoc g groups (x ∷ entries) e = let h = count-snoc g groups entries e in omega arith

-- records before the first broken one don't tell where it is
step-broken : (b : Bool) (n : ℕ) (rest rest_more target : Option ℕ) → (if b then Some n else rest) ≡ None → (rest ≡ None → rest_more ≡ target) → (if b then Some n else rest_more) ≡ target
step-broken true n rest rest_more target none goes_on = cc
step-broken false n rest rest_more target none goes_on = goes_on none

pub broken-append : (before entries rest : List Record) → broken_from before entries ≡ None → broken_from before (entries ++ rest) ≡ broken_from (before ++ entries) rest
broken-append before [] rest none = ap (λ (xs : List Record). broken_from xs rest) (sym (append-nil before))
broken-append before (x ∷ entries) rest none =
    step-broken (cant_follow before x) (length before) (broken_from (before ++ x ∷ []) entries) (broken_from (before ++ x ∷ []) (entries ++ rest)) (broken_from (before ++ x ∷ entries) rest) none
    (λ h. broken-append (before ++ x ∷ []) entries rest h ∙ ap (λ (xs : List Record). broken_from xs rest) (append_assoc before (x ∷ []) entries))

broken-next : (b : Bool) (n : ℕ) (rest : Option ℕ) → b ≡ true → (if b then Some n else rest) ≡ Some n
broken-next true n rest is = refl
broken-next false n rest is = cc

stands-next : (b : Bool) (n : ℕ) (rest : Option ℕ) → b ≡ false → (if b then Some n else rest) ≡ rest
stands-next true n rest is = cc
stands-next false n rest is = refl

pub stands-snoc : (entries : List Record) (e : Record) → first_broken entries ≡ None → cant_follow entries e ≡ false → first_broken (entries ++ e ∷ []) ≡ None
stands-snoc entries e none stands = broken-append [] entries (e ∷ []) none ∙ stands-next (cant_follow entries e) (length entries) None stands

pub broken-here : (entries rest : List Record) (e : Record) → first_broken entries ≡ None → cant_follow entries e ≡ true → first_broken (entries ++ e ∷ rest) ≡ Some (length entries)
broken-here entries rest e none broken =
    broken-append [] entries (e ∷ rest) none ∙ broken-next (cant_follow entries e) (length entries) (broken_from (entries ++ e ∷ []) rest) broken
