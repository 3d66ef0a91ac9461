-- The groups that wrote bytes, and what is asked of these, one byte after the other.
use Rattle.std.proofs.Common.{◌≡◌, ℕ, zero, suc, ◌+◌, ◌<◌, List, [], ◌∷◌, ◌++◌, append-nil, length, take, get_or, Option, Some, None, option_to_list, refl, sym, ap, ◌∙◌, arith}
use Rattle.std.specs.List.{cons_option}
use Rattle.std.proofs.lemmas.List.{take_more}
use Rattle.arn_base.specs.declared.records.Record.{Record}
use Rattle.history_model.specs.Groups.{event_group}
use Rattle.lineage_join.specs.declared.demand.Demand.{Demand}
use Rattle.lineage_join.specs.declared.demand.Demand.TheVariants as demand
use Rattle.lineage_join.specs.declared.demand.Place.TheVariants as place
use Rattle.parts_model.specs.declared.tagged.TaggedByte.{TaggedByte}
use Rattle.query_model.specs.Names.{writers}
use Rattle.followed_pairs.specs.Names.{writer_demand, writer_demands}

-- the group of one byte more
abbrev pub group_in : List Record → TaggedByte → Option ℕ
group_in entries b = event_group entries b.origin.event

one-writer : (o : Option ℕ) (xs ys : List ℕ) → cons_option o (xs ++ ys) ≡ cons_option o xs ++ ys
one-writer None xs ys = refl
one-writer (Some g) xs ys = refl

to-list : (o : Option ℕ) → cons_option o [] ≡ option_to_list o
to-list None = refl
to-list (Some g) = refl

writers-append : (entries : List Record) (xs : List TaggedByte) (b : TaggedByte) → writers entries (xs ++ b ∷ []) ≡ writers entries xs ++ option_to_list (group_in entries b)
writers-append entries [] b = to-list (group_in entries b)
writers-append entries (x ∷ xs) b =
    ap (cons_option (group_in entries x)) (writers-append entries xs b) ∙ one-writer (group_in entries x) (writers entries xs) (option_to_list (group_in entries b))

pub writers-more : (entries : List Record) (bytes : List TaggedByte) (i : ℕ) (d : TaggedByte) → i < length bytes → writers entries (take (i + 1) bytes) ≡ writers entries (take i bytes) ++ option_to_list (group_in entries (get_or bytes i d))
writers-more entries bytes i d low = ap (writers entries) (take_more bytes i d low) ∙ writers-append entries (take i bytes) (get_or bytes i d)

-- what is asked of one byte more
demands-append : (k : ℕ) (xs : List TaggedByte) (b : TaggedByte) → writer_demands k (xs ++ b ∷ []) ≡ writer_demands k xs ++ writer_demand (k + length xs) b ∷ []
demands-append k [] b = ap (λ (n : ℕ). writer_demand n b ∷ []) (omega arith)
demands-append k (x ∷ xs) b =
    ap (λ (list : List Demand). writer_demand k x ∷ list)
    (demands-append (k + 1) xs b ∙ ap (λ (n : ℕ). writer_demands (k + 1) xs ++ writer_demand n b ∷ []) (omega arith))

length-take-low : {A : Type 0} (xs : List A) (i : ℕ) → i < length xs → length (take i xs) ≡ i
length-take-low xs zero low = refl
length-take-low [] (suc i) low = absurd (omega (arith, low))
length-take-low (x ∷ xs) (suc i) low = ap suc (length-take-low xs i (omega (arith, low)))

pub demands-more : (bytes : List TaggedByte) (i : ℕ) (d : TaggedByte) → i < length bytes → writer_demands 0 (take (i + 1) bytes) ≡ writer_demands 0 (take i bytes) ++ writer_demand i (get_or bytes i d) ∷ []
demands-more bytes i d low =
    ap (writer_demands 0) (take_more bytes i d low)
    ∙ demands-append 0 (take i bytes) (get_or bytes i d)
    ∙ ap (λ (n : ℕ). writer_demands 0 (take i bytes) ++ writer_demand n (get_or bytes i d) ∷ []) (let size = length-take-low bytes i low in omega (arith, size))

pub writers-step : (entries : List Record) (bytes : List TaggedByte) (i : ℕ) (d : TaggedByte) (old new : List ℕ) (o : Option ℕ) → i < length bytes → old ≡ writers entries (take i bytes) → o ≡ group_in entries (get_or bytes i d) → new ≡ old ++ option_to_list o
    → new ≡ writers entries (take (i + 1) bytes)
writers-step entries bytes i d old new o low before is more =
    more
    ∙ ap (λ (xs : List ℕ). xs ++ option_to_list o) before
    ∙ ap (λ (o : Option ℕ). writers entries (take i bytes) ++ option_to_list o) is
    ∙ sym (writers-more entries bytes i d low)

-- what isn't added is nothing
pub none-more : (old new : List ℕ) → new ≡ old → new ≡ old ++ []
none-more old new same = same ∙ sym (append-nil old)

pub demands-step : (bytes : List TaggedByte) (i : ℕ) (d : TaggedByte) (old new : List Demand) (at : ℕ) → i < length bytes → old ≡ writer_demands 0 (take i bytes) → at ≡ (get_or bytes i d).origin.at
    → new ≡ old ++ demand.Event (get_or bytes i d).origin.event (place.Byte at) i ∷ [] → new ≡ writer_demands 0 (take (i + 1) bytes)
demands-step bytes i d old new at low before is more =
    more
    ∙ ap (λ (xs : List Demand). xs ++ demand.Event (get_or bytes i d).origin.event (place.Byte at) i ∷ []) before
    ∙ ap (λ (n : ℕ). writer_demands 0 (take i bytes) ++ demand.Event (get_or bytes i d).origin.event (place.Byte n) i ∷ []) is
    ∙ sym (demands-more bytes i d low)
