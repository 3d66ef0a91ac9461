-- What is spelled at the front of bytes is spelled there in one way.
use Rattle.std.proofs.Common.{◌≡◌, ℕ, ◌<◌, ◌^◌, List, [], ◌∷◌, ◌++◌, length, drop, slice_index, refl, sym, ap, ◌∙◌, append_assoc, arith}
use Rattle.std.specs.Prelude.{true, false}
use Rattle.std.proofs.lemmas.List.{append_cancel_left}
use Rattle.byteorder.specs.Endian.{little_from}
use Rattle.byteorder.specs.Numbers.{little_number-reads_back}
use Rattle.schedule_log.specs.Fields.{field, BeginsCounted, BeginsNamed, OnlyCounted, OnlyNamed}
use Rattle.schedule_log.specs.Laws.{CountedOneWay, FieldOneWay, FlagOneWay, NamedOneWay}

-- the number of a field, and what stands behind it
pub field-one : FieldOneWay
field-one width m n s t fits_m fits_n e =
    let same : m ≡ n = sym (little_number-reads_back width m s fits_m)
    ∙ ap (λ (xs : List ℕ). little_from 0 width xs) e
    ∙ little_number-reads_back width n t fits_n in
    (same, append_cancel_left (field width n) s t (ap (λ k. field width k ++ s) (sym same) ∙ e))

pub flag-one : FlagOneWay
flag-one false false s t e = (refl, ap (drop 1) e)
flag-one true true s t e = (refl, ap (drop 1) e)
flag-one false true s t e = let k = ap (λ (xs : List ℕ). slice_index xs 0) e in absurd (omega (arith, k))
flag-one true false s t e = let k = ap (λ (xs : List ℕ). slice_index xs 0) e in absurd (omega (arith, k))

-- lists of one length in front
append-one : (a b s t : List ℕ) → length a ≡ length b → a ++ s ≡ b ++ t → (a ≡ b) × (s ≡ t)
append-one [] [] s t l e = (refl, e)
append-one [] (y ∷ b) s t l e = absurd (omega arith)
append-one (x ∷ a) [] s t l e = absurd (omega arith)
append-one (x ∷ a) (y ∷ b) s t l e =
    let first : x ≡ y = ap (λ (xs : List ℕ). slice_index xs 0) e in
    let more = append-one a b s t (omega arith) (ap (drop 1) e) in
    (ap (λ k. k ∷ a) first ∙ ap (λ xs. y ∷ xs) more.0, more.1)

-- bytes behind their length, and what stands behind them
listed-one : (width : ℕ) (a b s t : List ℕ) → length a < 256 ^ width → length b < 256 ^ width
    → (field width (length a) ++ a) ++ s ≡ (field width (length b) ++ b) ++ t → (a ≡ b) × (s ≡ t)
listed-one width a b s t fits_a fits_b e =
    let whole = sym (append_assoc (field width (length a)) a s) ∙ e ∙ append_assoc (field width (length b)) b t in
    let long = field-one width (length a) (length b) (a ++ s) (b ++ t) fits_a fits_b whole in
    append-one a b s t long.0 long.1

pub counted-one : CountedOneWay
counted-one a b s t is_a is_b e = listed-one 4 a b s t is_a is_b e

pub named-one : NamedOneWay
named-one a b s t is_a is_b e = listed-one 1 a b s t (omega (arith, is_a.1)) (omega (arith, is_b.1)) e

pub only-counted : (bytes found rest : List ℕ) → BeginsCounted bytes found rest → OnlyCounted bytes found rest
only-counted bytes found rest b other behind o =
    counted-one other found behind rest o.is_counted b.is_counted (sym o.is_bytes ∙ b.is_bytes)

pub only-named : (bytes name rest : List ℕ) → BeginsNamed bytes name rest → OnlyNamed bytes name rest
only-named bytes name rest b other behind o =
    named-one other name behind rest o.is_name b.is_name (sym o.is_bytes ∙ b.is_bytes)
