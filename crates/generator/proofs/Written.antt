-- Sums of bytes that were written, record by record.
use Rattle.std.proofs.Common.{◌≡◌, ℕ, zero, suc, ◌+◌, ◌<◌, ◌≤◌, List, [], ◌∷◌, ◌++◌, length, take, get_or, ap, sym, ◌∙◌, append_assoc, append-nil, length-append, arith, add-one}
use Rattle.arn_base.specs.declared.records.Record.{Record}
use Rattle.generator.specs.Sums.{written, written_by}

-- one more record's
written-suc : (entries : List Record) (i : ℕ) (e : Record) → i < length entries → e ≡ get_or entries i e → written (take (suc i) entries) ≡ written (take i entries) ++ written_by e
written-suc [] i e inside is = absurd (omega (arith, inside))
written-suc (x ∷ entries) zero e inside is = append-nil (written_by x) ∙ ap written_by (sym is)
written-suc (x ∷ entries) (suc i) e inside is =
    ap (λ (b : List ℕ). written_by x ++ b) (written-suc entries i e (omega (arith, inside)) is) ∙ sym (append_assoc (written_by x) (written (take i entries)) (written_by e))

pub written-more : (entries : List Record) (i : ℕ) (e : Record) → i < length entries → e ≡ get_or entries i e → written (take (i + 1) entries) ≡ written (take i entries) ++ written_by e
written-more entries i e inside is = rw (add-one i) (written-suc entries i e inside is)

-- they are among all
among-suc : (entries : List Record) (i : ℕ) → length (written (take i entries)) ≤ length (written entries)
among-suc entries zero = omega arith
among-suc [] (suc i) = omega arith
among-suc (x ∷ entries) (suc i) =
    omega (arith, among-suc entries i, length-append (written_by x) (written (take i entries)), length-append (written_by x) (written entries))

pub few-more : (entries : List Record) (i : ℕ) (e : Record) → i < length entries → e ≡ get_or entries i e → length (written (take i entries)) + length (written_by e) ≤ length (written entries)
few-more entries i e inside is =
    omega (arith, ap (λ (b : List ℕ). length b) (written-more entries i e inside is), among-suc entries (i + 1), length-append (written (take i entries)) (written_by e))
