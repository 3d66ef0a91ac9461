-- What the definitions say of a disk of four bytes.
use Rattle.std.proofs.Common.{◌≡◌, ℕ, zero, suc, [], ◌∷◌, slice_index, refl, arith}
use Rattle.std.proofs.lemmas.List.Elements.{All-nil, All-cons}
use Rattle.log_disk.specs.Crash.{Held, Crash, Stays, Covers, durable, shortest, longest}
use Rattle.log_disk.specs.Steps.{written_to, cut_to}

abbrev four : Held
four = durable (1 ∷ 2 ∷ 3 ∷ 4 ∷ [])

-- two bytes written over
abbrev over : Held
over = written_to record { start = 1; end = 3 } (8 ∷ 9 ∷ []) four

over_reads : over.image ≡ 1 ∷ 8 ∷ 9 ∷ 4 ∷ []
over_reads = refl

over_lengths : (shortest over ≡ 4) × (longest over ≡ 4)
over_lengths = (refl, refl)

over_stays : (place : ℕ) → Stays over place → slice_index (1 ∷ 0 ∷ 7 ∷ 4 ∷ []) place ≡ slice_index over.image place
over_stays zero kept = refl
over_stays (suc zero) kept = absurd (kept.untouched 0 record { start = 0; end = 0 } (omega arith) (omega arith, omega arith))
over_stays (suc (suc zero)) kept = absurd (kept.untouched 0 record { start = 0; end = 0 } (omega arith) (omega arith, omega arith))
over_stays (suc (suc (suc zero))) kept = refl
over_stays (suc (suc (suc (suc place)))) kept = absurd (omega (arith, kept.below))

-- the range that was written may hold any bytes
over_may_leave : Crash over (1 ∷ 0 ∷ 7 ∷ 4 ∷ [])
over_may_leave = record { no_shorter = omega arith; no_longer = omega arith; stays = over_stays }

-- and no other place may
over_keeps : Crash over (0 ∷ 8 ∷ 9 ∷ 4 ∷ []) → ⊥
over_keeps crash =
    let kept : Stays over 0 = record {
      below = omega arith;
      untouched = All-cons (λ range. ¬ Covers range 0) (record { start = 1; end = 3 }) [] (λ covered. absurd (omega (arith, covered.0))) (All-nil (λ range. ¬ Covers range 0));
    } in
    absurd (omega (arith, crash.stays 0 kept))

-- two bytes written over the end
abbrev grown : Held
grown = written_to record { start = 3; end = 5 } (5 ∷ 6 ∷ []) four

grown_reads : grown.image ≡ 1 ∷ 2 ∷ 3 ∷ 5 ∷ 6 ∷ []
grown_reads = refl

grown_lengths : (shortest grown ≡ 4) × (longest grown ≡ 5)
grown_lengths = (refl, refl)

-- a write of two bytes over the end that failed with none of them written
abbrev torn : Held
torn = written_to record { start = 3; end = 5 } [] four

torn_reads : torn.image ≡ 1 ∷ 2 ∷ 3 ∷ 4 ∷ []
torn_reads = refl

torn_lengths : (shortest torn ≡ 4) × (longest torn ≡ 5)
torn_lengths = (refl, refl)

-- half of it cut off, and then one byte written behind
abbrev less : Held
less = written_to record { start = 2; end = 3 } (7 ∷ []) (cut_to 2 four)

less_reads : less.image ≡ 1 ∷ 2 ∷ 7 ∷ []
less_reads = refl

less_lengths : (shortest less ≡ 2) × (longest less ≡ 4)
less_lengths = (refl, refl)

less_stays : (place : ℕ) → Stays less place → slice_index (1 ∷ 2 ∷ 0 ∷ 0 ∷ []) place ≡ slice_index less.image place
less_stays zero kept = refl
less_stays (suc zero) kept = refl
less_stays (suc (suc place)) kept = absurd (omega (arith, kept.below))

-- what was cut off may come back as any bytes
less_may_leave : Crash less (1 ∷ 2 ∷ 0 ∷ 0 ∷ [])
less_may_leave = record { no_shorter = omega arith; no_longer = omega arith; stays = less_stays }

-- what was left may not be lost
less_keeps : Crash less (1 ∷ []) → ⊥
less_keeps crash = absurd (omega (arith, crash.no_shorter))
