use Rattle.std.proofs.Common.{rules, refl, ◌≡◌, ℕ, ◌-◌, ◌≤◌, List, length, drop, slice_range, sym, ◌∙◌}
use Rattle.schedule_log.specs.Schedule.{slice_spelling, BeginsSlice, IsNoSlice, ReadsSlice}
use Rattle.schedule_log.proofs.Placed.{front-stands, stands-in-front}
use Rattle.schedule_log.proofs.slices.get_slice.Goals as goal

none-read : (bytes behind : List ℕ) (at : ℕ) → behind ≡ slice_range bytes at (length bytes)
    → ((pid ran : ℕ) (rest : List ℕ) → ¬ BeginsSlice behind pid ran rest) → IsNoSlice bytes at
none-read bytes behind at is_behind none pid ran next r =
    none pid ran (drop next bytes) (record {
      fits = r.fits;
      is_bytes = is_behind ∙ stands-in-front bytes (slice_spelling pid ran) at next r.stands;
    })

one-read : (bytes behind rest : List ℕ) (at pid ran : ℕ) → at ≤ length bytes → behind ≡ slice_range bytes at (length bytes)
    → BeginsSlice behind pid ran rest → ReadsSlice bytes at pid ran (length bytes - length rest)
one-read bytes behind rest at pid ran within is_behind b =
    record { fits = b.fits; stands = front-stands bytes (slice_spelling pid ran) rest at within (sym is_behind ∙ b.is_bytes) }

pub returns-in_default-front_slice-clause-malformed : goal.returns-in_default-front_slice-clause-malformed
returns-in_default-front_slice-clause-malformed c =
    (λ _. none-read c.args.bytes.now c.in-Some.behind.now c.args.at (search rules) (search rules), λ _. refl)

pub returns-clause-malformed : goal.returns-clause-malformed
returns-clause-malformed c =
    let pid = c.in-Some-front_slice.pid in
    let ran = c.in-Some-front_slice.ran in
    let rest = c.in-Some-front_slice.rest.now in
    let read = one-read c.args.bytes.now c.in-Some.behind.now rest c.args.at pid ran (search rules) (search rules) (search rules) in
    (λ e. absurd cc, λ none. absurd (none pid ran (length c.args.bytes.now - length rest) read))
