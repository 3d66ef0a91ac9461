use Rattle.std.proofs.Common.{rules, refl, ◌≡◌, ℕ, ◌-◌, ◌≤◌, List, length, drop, slice_range, sym, ◌∙◌}
use Rattle.schedule_log.specs.declared.signals.Delivery.{Delivery}
use Rattle.schedule_log.specs.Schedule.{signal_spelling, BeginsSignal, IsNoSignal, ReadsSignal}
use Rattle.schedule_log.proofs.Placed.{front-stands, stands-in-front}
use Rattle.schedule_log.proofs.signals.get_signal.Goals as goal

none-read : (bytes behind : List ℕ) (at : ℕ) → behind ≡ slice_range bytes at (length bytes)
    → ((d : Delivery) (rest : List ℕ) → ¬ BeginsSignal behind d rest) → IsNoSignal bytes at
none-read bytes behind at is_behind none d next r =
    none d (drop next bytes) (record {
      is_signal = r.is_signal;
      fits = r.fits;
      is_bytes = is_behind ∙ stands-in-front bytes (signal_spelling d) at next r.stands;
    })

one-read : (bytes behind rest : List ℕ) (at : ℕ) (d : Delivery) → at ≤ length bytes → behind ≡ slice_range bytes at (length bytes)
    → BeginsSignal behind d rest → ReadsSignal bytes at d (length bytes - length rest)
one-read bytes behind rest at d within is_behind b =
    record {
      is_signal = b.is_signal;
      fits = b.fits;
      stands = front-stands bytes (signal_spelling d) rest at within (sym is_behind ∙ b.is_bytes);
    }

pub returns-in_default-front_signal-clause-malformed : goal.returns-in_default-front_signal-clause-malformed
returns-in_default-front_signal-clause-malformed c =
    (λ _. none-read c.args.bytes.now c.in-Some.behind.now c.args.at (search rules) (search rules), λ _. refl)

pub returns-clause-malformed : goal.returns-clause-malformed
returns-clause-malformed c =
    let d = c.in-Some-front_signal.delivery in
    let rest = c.in-Some-front_signal.rest.now in
    let read = one-read c.args.bytes.now c.in-Some.behind.now rest c.args.at d (search rules) (search rules) (search rules) in
    (λ e. absurd cc, λ none. absurd (none d (length c.args.bytes.now - length rest) read))
