use Rattle.std.proofs.Common.{rules, ◌≡◌, ℕ, ◌<◌, List, ◌++◌, length, drop, sym, ap, ◌∙◌, arith}
use Rattle.schedule_log.specs.Fields.{counted, field, BeginsCounted}
use Rattle.result_log.specs.Pieces.{BeginsDevice}
use Rattle.result_log.proofs.split.split_device.Goals as goal

too-few : (bytes found rest : List ℕ) (device : ℕ) → length bytes < 4 → ¬ BeginsDevice bytes device found rest
too-few bytes found rest device few b =
    let long : length bytes ≡ length ((field 4 device ++ counted found) ++ rest) = ap (λ (xs : List ℕ). length xs) b.is_bytes in
    omega arith

behind-number : (bytes behind found rest : List ℕ) (device other : ℕ) → bytes ≡ field 4 device ++ behind
    → BeginsDevice bytes other found rest → BeginsCounted behind found rest
behind-number bytes behind found rest device other e b =
    record { is_counted = b.is_counted; is_bytes = ap (drop 4) (sym e ∙ b.is_bytes) }

pub returns-in_err-device-clause-none : goal.returns-in_err-device-clause-none
returns-in_err-device-clause-none c =
    rw c.from_residual.ensures (λ device found rest. too-few c.args.bytes.now found rest device c.in_err-device.ensures.none)

pub returns-in_err-found-clause-none : goal.returns-in_err-found-clause-none
returns-in_err-found-clause-none c =
    rw c.from_residual-in_err-found.ensures
    (λ device found rest b. c.in_err-found.ensures.none found rest (behind-number c.args.bytes.now c.in_ok-device.behind.now found rest c.in_ok-device.device device c.in_ok-device.ensures.some b))

pub returns-clause-some : goal.returns-clause-some
returns-clause-some c = record {
  fits = search rules;
  is_counted = c.in_ok-found.ensures.some.is_counted;
  is_bytes = c.in_ok-device.ensures.some ∙ ap (λ xs. field 4 c.in_ok-device.device ++ xs) c.in_ok-found.ensures.some.is_bytes;
}
