use Rattle.std.proofs.Common.{◌≡◌, ℕ, List, ◌∷◌, ◌++◌, drop, sym, ap, ◌∙◌}
use Rattle.schedule_log.specs.declared.signals.Delivery.{Delivery}
use Rattle.schedule_log.specs.Fields.{field, flag_field}
use Rattle.schedule_log.specs.Schedule.{BeginsNumber, BeginsSignal}
use Rattle.schedule_log.proofs.signals.split_signal.Goals as goal

-- behind the process of a delivery stands the signal's number
number-begins : (bytes behind rest : List ℕ) (pid : ℕ) (d : Delivery) → bytes ≡ field 4 pid ++ behind → BeginsSignal (6 ∷ bytes) d rest
    → BeginsNumber behind d.signal ((flag_field d.cut ++ field 8 d.handler) ++ rest)
number-begins bytes behind rest pid d e b =
    record { is_signal = b.is_signal; is_bytes = sym (ap (drop 4) e) ∙ ap (drop 5) b.is_bytes }

pub returns-in_err-signal-clause-none : goal.returns-in_err-signal-clause-none
returns-in_err-signal-clause-none c =
    rw c.from_residual-in_err-signal.ensures
    (λ d rest b. c.in_err-signal.ensures.none d.signal ((flag_field d.cut ++ field 8 d.handler) ++ rest)
    (number-begins c.args.bytes.now c.in_ok-pid.behind.now rest c.in_ok-pid.pid d c.in_ok-pid.ensures.some b))
