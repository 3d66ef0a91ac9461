-- Reads from pipes that are ready.
use Rattle.std.proofs.Common.{◌≡◌, ℕ, zero, suc, ◌<◌, Bool, true, false, ◌||◌, List, [], ◌∷◌, length, take, Option, Some, None, refl, sym, ap, arith, true≢false}
use Rattle.std.specs.Prelude.{not, nat_lt, option_map}
use Rattle.std.proofs.lemmas.Option.{same_Some}
use Rattle.parts_model.specs.declared.tagged.TaggedByte.{TaggedByte}
use Rattle.parts_model.specs.Numbered.{nth}
use Rattle.parts_model.specs.Pipes.{Pipe, can_take}
use Rattle.arn_model.specs.Doing.{returns}
use Rattle.arn_model.specs.Kernel.{Machine}
use Rattle.arn_model.specs.Row.{is_waiting}
use Rattle.arn_model.specs.TransferCalls.{read_empty, read_pipe, read_queue}
use Rattle.guest_requests.specs.Transfers.{CanDrain, draining}

-- a pipe that is empty is ready where nothing writes it
empty-ready : (m : Machine) (written : Bool) → not written ≡ true → read_empty m written ≡ returns 0 m.kernel
empty-ready m true ready = absurd (true≢false (sym ready))
empty-ready m false ready = refl

module _ (m : Machine) (at most pipe : ℕ) (some : 0 < most) where
  queue-ready : (n : ℕ) (p : Pipe) (queue : List TaggedByte) → 0 < n → (nat_lt 0 (length queue) || not p.has_writer) ≡ true → is_waiting (read_queue m pipe at p (take n queue)) ≡ false
  queue-ready zero p queue some ready = absurd (omega arith)
  queue-ready (suc n) p [] some ready = ap is_waiting (empty-ready m p.has_writer ready)
  queue-ready (suc n) p (b ∷ queue) some ready = refl

  ready-by : (o : Option Pipe) → option_map can_take o ≡ Some true → is_waiting (read_pipe m pipe at most o) ≡ false
  ready-by None ready = cc
  ready-by (Some p) ready = queue-ready most p p.channel.queue some (same_Some (can_take p) true ready)

  -- a read that is ready
  pub draining-ready : CanDrain m.kernel pipe → is_waiting (draining m at most pipe) ≡ false
  draining-ready ready = ready-by (nth m.kernel.pipes pipe) ready
