use Rattle.std.proofs.Common.{◌≡◌, ◌<◌, ◌+◌, ℕ, length, slice_index}
use Rattle.parts_model.specs.declared.limits.TheConstants.{WINDOW_START}
use Rattle.taint_members.specs.Access.{number_at}
use Rattle.taint_events.specs.Starting.{started_number, window_len}
use Rattle.taint_events.proofs.starting.start_window.Given as goal

abbrev pub invariant-loop-place : goal.invariant-loop-place
invariant-loop-place l = record {
  len : length l.window ≡ window_len;
  bytes : (k : ℕ) → k < l.place → slice_index l.window k ≡ started_number l.load l.numbers (number_at l.old l.memories l.block) l.block_len (WINDOW_START + k);
}
