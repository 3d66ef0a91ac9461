use Rattle.std.proofs.Common.{◌≡◌, ℕ, ◌<◌, ◌++◌, take, length, slice_index_or}
use Rattle.result_log.specs.States.{registers_fields, IsRegister}
use Rattle.result_log.proofs.starts.split_registers.Given as goal

abbrev pub invariant-loop-register : goal.invariant-loop-register
invariant-loop-register l = record {
  many : length l.register-items ≡ 31;
  fits : (k d : ℕ) → k < l.register-index → IsRegister (slice_index_or l.register-items k d);
  read : registers_fields (take l.register-index l.register-items) ++ l.left ≡ l.bytes;
}
