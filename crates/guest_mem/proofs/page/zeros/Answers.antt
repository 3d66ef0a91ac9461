-- Copies of 0 are zeros.
use Rattle.std.proofs.Common.{◌≡◌, ℕ, List, replicate}
use Rattle.parts_model.specs.Memory.{zeros}
use Rattle.guest_mem.proofs.page.zeros.Goals as goal

zeros-replicate : (len : ℕ) (bytes : List ℕ) → bytes ≡ replicate len 0 → bytes ≡ zeros len
unfolding zeros
zeros-replicate len bytes same = same

pub returns : goal.returns
returns c = zeros-replicate _ _ c.in_ok-new.ensures.ok
