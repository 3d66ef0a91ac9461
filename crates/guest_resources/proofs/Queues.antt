-- A queue of tagged bytes, and how long it is.
use Rattle.std.proofs.Common.{◌≡◌, ℕ, suc, ◌+◌, ◌-◌, ◌≤◌, List, [], ◌∷◌, length, refl, ap, arith}
use Rattle.parts_model.specs.Tagged.{held_from}
use Rattle.guest_resources.specs.Queue.{IsQueue}

pub length-held : (event at : ℕ) (bytes : List ℕ) → length (held_from event at bytes) ≡ length bytes
length-held event at [] = refl
length-held event at (b ∷ bytes) = ap (λ (n : ℕ). suc n) (length-held event (at + 1) bytes)

pub longer-queue : (taken head len more new queued : ℕ) → IsQueue taken head len → queued ≡ len - head → new ≡ len + more → more ≤ 18446744073709551615 - taken - queued → IsQueue taken head new
longer-queue taken head len more new queued queue is longer few = record { within = omega (arith, queue.within, longer); few = omega (arith, queue.within, queue.few, is, longer, few) }
