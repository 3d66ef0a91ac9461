use Rattle.std.proofs.Common.{List}
use Rattle.guest_asm.specs.Assembled.{Placed}
use Rattle.guest_asm.specs.Kept.{Stands}
use Rattle.guest_asm.specs.Sound.{IsSound}
use Rattle.guest_asm.proofs.Imaging.{PushedSoFar, SoundLeft}
use Rattle.guest_asm.proofs.images.push_body.Given as goal

-- the bytes of the statements so far, and what is left is sound
abbrev pub invariant-loop-placed : goal.invariant-loop-placed
invariant-loop-placed l = record {
  sound : (all : List Placed) × Stands l.layout all × SoundLeft l.layout.placed.items l.placed-index all;
  pushed : (all : List Placed) → Stands l.layout all → IsSound all → PushedSoFar l.layout.placed.items l.placed-index all l.fn.bytes l.bytes;
}
