use Rattle.std.proofs.Common.{◌≡◌, ◌<◌, ℕ, length, slice_index}
use Rattle.log_disk.specs.Crash.{filling, Stays}
use Rattle.log_disk.specs.Image.{image_bytes}
use Rattle.log_disk.specs.InMemory.{state_of}
use Rattle.log_disk.proofs.medium.Medium.crash_with.Given as goal

abbrev pub invariant-loop-place : goal.invariant-loop-place
invariant-loop-place l = record {
  size : length l.bytes ≡ l.place;
  stays : (place : ℕ) → place < l.place → Stays (state_of l.self).held place →
      slice_index l.bytes place ≡ slice_index (image_bytes l.self.image) place;
  filled : (place : ℕ) → place < l.place → ¬ Stays (state_of l.self).held place →
      slice_index l.bytes place ≡ filling l.fill (image_bytes l.self.image) place;
}
