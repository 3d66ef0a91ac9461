use Rattle.std.proofs.Common.{ℕ, arith, slice_index}
use Rattle.std.proofs.lemmas.Grind.{common_steps}
use Rattle.log_disk.proofs.Filling.{slice_index-push}
use Rattle.log_disk.specs.Crash.{filling, Stays}
use Rattle.log_disk.specs.Image.{image_bytes}
use Rattle.log_disk.specs.InMemory.{state_of}
use Rattle.log_disk.proofs.medium.Medium.crash_with.Goals as goal

pub loop-place-preserved : goal.loop-place-preserved
loop-place-preserved c =
    let same = c.in_ok-push.ensures.ok in
    let before = c.loop-place.invariant in
    let disk = c.args.self.now in
    record {
      size = grind (arith, common_steps);
      stays = rw same (slice_index-push c.loop-place.bytes c.byte_after.result c.loop-place.place (Stays (state_of disk).held) (slice_index (image_bytes disk.image)) before.size before.stays c.byte_after.ensures.stays);
      filled = rw same (slice_index-push c.loop-place.bytes c.byte_after.result c.loop-place.place (λ (k : ℕ). ¬ Stays (state_of disk).held k) (filling c.args.fill (image_bytes disk.image)) before.size before.filled c.byte_after.ensures.filled);
    }
