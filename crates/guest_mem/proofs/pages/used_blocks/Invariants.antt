use Rattle.std.proofs.Common.{◌≡◌, ◌*◌}
use Rattle.parts_model.specs.Blocks.{used_blocks}
use Rattle.guest_mem.specs.Pages.{contents, joined}
use Rattle.guest_mem.specs.declared.pages.TheConstants.{PAGE_BLOCKS}
use Rattle.guest_mem.proofs.pages.used_blocks.Given as goal

abbrev pub invariant-loop-index : goal.invariant-loop-index
invariant-loop-index l = l.blocks ≡ used_blocks (joined (contents l.pages)) (PAGE_BLOCKS * l.index)
