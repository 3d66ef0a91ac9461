-- What types say of records.
use Rattle.std.specs.Prelude.{◌≡◌, length, List, IfSome}
use Rattle.std.specs.List.{All}
use Rattle.arn_base.specs.declared.machine.Block.{Block}
use Rattle.arn_base.specs.declared.records.Record.{Record}
use Rattle.arn_base.specs.declared.records.Start.{Start}
use Rattle.parts_model.specs.declared.limits.TheConstants.{BLOCK_LEN}
use Rattle.history_model.specs.Broken.{start_in}

-- blocks have as many bytes as a block has
abbrev pub AreWhole : List Block → Type 0
AreWhole blocks = All (λ (block : Block). length block.bytes ≡ BLOCK_LEN) blocks

-- so have those with which a child begins
abbrev pub HasWholeBlocks : Record → Type 0
HasWholeBlocks e = IfSome (start_in e) (λ (start : Start). AreWhole start.blocks)
