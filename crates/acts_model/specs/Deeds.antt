-- What a record tells that its process does, as code has it.
use Rattle.acts_model.specs.Acts as act
use Rattle.acts_model.specs.declared.deeds.Deed.{Deed}
use Rattle.acts_model.specs.declared.deeds.Deed.TheVariants as deed

-- the act
abbrev pub deed_as : Deed → act.Act
deed_as (deed.Returns result) = act.Returns result
deed_as (deed.Receives at bytes result) = act.Receives at bytes.now result
deed_as (deed.Gives at len result) = act.Gives at len result
deed_as (deed.Starts file block block_len) = act.Starts file.now block block_len
deed_as (deed.Forks child) = act.Forks child
deed_as (deed.Founds child) = act.Founds child
deed_as deed.Shares = act.Shares
deed_as deed.Leaves = act.Leaves
deed_as (deed.Delivers signal handler cut) = act.Delivers signal handler cut
deed_as deed.Exits = act.Exits
deed_as (deed.Faults status) = act.Faults status
deed_as (deed.Dies signal cut) = act.Dies signal cut
