-- What code tells of a record, as the definitions have it.
use Rattle.std.specs.Prelude.{option_map}
use Rattle.acts_model.specs.declared.told.ChildTold.{ChildTold}
use Rattle.acts_model.specs.declared.told.LifeTold.{LifeTold}
use Rattle.acts_model.specs.declared.told.LifeTold.TheVariants as told
use Rattle.acts_model.specs.Records.{Child, LifeChange, BeginsLife, EndsLife, NoLife}

-- a child
abbrev pub child_seen : ChildTold → Child
child_seen child = record { number = child.number; start = option_map (λ start. start.now) child.start }

-- a begin or an end
abbrev pub life_seen : LifeTold → LifeChange
life_seen (told.Begins pid) = BeginsLife pid
life_seen (told.Ends pid) = EndsLife pid
life_seen told.NoLife = NoLife
