use Rattle.std.proofs.Common.{◌≡◌, ◌∙◌, [], Option, None, Some, option_map, refl}
use Rattle.parts_model.specs.Blocks.{blocks_of, used_blocks}
use Rattle.guest_bodies.specs.Tables.{Table, held_bytes}
use Rattle.guest_bodies.specs.declared.guest.Held.{Held}
use Rattle.guest_bodies.proofs.memories.Memories.segment_blocks.Goals as goal

none-held : (table : Table) (o : Option Held) → None ≡ option_map (λ (h : Held). held_bytes table (Some h)) o → [] ≡ blocks_of (held_bytes table o)
unfolding used_blocks
none-held table None e = refl
none-held table (Some s) e = absurd (cc)

pub returns-in-None : goal.returns-in-None
returns-in-None c = c.new.ensures ∙ none-held c.args.self.now.segments c.args.guest.now.segment c.in-None.ensures
