-- What is told of processes while one after the other is added.
use Rattle.std.specs.Prelude.{◌≡◌, ℕ, ◌==◌, List, [], ◌∷◌, ◌++◌, fold, map}
use Rattle.std.specs.List.{position_or_len}
use Rattle.arn_base.specs.declared.machine.Block.{Block}
use Rattle.parts_model.specs.Blocks.{blocks_of}
use Rattle.acts_model.specs.Bodies.{View}
use Rattle.guest_states.specs.State.{Memory, Holder, also, blocks_in, held, holder, members, segments_of, windows_of}
use Rattle.guest_states.specs.declared.held.Held.{Held}
use Rattle.guest_states.specs.declared.states.Telling.{Telling}

-- these memories are kept, by their names and by their blocks
pub record AreHeld (h : Held) (memories : List Memory) : Type 0 where
  pub names : h.names.items ≡ map (λ (m : Memory). m.made) memories
  pub blocks : h.memories ≡ blocks_in memories

-- one more is kept, unless it is among them
pub record Adds (made : ℕ) (blocks : List Block) (old new : Held) : Type 0 where
  pub adds : (memories : List Memory) (m : Memory) → AreHeld old memories → m.made ≡ made → blocks ≡ blocks_of m.bytes → AreHeld new (also memories m)

-- the place of a memory among those that are kept
abbrev pub place_in : Held → ℕ → ℕ
place_in h made = position_or_len (λ (name : ℕ). name == made) h.names.items

-- the segment of a process is kept, if it holds one
pub record AddsSegment (v : View) (old new : Held) : Type 0 where
  pub adds : (memories : List Memory) → AreHeld old memories → AreHeld new (fold also memories (segments_of v))

-- so much is told of these processes
pub record Tells (t : Telling) (all : List Holder) : Type 0 where
  pub members : t.members ≡ members all
  pub windows : AreHeld t.windows (held windows_of all)
  pub segments : AreHeld t.segments (held segments_of all)

-- one more is told of
pub record AddsHolder (pid : ℕ) (v : View) (old new : Telling) : Type 0 where
  pub adds : (all : List Holder) → Tells old all → Tells new (all ++ holder pid v ∷ [])
