-- The whole state of some processes. Its memories have no names: private windows are numbered from 0, and segments are, each by the first
-- process that holds it.
use Rattle.std.specs.Prelude.{ℕ, ◌==◌, Bool, if◌then◌else◌, List, [], ◌∷◌, ◌++◌, map, flat_map, filter_map, fold, Option, option_map, option_to_list}
use Rattle.std.specs.List.{list_any, position_or_len}
use Rattle.arn_base.specs.declared.machine.Block.{Block}
use Rattle.arn_base.specs.declared.machine.Member.{Member}
use Rattle.arn_base.specs.declared.machine.State.{State}
use Rattle.parts_model.specs.Blocks.{blocks_of}
use Rattle.acts_model.specs.Bodies.{View}

-- a memory: the event that made it, and its bytes
pub record Memory : Type 0 where
  pub made : ℕ
  pub bytes : List ℕ

-- a live process, and what it sees
pub record Holder : Type 0 where
  pub pid : ℕ
  pub view : View

abbrev pub holder : ℕ → View → Holder
holder pid v = record { pid = pid; view = v }

-- those of these processes that live
abbrev pub holders : (ℕ → Option View) → List ℕ → List Holder
holders sees pids = filter_map (λ pid. option_map (holder pid) (sees pid)) pids

-- the private window that a process holds, and the segment, if it holds one
abbrev pub windows_of : View → List Memory
windows_of v = record { made = v.body.window; bytes = v.window } ∷ []

abbrev pub segments_of : View → List Memory
segments_of v = option_to_list (option_map (λ (made : ℕ). record { made = made; bytes = v.segment }) v.body.segment)

-- a memory is among these
abbrev pub is_among : List Memory → ℕ → Bool
is_among memories made = list_any (λ (m : Memory). m.made == made) memories

-- these and one more, unless that is among them
abbrev pub also : List Memory → Memory → List Memory
also memories m = if is_among memories m.made then memories else memories ++ m ∷ []

-- the memories that processes hold, each once, in the order of those that hold them first
unfoldable pub held : (View → List Memory) → List Holder → List Memory
held memories all = fold also [] (flat_map (λ (h : Holder). memories h.view) all)

-- the number of a memory: its place among them
unfoldable pub number_in : List Memory → ℕ → ℕ
number_in memories made = position_or_len (λ (m : Memory). m.made == made) memories

-- a process beside the windows and segments that are held
abbrev pub member : List Memory → List Memory → Holder → Member
member windows segments h =
    record {
      pid = h.pid;
      cpu = h.view.body.cpu;
      slot = h.view.body.slot;
      window = number_in windows h.view.body.window;
      segment = option_map (number_in segments) h.view.body.segment;
    }

abbrev pub members : List Holder → List Member
members all = map (member (held windows_of all) (held segments_of all)) all

-- memories by their blocks that aren't all zero
abbrev pub blocks_in : List Memory → List (List Block)
blocks_in memories = map (λ (m : Memory). blocks_of m.bytes) memories

abbrev pub state_with : List Holder → State
state_with all = record { members = members all; windows = blocks_in (held windows_of all); segments = blocks_in (held segments_of all) }

-- the state of these processes, where each sees what `sees` says
unfoldable pub state_of : (ℕ → Option View) → List ℕ → State
state_of sees pids = state_with (holders sees pids)
