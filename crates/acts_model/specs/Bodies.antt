-- Bodies of processes, and the memories that they hold. A memory is named by the event that made it.
use Rattle.std.specs.Prelude.{◌≡◌, ◌⊎◌, ℕ, ◌==◌, if◌then◌else◌, List, [], Option, Some, None, option_map}
use Rattle.arn_base.specs.declared.machine.Cpu.{Cpu}

-- what a live process is: its registers, those that a handler's return restores, its private window, and the segment that it shares with
-- others, where it holds one
pub record Body : Type 0 where
  pub cpu : Cpu
  pub slot : Option Cpu
  pub window : ℕ
  pub segment : Option ℕ

-- the bodies of live processes, by number, and the bytes of memories, by the events that made them
pub record Bodies : Type 0 where
  pub bodies : ℕ → Option Body
  pub memories : ℕ → List ℕ

-- no process, and no memory has bytes
abbrev pub nobody : Bodies
nobody = record { bodies = λ p. None; memories = λ k. [] }

-- the body of a process, if it lives
unfoldable pub body_at : Bodies → ℕ → Option Body
body_at b p = b.bodies p

-- the bytes of a memory, none where the event made none
unfoldable pub memory_at : Bodies → ℕ → List ℕ
memory_at b k = b.memories k

-- the body holds the memory
abbrev pub IsHolder : Body → ℕ → Type 0
IsHolder x k = (x.window ≡ k) ⊎ (x.segment ≡ Some k)

-- all that a process sees: its body, and the bytes of what it holds
pub record View : Type 0 where
  pub body : Body
  pub window : List ℕ
  pub segment : List ℕ

-- no segment has no bytes
abbrev pub segment_bytes : Bodies → Option ℕ → List ℕ
segment_bytes b None = []
segment_bytes b (Some k) = memory_at b k

abbrev pub view : Bodies → Body → View
view b x = record { body = x; window = memory_at b x.window; segment = segment_bytes b x.segment }

-- what a live process sees
abbrev pub seen : Bodies → ℕ → Option View
seen b p = option_map (view b) (body_at b p)

-- what a view puts into memory k, that had the bytes old
abbrev pub laid_segment : Option ℕ → List ℕ → ℕ → List ℕ → List ℕ
laid_segment None bytes k old = old
laid_segment (Some s) bytes k old = if k == s then bytes else old

abbrev pub laid : View → ℕ → List ℕ → List ℕ
laid v k old = if k == v.body.window then v.window else laid_segment v.body.segment v.segment k old

-- the process sees this from now on
unfoldable pub put : ℕ → View → Bodies → Bodies
put p v b = record { bodies = λ q. if q == p then Some v.body else body_at b q; memories = λ k. laid v k (memory_at b k) }

-- the process lives no more
unfoldable pub remove : ℕ → Bodies → Bodies
remove p b = record b { bodies = λ q. if q == p then None else body_at b q }

abbrev pub become : ℕ → Option View → Bodies → Bodies
become p None b = remove p b
become p (Some v) b = put p v b
