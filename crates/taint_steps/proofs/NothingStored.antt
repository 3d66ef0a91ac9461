-- Where no byte is stored, nothing changes.
use Rattle.std.proofs.Common.{◌≡◌, ℕ, List, [], Option, None, Some, take, refl, sym, subst, arith}
use Rattle.taint_members.specs.Access.{Memories, WritesAt, place_in}
use Rattle.taint_members.specs.declared.access.KeyOffset.{KeyOffset}
use Rattle.taint_members.specs.declared.member.MemberSets.{MemberSets}
use Rattle.taint_pages.specs.Pages.{Puts}
use Rattle.taint_steps.specs.Running.{Stores}

puts-none : (at : ℕ) (numbers : List ℕ) → Puts at [] numbers numbers
puts-none at numbers = record { len = refl; put = λ i below fits. absurd (omega arith); kept = λ k h. refl }

place-none : (place : Option KeyOffset) (memories : Memories) → WritesAt place [] memories memories
place-none None memories = refl
place-none (Some place) memories = record { one = puts-none _ _; others = λ k h. refl }

memory-of : (at : Option ℕ) (m : MemberSets) (memories : Memories) → Stores at [] m memories memories
memory-of None m memories = refl
memory-of (Some at) m memories = place-none (place_in m at) memories

pub stores-none : (at : Option ℕ) (len : ℕ) (numbers : List ℕ) (m : MemberSets) (memories : Memories) → len ≡ 0 → Stores at (take len numbers) m memories memories
stores-none at len numbers m memories e = subst (λ n. Stores at (take n numbers) m memories memories) (sym e) (memory-of at m memories)
