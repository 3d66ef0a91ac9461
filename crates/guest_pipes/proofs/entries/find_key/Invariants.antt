use Rattle.std.proofs.Common.{◌≡◌, ℕ, Some, Contains}
use Rattle.slab.specs.Slab.{get}
use Rattle.guest_pipes.specs.declared.entries.Entry.{Entry}
use Rattle.guest_pipes.proofs.entries.find_key.Given as goal

-- an entry of the number is among those that are left, and those that are left are the table's
abbrev pub invariant-loop-key : goal.invariant-loop-key
invariant-loop-key l =
    (goal.iterator-loop-key).can_next l.key-iterator ×
    (goal.iterator-loop-key).is_finite l.key-iterator ×
    ((key : ℕ) (e : Entry) → get l.table key ≡ Some e → e.number ≡ l.number → Contains l.key-iterator (key, e)) ×
    ((key : ℕ) (e : Entry) → Contains l.key-iterator (key, e) → get l.table key ≡ Some e)
