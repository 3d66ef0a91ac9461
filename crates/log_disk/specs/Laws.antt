-- What is true of every disk in memory.
use Rattle.std.specs.Prelude.{ℕ, ◌≤◌, List, [], ◌∷◌, length, refl}
use Rattle.std.proofs.Common.{inl, inr}
use Rattle.std.proofs.Math.Nat.{min-le_right, le-max_right, le_refl, le_trans, le_of_suc-le, not-suc-le_self}
use Rattle.log_disk.specs.Crash.{Held, Crash}
use Rattle.log_disk.specs.InMemory.{InMemory, LeftBefore, LeftSince, moment_of}

-- a crash may leave what is read
pub Crash-image : (held : Held) → Crash held held.image
Crash-image held = record {
  no_shorter = min-le_right held.smallest (length held.image);
  no_longer = le-max_right held.greatest (length held.image);
  stays = λ place stays. refl;
}

-- this moment is one of those since an earlier one
pub LeftSince-now : (disk : InMemory) (since : ℕ) (bytes : List ℕ) → Crash disk.held bytes →
    LeftSince disk since bytes
LeftSince-now disk since bytes now = inl now

none_before : (past : List Held) (since : ℕ) (bytes : List ℕ) → length past ≤ since →
    LeftBefore past since bytes → ⊥
none_before [] since bytes late left = left
none_before (held ∷ past) since bytes late (inl left) =
    not-suc-le_self (length past) (le_trans late left.0)
none_before (held ∷ past) since bytes late (inr left) =
    none_before past since bytes (le_of_suc-le late) left

-- since this moment there is no other
pub Crash-left : (disk : InMemory) (bytes : List ℕ) → LeftSince disk (moment_of disk) bytes →
    Crash disk.held bytes
Crash-left disk bytes (inl now) = now
Crash-left disk bytes (inr left) =
    absurd (none_before disk.past (length disk.past) bytes (le_refl _) left)
