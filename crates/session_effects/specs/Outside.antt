-- What is lent to a session, before and behind a part of it.
use Rattle.std.specs.Prelude.{◌≡◌, ℕ}
use Rattle.arn_base.specs.declared.disk.Disk.{Ghosts}
use Rattle.arn_base.specs.Faults.{NeverFalls}
use Rattle.log_store.specs.Stops.{GoesOn}
use Rattle.session_effects.specs.Standing.{IsCause}
use Rattle.session_effects.specs.declared.halt.Halt.{Halt}
use Rattle.session_effects.specs.declared.outside.Outside.{Outside}

-- the same is lent
pub record IsSame {C A D K L : Type 0} (old new : Outside C A D K L) : Type 0 where
  pub chooser : new.chooser.ghost_name ≡ old.chooser.ghost_name
  pub answers : new.answers.ghost_name ≡ old.answers.ghost_name
  pub disk : new.disk.ghost_name ≡ old.disk.ghost_name
  pub sink : new.sink.ghost_name ≡ old.sink.ghost_name
  pub steps : new.steps.ghost_name ≡ old.steps.ghost_name
  pub text : new.text.ghost_name ≡ old.text.ghost_name

-- It goes on: the disk tells its bytes where it did, no count of faults falls, and the same is lent.
pub record GoesOnOutside {C A D K L : Type 0} (d : Ghosts D) (fails : K → ℕ) (old new : Outside C A D K L) : Type 0 where
  pub later : GoesOn d.image d.faults old.disk.now new.disk.now
  pub faults : NeverFalls (fails old.sink.now) (fails new.sink.now)
  pub same : IsSame old new

-- what made it halt, by the counts of faults of the disk and of the sink
abbrev pub IsCauseOutside : {C A D K L : Type 0} → Ghosts D → (K → ℕ) → Halt → Outside C A D K L → Outside C A D K L → Type 0
IsCauseOutside d faults why old new = IsCause why (d.faults old.disk.now) (d.faults new.disk.now) (faults old.sink.now) (faults new.sink.now)

-- what goes on goes on from one call to the next, and what made a later call halt made the whole halt
pub record GoingsFollow (C A D K L : Type 0) (d : Ghosts D) (faults : K → ℕ) : Type 0 where
  pub still : (now : Outside C A D K L) → GoesOnOutside d faults now now
  pub later : (old mid new : Outside C A D K L) → GoesOnOutside d faults old mid → GoesOnOutside d faults mid new → GoesOnOutside d faults old new
  pub cause : (why : Halt) (old mid new : Outside C A D K L) → GoesOnOutside d faults old mid → GoesOnOutside d faults mid new → IsCauseOutside d faults why mid new → IsCauseOutside d faults why old new
