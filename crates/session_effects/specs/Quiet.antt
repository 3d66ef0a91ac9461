-- Effects without their texts.
use Rattle.std.specs.Prelude.{◌≢◌, ℕ, List, [], ◌∷◌, Option}
use Rattle.arn_base.specs.declared.records.Record.{Record}
use Rattle.arn_base.specs.declared.disk.Disk.{Ghosts}
use Rattle.log_store.specs.Stores.{StoreState}
use Rattle.session_effects.specs.Carrying.{StopsBetween}
use Rattle.session_effects.specs.Effects.{Effect, Commits, Prints}
use Rattle.session_effects.specs.Standing.{Carries}
use Rattle.session_effects.specs.declared.halt.Halt.{Halt}
use Rattle.session_effects.specs.declared.halt.Halt.TheVariants as halt

-- what is committed alone
abbrev pub quiet : List Effect → List Effect
quiet [] = []
quiet (Commits entries ∷ effects) = Commits entries ∷ quiet effects
quiet (Prints text ∷ effects) = quiet effects

module _ {D : Type 0} (is_run : List Record → Type 0) (d : Ghosts D) where
  -- what was carried out over some other sink was carried out here without its texts, and nothing was put
  abbrev pub QuietCarries : Type 0
  QuietCarries =
      (old new : D) (s0 s1 : StoreState) (h0 h1 held : Option (List ℕ)) (effects : List Effect)
      → Carries is_run d old new s0 s1 h0 h1 effects → Carries is_run d old new s0 s1 held held (quiet effects)

  -- and where that stopped, but for a failure of that sink, this did
  abbrev pub QuietHalts : Type 0
  QuietHalts =
      (old new : D) (history : List Record) (h0 h1 held : Option (List ℕ)) (why : Halt) (done undone : List Effect)
      → why ≢ halt.Sink → StopsBetween is_run d old new history h0 h1 why done undone
      → StopsBetween is_run d old new history held held why (quiet done) (quiet undone)

-- what a session does quietly, over a sink that drops what it is given
pub record QuietFollows {D : Type 0} (is_run : List Record → Type 0) (d : Ghosts D) : Type 0 where
  pub carries : QuietCarries is_run d
  pub halts : QuietHalts is_run d
