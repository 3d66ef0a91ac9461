-- What is done without its texts, and then told in one.
use Rattle.std.specs.Prelude.{◌≢◌, ℕ, List, ◌++◌, Option}
use Rattle.arn_base.specs.declared.disk.Disk.{Ghosts}
use Rattle.arn_base.specs.declared.records.Record.{Record}
use Rattle.log_store.specs.Stores.{StoreState}
use Rattle.session_effects.specs.Effects.{committed}
use Rattle.session_effects.specs.Quiet.{quiet}
use Rattle.session_effects.specs.Standing.{Carries}
use Rattle.session_effects.specs.declared.halt.Halt.{Halt}
use Rattle.session_effects.specs.declared.halt.Halt.TheVariants as halt
use Rattle.session_runs.specs.Points.{Advances, Stops, Surroundings}
use Rattle.session_runs.specs.Ready.{machine_of}
use Rattle.session_runs.specs.Runs.{run}
use Rattle.session_runs.specs.Touches.{Answering}
use Rattle.session_runs.specs.Turns.{Point, Turn, finished, followed_by, prints}

-- a turn without its texts
abbrev pub quiet_turn : Turn → Turn
quiet_turn t = record { effects = quiet t.effects; touches = t.touches; left = t.left }

-- a turn, and then the text that tells of the history behind it
abbrev pub then_told : List Record → Turn → (List Record → List ℕ) → Turn
then_told history t text = followed_by t t.left (prints (text (history ++ committed t.effects)))

-- what a point does on a history, without its texts, and then one text
abbrev pub quietly : List Record → Point → (List Record → List ℕ) → Point
quietly history p text slices = then_told history (quiet_turn (p slices)) text

module _ {D A : Type 0} (is_run : List Record → Type 0) (d : Ghosts D) (who : Answering A) where
  -- what went on to its end over some other sink goes on here up to the text
  abbrev pub QuietAdvances : Type 0
  QuietAdvances =
      (p : Point) (text : List Record → List ℕ) (u v : Surroundings A) (cost : ℕ) (old new : D) (s0 s1 : StoreState) (h0 h1 held : Option (List ℕ))
      → Advances who p finished u v cost (Carries is_run d old new s0 s1 h0 h1)
      → Advances who (quietly s0.entries p text) (prints (text s1.entries)) u v cost (Carries is_run d old new s0 s1 held held)

  -- And where a run halted, but for a failure of that sink, this halts. Of other points it isn't said: without the text before it a commit would
  -- stand next there that may name other slices than those that are lost. A run commits nothing behind the text before which it halts.
  abbrev pub QuietStops : Type 0
  QuietStops =
      (budget : ℕ) (text : List Record → List ℕ) (u v : Surroundings A) (cost : ℕ) (old new : D) (history : List Record) (h0 h1 held : Option (List ℕ)) (why : Halt)
      → why ≢ halt.Sink → Stops is_run d who old new history h0 h1 why (run (machine_of history) budget) u v cost
      → Stops is_run d who old new history held held why (quietly history (run (machine_of history) budget) text) u v cost

-- what is done quietly, over a sink that drops what it is given, and then told
pub record QuietPointsFollow {D A : Type 0} (is_run : List Record → Type 0) (d : Ghosts D) (who : Answering A) : Type 0 where
  pub advances : QuietAdvances is_run d who
  pub stops : QuietStops is_run d who
