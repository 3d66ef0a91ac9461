-- What was done where a session ends before its text does.
use Rattle.std.specs.Prelude.{◌≡◌, ◌<◌, ◌≤◌, ◌^◌, ◌⊎◌, ℕ, ◌+◌, true, false, List, [], ◌∷◌, ◌++◌, length, Option, IfSome}
use Rattle.arn_base.specs.declared.disk.Disk.{Ghosts}
use Rattle.arn_commands.specs.declared.command.Command.{Command}
use Rattle.arn_commands.specs.Commands.{EachAsks}
use Rattle.arn_commands.specs.Parts.{text_parts, whole_parts}
use Rattle.log_model.specs.Records.{IsRun}
use Rattle.guest_machine.specs.Again.{rebuild_cost}
use Rattle.session_effects.specs.Carrying.{CarriesOut}
use Rattle.session_effects.specs.declared.halt.Halt.{Halt}
use Rattle.session_runs.specs.Points.{Advances, Stops}
use Rattle.session_runs.specs.Touches.{Answering, named_at}
use Rattle.session_runs.specs.Turns.{finished}
use Rattle.session_runs.specs.Standing.{Standpoint}
use Rattle.session_commands.specs.Given.{Given}
use Rattle.session_commands.specs.Lines.{needs_machine}
use Rattle.session_text.specs.Transcript.{needs_any, total_cost, transcript}

-- The first parts of a text, which a session took. Each of them is whole, or the text was taken to its end and has fewer than 2^40 bytes.
pub record IsBegun (text : List ℕ) (left : Option (List ℕ)) : Type 0 where
  pub begun : List ℕ
  pub rest : List ℕ
  pub is_text : text ≡ begun ++ rest
  pub are_parts : text_parts text ≡ text_parts begun ++ text_parts rest
  pub were_taken : IfSome left (λ more. (beyond : List ℕ) × (rest ≡ beyond ++ more))
  pub are_whole : (whole_parts begun ≡ text_parts begun) ⊎ ((rest ≡ []) × (length text < 2 ^ 40))

module _ {D A : Type 0} (d : Ghosts D) (who : Answering A) (g : Given) (old new : Standpoint D A) where
  -- A session answered the first parts of a text, and began the answer to one more at most. What these parts ask for was carried out up to
  -- the halt. Where one of them needs the machine, the history is that of a run; or it is the last one alone, of which nothing was done.
  pub record BeginsText (why : Halt) (text : List ℕ) (left : Option (List ℕ)) : Type 0 where
    pub is_begun : IsBegun text left
    pub answered : List Command
    pub next : List Command
    pub one_at_most : length next ≤ 1
    pub each_asks : EachAsks (text_parts is_begun.begun) (answered ++ next)
    pub cost : ℕ
    pub halted : Stops IsRun d who old.disk new.disk old.store.entries old.held new.held why (transcript g old.store.entries (answered ++ next)) old.around new.around cost
    pub costs : cost ≤ total_cost g old.store.entries (answered ++ next) (named_at halted.touches halted.slices ++ named_at halted.lost_touches halted.lost)
    pub on_run : needs_any g old.store.entries answered ≡ true → IsRun old.store.entries
    pub begun_on_run : needs_any g old.store.entries (answered ++ next) ≡ true → IsRun old.store.entries ⊎ Stops IsRun d who old.disk new.disk old.store.entries old.held new.held why (transcript g old.store.entries answered) old.around new.around cost

  -- A session found out that its history isn't a run's: it answered the first parts of a text, none of which needs the machine, and of the
  -- next one, which does, it did nothing. Beside what these cost it executed no more than the history, run again.
  pub record FindsOut (text : List ℕ) (left : Option (List ℕ)) : Type 0 where
    pub is_begun : IsBegun text left
    pub answered : List Command
    pub next : Command
    pub each_asks : EachAsks (text_parts is_begun.begun) (answered ++ next ∷ [])
    pub needless : needs_any g old.store.entries answered ≡ false
    pub needs : needs_machine g old.store.entries next ≡ true
    pub cost : ℕ
    pub done : Advances who (transcript g old.store.entries answered) finished old.around new.around cost (CarriesOut IsRun d old.disk new.disk old.store.entries old.held new.held)
    pub costs : cost ≤ total_cost g old.store.entries answered (named_at done.touches done.slices) + rebuild_cost old.store.entries
