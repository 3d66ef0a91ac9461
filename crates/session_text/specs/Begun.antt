-- What a session did that began on a history.
use Rattle.std.specs.Prelude.{ℕ, true, List, Option}
use Rattle.arn_base.specs.declared.boxes.Device as device
use Rattle.arn_base.specs.declared.disk.Disk.{Ghosts}
use Rattle.arn_base.specs.declared.records.Record.{Record}
use Rattle.log_store.specs.Stores.{StoreState}
use Rattle.guest_devices.specs.Slots.{SlotAnswers, UnplugsSlot, is_filled}
use Rattle.session_effects.specs.declared.halt.Halt.{Halt}
use Rattle.session_runs.specs.Points.{Surroundings}
use Rattle.session_runs.specs.Touches.{Answering}
use Rattle.session_runs.specs.Standing.{Standpoint, standpoint}
use Rattle.session_commands.specs.Given.{Given}
use Rattle.session_text.specs.CutOff.{BeginsText, FindsOut}

-- devices in slots as those who answer
abbrev pub slots_answer : {V : Type 0} → device.Ghosts V → Answering (List (Option V))
slots_answer v = record {
  answers = λ old asked answer new. SlotAnswers v.replies v.room v.took v.put_faults asked answer old new;
  unplugs = λ n old new. UnplugsSlot n old new;
  filled = λ slots n. is_filled slots n;
}

-- how it stands around a session: the disk, what the sink holds if it tells, and what surrounds the machine
pub record Standing (D A : Type 0) : Type 0 where
  pub disk : D
  pub held : Option (List ℕ)
  pub around : Surroundings A

abbrev pub standing : {D A : Type 0} → D → Option (List ℕ) → Surroundings A → Standing D A
standing disk held around = record { disk = disk; held = held; around = around }

-- a store of these records, where the length of its log doesn't matter
abbrev pub store_of : List Record → StoreState
store_of history = record { entries = history; log_len = 0; usable = true }

-- where a session of a history stands
abbrev pub on_history : {D A : Type 0} → List Record → Standing D A → Standpoint D A
on_history history s = standpoint s.disk (store_of history) s.held s.around

module _ {D A : Type 0} (d : Ghosts D) (who : Answering A) (g : Given) (history : List Record) (old new : Standing D A) where
  -- it answered the first parts of a text, and began one more at most, up to a halt
  abbrev pub BeginsOn : Halt → List ℕ → Option (List ℕ) → Type 0
  BeginsOn why text left = BeginsText d who g (on_history history old) (on_history history new) why text left

  -- it found out at a part of a text that its history isn't a run's
  abbrev pub FindsOn : List ℕ → Option (List ℕ) → Type 0
  FindsOn text left = FindsOut d who g (on_history history old) (on_history history new) text left
