-- What holds of devices in slots, slice by slice and in whole legs.
use Rattle.std.specs.Prelude.{◌≡◌, ℕ, List, [], ◌∷◌, ◌++◌, map, Option}
use Rattle.arn_base.specs.declared.boxes.Device.{Ghosts}
use Rattle.arn_base.specs.declared.records.Record.{Record}
use Rattle.arn_base.specs.declared.records.Record.TheVariants as entry
use Rattle.parts_model.specs.Replies.{Answered}
use Rattle.history_model.specs.Unplugged.{unplugged_in}
use Rattle.log_model.specs.Records.{records_from}
use Rattle.guest_devices.specs.Answers.{Asked}
use Rattle.guest_devices.specs.Slots.{SlotAnswers, UnplugsSlot}
use Rattle.guest_legs.specs.Legs.{AreInRange, Ask, Going, IsInRange, Picked, asks_by, input_of}
use Rattle.guest_machine.specs.Asked.{AreOfAnswer, HoldNoAnswer, extras_in, slice_asks, slice_entries}
use Rattle.guest_machine.specs.Legs.{RepliedBy}
use Rattle.guest_machine.specs.Slices.{RepliesIn}
use Rattle.guest_machine.specs.Took.{Read, SlotFollows, reads_in, reads_of}

-- what devices in slots answer
abbrev pub slots_answer : {D : Type 0} → Ghosts D → List (Option D) → Asked → Answered → List (Option D) → Type 0
slots_answer d old asked answer new = SlotAnswers d.replies d.room d.took d.put_faults asked answer old new

-- the records of a slice hold what was answered to what it asks, whoever answers
abbrev pub AnswersAreRecorded : {A : Type 0} → (A → Asked → Answered → A → Type 0) → Type 0
AnswersAreRecorded {A} answers =
    (ask : Ask) (s : Picked) (old new : A) → IsInRange ask s.pick → RepliesIn answers s.pick.count s.pick.pid ask.machine s.reply old new
    → AreOfAnswer (slice_asks ask s) s.reply (extras_in (slice_entries ask s))

-- Each slot follows its records: where they hold no answer of a device, in a slice, in an unplugging, and in one behind the other.
pub record SlotsFollow {D : Type 0} (d : Ghosts D) : Type 0 where
  pub others : (n : ℕ) (entries : List Record) (slots : List (Option D)) → HoldNoAnswer (extras_in entries) → unplugged_in entries ≡ [] → SlotFollows d n [] entries slots slots
  pub slice :
      (n : ℕ) (ask : Ask) (s : Picked) (old new : List (Option D)) → IsInRange ask s.pick → RepliesIn (slots_answer d) s.pick.count s.pick.pid ask.machine s.reply old new
      → SlotFollows d n (reads_in n ask s) (slice_entries ask s) old new
  pub unplug : (n device : ℕ) (old new : List (Option D)) → UnplugsSlot device old new → SlotFollows d n [] (entry.Unplug device ∷ []) old new
  pub append :
      (n : ℕ) (reads more : List Read) (entries others : List Record) (old between new : List (Option D)) → SlotFollows d n reads entries old between
      → SlotFollows d n more others between new → SlotFollows d n (reads ++ more) (entries ++ others) old new

-- the slices of a leg, by the records that it adds
abbrev pub TookBy : {D : Type 0} → Ghosts D → Type 0
TookBy {D} d =
    (n : ℕ) (start : Going) (slices : List Picked) (old new : List (Option D)) → AreInRange (asks_by start slices) slices
    → RepliedBy (slots_answer d) (asks_by start slices) slices old new
    → SlotFollows d n (reads_of n (asks_by start slices) slices) (records_from start.machine (map input_of slices)) old new
