-- What the device in a slot replied and took in slices, and what their records say of it.
use Rattle.std.specs.Prelude.{◌≡◌, ◌+◌, ◌==◌, ◌&&◌, not, ℕ, false, true, if◌then◌else◌, List, [], ◌∷◌, ◌++◌, length, flat_map, slice_get, Option, None, Some, IfSome, option_and_then, option_map}
use Rattle.arn_base.specs.Device.{DeviceReply, Faults, Gives, cut_to}
use Rattle.arn_base.specs.declared.boxes.Device.{Ghosts}
use Rattle.arn_base.specs.declared.records.Extra.{Extra}
use Rattle.arn_base.specs.declared.records.Extra.TheVariants as extra
use Rattle.arn_base.specs.declared.records.Record.{Record}
use Rattle.parts_model.specs.Numbered.{nth}
use Rattle.parts_model.specs.Replies as replies
use Rattle.parts_model.specs.Replies.{Answered, IsAbsent, ReadReply, ReadFails, ReadAbsent, to_read}
use Rattle.history_model.specs.Unplugged.{is_gone}
use Rattle.guest_devices.specs.Answers.{Asked, Here, Reads, Writes}
use Rattle.guest_devices.specs.Slots.{is_filled, slot_tells}
use Rattle.guest_legs.specs.Legs.{Ask, Picked}
use Rattle.guest_machine.specs.Asked.{extras_in, slice_asks}

-- a read of a device that is there: of at most so many bytes, with the reply as it is recorded
pub record Read : Type 0 where
  pub len : ℕ
  pub reply : ReadReply

-- a device's reply as it is recorded
abbrev pub as_recorded : DeviceReply → ReadReply
as_recorded Faults = ReadFails
as_recorded (Gives bytes) = replies.Reads bytes

-- a told reply as it is recorded, of a read of at most so many bytes
abbrev pub told_reply : ℕ → DeviceReply → ReadReply
told_reply len told = as_recorded (cut_to len told)

-- one read, if the device was there
abbrev pub read_answered : ℕ → Answered → List Read
read_answered len IsAbsent = []
read_answered len answer = record { len = len; reply = to_read len (Some answer) } ∷ []

-- the reads of device n in a question and its answer
abbrev pub reads_with : ℕ → Asked → Answered → List Read
reads_with n (Here m) answer = []
reads_with n (Reads m len) answer = if m == n then read_answered len answer else []
reads_with n (Writes m bytes) answer = []

-- in what may be asked and answered
abbrev pub reads_by : ℕ → Option Asked → Option Answered → List Read
reads_by n None reply = []
reads_by n (Some asked) None = []
reads_by n (Some asked) (Some answer) = reads_with n asked answer

-- in a slice
abbrev pub reads_in : ℕ → Ask → Picked → List Read
reads_in n ask s = reads_by n (slice_asks ask s) s.reply

-- in slices, one after the other
abbrev pub reads_of : ℕ → List Ask → List Picked → List Read
reads_of n [] slices = []
reads_of n (ask ∷ asks) [] = []
reads_of n (ask ∷ asks) (s ∷ slices) = reads_in n ask s ++ reads_of n asks slices

-- the bytes of a reply, if it isn't a fault
abbrev pub reply_bytes : ReadReply → List (List ℕ)
reply_bytes (replies.Reads bytes) = bytes ∷ []
reply_bytes ReadFails = []
reply_bytes ReadAbsent = []

-- the bytes of the Reply records of device n, one list for each
abbrev pub replied_in : ℕ → Extra → List (List ℕ)
replied_in n (extra.Reply device bytes) = if device == n then bytes ∷ [] else []
replied_in n other = []

abbrev pub replied_by : ℕ → List Record → List (List ℕ)
replied_by n entries = flat_map (replied_in n) (extras_in entries)

-- the bytes of the Sent records of device n
abbrev pub sent_in : ℕ → Extra → List ℕ
sent_in n (extra.Sent device bytes) = if device == n then bytes else []
sent_in n other = []

abbrev pub sent_to : ℕ → List Record → List ℕ
sent_to n entries = flat_map (sent_in n) (extras_in entries)

-- What became of slot n over these reads of it and these records. It holds a device as before, if the records don't say that it was
-- unplugged. From an empty slot nothing is read, and it takes nothing. The bytes that were read are those that the records say it replied.
-- Each reply is the one that its device told for this place, and what it tells then comes behind them. It took the bytes that the records
-- say were sent to it, and no others.
pub record SlotFollows {D : Type 0} (d : Ghosts D) (n : ℕ) (reads : List Read) (entries : List Record) (old new : List (Option D)) : Type 0 where
  pub filled : is_filled new n ≡ (is_filled old n && not (is_gone entries n))
  pub unread : is_filled old n ≡ false → reads ≡ []
  pub unsent : is_filled old n ≡ false → sent_to n entries ≡ []
  pub recorded : replied_by n entries ≡ flat_map (λ read. reply_bytes read.reply) reads
  pub told : (k : ℕ) → IfSome (slot_tells d.replies old n k) (λ told. option_map (λ read. read.reply) (slice_get reads k) ≡ option_map (λ read. told_reply read.len told) (slice_get reads k))
  pub later : is_filled new n ≡ true → (k : ℕ) → slot_tells d.replies new n k ≡ slot_tells d.replies old n (length reads + k)
  pub took : is_filled new n ≡ true → option_and_then d.took (nth new n) ≡ option_map (λ had. had ++ sent_to n entries) (option_and_then d.took (nth old n))
