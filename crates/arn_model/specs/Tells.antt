-- What each step of a run tells: all that may be known of a call without a look at its row.
use Rattle.std.specs.Prelude.{◌≡◌, ◌⊎◌, ℕ, ◌-◌, ◌^◌, ◌<◌, ◌≤◌, ◌==◌, nat_lt, Bool, true, false, if◌then◌else◌, List, [], ◌∷◌, length, Option, Some, None, IfSome, is_some, option_map, option_and_then, slice_get, bytes_eq}
use Rattle.arn_base.specs.declared.records.Extra.{Extra}
use Rattle.arn_base.specs.declared.records.Extra.TheVariants as extra
use Rattle.arn_base.specs.declared.records.Record.{Record}
use Rattle.arn_base.specs.declared.records.Record.TheVariants as entry
use Rattle.arn_base.specs.declared.machine.Cpu.{Cpu}
use Rattle.arn_base.specs.Window.{Window}
use Rattle.parts_model.specs.Image.{is_image}
use Rattle.parts_model.specs.declared.tagged.TaggedByte.{TaggedByte}
use Rattle.parts_model.specs.Channel.{Channel}
use Rattle.parts_model.specs.Files.{Files, find_file, file_bytes, laid_over}
use Rattle.parts_model.specs.Numbered.{nth}
use Rattle.parts_model.specs.Processes as table
use Rattle.parts_model.specs.Tagged.{held_bytes, values, given}
use Rattle.rv64_isa.specs.declared.instruction.Instr.{Instr}
use Rattle.rv64_model.specs.Instruction.{Next}
use Rattle.acts_model.specs.Acts as acts
use Rattle.acts_model.specs.Acts.{Act, Forks, Founds, beginning_of, start_of}
use Rattle.acts_model.specs.Bodies.{View, seen}
use Rattle.acts_model.specs.Disagreement.{wrong_with}
use Rattle.acts_model.specs.Moved.{KernelByte, ConsoleByte, PipeByte, FileByte, StatusByte, Range, behind, place_in, Incoming, Outside, Nothing, From}
use Rattle.acts_model.specs.Records.{process_of, event_len, life_told, lives_after, NameChange, Names, Unnames, NoName, name_told, Written, put_told, give_of}
use Rattle.acts_model.specs.Told.{act_of}
use Rattle.acts_model.specs.Views.{stands_at}
use Rattle.arn_model.specs.Doing.{Doing}
use Rattle.arn_model.specs.Kernel.{Kernel, Machine}
use Rattle.arn_model.specs.Run.{is_booted, can_add, file_step, typed_step, unplug_step, boot_step, may_unplug}
use Rattle.arn_model.specs.Step.{Step, plain_step, event_step}

-- the byte of a channel at a position, while it is in the queue
abbrev pub at_position : Channel → ℕ → Option TaggedByte
at_position channel n = if nat_lt n channel.taken then None else slice_get channel.queue (n - channel.taken)

-- a byte that the kernel holds
abbrev pub kernel_byte : Kernel → KernelByte → Option TaggedByte
kernel_byte k (ConsoleByte n) = at_position k.console n
kernel_byte k (PipeByte pipe n) = option_and_then (λ p. at_position p.channel n) (nth k.pipes pipe)
kernel_byte k (FileByte file at) = option_and_then (λ bytes. slice_get bytes at) (file_bytes k.files file)
kernel_byte k (StatusByte pid) = table.status_of k.processes pid

-- received bytes are those that the kernel held, and the record has them with their origins
pub record ReceivesHeld (k : Kernel) (range : Range) (bytes : List ℕ) (entry : Record) : Type 0 where
  pub held : List TaggedByte
  pub all : length held ≡ range.len
  pub received : values held ≡ bytes
  pub there : (n : ℕ) → n < range.len → kernel_byte k (behind range.first n) ≡ slice_get held n
  pub told : give_of entry ≡ Some (given held)

abbrev pub Receives : Kernel → Incoming → List ℕ → Record → Type 0
Receives k Outside bytes entry = give_of entry ≡ None
Receives k Nothing bytes entry = give_of entry ≡ None
Receives k (From range) bytes entry = ReceivesHeld k range bytes entry

-- an act that receives bytes has them from somewhere
abbrev pub ComesFrom : Act → Incoming → Type 0
ComesFrom (acts.Receives at bytes result) Nothing = ⊥
ComesFrom act incoming = Unit {0}

-- what the bytes of an event become are as many
abbrev pub Spans : Option Range → List ℕ → Type 0
Spans None bytes = Unit {0}
Spans (Some range) bytes = range.len ≡ length bytes

-- the event byte that is put into a kernel byte, with itself as origin
abbrev pub put_byte : ℕ → List ℕ → Option ℕ → Option TaggedByte
put_byte event bytes None = None
put_byte event bytes (Some n) = option_map (λ b. record { value = b; origin = record { event = event; at = n } }) (slice_get bytes n)

abbrev pub outgoing_byte : ℕ → List ℕ → Option Range → KernelByte → Option TaggedByte
outgoing_byte event bytes None byte = None
outgoing_byte event bytes (Some range) byte = put_byte event bytes (place_in range byte)

-- what the kernel holds after an event was put there, or was held before
abbrev pub HoldsAfter : Kernel → ℕ → List ℕ → Option Range → Kernel → Type 0
HoldsAfter old event bytes outgoing new =
    (byte : KernelByte) (held : TaggedByte) → kernel_byte new byte ≡ Some held
    → (outgoing_byte event bytes outgoing byte ≡ Some held) ⊎ ((outgoing_byte event bytes outgoing byte ≡ None) × (kernel_byte old byte ≡ Some held))

-- the process holds a segment
abbrev pub HoldsSegment : View → Type 0
HoldsSegment v = (made : ℕ) × (v.body.segment ≡ Some made)

-- a fork founds a group exactly where the parent holds no segment, and its record has how the child begins
abbrev pub ForksRightly : ℕ → View → Act → Extra → Type 0
ForksRightly child v (Forks c) more = (c ≡ child) × HoldsSegment v
ForksRightly child v (Founds c) more = (c ≡ child) × (v.body.segment ≡ None) × (more ≡ extra.Start (start_of (beginning_of v)))
ForksRightly child v act more = Unit {0}

-- a process lives
abbrev pub lives : Kernel → ℕ → Bool
lives k pid = is_some (table.live_process k.processes pid)

-- the file that a name stands for after a change
abbrev pub named_after : NameChange → List ℕ → Option ℕ → Option ℕ
named_after (Names path file) name before = if bytes_eq path name then Some file else before
named_after (Unnames path) name before = if bytes_eq path name then None else before
named_after NoName name before = before

-- a file's bytes after a write
abbrev pub patched : ℕ → Option Written → ℕ → List TaggedByte → List TaggedByte
patched event None file old = old
patched event (Some w) file old = if w.file == file then laid_over old w.at (held_bytes event w.bytes) else old

-- a file that is there was there before the event, or is new and empty
abbrev pub FileAfter : ℕ → Record → ℕ → Option (List TaggedByte) → Option (List TaggedByte) → Type 0
FileAfter event entry file old None = Unit {0}
FileAfter event entry file None (Some new) = new ≡ []
FileAfter event entry file (Some old) (Some new) = new ≡ patched event (put_told entry) file old

-- files are only ever added, and one that is gone stays gone
pub record FilesLast (old new : Files) : Type 0 where
  pub made : length old.all ≤ length new.all
  pub gone : (file : ℕ) → file < length old.all → file_bytes old file ≡ None → file_bytes new file ≡ None

-- a write begins in a file that was made, or at its end
pub record WritesIn (files : Files) (w : Written) : Type 0 where
  pub made : w.file < length files.all
  pub inside : IfSome (file_bytes files w.file) (λ bytes. w.at ≤ length bytes)

abbrev pub WritesInside : Files → Option Written → Type 0
WritesInside files None = Unit {0}
WritesInside files (Some w) = WritesIn files w

-- a record that a slice makes: a delivery, a call or an end by fault
abbrev pub is_inner : Record → Bool
is_inner (entry.Signal pid signal cut handler) = true
is_inner (entry.Call pid number result more) = true
is_inner (entry.End pid status) = true
is_inner other = false

-- what a call's record holds beside the result
abbrev pub extra_in : Record → Extra
extra_in (entry.Call pid number result more) = more
extra_in other = extra.Nothing

-- an event of a process, as its record tells it
pub record EventTells (m : Machine) (pid : ℕ) (v : View) (d : Doing) (entry : Record) : Type 0 where
  -- the record's process sees this, its act is the one that the record tells, and nothing is wrong with it
  pub inner : is_inner entry ≡ true
  pub process : process_of entry ≡ Some pid
  pub seen : seen m.bodies pid ≡ Some v
  pub told : act_of v.body.cpu entry ≡ Some d.act
  pub right : wrong_with v (stands_at v) entry ≡ None
  pub forks : ForksRightly (table.next_process m.kernel.processes) v d.act (extra_in entry)
  -- the event's bytes, where they come from and what they become
  pub length : event_len entry ≡ length d.bytes
  pub comes : ComesFrom d.act d.incoming
  pub receives : Receives m.kernel d.incoming d.bytes entry
  pub spans : Spans d.outgoing d.bytes
  pub holds : HoldsAfter m.kernel m.events d.bytes d.outgoing d.kernel
  -- processes, names and files change as the record says
  pub lives : (q : ℕ) → lives d.kernel q ≡ lives_after (life_told entry) q (lives m.kernel q)
  pub names : (path : List ℕ) → find_file d.kernel.files path ≡ named_after (name_told entry) path (find_file m.kernel.files path)
  pub files : (file : ℕ) → FileAfter m.events entry file (file_bytes m.kernel.files file) (file_bytes d.kernel.files file)
  pub last : FilesLast m.kernel.files d.kernel.files
  pub writes : WritesInside m.kernel.files (put_told entry)
  -- no device is unplugged
  pub unplugged : d.kernel.unplugged ≡ m.kernel.unplugged

-- what a step of a run is
pub data StepTells (m : Machine) (s : Step) : Type 0 where
  -- an instruction that the next one follows
  Runs : (pid : ℕ) (v : View) (instr : Instr) (cpu : Cpu) (memory : List Window) → seen m.bodies pid ≡ Some v
      → stands_at v ≡ Next instr cpu memory → s ≡ plain_step m pid v instr cpu memory → StepTells m s
  -- a delivery, a call or an end by fault
  Happens : (pid : ℕ) (v : View) (d : Doing) (entry : Record) → EventTells m pid v d entry → s ≡ event_step m pid v d entry → StepTells m s
  -- the boot, from a file that is an image
  Boots : (path : List ℕ) (file : ℕ) (held : List TaggedByte) → is_booted m ≡ false → find_file m.kernel.files path ≡ Some file
      → file_bytes m.kernel.files file ≡ Some held → is_image (values held) ≡ true → s ≡ boot_step m path file held → StepTells m s
  -- a boot file, a typed piece, an unplugging
  Adds : (path bytes : List ℕ) → can_add m path bytes ≡ true → s ≡ file_step m path bytes → StepTells m s
  Types : (bytes : List ℕ) → is_booted m ≡ true → s ≡ typed_step m bytes → StepTells m s
  Unplugs : (device : ℕ) → may_unplug m device ≡ true → s ≡ unplug_step m device → StepTells m s

-- fewer than 2^63 processes have been made, so that no child's number is an error
abbrev pub HasNumbers : Kernel → Type 0
HasNumbers k = length k.processes < 2 ^ 63

-- a fact of each step, from a machine on
abbrev pub Along : (Machine → Step → Type 0) → Machine → List Step → Type 0
Along P m [] = Unit {0}
Along P m (s ∷ steps) = P m s × Along P s.after steps
