-- What the records of a history tell of its machine, and what a line says that isn't refused.
use Rattle.std.proofs.Common.{◌≡◌, ◌≢◌, ◌⊎◌, inl, inr, ◌<◌, ◌^◌, ℕ, Bool, true, false, List, Option, Some, None, Result, Err, IfErr, length, refl, sym, ap, ◌∙◌, subst, arith, IsNone, IsTrue, if◌then◌else◌, ◌&&◌, ◌==◌, ◌++◌, [], ◌∷◌, is_none, nat_lt, not, option_and_then, option_map}
use Rattle.std.specs.List.{list_any}
use Rattle.std.proofs.lemmas.Bool.{false≢true, ltb-true}
use Rattle.arn_base.specs.declared.records.Record.{Record}
use Rattle.arn_base.specs.declared.records.Record.TheVariants as entry
use Rattle.parts_model.specs.Files.{Files, find_file, file_bytes}
use Rattle.parts_model.specs.Image.{Image, is_image, read_as_image}
use Rattle.parts_model.specs.Tagged.{values}
use Rattle.parts_model.specs.declared.tagged.TaggedByte.{TaggedByte}
use Rattle.arn_model.specs.Kernel.{Kernel, Machine}
use Rattle.arn_model.specs.Laws.{EachRunIsSound}
use Rattle.arn_model.specs.Run as run
use Rattle.arn_model.specs.Run.{Input, Unplug, is_free, machine_after, may_unplug, unplug_step}
use Rattle.arn_model.specs.TransferCalls.{was_unplugged}
use Rattle.arn_model.specs.Tells.{HasNumbers}
use Rattle.history_model.specs.Names as names
use Rattle.history_model.specs.Unplugged.{is_gone}
use Rattle.log_model.specs.Records.{event_records, named, records_from}
use Rattle.replay_laws.specs.Laws.{RecordsTellRuns, TellsRun, named_bytes}
use Rattle.arn_lines.specs.declared.answer.Refusal.TheVariants.{NoBoot, NoBooted, NoDevice, NoImage, NoName}
use Rattle.guest_machine.specs.Laws.{RecordsLeaveRoom}
use Rattle.guest_machine.specs.Recorded.{HasRoom, Recorded, has_process}
use Rattle.guest_machine.specs.declared.errors.MachineError.{MachineError}
use Rattle.guest_machine.specs.declared.errors.MachineError.TheVariants as fails
use Rattle.session_runs.specs.Ready.{IsReady, machine_of}
use Rattle.session_commands.specs.Refusals.{boot_refusal, bring_refusal, early_refusal, file_refusal, refused_if, unplug_refusal}
use Rattle.session_commands.proofs.ReadyLemmas.{room-for}

-- the records tell whether the machine has a process, and until then its files
pub record IsTold (r : Recorded) (history : List Record) : Type 0 where
  pub booted : names.is_booted history ≡ has_process r.kernel
  pub free : names.is_booted history ≡ false → (name : List ℕ) → names.may_bring history name ≡ is_free r.kernel.kernel.files name
  pub brought : names.is_booted history ≡ false → (name : List ℕ) → names.brought history name ≡ named_bytes r.kernel.kernel.files name
  pub gone : (device : ℕ) → is_gone history device ≡ was_unplugged r.kernel.kernel device

-- what the records tell of the run that they are of
pub tells-run : RecordsTellRuns → EachRunIsSound → RecordsLeaveRoom → (r : Recorded) (history : List Record) → IsReady r history → length history < 2 ^ 63 → TellsRun (named history)
tells-run tell sound leave_room r history ready few =
    let inputs : List Input = named history in
    let room : HasRoom r (2 ^ 63) 0 = room-for leave_room r history (2 ^ 63) 0 ready few (omega arith) (omega arith) in
    let numbers : HasNumbers (machine_after inputs).kernel = omega (arith, room.events, ready.is_after.leads.events, (sound inputs).few) in
    tell inputs numbers

-- and so of a machine that belongs to them
pub is-told : RecordsTellRuns → EachRunIsSound → RecordsLeaveRoom → (r : Recorded) (history : List Record) → IsReady r history → length history < 2 ^ 63 → IsTold r history
is-told tell sound leave_room r history ready few =
    let inputs : List Input = named history in
    let t : TellsRun inputs = tells-run tell sound leave_room r history ready few in
    let kernel : (machine_after inputs).kernel ≡ r.kernel.kernel = sym ready.is_after.leads.kernel in
    let later : names.is_booted history ≡ false → run.is_booted (machine_after inputs) ≡ false = λ none. sym t.booted ∙ ap names.is_booted (sym ready.is_run) ∙ none in
    record {
      booted = ap names.is_booted ready.is_run ∙ t.booted ∙ ap (λ (k : Kernel). nat_lt 0 (length k.processes)) kernel;
      free = λ none name. ap (λ (h : List Record). names.may_bring h name) ready.is_run ∙ t.may_bring (later none) name ∙ ap (λ (k : Kernel). is_free k.files name) kernel;
      brought = λ none name. ap (λ (h : List Record). names.brought h name) ready.is_run ∙ t.brought (later none) name ∙ ap (λ (k : Kernel). named_bytes k.files name) kernel;
      gone = λ device.
          ap (λ (h : List Record). is_gone h device) ready.is_run
          ∙ ap (λ (l : List ℕ). list_any (λ d. d == device) l) t.unplugged
          ∙ ap (λ (k : Kernel). was_unplugged k device) kernel;
    }

-- a file may be brought
by-file : (b c : Bool) → (if b then Some NoBooted else refused_if (not c) NoName) ≡ None → (b ≡ false) × (c ≡ true)
by-file true c is = absurd cc
by-file false true is = (refl, refl)
by-file false false is = absurd cc

pub accepted-file : (history : List Record) (name : List ℕ) → bring_refusal history name ≡ None → (names.is_booted history ≡ false) × (names.may_bring history name ≡ true)
accepted-file history name is = by-file (names.is_booted history) (names.may_bring history name) is

-- an image was brought
pub record IsBrought (o : Option (List ℕ)) : Type 0 where
  pub bytes : List ℕ
  pub are : o ≡ Some bytes
  pub image : is_image bytes ≡ true

by-image : (i : Image) (b : Bool) → refused_if (is_none (if b then Some i else None)) NoImage ≡ None → b ≡ true
by-image i true is = refl
by-image i false is = absurd cc

by-boot : (b : Bool) (o : Option (List ℕ)) → (if b then Some NoBooted else file_refusal o) ≡ None → (b ≡ false) × IsBrought o
by-boot true o is = absurd cc
by-boot false None is = absurd cc
by-boot false (Some bytes) is = (refl, record { bytes = bytes; are = refl; image = by-image (read_as_image bytes) (is_image bytes) is })

pub accepted-boot : (history : List Record) (name : List ℕ) → boot_refusal history name ≡ None → (names.is_booted history ≡ false) × IsBrought (names.brought history name)
accepted-boot history name is = by-boot (names.is_booted history) (names.brought history name) is

-- a process was made
by-booted : (b : Bool) → refused_if (not b) NoBoot ≡ None → b ≡ true
by-booted true is = refl
by-booted false is = absurd cc

accepted-type : (history : List Record) → early_refusal history ≡ None → names.is_booted history ≡ true
accepted-type history is = by-booted (names.is_booted history) is

-- what a file is named by has bytes
found-none : (files : Files) (name : List ℕ) → IsNone (find_file files name) → named_bytes files name ≡ None
found-none files name none = by (find_file files name) none
  where
    by : (o : Option ℕ) → IsNone o → option_map values (option_and_then (file_bytes files) o) ≡ None
    by None none = refl
    by (Some file) none = absurd cc

found-some : (files : Files) (name : List ℕ) (file : ℕ) (held : List TaggedByte) → find_file files name ≡ Some file → file_bytes files file ≡ Some held → named_bytes files name ≡ Some (values held)
found-some files name file held is bytes =
    ap (λ (o : Option ℕ). option_map values (option_and_then (file_bytes files) o)) is ∙ ap (λ (o : Option (List TaggedByte)). option_map values o) bytes

-- the file of a name is there, and is no image
pub record IsUnfit (files : Files) (name : List ℕ) : Type 0 where
  pub file : ℕ
  pub held : List TaggedByte
  pub named : find_file files name ≡ Some file
  pub bytes : file_bytes files file ≡ Some held
  pub no_image : is_image (values held) ≡ false

-- a file that may be brought is refused for want of memory alone
pub file-added : {T : Type 0} (result : Result T MachineError) (e : MachineError) (r : Recorded) (history : List Record) (name : List ℕ) → IsTold r history → bring_refusal history name ≡ None → result ≡ Err e
    → (result ≡ Err fails.Booted → IsTrue (has_process r.kernel)) → (result ≡ Err fails.NoName → is_free r.kernel.kernel.files name ≡ false) → IfErr result (λ e. (e ≡ fails.Booted) ⊎ (e ≡ fails.NoName) ⊎ (e ≡ fails.NoMemory)) → e ≡ fails.NoMemory
file-added result e r history name told accepted is booted no_name only = elim (subst (λ x. IfErr x (λ e. (e ≡ fails.Booted) ⊎ (e ≡ fails.NoName) ⊎ (e ≡ fails.NoMemory))) is only) [
  | inl first ↦ absurd (false≢true (sym (accepted-file history name accepted).0 ∙ told.booted ∙ booted (is ∙ ap (λ (x : MachineError). Err x) first)))
  | inr more ↦ elim more [
    | inl second ↦ absurd (false≢true (sym (no_name (is ∙ ap (λ (x : MachineError). Err x) second)) ∙ sym (told.free (accepted-file history name accepted).0 name) ∙ (accepted-file history name accepted).1))
    | inr third ↦ third
  ]
]

-- and so is a boot from an image that was brought
pub boot-begun : {T : Type 0} (result : Result T MachineError) (e : MachineError) (r : Recorded) (history : List Record) (name : List ℕ) → IsTold r history → boot_refusal history name ≡ None → result ≡ Err e
    → (result ≡ Err fails.Booted → IsTrue (has_process r.kernel)) → (result ≡ Err fails.NoName → IsNone (find_file r.kernel.kernel.files name)) → (result ≡ Err fails.NotImage → IsUnfit r.kernel.kernel.files name) → IfErr result (λ e. (e ≢ fails.NotBooted) × (e ≢ fails.NoDevice)) → e ≡ fails.NoMemory
boot-begun result e r history name told accepted is booted no_name not_image only = by e is (subst (λ x. IfErr x (λ e. (e ≢ fails.NotBooted) × (e ≢ fails.NoDevice))) is only)
  where
    file : IsBrought (names.brought history name)
    file = (accepted-boot history name accepted).1

    holds : named_bytes r.kernel.kernel.files name ≡ Some file.bytes
    holds = sym (told.brought (accepted-boot history name accepted).0 name) ∙ file.are

    no_image : IsUnfit r.kernel.kernel.files name → ⊥
    no_image h =
        let same : Some (values h.held) ≡ Some file.bytes = sym (found-some r.kernel.kernel.files name h.file h.held h.named h.bytes) ∙ holds in
        let bytes : values h.held ≡ file.bytes = cc in
        false≢true (sym h.no_image ∙ ap is_image bytes ∙ file.image)

    by : (x : MachineError) → result ≡ Err x → (x ≢ fails.NotBooted) × (x ≢ fails.NoDevice) → x ≡ fails.NoMemory
    by fails.Booted is only = absurd (false≢true (sym (accepted-boot history name accepted).0 ∙ told.booted ∙ booted is))
    by fails.NotBooted is only = absurd (only.0 refl)
    by fails.NoName is only =
        let none : Some file.bytes ≡ None = sym holds ∙ found-none r.kernel.kernel.files name (no_name is) in
        cc
    by fails.NotImage is only = absurd (no_image (not_image is))
    by fails.NoDevice is only = absurd (only.1 refl)
    by fails.NoMemory is only = refl

-- and a typed piece where a process was made
pub piece-typed : {T : Type 0} (result : Result T MachineError) (e : MachineError) (r : Recorded) (history : List Record) → IsTold r history → early_refusal history ≡ None → result ≡ Err e
    → (result ≡ Err fails.NotBooted → has_process r.kernel ≡ false) → IfErr result (λ e. (e ≡ fails.NotBooted) ⊎ (e ≡ fails.NoMemory)) → e ≡ fails.NoMemory
piece-typed result e r history told accepted is not_booted only = elim (subst (λ x. IfErr x (λ e. (e ≡ fails.NotBooted) ⊎ (e ≡ fails.NoMemory))) is only) [
  | inl first ↦ absurd (false≢true (sym (not_booted (is ∙ ap (λ (x : MachineError). Err x) first)) ∙ sym told.booted ∙ accepted-type history accepted))
  | inr second ↦ second
]

-- a device that may be unplugged
pub record MayUnplug (filled : ℕ → Bool) (history : List Record) (device : ℕ) : Type 0 where
  pub booted : names.is_booted history ≡ true
  pub short : device < 2 ^ 32
  pub there : filled device ≡ true
  pub stays : is_gone history device ≡ false

by-unplugged : (booted few filled gone : Bool) → (if booted then refused_if (not ((few && filled) && not gone)) NoDevice else Some NoBoot) ≡ None → (booted ≡ true) × (few ≡ true) × (filled ≡ true) × (gone ≡ false)
by-unplugged false few filled gone is = absurd cc
by-unplugged true false filled gone is = absurd cc
by-unplugged true true false gone is = absurd cc
by-unplugged true true true true is = absurd cc
by-unplugged true true true false is = (refl, refl, refl, refl)

pub accepted-unplug : (filled : ℕ → Bool) (history : List Record) (device : ℕ) → unplug_refusal filled history device ≡ None → MayUnplug filled history device
accepted-unplug filled history device is =
    let parts = by-unplugged (names.is_booted history) (nat_lt device (2 ^ 32)) (filled device) (is_gone history device) is in
    record { booted = parts.0; short = ltb-true device (2 ^ 32) parts.1; there = parts.2; stays = parts.3 }

-- it is refused for want of memory alone
pub device-unplugged : {T : Type 0} (result : Result T MachineError) (e : MachineError) (r : Recorded) (filled : ℕ → Bool) (history : List Record) (device : ℕ) → IsTold r history → unplug_refusal filled history device ≡ None → result ≡ Err e
    → (result ≡ Err fails.NotBooted → has_process r.kernel ≡ false) → (result ≡ Err fails.NoDevice → IsTrue (has_process r.kernel) × ((filled device ≡ false) ⊎ IsTrue (was_unplugged r.kernel.kernel device)))
    → IfErr result (λ e. (e ≡ fails.NotBooted) ⊎ (e ≡ fails.NoDevice) ⊎ (e ≡ fails.NoMemory)) → e ≡ fails.NoMemory
device-unplugged result e r filled history device told accepted is not_booted no_device only = elim (subst (λ x. IfErr x (λ e. (e ≡ fails.NotBooted) ⊎ (e ≡ fails.NoDevice) ⊎ (e ≡ fails.NoMemory))) is only) [
  | inl first ↦ absurd (false≢true (sym (not_booted (is ∙ ap (λ (x : MachineError). Err x) first)) ∙ sym told.booted ∙ may.booted))
  | inr more ↦ elim more [
    | inl second ↦ elim (no_device (is ∙ ap (λ (x : MachineError). Err x) second)).1 [
      | inl empty ↦ absurd (false≢true (sym empty ∙ may.there))
      | inr gone ↦ absurd (false≢true (sym may.stays ∙ told.gone device ∙ gone))
    ]
    | inr third ↦ third
  ]
]
  where
    may : MayUnplug filled history device
    may = accepted-unplug filled history device accepted

both-true : (a b : Bool) → a ≡ true → b ≡ false → (a && not b) ≡ true
both-true a b p q = ap (λ (x : Bool). x && not b) p ∙ ap (λ (x : Bool). true && not x) q

-- its record is the input's
pub unplug-recorded : (r : Recorded) (filled : ℕ → Bool) (history : List Record) (device : ℕ) → IsReady r history → IsTold r history → unplug_refusal filled history device ≡ None → records_from (machine_of history) (Unplug device ∷ []) ≡ entry.Unplug device ∷ []
unplug-recorded r filled history device ready told accepted =
    let m : Machine = machine_of history in
    let may : MayUnplug filled history device = accepted-unplug filled history device accepted in
    let kernel : m.kernel ≡ r.kernel.kernel = sym ready.is_after.leads.kernel in
    let booted : run.is_booted m ≡ true = ap (λ (k : Kernel). nat_lt 0 (length k.processes)) kernel ∙ sym told.booted ∙ may.booted in
    let stays : was_unplugged m.kernel device ≡ false = ap (λ (k : Kernel). was_unplugged k device) kernel ∙ sym (told.gone device) ∙ may.stays in
    ap (λ (b : Bool). event_records (if b then unplug_step m device ∷ [] else []) ++ []) (both-true (run.is_booted m) (was_unplugged m.kernel device) booted stays)
