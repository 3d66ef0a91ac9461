-- The records of an input stand.
use Rattle.std.proofs.Common.{◌≡◌, ℕ, zero, suc, ◌&&◌, not, nat_lt, Bool, true, false, if◌then◌else◌, List, [], ◌∷◌, ◌++◌, length, Option, Some, None, is_some, refl, ap, subst, ◌∙◌, append_assoc, arith}
use Rattle.std.proofs.lemmas.Bool.Decides.{nat_tests}
use Rattle.std.proofs.lemmas.Bool.{not-true, and_parts}
use Rattle.arn_base.specs.declared.records.Record.{Record}
use Rattle.arn_base.specs.declared.records.Record.TheVariants as entry
use Rattle.parts_model.specs.declared.tagged.TaggedByte.{TaggedByte}
use Rattle.parts_model.specs.Files.{find_file, file_bytes}
use Rattle.parts_model.specs.Image.{is_image}
use Rattle.parts_model.specs.Processes.{Processes, live_process}
use Rattle.parts_model.specs.Replies.{Answered}
use Rattle.parts_model.specs.Tagged.{values, given}
use Rattle.arn_model.specs.Kernel.{Machine}
use Rattle.arn_model.specs.Run as run
use Rattle.arn_model.specs.Run.{Input, File, Boot, Typed, Unplug, Slice, can_add, may_unplug, file_step, typed_step, unplug_step, boot_step, boot_from, boot_found, input_steps, after_input, instructions_in}
use Rattle.arn_model.specs.Sound.{IsSoundMachine}
use Rattle.arn_model.specs.Step.{Step}
use Rattle.arn_model.specs.Tells.{lives, Along}
use Rattle.arn_model.specs.TransferCalls.{was_unplugged}
use Rattle.arn_model.specs.Turn.{after_steps, turn, steps_of, is_possible, is_runnable}
use Rattle.history_model.specs.Broken.{comes_wrong, lacks_process, lacks_slice}
use Rattle.history_model.specs.Moments.{lives_at, total}
use Rattle.history_model.specs.Names as names
use Rattle.log_model.specs.Records.{input_records, slice_records, event_records}
use Rattle.unbroken_laws.proofs.Steps.{Facts, Known, slice-known, slice-fits, event-fits, event-known}
use Rattle.unbroken_laws.proofs.Stands.{Stands, can-follow, behind-slice}
use Rattle.unbroken_laws.proofs.Turns.{Goes, goes-none, goes-on, IsRecord, event-is, turn-goes}

-- records that stand, and tell of the machine that they lead to
pub record Come (before entries : List Record) (after : Machine) : Type 0 where
  pub stands : Stands before entries
  pub known : Known (before ++ entries) after

come : (before : List Record) (m : Machine) (steps : List Step) → Goes before m steps → Come before (event_records steps) (after_steps m steps)
come before m steps goes = record { stands = goes.stands; known = goes.known }

-- what the records say of the machine between inputs
pub record Says (before : List Record) (m : Machine) : Type 0 where
  pub booted : names.is_booted before ≡ run.is_booted m
  pub living : (pid : ℕ) → lives_at before (total before) pid ≡ lives m.kernel pid

-- one event from outside
one-goes : (before : List Record) (m : Machine) (s : Step) (e : Record) → IsRecord s.moved.inside.event e → Facts m s → comes_wrong before e ≡ false → lacks_process before e ≡ false → lacks_slice before e ≡ false → Known before m → Goes before m (s ∷ [])
one-goes before m s e is facts comes process slice known =
    let happened = event-is m s e facts is in
    goes-on before m s e [] happened (can-follow before e comes process slice (event-fits before m s e facts happened known)) (goes-none (before ++ e ∷ []) s.after (event-known before m s e facts happened known))

if-goes : (before : List Record) (m : Machine) (b c : Bool) (s : Step) (e : Record) → b ≡ c → IsRecord s.moved.inside.event e → Along Facts m (if c then s ∷ [] else []) → (b ≡ true → comes_wrong before e ≡ false) → lacks_process before e ≡ false → lacks_slice before e ≡ false → Known before m → Goes before m (if c then s ∷ [] else [])
if-goes before m b true s e same is facts comes process slice known = one-goes before m s e is facts.0 (comes same) process slice known
if-goes before m b false s e same is facts comes process slice known = goes-none before m known

-- a boot
boot-goes : (before : List Record) (m : Machine) (path : List ℕ) (o : Option ℕ) → run.is_booted m ≡ false → Says before m → Along Facts m (boot_found m path o) → Known before m → Goes before m (boot_found m path o)
boot-goes before m path None first says facts known = goes-none before m known
boot-goes before m path (Some file) first says facts known = by_bytes (file_bytes m.kernel.files file) facts
  where
    by_image : (held : List TaggedByte) (b : Bool) → Along Facts m (if b then boot_step m path file held ∷ [] else []) → Goes before m (if b then boot_step m path file held ∷ [] else [])
    by_image held true facts = one-goes before m (boot_step m path file held) (entry.Boot path (given held)) refl facts.0 (says.booted ∙ first) refl refl known
    by_image held false facts = goes-none before m known

    by_bytes : (o : Option (List TaggedByte)) → Along Facts m (boot_from m path file o) → Goes before m (boot_from m path file o)
    by_bytes None facts = goes-none before m known
    by_bytes (Some held) facts = by_image held (is_image (values held)) facts

unless-goes : (before : List Record) (m : Machine) (path : List ℕ) (b : Bool) → run.is_booted m ≡ b → Says before m → Along Facts m (if b then [] else boot_found m path (find_file m.kernel.files path)) → Known before m → Goes before m (if b then [] else boot_found m path (find_file m.kernel.files path))
unless-goes before m path true e says facts known = goes-none before m known
unless-goes before m path false e says facts known = boot-goes before m path (find_file m.kernel.files path) e says facts known

-- a process that can go on lives, and one was made
body-lives : (m : Machine) (pid : ℕ) → IsSoundMachine m → is_runnable m pid ≡ true → lives m.kernel pid ≡ true
body-lives m pid h1 h2 = grind (arith, nat_tests)

past-none : (pid : ℕ) → is_some (live_process [] pid) ≡ true → ⊥
past-none zero is = cc
past-none (suc i) is = cc

made-of : (all : Processes) (pid : ℕ) → is_some (live_process all pid) ≡ true → nat_lt 0 (length all) ≡ true
made-of [] pid is = absurd (past-none pid is)
made-of (x ∷ all) pid is = grind (arith, nat_tests)

-- a slice
slice-comes : (before : List Record) (m : Machine) (pid : ℕ) (S : List Step) → is_runnable m pid ≡ true → Says before m → Along Facts m S → Known before m → ((ran : ℕ) → Goes (before ++ entry.Slice pid ran ∷ []) m S) → Come before (slice_records pid S) (after_steps m S)
slice-comes before m pid [] runs says facts known goes = come before m [] (goes-none before m known)
slice-comes before m pid (s ∷ steps) runs says facts known goes =
    let ran = instructions_in (s ∷ steps) in
    let e : Record = entry.Slice pid ran in
    let living = body-lives m pid facts.0.sound runs in
    let goes' = goes ran in
    let follows = can-follow before e (ap not (says.booted ∙ made-of m.kernel.processes pid living)) (ap not (says.living pid ∙ living)) refl (slice-fits before pid ran) in
    record {
      stands = (follows, goes'.stands);
      known = subst (λ (es : List Record). Known es (after_steps m (s ∷ steps))) (append_assoc before (e ∷ []) (event_records (s ∷ steps))) goes'.known;
    }

if-slice : (before : List Record) (m : Machine) (pid count : ℕ) (reply : Option Answered) (b : Bool) → is_possible m pid count ≡ b → Says before m → Along Facts m (if b then steps_of (turn count pid reply m) else []) → Known before m → Come before (slice_records pid (if b then steps_of (turn count pid reply m) else [])) (after_steps m (if b then steps_of (turn count pid reply m) else []))
if-slice before m pid count reply true e says facts known =
    slice-comes before m pid (steps_of (turn count pid reply m)) (and_parts (is_runnable m pid) _ e).0 says facts known
    (λ ran. turn-goes (before ++ entry.Slice pid ran ∷ []) count pid reply m facts (behind-slice before pid ran) (slice-known before m pid ran known))
if-slice before m pid count reply false e says facts known = come before m [] (goes-none before m known)

unplug-booted : (m : Machine) (device : ℕ) → may_unplug m device ≡ true → run.is_booted m ≡ true
unplug-booted m device e = (and_parts (run.is_booted m) (not (was_unplugged m.kernel device)) e).0

pub input-comes : (before : List Record) (m : Machine) (i : Input) → Says before m → Along Facts m (input_steps m i) → Known before m → Come before (input_records i (input_steps m i)) (after_input m i)
input-comes before m (File path bytes) says facts known =
    come before m (input_steps m (File path bytes))
    (if-goes before m (can_add m path bytes) (can_add m path bytes) (file_step m path bytes) (entry.File path bytes) refl refl facts
    (λ e. says.booted ∙ not-true (run.is_booted m) (and_parts (not (run.is_booted m)) _ e).0) refl refl known)
input-comes before m (Boot path) says facts known = come before m (input_steps m (Boot path)) (unless-goes before m path (run.is_booted m) refl says facts known)
input-comes before m (Typed bytes) says facts known =
    come before m (input_steps m (Typed bytes))
    (if-goes before m (run.is_booted m) (run.is_booted m) (typed_step m bytes) (entry.Typed bytes) refl refl facts (λ e. ap not (says.booted ∙ e)) refl refl known)
input-comes before m (Unplug device) says facts known =
    come before m (input_steps m (Unplug device))
    (if-goes before m (may_unplug m device) (may_unplug m device) (unplug_step m device) (entry.Unplug device) refl refl facts
    (λ e. ap not (says.booted ∙ unplug-booted m device e)) refl refl known)
input-comes before m (Slice pid count reply) says facts known = if-slice before m pid count reply (is_possible m pid count) refl says facts known
