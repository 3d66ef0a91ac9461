-- The records of one input: what they name, and what they are without the slice.
use Rattle.std.proofs.lemmas.Bool.Decides.{nat_tests}
use Rattle.std.proofs.Common.{◌≡◌, ℕ, ◌<◌, ◌++◌, Bool, true, false, cond, List, [], ◌∷◌, Option, None, Some, filter, refl, sym, ap, ◌∙◌, append-nil, arith, length}
use Rattle.std.proofs.lemmas.Bool.{cond-true, cond-false}
use Rattle.arn_base.specs.declared.records.Record.{Record}
use Rattle.arn_base.specs.declared.records.Record.TheVariants as entry
use Rattle.parts_model.specs.declared.tagged.TaggedByte.{TaggedByte}
use Rattle.parts_model.specs.Files.{find_file, file_bytes}
use Rattle.parts_model.specs.Image.{is_image}
use Rattle.parts_model.specs.Replies.{Answered}
use Rattle.parts_model.specs.Tagged.{values, given}
use Rattle.acts_model.specs.Records.{is_event}
use Rattle.arn_model.specs.Kernel.{Machine}
use Rattle.arn_model.specs.Laws.{reply_told, ReplyIsTold}
use Rattle.arn_model.specs.Parts.{TurnsHaveParts}
use Rattle.arn_model.specs.Run.{Input, File, Boot, Typed, Unplug, Slice, input_steps, steps_from, instructions_in, is_booted, can_add, may_unplug, boot_found, boot_from, boot_step, file_step, typed_step, unplug_step}
use Rattle.arn_model.specs.Step.{Step}
use Rattle.arn_model.specs.Turn.{Turn, steps_of, turn, is_possible}
use Rattle.log_model.specs.Records.{event_records, slice_records, input_records, records_from, reply_behind, named}
use Rattle.log_model.proofs.TurnLemmas.{turn-kept, turn-names-none, turn-reply}
use Rattle.log_model.proofs.AgainLemmas.{turn-again, ran-possible}

-- What comes from outside takes no step, or one whose record names it, and no reply
data Outer (i : Input) (steps : List Step) : Type 0 where
  NoStep : steps ≡ [] → Outer i steps
  OneStep : (entry : Record) → event_records steps ≡ entry ∷ [] → named (entry ∷ []) ≡ i ∷ [] → is_event entry ≡ true
      → ((rest : List Record) → reply_behind (entry ∷ rest) ≡ None) → Outer i steps

if-Outer : (i : Input) (b : Bool) (s : Step) (entry : Record) → event_records (s ∷ []) ≡ entry ∷ [] → named (entry ∷ []) ≡ i ∷ [] → is_event entry ≡ true → ((rest : List Record) → reply_behind (entry ∷ rest) ≡ None) → Outer i (cond b (s ∷ []) [])
if-Outer i true s entry has names is none = OneStep entry has names is none
if-Outer i false s entry has names is none = NoStep refl

file-Outer : (m : Machine) (path bytes : List ℕ) → Outer (File path bytes) (input_steps m (File path bytes))
file-Outer m path bytes = if-Outer (File path bytes) (can_add m path bytes) (file_step m path bytes) (entry.File path bytes) refl refl refl (λ rest. refl)

typed-Outer : (m : Machine) (bytes : List ℕ) → Outer (Typed bytes) (input_steps m (Typed bytes))
typed-Outer m bytes = if-Outer (Typed bytes) (is_booted m) (typed_step m bytes) (entry.Typed bytes) refl refl refl (λ rest. refl)

unplug-Outer : (m : Machine) (device : ℕ) → Outer (Unplug device) (input_steps m (Unplug device))
unplug-Outer m device = if-Outer (Unplug device) (may_unplug m device) (unplug_step m device) (entry.Unplug device) refl refl refl (λ rest. refl)

boot_from-Outer : (m : Machine) (path : List ℕ) (file : ℕ) (o : Option (List TaggedByte)) → Outer (Boot path) (boot_from m path file o)
boot_from-Outer m path file None = NoStep refl
boot_from-Outer m path file (Some held) = if-Outer (Boot path) (is_image (values held)) (boot_step m path file held) (entry.Boot path (given held)) refl refl refl (λ rest. refl)

boot_found-Outer : (m : Machine) (path : List ℕ) (o : Option ℕ) → Outer (Boot path) (boot_found m path o)
boot_found-Outer m path None = NoStep refl
boot_found-Outer m path (Some file) = boot_from-Outer m path file (file_bytes m.kernel.files file)

boot-Outer : (m : Machine) (path : List ℕ) (b : Bool) → Outer (Boot path) (cond b [] (boot_found m path (find_file m.kernel.files path)))
boot-Outer m path true = NoStep refl
boot-Outer m path false = boot_found-Outer m path (find_file m.kernel.files path)

-- its records are of events
outer-kept : (i : Input) (steps : List Step) → Outer i steps → filter is_event (event_records steps) ≡ event_records steps
outer-kept i steps (NoStep none) = rw none refl
outer-kept i steps (OneStep entry has names is none) = rw (has, is) refl

-- those of a slice are, but for one
slice-kept : (pid : ℕ) (steps : List Step) → filter is_event (event_records steps) ≡ event_records steps → filter is_event (slice_records pid steps) ≡ event_records steps
slice-kept pid [] kept = refl
slice-kept pid (s ∷ steps) kept = kept

possible-kept : (b : Bool) (pid : ℕ) (steps : List Step) → filter is_event (event_records steps) ≡ event_records steps → filter is_event (slice_records pid (cond b steps [])) ≡ event_records (cond b steps [])
possible-kept true pid steps kept = slice-kept pid steps kept
possible-kept false pid steps kept = refl

pub input-kept : TurnsHaveParts → (m : Machine) (i : Input) → filter is_event (input_records i (input_steps m i)) ≡ event_records (input_steps m i)
input-kept h1 m i = grind (arith, nat_tests, outer-kept, file-Outer, boot-Outer, typed-Outer, unplug-Outer, possible-kept, turn-kept)

-- an input's records begin with none of a call or a delivery
outer-begins : (i : Input) (steps : List Step) → Outer i steps → (rest : List Record) → reply_behind rest ≡ None → reply_behind (event_records steps ++ rest) ≡ None
outer-begins i steps (NoStep none) rest before = rw none before
outer-begins i steps (OneStep entry has names is none) rest before = rw has (none rest)

slice-begins : (pid : ℕ) (steps : List Step) (rest : List Record) → reply_behind rest ≡ None → reply_behind (slice_records pid steps ++ rest) ≡ None
slice-begins pid [] rest before = before
slice-begins pid (s ∷ steps) rest before = refl

pub input-begins : (m : Machine) (i : Input) (rest : List Record) → reply_behind rest ≡ None → reply_behind (input_records i (input_steps m i) ++ rest) ≡ None
input-begins m i rest h1 = grind (arith, nat_tests, outer-begins, file-Outer, boot-Outer, typed-Outer, unplug-Outer, slice-begins)

-- an input's records name nothing, where it does nothing, or an input that does the same and has the same records
pub record NamesAgain (m : Machine) (i : Input) : Type 0 where
  pub again : steps_from m (named (input_records i (input_steps m i))) ≡ input_steps m i
  pub recorded : records_from m (named (input_records i (input_steps m i))) ≡ input_records i (input_steps m i)

outer-again : (m : Machine) (i : Input) → ((steps : List Step) → input_records i steps ≡ event_records steps) → Outer i (input_steps m i) → NamesAgain m i
outer-again m i h1 h2 = grind (arith, nat_tests, append-nil)

-- steps of a slice, if there are any, are taken again by a slice of as many instructions, with the reply behind it
pub Repeats : Machine → ℕ → List Step → Type 0
Repeats m pid [] = Unit {0}
Repeats m pid (s ∷ steps) = let all = s ∷ steps in input_steps m (Slice pid (instructions_in all) (reply_behind (event_records all))) ≡ all

-- where there are some
pub some-again : (m : Machine) (pid : ℕ) (steps : List Step) → 0 < length steps → Repeats m pid steps → input_steps m (Slice pid (instructions_in steps) (reply_behind (event_records steps))) ≡ steps
unfolding Repeats
some-again m pid [] some repeats = absurd (omega (arith, some))
some-again m pid (s ∷ steps) some repeats = repeats

slice-again : (m : Machine) (pid count : ℕ) (reply : Option Answered) (steps : List Step) → input_steps m (Slice pid count reply) ≡ steps → Repeats m pid steps → named (event_records steps) ≡ [] → NamesAgain m (Slice pid count reply)
unfolding Repeats
slice-again m pid count reply steps h1 h2 h3 = grind (arith, nat_tests, append-nil)

pub turn-repeats : TurnsHaveParts → (m : Machine) (pid count : ℕ) (reply : Option Answered) → ReplyIsTold count pid reply m → is_possible m pid count ≡ true → (steps : List Step) → steps_of (turn count pid reply m) ≡ steps → Repeats m pid steps
unfolding Repeats
turn-repeats parts m pid count reply told possible [] is = tt
turn-repeats parts m pid count reply told possible (s ∷ steps) is =
    let t = turn count pid reply m in
    let behind : Option Answered = reply_told t.last in
    let ran : ℕ = instructions_in (steps_of t) in
    let same : turn ran pid behind m ≡ t =
    ap (λ (x : Turn). turn (instructions_in (steps_of x)) pid behind m) (sym told) ∙ turn-again parts count pid behind m ∙ told in
    let fits : is_possible m pid ran ≡ true = ran-possible parts count pid reply m s steps possible is in
    let again : input_steps m (Slice pid ran behind) ≡ steps_of t = cond-true (is_possible m pid ran) (steps_of (turn ran pid behind m)) [] fits ∙ ap steps_of same in
    ap (λ (x : List Step). input_steps m (Slice pid (instructions_in x) (reply_behind (event_records x)))) (sym is)
    ∙ ap (λ (x : Option Answered). input_steps m (Slice pid ran x)) (turn-reply parts count pid reply m)
    ∙ again
    ∙ is

possible-again : TurnsHaveParts → (m : Machine) (pid count : ℕ) (reply : Option Answered) → ReplyIsTold count pid reply m → (b : Bool) → is_possible m pid count ≡ b → NamesAgain m (Slice pid count reply)
unfolding Repeats
possible-again parts m pid count reply told true possible =
    let steps = steps_of (turn count pid reply m) in
    slice-again m pid count reply steps (cond-true (is_possible m pid count) steps [] possible) (turn-repeats parts m pid count reply told possible steps refl) (turn-names-none parts count pid reply m)
possible-again parts m pid count reply told false possible = grind (arith, nat_tests, slice-again m pid count reply [] (cond-false (is_possible m pid count) (steps_of (turn count pid reply m)) [] possible) tt refl)

-- where each turn is the same with the reply that its record names
pub input-again : TurnsHaveParts → (m : Machine) (i : Input) → ((n pid : ℕ) (reply : Option Answered) → ReplyIsTold n pid reply m) → NamesAgain m i
input-again parts m (File path bytes) told = outer-again m (File path bytes) (λ steps. refl) (file-Outer m path bytes)
input-again parts m (Boot path) told = outer-again m (Boot path) (λ steps. refl) (boot-Outer m path (is_booted m))
input-again parts m (Typed bytes) told = outer-again m (Typed bytes) (λ steps. refl) (typed-Outer m bytes)
input-again parts m (Unplug device) told = outer-again m (Unplug device) (λ steps. refl) (unplug-Outer m device)
input-again parts m (Slice pid count reply) told = possible-again parts m pid count reply (told count pid reply) (is_possible m pid count) refl
