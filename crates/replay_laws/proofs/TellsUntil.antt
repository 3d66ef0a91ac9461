-- The events that have happened at a moment, by the records, are those of the run's steps up to it; and the records count its instructions.
use Rattle.std.proofs.lemmas.Grind.{common_steps}
use Rattle.std.proofs.Common.{◌≡◌, ℕ, zero, suc, ◌+◌, ◌<◌, ◌≤◌, ◌++◌, Bool, true, false, cond, nat_le, List, [], ◌∷◌, Option, None, Some, length, option_to_list, refl, sym, ap, subst, ◌∙◌, arith, append_assoc}
use Rattle.std.proofs.lemmas.Bool.Decides.{nat_tests}
use Rattle.std.proofs.lemmas.List.Sums.{sum_by-append, sum_by-cons}
use Rattle.arn_base.specs.declared.records.Record.{Record}
use Rattle.arn_base.specs.declared.records.Record.TheVariants as entry
use Rattle.parts_model.specs.declared.tagged.TaggedByte.{TaggedByte}
use Rattle.parts_model.specs.Files.{find_file, file_bytes}
use Rattle.parts_model.specs.Image.{is_image}
use Rattle.parts_model.specs.Tagged.{values, given}
use Rattle.acts_model.specs.Moved.{is_instruction}
use Rattle.arn_model.specs.Kernel.{Machine, at_first}
use Rattle.arn_model.specs.Parts.{Delivery, MaybeDelivery, ArePlain, Last, MaybeLast, Calls, Ends, IsTurn, TurnsHaveParts, one_if_some}
use Rattle.arn_model.specs.Run.{Input, File, Boot, Typed, Unplug, Slice, input_steps, after_input, steps_from, run, instructions_in, within, unless_reached, is_booted, can_add, may_unplug, boot_found, boot_from, boot_step, file_step, typed_step, unplug_step}
use Rattle.arn_model.specs.Step.{Step}
use Rattle.arn_model.specs.Turn.{Turn, steps_of, turn, is_possible}
use Rattle.history_model.specs.Moments.{Numbered, ran_in, total, if_happened, events_from, events_until}
use Rattle.log_model.specs.Records.{event_records, slice_records, input_records, records_from, records}

-- records with their numbers
abbrev pub numbered : ℕ → List Record → List Numbered
numbered n [] = []
numbered n (e ∷ entries) = record { number = n; entry = e } ∷ numbered (n + 1) entries

-- the records' events up to a moment behind `ends` are those of so many instructions of the steps, and none happens before `ends`
pub record Agree (entries : List Record) (steps : List Step) : Type 0 where
  pub at : (begins ends n left : ℕ) → events_from (ends + left) begins ends n entries ≡ numbered n (event_records (within left steps))
  pub past : (moment begins ends n : ℕ) → moment < ends → events_from moment begins ends n entries ≡ []

le-yes : (a b : ℕ) → a ≤ b → nat_le a b ≡ true
le-yes a b h = grind (arith, nat_tests)

le-no : (a b : ℕ) → b < a → nat_le a b ≡ false
le-no a b h = grind (arith, nat_tests)

-- the records of steps, and what of them comes before an instruction
records-cons : (s : Step) (steps : List Step) → event_records (s ∷ steps) ≡ event_records (s ∷ []) ++ event_records steps
records-cons s steps = grind (arith, nat_tests)

quiet-cons : (s : Step) (steps : List Step) → s.moved.inside.event ≡ None → event_records (s ∷ steps) ≡ event_records steps
quiet-cons s steps e = rw e refl

within-loud : (s : Step) (left : ℕ) (more : List Step) → is_instruction s.moved.inside ≡ false → within left (s ∷ more) ≡ s ∷ within left more
within-loud s left more e = ap (λ (b : Bool). unless_reached b left (λ left. s ∷ within left more)) e

within-stop : (s : Step) (more : List Step) → is_instruction s.moved.inside ≡ true → within 0 (s ∷ more) ≡ []
within-stop s more e = ap (λ (b : Bool). unless_reached b 0 (λ left. s ∷ within left more)) e

within-go : (s : Step) (k : ℕ) (more : List Step) → is_instruction s.moved.inside ≡ true → within (suc k) (s ∷ more) ≡ s ∷ within k more
within-go s k more e = ap (λ (b : Bool). unless_reached b (suc k) (λ left. s ∷ within left more)) e

-- the step's record is of what happens at the end of its slice, or between slices
pub record Loud (s : Step) : Type 0 where
  pub entry : Record
  pub has : event_records (s ∷ []) ≡ entry ∷ []
  pub next : (moment begins ends n : ℕ) (rest : List Record) → events_from moment begins ends n (entry ∷ rest) ≡ if_happened (nat_le ends moment) n entry (events_from moment begins ends (n + 1) rest)
  pub ran : ran_in entry ≡ 0

loud-yes : (s : Step) (l : Loud s) (moment begins ends n : ℕ) (rest : List Record) → ends ≤ moment
    → events_from moment begins ends n (event_records (s ∷ []) ++ rest) ≡ record { number = n; entry = l.entry } ∷ events_from moment begins ends (n + 1) rest
loud-yes s l moment begins ends n rest h1 = grind (arith, nat_tests, le-yes)

loud-no : (s : Step) (l : Loud s) (moment begins ends n : ℕ) (rest : List Record) → moment < ends
    → events_from moment begins ends n (event_records (s ∷ []) ++ rest) ≡ events_from moment begins ends (n + 1) rest
loud-no s l moment begins ends n rest h1 = grind (arith, nat_tests, le-no)

loud-numbered : (s : Step) (l : Loud s) (n : ℕ) (steps : List Step) → numbered n (event_records (s ∷ steps)) ≡ record { number = n; entry = l.entry } ∷ numbered (n + 1) (event_records steps)
loud-numbered s l n steps = ap (numbered n) (records-cons s steps ∙ ap (λ (es : List Record). es ++ event_records steps) l.has)

-- what comes from outside takes no step, or one that is no instruction
pub data Outer (steps : List Step) : Type 0 where
  NoStep : steps ≡ [] → Outer steps
  OneStep : (s : Step) → steps ≡ s ∷ [] → Loud s → is_instruction s.moved.inside ≡ false → Outer steps

if-Outer : (b : Bool) (s : Step) → Loud s → is_instruction s.moved.inside ≡ false → Outer (cond b (s ∷ []) [])
if-Outer true s loud none = OneStep s refl loud none
if-Outer false s loud none = NoStep refl

file-Outer : (m : Machine) (path bytes : List ℕ) → Outer (input_steps m (File path bytes))
file-Outer m path bytes =
    if-Outer (can_add m path bytes) (file_step m path bytes) (record { entry = entry.File path bytes; has = refl; next = λ moment begins ends n rest. refl; ran = refl }) refl

typed-Outer : (m : Machine) (bytes : List ℕ) → Outer (input_steps m (Typed bytes))
typed-Outer m bytes =
    if-Outer (is_booted m) (typed_step m bytes) (record { entry = entry.Typed bytes; has = refl; next = λ moment begins ends n rest. refl; ran = refl }) refl

unplug-Outer : (m : Machine) (device : ℕ) → Outer (input_steps m (Unplug device))
unplug-Outer m device =
    if-Outer (may_unplug m device) (unplug_step m device) (record { entry = entry.Unplug device; has = refl; next = λ moment begins ends n rest. refl; ran = refl }) refl

boot_from-Outer : (m : Machine) (path : List ℕ) (file : ℕ) (o : Option (List TaggedByte)) → Outer (boot_from m path file o)
boot_from-Outer m path file None = NoStep refl
boot_from-Outer m path file (Some held) =
    if-Outer (is_image (values held)) (boot_step m path file held)
    (record { entry = entry.Boot path (given held); has = refl; next = λ moment begins ends n rest. refl; ran = refl }) refl

boot_found-Outer : (m : Machine) (path : List ℕ) (o : Option ℕ) → Outer (boot_found m path o)
boot_found-Outer m path None = NoStep refl
boot_found-Outer m path (Some file) = boot_from-Outer m path file (file_bytes m.kernel.files file)

boot-Outer : (m : Machine) (path : List ℕ) (b : Bool) → Outer (cond b [] (boot_found m path (find_file m.kernel.files path)))
boot-Outer m path true = NoStep refl
boot-Outer m path false = boot_found-Outer m path (find_file m.kernel.files path)

-- in front of others, its records agree with its steps
one-agree : (s : Step) (rest : List Record) (more : List Step) → Loud s → is_instruction s.moved.inside ≡ false → Agree rest more → Agree (event_records (s ∷ []) ++ rest) (s ∷ more)
one-agree s rest more h1 h2 h3 = grind (arith, nat_tests, loud-no, loud-numbered, loud-yes, numbered, within-loud)

outer-agree : (steps : List Step) (rest : List Record) (more : List Step) → Outer steps → Agree rest more → Agree (event_records steps ++ rest) (steps ++ more)
outer-agree steps rest more (NoStep none) agree = subst (λ (x : List Step). Agree (event_records x ++ rest) (x ++ more)) (sym none) agree
outer-agree steps rest more (OneStep s is loud none) agree = subst (λ (x : List Step). Agree (event_records x ++ rest) (x ++ more)) (sym is) (one-agree s rest more loud none agree)

-- a slice: the call or the end behind its other instructions
last-loud : (s : Step) → Last s → Loud s
last-loud s (Calls number pid call result more e one) =
    record { entry = entry.Call pid call result more; has = rw e refl; next = λ moment begins ends n rest. refl; ran = refl }
last-loud s (Ends number pid status e one) = record { entry = entry.End pid status; has = rw e refl; next = λ moment begins ends n rest. refl; ran = refl }

last-is : (s : Step) → Last s → is_instruction s.moved.inside ≡ true
last-is s (Calls number pid call result more e one) = one
last-is s (Ends number pid status e one) = one

last-past : (o : Option Step) (rest : List Record) (more : List Step) → MaybeLast o → Agree rest more → (moment b e n : ℕ) → moment < e → events_from moment b e n (event_records (option_to_list o) ++ rest) ≡ []
last-past None rest more is agree moment b e n h = agree.past moment b e n h
last-past (Some s) rest more is agree moment b e n h = loud-no s (last-loud s is) moment b e n rest h ∙ agree.past moment b e (n + 1) h

last-at : (o : Option Step) (rest : List Record) (more : List Step) → MaybeLast o → Agree rest more → (x b e n left : ℕ) → e ≡ x + one_if_some o
    → events_from (x + left) b e n (event_records (option_to_list o) ++ rest) ≡ numbered n (event_records (within left (option_to_list o ++ more)))
last-at None rest more is agree x b e n left same =
    ap (λ (k : ℕ). events_from (x + left) b k n rest) (omega (arith, same)) ∙ agree.at b x n left
last-at (Some s) rest more is agree x b e n zero same =
    last-past (Some s) rest more is agree (x + zero) b e n (omega (arith, same)) ∙ sym (ap (λ (y : List Step). numbered n (event_records y)) (within-stop s more (last-is s is)))
last-at (Some s) rest more is agree x b e n (suc k) same =
    let loud = last-loud s is in
    loud-yes s loud (x + suc k) b e n rest (omega (arith, same))
    ∙ ap (λ (es : List Numbered). record { number = n; entry = loud.entry } ∷ es)
    (ap (λ (moment : ℕ). events_from moment b e (n + 1) rest) (omega (arith, same)) ∙ agree.at b e (n + 1) k)
    ∙ sym (loud-numbered s loud n (within k more))
    ∙ sym (ap (λ (y : List Step). numbered n (event_records y)) (within-go s k more (last-is s is)))

-- the instructions before it
plain-records : (plain rest : List Step) → ArePlain plain → event_records (plain ++ rest) ≡ event_records rest
plain-records [] rest are = refl
plain-records (s ∷ plain) rest are = quiet-cons s (plain ++ rest) are.0.event ∙ plain-records plain rest are.1

plain-at : (plain : List Step) (o : Option Step) (rest : List Record) (more : List Step) → ArePlain plain → MaybeLast o → Agree rest more → (x b e n left : ℕ) → e ≡ x + (length plain + one_if_some o)
    → events_from (x + left) b e n (event_records (option_to_list o) ++ rest) ≡ numbered n (event_records (within left (plain ++ (option_to_list o ++ more))))
plain-at [] o rest more are is agree x b e n left same = last-at o rest more is agree x b e n left (omega (arith, same))
plain-at (s ∷ plain) o rest more are is agree x b e n zero same =
    last-past o rest more is agree (x + zero) b e n (omega (arith, same))
    ∙ sym (ap (λ (y : List Step). numbered n (event_records y)) (within-stop s (plain ++ (option_to_list o ++ more)) are.0.one))
plain-at (s ∷ plain) o rest more are is agree x b e n (suc k) same =
    let behind = plain ++ (option_to_list o ++ more) in
    ap (λ (moment : ℕ). events_from moment b e n (event_records (option_to_list o) ++ rest)) (omega arith)
    ∙ plain-at plain o rest more are.1 is agree (x + 1) b e n k (omega (arith, same))
    ∙ sym (ap (numbered n) (quiet-cons s (within k behind) are.0.event))
    ∙ sym (ap (λ (y : List Step). numbered n (event_records y)) (within-go s k behind are.0.one))

-- what comes behind a delivery
tail-at : (plain : List Step) (o : Option Step) (rest : List Record) (more : List Step) → ArePlain plain → MaybeLast o → Agree rest more → (x b e n left : ℕ) → e ≡ x + (length plain + one_if_some o)
    → events_from (x + left) b e n (event_records (plain ++ option_to_list o) ++ rest) ≡ numbered n (event_records (within left ((plain ++ option_to_list o) ++ more)))
tail-at plain o rest more h1 h2 h3 x b e n left h4 = grind (arith, nat_tests, plain-records, plain-at, append_assoc)

tail-past : (plain : List Step) (o : Option Step) (rest : List Record) (more : List Step) → ArePlain plain → MaybeLast o → Agree rest more → (moment b e n : ℕ) → moment < e
    → events_from moment b e n (event_records (plain ++ option_to_list o) ++ rest) ≡ []
tail-past plain o rest more h1 h2 h3 moment b e n h4 = grind (arith, nat_tests, last-past, plain-records)

-- a delivery comes before the instructions
signal-has : (s : Step) (d : Delivery s) → event_records (s ∷ []) ≡ entry.Signal d.pid d.signal d.cut d.handler ∷ []
signal-has s d = rw d.event refl

signal-from : (s : Step) (d : Delivery s) (steps : List Step) (rest : List Record) (moment b e n : ℕ)
    → events_from moment b e n (event_records (s ∷ steps) ++ rest)
    ≡ if_happened (nat_le b moment) n (entry.Signal d.pid d.signal d.cut d.handler) (events_from moment b e (n + 1) (event_records steps ++ rest))
signal-from s d steps rest moment b e n = grind (arith, nat_tests, records-cons, signal-has)

delivered-at : (o : Option Step) (steps : List Step) (rest : List Record) (more : List Step) → MaybeDelivery o → (ends e n left : ℕ)
    → ((n : ℕ) → events_from (ends + left) ends e n (event_records steps ++ rest) ≡ numbered n (event_records (within left (steps ++ more))))
    → events_from (ends + left) ends e n (event_records (option_to_list o ++ steps) ++ rest) ≡ numbered n (event_records (within left ((option_to_list o ++ steps) ++ more)))
delivered-at o steps rest more h1 ends e n left h2 = grind (arith, nat_tests, le-yes, numbered, records-cons, signal-from, signal-has, within-loud)

delivered-past : (o : Option Step) (steps : List Step) (rest : List Record) → MaybeDelivery o → (moment ends e n : ℕ) → moment < ends
    → ((n : ℕ) → events_from moment ends e n (event_records steps ++ rest) ≡ [])
    → events_from moment ends e n (event_records (option_to_list o ++ steps) ++ rest) ≡ []
delivered-past o steps rest h1 moment ends e n h2 h3 = grind (arith, nat_tests, le-no, signal-from)

slice-agree : (pid : ℕ) (t : Turn) → IsTurn t → (rest : List Record) (more : List Step) → Agree rest more → (steps : List Step) → steps_of t ≡ steps → Agree (slice_records pid steps ++ rest) (steps ++ more)
slice-agree pid t is rest more agree [] same = agree
slice-agree pid t is rest more agree (s ∷ steps) same =
    let tail = t.plain ++ option_to_list t.last in
    let ran = is.instructions in
    subst
    (λ (y : List Step). Agree (entry.Slice pid (instructions_in y) ∷ (event_records y ++ rest)) (y ++ more))
    same
    (record {
      at =
          λ begins ends n left.
          delivered-at t.delivery tail rest more is.delivery ends (ends + instructions_in (steps_of t)) n left
          (λ n. tail-at t.plain t.last rest more is.plain is.last agree ends ends (ends + instructions_in (steps_of t)) n left (omega (arith, ran)));
      past =
          λ moment begins ends n h.
          delivered-past t.delivery tail rest is.delivery moment ends (ends + instructions_in (steps_of t)) n h
          (λ n. tail-past t.plain t.last rest more is.plain is.last agree moment ends (ends + instructions_in (steps_of t)) n (omega (arith, h)));
    })

possible-agree : (b : Bool) (pid : ℕ) (t : Turn) → IsTurn t → (rest : List Record) (more : List Step) → Agree rest more → Agree (slice_records pid (cond b (steps_of t) []) ++ rest) (cond b (steps_of t) [] ++ more)
possible-agree true pid t is rest more agree = slice-agree pid t is rest more agree (steps_of t) refl
possible-agree false pid t is rest more agree = agree

input-agree : TurnsHaveParts → (m : Machine) (i : Input) (rest : List Record) (more : List Step) → Agree rest more → Agree (input_records i (input_steps m i) ++ rest) (input_steps m i ++ more)
input-agree parts m (File path bytes) rest more agree = outer-agree (input_steps m (File path bytes)) rest more (file-Outer m path bytes) agree
input-agree parts m (Boot path) rest more agree = outer-agree (input_steps m (Boot path)) rest more (boot-Outer m path (is_booted m)) agree
input-agree parts m (Typed bytes) rest more agree = outer-agree (input_steps m (Typed bytes)) rest more (typed-Outer m bytes) agree
input-agree parts m (Unplug device) rest more agree = outer-agree (input_steps m (Unplug device)) rest more (unplug-Outer m device) agree
input-agree parts m (Slice pid count reply) rest more agree =
    possible-agree (is_possible m pid count) pid (turn count pid reply m) (parts count pid reply m) rest more agree

from-agree : TurnsHaveParts → (m : Machine) (inputs : List Input) → Agree (records_from m inputs) (steps_from m inputs)
from-agree parts m [] = record { at = λ begins ends n left. refl; past = λ moment begins ends n h. refl }
from-agree parts m (i ∷ inputs) =
    let m' = after_input m i in
    input-agree parts m i (records_from m' inputs) (steps_from m' inputs) (from-agree parts m' inputs)

pub events-until : TurnsHaveParts → (inputs : List Input) (moment : ℕ) → events_until moment (records inputs) ≡ numbered 0 (event_records (within moment (run inputs)))
events-until parts inputs moment =
    ap (λ (k : ℕ). events_from k 0 0 0 (records inputs)) (omega arith) ∙ (from-agree parts at_first inputs).at 0 0 0 moment

-- the records count the instructions

total-append : (entries more : List Record) → total (entries ++ more) ≡ total entries + total more
total-append [] more = omega arith
total-append (e ∷ entries) more = omega (arith, total-append entries more)

last-none : (o : Option Step) → MaybeLast o → total (event_records (option_to_list o)) ≡ 0
last-none None is = refl
last-none (Some s) is = let loud = last-loud s is in ap total loud.has ∙ omega (arith, loud.ran)

delivered-none : (o : Option Step) (steps : List Step) → MaybeDelivery o → total (event_records steps) ≡ 0 → total (event_records (option_to_list o ++ steps)) ≡ 0
delivered-none None steps is none = none
delivered-none (Some s) steps is none = ap total (records-cons s steps ∙ ap (λ (es : List Record). es ++ event_records steps) (signal-has s is)) ∙ omega (arith, none)

turn-none : (t : Turn) → IsTurn t → total (event_records (steps_of t)) ≡ 0
turn-none t h1 = grind (arith, nat_tests, delivered-none, last-none, plain-records)

slice-total : (pid : ℕ) (t : Turn) → IsTurn t → (steps : List Step) → steps_of t ≡ steps → total (slice_records pid steps) ≡ instructions_in steps
slice-total pid t is [] same = refl
slice-total pid t is (s ∷ steps) same =
    let none : total (event_records (s ∷ steps)) ≡ 0 = ap (λ (y : List Step). total (event_records y)) (sym same) ∙ turn-none t is in
    omega (arith, none)

possible-total : (b : Bool) (pid : ℕ) (t : Turn) → IsTurn t → total (slice_records pid (cond b (steps_of t) [])) ≡ instructions_in (cond b (steps_of t) [])
possible-total true pid t is = slice-total pid t is (steps_of t) refl
possible-total false pid t is = refl

instructions-cons : (s : Step) (steps : List Step) (b : Bool) → is_instruction s.moved.inside ≡ b → instructions_in (s ∷ steps) ≡ cond b 1 0 + instructions_in steps
instructions-cons s steps b h1 = grind (arith, common_steps, nat_tests, sum_by-cons)

outer-total : (steps : List Step) → Outer steps → total (event_records steps) ≡ instructions_in steps
outer-total steps h1 = grind (arith, nat_tests, instructions-cons)

input-total : TurnsHaveParts → (m : Machine) (i : Input) → total (input_records i (input_steps m i)) ≡ instructions_in (input_steps m i)
input-total parts m (File path bytes) = outer-total (input_steps m (File path bytes)) (file-Outer m path bytes)
input-total parts m (Boot path) = outer-total (input_steps m (Boot path)) (boot-Outer m path (is_booted m))
input-total parts m (Typed bytes) = outer-total (input_steps m (Typed bytes)) (typed-Outer m bytes)
input-total parts m (Unplug device) = outer-total (input_steps m (Unplug device)) (unplug-Outer m device)
input-total parts m (Slice pid count reply) = possible-total (is_possible m pid count) pid (turn count pid reply m) (parts count pid reply m)

pub from-total : TurnsHaveParts → (m : Machine) (inputs : List Input) → total (records_from m inputs) ≡ instructions_in (steps_from m inputs)
from-total parts m [] = refl
from-total parts m (i ∷ inputs) =
    let first = input_records i (input_steps m i) in
    let m' = after_input m i in
    total-append first (records_from m' inputs)
    ∙ omega (arith, input-total parts m i, from-total parts m' inputs)
    ∙ sym (sum_by-append (λ (s : Step). cond (is_instruction s.moved.inside) 1 0) (input_steps m i) (steps_from m' inputs))
