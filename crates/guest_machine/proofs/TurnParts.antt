-- A turn's records and instructions, from its parts.
use Rattle.std.proofs.Common.{◌≡◌, ℕ, zero, suc, ◌+◌, ◌<◌, ◌++◌, Bool, cond, List, [], ◌∷◌, Option, None, Some, length, option_to_list, refl, sym, ap, ◌∙◌, arith, length-append}
use Rattle.arn_base.specs.declared.records.Record.{Record}
use Rattle.arn_base.specs.declared.records.Record.TheVariants as entry
use Rattle.parts_model.specs.Replies.{Answered}
use Rattle.arn_model.specs.Kernel.{Machine}
use Rattle.arn_model.specs.Parts.{ArePlain, Calls, Ends, MaybeDelivery, MaybeLast, TurnsHaveParts, one_if_some}
use Rattle.arn_model.specs.Run.{instructions_in}
use Rattle.arn_model.specs.Step.{Step}
use Rattle.arn_model.specs.Turn.{steps_of, turn}
use Rattle.log_model.specs.Records.{event_records, slice_records}
use Rattle.guest_legs.specs.Pieces.{slice_of}
use Rattle.guest_machine.proofs.Appends.{event_records-append}

slice_of-some : (pid ran : ℕ) (entries : List Record) → 0 < ran + length entries → slice_of pid ran entries ≡ entry.Slice pid ran ∷ entries
slice_of-some pid zero [] some = absurd (omega (arith, some))
slice_of-some pid zero (e ∷ entries) some = refl
slice_of-some pid (suc n) entries some = refl

one_if_length : (o : Option Step) → length (option_to_list o) ≡ one_if_some o
one_if_length None = refl
one_if_length (Some s) = refl

-- plain instructions have no records
pub plain-records : (plain rest : List Step) → ArePlain plain → event_records (plain ++ rest) ≡ event_records rest
plain-records [] rest are = refl
plain-records (s ∷ plain) rest are = rw are.0.event (plain-records plain rest are.1)

-- the records of a delivery that may be
delivery-record : (o : Option Step) → MaybeDelivery o → length (event_records (option_to_list o)) ≡ one_if_some o
delivery-record None is = refl
delivery-record (Some s) is = rw is.event refl

-- a last step that may be is an instruction, and has a record
pub last-one : (o : Option Step) → MaybeLast o → instructions_in (option_to_list o) ≡ one_if_some o
last-one None is = refl
last-one (Some s) (Calls number pid call result more e one) = ap (λ (b : Bool). 0 + cond {A = ℕ} b 1 0) one
last-one (Some s) (Ends number pid status e one) = ap (λ (b : Bool). 0 + cond {A = ℕ} b 1 0) one

last-record : (o : Option Step) → MaybeLast o → length (event_records (option_to_list o)) ≡ one_if_some o
last-record None is = refl
last-record (Some s) (Calls number pid call result more e one) = rw e refl
last-record (Some s) (Ends number pid status e one) = rw e refl

pub last-counted : (o : Option Step) → MaybeLast o → instructions_in (option_to_list o) ≡ length (event_records (option_to_list o))
last-counted o is = last-one o is ∙ sym (last-record o is)

-- a slice's records by how many instructions it ran and the records of its events
some-cons : (pid : ℕ) (s : Step) (steps : List Step) → 0 < instructions_in (s ∷ steps) + length (event_records (s ∷ steps)) → slice_records pid (s ∷ steps) ≡ slice_of pid (instructions_in (s ∷ steps)) (event_records (s ∷ steps))
some-cons pid s steps some = sym (slice_of-some pid (instructions_in (s ∷ steps)) (event_records (s ∷ steps)) some)

list-slice : (pid : ℕ) (steps : List Step) → (0 < length steps → 0 < instructions_in steps + length (event_records steps)) → slice_records pid steps ≡ slice_of pid (instructions_in steps) (event_records steps)
list-slice pid [] some = refl
list-slice pid (s ∷ steps) some = some-cons pid s steps (some (omega arith))

pub turn-slice : TurnsHaveParts → (n pid : ℕ) (reply : Option Answered) (m : Machine) → let steps = steps_of (turn n pid reply m) in slice_records pid steps ≡ slice_of pid (instructions_in steps) (event_records steps)
turn-slice parts n pid reply m =
    let t = turn n pid reply m in
    let is = parts n pid reply m in
    let first = option_to_list t.delivery in
    let last = option_to_list t.last in
    let counted = is.instructions in
    let records = ap length (event_records-append first (t.plain ++ last)) ∙ length-append (event_records first) (event_records (t.plain ++ last)) in
    let delivers = delivery-record t.delivery is.delivery in
    let long = length-append first (t.plain ++ last) in
    let long' = length-append t.plain last in
    list-slice pid (steps_of t) (λ some. omega (arith, some, counted, records, delivers, long, long', one_if_length t.delivery, one_if_length t.last))
