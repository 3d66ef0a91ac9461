-- The records of whole runs: their events, and the inputs that they name.
use Rattle.std.proofs.lemmas.Bool.Decides.{nat_tests}
use Rattle.std.proofs.Common.{◌≡◌, ◌++◌, List, [], ◌∷◌, None, filter, refl, sym, ap, subst, ◌∙◌, arith}
use Rattle.std.proofs.lemmas.List.Elements.{filter-append}
use Rattle.arn_base.specs.declared.records.Record.{Record}
use Rattle.arn_base.specs.declared.records.Record.TheVariants as entry
use Rattle.acts_model.specs.Records.{is_event}
use Rattle.arn_model.specs.Kernel.{Machine, at_first}
use Rattle.arn_model.specs.Laws.{RepliesAreTold, EachRunAppends}
use Rattle.arn_model.specs.Parts.{TurnsHaveParts}
use Rattle.arn_model.specs.Run.{Input, File, Boot, Typed, Unplug, Slice, input_steps, after_input, steps_from, machine_from, machine_after, run}
use Rattle.arn_model.specs.Step.{Step}
use Rattle.arn_model.specs.Turn.{after_steps}
use Rattle.log_model.specs.Records.{event_records, input_records, records_from, records, reply_behind, named, IsRun}
use Rattle.log_model.proofs.RecordLemmas.{event_records-append, records_from-append}
use Rattle.log_model.proofs.InputLemmas.{input-kept, input-begins, NamesAgain, input-again}

-- the records without the slices are those of the events
records_from-kept : TurnsHaveParts → (m : Machine) (inputs : List Input) → filter is_event (records_from m inputs) ≡ event_records (steps_from m inputs)
records_from-kept parts m [] = refl
records_from-kept parts m (i ∷ inputs) = grind (arith, nat_tests, filter-append is_event (input_records i (input_steps m i)) (records_from (after_input m i) inputs), input-kept parts m i, records_from-kept parts (after_input m i) inputs, event_records-append (input_steps m i) (steps_from (after_input m i) inputs))

pub records-kept : TurnsHaveParts → (inputs : List Input) → filter is_event (records inputs) ≡ event_records (run inputs)
records-kept parts inputs = records_from-kept parts at_first inputs

-- a run's records begin with none of a call or a delivery
pub records_from-begin : (m : Machine) (inputs : List Input) → reply_behind (records_from m inputs) ≡ None
records_from-begin m [] = refl
records_from-begin m (i ∷ inputs) = input-begins m i (records_from (after_input m i) inputs) (records_from-begin (after_input m i) inputs)

-- in front of such records, the others name what they name by themselves
pub behind-append : (entries rest : List Record) → reply_behind rest ≡ None → reply_behind (entries ++ rest) ≡ reply_behind entries
behind-append [] rest before = before
behind-append (entry.Signal pid signal cut handler ∷ entries) rest before = behind-append entries rest before
behind-append _ rest before = refl

pub named-append : (entries rest : List Record) → reply_behind rest ≡ None → named (entries ++ rest) ≡ named entries ++ named rest
named-append [] rest before = refl
named-append (entry.File name bytes ∷ entries) rest before = ap (λ (inputs : List Input). File name bytes ∷ inputs) (named-append entries rest before)
named-append (entry.Boot name give ∷ entries) rest before = ap (λ (inputs : List Input). Boot name ∷ inputs) (named-append entries rest before)
named-append (entry.Typed bytes ∷ entries) rest before = ap (λ (inputs : List Input). Typed bytes ∷ inputs) (named-append entries rest before)
named-append (entry.Unplug device ∷ entries) rest before = ap (λ (inputs : List Input). Unplug device ∷ inputs) (named-append entries rest before)
named-append (entry.Slice pid ran ∷ entries) rest before = grind (arith, nat_tests, behind-append entries rest before, named-append entries rest before)
named-append (_ ∷ entries) rest before = named-append entries rest before

-- what the records name of inputs does the same, and has the same records
record RunsAgain (m : Machine) (inputs : List Input) : Type 0 where
  again : steps_from m (named (records_from m inputs)) ≡ steps_from m inputs
  recorded : records_from m (named (records_from m inputs)) ≡ records_from m inputs

both-again : (append : EachRunAppends) (m : Machine) (i : Input) (inputs : List Input) → NamesAgain m i → RunsAgain (after_input m i) inputs → RunsAgain m (i ∷ inputs)
both-again append m i inputs one others =
    let steps = input_steps m i in
    let first = input_records i steps in
    let m' = after_input m i in
    let rest = records_from m' inputs in
    let split : named (first ++ rest) ≡ named first ++ named rest = named-append first rest (records_from-begin m' inputs) in
    let runs = append m (named first) (named rest) in
    let there : machine_from m (named first) ≡ m' = runs.reached ∙ ap (after_steps m) one.again in
    record {
      again =
          ap (steps_from m) split
          ∙ runs.steps
          ∙ ap (λ (x : Machine). steps_from m (named first) ++ steps_from x (named rest)) there
          ∙ ap (λ (x : List Step). x ++ steps_from m' (named rest)) one.again
          ∙ ap (λ (x : List Step). steps ++ x) others.again;
      recorded =
          ap (records_from m) split
          ∙ records_from-append m (named first) (named rest)
          ∙ ap (λ (x : Machine). records_from m (named first) ++ records_from x (named rest)) there
          ∙ ap (λ (x : List Record). x ++ records_from m' (named rest)) one.recorded
          ∙ ap (λ (x : List Record). first ++ x) others.recorded;
    }

-- behind inputs from the start
inputs-again : TurnsHaveParts → (append : EachRunAppends) (told : RepliesAreTold) (before inputs : List Input) → RunsAgain (machine_after before) inputs
inputs-again parts append told before [] = record { again = refl; recorded = refl }
inputs-again parts append told before (i ∷ inputs) =
    let next : machine_after (before ++ i ∷ []) ≡ after_input (machine_after before) i = (append at_first before (i ∷ [])).machine in
    both-again append (machine_after before) i inputs (input-again parts (machine_after before) i (told before))
    (subst (λ (m : Machine). RunsAgain m inputs) next (inputs-again parts append told (before ++ i ∷ []) inputs))

pub run-again : TurnsHaveParts → (append : EachRunAppends) (told : RepliesAreTold) (inputs : List Input) → run (named (records inputs)) ≡ run inputs
run-again parts append told inputs = (inputs-again parts append told [] inputs).again

pub records-IsRun : TurnsHaveParts → (append : EachRunAppends) (told : RepliesAreTold) (inputs : List Input) → IsRun (records inputs)
records-IsRun parts append told inputs = sym (inputs-again parts append told [] inputs).recorded
