-- Lists of inputs, steps and records that stand one behind the other.
use Rattle.std.proofs.Common.{◌≡◌, ◌+◌, List, [], ◌∷◌, ◌++◌, Option, cond, map, filter_map, refl, sym, ap, ◌∙◌, append_assoc}
use Rattle.std.proofs.lemmas.List.{map-append}
use Rattle.std.proofs.lemmas.List.Elements.{filter_map-append}
use Rattle.std.proofs.lemmas.List.Sums.{sum_by-append}
use Rattle.arn_base.specs.declared.records.Record.{Record}
use Rattle.acts_model.specs.Moved.{Event, is_instruction}
use Rattle.arn_model.specs.Kernel.{Machine}
use Rattle.arn_model.specs.Run.{Input, input_steps, after_input, steps_from, machine_from, instructions_in}
use Rattle.arn_model.specs.Step.{Step}
use Rattle.arn_model.specs.Turn.{after_steps}
use Rattle.log_model.specs.Records.{event_records, input_records, records_from}

pub steps_from-append : (m : Machine) (inputs more : List Input) → steps_from m (inputs ++ more) ≡ steps_from m inputs ++ steps_from (machine_from m inputs) more
steps_from-append m [] more = refl
steps_from-append m (i ∷ inputs) more =
    ap (λ (steps : List Step). input_steps m i ++ steps) (steps_from-append (after_input m i) inputs more)
    ∙ sym (append_assoc (input_steps m i) (steps_from (after_input m i) inputs) (steps_from (machine_from (after_input m i) inputs) more))

pub machine_from-append : (m : Machine) (inputs more : List Input) → machine_from m (inputs ++ more) ≡ machine_from (machine_from m inputs) more
machine_from-append m [] more = refl
machine_from-append m (i ∷ inputs) more = machine_from-append (after_input m i) inputs more

pub after_steps-append : (m : Machine) (steps more : List Step) → after_steps m (steps ++ more) ≡ after_steps (after_steps m steps) more
after_steps-append m [] more = refl
after_steps-append m (s ∷ steps) more = after_steps-append s.after steps more

pub event_records-append : (steps more : List Step) → event_records (steps ++ more) ≡ event_records steps ++ event_records more
event_records-append steps more =
    let event : Step → Option Event = λ (s : Step). s.moved.inside.event in
    let entry : Event → Record = λ (e : Event). e.entry in
    ap (map entry) (filter_map-append event steps more) ∙ map-append entry (filter_map event steps) (filter_map event more)

pub records_from-append : (m : Machine) (inputs more : List Input) → records_from m (inputs ++ more) ≡ records_from m inputs ++ records_from (machine_from m inputs) more
records_from-append m [] more = refl
records_from-append m (i ∷ inputs) more =
    let first = input_records i (input_steps m i) in
    let m' = after_input m i in
    ap (λ (rest : List Record). first ++ rest) (records_from-append m' inputs more)
    ∙ sym (append_assoc first (records_from m' inputs) (records_from (machine_from m' inputs) more))

pub instructions_in-append : (steps more : List Step) → instructions_in (steps ++ more) ≡ instructions_in steps + instructions_in more
instructions_in-append steps more = sum_by-append (λ (s : Step). cond (is_instruction s.moved.inside) 1 0) steps more

pub machine_from-steps : (m : Machine) (inputs : List Input) → machine_from m inputs ≡ after_steps m (steps_from m inputs)
machine_from-steps m [] = refl
machine_from-steps m (i ∷ inputs) =
    machine_from-steps (after_input m i) inputs ∙ sym (after_steps-append m (input_steps m i) (steps_from (after_input m i) inputs))
