-- Runs of inputs that stand one behind the other.
use Rattle.std.proofs.Common.{◌≡◌, List, [], ◌∷◌, ◌++◌, refl, sym, ap, ◌∙◌, append_assoc, Option, Some, None, option_to_list}
use Rattle.arn_model.specs.Kernel.{Machine}
use Rattle.arn_model.specs.Laws.{RunsAppend}
use Rattle.arn_model.specs.Run.{Input, input_steps, after_input, steps_from, machine_from}
use Rattle.arn_model.specs.Step.{Step}
use Rattle.arn_model.specs.Turn.{after_steps, after_first}

pub steps_from-append : (m : Machine) (inputs more : List Input) → steps_from m (inputs ++ more) ≡ steps_from m inputs ++ steps_from (machine_from m inputs) more
steps_from-append m [] more = refl
steps_from-append m (i ∷ inputs) more =
    ap (λ (steps : List Step). input_steps m i ++ steps) (steps_from-append (after_input m i) inputs more)
    ∙ sym (append_assoc (input_steps m i) (steps_from (after_input m i) inputs) (steps_from (machine_from (after_input m i) inputs) more))

pub machine_from-append : (m : Machine) (inputs more : List Input) → machine_from m (inputs ++ more) ≡ machine_from (machine_from m inputs) more
machine_from-append m [] more = refl
machine_from-append m (i ∷ inputs) more = machine_from-append (after_input m i) inputs more

pub after_steps-append : (m : Machine) (steps more : List Step) → after_steps m (steps ++ more) ≡ after_steps (after_steps m steps) more
after_steps-append m [] more = refl
after_steps-append m (s ∷ steps) more = after_steps-append s.after steps more

pub first-steps : (m : Machine) (o : Option Step) → after_steps m (option_to_list o) ≡ after_first m o
first-steps m None = refl
first-steps m (Some s) = refl

pub machine_from-steps : (m : Machine) (inputs : List Input) → machine_from m inputs ≡ after_steps m (steps_from m inputs)
machine_from-steps m [] = refl
machine_from-steps m (i ∷ inputs) =
    machine_from-steps (after_input m i) inputs ∙ sym (after_steps-append m (input_steps m i) (steps_from (after_input m i) inputs))

pub runs-append : (m : Machine) (inputs more : List Input) → RunsAppend m inputs more
runs-append m inputs more =
    record { steps = steps_from-append m inputs more; machine = machine_from-append m inputs more; reached = machine_from-steps m inputs }
