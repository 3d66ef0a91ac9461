-- Records of inputs that stand one behind the other.
use Rattle.std.proofs.lemmas.Bool.Decides.{nat_tests}
use Rattle.std.proofs.Common.{◌≡◌, List, [], ◌∷◌, ◌++◌, refl, append_assoc, arith}
use Rattle.std.proofs.lemmas.List.{map-append}
use Rattle.std.proofs.lemmas.List.Elements.{filter_map-append}
use Rattle.arn_model.specs.Kernel.{Machine}
use Rattle.arn_model.specs.Run.{Input, input_steps, after_input, machine_from}
use Rattle.arn_model.specs.Step.{Step}
use Rattle.log_model.specs.Records.{event_records, input_records, records_from}

pub event_records-append : (steps more : List Step) → event_records (steps ++ more) ≡ event_records steps ++ event_records more
event_records-append steps more = grind (arith, nat_tests, filter_map-append, map-append)

pub records_from-append : (m : Machine) (inputs more : List Input) → records_from m (inputs ++ more) ≡ records_from m inputs ++ records_from (machine_from m inputs) more
records_from-append m [] more = refl
records_from-append m (i ∷ inputs) more = grind (arith, nat_tests, records_from-append (after_input m i) inputs more, append_assoc (input_records i (input_steps m i)) (records_from (after_input m i) inputs) (records_from (machine_from (after_input m i) inputs) more))
