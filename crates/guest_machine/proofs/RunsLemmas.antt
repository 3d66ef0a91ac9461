-- What inputs make of a state and of what stands behind it, one after the other.
use Rattle.std.proofs.Common.{◌≡◌, ◌+◌, ◌++◌, ◌∙◌, List, [], ◌∷◌, sym, ap, subst, arith, append_assoc, append-nil, All, Result, Ok, Err, IfOk, OnErr}
use Rattle.std.proofs.lemmas.List.Elements.{All-append, All-cons, All-nil}
use Rattle.arn_base.specs.declared.records.Record.{Record}
use Rattle.result_log.specs.Spelling.{HasSpelling}
use Rattle.arn_model.specs.Kernel.{Machine}
use Rattle.arn_model.specs.Run.{Input, input_steps, machine_from, steps_from, instructions_in}
use Rattle.arn_model.specs.Step.{Step}
use Rattle.arn_model.specs.Turn.{after_steps}
use Rattle.log_model.specs.Records.{input_records, records_from}
use Rattle.guest_calls.specs.State.{StandsFor}
use Rattle.guest_machine.specs.Recorded.{Recorded, Runs}
use Rattle.guest_machine.proofs.Appends.{steps_from-append, machine_from-append, instructions_in-append, records_from-append}

-- no input
pub Runs-none : (m : Machine) (r : Recorded) (out : List Record) → StandsFor r.kernel m → Runs m [] r r out out
Runs-none m r out stands = record { leads = stands; counted = omega arith; recorded = sym (append-nil out) }

-- one input
pub Runs-one : (m : Machine) (i : Input) (steps : List Step) (old new : Recorded) (out out' : List Record) → input_steps m i ≡ steps → StandsFor new.kernel (after_steps m steps) → new.instructions ≡ old.instructions + instructions_in steps → out' ≡ out ++ input_records i steps → Runs m (i ∷ []) old new out out'
Runs-one m i steps old new out out' is stands counted recorded =
    let all : steps ≡ steps_from m (i ∷ []) = sym is ∙ sym (append-nil (input_steps m i)) in
    record {
      leads = subst (λ (xs : List Step). StandsFor new.kernel (after_steps m xs)) (sym is) stands;
      counted = counted ∙ ap (λ (xs : List Step). old.instructions + instructions_in xs) all;
      recorded =
          recorded
          ∙ ap (λ (xs : List Step). out ++ input_records i xs) (sym is)
          ∙ ap (λ (entries : List Record). out ++ entries) (sym (append-nil (input_records i (input_steps m i))));
    }

-- inputs behind inputs
pub Runs-then : (m : Machine) (inputs more : List Input) (r r1 r2 : Recorded) (out out1 out2 : List Record) → Runs m inputs r r1 out out1 → Runs (machine_from m inputs) more r1 r2 out1 out2 → Runs m (inputs ++ more) r r2 out out2
Runs-then m inputs more r r1 r2 out out1 out2 first next =
    let m1 : Machine = machine_from m inputs in
    record {
      leads = subst (λ (x : Machine). StandsFor r2.kernel x) (sym (machine_from-append m inputs more)) next.leads;
      counted = omega (arith, next.counted, first.counted, ap instructions_in (steps_from-append m inputs more), instructions_in-append (steps_from m inputs) (steps_from m1 more));
      recorded =
          next.recorded
          ∙ ap (λ (entries : List Record). entries ++ records_from m1 more) first.recorded
          ∙ append_assoc out (records_from m inputs) (records_from m1 more)
          ∙ ap (λ (entries : List Record). out ++ entries) (sym (records_from-append m inputs more));
    }

-- what holds anyhow holds after an error
pub on_err : (X E : Type 0) (r : Result X E) (P : Type 0) → P → OnErr r P
on_err X E (Ok x) P p = tt
on_err X E (Err e) P p = p

-- what holds of each answer
pub if-ok-all : {X E : Type 0} (r : Result X E) (P : X → Type 0) → ((x : X) → P x) → IfOk r P
if-ok-all (Ok x) P all = all x
if-ok-all (Err e) P all = tt

-- one more record that has a spelling
pub spelled-push : (out out' : List Record) (e : Record) → HasSpelling e → out' ≡ out ++ e ∷ [] → All HasSpelling out → All HasSpelling out'
spelled-push out out' e has is all = subst (All HasSpelling) (sym is) (All-append HasSpelling out (e ∷ []) all (All-cons HasSpelling e [] has (All-nil HasSpelling)))
