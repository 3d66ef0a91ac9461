-- How many slices records name: those of a slice one at most.
use Rattle.std.proofs.Common.{◌≡◌, ℕ, suc, ◌+◌, ◌≤◌, ◌++◌, List, [], ◌∷◌, filter, length, map, sym, ap, ◌∙◌, append-nil, length-append, arith}
use Rattle.std.proofs.lemmas.List.{map-append}
use Rattle.std.proofs.lemmas.List.Elements.{filter-append, filter_map-append}
use Rattle.arn_base.specs.declared.records.Record.{Record}
use Rattle.arn_base.specs.declared.records.Record.TheVariants as entry
use Rattle.acts_model.specs.Moved.{Event}
use Rattle.acts_model.specs.Records.{is_event}
use Rattle.arn_model.specs.Kernel.{Machine, at_first}
use Rattle.arn_model.specs.Laws.{EachRunAppends}
use Rattle.arn_model.specs.Run.{Input, after_input, events_of, input_steps, machine_after, steps_from}
use Rattle.arn_model.specs.Step.{Step}
use Rattle.log_model.specs.Laws.{EventsRecorded, RecordsAppend}
use Rattle.log_model.specs.Records.{event_records, input_records, records, records_from, slice_records}
use Rattle.guest_legs.specs.Legs.{Picked, input_of}
use Rattle.session_runs.specs.Points.{slices_in}

-- all records but events are slices, and each names one
pub slices-events : (entries : List Record) → length (slices_in entries) + length (filter is_event entries) ≡ length entries
slices-events [] = omega arith
slices-events (entry.Slice pid ran ∷ entries) = omega (arith, slices-events entries)
slices-events (other ∷ entries) = omega (arith, slices-events entries)

pub slices-both : (entries more : List Record) → length (slices_in (entries ++ more)) ≡ length (slices_in entries) + length (slices_in more)
slices-both entries more =
    omega (arith, slices-events (entries ++ more), slices-events entries, slices-events more, ap (λ (x : List Record). length x) (filter-append is_event entries more), length-append (filter is_event entries) (filter is_event more), length-append entries more)

events-append : (steps more : List Step) → event_records (steps ++ more) ≡ event_records steps ++ event_records more
events-append steps more =
    ap (λ (x : List Event). map (λ (event : Event). event.entry) x) (filter_map-append (λ (s : Step). s.moved.inside.event) steps more)
    ∙ map-append (λ (event : Event). event.entry) (events_of steps) (events_of more)

slice-records : (pid : ℕ) (steps : List Step) → length (slice_records pid steps) ≤ suc (length (event_records steps))
slice-records pid [] = omega arith
slice-records pid (s ∷ steps) = omega arith

module _ (records_append : RecordsAppend) (recorded : EventsRecorded) (runs_append : EachRunAppends) (inputs : List Input) (i : Input) where
  -- the events among an input's records are its steps' events, as of all of a run's
  events-many : length (filter is_event (records_from (machine_after inputs) (i ∷ []))) ≡ length (event_records (input_steps (machine_after inputs) i))
  events-many =
      let m = machine_after inputs in
      let here = records_from m (i ∷ []) in
      let all : filter is_event (records (inputs ++ i ∷ [])) ≡ filter is_event (records inputs) ++ filter is_event here =
      ap (λ (x : List Record). filter is_event x) (records_append inputs (i ∷ [])) ∙ filter-append is_event (records inputs) here in
      let steps : steps_from at_first (inputs ++ i ∷ []) ≡ steps_from at_first inputs ++ input_steps m i =
      (runs_append at_first inputs (i ∷ [])).steps ∙ ap (λ (x : List Step). steps_from at_first inputs ++ x) (append-nil (input_steps m i)) in
      let events : filter is_event (records inputs) ++ filter is_event here ≡ filter is_event (records inputs) ++ event_records (input_steps m i) =
      sym all
      ∙ recorded (inputs ++ i ∷ [])
      ∙ ap event_records steps
      ∙ events-append (steps_from at_first inputs) (input_steps m i)
      ∙ ap (λ (x : List Record). x ++ event_records (input_steps m i)) (sym (recorded inputs)) in
      omega (arith, ap (λ (x : List Record). length x) events, length-append (filter is_event (records inputs)) (filter is_event here), length-append (filter is_event (records inputs)) (event_records (input_steps m i)))

  -- the machine behind it is one of a run
  pub machine-more : (m : Machine) → m ≡ machine_after inputs → after_input m i ≡ machine_after (inputs ++ i ∷ [])
  machine-more m is = ap (λ (x : Machine). after_input x i) is ∙ sym (runs_append at_first inputs (i ∷ [])).machine

-- the records of a slice name one at most
pub slice-names : RecordsAppend → EventsRecorded → EachRunAppends → (inputs : List Input) (m : Machine) (s : Picked) → m ≡ machine_after inputs → length (slices_in (input_records (input_of s) (input_steps m (input_of s)))) ≤ 1
slice-names records_append recorded runs_append inputs m s is =
    from-run (one (machine_after inputs) (events-many records_append recorded runs_append inputs (input_of s)))
  where
    one : (m : Machine) → length (filter is_event (records_from m (input_of s ∷ []))) ≡ length (event_records (input_steps m (input_of s))) → length (slices_in (input_records (input_of s) (input_steps m (input_of s)))) ≤ 1
    one m many =
        let here = slice_records s.pick.pid (input_steps m (input_of s)) in
        omega (arith, many, slices-events here, slice-records s.pick.pid (input_steps m (input_of s)), ap (λ (x : List Record). length (filter is_event x)) (append-nil here))

    from-run : length (slices_in (input_records (input_of s) (input_steps (machine_after inputs) (input_of s)))) ≤ 1 → length (slices_in (input_records (input_of s) (input_steps m (input_of s)))) ≤ 1
    from-run few = omega (arith, few, ap (λ (x : Machine). length (slices_in (input_records (input_of s) (input_steps x (input_of s))))) is)
