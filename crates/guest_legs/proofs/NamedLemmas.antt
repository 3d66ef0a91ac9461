-- Slices of a leg as their records name them.
use Rattle.std.proofs.Common.{◌≡◌, ◌≤◌, ◌<◌, ◌-◌, ◌++◌, ℕ, List, [], ◌∷◌, length, map, true, refl, sym, ap, subst, ◌∙◌, arith, length-append}
use Rattle.arn_model.specs.Kernel.{Machine, at_first}
use Rattle.arn_model.specs.Run.{Input, after_input, input_steps, instructions_in, machine_after, machine_from}
use Rattle.arn_model.specs.Step.{Step}
use Rattle.arn_model.specs.Turn.{after_steps, is_possible}
use Rattle.log_model.specs.Laws.{NamedAppend, NamesSlice, RecordsBegin, SlicesAreNamed}
use Rattle.log_model.specs.Records.{named, records_from, slice_records}
use Rattle.guest_legs.specs.LegLaws.{SameAsNamed, as_named, named_by}
use Rattle.guest_legs.specs.Legs.{AreInRange, Ask, Going, IsInRange, Picked, StaysOpen, ask_of, asks_by, going_after, going_by, input_of}

-- where inputs lead behind others
machine_from-append : (m : Machine) (inputs more : List Input) → machine_from m (inputs ++ more) ≡ machine_from (machine_from m inputs) more
machine_from-append m [] more = refl
machine_from-append m (i ∷ inputs) more = machine_from-append (after_input m i) inputs more

has-records : (pid : ℕ) (steps : List Step) → 0 < length steps → 1 ≤ length (slice_records pid steps)
has-records pid [] some = absurd (omega (arith, some))
has-records pid (s ∷ steps) some = omega arith

-- a leg after these steps of a process
abbrev going : Going → ℕ → List Step → Going
going g pid steps = record { machine = after_steps g.machine steps; left = g.left - instructions_in steps; entries = g.entries ++ slice_records pid steps }

-- one slice in front
named-more : NamedAppend → RecordsBegin → (g : Going) (s : Picked) (slices : List Picked) → NamesSlice g.machine s.pick.pid s.pick.count s.reply → SameAsNamed (going_after g s) slices → SameAsNamed g (s ∷ slices)
named-more append begin g s slices one others =
    let steps = input_steps g.machine (input_of s) in
    let entries = slice_records s.pick.pid steps in
    let next = going_after g s in
    let more = named_by next slices in
    let same : going_after g (as_named g.machine s) ≡ next = ap (going g s.pick.pid) one.again in
    let rest = records_from next.machine (map input_of slices) in
    record {
      names =
          append entries rest (begin next.machine (map input_of slices))
          ∙ ap (λ (x : List Input). x ++ named rest) one.named
          ∙ ap (λ (x : List Input). input_of (as_named g.machine s) ∷ x) others.names;
      asks = ap (λ (h : Going). ask_of g ∷ asks_by h more) same ∙ ap (λ (asks : List Ask). ask_of g ∷ asks) others.asks;
      leads = ap (λ (h : Going). going_by h more) same ∙ others.leads;
      open_before = λ opens. (opens.0, subst (λ (h : Going). StaysOpen h more) (sym same) (others.open_before opens.1));
      some = omega (arith, others.some, has-records s.pick.pid steps one.some, length-append entries rest);
    }

pub as-named : NamedAppend → RecordsBegin → SlicesAreNamed → (inputs : List Input) (g : Going) → g.machine ≡ machine_after inputs → (slices : List Picked) → AreInRange (asks_by g slices) slices → SameAsNamed g slices
as-named append begin named_slices inputs g is [] are = record { names = refl; asks = refl; leads = refl; open_before = λ opens. opens; some = omega arith }
as-named append begin named_slices inputs g is (s ∷ slices) are =
    let within : IsInRange (ask_of g) s.pick = are.0 in
    let one : (m : Machine) → m ≡ machine_after inputs → is_possible m s.pick.pid s.pick.count ≡ true → NamesSlice m s.pick.pid s.pick.count s.reply =
    λ m at possible. subst (λ (x : Machine). NamesSlice x s.pick.pid s.pick.count s.reply) (sym at) (named_slices inputs s.pick.pid s.pick.count s.reply (subst (λ (x : Machine). is_possible x s.pick.pid s.pick.count ≡ true) at possible) within.some) in
    let next : after_input g.machine (input_of s) ≡ machine_after (inputs ++ input_of s ∷ []) = ap (λ (m : Machine). after_input m (input_of s)) is ∙ sym (machine_from-append at_first inputs (input_of s ∷ [])) in
    named-more append begin g s slices (one g.machine is within.possible)
    (as-named append begin named_slices (inputs ++ input_of s ∷ []) (going_after g s) next slices are.1)
