-- What the records of a run tell of it, and of a moment.
use Rattle.std.proofs.lemmas.Bool.Decides.{nat_tests}
use Rattle.std.proofs.Common.{◌≡◌, not, ◌&&◌, is_some, nat_lt, ℕ, zero, suc, false, List, [], Option, None, IfSome, length, map, refl, sym, ap, subst, ◌∙◌, arith}
use Rattle.std.specs.List.{list_any, count_by}
use Rattle.arn_base.specs.declared.records.Record.{Record}
use Rattle.parts_model.specs.declared.limits.TheConstants.{MOST_FILES}
use Rattle.parts_model.specs.Files.{find_file}
use Rattle.acts_model.specs.Bodies.{body_at}
use Rattle.arn_model.specs.Kernel.{Machine, at_first}
use Rattle.arn_model.specs.Laws.{StepsTell, EachRunIsSound, EachRunAppends}
use Rattle.arn_model.specs.Parts.{TurnsHaveParts}
use Rattle.arn_model.specs.Run as run
use Rattle.arn_model.specs.Run.{Input, machine_after, state_at, events_of, within}
use Rattle.arn_model.specs.Tells.{lives}
use Rattle.arn_model.specs.Turn.{after_steps}
use Rattle.history_model.specs.Moments.{Numbered, lives_by, segment_at, segments_by, segments_told, events_until}
use Rattle.history_model.specs.Names as names
use Rattle.history_model.specs.Names.{named_from, is_file, brought_from}
use Rattle.history_model.specs.Unplugged.{unplugged_in}
use Rattle.log_model.specs.Laws.{EventsRecorded}
use Rattle.log_model.specs.Records.{records}
use Rattle.replay_laws.specs.Laws as laws
use Rattle.replay_laws.proofs.TellsLives.{LifeIs, life_by, life-keeps, lives-fold, BootIs, boot_by, boot-keeps, boots-fold}
use Rattle.replay_laws.proofs.TellsBrought.{Brought, BroughtIs, UntilBooted, brings, brought-kept, count-kept, bytes-fold, count-fold, brought-keeps, brought-free}
use Rattle.replay_laws.proofs.TellsNames.{Naming, NamesAre, named_at, names-keep, names-fold, named-kept, boot-kept}
use Rattle.replay_laws.proofs.TellsSegments.{SegmentsAre, segments-keep, segments-first, segments-fold}
use Rattle.replay_laws.proofs.TellsSteps.{Facts, run-facts, within-along, fold_events, fold-keeps, as_numbered, numbered-events, events-counted}
use Rattle.replay_laws.proofs.TellsUnplugged.{UnpluggedAre, unplugs, unplugs-keep, unplugs-fold, unplugged-kept}
use Rattle.replay_laws.proofs.TellsUntil.{events-until, from-total}

-- of a run

run-reached : EachRunAppends → (inputs : List Input) → machine_after inputs ≡ after_steps at_first (run.run inputs)
run-reached append inputs = (append at_first inputs []).reached

pub records-tell-runs : TurnsHaveParts → StepsTell → EachRunAppends → EachRunIsSound → EventsRecorded → laws.RecordsTellRuns
records-tell-runs parts tell append sound recorded inputs few =
    let steps = run.run inputs in
    let last = after_steps at_first steps in
    let facts = run-facts tell sound inputs few in
    let reached = run-reached append inputs in
    let none_named : Naming = record { brought = 0; file = None } in
    record {
      instructions = from-total parts at_first inputs;
      events =
          ap (λ (es : List Record). length es) (recorded inputs)
          ∙ omega (arith, events-counted at_first steps facts)
          ∙ sym (ap (λ (m : Machine). m.events) reached);
      booted =
          boot-kept (records inputs)
          ∙ ap (list_any names.is_boot) (recorded inputs)
          ∙ boots-fold (events_of steps) false
          ∙ fold-keeps boot_by BootIs boot-keeps at_first steps false facts refl
          ∙ sym (ap run.is_booted reached);
      named =
          λ name.
          named-kept 0 (records inputs) name None
          ∙ ap (λ (es : List Record). named_from 0 es name None) (recorded inputs)
          ∙ names-fold name (events_of steps) none_named
          ∙ (fold-keeps (named_at name) (NamesAre name) (names-keep name) at_first steps none_named facts (record { file = refl; next = λ none. refl })).file
          ∙ sym (ap (λ (m : Machine). find_file m.kernel.files name) reached);
      unplugged =
          unplugged-kept (records inputs)
          ∙ ap unplugged_in (recorded inputs)
          ∙ unplugs-fold (events_of steps) []
          ∙ fold-keeps unplugs UnpluggedAre unplugs-keep at_first steps [] facts refl
          ∙ sym (ap (λ (m : Machine). m.kernel.unplugged) reached);
      brought = λ none name. brought-at name ∙ (files-are none name).bytes;
      may_bring =
          λ none name.
          ap (λ (o : Option (List ℕ)). not (is_some o) && nat_lt (count_by is_file (records inputs)) MOST_FILES) (brought-at name)
          ∙ ap (λ (n : ℕ). not (is_some (last-brought name).bytes) && nat_lt n MOST_FILES) (count-at name)
          ∙ brought-free name (machine_after inputs) (last-brought name) (files-are none name);
    }
  where
    no_file : Brought
    no_file = record { count = 0; bytes = None }

    last-brought : List ℕ → Brought
    last-brought name = fold_events (brings name) (events_of (run.run inputs)) no_file

    brought-at : (name : List ℕ) → names.brought (records inputs) name ≡ (last-brought name).bytes
    brought-at name =
        brought-kept (records inputs) name None
        ∙ ap (λ (es : List Record). brought_from es name None) (recorded inputs)
        ∙ bytes-fold name (events_of (run.run inputs)) no_file

    count-at : (name : List ℕ) → count_by is_file (records inputs) ≡ (last-brought name).count
    count-at name = grind (arith, nat_tests, count-kept, count-fold, no_file)

    files-are : run.is_booted (machine_after inputs) ≡ false → (name : List ℕ) → BroughtIs name (machine_after inputs) (last-brought name)
    files-are none name =
        subst (λ (m : Machine). UntilBooted name m (last-brought name)) (sym (run-reached append inputs))
        (fold-keeps (brings name) (UntilBooted name) (brought-keeps name) at_first (run.run inputs) no_file (run-facts tell sound inputs few)
        (λ none. record { count = refl; bytes = refl; there = refl }))
        none

-- of a moment

none-live : (pid : ℕ) → false ≡ lives at_first.kernel pid
none-live zero = refl
none-live (suc i) = refl

pub records-tell-moments : TurnsHaveParts → StepsTell → EachRunIsSound → laws.RecordsTellMoments
records-tell-moments parts tell sound inputs moment pid few =
    let steps = within moment (run.run inputs) in
    let facts = within-along Facts at_first moment (run.run inputs) (run-facts tell sound inputs few) in
    let until : events_until moment (records inputs) ≡ map as_numbered (events_of steps) = events-until parts inputs moment ∙ numbered-events at_first steps facts in
    let held : segment_at (records inputs) moment pid ≡ fold_events segments_told (events_of steps) (λ q. None) pid =
    ap (λ (es : List Numbered). segments_by es (λ q. None) pid) until ∙ ap (λ (f : ℕ → Option ℕ). f pid) (segments-fold (events_of steps) (λ q. None)) in
    record {
      lives =
          ap (λ (es : List Numbered). lives_by es pid false) until
          ∙ lives-fold pid (events_of steps) false
          ∙ fold-keeps (life_by pid) (LifeIs pid) (life-keeps pid) at_first steps false facts (none-live pid);
      holds =
          subst (λ (x : Option ℕ). IfSome (body_at (state_at inputs moment).bodies pid) (λ b. x ≡ b.segment)) (sym held)
          (fold-keeps segments_told SegmentsAre segments-keep at_first steps (λ q. None) facts segments-first pid);
    }
