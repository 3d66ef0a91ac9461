-- Lines that become an event, as points of a session.
use Rattle.std.proofs.Common.{◌≡◌, ℕ, List, [], ◌∷◌, Option, Result, Ok, Err, IfErr, OnOk, ap, arith, ◌∙◌}
use Rattle.arn_base.specs.declared.boxes.Choice.{Choice}
use Rattle.arn_base.specs.declared.disk.Disk.{Ghosts}
use Rattle.arn_base.specs.declared.records.Record.{Record}
use Rattle.arn_model.specs.Kernel.{Machine}
use Rattle.arn_model.specs.Run.{Input}
use Rattle.log_model.specs.Records.{IsRun, records_from}
use Rattle.log_store.specs.Stores.{StoreState}
use Rattle.arn_lines.specs.Texts.{event_text}
use Rattle.session_effects.specs.Carrying.{StopsBetween}
use Rattle.session_effects.specs.Effects.{Commits, Prints}
use Rattle.session_effects.specs.Laws.{HaltsFollow}
use Rattle.session_effects.specs.Standing.{Carries}
use Rattle.session_effects.specs.declared.halt.Halt.{Halt}
use Rattle.session_runs.specs.Points.{Advances, Stops, around}
use Rattle.session_runs.specs.Touches.{Answering}
use Rattle.session_runs.specs.Turns.{Point, does, finished}
use Rattle.session_commands.specs.Answering.{HaltsIn}
use Rattle.session_commands.specs.Events.{IsEvent, event_effects}
use Rattle.session_commands.specs.declared.events.Event.{Event}
use Rattle.session_commands.proofs.LineLemmas.{IsPlain, plain-effects}
use Rattle.session_commands.proofs.TurnLemmas.{Advances-does, Stops-does, quiet-event}

-- an event's commit and its number are the effects of its input
pub event-effects : (m : Machine) (i : Input) (event : Event) → IsEvent m i event → Commits event.entries.items ∷ Prints (event_text event.number) ∷ [] ≡ event_effects m i
event-effects m i event made =
    ap (λ (x : List Record). Commits x ∷ Prints (event_text event.number) ∷ []) made.are_records
    ∙ ap (λ (n : ℕ). Commits (records_from m (i ∷ [])) ∷ Prints (event_text n) ∷ []) made.is_number

module _ {D A : Type 0} (d : Ghosts D) (who : Answering A) (choices : ℕ → Option Choice) (answers : A) (steps : ℕ) (m : Machine) (i : Input) (plain : IsPlain (records_from m (i ∷ []))) (from : Point) (is : from ≡ does (event_effects m i) []) where
  -- its effects were carried out
  pub event-advances : {T : Type 0} (result : Result T Halt) (old new : D) (s0 s1 : StoreState) (h0 h1 : Option (List ℕ)) → OnOk result (Carries IsRun d old new s0 s1 h0 h1 (event_effects m i)) → OnOk result (Advances who from finished (around choices answers steps) (around choices answers steps) 0 (Carries IsRun d old new s0 s1 h0 h1))
  event-advances (Ok x) old new s0 s1 h0 h1 carries =
      let quiet = plain-effects m i plain in
      Advances-does who choices answers from (event_effects m i) steps steps 0 (Carries IsRun d old new s0 s1 h0 h1) is (quiet.0, quiet.2) quiet.1 carries (omega arith)
  event-advances (Err e) old new s0 s1 h0 h1 carries = tt

  -- they halted
  pub event-stop : (halts : HaltsFollow IsRun d) (why : Halt) (old new : D) (history : List Record) (h0 h1 : Option (List ℕ)) → HaltsIn (StopsBetween IsRun d old new history h0 h1 why) (event_effects m i) → Stops IsRun d who old new history h0 h1 why from (around choices answers steps) (around choices answers steps) 0
  event-stop halts why old new history h0 h1 h =
      (Stops-does IsRun d who halts choices answers old new history h0 h1 why from steps steps 0 (event_effects m i) h.done h.undone is h.are_effects
      (quiet-event (records_from m (i ∷ [])) (event_text m.events) h.done h.undone (plain.0, plain.2) plain.1 h.are_effects) h.stopped (omega arith)).stops

  pub event-stops : {T : Type 0} (halts : HaltsFollow IsRun d) (result : Result T Halt) (old new : D) (history : List Record) (h0 h1 : Option (List ℕ)) → IfErr result (λ why. HaltsIn (StopsBetween IsRun d old new history h0 h1 why) (event_effects m i)) → IfErr result (λ why. Stops IsRun d who old new history h0 h1 why from (around choices answers steps) (around choices answers steps) 0)
  event-stops halts (Ok x) old new history h0 h1 halted = tt
  event-stops halts (Err why) old new history h0 h1 halted = event-stop halts why old new history h0 h1 halted
