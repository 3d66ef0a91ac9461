-- The line that unplugs a device, as a point of a session.
use Rattle.std.proofs.Common.{◌≡◌, ℕ, ◌++◌, List, [], ◌∷◌, Option, Result, Ok, Err, IfErr, OnOk, inl, inr, refl, sym, ap, ◌∙◌, subst, append-nil, arith}
use Rattle.arn_base.specs.declared.boxes.Choice.{Choice}
use Rattle.arn_base.specs.declared.disk.Disk.{Ghosts}
use Rattle.arn_base.specs.declared.records.Record.{Record}
use Rattle.arn_base.specs.declared.records.Record.TheVariants as entry
use Rattle.arn_lines.specs.Texts.{event_text}
use Rattle.arn_model.specs.Kernel.{Machine}
use Rattle.history_model.specs.Unplugged.{unplugged_in}
use Rattle.log_model.specs.Records.{IsRun, reply_behind}
use Rattle.log_store.specs.Stores.{StoreState}
use Rattle.session_effects.specs.Carrying.{IsAtCommit, StopsBetween}
use Rattle.session_effects.specs.Effects.{Effect, Commits, Prints, committed}
use Rattle.session_effects.specs.Laws.{HaltsFollow}
use Rattle.session_effects.specs.Standing.{Carries}
use Rattle.session_effects.specs.declared.halt.Halt.{Halt}
use Rattle.session_effects.specs.declared.halt.Halt.TheVariants as halt
use Rattle.session_runs.specs.Points.{Advances, Stops, around, slices_in}
use Rattle.session_runs.specs.Touches.{Answering, AtUnplug}
use Rattle.session_runs.specs.Turns.{finished}
use Rattle.session_commands.specs.Answering.{HaltsIn}
use Rattle.session_commands.specs.Events.{unplug_effects, unplugging}
use Rattle.session_commands.specs.declared.events.Event.{Event}
use Rattle.session_commands.proofs.LineLemmas.{still-unplugging}
use Rattle.session_commands.proofs.TurnLemmas.{PickedBy-none, Stops-nothing, first-commit, no-commit, none-next}

-- an event's commit and its number are what is done
pub unplug-effects : (m : Machine) (device : ℕ) (event : Event) → event.number ≡ m.events → event.entries.items ≡ entry.Unplug device ∷ [] → Commits event.entries.items ∷ Prints (event_text event.number) ∷ [] ≡ unplug_effects m device
unplug-effects m device event number recorded =
    ap (λ (x : List Record). Commits x ∷ Prints (event_text event.number) ∷ []) recorded ∙ ap (λ (n : ℕ). Commits (entry.Unplug device ∷ []) ∷ Prints (event_text n) ∷ []) number

module _ {D A : Type 0} (d : Ghosts D) (who : Answering A) (choices : ℕ → Option Choice) (answers answers' : A) (steps : ℕ) (m : Machine) (device : ℕ) where
  -- it was unplugged, and that was told
  pub Advances-unplugged : {T : Type 0} (result : Result T Halt) (old new : D) (s0 s1 : StoreState) (h0 h1 : Option (List ℕ)) → who.unplugs device answers answers' → OnOk result (Carries IsRun d old new s0 s1 h0 h1 (unplug_effects m device)) → OnOk result (Advances who (unplugging m device) finished (around choices answers steps) (around choices answers' steps) 0 (Carries IsRun d old new s0 s1 h0 h1))
  Advances-unplugged (Ok x) old new s0 s1 h0 h1 unplugged carries = record {
    slices = [];
    touches = AtUnplug device ∷ [];
    effects = unplug_effects m device;
    leads = λ rest. refl;
    names = refl;
    unplugged = refl;
    begins = refl;
    carries = carries;
    picked = PickedBy-none choices;
    in_range = tt;
    touched = (answers', unplugged, (refl, refl));
    executed = omega arith;
  }
  Advances-unplugged (Err e) old new s0 s1 h0 h1 unplugged carries = tt

  -- its record wasn't committed: it is lost
  Stops-lost : (why : Halt) (disk disk' : D) (history : List Record) (h0 h1 : Option (List ℕ)) → who.unplugs device answers answers' → StopsBetween IsRun d disk disk' history h0 h1 why [] (unplug_effects m device) → Stops IsRun d who disk disk' history h0 h1 why (unplugging m device) (around choices answers steps) (around choices answers' steps) 0
  Stops-lost why disk disk' history h0 h1 unplugged stopped = record {
    slices = [];
    lost = [];
    part = [];
    touches = [];
    lost_touches = AtUnplug device ∷ [];
    part_touches = [];
    done = [];
    undone = unplug_effects m device;
    are_effects = refl;
    are_touches = refl;
    stopped = stopped;
    names = refl;
    unplugged = refl;
    begins = refl;
    names_lost = λ entries at. ap slices_in (first-commit (entry.Unplug device ∷ []) entries (Prints (event_text m.events) ∷ []) at);
    unplugged_lost = λ entries at. ap unplugged_in (first-commit (entry.Unplug device ∷ []) entries (Prints (event_text m.events) ∷ []) at);
    without = inl refl;
    spent = inr (refl, inr refl);
    many = refl;
    picked = PickedBy-none choices;
    in_range = tt;
    touched = (answers', unplugged, (refl, refl));
    one_part = omega arith;
    by_memory = inl refl;
    unmade = inl refl;
    executed = omega arith;
  }

  -- it was, and no other commit comes behind it
  Stops-kept : (why : Halt) (disk disk' : D) (history : List Record) (h0 h1 : Option (List ℕ)) (done undone : List Effect) → unplug_effects m device ≡ done ++ undone → committed done ≡ entry.Unplug device ∷ [] → ((entries : List Record) → IsAtCommit undone entries → ⊥) → who.unplugs device answers answers' → StopsBetween IsRun d disk disk' history h0 h1 why done undone → Stops IsRun d who disk disk' history h0 h1 why (unplugging m device) (around choices answers steps) (around choices answers' steps) 0
  Stops-kept why disk disk' history h0 h1 done undone are kept last unplugged stopped = record {
    slices = [];
    lost = [];
    part = [];
    touches = AtUnplug device ∷ [];
    lost_touches = [];
    part_touches = [];
    done = done;
    undone = undone;
    are_effects = are;
    are_touches = refl;
    stopped = stopped;
    names = ap slices_in kept;
    unplugged = ap unplugged_in kept;
    begins = ap reply_behind kept;
    names_lost = λ entries at. absurd (last entries at);
    unplugged_lost = λ entries at. absurd (last entries at);
    without = inl refl;
    spent = inr (refl, inr refl);
    many = refl;
    picked = PickedBy-none choices;
    in_range = tt;
    touched = (answers', unplugged, (refl, refl));
    one_part = omega arith;
    by_memory = inl refl;
    unmade = inl refl;
    executed = omega arith;
  }

  -- wherever it stops among its effects
  stop-by : (why : Halt) (disk disk' : D) (history : List Record) (h0 h1 : Option (List ℕ)) (done undone : List Effect) → unplug_effects m device ≡ done ++ undone → who.unplugs device answers answers' → StopsBetween IsRun d disk disk' history h0 h1 why done undone → Stops IsRun d who disk disk' history h0 h1 why (unplugging m device) (around choices answers steps) (around choices answers' steps) 0
  stop-by why disk disk' history h0 h1 [] undone are unplugged stopped =
      Stops-lost why disk disk' history h0 h1 unplugged (subst (λ (e : List Effect). StopsBetween IsRun d disk disk' history h0 h1 why [] e) (sym are) stopped)
  stop-by why disk disk' history h0 h1 (Commits es ∷ []) undone are unplugged stopped =
      let same : es ≡ entry.Unplug device ∷ [] = cc in
      let left : Prints (event_text m.events) ∷ [] ≡ undone = cc in
      Stops-kept why disk disk' history h0 h1 (Commits es ∷ []) undone are (append-nil es ∙ same) (λ entries at. no-commit (event_text m.events) entries [] (subst (λ (e : List Effect). IsAtCommit e entries) (sym left) at)) unplugged stopped
  stop-by why disk disk' history h0 h1 (Commits es ∷ (Prints text ∷ [])) undone are unplugged stopped =
      let same : es ≡ entry.Unplug device ∷ [] = cc in
      let left : undone ≡ [] = cc in
      Stops-kept why disk disk' history h0 h1 (Commits es ∷ (Prints text ∷ [])) undone are (append-nil es ∙ same) (λ entries at. none-next entries (subst (λ (e : List Effect). IsAtCommit e entries) left at)) unplugged stopped
  stop-by why disk disk' history h0 h1 _ undone are unplugged stopped = absurd cc

  pub Stops-unplugged : {T : Type 0} (result : Result T Halt) (disk disk' : D) (history : List Record) (h0 h1 : Option (List ℕ)) → who.unplugs device answers answers' → IfErr result (λ why. HaltsIn (StopsBetween IsRun d disk disk' history h0 h1 why) (unplug_effects m device)) → IfErr result (λ why. Stops IsRun d who disk disk' history h0 h1 why (unplugging m device) (around choices answers steps) (around choices answers' steps) 0)
  Stops-unplugged (Ok x) disk disk' history h0 h1 unplugged halted = tt
  Stops-unplugged (Err why) disk disk' history h0 h1 unplugged halted = stop-by why disk disk' history h0 h1 halted.done halted.undone halted.are_effects unplugged halted.stopped

  -- memory ran out before that
  pub Stops-before : (halts : HaltsFollow IsRun d) (disk : D) (history : List Record) (held : Option (List ℕ)) → answers' ≡ answers → Stops IsRun d who disk disk history held held halt.NoMemory (unplugging m device) (around choices answers steps) (around choices answers' steps) 0
  Stops-before halts disk history held same =
      subst (λ (a : A). Stops IsRun d who disk disk history held held halt.NoMemory (unplugging m device) (around choices answers steps) (around choices a steps) 0) (sym same)
      (Stops-nothing IsRun d who halts choices answers disk history held halt.NoMemory (unplugging m device) steps steps 0 (still-unplugging m device) (inr tt)
      (halts.nothing disk history held halt.NoMemory (unplug_effects m device) (inl refl, inl refl)) (omega arith))
