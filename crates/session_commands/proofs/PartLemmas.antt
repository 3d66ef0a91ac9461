-- Lines that become an event: a commit, and then the event's number.
use Rattle.std.proofs.Common.{◌≡◌, ℕ, ◌++◌, List, [], ◌∷◌, Option, option_map, Result, Ok, Err, IfErr, OnOk, IsErrAnd, inl, refl, sym, ap, subst, ◌∙◌, append-nil}
use Rattle.arn_base.specs.declared.disk.Disk.{Ghosts}
use Rattle.arn_base.specs.declared.records.Record.{Record}
use Rattle.log_model.specs.Records.{IsRun}
use Rattle.log_store.specs.Stores.{StoreState}
use Rattle.guest_machine.specs.Recorded.{Recorded}
use Rattle.session_effects.specs.Carrying.{StopsBetween}
use Rattle.session_effects.specs.Effects.{Effect, Commits, Prints}
use Rattle.session_effects.specs.Laws.{EffectsFollow, HaltsFollow}
use Rattle.session_effects.specs.Printing.{StopsPut}
use Rattle.session_effects.specs.Standing.{Carries}
use Rattle.session_effects.specs.declared.halt.Halt.{Halt}
use Rattle.session_effects.specs.declared.halt.Halt.TheVariants as halt
use Rattle.session_runs.specs.Ready.{IsReady}
use Rattle.session_commands.specs.Answering.{HaltsIn}

module _ {D : Type 0} (d : Ghosts D) (laws : EffectsFollow IsRun d) (halts : HaltsFollow IsRun d) where
  -- a commit that halts before a text
  pub Halts-first : {T : Type 0} (result : Result T Halt) (old new : D) (history : List Record) (held : Option (List ℕ)) (why : Halt) (entries : List Record) (text : List ℕ) → IsErrAnd result (λ halt. halt ≡ why) → ((told : Option (List ℕ)) → StopsBetween IsRun d old new history told told why [] (Commits entries ∷ [])) → IfErr result (λ halt. HaltsIn (StopsBetween IsRun d old new history held held halt) (Commits entries ∷ Prints text ∷ []))
  Halts-first (Ok x) old new history held why entries text is stops = tt
  Halts-first (Err halt) old new history held why entries text is stops =
      subst (λ (x : Halt). HaltsIn (StopsBetween IsRun d old new history held held x) (Commits entries ∷ Prints text ∷ [])) (sym is)
      (record { done = []; undone = Commits entries ∷ Prints text ∷ []; are_effects = refl; stopped = halts.before old new history held held why [] (Commits entries ∷ []) (Prints text ∷ []) (stops held) })

  -- a text behind a commit that was carried out
  pub Carries-event : {T : Type 0} (result : Result T Halt) (old new : D) (store store' : StoreState) (h0 h1 : Option (List ℕ)) (entries : List Record) (text : List ℕ) → Carries IsRun d old new store store' h0 h0 (Commits entries ∷ []) → OnOk result (h1 ≡ option_map (λ before. before ++ text) h0) → OnOk result (Carries IsRun d old new store store' h0 h1 (Commits entries ∷ Prints text ∷ []))
  Carries-event (Ok x) old new store store' h0 h1 entries text carries put = record {
    stays_open = carries.stays_open;
    entries = carries.entries;
    out =
        laws.append old new new store.entries store'.entries h0 h0 h1 (Commits entries ∷ []) (Prints text ∷ []) carries.entries carries.out
        (laws.text new store'.entries h0 h1 text put);
  }
  Carries-event (Err e) old new store store' h0 h1 entries text carries put = tt

  -- one that halts there
  pub Halts-last : {T : Type 0} (result : Result T Halt) (old new : D) (store store' : StoreState) (h0 h1 : Option (List ℕ)) (entries : List Record) (text : List ℕ) → Carries IsRun d old new store store' h0 h0 (Commits entries ∷ []) → IfErr result (λ halt. StopsPut halt text h0 h1) → IfErr result (λ halt. HaltsIn (StopsBetween IsRun d old new store.entries h0 h1 halt) (Commits entries ∷ Prints text ∷ []))
  Halts-last (Ok x) old new store store' h0 h1 entries text carries stops = tt
  Halts-last (Err why) old new store store' h0 h1 entries text carries stops = record {
    done = Commits entries ∷ [];
    undone = Prints text ∷ [];
    are_effects = refl;
    stopped = halts.behind old new new store.entries store'.entries h0 h0 h1 why (Commits entries ∷ []) [] (Prints text ∷ []) carries.entries carries.out (halts.text new store'.entries h0 h1 why text stops);
  }

  -- memory ran out before anything was carried out
  pub Halts-before : (disk : D) (history : List Record) (held : Option (List ℕ)) (why : Halt) (effects : List Effect) → why ≡ halt.NoMemory → HaltsIn (StopsBetween IsRun d disk disk history held held why) effects
  Halts-before disk history held why effects is =
      subst (λ (x : Halt). HaltsIn (StopsBetween IsRun d disk disk history held held x) effects) (sym is)
      (record { done = []; undone = effects; are_effects = refl; stopped = halts.nothing disk history held halt.NoMemory effects (inl refl, inl refl) })

  -- the machine belongs to what an event's commit left
  pub ready-carried : {T : Type 0} (result : Result T Halt) (old new : D) (store store' : StoreState) (h0 h1 : Option (List ℕ)) (entries : List Record) (text : List ℕ) (r : Recorded) → IsReady r (store.entries ++ entries) → OnOk result (Carries IsRun d old new store store' h0 h1 (Commits entries ∷ Prints text ∷ [])) → OnOk result (IsReady r store'.entries)
  ready-carried (Ok x) old new store store' h0 h1 entries text r ready carries =
      subst (IsReady r) (sym (carries.entries ∙ ap (λ (x : List Record). store.entries ++ x) (append-nil entries))) ready
  ready-carried (Err e) old new store store' h0 h1 entries text r ready carries = tt
