-- The generator's line as points of a session.
use Rattle.std.proofs.Common.{◌≡◌, ◌⊎◌, inl, inr, ℕ, ◌+◌, ◌≤◌, ◌++◌, Bool, List, [], ◌∷◌, Option, Some, None, option_map, Result, Ok, Err, OnOk, refl, sym, ap, ◌∙◌, subst, append_assoc, append-nil, arith, if◌then◌else◌, is_none}
use Rattle.std.proofs.lemmas.Grind.{flat_map-append}
use Rattle.arn_base.specs.declared.boxes.Choice.{Choice}
use Rattle.arn_base.specs.declared.disk.Disk.{Ghosts}
use Rattle.arn_base.specs.declared.records.Record.{Record}
use Rattle.arn_model.specs.Kernel.{Machine}
use Rattle.arn_model.specs.Run.{Input, File, Boot, after_input, machine_from}
use Rattle.arn_lines.specs.declared.answer.Refusal.{Refusal}
use Rattle.arn_lines.specs.declared.answer.RunEnd.{RunEnd}
use Rattle.arn_lines.specs.declared.line.TheConstants.{MOST_RUN}
use Rattle.arn_commands.specs.declared.command.Command.TheVariants.{Generates}
use Rattle.log_model.specs.Laws.{BehindAppend, NamedAppend}
use Rattle.log_model.specs.Records.{IsRun, records_from}
use Rattle.log_store.specs.Stores.{StoreState}
use Rattle.guest_legs.specs.Legs.{Picked}
use Rattle.session_effects.specs.Carrying.{StopsBetween}
use Rattle.session_effects.specs.Effects.{Effect, Prints, committed, records_of}
use Rattle.session_effects.specs.Laws.{EffectsFollow, HaltsFollow}
use Rattle.session_effects.specs.Printing.{StopsPut}
use Rattle.session_effects.specs.Standing.{Carries, IsOpen}
use Rattle.session_effects.specs.declared.halt.Halt.{Halt}
use Rattle.session_effects.specs.declared.halt.Halt.TheVariants as halt
use Rattle.session_runs.specs.Laws.{PointsFollow}
use Rattle.session_runs.specs.Points.{Advances, Stops, Surroundings, around}
use Rattle.session_runs.specs.Quiet.{quiet_turn, quietly, then_told}
use Rattle.session_runs.specs.Ready.{machine_of}
use Rattle.session_runs.specs.Runs.{begun, ended, ends, run, unless_ended}
use Rattle.session_runs.specs.Touches.{Answering, named_at}
use Rattle.session_runs.specs.Turns.{Turn, behind, cut_off, finished, prints}
use Rattle.session_commands.specs.Answering.{HaltsIn, IsAnswered, IsHalted}
use Rattle.session_runs.specs.Standing.{standpoint}
use Rattle.session_commands.specs.Cost.{cost, machine_cost}
use Rattle.session_commands.specs.Generator.{event_commits, gen_from, gen_inputs, gen_name, gen_run, generator_turn}
use Rattle.session_commands.specs.Given.{Given}
use Rattle.session_commands.specs.Lines.{needs_machine, turn, turn_unless}
use Rattle.session_commands.specs.Refusals.{generator_refusal}
use Rattle.session_commands.proofs.AnswerLemmas.{put-nothing}
use Rattle.session_commands.proofs.ChangeLemmas.{Advances-later, Stops-later}
use Rattle.session_commands.proofs.LineLemmas.{plain-boot, plain-file, plain-typed}
use Rattle.session_commands.proofs.QuietLemmas.{AllPlain, AreCommitted, commits-are, plain-append, plain-committed, plain-done, plain-next}
use Rattle.session_commands.proofs.TurnLemmas.{Advances-prints, IsStill, PickedBy-none, Stops-prints, spent-still, still-untouched}
use Rattle.session_model.specs.Questions.{Told}

-- a turn without slices touches nothing, leaves none, and names none
record IsAlone (t : Turn) : Type 0 where
  pub touches : t.touches ≡ []
  pub left : (t.left ≡ None) ⊎ (t.left ≡ Some [])
  pub plain : AllPlain t.effects

-- so does a run that begins, without its texts
alone-run : (history : List Record) (m : Machine) (count : ℕ) (text : List Record → List ℕ) → IsAlone (quietly history (run m count) text [])
alone-run history m count text = by (ends (begun m count))
  where
    by : (o : Option RunEnd) → IsAlone (then_told history (quiet_turn (unless_ended o (λ end. ended count (begun m count) end []) cut_off)) text)
    by None = record { touches = refl; left = inl refl; plain = tt }
    by (Some end) = record { touches = refl; left = inr refl; plain = tt }

-- no event of the generator names a slice
pub plain-events : (m : Machine) (image typed : List ℕ) → AllPlain (event_commits m (gen_inputs image typed))
plain-events m image typed =
    let booted : Machine = after_input m (File gen_name image) in
    (plain-file m gen_name image, (plain-boot booted gen_name, (plain-typed (after_input booted (Boot gen_name)) typed, tt)))

alone-from : (told : Told) (history : List Record) (m : Machine) (inputs : List Input) (processes : ℕ) → AllPlain (event_commits m inputs) → IsAlone (gen_from told history m inputs processes [])
alone-from told history m inputs processes plain =
    let a = alone-run (history ++ records_from m inputs) (machine_from m inputs) MOST_RUN (λ all. told.generated all processes) in
    record { touches = a.touches; left = a.left; plain = plain-append (event_commits m inputs) (gen_run told (history ++ records_from m inputs) (machine_from m inputs) processes []).effects plain a.plain }

-- without slices the generator asks for none
pub still-generator : (told : Told) (history : List Record) (image typed : List ℕ) (processes : ℕ) → IsStill (generator_turn told history image typed processes)
still-generator told history image typed processes =
    let a = alone-from told history (machine_of history) (gen_inputs image typed) processes (plain-events (machine_of history) image typed) in
    still-untouched (generator_turn told history image typed processes) a.touches a.left (plain-next (generator_turn told history image typed processes []).effects a.plain)

module _ {D A : Type 0} (d : Ghosts D) (who : Answering A) (names : NamedAppend) (behind_law : BehindAppend) (told : Told) (processes : ℕ) (choices : ℕ → Option Choice) (answers : A) (steps : ℕ) where
  -- events were committed
  pub Advances-events : (old new : D) (s0 s1 : StoreState) (held : Option (List ℕ)) (inputs : List Input) → AllPlain (event_commits (machine_of s0.entries) inputs) → AreCommitted d old new s0 s1 inputs → Advances who (gen_from told s0.entries (machine_of s0.entries) inputs processes) (gen_run told s1.entries (machine_of s1.entries) processes) (around choices answers steps) (around choices answers steps) 0 (Carries IsRun d old new s0 s1 held held)
  Advances-events old new s0 s1 held inputs plain a =
      let m = machine_of s0.entries in
      let effects = event_commits m inputs in
      let p = plain-committed names behind_law effects plain in
      let there : s0.entries ++ records_from m inputs ≡ s1.entries = ap (λ (x : List Record). s0.entries ++ x) (sym (commits-are m inputs)) ∙ sym (a.carries held).entries in
      record {
        slices = [];
        touches = [];
        effects = effects;
        leads = λ rest.
            ap (λ (h : List Record). behind effects [] (gen_run told h (machine_from m inputs) processes rest)) there
            ∙ ap (λ (x : Machine). behind effects [] (gen_run told s1.entries x processes rest)) (sym a.leads);
        names = p.0;
        unplugged = p.2;
        begins = p.1;
        carries = a.carries held;
        picked = PickedBy-none choices;
        in_range = tt;
        touched = (refl, refl);
        executed = omega arith;
      }

  -- they halted
  pub Stops-events : (halts : HaltsFollow IsRun d) (old new : D) (history : List Record) (held : Option (List ℕ)) (why : Halt) (inputs : List Input) → AllPlain (event_commits (machine_of history) inputs) → HaltsIn (StopsBetween IsRun d old new history held held why) (event_commits (machine_of history) inputs) → Stops IsRun d who old new history held held why (gen_from told history (machine_of history) inputs processes) (around choices answers steps) (around choices answers steps) 0
  Stops-events halts old new history held why inputs plain h =
      let m = machine_of history in
      let more = (gen_run told (history ++ records_from m inputs) (machine_from m inputs) processes []).effects in
      let a = alone-from told history m inputs processes plain in
      let are : (gen_from told history m inputs processes []).effects ≡ h.done ++ (h.undone ++ more) = ap (λ (e : List Effect). e ++ more) h.are_effects ∙ append_assoc h.done h.undone more in
      let parts = plain-done h.done (h.undone ++ more) (subst AllPlain are a.plain) in
      let p = plain-committed names behind_law h.done parts.0 in
      record {
        slices = [];
        lost = [];
        part = [];
        touches = [];
        lost_touches = [];
        part_touches = [];
        done = h.done;
        undone = h.undone ++ more;
        are_effects = are;
        are_touches = a.touches;
        stopped = halts.before old new history held held why h.done h.undone more h.stopped;
        names = p.0;
        unplugged = p.2;
        begins = p.1;
        names_lost = λ entries at. (plain-next (h.undone ++ more) parts.1 entries at).0;
        unplugged_lost = λ entries at. (plain-next (h.undone ++ more) parts.1 entries at).1;
        without = inl refl;
        spent = spent-still (h.undone ++ more) (gen_from told history m inputs processes []).left a.left;
        many = refl;
        picked = PickedBy-none choices;
        in_range = tt;
        touched = (refl, refl);
        one_part = omega arith;
        by_memory = inl refl;
        unmade = inl refl;
        executed = omega arith;
      }

-- what the generator's line does that isn't refused
module _ (g : Given) (history : List Record) (image typed : List ℕ) (processes : ℕ) where
  pub turn-generator : generator_refusal history ≡ None → turn g history (Generates image typed processes) ≡ generator_turn g.told history image typed processes
  turn-generator is = ap (λ (o : Option Refusal). turn_unless o (generator_turn g.told history image typed processes)) is

  -- what it costs: the machine, and its telling by the history behind it
  cost-generator : (is_there : Bool) (more : List Record) → generator_refusal history ≡ None → machine_cost is_there history + g.told.generated_cost more ≡ cost g is_there history more (Generates image typed processes)
  cost-generator is_there more is =
      let made : (if needs_machine g history (Generates image typed processes) then machine_cost is_there history else 0) ≡ machine_cost is_there history = ap (λ (o : Option Refusal). if is_none o then machine_cost is_there history else 0) is in
      let asked : (if is_none (generator_refusal history) then g.told.generated_cost more else 0) ≡ g.told.generated_cost more = ap (λ (o : Option Refusal). if is_none o then g.told.generated_cost more else 0) is in
      omega (arith, made, asked)

  pub cost-made : (is_there : Bool) (more : List Record) → generator_refusal history ≡ None → machine_cost is_there history ≤ cost g is_there history more (Generates image typed processes)
  cost-made is_there more is = omega (arith, cost-generator is_there more is)

-- the generator's line, behind the machine that was made or was there
module _ {D A : Type 0} (d : Ghosts D) (who : Answering A) (g : Given) (is_there : Bool) (image typed : List ℕ) (processes : ℕ) (store : StoreState) (accepted : generator_refusal store.entries ≡ None) (laws : EffectsFollow IsRun d) (halts : HaltsFollow IsRun d) (points : PointsFollow IsRun d who) (choices : ℕ → Option Choice) (answers : A) (steps mid : ℕ) (cheap : mid ≤ steps + machine_cost is_there store.entries) (disk : D) (h0 : Option (List ℕ)) (open_now : IsOpen d store disk) (is_run : IsRun store.entries) (there : StoreState) (same : there ≡ store) where
  -- what it did before it is told, by a store that is still the same
  untold : (disk' : D) (s1 kept : StoreState) (holds : Option (List ℕ)) (new : Surroundings A) → kept ≡ s1
      → Advances who (generator_turn g.told there.entries image typed processes) (prints (g.told.generated s1.entries processes)) (around choices answers mid) new 0 (Carries IsRun d disk disk' there s1 h0 holds)
      → Advances who (turn g store.entries (Generates image typed processes)) (prints (g.told.generated kept.entries processes)) (around choices answers steps) new (machine_cost is_there store.entries) (Carries IsRun d disk disk' store kept h0 holds)
  untold disk' s1 kept holds new same_kept p =
      Advances-later d who laws points choices answers disk store h0 open_now (turn g store.entries (Generates image typed processes)) (generator_turn g.told store.entries image typed processes) (turn-generator g store.entries image typed processes accepted) steps mid (machine_cost is_there store.entries) cheap (prints (g.told.generated kept.entries processes)) new disk' kept holds
      (subst (λ (s : StoreState). Advances who (generator_turn g.told store.entries image typed processes) (prints (g.told.generated s.entries processes)) (around choices answers mid) new 0 (Carries IsRun d disk disk' store s h0 holds)) (sym same_kept)
      (subst (λ (s : StoreState). Advances who (generator_turn g.told s.entries image typed processes) (prints (g.told.generated s1.entries processes)) (around choices answers mid) new 0 (Carries IsRun d disk disk' s s1 h0 holds)) same p))

  -- it was carried out and told
  pub answered-told : {T : Type 0} (result : Result T Halt) (disk' : D) (s1 kept s2 : StoreState) (mid_held h1 : Option (List ℕ)) (choices' : ℕ → Option Choice) (answers' : A) (there_steps steps' : ℕ) → kept ≡ s1 → s2 ≡ kept
      → Advances who (generator_turn g.told there.entries image typed processes) (prints (g.told.generated s1.entries processes)) (around choices answers mid) (around choices' answers' there_steps) 0 (Carries IsRun d disk disk' there s1 h0 mid_held) → steps' ≤ there_steps + g.told.generated_cost kept.entries → OnOk result (h1 ≡ option_map (λ before. before ++ g.told.generated kept.entries processes) mid_held)
      → OnOk result (IsAnswered d who g is_there (Generates image typed processes) (standpoint disk store h0 (around choices answers steps)) (standpoint disk' s2 h1 (around choices' answers' steps')))
  answered-told (Err e) disk' s1 kept s2 mid_held h1 choices' answers' there_steps steps' same_kept same_behind p telling put = tt
  answered-told (Ok x) disk' s1 kept s2 mid_held h1 choices' answers' there_steps steps' same_kept same_behind p telling put =
      let from = turn g store.entries (Generates image typed processes) in
      let text = g.told.generated kept.entries processes in
      let u = around choices answers steps in
      let v = around choices' answers' there_steps in
      let w = around choices' answers' steps' in
      let asked = g.told.generated_cost kept.entries in
      let first = untold disk' s1 kept mid_held v same_kept p in
      let second = Advances-prints IsRun d who laws choices' answers' disk' kept mid_held h1 (prints text) there_steps steps' asked text refl first.carries.stays_open put telling in
      subst (λ (s : StoreState). IsAnswered d who g is_there (Generates image typed processes) (standpoint disk store h0 u) (standpoint disk' s h1 w)) (sym same_behind)
      (record {
        advances =
            subst (λ (n : ℕ). Advances who from finished u w n (Carries IsRun d disk disk' store kept h0 h1)) (cost-generator g store.entries image typed processes is_there kept.entries accepted)
            (points.advances from (prints text) finished u v w (machine_cost is_there store.entries) asked disk disk' disk' store kept kept h0 mid_held h1 first second).advances;
        on_run = λ needed. is_run;
      })

  -- it halted before it was told
  pub halted-untold : (disk' : D) (s1 : StoreState) (h1 : Option (List ℕ)) (why : Halt) (new : Surroundings A) → Stops IsRun d who disk disk' there.entries h0 h1 why (generator_turn g.told there.entries image typed processes) (around choices answers mid) new 0
      → IsHalted d who g is_there why (Generates image typed processes) (standpoint disk store h0 (around choices answers steps)) (standpoint disk' s1 h1 new)
  halted-untold disk' s1 h1 why new q = record {
    beside = machine_cost is_there store.entries;
    stops =
        Stops-later d who laws points choices answers disk store h0 open_now (turn g store.entries (Generates image typed processes)) (generator_turn g.told store.entries image typed processes) (turn-generator g store.entries image typed processes accepted) steps mid (machine_cost is_there store.entries) cheap disk' h1 why new
        (subst (λ (s : StoreState). Stops IsRun d who disk disk' s.entries h0 h1 why (generator_turn g.told s.entries image typed processes) (around choices answers mid) new 0) same q);
    costs = cost-made g store.entries image typed processes is_there _ accepted;
    on_run = λ needed. inl is_run;
  }

  -- it halted where it was told
  pub halted-told : (disk' : D) (s1 kept s2 : StoreState) (mid_held h1 : Option (List ℕ)) (why : Halt) (choices' : ℕ → Option Choice) (answers' : A) (there_steps steps' : ℕ) → kept ≡ s1
      → Advances who (generator_turn g.told there.entries image typed processes) (prints (g.told.generated s1.entries processes)) (around choices answers mid) (around choices' answers' there_steps) 0 (Carries IsRun d disk disk' there s1 h0 mid_held) → steps' ≤ there_steps + g.told.generated_cost kept.entries → StopsPut why (g.told.generated kept.entries processes) mid_held h1
      → IsHalted d who g is_there why (Generates image typed processes) (standpoint disk store h0 (around choices answers steps)) (standpoint disk' s2 h1 (around choices' answers' steps'))
  halted-told disk' s1 kept s2 mid_held h1 why choices' answers' there_steps steps' same_kept p telling put =
      let from = turn g store.entries (Generates image typed processes) in
      let text = g.told.generated kept.entries processes in
      let u = around choices answers steps in
      let v = around choices' answers' there_steps in
      let w = around choices' answers' steps' in
      let asked = g.told.generated_cost kept.entries in
      let all = machine_cost is_there store.entries + asked in
      let first = untold disk' s1 kept mid_held v same_kept p in
      let second = Stops-prints IsRun d who halts choices' answers' disk' kept.entries mid_held h1 why (prints text) there_steps steps' asked text refl put telling in
      let both = points.stops from (prints text) u v w (machine_cost is_there store.entries) asked disk disk' disk' store kept h0 mid_held h1 why first second.stops in
      let xs = named_at first.touches first.slices in
      let leads : from (named_at both.stops.touches both.stops.slices ++ named_at both.stops.lost_touches both.stops.lost) ≡ behind first.effects first.touches (prints text []) = ap from (both.slices ∙ ap (λ (x : List Picked). xs ++ x) second.slices) ∙ first.leads [] in
      let leaves : store.entries ++ committed (from (named_at both.stops.touches both.stops.slices ++ named_at both.stops.lost_touches both.stops.lost)).effects ≡ kept.entries =
      ap (λ (t : Turn). store.entries ++ committed t.effects) leads
      ∙ ap (λ (x : List Record). store.entries ++ x) (flat_map-append records_of first.effects (Prints text ∷ []) ∙ append-nil (committed first.effects))
      ∙ sym first.carries.entries in
      record {
        beside = all;
        stops = both.stops;
        costs = subst (λ (h : List Record). all ≤ cost g is_there store.entries h (Generates image typed processes)) (sym leaves) (omega (arith, cost-generator g store.entries image typed processes is_there kept.entries accepted));
        on_run = λ needed. inl is_run;
      }

  -- memory ran out before anything of its text was put
  pub halted-unheard : (disk' : D) (s1 s2 : StoreState) (holds : Option (List ℕ)) (choices' : ℕ → Option Choice) (answers' : A) (steps' : ℕ)
      → Advances who (generator_turn g.told there.entries image typed processes) (prints (g.told.generated s1.entries processes)) (around choices answers mid) (around choices' answers' steps') 0 (Carries IsRun d disk disk' there s1 h0 holds)
      → IsHalted d who g is_there halt.NoMemory (Generates image typed processes) (standpoint disk store h0 (around choices answers steps)) (standpoint disk' s2 holds (around choices' answers' steps'))
  halted-unheard disk' s1 s2 holds choices' answers' steps' p =
      halted-told disk' s1 s1 s2 holds holds halt.NoMemory choices' answers' steps' steps' refl p (omega arith) (put-nothing (g.told.generated s1.entries processes) holds)
