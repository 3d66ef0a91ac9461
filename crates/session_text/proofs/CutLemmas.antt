-- A session that ends before its text does.
use Rattle.std.proofs.Common.{◌≡◌, ◌⊎◌, inl, inr, ℕ, ◌+◌, ◌≤◌, ◌||◌, ◌++◌, Bool, true, false, if◌then◌else◌, List, [], ◌∷◌, length, Option, None, Some, IfSome, refl, sym, ap, ◌∙◌, subst, append_assoc, append-nil, arith}
use Rattle.std.proofs.lemmas.Option.{IfSome_then}
use Rattle.arn_base.specs.declared.disk.Disk.{Ghosts}
use Rattle.arn_base.specs.declared.records.Differs.{Differs}
use Rattle.arn_base.specs.declared.records.Record.{Record}
use Rattle.arn_commands.specs.declared.command.Command.{Command}
use Rattle.arn_commands.specs.Commands.{Asks, EachAsks}
use Rattle.arn_commands.specs.Nexts.{ReadsMore, ReadsLast}
use Rattle.arn_commands.specs.Parts.{Part, text_parts, whole_parts}
use Rattle.arn_commands.specs.Reader.{ReaderState, fresh_reader, Uses, UsesSome}
use Rattle.log_model.specs.Records.{IsRun}
use Rattle.log_store.specs.Stores.{StoreState}
use Rattle.guest_machine.specs.Again.{rebuild_cost}
use Rattle.guest_legs.specs.Legs.{Picked}
use Rattle.session_effects.specs.Carrying.{CarriesOut, StopsAt, StopsBetween}
use Rattle.session_effects.specs.Effects.{Effect}
use Rattle.session_effects.specs.Standing.{IsOpen}
use Rattle.session_effects.specs.declared.halt.Halt.{Halt}
use Rattle.session_effects.specs.declared.halt.Halt.TheVariants as halt
use Rattle.session_runs.specs.Laws.{StopsBy}
use Rattle.session_runs.specs.Ready.{IsNotMade}
use Rattle.session_runs.specs.Points.{Advances, Stops}
use Rattle.session_runs.specs.Touches.{Answering, TouchedBy, asks_in, named_at}
use Rattle.session_runs.specs.Turns.{finished}
use Rattle.session_commands.specs.Answering.{FindsNoRun, IsHalted, IsNoRun, IsNotBegun, IsUntouched}
use Rattle.session_runs.specs.Standing.{Standpoint, standpoint}
use Rattle.session_commands.specs.Cost.{cost_of_turn, machine_cost}
use Rattle.session_commands.specs.Given.{Given}
use Rattle.session_commands.specs.Lines.{needs_machine, turn}
use Rattle.session_text.specs.CutOff.{BeginsText, FindsOut, IsBegun}
use Rattle.session_text.specs.Transcript.{needs_any, total_cost, transcript}
use Rattle.session_text.proofs.PointLemmas.{Laws, PickedBy-same, Stops-along, Stops-dearer, Stops-finished}
use Rattle.session_text.proofs.Progress.{Advances-more, EachAsks-push, HaveAnswers, Progress, Progress-start, are_taken, costs-more, count_taken, parts-more, text_taken, wholes-more}
use Rattle.session_text.proofs.TouchLemmas.{StandAs}
use Rattle.session_text.proofs.TranscriptLemmas.{needs-push, transcript-one}
use Rattle.session_text.proofs.UseLemmas.{Uses-append, Uses-none}

-- what was taken of a text begins with the bytes that were used
text_used : (seen more : List ℕ) (reader : ReaderState) (l0 l : Option (List ℕ)) → Uses (seen ++ more) fresh_reader reader l0 l → IfSome l0 (λ text. (rest : List ℕ) × (text ≡ seen ++ rest) × IfSome l (λ left. (beyond : List ℕ) × (rest ≡ beyond ++ left)))
text_used seen more reader None l used = tt
text_used seen more reader (Some text) None used = absurd (no_text used.come)
  where
    no_text : Some text ≡ None → ⊥
    no_text is = cc
text_used seen more reader (Some text) (Some left) used =
    let rest = more ++ (reader.ahead ++ left) in
    (rest, some_text used.come ∙ append_assoc seen more (reader.ahead ++ left), (more ++ reader.ahead, sym (append_assoc more reader.ahead left)))
  where
    some_text : Some text ≡ Some ((seen ++ more) ++ (reader.ahead ++ left)) → text ≡ (seen ++ more) ++ (reader.ahead ++ left)
    some_text is = cc

-- the first parts of a text that were begun, of which these come last
record Begins (text : List ℕ) (left : Option (List ℕ)) (parts : List Part) : Type 0 where
  is_begun : IsBegun text left
  are : text_parts is_begun.begun ≡ parts

module _ {D A : Type 0} (d : Ghosts D) (who : Answering A) (g : Given) where
  -- a command was begun behind others, and halted
  pub stops-more : (laws : Laws d who) (old mid new : Standpoint D A) (parts : List Part) (is_there : Bool) (command : Command) (why : Halt) (n : ℕ) (p : HaveAnswers d who g parts is_there old mid) (q : Stops IsRun d who mid.disk new.disk mid.store.entries mid.held new.held why (turn g mid.store.entries command) mid.around new.around n) → StopsBy IsRun d who (transcript g old.store.entries (p.commands ++ command ∷ [])) old.around new.around (p.cost + n) old.disk new.disk old.store.entries old.held new.held why (named_at p.answered.touches p.answered.slices ++ (named_at q.touches q.slices ++ named_at q.lost_touches q.lost)) (p.answered.touches ++ (q.touches ++ q.lost_touches))
  stops-more laws old mid new parts is_there command why n p q =
      laws.points.stops (transcript g old.store.entries (p.commands ++ command ∷ [])) (transcript g mid.store.entries (command ∷ [])) old.around mid.around new.around p.cost n old.disk mid.disk new.disk old.store mid.store old.held mid.held new.held why
      (Advances-more d who g old mid parts is_there p (command ∷ []))
      (Stops-along d who (turn g mid.store.entries command) (transcript g mid.store.entries (command ∷ [])) mid.around new.around n mid.disk new.disk mid.store.entries mid.held new.held why (transcript-one g mid.store.entries command) q)

  -- nothing was begun behind these, for want of a machine
  not-made : (laws : Laws d who) (disk : D) (history : List Record) (held : Option (List ℕ)) (why : Halt) → IsNotMade why → StopsBetween IsRun d disk disk history held held why [] []
  not-made laws disk history held (halt.Differs at) is = laws.halts.nothing disk history held (halt.Differs at) [] (refl, refl)
  not-made laws disk history held halt.NoMemory is = laws.halts.nothing disk history held halt.NoMemory [] (inl refl, inl refl)
  not-made laws disk history held _ is = absurd is

  stops-here : (laws : Laws d who) (old mid new : Standpoint D A) (parts : List Part) (is_there : Bool) (why : Halt) (n : ℕ) (p : HaveAnswers d who g parts is_there old mid) → machine_cost is_there mid.store.entries ≤ n → IsNotBegun why is_there mid new → Stops IsRun d who old.disk new.disk old.store.entries old.held new.held why (transcript g old.store.entries p.commands) old.around new.around (p.cost + n)
  stops-here laws old mid new parts is_there why n p dear b =
      let cheap : new.around.steps ≤ mid.around.steps + n = omega (arith, b.executed, dear) in
      (laws.points.stops (transcript g old.store.entries p.commands) finished old.around mid.around new.around p.cost n old.disk mid.disk new.disk old.store mid.store old.held mid.held new.held why p.answered
      (Stops-finished d who mid.around new.around n mid.disk new.disk mid.store.entries mid.held new.held why b.untouched.disk b.untouched.held b.untouched.choices b.untouched.answers cheap (not-made laws mid.disk mid.store.entries mid.held why b.not_made))).stops

  -- where one of those that were begun needs the machine, the history is that of a run, or of the last one nothing was done
  begun-on-run : (laws : Laws d who) (old mid new : Standpoint D A) (parts : List Part) (is_there : Bool) (command : Command) (why : Halt) (n : ℕ) (p : HaveAnswers d who g parts is_there old mid) → (needs_machine g mid.store.entries command ≡ true → machine_cost is_there mid.store.entries ≤ n) → (needs_machine g mid.store.entries command ≡ true → IsRun mid.store.entries ⊎ IsNotBegun why is_there mid new) → needs_any g old.store.entries (p.commands ++ command ∷ []) ≡ true → IsRun old.store.entries ⊎ Stops IsRun d who old.disk new.disk old.store.entries old.held new.held why (transcript g old.store.entries p.commands) old.around new.around (p.cost + n)
  begun-on-run laws old mid new parts is_there command why n p dear runs needed =
      by_there is_there refl
    where
      by_there : (b : Bool) → is_there ≡ b → IsRun old.store.entries ⊎ Stops IsRun d who old.disk new.disk old.store.entries old.held new.held why (transcript g old.store.entries p.commands) old.around new.around (p.cost + n)
      by_there true is = inl (p.on_run is)
      by_there false is =
          let same : mid.store.entries ≡ old.store.entries = p.unmoved is in
          let either : (needs_any g old.store.entries p.commands || needs_machine g old.store.entries command) ≡ true = sym (needs-push g old.store.entries p.commands command) ∙ needed in
          let one : needs_machine g old.store.entries command ≡ true = subst (λ (b : Bool). (b || needs_machine g old.store.entries command) ≡ true) (sym p.needs ∙ is) either in
          let here : needs_machine g mid.store.entries command ≡ true = subst (λ (x : List Record). needs_machine g x command ≡ true) (sym same) one in
          elim (runs here) [
            | inl run ↦ inl (subst IsRun same run)
            | inr none ↦ inr (stops-here laws old mid new parts is_there why n p (dear here) none)
          ]

  -- the parts that were answered before, and some of the next
  begins_where : (laws : Laws d who) (text : List ℕ) (l : Option (List ℕ)) (old mid new : Standpoint D A) (parts : List Part) (is_there : Bool) (part : Part) (command : Command) (why : Halt) → HaveAnswers d who g parts is_there old mid → Begins text l (parts ++ part ∷ []) → Asks part command → IsHalted d who g is_there why command mid new → (store : StoreState) → BeginsText d who g old (standpoint new.disk store new.held new.around) why text l
  begins_where laws text l old mid new parts is_there part command why p s asks b store =
      let taken : List Picked = named_at b.stops.touches b.stops.slices ++ named_at b.stops.lost_touches b.stops.lost in
      let n = cost_of_turn g is_there mid.store.entries command (turn g mid.store.entries command taken) in
      let q = Stops-dearer d who (turn g mid.store.entries command) mid.around new.around b.beside n mid.disk new.disk mid.store.entries mid.held new.held why b.costs b.stops in
      let stop = stops-more laws old mid new parts is_there command why n p q in
      record {
        is_begun = s.is_begun;
        answered = p.commands;
        next = command ∷ [];
        one_at_most = omega arith;
        each_asks = subst (λ (x : List Part). EachAsks x (p.commands ++ command ∷ [])) (sym s.are) (EachAsks-push parts p.commands part command p.each_asks asks);
        cost = p.cost + n;
        halted = stop.stops;
        costs = costs-more d who g old mid parts is_there command p (named_at stop.stops.touches stop.stops.slices ++ named_at stop.stops.lost_touches stop.stops.lost) taken stop.slices;
        on_run = λ needed. p.on_run (p.needs ∙ needed);
        begun_on_run = begun-on-run laws old mid new parts is_there command why n p (λ needs. omega (arith, ap (λ (x : Bool). if x then machine_cost is_there mid.store.entries else 0) needs)) b.on_run;
      }

  -- a whole part
  begins_whole : (l0 l1 l2 : Option (List ℕ)) (r r' : ReaderState) (is_there : Bool) (old mid : Standpoint D A) (command : Command) (p : Progress d who g l0 l1 r is_there old mid) (read : ReadsMore command r r' l1 l2) → IfSome l0 (λ text. Begins text l2 (p.parts ++ read.part ∷ []))
  begins_whole l0 l1 l2 r r' is_there old mid command p read =
      let begun : List ℕ = p.seen ++ read.bytes in
      let used = Uses-append p.seen read.bytes fresh_reader r r' l0 l1 l2 p.used read.used in
      let parts = parts-more p.seen read.bytes p.parts read.part p.parts_are read.is_whole in
      let wholes = wholes-more p.seen read.bytes p.parts read.part p.wholes_are read.is_whole in
      let all : text_parts begun ≡ p.parts ++ read.part ∷ [] = ap text_parts (sym (append-nil begun)) ∙ parts [] ∙ append-nil (p.parts ++ read.part ∷ []) in
      let whole : whole_parts begun ≡ p.parts ++ read.part ∷ [] = ap whole_parts (sym (append-nil begun)) ∙ wholes [] ∙ append-nil (p.parts ++ read.part ∷ []) in
      IfSome_then l0 (text_used begun [] r' l0 l2 (subst (λ (x : List ℕ). Uses x fresh_reader r' l0 l2) (sym (append-nil begun)) used)) (λ text f. record {
        is_begun = record {
          begun = begun;
          rest = f.0;
          is_text = f.1;
          are_parts = ap text_parts f.1 ∙ parts f.0 ∙ ap (λ (x : List Part). x ++ text_parts f.0) (sym all);
          were_taken = f.2;
          are_whole = inl (whole ∙ sym all);
        };
        are = all;
      })

  -- the last part, which ends with the text
  begins_last : (l0 l1 l2 : Option (List ℕ)) (r r' : ReaderState) (is_there : Bool) (old mid : Standpoint D A) (command : Command) (p : Progress d who g l0 l1 r is_there old mid) (read : ReadsLast command r r' l1 l2) → IfSome l0 (λ text. Begins text l2 (p.parts ++ read.part ∷ []))
  begins_last l0 l1 l2 r r' is_there old mid command p read =
      let begun : List ℕ = p.seen ++ read.bytes in
      let used = Uses-append p.seen read.bytes fresh_reader r r' l0 l1 l2 p.used read.used in
      let parts : text_parts begun ≡ p.parts ++ read.part ∷ [] = p.parts_are read.bytes ∙ ap (λ (x : List Part). p.parts ++ x) read.is_last in
      let short = read.at_end.short in
      IfSome_then l0 (text_taken l0 l2 begun (are_taken begun r' l0 l2 used short.used_up) read.at_end.none_left) (λ text f. record {
        is_begun = record {
          begun = begun;
          rest = [];
          is_text = f.1 ∙ sym (append-nil begun);
          are_parts = ap text_parts f.1 ∙ sym (append-nil (text_parts begun));
          were_taken = subst (λ (o : Option (List ℕ)). IfSome o (λ left. (beyond : List ℕ) × ([] ≡ beyond ++ left))) (sym f.0) ([], refl);
          are_whole = inr (refl, omega (arith, ap length f.1, short.some_room, count_taken begun r' l0 l2 used short.used_up));
        };
        are = parts;
      })

  -- what was answered, where nothing more was done since
  idle : (old mid new : Standpoint D A) (parts : List Part) (is_there : Bool) (n : ℕ) (p : HaveAnswers d who g parts is_there old mid) → IsUntouched mid new → new.around.steps ≤ mid.around.steps + n → (x : Advances who (transcript g old.store.entries p.commands) finished old.around new.around (p.cost + n) (CarriesOut IsRun d old.disk new.disk old.store.entries old.held new.held)) × (named_at x.touches x.slices ≡ named_at p.answered.touches p.answered.slices)
  idle old mid new parts is_there n p same cheap =
      let a = p.answered in (
        record {
          slices = a.slices;
          touches = a.touches;
          effects = a.effects;
          leads = a.leads;
          names = a.names;
          unplugged = a.unplugged;
          begins = a.begins;
          carries =
              subst (λ (x : D). CarriesOut IsRun d old.disk x old.store.entries old.held new.held a.effects) (sym same.disk)
              (subst (λ (x : Option (List ℕ)). CarriesOut IsRun d old.disk mid.disk old.store.entries old.held x a.effects) (sym same.held) a.carries.out);
          picked = PickedBy-same old.around.choices mid.around.choices new.around.choices (asks_in a.touches) a.slices same.choices a.picked;
          in_range = a.in_range;
          touched = subst (λ (x : A). TouchedBy who a.touches a.slices old.around.answers x) (sym same.answers) a.touched;
          executed = omega (arith, a.executed, cheap);
        },
        refl,
      )

  -- a command that needs the machine, on records that aren't those of a run, behind commands that don't need it
  finds_where : (text : List ℕ) (l : Option (List ℕ)) (old mid new : Standpoint D A) (parts : List Part) (is_there : Bool) (part : Part) (command : Command) (at : Differs) → HaveAnswers d who g parts is_there old mid → Begins text l (parts ++ part ∷ []) → Asks part command → FindsNoRun g is_there at command mid new → (store : StoreState) → FindsOut d who g old (standpoint new.disk store new.held new.around) text l
  finds_where text l old mid new parts is_there part command at p s asks b store =
      let same : mid.store.entries ≡ old.store.entries = p.unmoved b.absent in
      let n = rebuild_cost old.store.entries in
      let cheap : new.around.steps ≤ mid.around.steps + n = subst (λ (h : List Record). new.around.steps ≤ mid.around.steps + rebuild_cost h) same (subst (λ (x : Bool). new.around.steps ≤ mid.around.steps + machine_cost x mid.store.entries) b.absent b.not_begun.executed) in
      let all = idle old mid new parts is_there n p b.not_begun.untouched cheap in
      let costs : p.cost ≤ total_cost g old.store.entries p.commands (named_at all.0.touches all.0.slices) =
      subst (λ (x : List Picked). p.cost ≤ total_cost g old.store.entries p.commands x) (append-nil (named_at p.answered.touches p.answered.slices) ∙ sym all.1) (p.costs []) in
      record {
        is_begun = s.is_begun;
        answered = p.commands;
        next = command;
        each_asks = subst (λ (x : List Part). EachAsks x (p.commands ++ command ∷ [])) (sym s.are) (EachAsks-push parts p.commands part command p.each_asks asks);
        needless = sym p.needs ∙ b.absent;
        needs = subst (λ (h : List Record). needs_machine g h command ≡ true) same b.needs;
        cost = p.cost + n;
        done = all.0;
        costs = omega (arith, costs);
      }

module _ {D A : Type 0} {d : Ghosts D} {who : Answering A} {g : Given} where
  -- where a command halted behind others, effects stopped somewhere
  pub stops-all : {parts : List Part} {is_there : Bool} {old mid new : Standpoint D A} {command : Command} {why : Halt} (laws : Laws d who) → HaveAnswers d who g parts is_there old mid → IsHalted d who g is_there why command mid new → (effects : List Effect) × StopsAt IsRun d old.disk new.disk old.store.entries old.held new.held why [] effects
  stops-all {parts = parts} {is_there = is_there} {old = old} {mid = mid} {new = new} {command = command} {why = why} laws p b =
      let stop = (stops-more d who g laws old mid new parts is_there command why b.beside p b.stops).stops in
      (stop.done ++ stop.undone, laws.halts.all old.disk new.disk old.store.entries old.held new.held why stop.done stop.undone stop.stopped)

  pub BeginsText-whole : {l0 l1 l2 : Option (List ℕ)} {r r' : ReaderState} {is_there : Bool} {old mid new : Standpoint D A} {command : Command} {why : Halt} (laws : Laws d who) → Progress d who g l0 l1 r is_there old mid → ReadsMore command r r' l1 l2 → IsHalted d who g is_there why command mid new → IfSome l0 (λ text. (store : StoreState) → BeginsText d who g old (standpoint new.disk store new.held new.around) why text l2)
  BeginsText-whole {l0 = l0} {l1 = l1} {l2 = l2} {r = r} {r' = r'} {is_there = is_there} {old = old} {mid = mid} {new = new} {command = command} {why = why} laws p read b =
      IfSome_then l0 (begins_whole d who g l0 l1 l2 r r' is_there old mid command p read) (λ text s. begins_where d who g laws text l2 old mid new p.parts is_there read.part command why p.answers s read.asks b)

  pub BeginsText-last : {l0 l1 l2 : Option (List ℕ)} {r r' : ReaderState} {is_there : Bool} {old mid new : Standpoint D A} {command : Command} {why : Halt} (laws : Laws d who) → Progress d who g l0 l1 r is_there old mid → ReadsLast command r r' l1 l2 → IsHalted d who g is_there why command mid new → IfSome l0 (λ text. (store : StoreState) → BeginsText d who g old (standpoint new.disk store new.held new.around) why text l2)
  BeginsText-last {l0 = l0} {l1 = l1} {l2 = l2} {r = r} {r' = r'} {is_there = is_there} {old = old} {mid = mid} {new = new} {command = command} {why = why} laws p read b =
      IfSome_then l0 (begins_last d who g l0 l1 l2 r r' is_there old mid command p read) (λ text s. begins_where d who g laws text l2 old mid new p.parts is_there read.part command why p.answers s read.asks b)

  -- the parts that were answered before, where nothing of the next one was
  pub BeginsText-before : {l0 l1 l2 : Option (List ℕ)} {r r' : ReaderState} {is_there : Bool} {old now : Standpoint D A} (laws : Laws d who) (why : Halt) → IsNotMade why → Progress d who g l0 l1 r is_there old now → UsesSome r r' l1 l2 → IfSome l0 (λ text. (store : StoreState) → BeginsText d who g old (standpoint now.disk store now.held now.around) why text l2)
  BeginsText-before {l0 = l0} {l1 = l1} {l2 = l2} {r = r} {r' = r'} {is_there = is_there} {old = old} {now = now} laws why is p more =
      let commands : List Command = p.answers.commands in
      let used = Uses-append p.seen more.bytes fresh_reader r r' l0 l1 l2 p.used more.used in
      let parts : text_parts p.seen ≡ p.parts = ap text_parts (sym (append-nil p.seen)) ∙ p.parts_are [] ∙ append-nil p.parts in
      let wholes : whole_parts p.seen ≡ p.parts = ap whole_parts (sym (append-nil p.seen)) ∙ p.wholes_are [] ∙ append-nil p.parts in
      let none : commands ≡ commands ++ [] = sym (append-nil commands) in
      let stop = laws.points.stops (transcript g old.store.entries (commands ++ [])) finished old.around now.around now.around p.answers.cost 0 old.disk now.disk now.disk old.store now.store old.held now.held now.held why
      (Advances-more d who g old now p.parts is_there p.answers [])
      (Stops-finished d who now.around now.around 0 now.disk now.disk now.store.entries now.held now.held why refl refl (λ k. refl) refl (omega arith) (not-made d who g laws now.disk now.store.entries now.held why is)) in
      let taken = named_at stop.stops.touches stop.stops.slices ++ named_at stop.stops.lost_touches stop.stops.lost in
      let costs : p.answers.cost ≤ total_cost g old.store.entries (commands ++ []) taken =
      subst (λ (x : List Picked). p.answers.cost ≤ total_cost g old.store.entries (commands ++ []) x) (sym stop.slices)
      (subst (λ (c : List Command). p.answers.cost ≤ total_cost g old.store.entries c (named_at p.answers.answered.touches p.answers.answered.slices ++ [])) none (p.answers.costs [])) in
      IfSome_then l0 (text_used p.seen more.bytes r' l0 l2 used) (λ text f store. record {
        is_begun = record {
          begun = p.seen;
          rest = f.0;
          is_text = f.1;
          are_parts = ap text_parts f.1 ∙ p.parts_are f.0 ∙ ap (λ (x : List Part). x ++ text_parts f.0) (sym parts);
          were_taken = f.2;
          are_whole = inl (wholes ∙ sym parts);
        };
        answered = commands;
        next = [];
        one_at_most = omega arith;
        each_asks = subst (λ (x : List Command). EachAsks (text_parts p.seen) x) none (subst (λ (x : List Part). EachAsks x commands) (sym parts) p.answers.each_asks);
        cost = p.answers.cost + 0;
        halted = stop.stops;
        costs = omega (arith, costs);
        on_run = λ needed. p.answers.on_run (p.answers.needs ∙ needed);
        begun_on_run = λ needed. inl (p.answers.on_run (p.answers.needs ∙ ap (needs_any g old.store.entries) none ∙ needed));
      })

  pub FindsOut-whole : {l0 l1 l2 : Option (List ℕ)} {r r' : ReaderState} {is_there : Bool} {old mid new : Standpoint D A} {command : Command} {at : Differs} → Progress d who g l0 l1 r is_there old mid → ReadsMore command r r' l1 l2 → FindsNoRun g is_there at command mid new → IfSome l0 (λ text. (store : StoreState) → FindsOut d who g old (standpoint new.disk store new.held new.around) text l2)
  FindsOut-whole {l0 = l0} {l1 = l1} {l2 = l2} {r = r} {r' = r'} {is_there = is_there} {old = old} {mid = mid} {new = new} {command = command} {at = at} p read b =
      IfSome_then l0 (begins_whole d who g l0 l1 l2 r r' is_there old mid command p read) (λ text s. finds_where d who g text l2 old mid new p.parts is_there read.part command at p.answers s read.asks b)

  pub FindsOut-last : {l0 l1 l2 : Option (List ℕ)} {r r' : ReaderState} {is_there : Bool} {old mid new : Standpoint D A} {command : Command} {at : Differs} → Progress d who g l0 l1 r is_there old mid → ReadsLast command r r' l1 l2 → FindsNoRun g is_there at command mid new → IfSome l0 (λ text. (store : StoreState) → FindsOut d who g old (standpoint new.disk store new.held new.around) text l2)
  FindsOut-last {l0 = l0} {l1 = l1} {l2 = l2} {r = r} {r' = r'} {is_there = is_there} {old = old} {mid = mid} {new = new} {command = command} {at = at} p read b =
      IfSome_then l0 (begins_last d who g l0 l1 l2 r r' is_there old mid command p read) (λ text s. finds_where d who g text l2 old mid new p.parts is_there read.part command at p.answers s read.asks b)

  -- the records of the beginning are those that are blamed
  pub blames-first : {parts : List Part} {is_there : Bool} {old mid new : Standpoint D A} {command : Command} {at : Differs} → HaveAnswers d who g parts is_there old mid → FindsNoRun g is_there at command mid new → IsNoRun old.store.entries at
  blames-first {at = at} p b = subst (λ (h : List Record). IsNoRun h at) (p.unmoved b.absent) b.is_no_run

-- nothing was read
pub BeginsText-none : {D A : Type 0} {d : Ghosts D} {who : Answering A} (g : Given) (left : Option (List ℕ)) (now : Standpoint D A) (laws : Laws d who) (why : Halt) → IsNotMade why → StandAs who g.filled now.store.entries now.around.answers → IsOpen d now.store now.disk → IfSome left (λ text. (store : StoreState) → BeginsText d who g now (standpoint now.disk store now.held now.around) why text left)
BeginsText-none {d = d} {who = who} g left now laws why is stands open_now =
    BeginsText-before {g = g} {l0 = left} {l1 = left} {l2 = left} {r = fresh_reader} {r' = fresh_reader} {is_there = false} {old = now} {now = now} laws why is (Progress-start laws stands open_now) (record { bytes = []; used = Uses-none fresh_reader left })
