-- Points from which a session goes on where instructions were executed before it.
use Rattle.std.proofs.Common.{◌≡◌, inl, ℕ, ◌+◌, ◌≤◌, ◌++◌, Bool, true, List, [], Option, Some, None, IfSome, Result, Ok, Err, OnOk, IfErr, IsErrAnd, refl, sym, ap, ◌∙◌, subst, take, length, length-append, add-zero, arith, ◌||◌, is_some}
use Rattle.std.proofs.Math.Seq.{take-append_seam}
use Rattle.arn_base.specs.declared.boxes.Choice.{Choice}
use Rattle.arn_base.specs.declared.disk.Disk.{Ghosts}
use Rattle.arn_base.specs.declared.records.Record.{Record}
use Rattle.log_model.specs.Records.{IsRun}
use Rattle.log_store.specs.Stores.{StoreState}
use Rattle.guest_machine.specs.Recorded.{Recorded}
use Rattle.arn_commands.specs.declared.command.Command.TheVariants.{Says}
use Rattle.arn_lines.specs.declared.line.Line.{Line}
use Rattle.session_effects.specs.Laws.{EffectsFollow, HaltsFollow}
use Rattle.session_effects.specs.Standing.{Carries, IsOpen}
use Rattle.session_effects.specs.declared.halt.Halt.{Halt}
use Rattle.session_effects.specs.declared.halt.Halt.TheVariants as halt
use Rattle.session_runs.specs.Laws.{PointsFollow}
use Rattle.session_runs.specs.Points.{Advances, Stops, Surroundings, around}
use Rattle.session_runs.specs.Ready.{IsReady}
use Rattle.session_runs.specs.Touches.{Answering}
use Rattle.session_runs.specs.Turns.{Point, finished}
use Rattle.session_commands.specs.Answering.{IsAnswered, IsHalted}
use Rattle.session_runs.specs.Standing.{standpoint}
use Rattle.session_commands.specs.Cost.{cost, machine_cost}
use Rattle.session_commands.specs.Given.{Given}
use Rattle.session_commands.specs.Kept.{IsSound, IsThere}
use Rattle.session_commands.specs.Lines.{turn}
use Rattle.session_commands.specs.Rows.{row_of}
use Rattle.session_commands.proofs.LineLemmas.{cost-changed, cost-machine, still-finished, turn-line}
use Rattle.session_commands.proofs.TurnLemmas.{Advances-nothing, Stops-nothing}
use Rattle.session_commands.proofs.AnswerLemmas.{or-true}

-- what was executed before is part of the cost
module _ {D A : Type 0} (d : Ghosts D) (who : Answering A) (laws : EffectsFollow IsRun d) (points : PointsFollow IsRun d who) (choices : ℕ → Option Choice) (answers : A) (disk : D) (store : StoreState) (held : Option (List ℕ)) (open_now : IsOpen d store disk) (from to : Point) (is : from ≡ to) (steps mid beside : ℕ) (cheap : mid ≤ steps + beside) where
  made : Advances who from to (around choices answers steps) (around choices answers mid) beside (Carries IsRun d disk disk store store held held)
  made = Advances-nothing IsRun d who laws choices answers disk store held from to steps mid beside is open_now cheap

  pub Advances-later : (end : Point) (new : Surroundings A) (disk' : D) (store' : StoreState) (holds : Option (List ℕ)) → Advances who to end (around choices answers mid) new 0 (Carries IsRun d disk disk' store store' held holds) → Advances who from end (around choices answers steps) new beside (Carries IsRun d disk disk' store store' held holds)
  Advances-later end new disk' store' holds p =
      subst (λ (n : ℕ). Advances who from end (around choices answers steps) new n (Carries IsRun d disk disk' store store' held holds)) (add-zero beside)
      (points.advances from to end (around choices answers steps) (around choices answers mid) new beside 0 disk disk disk' store store store' held held holds made p).advances

  pub Stops-later : (disk' : D) (holds : Option (List ℕ)) (why : Halt) (new : Surroundings A) → Stops IsRun d who disk disk' store.entries held holds why to (around choices answers mid) new 0 → Stops IsRun d who disk disk' store.entries held holds why from (around choices answers steps) new beside
  Stops-later disk' holds why new q =
      subst (λ (n : ℕ). Stops IsRun d who disk disk' store.entries held holds why from (around choices answers steps) new n) (add-zero beside)
      (points.stops from to (around choices answers steps) (around choices answers mid) new beside 0 disk disk disk' store store held held holds why made q).stops

-- memory ran out where all was carried out
module _ {D A : Type 0} (is_run : List Record → Type 0) (d : Ghosts D) (who : Answering A) (halts : HaltsFollow is_run d) (points : PointsFollow is_run d who) where
  pub Stops-last : (from : Point) (u : Surroundings A) (choices : ℕ → Option Choice) (answers : A) (steps : ℕ) (old new : D) (s0 s1 : StoreState) (h0 h1 : Option (List ℕ)) → Advances who from finished u (around choices answers steps) 0 (Carries is_run d old new s0 s1 h0 h1) → Stops is_run d who old new s0.entries h0 h1 halt.NoMemory from u (around choices answers steps) 0
  Stops-last from u choices answers steps old new s0 s1 h0 h1 p =
      (points.stops from finished u (around choices answers steps) (around choices answers steps) 0 0 old new new s0 s1 h0 h1 h1 halt.NoMemory p
      (Stops-nothing is_run d who halts choices answers new s1.entries h1 halt.NoMemory finished steps steps 0 still-finished (inl refl)
      (halts.nothing new s1.entries h1 halt.NoMemory [] (inl refl, inl refl)) (omega arith))).stops

-- the records from before are the first of those that are there now
pub take-known : (old new : List Record) (more : List Record) → new ≡ old ++ more → take (length old) new ≡ old
take-known old new more is = ap (take (length old)) is ∙ take-append_seam old more

pub few-known : (old new : List Record) (more : List Record) → new ≡ old ++ more → length old ≤ length new
few-known old new more is = omega (arith, ap (λ (x : List Record). length x) is, length-append old more)

-- what holds of an error holds of the result that is this error
pub err-same : {T : Type 0} (result : Result T Halt) (why : Halt) (P : Halt → Type 0) → IsErrAnd result (λ halt. halt ≡ why) → P why → IfErr result P
err-same (Ok x) why P is p = tt
err-same (Err halt) why P is p = subst P (sym is) p

-- the machine is there where one was needed
pub some-there : (o : Option Recorded) (b n : Bool) → is_some o ≡ true → n ≡ true → is_some o ≡ (b || n)
some-there o b n some needs = some ∙ or-true b n needs

-- a machine that is there belongs to the records of a run
pub there-some : (o : Option Recorded) (history : List Record) → IsThere o history → is_some o ≡ true
there-some None history there = absurd there
there-some (Some m) history there = refl

pub there-ready : (o : Option Recorded) (history : List Record) → IsThere o history → IfSome o (λ r. IsReady r history)
there-ready None history there = tt
there-ready (Some m) history there = there

pub there-run : (o : Option Recorded) (history : List Record) → IsThere o history → IsRun history
there-run None history there = absurd there
there-run (Some m) history there = there.is_run

-- what is kept is sound where the machine is there
pub sound-there : {Q : Type 0} (knows : Q → List Record → Type 0) (m m' : Option Recorded) (q : Q) (s s' : StoreState) → IsThere m s.entries → m' ≡ m → s' ≡ s → knows q s.entries → IsSound knows m' q s'.entries
sound-there knows m m' q s s' there same_machine same_store known =
    subst (λ (x : StoreState). IsSound knows m' q x.entries) (sym same_store)
    (record {
      machine = subst (λ (o : Option Recorded). IfSome o (λ r. IsReady r s.entries)) (sym same_machine) (there-ready m s.entries there);
      questions = known;
    })

-- what holds of each where a call succeeded holds of all
pub OnOk-each : {T A : Type 0} (P : A → Type 0) (result : Result T Halt) → ((a : A) → OnOk result (P a)) → OnOk result ((a : A) → P a)
OnOk-each P (Ok x) each = each
OnOk-each P (Err e) each = tt

-- what is kept stays sound where a question was answered
pub sound-asked : {Q : Type 0} (knows : Q → List Record → Type 0) (m m' : Option Recorded) (q q' : Q) (s s' : StoreState) → IsSound knows m q s.entries → m' ≡ m → s' ≡ s → knows q' s.entries → IsSound knows m' q' s'.entries
sound-asked knows m m' q q' s s' sound same_machine same_store known =
    subst (λ (x : StoreState). IsSound knows m' q' x.entries) (sym same_store)
    (record {
      machine = subst (λ (o : Option Recorded). IfSome o (λ r. IsReady r s.entries)) (sym same_machine) sound.machine;
      questions = known;
    })

module _ {D A : Type 0} (d : Ghosts D) (who : Answering A) (g : Given) (is_there : Bool) (l : Line) (store : StoreState) (needs : (row_of g store.entries l).needs_machine ≡ true) (accepted : (row_of g store.entries l).refusal ≡ None) where
  -- a change was carried out
  pub answered-change : {T : Type 0} (result : Result T Halt) (disk disk' : D) (store' : StoreState) (h0 h1 : Option (List ℕ)) (old new : Surroundings A) → OnOk result (IsRun store.entries) → OnOk result (Advances who (row_of g store.entries l).turn finished old new (machine_cost is_there store.entries) (Carries IsRun d disk disk' store store' h0 h1)) → OnOk result (IsAnswered d who g is_there (Says l) (standpoint disk store h0 old) (standpoint disk' store' h1 new))
  answered-change (Ok x) disk disk' store' h0 h1 old new is_run p = record {
    advances =
        subst (λ (from : Point). Advances who from finished old new (cost g is_there store.entries store'.entries (Says l)) (Carries IsRun d disk disk' store store' h0 h1)) (sym (turn-line g store.entries l accepted))
        (subst (λ (n : ℕ). Advances who (row_of g store.entries l).turn finished old new n (Carries IsRun d disk disk' store store' h0 h1)) (cost-changed g is_there store.entries store'.entries l needs accepted) p);
    on_run = λ needed. is_run;
  }
  answered-change (Err e) disk disk' store' h0 h1 old new is_run p = tt

-- the same behind the machine that was made or was there
module _ {D A : Type 0} (d : Ghosts D) (who : Answering A) (g : Given) (is_there : Bool) (l : Line) (store : StoreState) (needs : (row_of g store.entries l).needs_machine ≡ true) (accepted : (row_of g store.entries l).refusal ≡ None) (laws : EffectsFollow IsRun d) (halts : HaltsFollow IsRun d) (points : PointsFollow IsRun d who) (choices : ℕ → Option Choice) (answers : A) (steps mid : ℕ) (cheap : mid ≤ steps + machine_cost is_there store.entries) (disk : D) (h0 : Option (List ℕ)) (open_now : IsOpen d store disk) (is_run : IsRun store.entries) (there : StoreState) (same : there ≡ store) where
  -- it was carried out
  pub advances-changed : (disk' : D) (store' behind : StoreState) (h1 : Option (List ℕ)) (new : Surroundings A) → behind ≡ store' → Advances who (row_of g there.entries l).turn finished (around choices answers mid) new 0 (Carries IsRun d disk disk' there store' h0 h1) → Advances who (row_of g store.entries l).turn finished (around choices answers steps) new (machine_cost is_there store.entries) (Carries IsRun d disk disk' store behind h0 h1)
  advances-changed disk' store' behind h1 new same_behind p =
      Advances-later d who laws points choices answers disk store h0 open_now (row_of g store.entries l).turn (row_of g store.entries l).turn refl steps mid (machine_cost is_there store.entries) cheap finished new disk' behind h1
      (subst (λ (s : StoreState). Advances who (row_of g store.entries l).turn finished (around choices answers mid) new 0 (Carries IsRun d disk disk' store s h0 h1)) (sym same_behind)
      (subst (λ (s : StoreState). Advances who (row_of g s.entries l).turn finished (around choices answers mid) new 0 (Carries IsRun d disk disk' s store' h0 h1)) same p))

  -- it halted somewhere
  pub halted-changed : (disk' : D) (store' : StoreState) (h1 : Option (List ℕ)) (why : Halt) (new : Surroundings A) → Stops IsRun d who disk disk' there.entries h0 h1 why (row_of g there.entries l).turn (around choices answers mid) new 0 → IsHalted d who g is_there why (Says l) (standpoint disk store h0 (around choices answers steps)) (standpoint disk' store' h1 new)
  halted-changed disk' store' h1 why new q = record {
    beside = machine_cost is_there store.entries;
    stops =
        Stops-later d who laws points choices answers disk store h0 open_now (turn g store.entries (Says l)) (row_of g store.entries l).turn (turn-line g store.entries l accepted) steps mid (machine_cost is_there store.entries) cheap disk' h1 why new
        (subst (λ (s : StoreState). Stops IsRun d who disk disk' s.entries h0 h1 why (row_of g s.entries l).turn (around choices answers mid) new 0) same q);
    costs = cost-machine g is_there store.entries store.entries l needs accepted;
    on_run = λ needed. inl is_run;
  }

  -- memory ran out behind all of it
  pub halted-unheard : (disk' : D) (store' behind : StoreState) (h1 : Option (List ℕ)) (choices' : ℕ → Option Choice) (answers' : A) (steps' : ℕ) → Advances who (row_of g there.entries l).turn finished (around choices answers mid) (around choices' answers' steps') 0 (Carries IsRun d disk disk' there store' h0 h1) → IsHalted d who g is_there halt.NoMemory (Says l) (standpoint disk store h0 (around choices answers steps)) (standpoint disk' behind h1 (around choices' answers' steps'))
  halted-unheard disk' store' behind h1 choices' answers' steps' p =
      halted-changed disk' behind h1 halt.NoMemory (around choices' answers' steps')
      (Stops-last IsRun d who halts points (row_of g there.entries l).turn (around choices answers mid) choices' answers' steps' disk disk' there store' h0 h1 p)

-- what questions know of the records from before
pub heard-before : (Q : Type 0) (knows : Q → List Record → Type 0) (q q' : Q) (store there new : StoreState) (before entries more : List Record) (known : ℕ) → knows q store.entries → q' ≡ q → there ≡ store → before ≡ there.entries → known ≡ length before → entries ≡ new.entries → new.entries ≡ there.entries ++ more → knows q' (take known entries)
heard-before Q knows q q' store there new before entries more known knew same_q same_store are_before is_known are_entries is_more =
    let e : take known entries ≡ there.entries =
    ap (λ (n : ℕ). take n entries) (is_known ∙ ap (λ (x : List Record). length x) are_before)
    ∙ ap (λ (x : List Record). take (length there.entries) x) are_entries
    ∙ take-known there.entries new.entries more is_more in
    subst (λ (x : Q). knows x (take known entries)) (sym same_q)
    (subst (knows q) (sym e) (subst (λ (s : StoreState). knows q s.entries) (sym same_store) knew))
