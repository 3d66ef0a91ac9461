-- A leg from the machine of a history: what it did, and where it stopped.
use Rattle.std.proofs.Common.{◌≡◌, ◌⊎◌, inl, inr, ℕ, ◌+◌, ◌≤◌, ◌++◌, List, [], ◌∷◌, length, map, filter_map, Some, None, refl, sym, ap, ◌∙◌, subst, arith}
use Rattle.arn_base.specs.declared.records.Record.{Record}
use Rattle.arn_model.specs.Kernel.{Machine, at_first}
use Rattle.arn_model.specs.Laws.{EachRunAppends}
use Rattle.arn_model.specs.Run.{Input, instructions_in, machine_after, steps_from}
use Rattle.arn_model.specs.Turn.{run_state}
use Rattle.history_model.specs.Unplugged.{unplugged_in}
use Rattle.log_model.specs.Laws.{NamedAppend, RecordsAreRun, RecordsBegin}
use Rattle.log_model.specs.Records.{IsRun, named, records, records_from, reply_behind}
use Rattle.guest_legs.specs.declared.leg.LegEnd.{LegEnd}
use Rattle.guest_machine.specs.Laws.{NamedFollow, RecordsFollow, RunsFollow}
use Rattle.guest_legs.specs.LegLaws.{SameAsNamed, named_by}
use Rattle.guest_legs.specs.Legs.{Ask, AreInRange, Going, Picked, PickedBy, StaysOpen, asks_by, end_of, fresh, going_by, input_of}
use Rattle.guest_machine.specs.Legs.{RepliedBy}
use Rattle.guest_machine.specs.Recorded.{IsAfter, Recorded, Runs}
use Rattle.session_effects.specs.Carrying.{IsAtCommit}
use Rattle.session_effects.specs.Effects.{Effect, Commits, Prints}
use Rattle.session_runs.specs.Points.{Advances, EndsWithin, Surroundings, slice_in, slices_cost, slices_in}
use Rattle.session_runs.specs.Ready.{IsReady, machine_of}
use Rattle.session_runs.specs.Runs.{begun, leg_effects, run_from}
use Rattle.session_runs.specs.Touches.{Answering, named_at}
use Rattle.session_runs.specs.Turns.{Turn, behind}
use Rattle.session_runs.proofs.NamedLemmas.{slices-inputs}
use Rattle.session_runs.proofs.TouchLemmas.{asks-at, at-unplugs, at_slices, named-at, touched-at, unplugged-slices}
use Rattle.session_runs.proofs.RunLemmas.{going-cost, going-entries, going-machine, leg-committed, leg-leads, open-parts, run_from-cut}

-- a machine still belongs to a history after more inputs, with their records
pub ready-more : NamedFollow → RecordsFollow → RunsFollow → RecordsAreRun → (r r' : Recorded) (history : List Record) (more : List Input) (out out' : List Record) → IsReady r history → Runs (machine_of history) more r r' out out' → IsReady r' (history ++ records_from (machine_of history) more)
ready-more named_follow records_follow runs_follow are_run r r' history more out out' ready runs =
    let inputs : List Input = named history in
    let put : Runs (machine_after inputs) more r r' history (history ++ records_from (machine_of history) more) = record { leads = runs.leads; counted = runs.counted; recorded = refl } in
    let same : records (inputs ++ more) ≡ history ++ records_from (machine_of history) more = records_follow r r' inputs more history (history ++ records_from (machine_of history) more) (sym ready.is_run) put in
    record {
      is_after = subst (λ (x : List Record). IsAfter r' (named x)) same (named_follow r' (inputs ++ more) (runs_follow r r' inputs more history (history ++ records_from (machine_of history) more) ready.is_after put));
      is_run = subst IsRun same (are_run (inputs ++ more));
    }

-- the same, where they were recorded behind nothing
pub ready-recorded : NamedFollow → RecordsFollow → RunsFollow → RecordsAreRun → (r r' : Recorded) (history : List Record) (more : List Input) (out out' : List Record) → IsReady r history → Runs (machine_of history) more r r' out out' → out ≡ [] → IsReady r' (history ++ out')
ready-recorded named_follow records_follow runs_follow are_run r r' history more out out' ready runs none =
    subst (λ (x : List Record). IsReady r' (history ++ x)) (sym (runs.recorded ∙ ap (λ (x : List Record). x ++ records_from (machine_of history) more) none))
    (ready-more named_follow records_follow runs_follow are_run r r' history more out out' ready runs)

-- the records of a leg that were put into an empty list
pub entries-are : (m : Machine) (left : ℕ) (slices : List Picked) (r r' : Recorded) (out out' : List Record) → out ≡ [] → Runs m (map input_of slices) r r' out out' → out' ≡ (going_by (fresh m left) slices).entries
entries-are m left slices r r' out out' none runs =
    runs.recorded ∙ ap (λ (x : List Record). x ++ records_from m (map input_of slices)) none ∙ sym (going-entries (fresh m left) slices)

-- the machine behind a leg is that of the history with its records
pub machine-behind : NamedAppend → RecordsBegin → EachRunAppends → (history : List Record) (left : ℕ) (slices : List Picked) → SameAsNamed (fresh (machine_of history) left) slices → machine_of (history ++ (going_by (fresh (machine_of history) left) slices).entries) ≡ (going_by (fresh (machine_of history) left) slices).machine
machine-behind names begin append history left slices same =
    let m = machine_of history in
    let nd = named_by (fresh m left) slices in
    let entries = records_from m (map input_of slices) in
    ap (λ (x : List Record). machine_of (history ++ x)) (going-entries (fresh m left) slices)
    ∙ ap machine_after (names history entries (begin m (map input_of slices)) ∙ ap (λ (x : List Input). named history ++ x) same.names)
    ∙ (append at_first (named history) (map input_of nd)).machine
    ∙ sym (going-machine (fresh m left) nd)
    ∙ ap (λ (g : Going). g.machine) same.leads

-- what a leg's records name
pub names-leg : (first : ℕ) (m : Machine) (left : ℕ) (slices : List Picked) → SameAsNamed (fresh m left) slices → slices_in (going_by (fresh m left) slices).entries ≡ named_by (fresh m left) slices
names-leg first m left slices same =
    ap slices_in (going-entries (fresh m left) slices) ∙ ap (λ (x : List Input). filter_map slice_in x) same.names ∙ slices-inputs (named_by (fresh m left) slices)

-- they unplug nothing
pub unplugs-leg : (m : Machine) (left : ℕ) (slices : List Picked) → SameAsNamed (fresh m left) slices → unplugged_in (going_by (fresh m left) slices).entries ≡ []
unplugs-leg m left slices same =
    ap unplugged_in (going-entries (fresh m left) slices) ∙ unplugged-slices (records_from m (map input_of slices)) (named_by (fresh m left) slices) same.names

pub begins-leg : RecordsBegin → (m : Machine) (left : ℕ) (slices : List Picked) → reply_behind (going_by (fresh m left) slices).entries ≡ None
begins-leg begin m left slices = ap reply_behind (going-entries (fresh m left) slices) ∙ begin m (map input_of slices)

-- a leg as the log names it
pub lead-named : (budget : ℕ) (m : Machine) (left : ℕ) (slices rest : List Picked) (end : LegEnd) → SameAsNamed (fresh m left) slices → StaysOpen (fresh m left) slices → end_of (going_by (fresh m left) slices) ≡ Some end
    → let g = going_by (fresh m left) slices in run_from budget (begun m left) (named_by (fresh m left) slices ++ rest) ≡ behind (leg_effects m.events g.entries) (at_slices (asks_by (fresh m left) slices)) (run_from budget (begun g.machine g.left) rest)
lead-named budget m left slices rest end same opens closed =
    let nd = named_by (fresh m left) slices in
    leg-leads budget m left nd rest end (same.open_before opens) (ap end_of same.leads ∙ closed)
    ∙ ap (λ (g : Going). behind (leg_effects m.events g.entries) (at_slices (asks_by (fresh m left) nd)) (run_from budget (begun g.machine g.left) rest)) same.leads
    ∙ ap (λ (a : List Ask). behind (leg_effects m.events (going_by (fresh m left) slices).entries) (at_slices a) (run_from budget (begun (going_by (fresh m left) slices).machine (going_by (fresh m left) slices).left) rest)) same.asks

-- a leg was committed and printed
pub Advances-leg : {A : Type 0} (who : Answering A) (budget : ℕ) (m m' : Machine) (left left' : ℕ) (slices : List Picked) (end : LegEnd) (old new : Surroundings A) (carried : List Effect → Type 0) → RecordsBegin → SameAsNamed (fresh m left) slices → StaysOpen (fresh m left) slices → end_of (going_by (fresh m left) slices) ≡ Some end → m' ≡ (going_by (fresh m left) slices).machine → left' ≡ (going_by (fresh m left) slices).left
    → PickedBy old.choices new.choices (asks_by (fresh m left) slices) slices → AreInRange (asks_by (fresh m left) slices) slices → RepliedBy who.answers (asks_by (fresh m left) slices) slices old.answers new.answers → new.steps ≤ old.steps + (instructions_in (steps_from m (map input_of slices)) + length slices) → carried (leg_effects m.events (going_by (fresh m left) slices).entries) → Advances who (run_from budget (begun m left)) (run_from budget (begun m' left')) old new 0 carried
Advances-leg who budget m m' left left' slices end old new carried begin same opens closed is is_left picked in_range replied executed carries =
    let g = going_by (fresh m left) slices in
    let asks = asks_by (fresh m left) slices in
    let touches = at_slices asks in
    let same_named : named_at touches slices ≡ named_by (fresh m left) slices = named-at asks slices in
    record {
      slices = slices;
      touches = touches;
      effects = leg_effects m.events g.entries;
      leads = λ rest.
          ap (λ (x : List Picked). run_from budget (begun m left) (x ++ rest)) same_named
          ∙ lead-named budget m left slices rest end same opens closed
          ∙ ap (λ (x : Machine). behind (leg_effects m.events g.entries) touches (run_from budget (begun x g.left) rest)) (sym is)
          ∙ ap (λ (x : ℕ). behind (leg_effects m.events g.entries) touches (run_from budget (begun m' x) rest)) (sym is_left);
      names = ap slices_in (leg-committed m.events g.entries) ∙ names-leg m.events m left slices same ∙ sym same_named;
      unplugged = ap unplugged_in (leg-committed m.events g.entries) ∙ unplugs-leg m left slices same ∙ sym (at-unplugs asks);
      begins = ap reply_behind (leg-committed m.events g.entries) ∙ begins-leg begin m left slices;
      carries = carries;
      picked = subst (λ (x : List Ask). PickedBy old.choices new.choices x slices) (sym (asks-at asks)) picked;
      in_range = subst (λ (x : List Ask). AreInRange x slices) (sym (asks-at asks)) in_range;
      touched = touched-at who asks slices old.answers new.answers replied;
      executed = omega (arith, executed, going-cost (fresh m left) slices, ap slices_cost same_named);
    }

-- without slices a run that begins with some stops at once
pub cut-alone : (budget : ℕ) (m : Machine) (left : ℕ) (slices : List Picked) → StaysOpen (fresh m left) slices → (slices ≡ []) ⊎ EndsWithin [] (run_from budget (begun m left) [])
cut-alone budget m left [] opens = inl refl
cut-alone budget m left (s ∷ slices) opens =
    let cut = run_from-cut budget (begun m left) (open-parts (run_state m) left 0 opens.0).0 in
    inr (record { effects = ap (λ (t : Turn). t.effects) cut; left = ap (λ (t : Turn). t.left) cut })

-- the commit that stands first
pub first-commit : (entries others : List Record) (more : List Effect) → IsAtCommit (Commits entries ∷ more) others → others ≡ entries
first-commit entries others more at = same entries others more at.more at.is_commit
  where
    same : (xs ys : List Record) (more more' : List Effect) → Commits xs ∷ more ≡ Commits ys ∷ more' → ys ≡ xs
    same xs ys more more' is = cc

pub no-commit : (text : List ℕ) (others : List Record) (more : List Effect) → IsAtCommit (Prints text ∷ more) others → ⊥
no-commit text others more at = clash text others more at.more at.is_commit
  where
    clash : (text : List ℕ) (others : List Record) (more more' : List Effect) → Prints text ∷ more ≡ Commits others ∷ more' → ⊥
    clash text others more more' is = cc

pub none-next : (others : List Record) → IsAtCommit [] others → ⊥
none-next others at = clash at.more at.is_commit
  where
    clash : (more : List Effect) → [] ≡ Commits others ∷ more → ⊥
    clash more is = cc
