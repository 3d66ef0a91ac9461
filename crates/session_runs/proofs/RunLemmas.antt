-- A run: its slices, and the legs that end.
use Rattle.std.proofs.Common.{◌≡◌, ◌⊎◌, inl, inr, ℕ, zero, suc, ◌+◌, ◌<◌, ◌++◌, nat_le, Bool, true, false, if◌then◌else◌, List, [], ◌∷◌, length, map, Option, Some, None, refl, sym, ap, ◌∙◌, append_assoc, append-nil, arith, cond}
use Rattle.std.proofs.lemmas.List.Sums.{sum_by-append, sum_by-cons}
use Rattle.arn_base.specs.declared.records.Record.{Record}
use Rattle.acts_model.specs.Moved.{is_instruction}
use Rattle.arn_model.specs.declared.run_state.RunState.{RunState}
use Rattle.arn_model.specs.declared.run_state.RunState.TheVariants as state
use Rattle.arn_model.specs.Kernel.{Machine}
use Rattle.arn_model.specs.Run.{after_input, input_steps, instructions_in, machine_from, steps_from}
use Rattle.arn_model.specs.Step.{Step}
use Rattle.arn_model.specs.Turn.{run_state}
use Rattle.arn_lines.specs.declared.answer.RunEnd.{RunEnd}
use Rattle.arn_lines.specs.declared.answer.RunEnd.TheVariants as run_end_is
use Rattle.log_model.specs.Records.{input_records, records_from}
use Rattle.guest_legs.specs.declared.leg.LegEnd.{LegEnd}
use Rattle.guest_legs.specs.declared.leg.LegEnd.TheVariants as leg_end_is
use Rattle.guest_legs.specs.declared.leg.TheConstants.{MOST_LEG}
use Rattle.guest_legs.specs.Legs.{Going, Picked, StaysOpen, ask_of, asks_by, end_of, fresh, going_after, going_by, input_of, leg_end}
use Rattle.guest_legs.specs.LegLaws.{as_named, named_by}
use Rattle.guest_legs.specs.Pieces.{spelled_len}
use Rattle.session_effects.specs.Effects.{Commits, Prints, committed}
use Rattle.session_runs.specs.Outputs.{outputs_text}
use Rattle.session_runs.specs.Points.{slices_cost}
use Rattle.session_runs.specs.Runs.{Running, begun, closing, effects_of, end_told, ended, ends, is_full, leg_effects, next_leg, run_after, run_end, run_from, unless_ended}
use Rattle.session_runs.specs.Touches.{Touch, AtSlice}
use Rattle.session_runs.specs.Turns.{Turn, Point, behind, cut_off}
use Rattle.session_runs.proofs.PointLemmas.{behind-behind}
use Rattle.session_runs.proofs.TouchLemmas.{at_slices}

-- a run after more slices
abbrev pub run_by : Running → List Picked → Running
run_by r slices = record { leg = going_by r.leg slices; first = r.first }

-- a run behind a slice: a full leg ends
abbrev pub run_at : ℕ → Running → Point
run_at budget r slices = behind (closing r) [] (run_from budget (next_leg r) slices)

-- an open leg isn't full, and its run goes on
pub open-parts : (s : RunState) (left spelled : ℕ) → leg_end s left spelled ≡ None → (run_end s left ≡ None) × (nat_le MOST_LEG spelled ≡ false)
open-parts state.Done left spelled is = absurd cc
open-parts state.Stalled left spelled is = absurd cc
open-parts state.CanGoOn zero spelled is = absurd cc
open-parts state.CanGoOn (suc left) spelled is = (refl, full-no (nat_le MOST_LEG spelled) is)
  where
    full-no : (b : Bool) → (if b then Some leg_end_is.More else None) ≡ None → b ≡ false
    full-no true is = absurd cc
    full-no false is = refl

-- a leg that ends is full, or its run ends so
data Closes (s : RunState) (left spelled : ℕ) (end : LegEnd) : Type 0 where
  ByLength : nat_le MOST_LEG spelled ≡ true → end_told end ≡ run_end s left → Closes s left spelled end
  ByRun : (e : RunEnd) → run_end s left ≡ Some e → end_told end ≡ Some e → Closes s left spelled end

closes : (s : RunState) (left spelled : ℕ) (end : LegEnd) → leg_end s left spelled ≡ Some end → Closes s left spelled end
closes state.Done left spelled leg_end_is.Done is = ByRun run_end_is.Done refl refl
closes state.Done left spelled leg_end_is.More is = absurd cc
closes state.Done left spelled leg_end_is.Stalled is = absurd cc
closes state.Done left spelled leg_end_is.Budget is = absurd cc
closes state.Stalled left spelled leg_end_is.Stalled is = ByRun run_end_is.Stalled refl refl
closes state.Stalled left spelled leg_end_is.Done is = absurd cc
closes state.Stalled left spelled leg_end_is.More is = absurd cc
closes state.Stalled left spelled leg_end_is.Budget is = absurd cc
closes state.CanGoOn zero spelled leg_end_is.Budget is = ByRun run_end_is.Budget refl refl
closes state.CanGoOn zero spelled leg_end_is.Done is = absurd cc
closes state.CanGoOn zero spelled leg_end_is.More is = absurd cc
closes state.CanGoOn zero spelled leg_end_is.Stalled is = absurd cc
closes state.CanGoOn (suc left) spelled end is = by-length (nat_le MOST_LEG spelled) refl end is
  where
    by-length : (b : Bool) → nat_le MOST_LEG spelled ≡ b → (end : LegEnd) → (if b then Some leg_end_is.More else None) ≡ Some end → Closes state.CanGoOn (suc left) spelled end
    by-length true full leg_end_is.More is = ByLength full refl
    by-length true full leg_end_is.Done is = absurd cc
    by-length true full leg_end_is.Stalled is = absurd cc
    by-length true full leg_end_is.Budget is = absurd cc
    by-length false full end is = absurd cc

-- how a run ends behind a leg that ends so
pub end-behind : (s : RunState) (left spelled : ℕ) (end : LegEnd) → leg_end s left spelled ≡ Some end → run_end s left ≡ end_told end
end-behind s left spelled end is = by (closes s left spelled end is)
  where
    by : Closes s left spelled end → run_end s left ≡ end_told end
    by (ByLength full told) = sym told
    by (ByRun e runs told) = runs ∙ sym told

-- a leg that ends with more to come has records
pub more-some : (s : RunState) (left : ℕ) (entries : List Record) → leg_end s left (spelled_len entries) ≡ Some leg_end_is.More → 0 < length entries
more-some state.Done left entries is = absurd cc
more-some state.Stalled left entries is = absurd cc
more-some state.CanGoOn zero entries is = absurd cc
more-some state.CanGoOn (suc left) [] is = absurd cc
more-some state.CanGoOn (suc left) (e ∷ entries) is = omega arith

clash : true ≡ false → ⊥
clash is = cc

module _ (budget : ℕ) where
  run_at-room : (r : Running) (slices : List Picked) → is_full r ≡ false → run_at budget r slices ≡ run_from budget r slices
  run_at-room r slices room =
      ap (λ (b : Bool). behind (if b then effects_of r else []) [] (run_from budget (if b then begun r.leg.machine r.leg.left else r) slices)) room

  run_at-full : (r : Running) (slices : List Picked) → is_full r ≡ true → run_at budget r slices ≡ behind (effects_of r) [] (run_from budget (begun r.leg.machine r.leg.left) slices)
  run_at-full r slices full =
      ap (λ (b : Bool). behind (if b then effects_of r else []) [] (run_from budget (if b then begun r.leg.machine r.leg.left else r) slices)) full

  run_from-more : (r : Running) (s : Picked) (slices : List Picked) → ends r ≡ None → run_from budget r (s ∷ slices) ≡ behind [] (AtSlice (ask_of r.leg) ∷ []) (run_at budget (run_after r s) slices)
  run_from-more r s slices more =
      ap (λ (o : Option RunEnd). unless_ended o (λ end. ended budget r end (s ∷ slices)) (behind (closing (run_after r s)) (AtSlice (ask_of r.leg) ∷ []) (run_from budget (next_leg (run_after r s)) slices))) more

  pub run_from-cut : (r : Running) → ends r ≡ None → run_from budget r [] ≡ cut_off
  run_from-cut r more = ap (λ (o : Option RunEnd). unless_ended o (λ end. ended budget r end []) cut_off) more

  pub run_from-ended : (r : Running) (slices : List Picked) (e : RunEnd) → ends r ≡ Some e → run_from budget r slices ≡ ended budget r e slices
  run_from-ended r [] e is = ap (λ (o : Option RunEnd). unless_ended o (λ end. ended budget r end []) cut_off) is
  run_from-ended r (s ∷ slices) e is =
      ap (λ (o : Option RunEnd). unless_ended o (λ end. ended budget r end (s ∷ slices)) (behind (closing (run_after r s)) (AtSlice (ask_of r.leg) ∷ []) (run_from budget (next_leg (run_after r s)) slices))) is

  -- the slices of an open leg are taken
  run_at-slices : (r : Running) (slices rest : List Picked) → StaysOpen r.leg slices → run_at budget r (slices ++ rest) ≡ behind [] (at_slices (asks_by r.leg slices)) (run_at budget (run_by r slices) rest)
  run_at-slices r [] rest opens = refl
  run_at-slices r (s ∷ slices) rest opens =
      let p = open-parts (run_state r.leg.machine) r.leg.left (spelled_len r.leg.entries) opens.0 in
      run_at-room r (s ∷ slices ++ rest) p.1
      ∙ run_from-more r s (slices ++ rest) p.0
      ∙ ap (λ (t : Turn). behind [] (AtSlice (ask_of r.leg) ∷ []) t) (run_at-slices (run_after r s) slices rest opens.1)

  -- a leg that ends is committed and printed, and then the run goes on in a new one
  run_at-closed : (r : Running) (rest : List Picked) (end : LegEnd) → end_of r.leg ≡ Some end → run_at budget r rest ≡ behind (effects_of r) [] (run_from budget (begun r.leg.machine r.leg.left) rest)
  run_at-closed r rest end closed = by (closes (run_state r.leg.machine) r.leg.left (spelled_len r.leg.entries) end closed) (is_full r) refl
    where
      by : Closes (run_state r.leg.machine) r.leg.left (spelled_len r.leg.entries) end → (full : Bool) → is_full r ≡ full → run_at budget r rest ≡ behind (effects_of r) [] (run_from budget (begun r.leg.machine r.leg.left) rest)
      by c true f = run_at-full r rest f
      by (ByLength full told) false f = absurd (clash (sym full ∙ f))
      by (ByRun e runs told) false f =
          run_at-room r rest f
          ∙ run_from-ended r rest e runs
          ∙ sym (ap (λ (t : Turn). behind (effects_of r) [] t) (run_from-ended (begun r.leg.machine r.leg.left) rest e runs))

  -- a leg: from a new one to the next
  pub leg-leads : (m : Machine) (left : ℕ) (slices rest : List Picked) (end : LegEnd) → StaysOpen (fresh m left) slices → end_of (going_by (fresh m left) slices) ≡ Some end
      → let g = going_by (fresh m left) slices in run_from budget (begun m left) (slices ++ rest) ≡ behind (leg_effects m.events g.entries) (at_slices (asks_by (fresh m left) slices)) (run_from budget (begun g.machine g.left) rest)
  leg-leads m left slices rest end opens closed =
      let g = going_by (fresh m left) slices in
      let r : Running = run_by (begun m left) slices in
      sym (run_at-room (begun m left) (slices ++ rest) refl)
      ∙ run_at-slices (begun m left) slices rest opens
      ∙ ap (λ (t : Turn). behind [] (at_slices (asks_by (fresh m left) slices)) t) (run_at-closed r rest end closed)
      ∙ behind-behind [] (effects_of r) (at_slices (asks_by (fresh m left) slices)) [] (run_from budget (begun g.machine g.left) rest)
      ∙ ap (λ (a : List Touch). behind (leg_effects m.events g.entries) a (run_from budget (begun g.machine g.left) rest)) (append-nil (at_slices (asks_by (fresh m left) slices)))

  -- a leg that is open behind these slices does nothing more without others
  pub leg-open : (m : Machine) (left : ℕ) (slices : List Picked) → StaysOpen (fresh m left) slices → end_of (going_by (fresh m left) slices) ≡ None → run_from budget (begun m left) slices ≡ behind [] (at_slices (asks_by (fresh m left) slices)) cut_off
  leg-open m left slices opens open_now =
      let g = going_by (fresh m left) slices in
      let r : Running = run_by (begun m left) slices in
      let p = open-parts (run_state g.machine) g.left (spelled_len g.entries) open_now in
      ap (run_from budget (begun m left)) (sym (append-nil slices))
      ∙ sym (run_at-room (begun m left) (slices ++ []) refl)
      ∙ run_at-slices (begun m left) slices [] opens
      ∙ ap (λ (t : Turn). behind [] (at_slices (asks_by (fresh m left) slices)) t) (run_at-room r [] p.1 ∙ run_from-cut r p.0)

  -- without slices nothing is touched
  pub alone-touches : (r : Running) → (run_from budget r []).touches ≡ []
  alone-touches r = by (ends r)
    where
      by : (o : Option RunEnd) → (unless_ended o (λ end. ended budget r end []) cut_off).touches ≡ []
      by None = refl
      by (Some end) = refl

  -- one slice more is asked for where an open leg stands
  pub one-touch : (r : Running) (s : Picked) → ends r ≡ None → (run_from budget r (s ∷ [])).touches ≡ AtSlice (ask_of r.leg) ∷ []
  one-touch r s more = ap (λ (t : Turn). t.touches) (run_from-more r s [] more) ∙ ap (λ (a : List Touch). AtSlice (ask_of r.leg) ∷ a) (alone-touches (next_leg (run_after r s)))

  pub leg-part : (m : Machine) (left : ℕ) (slices : List Picked) (s : Picked) → StaysOpen (fresh m left) slices → end_of (going_by (fresh m left) slices) ≡ None → (run_from budget (begun m left) (slices ++ s ∷ [])).touches ≡ at_slices (asks_by (fresh m left) slices) ++ AtSlice (ask_of (going_by (fresh m left) slices)) ∷ []
  leg-part m left slices s opens open_now =
      let g = going_by (fresh m left) slices in
      let r : Running = run_by (begun m left) slices in
      let p = open-parts (run_state g.machine) g.left (spelled_len g.entries) open_now in
      ap (λ (t : Turn). t.touches)
      (sym (run_at-room (begun m left) (slices ++ s ∷ []) refl)
      ∙ run_at-slices (begun m left) slices (s ∷ []) opens
      ∙ ap (λ (t : Turn). behind [] (at_slices (asks_by (fresh m left) slices)) t) (run_at-room r (s ∷ []) p.1))
      ∙ ap (λ (a : List Touch). at_slices (asks_by (fresh m left) slices) ++ a) (one-touch r s p.0)

  -- without slices a run ends, or waits for some
  pub alone-left : (r : Running) → ((run_from budget r []).left ≡ None) ⊎ ((run_from budget r []).left ≡ Some [])
  alone-left r = by (ends r)
    where
      by : (o : Option RunEnd) → ((unless_ended o (λ end. ended budget r end []) cut_off).left ≡ None) ⊎ ((unless_ended o (λ end. ended budget r end []) cut_off).left ≡ Some [])
      by None = inl refl
      by (Some end) = inr refl

-- the records and the machine of a leg
pub going-machine : (g : Going) (slices : List Picked) → (going_by g slices).machine ≡ machine_from g.machine (map input_of slices)
going-machine g [] = refl
going-machine g (s ∷ slices) = going-machine (going_after g s) slices

pub going-entries : (g : Going) (slices : List Picked) → (going_by g slices).entries ≡ g.entries ++ records_from g.machine (map input_of slices)
going-entries g [] = sym (append-nil g.entries)
going-entries g (s ∷ slices) =
    let first = input_records (input_of s) (input_steps g.machine (input_of s)) in
    going-entries (going_after g s) slices ∙ append_assoc g.entries first (records_from (after_input g.machine (input_of s)) (map input_of slices))

-- what the slices of a leg cost
pub going-cost : (g : Going) (slices : List Picked) → slices_cost (named_by g slices) ≡ instructions_in (steps_from g.machine (map input_of slices)) + length slices
going-cost g [] = refl
going-cost g (s ∷ slices) =
    let steps = input_steps g.machine (input_of s) in
    let more = steps_from (after_input g.machine (input_of s)) (map input_of slices) in
    let both : instructions_in (steps_from g.machine (map input_of (s ∷ slices))) ≡ instructions_in steps + instructions_in more = sum_by-append (λ (x : Step). cond (is_instruction x.moved.inside) 1 0) steps more in
    let cost : slices_cost (named_by g (s ∷ slices)) ≡ (instructions_in steps + 1) + slices_cost (named_by (going_after g s) slices) = sum_by-cons (λ (x : Picked). x.pick.count + 1) (as_named g.machine s) (named_by (going_after g s) slices) in
    let later : slices_cost (named_by (going_after g s) slices) ≡ instructions_in more + length slices = going-cost (going_after g s) slices in
    omega (arith, later, both, cost)

-- all that a leg commits are its records
pub leg-committed : (first : ℕ) (entries : List Record) → committed (leg_effects first entries) ≡ entries
leg-committed first [] = refl
leg-committed first (e ∷ entries) = append-nil (e ∷ entries)

pub leg-some : (first : ℕ) (entries : List Record) → 0 < length entries → leg_effects first entries ≡ Commits entries ∷ Prints (outputs_text first entries) ∷ []
leg-some first [] some = absurd (omega (arith, some))
leg-some first (e ∷ entries) some = refl
