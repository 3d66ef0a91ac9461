-- Where a run stops.
use Rattle.std.proofs.Common.{◌≡◌, ◌≢◌, ◌⊎◌, inl, inr, ℕ, ◌+◌, ◌-◌, ◌<◌, ◌≤◌, ◌++◌, List, [], ◌∷◌, length, map, Option, Some, None, refl, sym, ap, ◌∙◌, subst, append-nil, arith}
use Rattle.std.proofs.lemmas.List.Sums.{sum_by-cons}
use Rattle.arn_base.specs.declared.boxes.Choice.{Choice}
use Rattle.arn_base.specs.declared.disk.Disk.{Ghosts}
use Rattle.arn_base.specs.declared.records.Record.{Record}
use Rattle.parts_model.specs.Replies.{Answered}
use Rattle.arn_lines.specs.declared.answer.RunEnd.{RunEnd}
use Rattle.arn_lines.specs.Texts.{ran_text}
use Rattle.arn_model.specs.Kernel.{Machine}
use Rattle.arn_model.specs.Run.{instructions_in, steps_from}
use Rattle.history_model.specs.Unplugged.{unplugged_in}
use Rattle.log_model.specs.Laws.{RecordsBegin}
use Rattle.log_model.specs.Records.{reply_behind}
use Rattle.guest_devices.specs.Answers.{Asked}
use Rattle.guest_legs.specs.declared.leg.LegEnd.{LegEnd}
use Rattle.guest_legs.specs.LegLaws.{SameAsNamed, named_by}
use Rattle.guest_legs.specs.Legs.{Ask, AreInRange, Going, IsInRange, Picked, PickedBy, StaysOpen, ask_of, asks_by, end_of, fresh, going_after, going_by, input_of}
use Rattle.guest_machine.specs.Legs.{IsCutLeg, RepliedBy}
use Rattle.guest_machine.specs.Recorded.{Recorded}
use Rattle.session_effects.specs.Carrying.{CarriesOut, StopsBetween}
use Rattle.session_effects.specs.Effects.{Effect, Commits, Prints, committed}
use Rattle.session_effects.specs.Laws.{HaltsFollow}
use Rattle.session_effects.specs.Printing.{StopsPut}
use Rattle.session_effects.specs.declared.halt.Halt.{Halt}
use Rattle.session_effects.specs.declared.halt.Halt.TheVariants as halt
use Rattle.session_runs.specs.Outputs.{outputs_text}
use Rattle.session_runs.specs.Points.{Advances, IsSpent, Stops, Surroundings, slices_cost, slices_in}
use Rattle.session_runs.specs.Runs.{begun, ends, leg_effects, run_from}
use Rattle.session_runs.specs.Touches.{Answering, Touch, AtSlice, TouchedBy, asks_in, named_at, unplugs_in}
use Rattle.session_runs.specs.Turns.{Turn, behind, cut_off, finished}
use Rattle.session_runs.proofs.LegLemmas.{begins-leg, cut-alone, first-commit, lead-named, names-leg, no-commit, none-next, unplugs-leg}
use Rattle.session_runs.proofs.PointLemmas.{PickedBy-none, in-range-append}
use Rattle.session_runs.proofs.TouchLemmas.{asks-append, asks-at, at-unplugs, at_slices, named-at, touched-at}
use Rattle.session_runs.proofs.RunLemmas.{alone-left, alone-touches, leg-part, going-cost, leg-open, leg-some, run_from-ended}

asks-many : (g : Going) (slices : List Picked) → length (asks_by g slices) ≡ length slices
asks-many g [] = refl
asks-many g (s ∷ slices) = omega (arith, asks-many (going_after g s) slices)

asks-push : (g : Going) (slices : List Picked) (s : Picked) → asks_by g (slices ++ s ∷ []) ≡ asks_by g slices ++ ask_of (going_by g slices) ∷ []
asks-push g [] s = refl
asks-push g (x ∷ slices) s = ap (λ (l : List Ask). ask_of g ∷ l) (asks-push (going_after g x) slices s)

-- slices where they were asked for, and none behind them
with-none : (P : List Ask → List Picked → Type 0) (asks : List Ask) (slices : List Picked) → P asks slices → P (asks_in (at_slices asks ++ [])) (slices ++ [])
with-none P asks slices is =
    subst (λ (x : List Touch). P (asks_in x) (slices ++ [])) (sym (append-nil (at_slices asks)))
    (subst (λ (x : List Ask). P x (slices ++ [])) (sym (asks-at asks)) (subst (P asks) (sym (append-nil slices)) is))

-- one more behind them
asks-more : (g : Going) (slices : List Picked) (s : Picked) → asks_in (at_slices (asks_by g slices) ++ AtSlice (ask_of (going_by g slices)) ∷ []) ≡ asks_by g slices ++ ask_of (going_by g slices) ∷ []
asks-more g slices s =
    asks-append (at_slices (asks_by g slices)) (AtSlice (ask_of (going_by g slices)) ∷ []) ∙ ap (λ (x : List Ask). x ++ ask_of (going_by g slices) ∷ []) (asks-at (asks_by g slices))

-- no slices are left behind a leg
spent-behind : (budget : ℕ) (g : Going) {lost : List Picked} {undone : List Effect} {left : Option (List Picked)} → left ≡ (run_from budget (begun g.machine g.left) []).left → (undone ≢ []) ⊎ (lost ≡ []) → IsSpent lost undone left
spent-behind budget g {lost} {undone} is more =
    subst (λ (o : Option (List Picked)). IsSpent lost undone o) (sym is)
    (elim (alone-left budget (begun g.machine g.left)) [
      | inl none ↦ inl none
      | inr all ↦ inr (all, more)
    ])

some-effects : {effect : Effect} {effects : List Effect} → effect ∷ effects ≡ [] → ⊥
some-effects is = cc

-- what was executed of a leg that was cut
pub cut-executed : {A : Type 0} (answers : A → Asked → Answered → A → Type 0) (m : Machine) (left : ℕ) (r r' : Recorded) (before after : ℕ → Option Choice) (a a' : A) (out out' : List Record) (steps steps' : ℕ) (cut : IsCutLeg answers (fresh m left) r r' before after a a' out out' steps steps') → steps' ≤ steps + (instructions_in (steps_from m (map input_of cut.slices)) + length cut.slices + cut.lost.count)
cut-executed answers m left r r' before after a a' out out' steps steps' cut =
    omega (arith, cut.at_most, cut.took.runs.counted)

module _ {D A : Type 0} (is_run : List Record → Type 0) (d : Ghosts D) (who : Answering A) (halts : HaltsFollow is_run d) (budget : ℕ) (m : Machine) (left : ℕ) (slices : List Picked) (same : SameAsNamed (fresh m left) slices) (opens : StaysOpen (fresh m left) slices) where
  -- memory ran out in the leg
  pub Stops-memory : (disk : D) (history : List Record) (held : Option (List ℕ)) (old new : Surroundings A) (part : Picked) → end_of (going_by (fresh m left) slices) ≡ None
      → PickedBy old.choices new.choices (asks_by (fresh m left) (slices ++ part ∷ [])) (slices ++ part ∷ []) → AreInRange (asks_by (fresh m left) slices) slices → IsInRange (ask_of (going_by (fresh m left) slices)) part.pick
      → RepliedBy who.answers (asks_by (fresh m left) slices) slices old.answers new.answers → new.steps ≤ old.steps + (instructions_in (steps_from m (map input_of slices)) + length slices + part.pick.count)
      → Stops is_run d who disk disk history held held halt.NoMemory (run_from budget (begun m left)) old new 0
  Stops-memory disk history held old new part open_now picked in_range part_in_range replied executed =
      let g = going_by (fresh m left) slices in
      let nd = named_by (fresh m left) slices in
      let asks = asks_by (fresh m left) slices in
      let same_named : named_at (at_slices asks) slices ≡ nd = named-at asks slices in
      let open_named : end_of (going_by (fresh m left) nd) ≡ None = ap end_of same.leads ∙ open_now in
      let lead : run_from budget (begun m left) (named_at (at_slices asks) slices) ≡ behind [] (at_slices asks) cut_off =
      ap (run_from budget (begun m left)) same_named ∙ leg-open budget m left nd (same.open_before opens) open_named ∙ ap (λ (a : List Ask). behind [] (at_slices a) cut_off) same.asks in
      record {
        slices = [];
        lost = slices;
        part = part ∷ [];
        touches = [];
        lost_touches = at_slices asks;
        part_touches = AtSlice (ask_of g) ∷ [];
        done = [];
        undone = [];
        are_effects = ap (λ (t : Turn). t.effects) lead;
        are_touches =
            ap (λ (x : List Picked). (run_from budget (begun m left) (x ++ part ∷ [])).touches) same_named
            ∙ leg-part budget m left nd part (same.open_before opens) open_named
            ∙ ap (λ (x : Going). at_slices (asks_by (fresh m left) nd) ++ AtSlice (ask_of x) ∷ []) same.leads
            ∙ ap (λ (x : List Ask). at_slices x ++ AtSlice (ask_of g) ∷ []) same.asks;
        stopped = halts.nothing disk history held halt.NoMemory [] (inl refl, inl refl);
        names = refl;
        unplugged = refl;
        begins = refl;
        names_lost = λ entries at. absurd (none-next entries at);
        unplugged_lost = λ entries at. absurd (none-next entries at);
        without = cut-alone budget m left slices opens;
        spent = inl (ap (λ (t : Turn). t.left) lead);
        many = refl;
        picked =
            subst (λ (x : List Ask). PickedBy old.choices new.choices x (slices ++ part ∷ [])) (asks-push (fresh m left) slices part ∙ sym (asks-more (fresh m left) slices part)) picked;
        in_range =
            subst (λ (x : List Ask). AreInRange x (slices ++ part ∷ [])) (sym (asks-more (fresh m left) slices part))
            (in-range-append asks (ask_of g ∷ []) slices (part ∷ []) (asks-many (fresh m left) slices) in_range (part_in_range, tt));
        touched = touched-at who asks slices old.answers new.answers replied;
        one_part = omega arith;
        by_memory = inr refl;
        unmade = inr tt;
        executed = omega (arith, executed, going-cost (fresh m left) slices, ap slices_cost same_named, sum_by-cons (λ (x : Picked). x.pick.count) part []);
      }

  -- a leg whose commit doesn't come to its end
  pub Stops-lost : (disk disk' : D) (history : List Record) (h0 h1 : Option (List ℕ)) (why : Halt) (old new : Surroundings A) (end : LegEnd) → end_of (going_by (fresh m left) slices) ≡ Some end → 0 < length (going_by (fresh m left) slices).entries
      → PickedBy old.choices new.choices (asks_by (fresh m left) slices) slices → AreInRange (asks_by (fresh m left) slices) slices → RepliedBy who.answers (asks_by (fresh m left) slices) slices old.answers new.answers → new.steps ≤ old.steps + (instructions_in (steps_from m (map input_of slices)) + length slices)
      → ((more : List Effect) → StopsBetween is_run d disk disk' history h0 h1 why [] (Commits (going_by (fresh m left) slices).entries ∷ more)) → Stops is_run d who disk disk' history h0 h1 why (run_from budget (begun m left)) old new 0
  Stops-lost disk disk' history h0 h1 why old new end closed some picked in_range replied executed stopped =
      let g = going_by (fresh m left) slices in
      let nd = named_by (fresh m left) slices in
      let next : Turn = run_from budget (begun g.machine g.left) [] in
      let text = outputs_text m.events g.entries in
      let undone : List Effect = Commits g.entries ∷ Prints text ∷ next.effects in
      let asks = asks_by (fresh m left) slices in
      let same_named : named_at (at_slices asks) slices ≡ nd = named-at asks slices in
      let lead : run_from budget (begun m left) (named_at (at_slices asks) slices) ≡ behind (leg_effects m.events g.entries) (at_slices asks) next =
      ap (run_from budget (begun m left)) (same_named ∙ sym (append-nil nd)) ∙ lead-named budget m left slices [] end same opens closed in
      record {
        slices = [];
        lost = slices;
        part = [];
        touches = [];
        lost_touches = at_slices asks;
        part_touches = [];
        done = [];
        undone = undone;
        are_effects = ap (λ (t : Turn). t.effects) lead ∙ ap (λ (e : List Effect). e ++ next.effects) (leg-some m.events g.entries some);
        are_touches =
            ap (λ (x : List Picked). (run_from budget (begun m left) x).touches) (append-nil (named_at (at_slices asks) slices))
            ∙ ap (λ (t : Turn). t.touches) lead
            ∙ ap (λ (x : List Touch). at_slices asks ++ x) (alone-touches budget (begun g.machine g.left));
        stopped = stopped (Prints text ∷ next.effects);
        names = refl;
        unplugged = refl;
        begins = refl;
        names_lost = λ entries at. ap slices_in (first-commit g.entries entries (Prints text ∷ next.effects) at) ∙ names-leg m.events m left slices same ∙ sym same_named;
        unplugged_lost = λ entries at.
            ap unplugged_in (first-commit g.entries entries (Prints text ∷ next.effects) at) ∙ unplugs-leg m left slices same ∙ sym (ap unplugs_in (append-nil (at_slices asks)) ∙ at-unplugs asks);
        without = cut-alone budget m left slices opens;
        spent = spent-behind budget g (ap (λ (t : Turn). t.left) lead) (inl some-effects);
        many = refl;
        picked = with-none (PickedBy old.choices new.choices) asks slices picked;
        in_range = with-none AreInRange asks slices in_range;
        touched = touched-at who asks slices old.answers new.answers replied;
        one_part = omega arith;
        by_memory = inl refl;
        unmade = inl refl;
        executed = omega (arith, executed, going-cost (fresh m left) slices, ap slices_cost same_named);
      }

  -- a leg whose text doesn't come to its end
  pub Stops-text : RecordsBegin → (disk disk' : D) (history there : List Record) (h0 h1 : Option (List ℕ)) (why : Halt) (old new : Surroundings A) (end : LegEnd) → end_of (going_by (fresh m left) slices) ≡ Some end → 0 < length (going_by (fresh m left) slices).entries
      → PickedBy old.choices new.choices (asks_by (fresh m left) slices) slices → AreInRange (asks_by (fresh m left) slices) slices → RepliedBy who.answers (asks_by (fresh m left) slices) slices old.answers new.answers → new.steps ≤ old.steps + (instructions_in (steps_from m (map input_of slices)) + length slices)
      → there ≡ history ++ committed (Commits (going_by (fresh m left) slices).entries ∷ []) → CarriesOut is_run d disk disk' history h0 h0 (Commits (going_by (fresh m left) slices).entries ∷ [])
      → StopsPut why (outputs_text m.events (going_by (fresh m left) slices).entries) h0 h1 → Stops is_run d who disk disk' history h0 h1 why (run_from budget (begun m left)) old new 0
  Stops-text begin disk disk' history there h0 h1 why old new end closed some picked in_range replied executed is carried put =
      let g = going_by (fresh m left) slices in
      let nd = named_by (fresh m left) slices in
      let next : Turn = run_from budget (begun g.machine g.left) [] in
      let text = outputs_text m.events g.entries in
      let asks = asks_by (fresh m left) slices in
      let same_named : named_at (at_slices asks) slices ≡ nd = named-at asks slices in
      let lead : run_from budget (begun m left) (named_at (at_slices asks) slices ++ []) ≡ behind (leg_effects m.events g.entries) (at_slices asks) next =
      ap (λ (x : List Picked). run_from budget (begun m left) (x ++ [])) same_named ∙ lead-named budget m left slices [] end same opens closed in
      record {
        slices = slices;
        lost = [];
        part = [];
        touches = at_slices asks;
        lost_touches = [];
        part_touches = [];
        done = Commits g.entries ∷ [];
        undone = Prints text ∷ next.effects;
        are_effects = ap (λ (t : Turn). t.effects) lead ∙ ap (λ (e : List Effect). e ++ next.effects) (leg-some m.events g.entries some);
        are_touches = ap (λ (t : Turn). t.touches) lead ∙ ap (λ (x : List Touch). at_slices asks ++ x) (alone-touches budget (begun g.machine g.left));
        stopped =
            halts.before disk disk' history h0 h1 why (Commits g.entries ∷ []) (Prints text ∷ []) next.effects
            (halts.behind disk disk' disk' history there h0 h0 h1 why (Commits g.entries ∷ []) [] (Prints text ∷ []) is carried (halts.text disk' there h0 h1 why text put));
        names = ap slices_in (append-nil g.entries) ∙ names-leg m.events m left slices same ∙ sym same_named;
        unplugged = ap unplugged_in (append-nil g.entries) ∙ unplugs-leg m left slices same ∙ sym (at-unplugs asks);
        begins = ap reply_behind (append-nil g.entries) ∙ begins-leg begin m left slices;
        names_lost = λ entries at. absurd (no-commit text entries next.effects at);
        unplugged_lost = λ entries at. absurd (no-commit text entries next.effects at);
        without = inl refl;
        spent = spent-behind budget g (ap (λ (t : Turn). t.left) lead) (inr refl);
        many = omega (arith, asks-many (fresh m left) slices, ap (λ (x : List Ask). length x) (asks-at asks));
        picked = with-none (PickedBy old.choices new.choices) asks slices picked;
        in_range = with-none AreInRange asks slices in_range;
        touched =
            subst (λ (x : List Touch). TouchedBy who x (slices ++ []) old.answers new.answers) (sym (append-nil (at_slices asks)))
            (subst (λ (x : List Picked). TouchedBy who (at_slices asks) x old.answers new.answers) (sym (append-nil slices)) (touched-at who asks slices old.answers new.answers replied));
        one_part = omega arith;
        by_memory = inl refl;
        unmade = inl refl;
        executed = omega (arith, executed, going-cost (fresh m left) slices, ap slices_cost same_named, ap slices_cost (append-nil (named_at (at_slices asks) slices)));
      }

-- the run ends, and its last line is printed
pub Advances-end : {A : Type 0} (who : Answering A) (budget : ℕ) (m : Machine) (left : ℕ) (end : RunEnd) (now : Surroundings A) (carried : List Effect → Type 0) → ends (begun m left) ≡ Some end → carried (Prints (ran_text (budget - left) end) ∷ []) → Advances who (run_from budget (begun m left)) finished now now 0 carried
Advances-end who budget m left end now carried is carries = record {
  slices = [];
  touches = [];
  effects = Prints (ran_text (budget - left) end) ∷ [];
  leads = λ rest. run_from-ended budget (begun m left) rest end is;
  names = refl;
  unplugged = refl;
  begins = refl;
  carries = carries;
  picked = PickedBy-none now.choices;
  in_range = tt;
  touched = (refl, refl);
  executed = omega arith;
}

module _ {D A : Type 0} (is_run : List Record → Type 0) (d : Ghosts D) (who : Answering A) (halts : HaltsFollow is_run d) where
  -- or it isn't
  pub Stops-end : (budget : ℕ) (m : Machine) (left : ℕ) (end : RunEnd) (disk : D) (history : List Record) (h0 h1 : Option (List ℕ)) (why : Halt) (now : Surroundings A) → ends (begun m left) ≡ Some end → StopsPut why (ran_text (budget - left) end) h0 h1 → Stops is_run d who disk disk history h0 h1 why (run_from budget (begun m left)) now now 0
  Stops-end budget m left end disk history h0 h1 why now is put =
      let lead = run_from-ended budget (begun m left) [] end is in
      let text = ran_text (budget - left) end in
      record {
        slices = [];
        lost = [];
        part = [];
        touches = [];
        lost_touches = [];
        part_touches = [];
        done = [];
        undone = Prints text ∷ [];
        are_effects = ap (λ (t : Turn). t.effects) lead;
        are_touches = ap (λ (t : Turn). t.touches) lead;
        stopped = halts.text disk history h0 h1 why text put;
        names = refl;
        unplugged = refl;
        begins = refl;
        names_lost = λ entries at. absurd (no-commit text entries [] at);
        unplugged_lost = λ entries at. absurd (no-commit text entries [] at);
        without = inl refl;
        spent = inr (ap (λ (t : Turn). t.left) lead, inr refl);
        many = refl;
        picked = PickedBy-none now.choices;
        in_range = tt;
        touched = (refl, refl);
        one_part = omega arith;
        by_memory = inl refl;
        unmade = inl refl;
        executed = omega arith;
      }
