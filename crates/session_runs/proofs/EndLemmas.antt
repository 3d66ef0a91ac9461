-- How a run ends.
use Rattle.std.proofs.Common.{◌≡◌, ◌⊎◌, inl, inr, ℕ, ◌++◌, List, [], ◌∷◌, Option, Some, None, refl, sym, ap, ◌∙◌, subst, append_assoc}
use Rattle.arn_lines.specs.declared.answer.RunEnd.{RunEnd}
use Rattle.guest_legs.specs.Legs.{Picked, ask_of}
use Rattle.session_effects.specs.Effects.{Effect}
use Rattle.session_runs.specs.Ends.{EndsSo, RunsEnd, running_after}
use Rattle.session_runs.specs.Runs.{Running, closing, effects_of, ended, ends, next_leg, run_after, run_from, unless_ended}
use Rattle.session_runs.specs.Touches.{AtSlice}
use Rattle.session_runs.specs.Turns.{Turn, behind, cut_off}

no-slice : (before after : List Picked) (s : Picked) → [] ≡ before ++ s ∷ after → ⊥
no-slice [] after s e = cc
no-slice (x ∷ before) after s e = cc

first-same : (s x : Picked) (a b : List Picked) → s ∷ a ≡ x ∷ b → s ≡ x
first-same s x a b e = cc

rest-same : (s x : Picked) (a b : List Picked) → s ∷ a ≡ x ∷ b → a ≡ b
rest-same s x a b e = cc

-- a run that has ended takes no slice
ended-so : (budget : ℕ) (r : Running) (slices : List Picked) (end : RunEnd) → ends r ≡ Some end → EndsSo budget r slices (ended budget r end slices)
ended-so budget r slices end is = record {
  taken = [];
  rest = slices;
  are_slices = refl;
  end = end;
  is_end = is;
  not_before = λ before after s taken. absurd (no-slice before after s taken);
  done = effects_of r;
  effects = refl;
  left = refl;
}

-- a slice, and then the rest of the run
slice-so : (budget : ℕ) (r : Running) (s : Picked) (slices : List Picked) (t : Turn) → ends r ≡ None → EndsSo budget (next_leg (run_after r s)) slices t → EndsSo budget r (s ∷ slices) (behind (closing (run_after r s)) (AtSlice (ask_of r.leg) ∷ []) t)
slice-so budget r s slices t none e = record {
  taken = s ∷ e.taken;
  rest = e.rest;
  are_slices = ap (λ (x : List Picked). s ∷ x) e.are_slices;
  end = e.end;
  is_end = e.is_end;
  not_before = goes_on;
  done = closing (run_after r s) ++ e.done;
  effects = ap (λ (x : List Effect). closing (run_after r s) ++ x) e.effects ∙ sym (append_assoc (closing (run_after r s)) e.done _);
  left = e.left;
} where
  goes_on : (before after : List Picked) (x : Picked) → s ∷ e.taken ≡ before ++ x ∷ after → ends (running_after r before) ≡ None
  goes_on [] after x taken = none
  goes_on (y ∷ before) after x taken =
      subst (λ (z : Picked). ends (running_after (next_leg (run_after r z)) before) ≡ None) (first-same s y e.taken (before ++ x ∷ after) taken)
      (e.not_before before after x (rest-same s y e.taken (before ++ x ∷ after) taken))

-- it ends here, or it doesn't and goes on so
or-goes-on : (budget : ℕ) (r : Running) (slices : List Picked) (o : Option RunEnd) (more : Turn) → ends r ≡ o → (ends r ≡ None → (more.left ≡ None) ⊎ EndsSo budget r slices more) → ((unless_ended o (λ end. ended budget r end slices) more).left ≡ None) ⊎ EndsSo budget r slices (unless_ended o (λ end. ended budget r end slices) more)
or-goes-on budget r slices None more is goes_on = goes_on is
or-goes-on budget r slices (Some end) more is goes_on = inr (ended-so budget r slices end is)

behind-so : (budget : ℕ) (r : Running) (s : Picked) (slices : List Picked) (t : Turn) → ends r ≡ None → (t.left ≡ None) ⊎ EndsSo budget (next_leg (run_after r s)) slices t → ((behind (closing (run_after r s)) (AtSlice (ask_of r.leg) ∷ []) t).left ≡ None) ⊎ EndsSo budget r (s ∷ slices) (behind (closing (run_after r s)) (AtSlice (ask_of r.leg) ∷ []) t)
behind-so budget r s slices t none (inl left) = inl left
behind-so budget r s slices t none (inr e) = inr (slice-so budget r s slices t none e)

pub run_from-ends : RunsEnd
run_from-ends budget r [] = or-goes-on budget r [] (ends r) cut_off refl (λ none. inl refl)
run_from-ends budget r (s ∷ slices) =
    let t = run_from budget (next_leg (run_after r s)) slices in
    or-goes-on budget r (s ∷ slices) (ends r) (behind (closing (run_after r s)) (AtSlice (ask_of r.leg) ∷ []) t) refl (λ none. behind-so budget r s slices t none (run_from-ends budget (next_leg (run_after r s)) slices))
