-- Two words make a choice.
use Rattle.std.proofs.Common.{◌≡◌, ◌+◌, ◌%◌, ℕ, Some, ap, ◌∙◌}
use Rattle.rand_pcg.specs.Lcg.{Lcg}
use Rattle.rand_pcg.specs.Pcg.{pcg32}
use Rattle.arn_base.specs.declared.boxes.Choice.{Choice}
use Rattle.guest_devices.specs.Seeded.{choice_at, after_choice, after_choices, after_choices-more}
use Rattle.guest_devices.proofs.choosers.SeededChooserChooser.choose.Goals as goal

second : (g h i : Lcg) (a b : ℕ) → ◌≡◌ {A = ℕ × Lcg} (a, h) (pcg32 g) → ◌≡◌ {A = ℕ × Lcg} (b, i) (pcg32 h) → ◌≡◌ {A = ℕ × Lcg} (b, i) (pcg32 (pcg32 g).1)
second g h i a b first next = next ∙ ap (λ (x : ℕ × Lcg). pcg32 x.1) first

choice_made : (g h i : Lcg) (a b : ℕ) → ◌≡◌ {A = ℕ × Lcg} (a, h) (pcg32 g) → ◌≡◌ {A = ℕ × Lcg} (b, i) (pcg32 h) → ◌≡◌ {A = Choice} (record { index = a; count = b % 1000 + 1 }) (choice_at g)
unfolding choice_at
choice_made g h i a b first next =
    ap (λ (x : ℕ × Lcg). record { index = x.0; count = b % 1000 + 1 }) first ∙ ap (λ (x : ℕ × Lcg). record { index = (pcg32 g).0; count = x.0 % 1000 + 1 }) (second g h i a b first next)

state_left : (g h i : Lcg) (a b : ℕ) → ◌≡◌ {A = ℕ × Lcg} (a, h) (pcg32 g) → ◌≡◌ {A = ℕ × Lcg} (b, i) (pcg32 h) → i ≡ after_choice g
unfolding after_choice
state_left g h i a b first next = ap (λ (x : ℕ × Lcg). x.1) (second g h i a b first next)

pub returns-clause-choice : goal.returns-clause-choice
returns-clause-choice c =
    choice_made _ _ _ _ _ c.next_word-index.ensures c.next_word.ensures

pub returns-clause-later : goal.returns-clause-later
returns-clause-later c = λ k.
    ap (λ (g : Lcg). Some (choice_at g)) (ap (λ (g : Lcg). after_choices g k) (state_left _ _ _ _ _ c.next_word-index.ensures c.next_word.ensures) ∙ after_choices-more c.args.self.now.words k)
