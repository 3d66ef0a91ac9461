-- Who lives.
use Rattle.std.proofs.Common.{◌≡◌, ◌≢◌, ℕ, true, false, Option, Some, None, IsNone, option_map, is_some, refl}
use Rattle.parts_model.specs.Numbered.{nth}
use Rattle.acts_model.specs.Bodies.{View}
use Rattle.guest_bodies.specs.Shown.{Guests, IsLive, Shown, seen_in}
use Rattle.replay_steps.specs.Standing.{GainsOnly, KeepsLives}

-- what a live process sees
pub record Sees (guests : Guests) (p : ℕ) : Type 0 where
  pub view : View
  pub is : seen_in guests p ≡ Some view

live-some : (o : Option Shown) → is_some o ≡ true → (v : View) × (option_map (λ (s : Shown). s.view) o ≡ Some v)
live-some None live = absurd (let e : false ≡ true = live in cc)
live-some (Some s) live = (s.view, refl)

pub live-sees : (guests : Guests) (p : ℕ) → IsLive guests p → Sees guests p
live-sees guests p live = let found = live-some (nth guests p) live in record { view = found.0; is = found.1 }

pub gains-both : (child : Option ℕ) (old between new : Guests) → KeepsLives old between → GainsOnly child between new → GainsOnly child old new
gains-both child old between new first second =
    record { dead = λ (p : ℕ) (other : child ≢ Some p) (none : IsNone (nth old p)). second.dead p other (first.dead p none) }
