-- A link of groups is a link that the test finds.
use Rattle.std.proofs.lemmas.Grind.{common_steps}
use Rattle.std.proofs.Common.{◌≡◌, inl, inr, ℕ, zero, suc, ◌<◌, ◌||◌, Bool, true, List, [], ◌∷◌, length, Option, Some, None, option_and_then, slice_get, ap, arith}
use Rattle.std.proofs.lemmas.Bool.Decides.{nat_tests}
use Rattle.std.specs.List.{Contains, range_with_len}
use Rattle.std.proofs.lemmas.Bool.{false≢true, and_from, and_parts, or_left, or_cases}
use Rattle.std.proofs.lemmas.Bool.Decides.{eqb_tells}
use Rattle.std.proofs.lemmas.Option.{none-some, same_Some, option_and_then_some}
use Rattle.arn_base.specs.declared.records.Give.{Give}
use Rattle.arn_base.specs.declared.records.Origin.{Origin}
use Rattle.arn_base.specs.declared.records.Record.{Record}
use Rattle.history_model.specs.Events.{event_at, how_many}
use Rattle.history_model.specs.Exchanges.{Edge, ByBytes, ByFork, founded, received}
use Rattle.history_model.specs.Groups.{event_group, is_number}
use Rattle.query_model.specs.Linked.{came_from, receives_at, starts_at, is_linked}
use Rattle.query_laws.proofs.Lists.{any-in, in-any, in-range}

pub is-number : (n : ℕ) (o : Option ℕ) → o ≡ Some n → is_number n o ≡ true
is-number n None h = absurd (none-some n h)
is-number n (Some m) h = elim (eqb_tells m n) [ inl is ↦ is.0 | inr apart ↦ absurd (apart.1 (same_Some m n h)) ]

pub number-is : (n : ℕ) (o : Option ℕ) → is_number n o ≡ true → o ≡ Some n
number-is n None h = absurd (false≢true h)
number-is n (Some m) h = elim (eqb_tells m n) [ inl is ↦ ap (λ (k : ℕ). Some k) is.1 | inr apart ↦ absurd (false≢true (rw apart.0 at h)) ]

-- an event that has a group is there
pub below-len : {X : Type 0} (xs : List X) (i : ℕ) (x : X) → slice_get xs i ≡ Some x → i < length xs
below-len [] i x h = absurd (none-some x h)
below-len (y ∷ xs) zero x h = omega arith
below-len (y ∷ xs) (suc i) x h = omega (arith, below-len xs i x h)

pub is-there : (entries : List Record) (n g : ℕ) → event_group entries n ≡ Some g → n < how_many entries
is-there entries n g h1 = grind (arith, nat_tests, below-len, option_and_then_some)

module _ (entries : List Record) (h g : ℕ) where
  abbrev goes-at : ℕ → Bool
  goes-at n = receives_at entries h g n || starts_at entries h g n

  came-in : (o : Option Give) (give : Give) (origin : Origin) → o ≡ Some give → Contains give.origins origin → event_group entries origin.event ≡ Some h → came_from entries h o ≡ true
  came-in o give origin h1 h2 h3 = grind (arith, common_steps, nat_tests, none-some, same_Some, any-in, is-number)

  in-came : (o : Option Give) → came_from entries h o ≡ true → (give : Give) × (origin : Origin) × (o ≡ Some give) × Contains give.origins origin × (event_group entries origin.event ≡ Some h)
  in-came o h1 = grind (arith, nat_tests, false≢true, in-any, number-is)

  at-some : (n : ℕ) → n < how_many entries → goes-at n ≡ true → is_linked entries h g ≡ true
  at-some n there is = any-in goes-at (range_with_len 0 (how_many entries)) n (in-range 0 (how_many entries) n (omega arith) (omega (arith, there))) is

  pub edge-linked : Edge entries h g → is_linked entries h g ≡ true
  edge-linked h1 = grind (arith, nat_tests, and_from, at-some, came-in, is-number, is-there, or_left)

  received-edge : (n : ℕ) → receives_at entries h g n ≡ true → Edge entries h g
  received-edge n is =
      let parts = and_parts (is_number g (event_group entries n)) (came_from entries h (option_and_then received (event_at entries n))) is in
      let came = in-came (option_and_then received (event_at entries n)) parts.1 in
      ByBytes n came.0 came.1 (number-is g (event_group entries n) parts.0) came.2 came.3 came.4

  started-edge : (n : ℕ) → starts_at entries h g n ≡ true → Edge entries h g
  started-edge n is =
      let parts = and_parts (is_number h (event_group entries n)) (is_number g (option_and_then founded (event_at entries n))) is in
      ByFork n (number-is h (event_group entries n) parts.0) (number-is g (option_and_then founded (event_at entries n)) parts.1)

  pub linked-edge : is_linked entries h g ≡ true → Edge entries h g
  linked-edge is =
      let found = in-any goes-at (range_with_len 0 (how_many entries)) is in
      elim (or_cases (receives_at entries h g found.0) (starts_at entries h g found.0) found.2) [
        | inl receives ↦ received-edge found.0 receives
        | inr starts ↦ started-edge found.0 starts
      ]
