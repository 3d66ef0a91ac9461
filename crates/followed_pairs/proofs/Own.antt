-- The items of groups that were followed are those of the groups.
use Rattle.std.proofs.Common.{◌≡◌, ◌⊎◌, inl, inr, ℕ, ◌==◌, ◌&&◌, nat_lt, Bool, true, false, List, [], Contains, Option, Some, None, IfSome, IsSome, is_some, if◌then◌else◌, refl, sym, ap, subst, ◌∙◌, arith, lt-ltb, ltb-true, eqb-true}
use Rattle.std.specs.List.{list_any}
use Rattle.std.proofs.lemmas.Bool.{and_parts, and_from}
use Rattle.arn_base.specs.declared.records.Record.{Record}
use Rattle.rv64_model.specs.Carries.{operands}
use Rattle.acts_model.specs.Records.{event_len}
use Rattle.acts_model.specs.Transfers.{is_private}
use Rattle.history_model.specs.Events.{event_at}
use Rattle.history_model.specs.Exchanges.{founded}
use Rattle.history_model.specs.Groups.{event_group, is_number}
use Rattle.lineage_join.specs.Fits.{HasByte, IsThere}
use Rattle.lineage_model.specs.Flow.{At, Byte, StartRegister, StartSlot, StartMemory}
use Rattle.lineage_model.specs.Tracking.{EventByte}
use Rattle.query_model.specs.Sinks.{items_among}
use Rattle.query_model.specs.Sources.{items_at, items_in, tracked_at}
use Rattle.taint_state.specs.Kept.{Kept}
use Rattle.taint_state.specs.Shown.{IsRegisterByte}
use Rattle.followed_groups.specs.Following.{Following, HasFollowed, HasOnly, has_byte, is_register_byte, is_there, items_by, items_followed, items_kept, tracker_of}
use Rattle.followed_pairs.specs.Items.{AreItemsOfGroups}
use Rattle.followed_pairs.proofs.Locals.{is-register}
use Rattle.followed_pairs.proofs.Outward.{any-in, in-any}

register-is : (r i : ℕ) → is_register_byte r i ≡ true → IsRegisterByte r i
register-is r i h =
    let first = and_parts (nat_lt 0 r) (nat_lt r 32 && nat_lt i 8) h in
    let rest = and_parts (nat_lt r 32) (nat_lt i 8) first.1 in
    record { above = ltb-true 0 r first.0; below = ltb-true r 32 rest.0; byte = ltb-true i 8 rest.1 }

has-is : (e : Record) (at : At) → has_byte e at ≡ true → HasByte e at
has-is e (Byte k) h = ltb-true k (event_len e) h
has-is e (StartRegister r i) h = let parts = and_parts (is_some (founded e)) (is_register_byte r i) h in (parts.0, register-is r i parts.1)
has-is e (StartSlot r i) h = let parts = and_parts (is_some (founded e)) (is_register_byte r i) h in (parts.0, register-is r i parts.1)
has-is e (StartMemory at) h = and_parts (is_some (founded e)) (is_private at) h

is-has : (e : Record) (at : At) → HasByte e at → has_byte e at ≡ true
is-has e (Byte k) h = lt-ltb k (event_len e) h
is-has e (StartRegister r i) h = and_from (is_some (founded e)) (is_register_byte r i) h.0 (is-register r i h.1)
is-has e (StartSlot r i) h = and_from (is_some (founded e)) (is_register_byte r i) h.0 (is-register r i h.1)
is-has e (StartMemory at) h = and_from (is_some (founded e)) (is_private at) h.0 h.1

pub there-is : (o : Option Record) (at : At) → is_there o at ≡ true → IsThere o at
there-is None at h = absurd (cc)
there-is (Some e) at h = has-is e at h

pub is-there : (o : Option Record) (at : At) → IsThere o at → is_there o at ≡ true
is-there None at h = absurd h
is-there (Some e) at h = is-has e at h

module _ (f : Following) where
  -- those of groups that were followed are those of the groups, and there are none of others
  kept-same : (event : ℕ) (at : At) (g : ℕ) (o : Option Kept) → IsSome o → items_kept f event at g o ≡ (tracked_at (operands f.linkage) f.entries f.until g).points event at
  kept-same event at g None h = absurd (cc)
  kept-same event at g (Some kept) h = refl

  pub group-same : (groups : List ℕ) → HasFollowed f groups → (event : ℕ) (at : At) (o : Option ℕ) → IfSome o (Contains groups) → items_by f event at o ≡ items_in (operands f.linkage) f.entries f.until event at o
  group-same groups has event at None asked = refl
  group-same groups has event at (Some g) asked = kept-same event at g (tracker_of f g) (has g asked)

  abbrev OneOf : List EventByte → ℕ → At → List EventByte → Type 0
  OneOf items event at of = (items ≡ []) ⊎ (IsThere (event_at f.entries event) at × (items ≡ of))

  kept-of : (event : ℕ) (at : At) → IsThere (event_at f.entries event) at → (g : ℕ) (o : Option Kept) → OneOf (items_kept f event at g o) event at ((tracked_at (operands f.linkage) f.entries f.until g).points event at)
  kept-of event at there g None = inl refl
  kept-of event at there g (Some kept) = inr (there, refl)

  group-of : (event : ℕ) (at : At) → IsThere (event_at f.entries event) at → (o : Option ℕ) → OneOf (items_by f event at o) event at (items_in (operands f.linkage) f.entries f.until event at o)
  group-of event at there None = inl refl
  group-of event at there (Some g) = kept-of event at there g (tracker_of f g)

  own-of : (event : ℕ) (at : At) → OneOf (items_followed f event at) event at (items_at (operands f.linkage) f.entries f.until event at)
  own-of event at = by_there (is_there (event_at f.entries event) at) refl
    where
      by_there : (b : Bool) → is_there (event_at f.entries event) at ≡ b
          → OneOf (if b then items_by f event at (event_group f.entries event) else []) event at (items_in (operands f.linkage) f.entries f.until event at (event_group f.entries event))
      by_there true t = group-of event at (there-is (event_at f.entries event) at t) (event_group f.entries event)
      by_there false t = inl refl

  -- of the groups that are asked they are those of the groups
  pub asked-same : (groups : List ℕ) → HasFollowed f groups → (event : ℕ) (at : At) → IfSome (event_group f.entries event) (Contains groups) → IsThere (event_at f.entries event) at
      → items_followed f event at ≡ items_in (operands f.linkage) f.entries f.until event at (event_group f.entries event)
  asked-same groups has event at asked there =
      ap (λ (b : Bool). if b then items_by f event at (event_group f.entries event) else []) (is-there (event_at f.entries event) at there)
      ∙ group-same groups has event at (event_group f.entries event) asked

abbrev nothing : List EventByte
nothing = []

-- the items of groups that were followed, and no others
module _ (f : Following) (groups : List ℕ) (has : HasFollowed f groups) (only : HasOnly f groups) where
  kept-among : (event : ℕ) (at : At) (g : ℕ) (o : Option Kept) → tracker_of f g ≡ o
      → items_kept f event at g o ≡ (if list_any (λ h. is_number h (Some g)) groups then (tracked_at (operands f.linkage) f.entries f.until g).points event at else [])
  kept-among event at g None is = sym (ap (λ (b : Bool). if b then (tracked_at (operands f.linkage) f.entries f.until g).points event at else []) (by_test (list_any (λ h. is_number h (Some g)) groups) refl))
    where
      by_test : (b : Bool) → list_any (λ h. is_number h (Some g)) groups ≡ b → list_any (λ h. is_number h (Some g)) groups ≡ false
      by_test false t = t
      by_test true t =
          let found = in-any (λ h. g == h) groups t in
          let same : g ≡ found.0 = eqb-true g found.0 found.2 in
          absurd (none-there (tracker_of f g) is (subst (λ (h : ℕ). IsSome (tracker_of f h)) (sym same) (has found.0 found.1)))
        where
          none-there : (o : Option Kept) → o ≡ None → IsSome o → ⊥
          none-there None e s = absurd (cc)
          none-there (Some kept) e s = absurd (cc)
  kept-among event at g (Some kept) is =
      sym (ap (λ (b : Bool). if b then (tracked_at (operands f.linkage) f.entries f.until g).points event at else [])
      (any-in (λ h. g == h) groups g (only g (subst (λ (o : Option Kept). IsSome o) (sym is) refl)) (grind (arith))))

  group-among : (event : ℕ) (at : At) (o : Option ℕ) → items_by f event at o ≡ (if list_any (λ h. is_number h o) groups then items_in (operands f.linkage) f.entries f.until event at o else [])
  group-among event at None = none (list_any (λ h. is_number h None) groups)
    where
      none : (b : Bool) → nothing ≡ (if b then nothing else nothing)
      none true = refl
      none false = refl
  group-among event at (Some g) = kept-among event at g (tracker_of f g) refl

  pub own-among : (event : ℕ) (at : At) → IsThere (event_at f.entries event) at → items_followed f event at ≡ items_among (operands f.linkage) f.entries groups f.until event at
  own-among event at there =
      ap (λ (b : Bool). if b then items_by f event at (event_group f.entries event) else []) (is-there (event_at f.entries event) at there)
      ∙ group-among event at (event_group f.entries event)

pub items-of-groups : (f : Following) → AreItemsOfGroups f
items-of-groups f = record { own = own-of f; all = asked-same f; among = own-among f }
