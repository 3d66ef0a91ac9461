-- Each memory in a table stays held, as processes change.
use Rattle.std.proofs.Common.{◌≡◌, ℕ, zero, suc, ◌==◌, Bool, true, false, ◌||◌, List, [], ◌∷◌, Option, Some, None, IsSome, IsNone, is_some, option_map, refl, sym, ap, subst, ◌∙◌, true≢false}
use Rattle.std.specs.List.{list_any}
use Rattle.std.proofs.lemmas.Bool.{eqb-false, eqb-true}
use Rattle.parts_model.specs.Numbered.{nth}
use Rattle.guest_bodies.specs.Kept.{AllHeld, has_key, holds_key, is_held, shown_all, shown_of}
use Rattle.guest_bodies.specs.Shown.{Guests, Shown}
use Rattle.guest_bodies.specs.Tables.{Adds, IfHeld, Table, Tables, with_held}
use Rattle.guest_bodies.specs.declared.guest.Guest.{Guest}
use Rattle.guest_bodies.specs.declared.guest.Held.{Held}
use Rattle.guest_bodies.proofs.Changes.{Changes}
use Rattle.guest_bodies.proofs.Numbers.{nth-map, nth-set_other}

-- one of two is true where the second is
or-second : (a b : Bool) → b ≡ true → (a || b) ≡ true
or-second true b is = refl
or-second false b is = is

-- no memory has come
abbrev pub NoneComes : Table → Table → Type 0
NoneComes table new = (key : ℕ) → IsSome (nth new key) → IsSome (nth table key)

-- the number of a process that isn't shown is free
pub dead-there : (guests : Guests) (all : List (Option Guest)) (tables : Tables) (p : ℕ) → shown_all all tables ≡ guests → IsNone (nth guests p) → IsNone (nth all p)
dead-there guests all tables p is dead = by_guest (nth all p) (subst (λ (o : Option Shown). IsNone o) (nth-map (shown_of tables) all p) (subst (λ (gs : Guests). IsNone (nth gs p)) (sym is) dead))
  where
    by_guest : (o : Option Guest) → IsNone (option_map (shown_of tables) o) → IsNone o
    by_guest None h = h
    by_guest (Some g) h = h

-- other bytes in the memory that is held
pub with_held-comes : (o : Option Held) (bytes : List ℕ) (table : Table) → IfHeld o table → NoneComes table (with_held o bytes table)
with_held-comes None bytes table here key there = there
with_held-comes (Some s) bytes table here key there = by_test (key == s.key) refl
  where
    by_test : (b : Bool) → (key == s.key) ≡ b → IsSome (nth table key)
    by_test true e = ap (λ (k : ℕ). is_some (nth table k)) (eqb-true key s.key e) ∙ here
    by_test false e = sym (ap (λ (x : Option (List ℕ)). is_some x) (nth-set_other table s.key (Some bytes) key (eqb-false key s.key e))) ∙ there

module _ (part : Guest → Option Held) where
  -- a memory is held where a process holds it, and where it is held a process does
  pub held-by : (all : List (Option Guest)) (key p : ℕ) → holds_key part key (nth all p) ≡ true → is_held part all key ≡ true
  held-by [] key p holds = absurd (true≢false (sym holds))
  held-by (x ∷ all) key zero holds = ap (λ (b : Bool). b || list_any (holds_key part key) all) holds
  held-by (x ∷ all) key (suc p) holds = or-second (holds_key part key x) (list_any (holds_key part key) all) (held-by all key p holds)

  pub record Holder (all : List (Option Guest)) (key : ℕ) : Type 0 where
    pub number : ℕ
    pub holds : holds_key part key (nth all number) ≡ true

  pub holder-of : (all : List (Option Guest)) (key : ℕ) → is_held part all key ≡ true → Holder all key
  holder-of [] key held = absurd (true≢false (sym held))
  holder-of (x ∷ all) key held = by (holds_key part key x) refl (λ rest. holder-of all key rest)
    where
      by : (b : Bool) → holds_key part key x ≡ b → (is_held part all key ≡ true → Holder all key) → Holder (x ∷ all) key
      by true e later = record { number = 0; holds = e }
      by false e later =
          let rest : Holder all key = later (sym (ap (λ (b : Bool). b || list_any (holds_key part key) all) e) ∙ held) in
          record { number = suc rest.number; holds = rest.holds }

  -- who held a memory holds it still
  abbrev pub KeepsHolders : List (Option Guest) → List (Option Guest) → Type 0
  KeepsHolders all new = (key q : ℕ) → holds_key part key (nth all q) ≡ true → holds_key part key (nth new q) ≡ true

  pub held-kept : (all new : List (Option Guest)) (table table' : Table) → KeepsHolders all new → NoneComes table table' → AllHeld part all table → AllHeld part new table'
  held-kept all new table table' keeps none held key there =
      let holder : Holder all key = holder-of all key (held key (none key there)) in
      held-by new key holder.number (keeps key holder.number holder.holds)

  -- a process changes and holds what it held
  pub changed-holders : (p : ℕ) (g g' : Guest) (all new : List (Option Guest)) → nth all p ≡ Some g → part g' ≡ part g → Changes p (Some g') all new → KeepsHolders all new
  changed-holders p g g' all new is same_part changes key q holds = by_test (q == p) refl
    where
      by_test : (b : Bool) → (q == p) ≡ b → holds_key part key (nth new q) ≡ true
      by_test true e =
          let same : q ≡ p = eqb-true q p e in
          ap (λ (i : ℕ). holds_key part key (nth new i)) same ∙ (ap (holds_key part key) changes.own ∙ (ap (has_key key) same_part
          ∙ (sym (ap (λ (i : ℕ). holds_key part key (nth all i)) same ∙ ap (holds_key part key) is) ∙ holds)))
      by_test false e = ap (holds_key part key) (changes.kept q (eqb-false q p e)) ∙ holds

  -- a process comes where none was
  pub put-holders : (p : ℕ) (x : Option Guest) (all new : List (Option Guest)) → IsNone (nth all p) → Changes p x all new → KeepsHolders all new
  put-holders p x all new dead changes key q holds = by_test (q == p) refl
    where
      none-holds : (o : Option Guest) → IsNone o → holds_key part key o ≡ true → ⊥
      none-holds None none is = true≢false (sym is)
      none-holds (Some g) none is = true≢false none

      by_test : (b : Bool) → (q == p) ≡ b → holds_key part key (nth new q) ≡ true
      by_test true e = absurd (none-holds (nth all p) dead (sym (ap (λ (i : ℕ). holds_key part key (nth all i)) (eqb-true q p e)) ∙ holds))
      by_test false e = ap (holds_key part key) (changes.kept q (eqb-false q p e)) ∙ holds

  -- each memory in the table but this one is held
  abbrev pub OthersHeld : Option Held → List (Option Guest) → Table → Type 0
  OthersHeld o all table = (key : ℕ) → has_key key o ≡ false → IsSome (nth table key) → is_held part all key ≡ true

  -- a process changes, and who held another memory than it holds that still
  pub others-hold : (p key : ℕ) (g : Guest) (x : Option Guest) (all new : List (Option Guest)) → nth all p ≡ Some g → Changes p x all new → has_key key (part g) ≡ false → is_held part all key ≡ true → is_held part new key ≡ true
  others-hold p key g x all new is changes other held = by_test (holder.number == p) refl
    where
      holder : Holder all key
      holder = holder-of all key held

      by_test : (b : Bool) → (holder.number == p) ≡ b → is_held part new key ≡ true
      by_test true e =
          absurd (true≢false (sym holder.holds ∙ (ap (λ (i : ℕ). holds_key part key (nth all i)) (eqb-true holder.number p e) ∙ (ap (holds_key part key) is ∙ other))))
      by_test false e = held-by new key holder.number (ap (holds_key part key) (changes.kept holder.number (eqb-false holder.number p e)) ∙ holder.holds)

  -- it gives its memory back
  pub given-back : (p : ℕ) (g : Guest) (x : Option Guest) (all new : List (Option Guest)) (table : Table) → nth all p ≡ Some g → Changes p x all new → AllHeld part all table → OthersHeld (part g) new table
  given-back p g x all new table is changes held key other there = others-hold p key g x all new is changes other (held key there)

  -- a new memory is held, and each other is held where it was held before
  added-held : (p key' : ℕ) (g' : Guest) (all new : List (Option Guest)) (bytes : List ℕ) (table table' : Table) → Changes p (Some g') all new → has_key key' (part g') ≡ true → Adds key' bytes table table' → (key : ℕ) → (IsSome (nth table key) → is_held part new key ≡ true) → IsSome (nth table' key) → is_held part new key ≡ true
  added-held p key' g' all new bytes table table' changes fresh adds key others at_key = by_test (key == key') refl
    where
      by_test : (b : Bool) → (key == key') ≡ b → is_held part new key ≡ true
      by_test true e = ap (is_held part new) (eqb-true key key' e) ∙ held-by new key' p (ap (holds_key part key') changes.own ∙ fresh)
      by_test false e = others (sym (ap (λ (x : Option (List ℕ)). is_some x) (adds.others key (eqb-false key key' e))) ∙ at_key)

  -- it gets a new one in its place
  pub given-fresh : (p key' : ℕ) (g g' : Guest) (all new : List (Option Guest)) (bytes : List ℕ) (table table' : Table) → nth all p ≡ Some g → has_key key' (part g') ≡ true → Adds key' bytes table table' → Changes p (Some g') all new → AllHeld part all table → OthersHeld (part g) new table'
  given-fresh p key' g g' all new bytes table table' is fresh adds changes held key other at_key =
      added-held p key' g' all new bytes table table' changes fresh adds key (λ there. others-hold p key g (Some g') all new is changes other (held key there)) at_key

  -- a process comes where none was, with a new memory
  pub come-fresh : (p key' : ℕ) (g' : Guest) (all new : List (Option Guest)) (bytes : List ℕ) (table table' : Table) → IsNone (nth all p) → has_key key' (part g') ≡ true → Adds key' bytes table table' → Changes p (Some g') all new → AllHeld part all table → AllHeld part new table'
  come-fresh p key' g' all new bytes table table' dead fresh adds changes held key at_key =
      added-held p key' g' all new bytes table table' changes fresh adds key
      (λ there. held-kept all new table table (put-holders p (Some g') all new dead changes) (λ k here. here) held key there) at_key
