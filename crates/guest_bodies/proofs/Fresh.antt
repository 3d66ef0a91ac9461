-- Names that are new: those of a window or a segment that an event has just made.
use Rattle.std.proofs.Common.{◌≡◌, ◌≢◌, ℕ, List, Option, Some, None, IsSome, IfSome, is_some, option_map, ap, subst, sym, refl, ◌∙◌, true≢false}
use Rattle.parts_model.specs.Numbered.{nth}
use Rattle.acts_model.specs.Bodies.{View}
use Rattle.guest_bodies.specs.Kept.{AreThere, IsSound, NameAlike, body_of, shown_all, view_of}
use Rattle.guest_bodies.specs.Shown.{Guests, IsFresh, IsUnheldBy, seen_in}
use Rattle.guest_bodies.specs.Tables.{IfHeld, SameNames, Table, Tables}
use Rattle.guest_bodies.specs.declared.guest.Guest.{Guest}
use Rattle.guest_bodies.specs.declared.guest.Held.{Held}
use Rattle.guest_bodies.proofs.Changes.{name_of, of-one, of-two, seen-shown}

-- no process holds a memory that the event made
pub record IsNew (event : ℕ) (all : List (Option Guest)) : Type 0 where
  pub unheld : (p : ℕ) → IfSome (nth all p) (λ g. IsUnheldBy event (body_of g))

pub new-of : (guests : Guests) (all : List (Option Guest)) (tables : Tables) (event : ℕ) → shown_all all tables ≡ guests → IsFresh guests event → IsNew event all
new-of guests all tables event is fresh = record { unheld = λ p. by_guest (nth all p) (subst (λ (o : Option View). IfSome o (λ v. IsUnheldBy event v.body)) (ap (λ (gs : Guests). seen_in gs p) (sym is) ∙ seen-shown all tables p) (fresh.unheld p)) }
  where
    by_guest : (o : Option Guest) → IfSome (option_map (view_of tables) o) (λ v. IsUnheldBy event v.body) → IfSome o (λ g. IsUnheldBy event (body_of g))
    by_guest None h = tt
    by_guest (Some g) h = h

abbrev pub named : ℕ → ℕ → Held
named event key = record { made = event; key = key }

-- a key that has no memory is none under which one is held
no-key : (table : Table) (key k : ℕ) → nth table key ≡ None → IsSome (nth table k) → key ≡ k → ⊥
no-key table key k none there same = true≢false (sym there ∙ (ap (λ (i : ℕ). is_some (nth table i)) (sym same) ∙ ap (λ (x : Option (List ℕ)). is_some x) none))

-- a new name and another are two names
new-name : (event key : ℕ) (table : Table) (t : Held) → nth table key ≡ None → IsSome (nth table t.key) → t.made ≢ event → SameNames (named event key) t
new-name event key table t none there ne = record {
  by_key = λ (e : key ≡ t.key). absurd (no-key table key t.key none there e);
  by_made = λ (e : event ≡ t.made). absurd (ne (sym e));
}

name-new : (event key : ℕ) (table : Table) (t : Held) → nth table key ≡ None → IsSome (nth table t.key) → t.made ≢ event → SameNames t (named event key)
name-new event key table t none there ne = record {
  by_key = λ (e : t.key ≡ key). absurd (no-key table key t.key none there (sym e));
  by_made = λ (e : t.made ≡ event). absurd (ne e);
}

-- what is held is made by no new event
pub segment-new : (event : ℕ) (o : Option Held) → name_of o ≢ Some event → IfSome o (λ s. s.made ≢ event)
segment-new event None ne = tt
segment-new event (Some s) ne = λ e. ne (ap (λ (n : ℕ). Some n) e)

-- a name is the same as itself
same-names : (s : Held) → SameNames s s
same-names s = record { by_key = λ e. refl; by_made = λ e. refl }

same-both : (o : Option Held) → IfSome o (λ s. IfSome o (SameNames s))
same-both None = tt
same-both (Some s) = same-names s

-- a process names memories as itself where its segment isn't its window
self-alike : (g : Guest) → IfSome g.segment (λ s. s.made ≢ g.window.made) → NameAlike g g
self-alike g kinds = record { windows = same-names g.window; segments = same-both g.segment; kinds = kinds }

-- in a new window, without a segment
module _ (event key : ℕ) (tables : Tables) (none : nth tables.windows key ≡ None) where
  abbrev pub InNew : Guest → Type 0
  InNew g = g.window ≡ named event key

  no-segment : (o u : Option Held) → u ≡ None → IfSome o (λ s. IfSome u (SameNames s))
  no-segment None u is = tt
  no-segment (Some s) u is = subst (λ (x : Option Held). IfSome x (SameNames s)) (sym is) tt

  windows-new : (g h : Guest) → InNew g → AreThere tables h → IsUnheldBy event (body_of h) → SameNames g.window h.window
  windows-new g h is there unheld = subst (λ (w : Held). SameNames w h.window) (sym is) (new-name event key tables.windows h.window none there.window unheld.window)

  new-windows : (g h : Guest) → InNew g → AreThere tables h → IsUnheldBy event (body_of h) → SameNames h.window g.window
  new-windows g h is there unheld = subst (λ (w : Held). SameNames h.window w) (sym is) (name-new event key tables.windows h.window none there.window unheld.window)

  new-kinds : (g h : Guest) → InNew g → IsUnheldBy event (body_of h) → IfSome h.segment (λ s. s.made ≢ g.window.made)
  new-kinds g h is unheld = subst (λ (w : Held). IfSome h.segment (λ s. s.made ≢ w.made)) (sym is) (segment-new event h.segment unheld.segment)

  pub lone-self : (g : Guest) → g.segment ≡ None → NameAlike g g
  lone-self g lone = self-alike g (subst (λ (o : Option Held). IfSome o (λ s. s.made ≢ g.window.made)) (sym lone) tt)

  -- among all
  pub lone-among : (g : Guest) (all : List (Option Guest)) → IsSound all tables → IsNew event all → InNew g → g.segment ≡ None → (q : ℕ) → IfSome (nth all q) (λ h. NameAlike g h × NameAlike h g)
  lone-among g all sound new is lone q = by (nth all q) (sound.there q) (new.unheld q)
    where
      by : (o : Option Guest) → IfSome o (AreThere tables) → IfSome o (λ h. IsUnheldBy event (body_of h)) → IfSome o (λ h. NameAlike g h × NameAlike h g)
      by None there unheld = tt
      by (Some h) there unheld = (
        record {
          windows = windows-new g h is there unheld;
          segments = subst (λ (o : Option Held). IfSome o (λ s. IfSome h.segment (SameNames s))) (sym lone) tt;
          kinds = subst (λ (o : Option Held). IfSome o (λ s. s.made ≢ h.window.made)) (sym lone) tt;
        },
        record { windows = new-windows g h is there unheld; segments = no-segment h.segment g.segment lone; kinds = new-kinds g h is unheld },
      )

  -- the child of a process, which shares the segment that this one may hold
  pub child-self : (g parent : Guest) → InNew g → g.segment ≡ parent.segment → IsUnheldBy event (body_of parent) → NameAlike g g
  child-self g parent is segment unheld = self-alike g (subst (λ (o : Option Held). IfSome o (λ s. s.made ≢ g.window.made)) (sym segment) (new-kinds g parent is unheld))

  pub child-among : (g parent : Guest) (all : List (Option Guest)) (p : ℕ) → IsSound all tables → IsNew event all → nth all p ≡ Some parent → InNew g → g.segment ≡ parent.segment → (q : ℕ) → IfSome (nth all q) (λ h. NameAlike g h × NameAlike h g)
  child-among g parent all p sound new stands is segment q = by (nth all q) refl
    where
      by : (o : Option Guest) → nth all q ≡ o → IfSome o (λ h. NameAlike g h × NameAlike h g)
      by None here = tt
      by (Some h) here =
          let there : AreThere tables h = of-one (AreThere tables) here (sound.there q) in
          let unheld : IsUnheldBy event (body_of h) = of-one (λ (x : Guest). IsUnheldBy event (body_of x)) here (new.unheld q) in
          let alike : NameAlike parent h = of-two NameAlike stands here (sound.alike p q) in
          let back : NameAlike h parent = of-two NameAlike here stands (sound.alike q p) in (
            record {
              windows = windows-new g h is there unheld;
              segments = subst (λ (o : Option Held). IfSome o (λ s. IfSome h.segment (SameNames s))) (sym segment) alike.segments;
              kinds = subst (λ (o : Option Held). IfSome o (λ s. s.made ≢ h.window.made)) (sym segment) alike.kinds;
            },
            record {
              windows = new-windows g h is there unheld;
              segments = subst (λ (u : Option Held). IfSome h.segment (λ s. IfSome u (SameNames s))) (sym segment) back.segments;
              kinds = new-kinds g h is unheld;
            },
          )

-- a process in its window, with a new segment
module _ (event key : ℕ) (tables : Tables) (none : nth tables.segments key ≡ None) where
  new-segment : (o : Option Held) → IfHeld o tables.segments → name_of o ≢ Some event → IfSome o (SameNames (named event key))
  new-segment None there ne = tt
  new-segment (Some t) there ne = new-name event key tables.segments t none there (λ e. ne (ap (λ (n : ℕ). Some n) e))

  segment-new-name : (o : Option Held) → IfHeld o tables.segments → name_of o ≢ Some event → IfSome o (λ t. SameNames t (named event key))
  segment-new-name None there ne = tt
  segment-new-name (Some t) there ne = name-new event key tables.segments t none there (λ e. ne (ap (λ (n : ℕ). Some n) e))

  pub sharing-self : (g : Guest) → g.segment ≡ Some (named event key) → g.window.made ≢ event → NameAlike g g
  sharing-self g is ne = self-alike g (subst (λ (o : Option Held). IfSome o (λ s. s.made ≢ g.window.made)) (sym is) (λ (e : event ≡ g.window.made). ne (sym e)))

  pub sharing-alike : (g parent h : Guest) → g.window ≡ parent.window → g.segment ≡ Some (named event key) → AreThere tables h → IsUnheldBy event (body_of h) → NameAlike parent h → NameAlike h parent → NameAlike g h × NameAlike h g
  sharing-alike g parent h window segment there unheld alike back = (
    record {
      windows = subst (λ (w : Held). SameNames w h.window) (sym window) alike.windows;
      segments = subst (λ (o : Option Held). IfSome o (λ s. IfSome h.segment (SameNames s))) (sym segment) (new-segment h.segment there.segment unheld.segment);
      kinds = subst (λ (o : Option Held). IfSome o (λ s. s.made ≢ h.window.made)) (sym segment) (λ (e : event ≡ h.window.made). unheld.window (sym e));
    },
    record {
      windows = subst (λ (w : Held). SameNames h.window w) (sym window) back.windows;
      segments = subst (λ (u : Option Held). IfSome h.segment (λ s. IfSome u (SameNames s))) (sym segment) (segment-new-name h.segment there.segment unheld.segment);
      kinds = subst (λ (w : Held). IfSome h.segment (λ s. s.made ≢ w.made)) (sym window) back.kinds;
    },
  )
