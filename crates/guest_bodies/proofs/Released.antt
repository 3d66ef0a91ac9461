-- A memory that nobody holds any more goes.
use Rattle.std.proofs.Common.{◌≡◌, ◌≢◌, ℕ, zero, suc, ◌==◌, Bool, true, false, cond, ◌||◌, List, [], ◌∷◌, set, Option, Some, None, IsSome, IfSome, is_some, option_map, unwrap_or, refl, sym, ap, ap₂, subst, ◌∙◌, true≢false}
use Rattle.std.specs.List.{list_any}
use Rattle.std.proofs.lemmas.Bool.{eqb-false, eqb-true}
use Rattle.parts_model.specs.Numbered.{nth}
use Rattle.acts_model.specs.Bodies.{View}
use Rattle.guest_bodies.specs.Kept.{AllHeld, AreThere, IsKept, IsSound, body_of, has_key, holds_key, is_held, released, segment_part, shown_all, shown_of, view_of, watch_of, window_part}
use Rattle.guest_bodies.specs.Shown.{Guests, Shown}
use Rattle.guest_bodies.specs.Tables.{IfHeld, Table, Tables, held_bytes}
use Rattle.guest_bodies.specs.declared.guest.Guest.{Guest}
use Rattle.guest_bodies.specs.declared.guest.Held.{Held}
use Rattle.guest_bodies.proofs.Holders.{OthersHeld}
use Rattle.guest_bodies.proofs.Numbers.{nth-none, nth-set_other}

-- neither of two is where one of them isn't
neither : (a b : Bool) → (a || b) ≡ false → (a ≡ false) × (b ≡ false)
neither true b is = absurd (true≢false is)
neither false b is = (refl, is)

-- what is under another key stays
other-bytes : (table : Table) (key : ℕ) (o : Option Held) → has_key key o ≡ false → held_bytes (set table key None) o ≡ held_bytes table o
other-bytes table key None isnt = refl
other-bytes table key (Some s) isnt = ap (λ (x : Option (List ℕ)). unwrap_or x []) (nth-set_other table key None s.key (eqb-false s.key key isnt))

other-there : (table : Table) (key : ℕ) (o : Option Held) → has_key key o ≡ false → IfHeld o table → IfHeld o (set table key None)
other-there table key None isnt there = tt
other-there table key (Some s) isnt there = ap (λ (x : Option (List ℕ)). is_some x) (nth-set_other table key None s.key (eqb-false s.key key isnt)) ∙ there

-- what was under the key that goes is there no more
gone-there : (table : Table) (key k : ℕ) → IsSome (nth (set table key None) k) → (key ≢ k) × IsSome (nth table k)
gone-there table key k there = by (key == k) refl
  where
    there_before : key ≢ k → IsSome (nth table k)
    there_before ne = sym (ap (λ (x : Option (List ℕ)). is_some x) (nth-set_other table key None k (λ (e : k ≡ key). ne (sym e)))) ∙ there

    none_there : key ≡ k → ⊥
    none_there e = true≢false (sym there ∙ (ap (λ (i : ℕ). is_some (nth (set table key None) i)) (sym e) ∙ ap (λ (x : Option (List ℕ)). is_some x) (nth-none table key)))

    by : (b : Bool) → (key == k) ≡ b → (key ≢ k) × IsSome (nth table k)
    by true e = absurd (none_there (eqb-true key k e))
    by false e = (eqb-false key k e, there_before (eqb-false key k e))

module _ (part : Guest → Option Held) where
  none-holds : (all : List (Option Guest)) (key : ℕ) → is_held part all key ≡ false → (p : ℕ) → holds_key part key (nth all p) ≡ false
  none-holds [] key none p = refl
  none-holds (x ∷ all) key none zero = (neither (holds_key part key x) (list_any (holds_key part key) all) none).0
  none-holds (x ∷ all) key none (suc p) = none-holds all key (neither (holds_key part key x) (list_any (holds_key part key) all) none).1 p

  module _ (all : List (Option Guest)) (table : Table) where
    -- what a process holds stays as it was
    pub released-bytes : (o : Option Held) (p : ℕ) (g : Guest) → nth all p ≡ Some g → held_bytes (released part all o table) (part g) ≡ held_bytes table (part g)
    released-bytes None p g is = refl
    released-bytes (Some s) p g is = by (is_held part all s.key) refl
      where
        by : (b : Bool) → is_held part all s.key ≡ b → held_bytes (cond (is_held part all s.key) table (set table s.key None)) (part g) ≡ held_bytes table (part g)
        by true e = ap (λ (t : Bool). held_bytes (cond t table (set table s.key None)) (part g)) e
        by false e =
            ap (λ (t : Bool). held_bytes (cond t table (set table s.key None)) (part g)) e
            ∙ other-bytes table s.key (part g) (ap (holds_key part s.key) (sym is) ∙ none-holds all s.key e p)

    pub released-there : (o : Option Held) (p : ℕ) (g : Guest) → nth all p ≡ Some g → IfHeld (part g) table → IfHeld (part g) (released part all o table)
    released-there None p g is there = there
    released-there (Some s) p g is there = by (is_held part all s.key) refl
      where
        by : (b : Bool) → is_held part all s.key ≡ b → IfHeld (part g) (cond (is_held part all s.key) table (set table s.key None))
        by true e = subst (λ (t : Bool). IfHeld (part g) (cond t table (set table s.key None))) (sym e) there
        by false e =
            subst (λ (t : Bool). IfHeld (part g) (cond t table (set table s.key None))) (sym e)
            (other-there table s.key (part g) (ap (holds_key part s.key) (sym is) ∙ none-holds all s.key e p) there)

    -- where each other is held, each is
    pub released-held : (o : Option Held) → OthersHeld part o all table → AllHeld part all (released part all o table)
    released-held None held key there = held key refl there
    released-held (Some s) held k at_key = by (is_held part all s.key) refl k at_key
      where
        first : is_held part all s.key ≡ true → (key : ℕ) → IsSome (nth table key) → (b : Bool) → (s.key == key) ≡ b → is_held part all key ≡ true
        first is key there true e = ap (is_held part all) (sym (eqb-true s.key key e)) ∙ is
        first is key there false e = held key e there

        second : (key : ℕ) → IsSome (nth (set table s.key None) key) → (b : Bool) → (s.key == key) ≡ b → is_held part all key ≡ true
        second key there true e = absurd ((gone-there table s.key key there).0 (eqb-true s.key key e))
        second key there false e = held key e (gone-there table s.key key there).1

        by : (b : Bool) → is_held part all s.key ≡ b → AllHeld part all (cond (is_held part all s.key) table (set table s.key None))
        by true e = subst (λ (t : Bool). AllHeld part all (cond t table (set table s.key None))) (sym e) (λ key there. first e key there (s.key == key) refl)
        by false e = subst (λ (t : Bool). AllHeld part all (cond t table (set table s.key None))) (sym e) (λ key there. second key there (s.key == key) refl)

-- each process holds the same memories with the same bytes
pub record KeepsAll (all : List (Option Guest)) (tables new : Tables) : Type 0 where
  pub seen : (p : ℕ) (g : Guest) → nth all p ≡ Some g → view_of new g ≡ view_of tables g
  pub there : (p : ℕ) (g : Guest) → nth all p ≡ Some g → AreThere tables g → AreThere new g

pub keeps-shown : (all : List (Option Guest)) (tables new : Tables) → ((p : ℕ) (g : Guest) → nth all p ≡ Some g → view_of new g ≡ view_of tables g) → shown_all all new ≡ shown_all all tables
keeps-shown [] tables new same = refl
keeps-shown (x ∷ all) tables new same = ap₂ (λ (y : Option Shown) (ys : List (Option Shown)). y ∷ ys) (by x (λ g is. same 0 g is)) (keeps-shown all tables new (λ p g is. same (suc p) g is))
  where
    by : (o : Option Guest) → ((g : Guest) → o ≡ Some g → view_of new g ≡ view_of tables g) → option_map (shown_of new) o ≡ option_map (shown_of tables) o
    by None one = refl
    by (Some g) one = ap (λ (v : View). Some (record { view = v; watch = watch_of g })) (one g refl)

pub keeps-sound : (all : List (Option Guest)) (tables new : Tables) → KeepsAll all tables new → IsSound all tables → IsSound all new
keeps-sound all tables new keeps sound = record { there = λ p. by p (nth all p) refl (sound.there p); alike = sound.alike }
  where
    by : (p : ℕ) (o : Option Guest) → nth all p ≡ o → IfSome o (AreThere tables) → IfSome o (AreThere new)
    by p None is there = tt
    by p (Some g) is there = keeps.there p g is there

module _ (all : List (Option Guest)) (tables : Tables) (new : Tables) where
  windows-keep : (o : Option Held) → new ≡ record tables { windows = released window_part all o tables.windows } → KeepsAll all tables new
  windows-keep o is =
      subst (KeepsAll all tables) (sym is)
      (record {
        seen = λ p g stands. ap (λ (bytes : List ℕ). record (view_of tables g) { window = bytes }) (released-bytes window_part all tables.windows o p g stands);
        there = λ p g stands there. record { window = released-there window_part all tables.windows o p g stands there.window; segment = there.segment };
      })

  segments-keep : (o : Option Held) → new ≡ record tables { segments = released segment_part all o tables.segments } → KeepsAll all tables new
  segments-keep o is =
      subst (KeepsAll all tables) (sym is)
      (record {
        seen = λ p g stands. ap (λ (bytes : List ℕ). record (view_of tables g) { segment = bytes }) (released-bytes segment_part all tables.segments o p g stands);
        there = λ p g stands there. record { window = there.window; segment = released-there segment_part all tables.segments o p g stands there.segment };
      })

  -- a segment is let go
  module _ (o : Option Held) (is : new ≡ record tables { segments = released segment_part all o tables.segments }) where
    pub segment-kept : IsSound all tables → AllHeld window_part all tables.windows → OthersHeld segment_part o all tables.segments → IsKept all new
    segment-kept sound windows segments =
        record {
          sound = keeps-sound all tables new (segments-keep o is) sound;
          windows = subst (λ (l : Tables). AllHeld window_part all l.windows) (sym is) windows;
          segments = subst (λ (l : Tables). AllHeld segment_part all l.segments) (sym is) (released-held segment_part all tables.segments o segments);
        }

    -- what is said of what is shown
    pub segment-unseen : (P : Guests → Type 0) → P (shown_all all tables) → P (shown_all all new)
    segment-unseen P holds = subst P (sym (keeps-shown all tables new (segments-keep o is).seen)) holds

-- a window is let go, and then a segment
module _ (all : List (Option Guest)) (tables between new : Tables) (w : Held) (o : Option Held) (first : between ≡ record tables { windows = released window_part all (Some w) tables.windows }) (second : new ≡ record between { segments = released segment_part all o between.segments }) where
  pub both-kept : IsSound all tables → OthersHeld window_part (Some w) all tables.windows → OthersHeld segment_part o all tables.segments → IsKept all new
  both-kept sound windows segments =
      segment-kept all between new o second
      (keeps-sound all tables between (windows-keep all tables between (Some w) first) sound)
      (subst (λ (l : Tables). AllHeld window_part all l.windows) (sym first) (released-held window_part all tables.windows (Some w) windows))
      (subst (λ (l : Tables). OthersHeld segment_part o all l.segments) (sym first) segments)

  pub both-unseen : (P : Guests → Type 0) → P (shown_all all tables) → P (shown_all all new)
  both-unseen P holds =
      segment-unseen all between new o second P
      (subst P (sym (keeps-shown all tables between (windows-keep all tables between (Some w) first).seen)) holds)

-- the windows in the table are at other places, and each key has what it had
module _ (all : List (Option Guest)) (tables new : Tables) (windows : (k : ℕ) → nth new.windows k ≡ nth tables.windows k) (segments : new.segments ≡ tables.segments) where
  held-same : (o : Option Held) → held_bytes new.windows o ≡ held_bytes tables.windows o
  held-same None = refl
  held-same (Some h) = ap (λ (x : Option (List ℕ)). unwrap_or x []) (windows h.key)

  places-keep : KeepsAll all tables new
  places-keep =
      record {
        seen = λ p g stands. ap₂ (λ (a : List ℕ) (t : Table). record { body = body_of g; window = a; segment = held_bytes t g.segment }) (held-same (window_part g)) segments;
        there = λ p g stands there. record {
          window = ap (λ (x : Option (List ℕ)). is_some x) (windows g.window.key) ∙ there.window;
          segment = subst (IfHeld g.segment) (sym segments) there.segment;
        };
      }

  pub places-kept : IsKept all tables → IsKept all new
  places-kept kept =
      record {
        sound = keeps-sound all tables new places-keep kept.sound;
        windows = λ key there. kept.windows key (sym (ap (λ (x : Option (List ℕ)). is_some x) (windows key)) ∙ there);
        segments = subst (AllHeld segment_part all) (sym segments) kept.segments;
      }

  pub places-shown : shown_all all new ≡ shown_all all tables
  places-shown = keeps-shown all tables new places-keep.seen
