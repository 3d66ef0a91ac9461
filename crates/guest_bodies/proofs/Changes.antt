-- One process changes, and with it perhaps the bytes of the memories that it holds.
use Rattle.std.proofs.Common.{◌≡◌, ◌≢◌, ℕ, ◌==◌, Bool, true, false, cond, List, [], set, Option, None, Some, IsSome, IfSome, is_some, option_map, refl, sym, ap, ap₂, subst, ◌∙◌, ne_eqb, arith}
use Rattle.std.proofs.lemmas.Bool.Decides.{nat_tests}
use Rattle.std.proofs.lemmas.Bool.{eq-eqb, eqb-true, eqb-false}
use Rattle.std.proofs.lemmas.List.{map-set}
use Rattle.parts_model.specs.Numbered.{nth}
use Rattle.acts_model.specs.Acts.{Act, acted, joined, done}
use Rattle.acts_model.specs.Bodies.{Bodies, View, seen, put, laid, laid_segment}
use Rattle.guest_bodies.specs.Follows.{Shows, Follows, KeepsWatches}
use Rattle.guest_bodies.specs.Kept.{AreThere, IsSound, NameAlike, body_of, shown_all, shown_of, view_of, watch_of, window_part}
use Rattle.guest_bodies.specs.Shown.{Guests, Shown, Watch, seen_in, watch_in}
use Rattle.guest_bodies.specs.Tables.{IfHeld, SameNames, Table, Tables, held_bytes, with_held}
use Rattle.guest_bodies.specs.declared.guest.Guest.{Guest}
use Rattle.guest_bodies.specs.declared.guest.Held.{Held}
use Rattle.guest_bodies.proofs.Numbers.{IsSome-within, nth-map, nth-set, nth-set_other, set-nth}
use Rattle.guest_bodies.proofs.Puts.{refreshed, fresh_segment, own_segment, seen-other, seen-same}

-- one process is this from now on, and every other is as before
pub record Changes (p : ℕ) (x : Option Guest) (all new : List (Option Guest)) : Type 0 where
  pub own : nth new p ≡ x
  pub kept : (q : ℕ) → q ≢ p → nth new q ≡ nth all q

-- memories under other keys than this are as before
pub record KeepsBeside (key : Option ℕ) (table new : Table) : Type 0 where
  pub kept : (k : ℕ) → key ≢ Some k → IsSome (nth table k) → nth new k ≡ nth table k

abbrev pub key_of : Option Held → Option ℕ
key_of o = option_map (λ h. h.key) o

abbrev pub name_of : Option Held → Option ℕ
name_of o = option_map (λ h. h.made) o

-- and so are those that a process doesn't hold
pub record KeepsOthers (g : Guest) (tables new : Tables) : Type 0 where
  pub windows : KeepsBeside (key_of (window_part g)) tables.windows new.windows
  pub segments : KeepsBeside (key_of g.segment) tables.segments new.segments

view-mapped : (tables : Tables) (o : Option Guest) → option_map (λ (s : Shown). s.view) (option_map (shown_of tables) o) ≡ option_map (view_of tables) o
view-mapped tables None = refl
view-mapped tables (Some g) = refl

watch-mapped : (tables : Tables) (o : Option Guest) → option_map (λ (s : Shown). s.watch) (option_map (shown_of tables) o) ≡ option_map watch_of o
watch-mapped tables None = refl
watch-mapped tables (Some g) = refl

pub seen-shown : (all : List (Option Guest)) (tables : Tables) (p : ℕ) → seen_in (shown_all all tables) p ≡ option_map (view_of tables) (nth all p)
seen-shown all tables p = ap (option_map (λ (s : Shown). s.view)) (nth-map (shown_of tables) all p) ∙ view-mapped tables (nth all p)

pub watch-shown : (all : List (Option Guest)) (tables : Tables) (p : ℕ) → watch_in (shown_all all tables) p ≡ option_map watch_of (nth all p)
watch-shown all tables p = ap (option_map (λ (s : Shown). s.watch)) (nth-map (shown_of tables) all p) ∙ watch-mapped tables (nth all p)

-- a fact of each of two that stand
pub of-one : (P : Guest → Type 0) {o : Option Guest} {g : Guest} → o ≡ Some g → IfSome o P → P g
of-one P is holds = subst (λ (o : Option Guest). IfSome o P) is holds

pub of-two : (P : Guest → Guest → Type 0) {o u : Option Guest} {g h : Guest} → o ≡ Some g → u ≡ Some h → IfSome o (λ x. IfSome u (P x)) → P g h
of-two P {o} {u} {g} {h} is_o is_u holds =
    subst (λ (y : Option Guest). IfSome y (P g)) is_u (subst (λ (y : Option Guest). IfSome y (λ x. IfSome u (P x))) is_o holds)

-- a process sees its own segment as it is put
own-is : (o : Option Held) (window : ℕ) (space bytes : List ℕ) → IfSome o (λ s. s.made ≢ window) → (o ≡ None → bytes ≡ []) → (v : View) → v.body.segment ≡ name_of o → v.body.window ≡ window → v.segment ≡ bytes → own_segment v (name_of o) ≡ bytes
own-is o window space bytes h1 h2 v h3 h4 h5 = grind (arith, nat_tests, eq-eqb, laid_segment)

held-none : (table : Table) (o : Option Held) → o ≡ None → held_bytes table o ≡ []
held-none table None is = refl
held-none table (Some s) is = absurd (cc)

own-held : (tables : Tables) (g : Guest) → NameAlike g g → own_segment (view_of tables g) (name_of g.segment) ≡ held_bytes tables.segments g.segment
own-held tables g alike = own-is g.segment g.window.made (held_bytes tables.windows (window_part g)) (held_bytes tables.segments g.segment) alike.kinds (held-none tables.segments g.segment) (view_of tables g) refl refl refl

-- what another process sees of a memory of the other kind
other-kind : (o : Option Held) (k : ℕ) (bytes old : List ℕ) → IfSome o (λ s. s.made ≢ k) → laid_segment (name_of o) bytes k old ≡ old
other-kind None k bytes old apart = refl
other-kind (Some s) k bytes old apart = ap (λ t. cond t bytes old) (ne_eqb k s.made (λ (e : k ≡ s.made). apart (sym e)))

-- and of one of the same kind, which may be the same memory
other-held : (o : Option Held) (t : Held) (table new : Table) → IfSome o (λ s. SameNames s t) → IsSome (nth table t.key) → KeepsBeside (key_of o) table new → held_bytes new (Some t) ≡ laid_segment (name_of o) (held_bytes new o) t.made (held_bytes table (Some t))
other-held o t table new h1 h2 h3 = grind (arith, nat_tests, eqb-false, eqb-true)

other-window : (g h : Guest) (tables new : Tables) → NameAlike g h → IsSome (nth tables.windows h.window.key) → KeepsOthers g tables new → held_bytes new.windows (window_part h) ≡ laid (view_of new g) h.window.made (held_bytes tables.windows (window_part h))
other-window g h tables new alike there keeps =
    let bytes = held_bytes tables.windows (window_part h) in
    other-held (window_part g) h.window tables.windows new.windows alike.windows there keeps.windows
    ∙ ap (λ (rest : List ℕ). cond (h.window.made == g.window.made) (held_bytes new.windows (window_part g)) rest)
    (sym (other-kind g.segment h.window.made (held_bytes new.segments g.segment) bytes alike.kinds))

other-segment : (g h : Guest) (tables new : Tables) → NameAlike g h → NameAlike h g → IfHeld h.segment tables.segments → KeepsOthers g tables new → held_bytes new.segments h.segment ≡ fresh_segment (view_of new g) (name_of h.segment) (held_bytes tables.segments h.segment)
other-segment g h tables new alike back there keeps = by h.segment (by_both g.segment h.segment alike.segments) back.kinds there
  where
    by_both : (o u : Option Held) → IfSome o (λ s. IfSome u (SameNames s)) → IfSome u (λ t. IfSome o (λ s. SameNames s t))
    by_both o None both = tt
    by_both None (Some t) both = tt
    by_both (Some s) (Some t) both = both

    by : (u : Option Held) → IfSome u (λ t. IfSome g.segment (λ s. SameNames s t)) → IfSome u (λ t. t.made ≢ g.window.made) → IfHeld u tables.segments → held_bytes new.segments u ≡ fresh_segment (view_of new g) (name_of u) (held_bytes tables.segments u)
    by None names kinds there = refl
    by (Some t) names kinds there =
        let bytes = held_bytes tables.segments (Some t) in
        other-held g.segment t tables.segments new.segments names there keeps.segments
        ∙ ap (λ (b : Bool). cond b (held_bytes new.windows (window_part g)) (laid_segment (name_of g.segment) (held_bytes new.segments g.segment) t.made bytes)) (sym (ne_eqb t.made g.window.made kinds))

-- another process, after one has changed
refreshed-other : (g h : Guest) (tables new : Tables) → NameAlike g h → NameAlike h g → AreThere tables h → KeepsOthers g tables new → view_of new h ≡ refreshed (view_of new g) (view_of tables h)
refreshed-other g h tables new alike back there keeps =
    ap₂ (λ (a b : List ℕ). record { body = body_of h; window = a; segment = b }) (other-window g h tables new alike there.window keeps) (other-segment g h tables new alike back there.segment keeps)

-- a process that changes is put among what is shown
pub follows-put : (p : ℕ) (g : Guest) (all new : List (Option Guest)) (tables tables' : Tables) → IsSound all tables → IsSound new tables' → Changes p (Some g) all new → KeepsOthers g tables tables' → Follows (shown_all all tables) (put p (view_of tables' g)) (shown_all new tables')
follows-put p g all new tables tables' sound sound' changes keeps = record { shows = λ b h. record { same = λ q. by_test b h q (q == p) refl } }
  where
    own : (b : Bodies) → seen_in (shown_all new tables') p ≡ seen (put p (view_of tables' g) b) p
    own b =
        seen-shown new tables' p ∙ (ap (option_map (view_of tables')) changes.own
        ∙ (ap (λ (bytes : List ℕ). Some (record { body = body_of g; window = held_bytes tables'.windows (window_part g); segment = bytes })) (sym (own-held tables' g (of-two NameAlike changes.own changes.own (sound'.alike p p))))
        ∙ sym (seen-same p (view_of tables' g) b)))

    by_guest : (q : ℕ) → q ≢ p → (o : Option Guest) → nth all q ≡ o → option_map (view_of tables') o ≡ option_map (refreshed (view_of tables' g)) (option_map (view_of tables) o)
    by_guest q ne None is = refl
    by_guest q ne (Some h) is =
        let there : nth new q ≡ Some h = changes.kept q ne ∙ is in
        ap (λ (w : View). Some w)
        (refreshed-other g h tables tables' (of-two NameAlike changes.own there (sound'.alike p q)) (of-two NameAlike there changes.own (sound'.alike q p)) (of-one (AreThere tables) is (sound.there q)) keeps)

    other : (b : Bodies) → Shows (shown_all all tables) b → (q : ℕ) → q ≢ p → seen_in (shown_all new tables') q ≡ seen (put p (view_of tables' g) b) q
    other b h q ne =
        seen-shown new tables' q ∙ (ap (option_map (view_of tables')) (changes.kept q ne)
        ∙ (by_guest q ne (nth all q) refl
        ∙ (ap (option_map (refreshed (view_of tables' g))) (sym (seen-shown all tables q) ∙ h.same q)
        ∙ sym (seen-other p (view_of tables' g) b q ne))))

    by_test : (b : Bodies) → Shows (shown_all all tables) b → (q : ℕ) (t : Bool) → (q == p) ≡ t → seen_in (shown_all new tables') q ≡ seen (put p (view_of tables' g) b) q
    by_test b h q true e = subst (λ (i : ℕ). seen_in (shown_all new tables') i ≡ seen (put p (view_of tables' g) b) i) (sym (eqb-true q p e)) (own b)
    by_test b h q false e = other b h q (eqb-false q p e)

-- two processes name memories alike where one keeps what it holds
pub alike-named : (g g' h : Guest) → g'.window ≡ g.window → g'.segment ≡ g.segment → NameAlike g h → NameAlike g' h
alike-named g g' h window segment alike =
    record {
      windows = subst (λ (w : Held). SameNames w h.window) (sym window) alike.windows;
      segments = subst (λ (o : Option Held). IfSome o (λ s. IfSome h.segment (SameNames s))) (sym segment) alike.segments;
      kinds = subst (λ (o : Option Held). IfSome o (λ s. s.made ≢ h.window.made)) (sym segment) alike.kinds;
    }

pub named-alike : (g h h' : Guest) → h'.window ≡ h.window → h'.segment ≡ h.segment → NameAlike g h → NameAlike g h'
named-alike g h h' window segment alike =
    record {
      windows = subst (λ (w : Held). SameNames g.window w) (sym window) alike.windows;
      segments = subst (λ (u : Option Held). IfSome g.segment (λ s. IfSome u (SameNames s))) (sym segment) alike.segments;
      kinds = subst (λ (w : Held). IfSome g.segment (λ s. s.made ≢ w.made)) (sym window) alike.kinds;
    }

-- what is held is still in the table
held-stays : (table new : Table) (o u : Option Held) → IfHeld o new → KeepsBeside (key_of o) table new → IfHeld u table → IfHeld u new
held-stays table new o u h1 h2 h3 = grind (arith, nat_tests, eqb-false, eqb-true)

-- a process that names memories as all others do may be put among them
pub sound-put : (p : ℕ) (g : Guest) (all new : List (Option Guest)) (tables tables' : Tables) → IsSound all tables → Changes p (Some g) all new → KeepsOthers g tables tables' → AreThere tables' g → NameAlike g g → ((q : ℕ) → q ≢ p → IfSome (nth all q) (λ h. NameAlike g h × NameAlike h g)) → IsSound new tables'
sound-put p g all new tables tables' sound changes keeps there self beside = record { there = λ q. there_at q (q == p) refl; alike = λ q r. alike_at q r (q == p) (r == p) refl refl }
  where
    there_by : (o : Option Guest) → IfSome o (AreThere tables) → IfSome o (AreThere tables')
    there_by None h = tt
    there_by (Some h) w =
        record {
          window = held-stays tables.windows tables'.windows (window_part g) (window_part h) there.window keeps.windows w.window;
          segment = held-stays tables.segments tables'.segments g.segment h.segment there.segment keeps.segments w.segment;
        }

    there_at : (q : ℕ) (b : Bool) → (q == p) ≡ b → IfSome (nth new q) (AreThere tables')
    there_at q true e = subst (λ (o : Option Guest). IfSome o (AreThere tables')) (sym (ap (nth new) (eqb-true q p e) ∙ changes.own)) there
    there_at q false e = subst (λ (o : Option Guest). IfSome o (AreThere tables')) (sym (changes.kept q (eqb-false q p e))) (there_by (nth all q) (sound.there q))

    first : (o : Option Guest) → IfSome o (λ h. NameAlike g h × NameAlike h g) → IfSome o (NameAlike g)
    first None h = tt
    first (Some h) both = both.0

    second : (o : Option Guest) → IfSome o (λ h. NameAlike g h × NameAlike h g) → IfSome o (λ h. NameAlike h g)
    second None h = tt
    second (Some h) both = both.1

    at : (q r : ℕ) (x y : Option Guest) → nth new q ≡ x → nth new r ≡ y → IfSome x (λ g. IfSome y (NameAlike g)) → IfSome (nth new q) (λ g. IfSome (nth new r) (NameAlike g))
    at q r x y is_x is_y alike =
        subst (λ (o : Option Guest). IfSome o (λ g. IfSome (nth new r) (NameAlike g))) (sym is_x)
        (subst (λ (o : Option Guest). IfSome x (λ g. IfSome o (NameAlike g))) (sym is_y) alike)

    alike_at : (q r : ℕ) (b c : Bool) → (q == p) ≡ b → (r == p) ≡ c → IfSome (nth new q) (λ g. IfSome (nth new r) (NameAlike g))
    alike_at q r true true e f = at q r (Some g) (Some g) (ap (nth new) (eqb-true q p e) ∙ changes.own) (ap (nth new) (eqb-true r p f) ∙ changes.own) self
    alike_at q r true false e f = at q r (Some g) (nth all r) (ap (nth new) (eqb-true q p e) ∙ changes.own) (changes.kept r (eqb-false r p f)) (first (nth all r) (beside r (eqb-false r p f)))
    alike_at q r false true e f = at q r (nth all q) (Some g) (changes.kept q (eqb-false q p e)) (ap (nth new) (eqb-true r p f) ∙ changes.own) (second (nth all q) (beside q (eqb-false q p e)))
    alike_at q r false false e f = at q r (nth all q) (nth all r) (changes.kept q (eqb-false q p e)) (changes.kept r (eqb-false r p f)) (sound.alike q r)

-- a process that keeps its memories may change
pub sound-changed : (p : ℕ) (g g' : Guest) (all new : List (Option Guest)) (tables tables' : Tables) → IsSound all tables → nth all p ≡ Some g → g'.window ≡ g.window → g'.segment ≡ g.segment → Changes p (Some g') all new → KeepsOthers g' tables tables' → AreThere tables' g' → IsSound new tables'
sound-changed p g g' all new tables tables' sound is window segment changes keeps there =
    sound-put p g' all new tables tables' sound changes keeps there
    (alike-named g g' g' window segment (named-alike g g g' window segment (of-two NameAlike is is (sound.alike p p))))
    (λ q ne. beside q (nth all q) refl)
  where
    beside : (q : ℕ) → (o : Option Guest) → nth all q ≡ o → IfSome o (λ h. NameAlike g' h × NameAlike h g')
    beside q None e = tt
    beside q (Some h) e = (
      alike-named g g' h window segment (of-two NameAlike is e (sound.alike p q)),
      named-alike h g g' window segment (of-two NameAlike e is (sound.alike q p)),
    )

-- from what a process sees to what its act does
pub follows-done : (old new : Guests) (p event : ℕ) (act : Act) (v v' : View) → seen_in old p ≡ Some v → acted event act v ≡ Some v' → ((b : Bodies) → joined act event v b ≡ b) → Follows old (put p v') new → Follows old (done p event act) new
follows-done old new p event act v v' h1 h2 h3 h4 = grind (arith, nat_tests)

pub follows-changed : (p event : ℕ) (act : Act) (g g' : Guest) (all new : List (Option Guest)) (tables tables' : Tables) → IsSound all tables → nth all p ≡ Some g → g'.window ≡ g.window → g'.segment ≡ g.segment → Changes p (Some g') all new → KeepsOthers g' tables tables' → AreThere tables' g' → acted event act (view_of tables g) ≡ Some (view_of tables' g') → ((b : Bodies) → joined act event (view_of tables g) b ≡ b) → Follows (shown_all all tables) (done p event act) (shown_all new tables')
follows-changed p event act g g' all new tables tables' sound is window segment changes keeps there acts alone =
    follows-done (shown_all all tables) (shown_all new tables') p event act (view_of tables g) (view_of tables' g') (seen-shown all tables p ∙ ap (option_map (view_of tables)) is) acts alone
    (follows-put p g' all new tables tables' sound (sound-changed p g g' all new tables tables' sound is window segment changes keeps there) changes keeps)

pub set-changes : (p : ℕ) (x : Option Guest) (all : List (Option Guest)) → IsSome (nth all p) → Changes p x all (set all p x)
set-changes p x all there = record { own = nth-set all p x (IsSome-within all p there); kept = λ q ne. nth-set_other all p x q ne }

pub same-keeps : (g : Guest) (tables : Tables) → KeepsOthers g tables tables
same-keeps g tables = record { windows = record { kept = λ k other there. refl }; segments = record { kept = λ k other there. refl } }

pub watches-kept : (p : ℕ) (g g' : Guest) (all new : List (Option Guest)) (tables tables' : Tables) → nth all p ≡ Some g → watch_of g' ≡ watch_of g → Changes p (Some g') all new → KeepsWatches (shown_all all tables) (shown_all new tables')
watches-kept p g g' all new tables tables' is same changes = record { kept = λ q. watch-shown new tables' q ∙ (by_test q (q == p) refl ∙ sym (watch-shown all tables q)) }
  where
    by_test : (q : ℕ) (b : Bool) → (q == p) ≡ b → option_map watch_of (nth new q) ≡ option_map watch_of (nth all q)
    by_test q true e = ap (λ i. option_map watch_of (nth new i)) (eqb-true q p e) ∙ (ap (option_map watch_of) changes.own ∙ (ap (λ (w : Watch). Some w) same ∙ sym (ap (λ i. option_map watch_of (nth all i)) (eqb-true q p e) ∙ ap (option_map watch_of) is)))
    by_test q false e = ap (option_map watch_of) (changes.kept q (eqb-false q p e))

-- a process that is shown is kept
pub live-there : (guests : Guests) (all : List (Option Guest)) (tables : Tables) (p : ℕ) → shown_all all tables ≡ guests → IsSome (nth guests p) → IsSome (nth all p)
live-there guests all tables p is live = by_guest (nth all p) (subst (λ (o : Option Shown). IsSome o) (nth-map (shown_of tables) all p) (subst (λ (gs : Guests). IsSome (nth gs p)) (sym is) live))
  where
    by_guest : (o : Option Guest) → IsSome (option_map (shown_of tables) o) → IsSome o
    by_guest None h = h
    by_guest (Some g) h = refl

-- its memories are in the tables
pub there-of : (p : ℕ) (g : Guest) (all : List (Option Guest)) (tables : Tables) → IsSound all tables → nth all p ≡ Some g → AreThere tables g
there-of p g all tables sound is = of-one (AreThere tables) is (sound.there p)

-- other bytes in a memory that is held
pub held-keeps : (o : Option Held) (bytes : List ℕ) (table : Table) → KeepsBeside (key_of o) table (with_held o bytes table)
held-keeps None bytes table = record { kept = λ k other there. refl }
held-keeps (Some s) bytes table = record { kept = λ k other there. nth-set_other table s.key (Some bytes) k (λ (e : k ≡ s.key). other (ap (λ (n : ℕ). Some n) (sym e))) }

pub held-there : (o : Option Held) (bytes : List ℕ) (table : Table) → IfHeld o table → IfHeld o (with_held o bytes table)
held-there None bytes table there = tt
held-there (Some s) bytes table there = ap (λ (x : Option (List ℕ)). is_some x) (nth-set table s.key (Some bytes) (IsSome-within table s.key there))

-- a change that shows nothing
pub same-shown : (p : ℕ) (g g' : Guest) (all : List (Option Guest)) (tables tables' : Tables) → nth all p ≡ Some g → tables' ≡ tables → view_of tables g' ≡ view_of tables g → watch_of g' ≡ watch_of g → shown_all (set all p (Some g')) tables' ≡ shown_all all tables
same-shown p g g' all tables tables' is same view watch =
    ap (shown_all (set all p (Some g'))) same
    ∙ (map-set (option_map (shown_of tables)) all p (Some g')
    ∙ set-nth (shown_all all tables) p (Some (shown_of tables g')) (there (nth-map (shown_of tables) all p ∙ ap (option_map (shown_of tables)) is)) (nth-map (shown_of tables) all p ∙ (ap (option_map (shown_of tables)) is ∙ sym (ap (λ (s : Shown). Some s) shown))))
  where
    shown : shown_of tables g' ≡ shown_of tables g
    shown = ap₂ (λ (v : View) (w : Watch). record { view = v; watch = w }) view watch

    there : {o : Option Shown} → o ≡ Some (shown_of tables g) → IsSome o
    there e = ap (λ (o : Option Shown). is_some o) e
