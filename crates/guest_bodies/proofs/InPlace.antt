-- Acts that change a process where it stands, and perhaps the bytes of what it holds.
use Rattle.std.proofs.Common.{◌≡◌, ℕ, ◌==◌, Bool, true, false, List, option_map, set, Option, Some, None, unwrap_or, IsSome, is_some, ap, subst, sym, refl, ◌∙◌, arith}
use Rattle.std.proofs.lemmas.Bool.Decides.{nat_tests}
use Rattle.arn_base.specs.declared.machine.Cpu.{Cpu}
use Rattle.std.proofs.lemmas.Bool.{eqb-true, eqb-false}
use Rattle.parts_model.specs.Numbered.{nth}
use Rattle.acts_model.specs.Acts.{Act, acted, joined, done, restored}
use Rattle.acts_model.specs.Bodies.{Bodies, View, put}
use Rattle.acts_model.specs.Views.{with_result}
use Rattle.guest_bodies.specs.Follows.{Follows, KeepsWatches, Rewatches, IsResult}
use Rattle.guest_bodies.specs.Kept.{AreThere, Contents, IsKept, IsSound, refilled, segment_part, shown_all, shown_of, view_of, watch_of, window_part}
use Rattle.guest_bodies.specs.Shown.{Guests, Watch, signals_of, signals_in}
use Rattle.guest_bodies.specs.Tables.{IfHeld, Tables, with_held}
use Rattle.guest_bodies.specs.declared.guest.Guest.{Guest}
use Rattle.guest_bodies.specs.declared.guest.Held.{Held}
use Rattle.guest_bodies.proofs.Changes.{Changes, KeepsBeside, KeepsOthers, key_of, sound-changed, set-changes, same-keeps, held-keeps, held-there, there-of, seen-shown, watch-shown, follows-put, follows-changed, watches-kept}
use Rattle.guest_bodies.proofs.Holders.{NoneComes, changed-holders, held-kept, with_held-comes}
use Rattle.guest_bodies.proofs.Numbers.{nth-map}

-- a process is found where it stands, and is this one from now on
pub record Place (guests : Guests) (all : List (Option Guest)) (tables : Tables) (p : ℕ) (g g' : Guest) : Type 0 where
  pub shown : shown_all all tables ≡ guests
  pub sound : IsSound all tables
  pub stands : nth all p ≡ Some g
  pub changes : Changes p (Some g') all (set all p (Some g'))

pub some-there : (all : List (Option Guest)) (p : ℕ) (g : Guest) → nth all p ≡ Some g → IsSome (nth all p)
some-there all p g is = ap (λ (o : Option Guest). is_some o) is

pub place : (guests : Guests) (all : List (Option Guest)) (tables : Tables) (p : ℕ) (g g' : Guest) → shown_all all tables ≡ guests → IsSound all tables → nth all p ≡ Some g → Place guests all tables p g g'
place guests all tables p g g' shown sound is =
    record { shown = shown; sound = sound; stands = is; changes = set-changes p (Some g') all (some-there all p g is) }

-- what a process holds is there where it holds the same
pub same-there : (tables : Tables) (g g' : Guest) → g'.window ≡ g.window → g'.segment ≡ g.segment → AreThere tables g → AreThere tables g'
same-there tables g g' window segment there =
    record {
      window = subst (λ (w : Held). IsSome (nth tables.windows w.key)) (sym window) there.window;
      segment = subst (λ (o : Option Held). IfHeld o tables.segments) (sym segment) there.segment;
    }

-- with other bytes in its memories
module _ {guests : Guests} {all : List (Option Guest)} {tables : Tables} {p : ℕ} {g g' : Guest} (at : Place guests all tables p g g') (window : g'.window ≡ g.window) (segment : g'.segment ≡ g.segment) (contents : Contents) (tables' : Tables) (is : tables' ≡ refilled g contents tables) where
  keeps : KeepsOthers g' tables tables'
  keeps =
      subst (KeepsOthers g' tables) (sym is)
      (record {
        windows = subst (λ (w : Held). KeepsBeside (key_of (Some w)) tables.windows (with_held (window_part g) contents.window tables.windows)) (sym window) (held-keeps (window_part g) contents.window tables.windows);
        segments = subst (λ (o : Option Held). KeepsBeside (key_of o) tables.segments (with_held g.segment contents.segment tables.segments)) (sym segment) (held-keeps g.segment contents.segment tables.segments);
      })

  there : AreThere tables' g'
  there =
      let here : AreThere tables g = there-of p g all tables at.sound at.stands in
      same-there tables' g g' window segment
      (subst (λ (l : Tables). AreThere l g) (sym is)
      (record {
        window = held-there (window_part g) contents.window tables.windows here.window;
        segment = held-there g.segment contents.segment tables.segments here.segment;
      }))

  pub moved-sound : IsSound (set all p (Some g')) tables'
  moved-sound = sound-changed p g g' all (set all p (Some g')) tables tables' at.sound at.stands window segment at.changes keeps there

  pub moved-kept : IsKept all tables → IsKept (set all p (Some g')) tables'
  moved-kept kept =
      let here : AreThere tables g = there-of p g all tables at.sound at.stands in
      record {
        sound = moved-sound;
        windows = held-kept window_part all (set all p (Some g')) tables.windows tables'.windows (changed-holders window_part p g g' all (set all p (Some g')) at.stands (ap (λ (w : Held). Some w) window) at.changes)
            (subst (λ (l : Tables). NoneComes tables.windows l.windows) (sym is) (with_held-comes (window_part g) contents.window tables.windows here.window)) kept.windows;
        segments = held-kept segment_part all (set all p (Some g')) tables.segments tables'.segments (changed-holders segment_part p g g' all (set all p (Some g')) at.stands segment at.changes)
            (subst (λ (l : Tables). NoneComes tables.segments l.segments) (sym is) (with_held-comes g.segment contents.segment tables.segments here.segment)) kept.segments;
      }

  pub moved-put : Follows guests (put p (view_of tables' g')) (shown_all (set all p (Some g')) tables')
  moved-put =
      subst (λ (old : Guests). Follows old (put p (view_of tables' g')) (shown_all (set all p (Some g')) tables')) at.shown
      (follows-put p g' all (set all p (Some g')) tables tables' at.sound moved-sound at.changes keeps)

  pub moved-follows : (event : ℕ) (act : Act) → acted event act (view_of tables g) ≡ Some (view_of tables' g') → ((b : Bodies) → joined act event (view_of tables g) b ≡ b) → Follows guests (done p event act) (shown_all (set all p (Some g')) tables')
  moved-follows event act acts alone =
      subst (λ (old : Guests). Follows old (done p event act) (shown_all (set all p (Some g')) tables')) at.shown
      (follows-changed p event act g g' all (set all p (Some g')) tables tables' at.sound at.stands window segment at.changes keeps there acts alone)

  pub moved-watches : watch_of g' ≡ watch_of g → KeepsWatches guests (shown_all (set all p (Some g')) tables')
  moved-watches same =
      subst (λ (old : Guests). KeepsWatches old (shown_all (set all p (Some g')) tables')) at.shown
      (watches-kept p g g' all (set all p (Some g')) tables tables' at.stands same at.changes)

-- with the same bytes
pub in_place-sound : {guests : Guests} {all : List (Option Guest)} {tables : Tables} {p : ℕ} {g g' : Guest} → Place guests all tables p g g' → g'.window ≡ g.window → g'.segment ≡ g.segment → IsSound (set all p (Some g')) tables
in_place-sound {guests} {all} {tables} {p} {g} {g'} at window segment =
    sound-changed p g g' all (set all p (Some g')) tables tables at.sound at.stands window segment at.changes (same-keeps g' tables)
    (same-there tables g g' window segment (there-of p g all tables at.sound at.stands))

-- and what it held is held still
pub in_place-kept : {guests : Guests} {all : List (Option Guest)} {tables : Tables} {p : ℕ} {g g' : Guest} → Place guests all tables p g g' → g'.window ≡ g.window → g'.segment ≡ g.segment → IsKept all tables → IsKept (set all p (Some g')) tables
in_place-kept {guests} {all} {tables} {p} {g} {g'} at window segment kept =
    record {
      sound = in_place-sound at window segment;
      windows = held-kept window_part all (set all p (Some g')) tables.windows tables.windows (changed-holders window_part p g g' all (set all p (Some g')) at.stands (ap (λ (w : Held). Some w) window) at.changes) (λ key there. there) kept.windows;
      segments = held-kept segment_part all (set all p (Some g')) tables.segments tables.segments (changed-holders segment_part p g g' all (set all p (Some g')) at.stands segment at.changes) (λ key there. there) kept.segments;
    }

pub in_place-follows : {guests : Guests} {all : List (Option Guest)} {tables : Tables} {p : ℕ} {g g' : Guest} → Place guests all tables p g g' → g'.window ≡ g.window → g'.segment ≡ g.segment → (event : ℕ) (act : Act) → acted event act (view_of tables g) ≡ Some (view_of tables g') → ((b : Bodies) → joined act event (view_of tables g) b ≡ b) → Follows guests (done p event act) (shown_all (set all p (Some g')) tables)
in_place-follows {guests} {all} {tables} {p} {g} {g'} at window segment event act acts alone =
    subst (λ (old : Guests). Follows old (done p event act) (shown_all (set all p (Some g')) tables)) at.shown
    (follows-changed p event act g g' all (set all p (Some g')) tables tables at.sound at.stands window segment at.changes (same-keeps g' tables)
    (same-there tables g g' window segment (there-of p g all tables at.sound at.stands)) acts alone)

pub in_place-watches : {guests : Guests} {all : List (Option Guest)} {tables : Tables} {p : ℕ} {g g' : Guest} → Place guests all tables p g g' → watch_of g' ≡ watch_of g → KeepsWatches guests (shown_all (set all p (Some g')) tables)
in_place-watches {guests} {all} {tables} {p} {g} {g'} at same =
    subst (λ (old : Guests). KeepsWatches old (shown_all (set all p (Some g')) tables)) at.shown
    (watches-kept p g g' all (set all p (Some g')) tables tables at.stands same at.changes)

-- the acts that are a result to their process
pub acted-result : (event answer : ℕ) (act : Act) (v : View) → IsResult act answer → acted event act v ≡ Some (with_result answer v)
acted-result event answer act v h1 = grind (arith, nat_tests)

pub joined-result : (event answer : ℕ) (act : Act) (v : View) → IsResult act answer → (b : Bodies) → joined act event v b ≡ b
joined-result event answer act v h1 b = grind (arith, nat_tests)

-- a handler ends, if one runs
pub restored-is : (tables : Tables) (g : Guest) (o : Option Cpu) → g.signals.slot ≡ o → restored o (view_of tables g) ≡ view_of tables (record g { cpu = unwrap_or o g.cpu; signals = record g.signals { slot = None } })
restored-is tables g None is = ap (λ (slot : Option Cpu). view_of tables (record g { signals = record g.signals { slot = slot } })) is
restored-is tables g (Some cpu) is = refl

-- a process that takes signals otherwise
pub in_place-rewatches : {guests : Guests} {all : List (Option Guest)} {tables : Tables} {p : ℕ} {g g' : Guest} → Place guests all tables p g g' → (change : Watch → Watch) → watch_of g' ≡ change (watch_of g) → view_of tables g' ≡ view_of tables g → Rewatches p change guests (shown_all (set all p (Some g')) tables)
in_place-rewatches {guests} {all} {tables} {p} {g} {g'} at change watch seen =
    subst (λ (old : Guests). Rewatches p change old (shown_all (set all p (Some g')) tables)) at.shown
    (record {
      own = watch-shown (set all p (Some g')) tables p ∙ (ap (option_map watch_of) at.changes.own ∙ (ap (λ (w : Watch). Some w) watch ∙ sym (ap (option_map change) (watch-shown all tables p ∙ ap (option_map watch_of) at.stands))));
      kept = λ q ne. watch-shown (set all p (Some g')) tables q ∙ (ap (option_map watch_of) (at.changes.kept q ne) ∙ sym (watch-shown all tables q));
      seen = λ q. seen-shown (set all p (Some g')) tables q ∙ (by_test q (q == p) refl ∙ sym (seen-shown all tables q));
    })
  where
    by_test : (q : ℕ) (b : Bool) → (q == p) ≡ b → option_map (view_of tables) (nth (set all p (Some g')) q) ≡ option_map (view_of tables) (nth all q)
    by_test q true e = ap (λ (i : ℕ). option_map (view_of tables) (nth (set all p (Some g')) i)) (eqb-true q p e) ∙ (ap (option_map (view_of tables)) at.changes.own ∙ (ap (λ (v : View). Some v) seen ∙ sym (ap (λ (i : ℕ). option_map (view_of tables) (nth all i)) (eqb-true q p e) ∙ ap (option_map (view_of tables)) at.stands)))
    by_test q false e = ap (option_map (view_of tables)) (at.changes.kept q (eqb-false q p e))

pub in_place-signals : {guests : Guests} {all : List (Option Guest)} {tables : Tables} {p : ℕ} {g g' : Guest} → Place guests all tables p g g' → signals_in guests p ≡ Some g.signals
in_place-signals {guests} {all} {tables} {p} {g} {g'} at =
    ap (λ (gs : Guests). signals_in gs p) (sym at.shown) ∙ (ap (option_map signals_of) (nth-map (shown_of tables) all p) ∙ ap (λ (o : Option Guest). option_map signals_of (option_map (shown_of tables) o)) at.stands)
