-- A process is put in a new window, without a segment.
use Rattle.std.proofs.Common.{◌≡◌, ℕ, ◌==◌, ◌<◌, true, List, [], length, set, Option, Some, None, IsNone, IsSome, is_some, option_map, unwrap_or, ap, ap₂, subst, sym, refl, ◌∙◌}
use Rattle.std.proofs.lemmas.Bool.{eq-eqb}
use Rattle.parts_model.specs.Numbered.{nth}
use Rattle.acts_model.specs.Bodies.{put}
use Rattle.guest_bodies.specs.Follows.{Follows, SetsWatch}
use Rattle.guest_bodies.specs.Kept.{AllHeld, IsKept, IsSound, body_of, has_key, segment_part, shown_all, view_of, watch_of, window_part}
use Rattle.guest_bodies.specs.Shown.{Guests, IsFresh}
use Rattle.guest_bodies.specs.Tables.{Adds, IfHeld, Table, Tables, held_bytes}
use Rattle.guest_bodies.specs.declared.guest.Guest.{Guest}
use Rattle.guest_bodies.specs.declared.guest.Held.{Held}
use Rattle.guest_bodies.proofs.Changes.{Changes, KeepsOthers, follows-put, sound-put, watch-shown}
use Rattle.guest_bodies.proofs.Fresh.{lone-among, lone-self, named, new-of}
use Rattle.guest_bodies.proofs.Holders.{NoneComes, come-fresh, dead-there, held-kept, put-holders}
use Rattle.guest_bodies.proofs.Numbers.{nth-set, nth-set_other}

-- a list that shows the same
pub record IsGrown (all grown : List (Option Guest)) : Type 0 where
  pub same : (q : ℕ) → nth grown q ≡ nth all q

pub grown-changes : (all grown : List (Option Guest)) (p : ℕ) (g : Guest) → IsGrown all grown → p < length grown → Changes p (Some g) all (set grown p (Some g))
grown-changes all grown p g grows room = record { own = nth-set grown p (Some g) room; kept = λ q ne. nth-set_other grown p (Some g) q ne ∙ grows.same q }

-- the tables got a window under a new key, and a process holds it
pub record GetsWindow (event key : ℕ) (bytes : List ℕ) (g : Guest) (tables tables' : Tables) : Type 0 where
  pub window : g.window ≡ named event key
  pub adds : Adds key bytes tables.windows tables'.windows
  pub same : tables'.segments ≡ tables.segments

module _ {event key : ℕ} {bytes : List ℕ} {g : Guest} {tables tables' : Tables} (gets : GetsWindow event key bytes g tables tables') where
  pub gets-keeps : KeepsOthers g tables tables'
  gets-keeps =
      record {
        windows = record { kept = λ k other there. gets.adds.others k (λ (e : k ≡ key). other (ap (λ (n : ℕ). Some n) (ap (λ (w : Held). w.key) gets.window ∙ sym e))) };
        segments = record { kept = λ k other there. ap (λ (t : Table). nth t k) gets.same };
      }

  pub gets-there : IsSome (nth tables'.windows g.window.key)
  gets-there = ap (λ (w : Held). is_some (nth tables'.windows w.key)) gets.window ∙ ap (λ (o : Option (List ℕ)). is_some o) gets.adds.one

  pub gets-bytes : held_bytes tables'.windows (window_part g) ≡ bytes
  gets-bytes = ap (λ (w : Held). unwrap_or (nth tables'.windows w.key) []) gets.window ∙ ap (λ (o : Option (List ℕ)). unwrap_or o []) gets.adds.one

  pub gets-view : view_of tables' g ≡ record { body = body_of g; window = bytes; segment = held_bytes tables.segments g.segment }
  gets-view = ap₂ (λ (w : List ℕ) (t : Table). record { body = body_of g; window = w; segment = held_bytes t g.segment }) gets-bytes gets.same

  pub gets-key : has_key key (window_part g) ≡ true
  gets-key = ap (λ (w : Held). w.key == key) gets.window ∙ eq-eqb key key refl

  pub gets-comes : NoneComes tables.segments tables'.segments
  gets-comes = λ k there. subst (λ (t : Table). IsSome (nth t k)) gets.same there

module _ {guests : Guests} {all grown : List (Option Guest)} {tables tables' : Tables} {event key : ℕ} {bytes : List ℕ} {g : Guest} (p : ℕ) (is : shown_all all tables ≡ guests) (sound : IsSound all tables) (fresh : IsFresh guests event) (grows : IsGrown all grown) (room : p < length grown) (gets : GetsWindow event key bytes g tables tables') (segment : g.segment ≡ None) where
  changes : Changes p (Some g) all (set grown p (Some g))
  changes = grown-changes all grown p g grows room

  pub begins-sound : IsSound (set grown p (Some g)) tables'
  begins-sound =
      sound-put p g all (set grown p (Some g)) tables tables' sound changes (gets-keeps gets)
      (record { window = gets-there gets; segment = subst (λ (o : Option Held). IfHeld o tables'.segments) (sym segment) tt })
      (lone-self event key tables gets.adds.none g segment)
      (λ q ne. lone-among event key tables gets.adds.none g all sound (new-of guests all tables event is fresh) gets.window segment q)

  pub begins-kept : IsNone (nth guests p) → AllHeld window_part all tables.windows → AllHeld segment_part all tables.segments → IsKept (set grown p (Some g)) tables'
  begins-kept dead windows segments =
      let none : IsNone (nth all p) = dead-there guests all tables p is dead in
      record {
        sound = begins-sound;
        windows = come-fresh window_part p key g all (set grown p (Some g)) bytes tables.windows tables'.windows none (gets-key gets) gets.adds changes windows;
        segments = held-kept segment_part all (set grown p (Some g)) tables.segments tables'.segments (put-holders segment_part p (Some g) all (set grown p (Some g)) none changes) (gets-comes gets) segments;
      }

  pub begins-follows : Follows guests (put p (view_of tables' g)) (shown_all (set grown p (Some g)) tables')
  begins-follows =
      subst (λ (old : Guests). Follows old (put p (view_of tables' g)) (shown_all (set grown p (Some g)) tables')) is
      (follows-put p g all (set grown p (Some g)) tables tables' sound begins-sound changes (gets-keeps gets))

  pub begins-watch : SetsWatch p (Some (watch_of g)) guests (shown_all (set grown p (Some g)) tables')
  begins-watch =
      subst (λ (old : Guests). SetsWatch p (Some (watch_of g)) old (shown_all (set grown p (Some g)) tables')) is
      (record {
        own = watch-shown (set grown p (Some g)) tables' p ∙ ap (λ (o : Option Guest). option_map watch_of o) changes.own;
        kept = λ q ne. watch-shown (set grown p (Some g)) tables' q ∙ (ap (λ (o : Option Guest). option_map watch_of o) (changes.kept q ne) ∙ sym (watch-shown all tables q));
      })
