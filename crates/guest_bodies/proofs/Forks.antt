-- A process gets a result, and a child is put beside it.
use Rattle.std.proofs.Common.{◌≡◌, ◌≢◌, ℕ, ◌<◌, ◌==◌, Bool, true, false, List, [], length, set, Option, Some, None, IsSome, IsNone, IfSome, is_some, option_map, ap, subst, sym, refl, ◌∙◌, arith}
use Rattle.std.proofs.lemmas.Bool.Decides.{nat_tests}
use Rattle.std.proofs.lemmas.Bool.{eqb-true, eqb-false}
use Rattle.std.proofs.Math.ListN.{length-set}
use Rattle.parts_model.specs.Numbered.{nth}
use Rattle.acts_model.specs.Acts.{Forks, Founds, done, begun, beginning_of, child_view}
use Rattle.acts_model.specs.Bodies.{put}
use Rattle.acts_model.specs.Views.{returned}
use Rattle.guest_bodies.specs.Follows.{Follows, SetsWatch}
use Rattle.guest_bodies.specs.Kept.{AreThere, IsKept, IsSound, NameAlike, body_of, segment_part, shown_all, view_of, watch_of, window_part}
use Rattle.guest_bodies.specs.Shown.{Guests, Watch, IsFresh, IsUnheldBy, inherited, seen_in, watch_in}
use Rattle.guest_bodies.specs.Tables.{IfHeld, Tables}
use Rattle.guest_bodies.specs.declared.guest.Guest.{Guest}
use Rattle.guest_bodies.specs.declared.guest.Held.{Held}
use Rattle.guest_bodies.proofs.Begins.{GetsWindow, IsGrown, gets-comes, gets-keeps, gets-key, gets-there}
use Rattle.guest_bodies.proofs.Changes.{Changes, follows-put, of-one, same-keeps, seen-shown, sound-changed, sound-put, there-of, watch-shown}
use Rattle.guest_bodies.proofs.Fresh.{IsNew, child-among, child-self, lone-among, lone-self, new-of}
use Rattle.guest_bodies.proofs.Holders.{changed-holders, come-fresh, dead-there, held-kept, put-holders}
use Rattle.guest_bodies.proofs.InPlace.{same-there}
use Rattle.guest_bodies.proofs.Numbers.{IsSome-within, nth-set, nth-set_other}

-- the parent behind its call
abbrev pub answered : Guest → ℕ → Guest
answered parent child = record parent { cpu = returned parent.cpu child }

-- the list between: the parent has its result, and there is no child yet
abbrev pub between : List (Option Guest) → ℕ → Guest → ℕ → List (Option Guest)
between grown p parent child = set grown p (Some (answered parent child))

pub record Bears (guests : Guests) (all grown new : List (Option Guest)) (tables tables' : Tables) (p child event key : ℕ) (bytes : List ℕ) (parent made : Guest) : Type 0 where
  pub shown : shown_all all tables ≡ guests
  pub kept : IsKept all tables
  pub stands : nth all p ≡ Some parent
  pub dead : IsNone (nth all child)
  pub new_event : IsNew event all
  pub first : Changes p (Some (answered parent child)) all (between grown p parent child)
  pub second : Changes child (Some made) (between grown p parent child) new
  pub gets : GetsWindow event key bytes made tables tables'

-- a process that lives isn't the one that doesn't
dead-other : (all : List (Option Guest)) (p child : ℕ) (parent : Guest) → nth all p ≡ Some parent → IsNone (nth all child) → p ≢ child
dead-other all p child parent is dead same = none_some (nth all child) (ap (λ (i : ℕ). nth all i) (sym same) ∙ is) dead
  where
    none_some : (o : Option Guest) → o ≡ Some parent → IsNone o → ⊥
    none_some None e dead = cc
    none_some (Some x) e dead = cc

pub bears : (guests : Guests) (all grown new : List (Option Guest)) (tables tables' : Tables) (p child event key : ℕ) (bytes : List ℕ) (parent made : Guest) → shown_all all tables ≡ guests → IsKept all tables → nth all p ≡ Some parent → IsNone (nth guests child) → IsFresh guests event → IsGrown all grown → child < length grown → IfSome (nth grown p) (λ g. new ≡ set (set grown p (Some (answered g child))) child (Some made)) → GetsWindow event key bytes made tables tables' → Bears guests all grown new tables tables' p child event key bytes parent made
bears guests all grown new tables tables' p child event key bytes parent made shown kept stands dead fresh grows room forked gets =
    let here : nth grown p ≡ Some parent = grows.same p ∙ stands in
    let there : IsSome (nth grown p) = ap (λ (o : Option Guest). is_some o) here in
    let is : new ≡ set (between grown p parent child) child (Some made) = of-one (λ (g : Guest). new ≡ set (set grown p (Some (answered g child))) child (Some made)) here forked in
    let within : child < length (between grown p parent child) = omega (arith, room, length-set grown p (Some (answered parent child))) in
    record {
      shown = shown;
      kept = kept;
      stands = stands;
      dead = dead-there guests all tables child shown dead;
      new_event = new-of guests all tables event shown fresh;
      first = record {
        own = nth-set grown p (Some (answered parent child)) (IsSome-within grown p there);
        kept = λ q ne. nth-set_other grown p (Some (answered parent child)) q ne ∙ grows.same q;
      };
      second = record {
        own = ap (λ (l : List (Option Guest)). nth l child) is ∙ nth-set (between grown p parent child) child (Some made) within;
        kept = λ q ne. ap (λ (l : List (Option Guest)). nth l q) is ∙ nth-set_other (between grown p parent child) child (Some made) q ne;
      };
      gets = gets;
    }

module _ {guests : Guests} {all grown new : List (Option Guest)} {tables tables' : Tables} {p child event key : ℕ} {bytes : List ℕ} {parent made : Guest} (at : Bears guests all grown new tables tables' p child event key bytes parent made) where
  abbrev mid : List (Option Guest)
  mid = between grown p parent child

  own-there : AreThere tables parent
  own-there = there-of p parent all tables at.kept.sound at.stands

  sound-mid : IsSound mid tables
  sound-mid = sound-changed p parent (answered parent child) all mid tables tables at.kept.sound at.stands refl refl at.first (same-keeps (answered parent child) tables) (same-there tables parent (answered parent child) refl refl own-there)

  unheld : IsUnheldBy event (body_of parent)
  unheld = of-one (λ (g : Guest). IsUnheldBy event (body_of g)) at.stands (at.new_event.unheld p)

  new-mid : IsNew event mid
  new-mid = record { unheld = λ q. by_test q (q == p) refl }
    where
      by_test : (q : ℕ) (b : Bool) → (q == p) ≡ b → IfSome (nth mid q) (λ g. IsUnheldBy event (body_of g))
      by_test q true e = subst (λ (o : Option Guest). IfSome o (λ g. IsUnheldBy event (body_of g))) (sym (ap (nth mid) (eqb-true q p e) ∙ at.first.own)) (record { window = unheld.window; segment = unheld.segment })
      by_test q false e = subst (λ (o : Option Guest). IfSome o (λ g. IsUnheldBy event (body_of g))) (sym (at.first.kept q (eqb-false q p e))) (at.new_event.unheld q)

  bears-sound : IfHeld made.segment tables'.segments → NameAlike made made → ((q : ℕ) → IfSome (nth mid q) (λ h. NameAlike made h × NameAlike h made)) → IsSound new tables'
  bears-sound there self beside =
      sound-put child made mid new tables tables' sound-mid at.second (gets-keeps at.gets) (record { window = gets-there at.gets; segment = there }) self (λ q ne. beside q)

  pub bears-follows : IsSound new tables' → Follows guests (λ b. put child (view_of tables' made) (put p (view_of tables (answered parent child)) b)) (shown_all new tables')
  bears-follows sound =
      let f = follows-put p (answered parent child) all mid tables tables at.kept.sound sound-mid at.first (same-keeps (answered parent child) tables) in
      let g = follows-put child made mid new tables tables' sound-mid sound at.second (gets-keeps at.gets) in
      subst (λ (old : Guests). Follows old (λ b. put child (view_of tables' made) (put p (view_of tables (answered parent child)) b)) (shown_all new tables')) at.shown
      (record { shows = λ b h. g.shows (put p (view_of tables (answered parent child)) b) (f.shows b h) })

  pub bears-seen : seen_in guests p ≡ Some (view_of tables parent)
  bears-seen = ap (λ (gs : Guests). seen_in gs p) (sym at.shown) ∙ (seen-shown all tables p ∙ ap (option_map (view_of tables)) at.stands)

  pub bears-watch : watch_of made ≡ inherited (watch_of parent) → SetsWatch child (option_map inherited (watch_in guests p)) guests (shown_all new tables')
  bears-watch same =
      subst (λ (old : Guests). SetsWatch child (option_map inherited (watch_in old p)) old (shown_all new tables')) at.shown
      (record {
        own = watch-shown new tables' child ∙ (ap (option_map watch_of) at.second.own ∙ (ap (λ (w : Watch). Some w) same ∙ sym (ap (option_map inherited) (watch-shown all tables p ∙ ap (option_map watch_of) at.stands))));
        kept = λ q ne. watch-shown new tables' q ∙ (ap (option_map watch_of) (at.second.kept q ne) ∙ (by_test q (q == p) refl ∙ sym (watch-shown all tables q)));
      })
    where
      by_test : (q : ℕ) (b : Bool) → (q == p) ≡ b → option_map watch_of (nth mid q) ≡ option_map watch_of (nth all q)
      by_test q true e = ap (λ (i : ℕ). option_map watch_of (nth mid i)) (eqb-true q p e) ∙ (ap (option_map watch_of) at.first.own ∙ sym (ap (λ (i : ℕ). option_map watch_of (nth all i)) (eqb-true q p e) ∙ ap (option_map watch_of) at.stands))
      by_test q false e = ap (option_map watch_of) (at.first.kept q (eqb-false q p e))

  -- what was held is held still, and the new window is
  bears-kept : IsSound new tables' → IsKept new tables'
  bears-kept sound =
      let none : IsNone (nth mid child) = ap (λ (o : Option Guest). is_some o) (at.first.kept child (λ (e : child ≡ p). dead-other all p child parent at.stands at.dead (sym e))) ∙ at.dead in
      record {
        sound = sound;
        windows = come-fresh window_part child key made mid new bytes tables.windows tables'.windows none (gets-key at.gets) at.gets.adds at.second
            (held-kept window_part all mid tables.windows tables.windows (changed-holders window_part p parent (answered parent child) all mid at.stands refl at.first) (λ k here. here) at.kept.windows);
        segments = held-kept segment_part mid new tables.segments tables'.segments (put-holders segment_part child (Some made) mid new none at.second) (gets-comes at.gets)
            (held-kept segment_part all mid tables.segments tables.segments (changed-holders segment_part p parent (answered parent child) all mid at.stands refl at.first) (λ k here. here) at.kept.segments);
      }

  -- a child that shares its parent's segment
  fork-sound : made.segment ≡ parent.segment → IsSound new tables'
  fork-sound segment =
      bears-sound
      (subst (λ (o : Option Held). IfHeld o tables'.segments) (sym segment) (subst (IfHeld parent.segment) (sym at.gets.same) own-there.segment))
      (child-self event key tables at.gets.adds.none made parent at.gets.window segment unheld)
      (child-among event key tables at.gets.adds.none made (answered parent child) mid p sound-mid new-mid at.first.own at.gets.window segment)

  pub fork-kept : made.segment ≡ parent.segment → IsKept new tables'
  fork-kept segment = bears-kept (fork-sound segment)

  pub fork-follows : made.segment ≡ parent.segment → view_of tables' made ≡ child_view event (beginning_of (view_of tables parent)) (view_of tables parent).body.segment (view_of tables parent).segment → Follows guests (done p event (Forks child)) (shown_all new tables')
  fork-follows h1 h2 = grind (arith, nat_tests, answered, bears-follows, bears-seen, fork-sound)

  -- a child without a segment
  found-sound : made.segment ≡ None → IsSound new tables'
  found-sound segment =
      bears-sound (subst (λ (o : Option Held). IfHeld o tables'.segments) (sym segment) tt) (lone-self event key tables at.gets.adds.none made segment)
      (lone-among event key tables at.gets.adds.none made mid sound-mid new-mid at.gets.window segment)

  pub found-kept : made.segment ≡ None → IsKept new tables'
  found-kept segment = bears-kept (found-sound segment)

  pub found-follows : made.segment ≡ None → view_of tables' made ≡ child_view event (beginning_of (view_of tables parent)) None [] → IfSome (seen_in guests p) (λ v. Follows guests (λ b. begun child event (beginning_of v) (done p event (Founds child) b)) (shown_all new tables'))
  found-follows h1 h2 = grind (arith, nat_tests, answered, bears-follows, bears-seen, found-sound)
