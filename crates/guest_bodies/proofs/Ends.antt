-- A process ends.
use Rattle.std.proofs.Common.{◌≡◌, ℕ, ◌==◌, Bool, true, false, cond, List, set, Option, Some, None, IsSome, option_map, ap, subst, sym, refl, ◌∙◌, arith}
use Rattle.std.proofs.lemmas.Bool.Decides.{nat_tests}
use Rattle.std.proofs.lemmas.Bool.{eqb-true, eqb-false}
use Rattle.parts_model.specs.Numbered.{nth}
use Rattle.acts_model.specs.Acts.{Act, done_by, done}
use Rattle.acts_model.specs.Bodies.{Bodies, View, seen, remove}
use Rattle.guest_bodies.specs.Follows.{Shows, Follows, SetsWatch, IsEnd}
use Rattle.guest_bodies.specs.Kept.{IsSound, shown_all, view_of, watch_of}
use Rattle.guest_bodies.specs.Tables.{Tables}
use Rattle.guest_bodies.specs.Shown.{Guests, Shown}
use Rattle.guest_bodies.specs.declared.guest.Guest.{Guest}
use Rattle.guest_bodies.proofs.Changes.{Changes, set-changes, live-there, seen-shown, watch-shown}
use Rattle.guest_bodies.proofs.Puts.{seen-removed}

abbrev no_guest : Option Guest
no_guest = None

pub sound-gone : (p : ℕ) (all new : List (Option Guest)) (tables : Tables) → IsSound all tables → Changes p None all new → IsSound new tables
sound-gone p all new tables h1 h2 = grind (arith, nat_tests, eqb-false, eqb-true, no_guest)

follows-gone : (p : ℕ) (all new : List (Option Guest)) (tables : Tables) → Changes p None all new → Follows (shown_all all tables) (remove p) (shown_all new tables)
follows-gone p all new tables changes = record { shows = λ b h. record { same = λ q. seen-shown new tables q ∙ (by_test b h q (q == p) refl ∙ sym (seen-removed p b q)) } }
  where
    by_test : (b : Bodies) → Shows (shown_all all tables) b → (q : ℕ) (t : Bool) → (q == p) ≡ t → option_map (view_of tables) (nth new q) ≡ cond (q == p) None (seen b q)
    by_test b h q true e = ap (λ (i : ℕ). option_map (view_of tables) (nth new i)) (eqb-true q p e) ∙ (ap (option_map (view_of tables)) changes.own ∙ sym (ap (λ (t : Bool). cond t None (seen b q)) e))
    by_test b h q false e = ap (option_map (view_of tables)) (changes.kept q (eqb-false q p e)) ∙ (sym (seen-shown all tables q) ∙ (h.same q ∙ sym (ap (λ (t : Bool). cond t None (seen b q)) e)))

done-end : (event : ℕ) (act : Act) (v : View) → IsEnd act → (p : ℕ) (b : Bodies) → done_by p event act (Some v) b ≡ remove p b
done-end event act v h1 p b = grind (arith, nat_tests)

pub follows-end : (guests : Guests) (p event : ℕ) (act : Act) (all : List (Option Guest)) (tables : Tables) → IsEnd act → shown_all all tables ≡ guests → IsSome (nth guests p) → Follows guests (done p event act) (shown_all (set all p None) tables)
follows-end guests p event act all tables end is live = record { shows = λ b h. record { same = λ q. (gone.shows b h).same q ∙ sym (ap (λ (c : Bodies). seen c q) (done_is b h (nth guests p) refl live)) } }
  where
    gone : Follows guests (remove p) (shown_all (set all p None) tables)
    gone = subst (λ (old : Guests). Follows old (remove p) (shown_all (set all p None) tables)) is (follows-gone p all (set all p None) tables (set-changes p None all (live-there guests all tables p is live)))

    done_is : (b : Bodies) → Shows guests b → (o : Option Shown) → nth guests p ≡ o → IsSome o → done p event act b ≡ remove p b
    done_is b h None e live = cc
    done_is b h (Some s) e live = ap (λ (o : Option View). done_by p event act o b) (sym (h.same p) ∙ ap (option_map (λ (x : Shown). x.view)) e) ∙ done-end event act s.view end p b

pub ends-watch : (guests : Guests) (p : ℕ) (all : List (Option Guest)) (tables : Tables) → shown_all all tables ≡ guests → IsSome (nth guests p) → SetsWatch p None guests (shown_all (set all p None) tables)
ends-watch guests p all tables is live =
    let changes = set-changes p None all (live-there guests all tables p is live) in
    subst (λ (old : Guests). SetsWatch p None old (shown_all (set all p None) tables)) is
    (record {
      own = watch-shown (set all p None) tables p ∙ ap (option_map watch_of) changes.own;
      kept = λ q ne. watch-shown (set all p None) tables q ∙ (ap (option_map watch_of) (changes.kept q ne) ∙ sym (watch-shown all tables q));
    })
