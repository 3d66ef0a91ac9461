-- How a process starts from an image: one that lives, or process 1 among none.
use Rattle.std.proofs.Common.{◌≡◌, ℕ, ◌<◌, ◌==◌, Bool, true, false, List, [], length, set, Option, Some, None, IfSome, IsNone, is_some, option_map, ap, subst, sym, refl, ◌∙◌, arith}
use Rattle.std.proofs.lemmas.Bool.Decides.{nat_tests}
use Rattle.std.proofs.lemmas.Bool.{eqb-true, eqb-false}
use Rattle.arn_base.specs.declared.machine.Cpu.{Cpu}
use Rattle.parts_model.specs.Image.{read_as_image}
use Rattle.parts_model.specs.Numbered.{nth}
use Rattle.parts_model.specs.Signals.{no_handlers, no_signals}
use Rattle.acts_model.specs.Acts.{Beginning, Starts, child_view, done, done_by, started, unborn}
use Rattle.acts_model.specs.Bodies.{Bodies, View, seen, put, laid}
use Rattle.acts_model.specs.Views.{cpu_at_start, read, window_at_start}
use Rattle.guest_bodies.specs.Follows.{Follows, SetsWatch}
use Rattle.guest_bodies.specs.Kept.{AllHeld, IsKept, IsSound, segment_part, shown_all, view_of, watch_of, window_part}
use Rattle.guest_bodies.specs.Tables.{Tables}
use Rattle.guest_bodies.specs.Shown.{Guests, Watch, IsFresh, fresh_watch, restarted, seen_in, watch_in}
use Rattle.guest_bodies.specs.declared.guest.Guest.{Guest}
use Rattle.guest_bodies.specs.declared.starting.First.{First}
use Rattle.guest_bodies.proofs.Begins.{GetsWindow, IsGrown, begins-follows, begins-kept, begins-sound, begins-watch, gets-key, gets-view}
use Rattle.guest_bodies.proofs.Changes.{follows-done, seen-shown, watch-shown}
use Rattle.guest_bodies.proofs.Fresh.{named}
use Rattle.guest_bodies.proofs.Holders.{OthersHeld, given-back, given-fresh}
use Rattle.guest_bodies.proofs.InPlace.{Place}
use Rattle.guest_bodies.proofs.Numbers.{IsSome-within}
use Rattle.guest_bodies.proofs.Puts.{fresh_segment, refreshed, seen-other, seen-same}

abbrev pub starting : Guest → ℕ → ℕ → Cpu → Guest
starting g event key cpu =
    record {
      cpu = cpu;
      signals = record g.signals { handlers = no_handlers; slot = None };
      window = named event key;
      segment = None;
    }

abbrev pub booting : ℕ → ℕ → Cpu → Guest
booting event key cpu = record { cpu = cpu; signals = no_signals; window = named event key; segment = None }

-- registers and window as an image and a block give them
pub record IsFirst (file block : List ℕ) (first : First) : Type 0 where
  pub cpu : first.cpu ≡ cpu_at_start (read_as_image file).entry (length block)
  pub space : first.space.bytes ≡ window_at_start (read_as_image file) block

-- what it sees then
started-is : (event key : ℕ) (file block : List ℕ) (first : First) (g : Guest) (tables tables' : Tables) → IsFirst file block first → g.cpu ≡ first.cpu → g.signals.slot ≡ None → g.segment ≡ None → GetsWindow event key first.space.bytes g tables tables' → view_of tables' g ≡ started event (read_as_image file) block
started-is event key file block first g tables tables' is h1 h2 h3 gets = grind (arith, nat_tests, gets-view, is)

same-grown : (all : List (Option Guest)) → IsGrown all all
same-grown all = record { same = λ q. refl }

-- a process that lives
module _ {guests : Guests} {all : List (Option Guest)} {tables tables' : Tables} {p : ℕ} {g : Guest} (event key : ℕ) (first : First) (at : Place guests all tables p g (starting g event key first.cpu)) (fresh : IsFresh guests event) (gets : GetsWindow event key first.space.bytes (starting g event key first.cpu) tables tables') where
  room : p < length all
  room = IsSome-within all p (ap (λ (o : Option Guest). is_some o) at.stands)

  abbrev started_all : List (Option Guest)
  started_all = set all p (Some (starting g event key first.cpu))

  pub starts-sound : IsSound started_all tables'
  starts-sound = begins-sound p at.shown at.sound fresh (same-grown all) room gets refl

  pub starts-windows : AllHeld window_part all tables.windows → OthersHeld window_part (window_part g) started_all tables'.windows
  starts-windows windows =
      given-fresh window_part p key g (starting g event key first.cpu) all started_all first.space.bytes tables.windows tables'.windows at.stands (gets-key gets) gets.adds at.changes windows

  pub starts-segments : AllHeld segment_part all tables.segments → OthersHeld segment_part g.segment started_all tables'.segments
  starts-segments segments =
      subst (OthersHeld segment_part g.segment started_all) (sym gets.same)
      (given-back segment_part p g (Some (starting g event key first.cpu)) all started_all tables.segments at.stands at.changes segments)

  starts-seen : seen_in guests p ≡ Some (view_of tables g)
  starts-seen = ap (λ (gs : Guests). seen_in gs p) (sym at.shown) ∙ (seen-shown all tables p ∙ ap (option_map (view_of tables)) at.stands)

  -- what it begins with, told by what it sees
  pub starts-first : (file : List ℕ) (from len : ℕ) → IfSome (seen_in guests p) (λ v. first.cpu ≡ cpu_at_start (read_as_image file).entry (length (read v from len))) → IfSome (seen_in guests p) (λ v. first.space.bytes ≡ window_at_start (read_as_image file) (read v from len)) → IsFirst file (read (view_of tables g) from len) first
  starts-first file from len cpu space =
      record {
        cpu = subst (λ (o : Option View). IfSome o (λ v. first.cpu ≡ cpu_at_start (read_as_image file).entry (length (read v from len)))) starts-seen cpu;
        space = subst (λ (o : Option View). IfSome o (λ v. first.space.bytes ≡ window_at_start (read_as_image file) (read v from len))) starts-seen space;
      }

  pub starts-follows : (file block : List ℕ) (from len : ℕ) → IsFirst file block first → block ≡ read (view_of tables g) from len → Follows guests (done p event (Starts file from len)) (shown_all started_all tables')
  starts-follows file block from len is bytes =
      follows-done guests (shown_all started_all tables') p event (Starts file from len) (view_of tables g) (view_of tables' (starting g event key first.cpu)) starts-seen
      (ap (λ (l : List ℕ). Some (started event (read_as_image file) l)) (sym bytes) ∙ ap (λ (v : View). Some v) (sym (started-is event key file block first (starting g event key first.cpu) tables tables' is refl refl refl gets)))
      (λ b. refl)
      (begins-follows p at.shown at.sound fresh (same-grown all) room gets refl)

  pub starts-watch : SetsWatch p (option_map restarted (watch_in guests p)) guests (shown_all started_all tables')
  starts-watch =
      subst (λ (w : Option Watch). SetsWatch p w guests (shown_all started_all tables'))
      (sym (ap (option_map restarted) (ap (λ (gs : Guests). watch_in gs p) (sym at.shown) ∙ (watch-shown all tables p ∙ ap (option_map watch_of) at.stands))))
      (begins-watch p at.shown at.sound fresh (same-grown all) room gets refl)

-- where no process lives, every event is fresh
pub none-fresh : (guests : Guests) (event : ℕ) → ((p : ℕ) → IsNone (nth guests p)) → IsFresh guests event
none-fresh guests event h1 = grind (arith, nat_tests)

-- a process that is put twice in the same window
laid-twice : (event : ℕ) (b c : Beginning) (k : ℕ) (old : List ℕ) → laid (child_view event b None []) k (laid (child_view event c None []) k old) ≡ laid (child_view event b None []) k old
laid-twice event b c k old = grind (arith, nat_tests)

refreshed-twice : (event : ℕ) (b c : Beginning) (v : View) → refreshed (child_view event b None []) (refreshed (child_view event c None []) v) ≡ refreshed (child_view event b None []) v
refreshed-twice event b c v = grind (arith, nat_tests, fresh_segment, laid-twice)

put-twice : (p event : ℕ) (b c : Beginning) (old : Bodies) (q : ℕ) → seen (put p (child_view event b None []) (put p (child_view event c None []) old)) q ≡ seen (put p (child_view event b None []) old) q
put-twice p event b c old q = by_test (q == p) refl
  where
    twice : (o : Option View) → option_map (refreshed (child_view event b None [])) (option_map (refreshed (child_view event c None [])) o) ≡ option_map (refreshed (child_view event b None [])) o
    twice None = refl
    twice (Some v) = ap (λ (w : View). Some w) (refreshed-twice event b c v)

    own : seen (put p (child_view event b None []) (put p (child_view event c None []) old)) p ≡ seen (put p (child_view event b None []) old) p
    own = seen-same p (child_view event b None []) (put p (child_view event c None []) old) ∙ sym (seen-same p (child_view event b None []) old)

    other : (q ≡ p → ⊥) → seen (put p (child_view event b None []) (put p (child_view event c None []) old)) q ≡ seen (put p (child_view event b None []) old) q
    other ne =
        seen-other p (child_view event b None []) (put p (child_view event c None []) old) q ne
        ∙ (ap (option_map (refreshed (child_view event b None []))) (seen-other p (child_view event c None []) old q ne)
        ∙ (twice (seen old q) ∙ sym (seen-other p (child_view event b None []) old q ne)))

    by_test : (t : Bool) → (q == p) ≡ t → seen (put p (child_view event b None []) (put p (child_view event c None []) old)) q ≡ seen (put p (child_view event b None []) old) q
    by_test true e = subst (λ (i : ℕ). seen (put p (child_view event b None []) (put p (child_view event c None []) old)) i ≡ seen (put p (child_view event b None []) old) i) (sym (eqb-true q p e)) own
    by_test false e = other (eqb-false q p e)

-- what process 1 sees before and behind its start
abbrev before_birth : ℕ → Beginning
before_birth event = record { cpu = (unborn event).body.cpu; slot = None; window = (unborn event).window }

abbrev at_birth : List ℕ → Beginning
at_birth file = record { cpu = cpu_at_start (read_as_image file).entry 0; slot = None; window = window_at_start (read_as_image file) [] }

pub born : (event : ℕ) (file : List ℕ) (guests new : Guests) → Follows guests (put 1 (started event (read_as_image file) [])) new → Follows guests (λ b. done 1 event (Starts file 0 0) (put 1 (unborn event) b)) new
born event file guests new follows =
    record { shows = λ b h. record { same = λ q. (follows.shows b h).same q ∙ (sym (put-twice 1 event (at_birth file) (before_birth event) b q) ∙ ap (λ (c : Bodies). seen c q) (sym (done_is b))) } }
  where
    done_is : (b : Bodies) → done 1 event (Starts file 0 0) (put 1 (unborn event) b) ≡ put 1 (started event (read_as_image file) []) (put 1 (unborn event) b)
    done_is b = ap (λ (o : Option View). done_by 1 event (Starts file 0 0) o (put 1 (unborn event) b)) (seen-same 1 (unborn event) b)

-- process 1 among none
module _ {guests : Guests} {all grown : List (Option Guest)} {tables tables' : Tables} (event key : ℕ) (first : First) (is : shown_all all tables ≡ guests) (sound : IsSound all tables) (none : (p : ℕ) → IsNone (nth guests p)) (grows : IsGrown all grown) (room : 1 < length grown) (gets : GetsWindow event key first.space.bytes (booting event key first.cpu) tables tables') where
  abbrev booted_all : List (Option Guest)
  booted_all = set grown 1 (Some (booting event key first.cpu))

  pub boots-kept : AllHeld window_part all tables.windows → AllHeld segment_part all tables.segments → IsKept booted_all tables'
  boots-kept windows segments = begins-kept 1 is sound (none-fresh guests event none) grows room gets refl (none 1) windows segments

  pub boots-follows : (file : List ℕ) → IsFirst file [] first → Follows guests (λ b. done 1 event (Starts file 0 0) (put 1 (unborn event) b)) (shown_all booted_all tables')
  boots-follows file from =
      born event file guests (shown_all booted_all tables')
      (subst (λ (v : View). Follows guests (put 1 v) (shown_all booted_all tables')) (started-is event key file [] first (booting event key first.cpu) tables tables' from refl refl refl gets)
      (begins-follows 1 is sound (none-fresh guests event none) grows room gets refl))

  pub boots-watch : SetsWatch 1 (Some fresh_watch) guests (shown_all booted_all tables')
  boots-watch = begins-watch 1 is sound (none-fresh guests event none) grows room gets refl
