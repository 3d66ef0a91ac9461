-- How a group's first process begins.
use Rattle.std.proofs.Common.{◌≡◌, ◌≢◌, ◌≤◌, ℕ, ◌+◌, List, length, Bool, true, None, not, refl, sym, ap, subst, arith}
use Rattle.arn_base.specs.declared.records.Give.{Give}
use Rattle.arn_base.specs.declared.records.Record.{Record}
use Rattle.arn_base.specs.declared.records.Record.TheVariants as entry
use Rattle.arn_base.specs.declared.records.Start.{Start}
use Rattle.parts_model.specs.Image.{is_image}
use Rattle.parts_model.specs.Memory.{zeros}
use Rattle.parts_model.specs.declared.limits.TheConstants.{WINDOW_LEN}
use Rattle.acts_model.specs.Acts.{Beginning, Starts, begun, beginning_in, done, unborn}
use Rattle.acts_model.specs.Bodies.{Bodies, put}
use Rattle.acts_model.specs.Disagreement.{isnt_block, or_else, wrong_if}
use Rattle.acts_model.specs.Views.{cpu_at}
use Rattle.guest_bodies.specs.Fresh.{OthersStayUnheld}
use Rattle.guest_bodies.specs.Follows.{Follows}
use Rattle.guest_bodies.specs.Shown.{Guests}
use Rattle.history_model.specs.Alone as alone
use Rattle.history_model.specs.Alone.{Own, Made, Makes}
use Rattle.replay_steps.specs.Notices.{Listener}
use Rattle.replay_steps.specs.Standing.{Reaches, Stands}
use Rattle.replay_steps.proofs.GoingOn.{goes-one}
use Rattle.replay_steps.proofs.Happens.{inside_of}

later-is-other : (event other : ℕ) → event + 1 ≤ other → other ≢ event
later-is-other event other le same = absurd (omega arith)

-- what process 1 was before its boot
abbrev pub unborn_beginning : Beginning
unborn_beginning = record { cpu = cpu_at 0; slot = None; window = zeros WINDOW_LEN }

abbrev pub with_unborn : ℕ → Bodies → Bodies
with_unborn event b = put 1 (unborn event) b

abbrev pub booted_own : ℕ → List ℕ → Give → Own → Own
booted_own event name give own =
    alone.noted (inside_of 1 event (entry.Boot name give) (unborn event) (Starts give.bytes 0 0)) (done 1 event (Starts give.bytes 0 0) (with_unborn event own.bodies)) (record own { bodies = with_unborn event own.bodies })

-- the boot, by whether the file is an image
abbrev pub boots_by : ℕ → List ℕ → Give → Own → Bool → Made
boots_by event name give own b =
    alone.unless_wrong event (or_else (wrong_if (not b) (length give.bytes) 0) (wrong_if (isnt_block (unborn event) 0 0) 0 0)) (Makes (booted_own event name give own))

-- from an image it begins
pub boots-image : (event : ℕ) (name : List ℕ) (give : Give) (own : Own) → is_image give.bytes ≡ true → alone.boots event (entry.Boot name give) own ≡ Makes (booted_own event name give own)
boots-image event name give own is = ap (boots_by event name give own) is

module _ {A : Type 0} (l : Listener A) (x y : A) (n event : ℕ) (guests guests' : Guests) (own : Own) (law : OthersStayUnheld) (stands : Stands guests event own) where
  pub began : (group : ℕ) (e : Record) (start : Start) → Follows guests (begun group event (beginning_in start)) guests' → l.begins x group event None y → Reaches l x n own (Makes (alone.begins group event e start own)) guests' (event + 1) y n
  began group e start follows begins =
      record {
        own' = alone.begins group event e start own;
        makes = refl;
        stands = record {
          shows = follows.shows own.bodies stands.shows;
          unheld = λ (other : ℕ) (le : event + 1 ≤ other). law.begins own.bodies group event other (beginning_in start) (later-is-other event other le) (stands.unheld other (omega arith));
        };
        goes_on = goes-one l x y n n own (alone.begins group event e start own) (alone.begin_inside group event e start) refl (y, begins, refl) (omega arith);
      }

  pub booted : (z : A) (name : List ℕ) (give : Give) → is_image give.bytes ≡ true → Follows guests (λ (b : Bodies). done 1 event (Starts give.bytes 0 0) (put 1 (unborn event) b)) guests' → l.begins x 1 event None z → l.hears z event (entry.Boot name give) (cpu_at 0) y → Reaches l x n own (alone.boots event (entry.Boot name give) own) guests' (event + 1) y n
  booted z name give image follows begins hears =
      record {
        own' = booted_own event name give own;
        makes = boots-image event name give own image;
        stands = record {
          shows = follows.shows own.bodies stands.shows;
          unheld = λ (other : ℕ) (le : event + 1 ≤ other). law.acts (with_unborn event own.bodies) 1 event other (Starts give.bytes 0 0) (later-is-other event other le)
              (law.begins own.bodies 1 event other unborn_beginning (later-is-other event other le) (stands.unheld other (omega arith)));
        };
        goes_on = goes-one l x y n n own (booted_own event name give own) (inside_of 1 event (entry.Boot name give) (unborn event) (Starts give.bytes 0 0)) refl (z, begins, (y, hears, refl)) (omega arith);
      }

  -- the record is a boot's, and the file is what it holds
  pub booted-as : (z : A) (e : Record) (name : List ℕ) (give : Give) (file : List ℕ) → e ≡ entry.Boot name give → file ≡ give.bytes → is_image file ≡ true → Follows guests (λ (b : Bodies). done 1 event (Starts file 0 0) (put 1 (unborn event) b)) guests' → l.begins x 1 event None z → l.hears z event e (cpu_at 0) y → Reaches l x n own (alone.boots event e own) guests' (event + 1) y n
  booted-as z e name give file is held image follows begins hears =
      subst (λ (r : Record). Reaches l x n own (alone.boots event r own) guests' (event + 1) y n) (sym is)
      (booted z name give (subst (λ (f : List ℕ). is_image f ≡ true) held image)
      (subst (λ (f : List ℕ). Follows guests (λ (b : Bodies). done 1 event (Starts f 0 0) (put 1 (unborn event) b)) guests') held follows) begins
      (subst (λ (r : Record). l.hears z event r (cpu_at 0) y) is hears))
