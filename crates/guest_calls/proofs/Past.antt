-- Memories that processes hold were made at events that have been.
use Rattle.std.proofs.Common.{◌≡◌, ◌≢◌, ℕ, ◌+◌, ◌≤◌, IfSome, None, Option, Some, List, [], refl, sym, ◌∙◌, arith}
use Rattle.parts_model.specs.declared.limits.TheConstants.{WINDOW_LEN}
use Rattle.parts_model.specs.Memory.{zeros}
use Rattle.acts_model.specs.Acts.{Act, Forks, Founds, Starts, begun, beginning_of, done, founded, unborn}
use Rattle.acts_model.specs.Bodies.{View, body_at, nobody, put, seen}
use Rattle.acts_model.specs.Views.{cpu_at, with_cpu, with_reach}
use Rattle.guest_bodies.specs.Follows.{Follows, Ran}
use Rattle.guest_bodies.specs.Fresh.{OthersStayUnheld}
use Rattle.guest_bodies.specs.Shown.{Guests, IsFresh, IsUnheldBy, seen_in}
use Rattle.rv64_core.specs.declared.outcome.Outcome.{Outcome}
use Rattle.arn_model.specs.ProcessCalls.{child_act}
use Rattle.guest_calls.specs.Forks.{with_child}
use Rattle.guest_calls.specs.Kept.{IsPast}

none-seen : (p : ℕ) → seen_in [] p ≡ seen nobody p
unfolding body_at
none-seen p = refl

none-held : (event p : ℕ) → IfSome (body_at nobody p) (IsUnheldBy event)
unfolding body_at
none-held event p = tt

pub past-none : IsPast [] 0
past-none = record { bodies = nobody; shows = record { same = none-seen }; unheld = λ event later. record { unheld = none-held event } }

pub past-more : (guests : Guests) (events : ℕ) → IsPast guests events → IsPast guests (events + 1)
past-more guests events past = record { bodies = past.bodies; shows = past.shows; unheld = λ event later. past.unheld event (omega (arith, later)) }

pub past-seen : (old new : Guests) (events : ℕ) → ((p : ℕ) → seen_in new p ≡ seen_in old p) → IsPast old events → IsPast new events
past-seen old new events same past = record { bodies = past.bodies; shows = record { same = λ p. same p ∙ past.shows.same p }; unheld = past.unheld }

module _ (law : OthersStayUnheld) (guests : Guests) (events : ℕ) (past : IsPast guests events) where
  -- the next event is fresh
  pub past-fresh : IsFresh guests events
  past-fresh = law.shown guests past.bodies events past.shows (past.unheld events (omega arith))

  isnt : (event : ℕ) → events + 1 ≤ event → event ≢ events
  isnt event later = λ (e : event ≡ events). omega (arith, later, e)

  pub past-acted : (new : Guests) (pid : ℕ) (act : Act) → Follows guests (done pid events act) new → IsPast new (events + 1)
  past-acted new pid act follows =
      record {
        bodies = done pid events act past.bodies;
        shows = follows.shows past.bodies past.shows;
        unheld = λ event later. law.acts past.bodies pid events event act (isnt event later) (past.unheld event (omega (arith, later)));
      }

  pub past-ran : (new : Guests) (pid : ℕ) (outcome : Outcome) → Ran outcome pid guests new → IsPast new events
  past-ran new pid outcome ran =
      record {
        bodies = put pid (with_reach ran.memory (with_cpu ran.cpu ran.before)) past.bodies;
        shows = ran.follows.shows past.bodies past.shows;
        unheld = λ event later. law.runs past.bodies pid event ran.before ran.cpu ran.memory (sym (past.shows.same pid) ∙ ran.stood) (past.unheld event later);
      }

  pub past-begun : (new : Guests) (file : List ℕ) → Follows guests (λ b. done 1 events (Starts file 0 0) (put 1 (unborn events) b)) new → IsPast new (events + 1)
  past-begun new file follows =
      record {
        bodies = done 1 events (Starts file 0 0) (put 1 (unborn events) past.bodies);
        shows = follows.shows past.bodies past.shows;
        unheld =
            λ event later. law.acts (put 1 (unborn events) past.bodies) 1 events event (Starts file 0 0) (isnt event later)
            (law.begins past.bodies 1 events event (record { cpu = cpu_at 0; slot = None; window = zeros WINDOW_LEN }) (isnt event later) (past.unheld event (omega (arith, later))));
      }

  pub past-founded : (new : Guests) (pid child : ℕ) (v : View) → Follows guests (λ b. begun child events (beginning_of v) (done pid events (Founds child) b)) new → IsPast new (events + 1)
  past-founded new pid child v follows =
      record {
        bodies = begun child events (beginning_of v) (done pid events (Founds child) past.bodies);
        shows = follows.shows past.bodies past.shows;
        unheld =
            λ event later. law.begins (done pid events (Founds child) past.bodies) child events event (beginning_of v) (isnt event later)
            (law.acts past.bodies pid events event (Founds child) (isnt event later) (past.unheld event (omega (arith, later))));
      }

  past-by : (new : Guests) (pid child : ℕ) (v : View) (segment : Option ℕ) → Follows guests (λ b. founded (child_act segment child) events (beginning_of v) (done pid events (child_act segment child) b)) new → IsPast new (events + 1)
  past-by new pid child v None follows = past-founded new pid child v follows
  past-by new pid child v (Some s) follows = past-acted new pid (Forks child) follows

  pub past-child : (new : Guests) (pid child : ℕ) (v : View) → Follows guests (with_child pid child events v) new → IsPast new (events + 1)
  past-child new pid child v follows = past-by new pid child v v.body.segment follows
