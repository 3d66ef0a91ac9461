-- A process runs many instructions.
use Rattle.std.proofs.Common.{◌≡◌, ℕ, zero, suc, Option, None, Some, IsSome, option_map, ap, sym, subst}
use Rattle.parts_model.specs.Numbered.{nth}
use Rattle.rv64_core.specs.declared.outcome.Outcome.TheVariants as outcome
use Rattle.acts_model.specs.Bodies.{View}
use Rattle.acts_model.specs.Views.{stands_at}
use Rattle.guest_bodies.specs.Fresh.{OthersStayUnheld}
use Rattle.guest_bodies.specs.Running.{RanMany}
use Rattle.guest_bodies.specs.Shown.{Guests, Shown}
use Rattle.guest_calls.specs.Kept.{IsPast, state_of}
use Rattle.guest_calls.specs.Running.{SteppedMany}
use Rattle.guest_calls.specs.Steps.{Stepped}
use Rattle.guest_calls.specs.declared.kernel.Kernel.TheInside.{Inside}
use Rattle.guest_calls.proofs.Past.{past-ran}
use Rattle.guest_calls.proofs.Runs.{ran-steps}
use Rattle.guest_calls.proofs.Stands.{of_process}

-- who sees something lives
sees-lives : (o : Option Shown) (v : View) → option_map (λ (s : Shown). s.view) o ≡ Some v → IsSome o
sees-lives None v is = cc
sees-lives (Some s) v is = cc

pub stepped-many : (k : Inside) (pid n : ℕ) (new : Guests) → RanMany n pid k.bodies new → SteppedMany n pid (state_of k) (state_of (record k { bodies = new }))
stepped-many k pid zero new same = ap (λ (g : Guests). state_of (record k { bodies = g })) same
stepped-many k pid (suc n) new ran =
    let between : Inside = record k { bodies = ran.between } in
    record {
      between = state_of between;
      before = stepped-many k pid n ran.between ran.before;
      live = sees-lives (nth ran.between pid) ran.ran.before ran.ran.stood;
      stepped =
          of_process (state_of between) pid (λ m v. Stepped outcome.Next m pid v (stands_at v) (state_of between) (state_of (record k { bodies = new })))
          (λ b v shows sees. ran-steps between pid new ran.watches b shows outcome.Next ran.ran tt (λ (e : outcome.Next ≡ outcome.NoMemory). cc) v sees);
    }

-- memories are named by events that have been, still
pub past-many : OthersStayUnheld → (guests : Guests) (events : ℕ) → IsPast guests events → (pid n : ℕ) (new : Guests) → RanMany n pid guests new → IsPast new events
past-many law guests events past pid zero new same = subst (λ (g : Guests). IsPast g events) (sym same) past
past-many law guests events past pid (suc n) new ran =
    past-ran law ran.between events (past-many law guests events past pid n ran.between ran.before) new pid outcome.Next ran.ran
