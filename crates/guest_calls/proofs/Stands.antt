-- Machines for which a state stands.
use Rattle.std.proofs.Common.{◌≡◌, ℕ, ◌+◌, Option, Some, IfSome, refl, sym, ap, ap₂, ◌∙◌, subst}
use Rattle.acts_model.specs.Acts.{done}
use Rattle.acts_model.specs.Bodies.{Bodies, View, seen}
use Rattle.arn_model.specs.Doing.{Doing}
use Rattle.arn_model.specs.Kernel.{Machine}
use Rattle.arn_model.specs.Step.{after_act}
use Rattle.guest_bodies.specs.Follows.{Shows}
use Rattle.guest_bodies.specs.Shown.{seen_in}
use Rattle.guest_requests.specs.Tables.{OfTables, Tables}
use Rattle.guest_calls.specs.Acted.{Acted}
use Rattle.guest_calls.specs.State.{State, StandsFor, OfProcess, Becomes}
use Rattle.guest_calls.specs.Tables.{tables_in}

-- the machine of a state, with bodies that show the same
abbrev pub machine_with : Bodies → State → Machine
machine_with b s = record { bodies = b; kernel = s.kernel; events = s.events }

pub same-machine : (s : State) (m : Machine) → StandsFor s m → machine_with m.bodies s ≡ m
same-machine s m stands = ap₂ (λ k e. record { bodies = m.bodies; kernel = k; events = e }) stands.kernel stands.events

-- what holds of the machine of a state holds of each that it stands for
pub of_process : (s : State) (pid : ℕ) (P : Machine → View → Type 0) → ((b : Bodies) (v : View) → Shows s.guests b → seen_in s.guests pid ≡ Some v → P (machine_with b s) v) → OfProcess s pid P
of_process s pid P holds m v stands sees =
    subst (λ (x : Machine). P x v) (same-machine s m stands)
    (holds m.bodies v (record { same = stands.seen }) (stands.seen pid ∙ sees))

pub becomes : (s : State) (change : Machine → Machine) (new : State) → ((b : Bodies) → Shows s.guests b → StandsFor new (change (machine_with b s))) → Becomes s change new
becomes s change new holds =
    record { stands = λ m stands. subst (λ (x : Machine). StandsFor new (change x)) (same-machine s m stands) (holds m.bodies (record { same = stands.seen })) }

-- a process has done an act, and the machine of its event's step says so
pub acted-stands : (s new : State) (pid : ℕ) (v : View) (b : Bodies) (d : Doing) → Shows s.guests b → Acted pid d.act d.kernel s new → after_act (machine_with b s) pid v d.act ≡ done pid s.events d.act b → StandsFor new (record { bodies = after_act (machine_with b s) pid v d.act; kernel = d.kernel; events = s.events + 1 })
acted-stands s new pid v b d shows acted alone =
    record {
      seen = λ p. (acted.follows.shows b shows).same p ∙ ap (λ (x : Bodies). seen x p) (sym alone);
      kernel = acted.kernel;
      events = acted.events;
    }

-- a fact of what a process sees
pub at-seen : (o : Option View) (v : View) (P : View → Type 0) → o ≡ Some v → IfSome o P → P v
at-seen o v P is holds = subst (λ (x : Option View). IfSome x P) is holds

pub stands-with : (s : State) (b : Bodies) → Shows s.guests b → StandsFor s (machine_with b s)
stands-with s b shows = record { seen = λ p. shows.same p; kernel = refl; events = refl }

-- a fact of the tables of a state
pub of-tables : (s : State) (pid : ℕ) (t : Tables) (P : Machine → View → Type 0) → t ≡ tables_in s → OfTables t pid P → OfProcess s pid P
of-tables s pid t P is holds m v stands sees = subst (λ (x : Tables). OfTables x pid P) is holds m v stands.kernel (stands.seen pid ∙ sees)
