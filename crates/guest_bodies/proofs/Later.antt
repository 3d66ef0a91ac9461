-- A later event made nothing that is held.
use Rattle.std.proofs.Common.{◌≡◌, ◌<◌, ℕ, Option, Some, None, IfSome, arith}
use Rattle.std.proofs.lemmas.Bool.Decides.{nat_tests}
use Rattle.acts_model.specs.Bodies.{Body}
use Rattle.guest_bodies.specs.Fresh.{IsBefore, LaterIsFresh}
use Rattle.guest_bodies.specs.Shown.{IsUnheldBy}

unnamed : (event : ℕ) (o : Option ℕ) → IfSome o (λ made. made < event) → o ≡ Some event → ⊥
unnamed event None before e = cc
unnamed event (Some made) before e = let same : made ≡ event = cc in omega (arith, before, same)

unheld : (event : ℕ) (x : Body) → IsBefore event x → IsUnheldBy event x
unheld event x before = record { window = λ (e : x.window ≡ event). omega (arith, before.window, e); segment = unnamed event x.segment before.segment }

pub later : LaterIsFresh
later = grind (arith, nat_tests, unheld)
