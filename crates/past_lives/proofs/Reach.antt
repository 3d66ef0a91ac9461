-- Windows of full length are reached exactly where their addresses are.
use Rattle.std.proofs.Common.{◌≡◌, ℕ, ◌||◌, if◌then◌else◌, Bool, true, false, is_some, List, Option, Some, refl, arith}
use Rattle.std.proofs.lemmas.Bool.Decides.{nat_tests}
use Rattle.acts_model.specs.Bodies.{View}
use Rattle.acts_model.specs.Views.{can_reach}
use Rattle.past_lives.specs.Members.{is_present}
use Rattle.past_lives.proofs.Sizes.{HasSizes}

if-some : (b : Bool) (x : List ℕ) (o : Option (List ℕ)) → is_some (if b then Some x else o) ≡ (b || is_some o)
if-some true x o = refl
if-some false x o = refl

or-none : (b : Bool) → (b || false) ≡ b
or-none true = refl
or-none false = refl

pub reaches-present : (v : View) → HasSizes v → (at len : ℕ) → can_reach v at len ≡ is_present (is_some v.body.segment) at len
reaches-present v h1 at len = grind (arith, nat_tests, if-some, or-none)
