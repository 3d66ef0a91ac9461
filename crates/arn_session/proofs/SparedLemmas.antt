-- How those who answer for devices were touched where a session doesn't begin.
use Rattle.std.proofs.Common.{◌≡◌, ℕ, List, [], Bool, true, false, refl, sym}
use Rattle.std.specs.Prelude.{◌&&◌, not}
use Rattle.session_runs.specs.Touches.{Answering}
use Rattle.session_text.specs.Gone.{WereSpared, WereTouched}

and-true : (a : Bool) → (a && not false) ≡ a
and-true true = refl
and-true false = refl

-- who isn't touched is the same
pub untouched : {A : Type 0} (who : Answering A) (now : A) → WereTouched who now now
untouched who now = record { touches = []; slices = []; touched = (refl, refl); filled = λ device. sym (and-true (who.filled now device)) }

pub touched-none : {A : Type 0} (who : Answering A) (gone : List ℕ) (now : A) → WereSpared who gone now now
unfolding untouched
touched-none who gone now = record { were = untouched who now; spared = tt }
