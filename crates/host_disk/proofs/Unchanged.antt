-- Bytes that stay as they are follow from themselves by a write or a cut.
use Rattle.std.proofs.Common.{ℕ, List, refl, arith}
use Rattle.arn_base.specs.Disk.{Torn, Cut}

pub Torn-self : (image : List ℕ) (at n : ℕ) → Torn at n image image
Torn-self image at n = record {
  before = refl;
  after = refl;
  no_shorter = omega arith;
  no_longer = omega arith;
}

pub Cut-self : (image : List ℕ) (len : ℕ) → Cut len image image
Cut-self image len = record { front = refl; no_shorter = omega arith; no_longer = omega arith }
