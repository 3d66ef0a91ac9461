-- Bodies and memories as places: what is put is found, and nothing else changes.
use Rattle.std.proofs.Common.{◌≡◌, ℕ, Some, None, ◌==◌, cond, refl}
use Rattle.acts_model.specs.Bodies.{Bodies, View, body_at, memory_at, laid, put, remove}

pub put-body : (p : ℕ) (v : View) (b : Bodies) (q : ℕ) → body_at (put p v b) q ≡ cond (q == p) (Some v.body) (body_at b q)
unfolding put body_at
put-body p v b q = refl

pub put-memory : (p : ℕ) (v : View) (b : Bodies) (k : ℕ) → memory_at (put p v b) k ≡ laid v k (memory_at b k)
unfolding put memory_at
put-memory p v b k = refl

pub remove-body : (p : ℕ) (b : Bodies) (q : ℕ) → body_at (remove p b) q ≡ cond (q == p) None (body_at b q)
unfolding remove body_at
remove-body p b q = refl

pub remove-memory : (p : ℕ) (b : Bodies) (k : ℕ) → memory_at (remove p b) k ≡ memory_at b k
unfolding remove memory_at
remove-memory p b k = refl
