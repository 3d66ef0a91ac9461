-- What others see, and what the process itself sees, after it is put or removed: no memory is named beside views.
use Rattle.std.proofs.Common.{◌≡◌, ℕ, List, [], refl, ap, ap₂, ◌∙◌, Option, Some, None, option_map, ◌==◌, cond, arith}
use Rattle.std.proofs.lemmas.Bool.Decides.{nat_tests}
use Rattle.std.proofs.lemmas.Bool.{eq-eqb}
use Rattle.acts_model.specs.Bodies.{Body, Bodies, View, body_at, memory_at, view, seen, segment_bytes, put, remove, laid, laid_segment}
use Rattle.guest_bodies.proofs.Places.{put-body, put-memory, remove-body, remove-memory}

-- a view after another process has put v
abbrev pub fresh_segment : View → Option ℕ → List ℕ → List ℕ
fresh_segment v None bytes = bytes
fresh_segment v (Some k) bytes = laid v k bytes

abbrev pub refreshed : View → View → View
refreshed v w = record { body = w.body; window = laid v w.body.window w.window; segment = fresh_segment v w.body.segment w.segment }

segment-put : (p : ℕ) (v : View) (b : Bodies) (o : Option ℕ) → segment_bytes (put p v b) o ≡ fresh_segment v o (segment_bytes b o)
segment-put p v b None = refl
segment-put p v b (Some k) = put-memory p v b k

view-put : (p : ℕ) (v : View) (b : Bodies) (x : Body) → view (put p v b) x ≡ refreshed v (view b x)
view-put p v b x = ap₂ (λ (a c : List ℕ). record { body = x; window = a; segment = c }) (put-memory p v b x.window) (segment-put p v b x.segment)

-- so a put is one on views: no memory is named beside them
pub seen-other : (p : ℕ) (v : View) (b : Bodies) (q : ℕ) → (q ≡ p → ⊥) → seen (put p v b) q ≡ option_map (refreshed v) (seen b q)
seen-other p v b q h1 = grind (arith, nat_tests, put-body, refreshed, view-put)

-- and its own view is there
abbrev pub own_segment : View → Option ℕ → List ℕ
own_segment v None = []
own_segment v (Some k) = laid v k []

laid-own : (v : View) (k : ℕ) (old : List ℕ) → v.body.segment ≡ Some k → laid v k old ≡ laid v k []
laid-own v k old h1 = grind (arith, nat_tests, eq-eqb, laid_segment)

pub seen-same : (p : ℕ) (v : View) (b : Bodies) → seen (put p v b) p ≡ Some (record { body = v.body; window = v.window; segment = own_segment v v.body.segment })
seen-same p v b =
    ap (option_map (view (put p v b))) (put-body p v b p ∙ ap (λ t. cond t (Some v.body) (body_at b p)) (eq-eqb p p refl))
    ∙ ap Some (ap₂ (λ (a c : List ℕ). record { body = v.body; window = a; segment = c }) window (segment v.body.segment refl))
  where
    window : memory_at (put p v b) v.body.window ≡ v.window
    window = put-memory p v b v.body.window ∙ ap (λ t. cond t v.window (laid_segment v.body.segment v.segment v.body.window (memory_at b v.body.window))) (eq-eqb v.body.window v.body.window refl)

    segment : (o : Option ℕ) → v.body.segment ≡ o → segment_bytes (put p v b) o ≡ own_segment v o
    segment None e = refl
    segment (Some k) e = put-memory p v b k ∙ laid-own v k (memory_at b k) e

pub seen-removed : (p : ℕ) (b : Bodies) (q : ℕ) → seen (remove p b) q ≡ cond (q == p) None (seen b q)
seen-removed p b q = grind (arith, nat_tests, remove-body, remove-memory)
