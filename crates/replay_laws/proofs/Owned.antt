-- Each memory is the window of one process or the segment of one group, and a window is whole.
use Rattle.std.proofs.Common.{◌≡◌, ◌⊎◌, inl, inr, ℕ, ◌<◌, ◌≤◌, length, refl, ap, ◌∙◌, sym, subst, Option, Some, None, IfSome, cond, arith, ne_eqb}
use Rattle.std.proofs.lemmas.Bool.Decides.{nat_tests}
use Rattle.std.proofs.lemmas.Bool.{eq-eqb, eqb-true, eqb-false}
use Rattle.parts_model.specs.declared.limits.TheConstants.{WINDOW_LEN}
use Rattle.acts_model.specs.Bodies.{Body, Bodies, View, body_at, memory_at, IsHolder, put, remove, laid_segment}
use Rattle.history_model.specs.Groups.{Groups}
use Rattle.history_model.specs.Moments.{changed}
use Rattle.replay_laws.proofs.Places.{put-body, put-memory, remove-body, remove-memory}

-- a memory is the window of one process, or the segment of one group
pub data Owner : Type 0 where
  Private : (pid : ℕ) → Owner
  Shared : (group : Option ℕ) → Owner

-- the body of process p holds memories of its own and of its group, made by earlier events
pub record Fits (owner : ℕ → Owner) (groups : Groups) (events p : ℕ) (x : Body) : Type 0 where
  pub window : (x.window < events) × (owner x.window ≡ Private p)
  pub segment : IfSome x.segment (λ k. (k < events) × (owner k ≡ Shared (groups p)))

abbrev pub Whole : Bodies → Body → Type 0
Whole b x = length (memory_at b x.window) ≡ WINDOW_LEN

pub record Owned (owner : ℕ → Owner) (groups : Groups) (events : ℕ) (b : Bodies) : Type 0 where
  pub fits : (p : ℕ) → IfSome (body_at b p) (Fits owner groups events p)
  pub whole : (p : ℕ) → IfSome (body_at b p) (Whole b)

pub changed-same : {A : Type 0} (f : ℕ → A) (k : ℕ) (x : A) → changed f k x k ≡ x
changed-same f k x = ap (λ b. cond b x (f k)) (eq-eqb k k refl)

pub changed-other : {A : Type 0} (f : ℕ → A) (k : ℕ) (x : A) (i : ℕ) → (i ≡ k → ⊥) → changed f k x i ≡ f i
changed-other f k x i h = ap (λ b. cond b x (f i)) (ne_eqb i k h)

-- ownership that is told of more events
pub segment-later : (owner owner' : ℕ → Owner) (n n' : ℕ) (g g' : Option ℕ) → ((k : ℕ) → k < n → owner' k ≡ owner k) → n ≤ n' → g' ≡ g → (o : Option ℕ) → IfSome o (λ k. (k < n) × (owner k ≡ Shared g)) → IfSome o (λ k. (k < n') × (owner' k ≡ Shared g'))
segment-later owner owner' n n' g g' same le e None h = tt
segment-later owner owner' n n' g g' same le e (Some k) h = (let lt = h.0 in omega arith, same k h.0 ∙ (h.1 ∙ ap Shared (sym e)))

pub fits-later : (owner owner' : ℕ → Owner) (gs : Groups) (n n' p : ℕ) (x : Body) → ((k : ℕ) → k < n → owner' k ≡ owner k) → n ≤ n' → Fits owner gs n p x → Fits owner' gs n' p x
fits-later owner owner' gs n n' p x h1 h2 h3 = grind (arith, nat_tests, segment-later)

pub owned-later : (owner owner' : ℕ → Owner) (gs : Groups) (n n' : ℕ) (b : Bodies) → ((k : ℕ) → k < n → owner' k ≡ owner k) → n ≤ n' → Owned owner gs n b → Owned owner' gs n' b
owned-later owner owner' gs n n' b h1 h2 h3 = grind (arith, nat_tests, fits-later)

-- whose memory k may be, if process q holds it
abbrev pub IsOf : (ℕ → Owner) → Groups → ℕ → ℕ → Type 0
IsOf owner gs q k = (owner k ≡ Private q) ⊎ (owner k ≡ Shared (gs q))

pub holder : (owner : ℕ → Owner) (gs : Groups) (n q : ℕ) (x : Body) (k : ℕ) → Fits owner gs n q x → IsHolder x k → IsOf owner gs q k
holder owner gs n q x k f (inl e) = inl (ap owner (sym e) ∙ f.window.1)
holder owner gs n q x k f (inr e) = inr ((let P = λ (o : Option ℕ). IfSome o (λ k. (k < n) × (owner k ≡ Shared (gs q))) in subst P e f.segment).1)

-- two processes that hold one memory are of one group
pub one-group : (owner : ℕ → Owner) (gs : Groups) (p q k : ℕ) → IsOf owner gs p k → IsOf owner gs q k → gs p ≡ gs q
one-group owner gs p q k h1 h2 = grind (arith, nat_tests)

-- so what one process does leaves what the processes of other groups hold
pub apart : (owner : ℕ → Owner) (gs : Groups) (n p q : ℕ) (v : View) (b : Bodies) (k : ℕ) → Fits owner gs n p v.body → (gs p ≡ gs q → ⊥) → IsOf owner gs q k → memory_at (put p v b) k ≡ memory_at b k
apart owner gs n p q v b k h1 h2 h3 = grind (arith, nat_tests, holder, laid_segment, one-group, put-memory)

pub put-owned : (owner : ℕ → Owner) (gs : Groups) (n p : ℕ) (v : View) (b : Bodies) → Fits owner gs n p v.body → length v.window ≡ WINDOW_LEN → Owned owner gs n b → Owned owner gs n (put p v b)
put-owned owner gs n p v b h1 h2 h3 = grind (arith, nat_tests, eq-eqb, eqb-false, eqb-true, laid_segment, put-body, put-memory)

pub remove-owned : (owner : ℕ → Owner) (gs : Groups) (n p : ℕ) (b : Bodies) → Owned owner gs n b → Owned owner gs n (remove p b)
remove-owned owner gs n p b h1 = grind (arith, nat_tests, remove-body, remove-memory)
