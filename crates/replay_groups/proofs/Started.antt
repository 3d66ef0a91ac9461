-- The group of each process, and that it was started, also with one more process.
use Rattle.std.proofs.Common.{◌≡◌, ◌≢◌, inl, inr, ℕ, zero, suc, ◌+◌, ◌-◌, ◌<◌, List, [], ◌∷◌, ◌++◌, length, Option, Some, None, refl, ap, arith}
use Rattle.std.specs.Prelude.{slice_get, IfSome}
use Rattle.std.proofs.lemmas.Bool.Decides.{eqb_tells}
use Rattle.std.proofs.lemmas.Option.{slice_get_within}
use Rattle.replay_groups.specs.Groups.{group_at, IsStarted}

slice_get-last : (groups : List ℕ) (group : ℕ) → slice_get (groups ++ group ∷ []) (length groups) ≡ Some group
slice_get-last [] group = refl
slice_get-last (g ∷ groups) group = slice_get-last groups group

slice_get-front : (groups : List ℕ) (group i : ℕ) → i ≢ length groups → slice_get (groups ++ group ∷ []) i ≡ slice_get groups i
slice_get-front [] group zero differs = absurd (differs refl)
slice_get-front [] group (suc i) differs = refl
slice_get-front (g ∷ groups) group zero differs = refl
slice_get-front (g ∷ groups) group (suc i) differs =
    slice_get-front groups group i (λ e. differs (ap suc e))

-- the next process, and every other number
pub group_at-next : (groups : List ℕ) (group pid : ℕ) → pid ≡ length groups + 1 → group_at (groups ++ group ∷ []) pid ≡ Some group
group_at-next groups group zero next = absurd (omega arith)
group_at-next groups group (suc i) next =
    let last : i ≡ length groups = omega arith in rw last (slice_get-last groups group)

pub group_at-other : (groups : List ℕ) (group pid : ℕ) → pid ≢ length groups + 1 → group_at (groups ++ group ∷ []) pid ≡ group_at groups pid
group_at-other groups group zero differs = refl
group_at-other groups group (suc i) differs =
    slice_get-front groups group i (λ e. differs (omega arith))

-- a group that was started has a process's number
pub started-some : (groups : List ℕ) (group : ℕ) → IsStarted groups group → 0 < group
started-some groups zero is_started = cc
started-some groups (suc i) is_started = omega arith

pub started-inside : (groups : List ℕ) (group : ℕ) → IsStarted groups group → group - 1 < length groups
started-inside groups zero is_started = cc
started-inside groups (suc i) is_started =
    let inside : i < length groups = slice_get_within groups i (suc i) is_started in omega arith

-- it was also started where there is one more process
pub started-later : (groups : List ℕ) (more group : ℕ) → IsStarted groups group → IsStarted (groups ++ more ∷ []) group
started-later groups more group is_started =
    let some = started-some groups group is_started in
    let inside = started-inside groups group is_started in
    rw (group_at-other groups more group (λ e. absurd (omega (arith, some, inside, e)))) is_started

if_started-later : (groups : List ℕ) (more : ℕ) (group : Option ℕ) → IfSome group (IsStarted groups) → IfSome group (IsStarted (groups ++ more ∷ []))
if_started-later groups more None is_started = tt
if_started-later groups more (Some group) is_started = started-later groups more group is_started

-- each process's group was started, where the next one's was
pub all-started : (groups : List ℕ) (group : ℕ) → ((pid : ℕ) → IfSome (group_at groups pid) (IsStarted groups)) → IsStarted (groups ++ group ∷ []) group → (pid : ℕ) → IfSome (group_at (groups ++ group ∷ []) pid) (IsStarted (groups ++ group ∷ []))
all-started groups group were is_started pid =
    elim (eqb_tells pid (length groups + 1)) [
      | inl h ↦ rw (group_at-next groups group pid h.1) is_started
      | inr h ↦ rw (group_at-other groups group pid h.1) (if_started-later groups group (group_at groups pid) (were pid))
    ]
