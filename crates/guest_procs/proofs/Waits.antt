-- What is found among the numbers of the processes that are there.
use Rattle.std.proofs.Common.{◌≡◌, ◌≢◌, inl, inr, ℕ, ◌&&◌, not, Bool, true, false, List, [], ◌∷◌, Option, Some, None, refl, ap, sym, ◌∙◌}
use Rattle.std.specs.Prelude.{filter, find, option_and_then, option_map}
use Rattle.std.specs.List.{list_any}
use Rattle.parts_model.specs.Processes.{Process, Processes, Life, Live, Ended, process, is_alive, status_in, is_child_of, children, ended_children}
use Rattle.guest_procs.specs.Answers.{first, ended_as, ended_by, lowest_ended}
use Rattle.guest_procs.specs.Sound.{is_any, present, holds, is_ended_child}
use Rattle.guest_procs.proofs.Tables.{is_or_not, kept, follows-same}

find-first : (test : ℕ → Bool) (pids : List ℕ) → find test pids ≡ first (filter test pids)
find-first test [] = refl
find-first test (pid ∷ pids) =
    elim (is_or_not (test pid)) [ inl h ↦ rw h refl | inr h ↦ rw h (find-first test pids) ]

none_passes : (test : ℕ → Bool) (pids : List ℕ) → list_any test pids ≡ false → filter test pids ≡ []
none_passes test [] none = refl
none_passes test (pid ∷ pids) none =
    elim (is_or_not (test pid)) [
      | inl h ↦ let wrong : true ≡ false = rw h at none in cc
      | inr h ↦ rw h (none_passes test pids (let rest : list_any test pids ≡ false = rw h at none in rest))
    ]

some_passes : (test : ℕ → Bool) (pids : List ℕ) → list_any test pids ≡ true → filter test pids ≢ []
some_passes test [] some = λ e. cc
some_passes test (pid ∷ pids) some =
    elim (is_or_not (test pid)) [
      | inl h ↦ rw h (λ e. cc)
      | inr h ↦ rw h (some_passes test pids (let rest : list_any test pids ≡ true = rw h at some in rest))
    ]

first_passes : (test : ℕ → Bool) (pids : List ℕ) (pid : ℕ) (rest : List ℕ) → filter test pids ≡ pid ∷ rest → test pid ≡ true
first_passes test [] pid rest is = cc
first_passes test (p ∷ pids) pid rest is =
    elim (is_or_not (test p)) [
      | inl h ↦
          let same : (p ∷ filter test pids) ≡ (pid ∷ rest) = rw h at is in
          let head : p ≡ pid = cc in
          rw (← head) h
      | inr h ↦ first_passes test pids pid rest (let same : filter test pids ≡ (pid ∷ rest) = rw h at is in same)
    ]

-- the children, and those of them that have ended
children-found : (all : Processes) (parent : ℕ) → filter (λ pid. holds (is_child_of parent) (process all pid)) (present all) ≡ children all parent
children-found all parent =
    kept (is_child_of parent) is_any all all (follows-same (is_child_of parent) is_any (λ p h. refl) all)

ended-found : (all : Processes) (parent : ℕ) → filter (λ pid. holds (is_ended_child parent) (process all pid)) (present all) ≡ ended_children all parent
ended-found all parent =
    kept (is_ended_child parent) is_any all all (follows-same (is_ended_child parent) is_any (λ p h. refl) all)

pub no_children : (all : Processes) (parent : ℕ) → list_any (λ pid. holds (is_child_of parent) (process all pid)) (present all) ≡ false → children all parent ≡ []
no_children all parent none =
    sym (children-found all parent) ∙ none_passes (λ pid. holds (is_child_of parent) (process all pid)) (present all) none

pub some_children : (all : Processes) (parent : ℕ) → list_any (λ pid. holds (is_child_of parent) (process all pid)) (present all) ≡ true → children all parent ≢ []
some_children all parent some e =
    some_passes (λ pid. holds (is_child_of parent) (process all pid)) (present all) some (children-found all parent ∙ e)

pub first-found : (all : Processes) (parent : ℕ) → find (λ pid. holds (is_ended_child parent) (process all pid)) (present all) ≡ first (ended_children all parent)
first-found all parent =
    find-first (λ pid. holds (is_ended_child parent) (process all pid)) (present all) ∙ ap first (ended-found all parent)

-- a child that has ended has a status
status-there : (is_child : Bool) (life : Life) (pid : ℕ) → (is_child && not (is_alive life)) ≡ true → option_map (ended_as pid) (status_in life) ≢ None
status-there true Live pid h = cc
status-there false Live pid h = cc
status-there is_child (Ended status) pid h = λ e. cc

ended_by-there : (parent pid : ℕ) (x : Option Process) → holds (is_ended_child parent) x ≡ true → option_map (ended_as pid) (option_and_then (λ p. status_in p.life) x) ≢ None
ended_by-there parent pid None h = cc
ended_by-there parent pid (Some p) h = status-there (is_child_of parent p) p.life pid h

none-first : (all : Processes) (parent : ℕ) (pids : List ℕ) → filter (λ pid. holds (is_ended_child parent) (process all pid)) (present all) ≡ pids → option_and_then (ended_by all) (first pids) ≡ None → pids ≡ []
none-first all parent [] found none = refl
none-first all parent (pid ∷ pids) found none =
    absurd (ended_by-there parent pid (process all pid) (first_passes (λ pid. holds (is_ended_child parent) (process all pid)) (present all) pid pids found) none)

pub none_ended : (all : Processes) (parent : ℕ) → lowest_ended all parent ≡ None → ended_children all parent ≡ []
none_ended all parent none = none-first all parent (ended_children all parent) (ended-found all parent) none

pub lowest_ended-found : (all : Processes) (parent : ℕ) (pids : List ℕ) (found : Option ℕ) → pids ≡ present all → found ≡ find (λ pid. holds (is_ended_child parent) (process all pid)) pids → option_and_then (ended_by all) found ≡ lowest_ended all parent
lowest_ended-found all parent pids found are is =
    ap (option_and_then (ended_by all)) (is ∙ ap (find (λ pid. holds (is_ended_child parent) (process all pid))) are ∙ first-found all parent)
