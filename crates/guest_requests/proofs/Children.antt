-- What a wait comes to.
use Rattle.std.proofs.Common.{◌≡◌, ◌≢◌, ℕ, ◌+◌, Bool, true, false, cond, ◌&&◌, List, [], ◌∷◌, length, Option, None, Some, refl, sym, ap, ◌∙◌, arith}
use Rattle.std.specs.Prelude.{not, option_and_then, option_map}
use Rattle.std.proofs.lemmas.Bool.{lt-ltb}
use Rattle.std.proofs.lemmas.Option.{same_Some}
use Rattle.parts_model.specs.declared.refusals.TheConstants.{BAD_ADDRESS, NO_CHILD}
use Rattle.parts_model.specs.declared.tagged.TaggedByte.{TaggedByte}
use Rattle.parts_model.specs.Processes.{Processes, children, ended_children, is_child_of, is_live, numbers_from, status_of}
use Rattle.acts_model.specs.Bodies.{View}
use Rattle.acts_model.specs.Views.{argument, can_reach}
use Rattle.arn_model.specs.Doing.{refuse, refused, unless_refused}
use Rattle.arn_model.specs.Kernel.{Machine}
use Rattle.arn_model.specs.ProcessCalls.{isnt_any, wait_child, wait_row, wait_status}
use Rattle.guest_procs.specs.Answers.{ended_as, ended_by, first, lowest_ended}
use Rattle.guest_procs.specs.Status.{status_byte}
use Rattle.guest_procs.specs.declared.answers.Ended as answer
use Rattle.guest_requests.specs.Waits.{collecting}

-- who has children that have ended has children
no-more : (parent n : ℕ) (all : Processes) → numbers_from (is_child_of parent) n all ≡ [] → numbers_from (λ p. is_child_of parent p && not (is_live p)) n all ≡ []
no-more parent n [] none = refl
no-more parent n (None ∷ all) none = no-more parent (n + 1) all none
no-more parent n (Some p ∷ all) none = by (is_child_of parent p) none (no-more parent (n + 1) all)
  where
    by : (b : Bool) → cond b (n ∷ numbers_from (is_child_of parent) (n + 1) all) (numbers_from (is_child_of parent) (n + 1) all) ≡ [] → (numbers_from (is_child_of parent) (n + 1) all ≡ [] → numbers_from (λ p. is_child_of parent p && not (is_live p)) (n + 1) all ≡ []) → cond (b && not (is_live p)) (n ∷ numbers_from (λ p. is_child_of parent p && not (is_live p)) (n + 1) all) (numbers_from (λ p. is_child_of parent p && not (is_live p)) (n + 1) all) ≡ []
    by true none later = cc
    by false none later = later none

some-any : (pids : List ℕ) → pids ≢ [] → isnt_any pids ≡ false
some-any [] some = absurd (some refl)
some-any (p ∷ pids) some = ap not (lt-ltb 0 (length (p ∷ pids)) (omega arith))

-- a wait of who has a child
pub row-some : (m : Machine) (pid : ℕ) (v : View) → children m.kernel.processes pid ≢ [] → wait_row m pid v ≡ unless_refused m.kernel (refuse BAD_ADDRESS (not (can_reach v (argument v.body.cpu 0) 1)) ∷ []) (wait_child m v (ended_children m.kernel.processes pid))
row-some m pid v some =
    ap (λ (t : Bool). cond t (refused NO_CHILD m.kernel) (unless_refused m.kernel (refuse BAD_ADDRESS (not (can_reach v (argument v.body.cpu 0) 1)) ∷ []) (wait_child m v (ended_children m.kernel.processes pid))))
    (some-any (children m.kernel.processes pid) some)

-- the child that the table names
named : (all : Processes) (child : ℕ) (e : answer.Ended) (status : Option TaggedByte) → Some e ≡ option_map (ended_as child) status → e.pid ≡ child
named all child e None is = cc
named all child e (Some s) is = ap (λ (x : answer.Ended). x.pid) (same_Some e (ended_as child s) is)

collected : (m : Machine) (v : View) (e : answer.Ended) (pids : List ℕ) → Some e ≡ option_and_then (ended_by m.kernel.processes) (first pids) → status_of m.kernel.processes e.pid ≡ Some (status_byte e.status e.event) → wait_child m v pids ≡ collecting m v e
collected m v e [] is told = cc
collected m v e (child ∷ pids) is told =
    let same : e.pid ≡ child = named m.kernel.processes child e (status_of m.kernel.processes child) is in
    ap (λ (c : ℕ). wait_status m v c (status_of m.kernel.processes c)) (sym same) ∙ ap (wait_status m v e.pid) told

pub child-collected : (m : Machine) (pid : ℕ) (v : View) (e : answer.Ended) → Some e ≡ lowest_ended m.kernel.processes pid → status_of m.kernel.processes e.pid ≡ Some (status_byte e.status e.event) → wait_child m v (ended_children m.kernel.processes pid) ≡ collecting m v e
child-collected m pid v e is told = collected m v e (ended_children m.kernel.processes pid) is told

-- who has one that has ended has a child
pub has-child : (all : Processes) (pid : ℕ) (e : answer.Ended) → Some e ≡ lowest_ended all pid → children all pid ≢ []
has-child all pid e is none = absurd (gone (ended_children all pid) (no-more pid 1 all none) is)
  where
    gone : (pids : List ℕ) → pids ≡ [] → Some e ≡ option_and_then (ended_by all) (first pids) → ⊥
    gone [] same found = cc
    gone (p ∷ pids) same found = cc
