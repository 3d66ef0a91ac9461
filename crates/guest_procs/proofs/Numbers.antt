-- What the table shows under one number.
use Rattle.std.proofs.Common.{◌≡◌, ℕ, zero, suc, ◌-◌, ◌<◌, ◌≤◌, List, [], ◌∷◌, length, get_or, set, Option, Some, None, refl, arith}
use Rattle.std.specs.Prelude.{IsSome}
use Rattle.std.proofs.lemmas.List.{map-set}
use Rattle.guest_procs.specs.declared.process.Process.{Process as Code}
use Rattle.guest_procs.specs.Shown.{shown, shown_all}
use Rattle.parts_model.specs.Numbered.{nth}
use Rattle.parts_model.specs.Processes.{process, with_process}

nth-shown : (all : List (Option Code)) (i : ℕ) (d : Option Code) → i < length all → nth (shown_all all) i ≡ shown (get_or all i d)
nth-shown [] i d inside = absurd (omega arith)
nth-shown (None ∷ all) zero d inside = refl
nth-shown (Some p ∷ all) zero d inside = refl
nth-shown (p ∷ all) (suc i) d inside = nth-shown all i d (omega arith)

nth-past : (all : List (Option Code)) (i : ℕ) → length all ≤ i → nth (shown_all all) i ≡ None
nth-past [] i past = refl
nth-past (p ∷ all) zero past = absurd (omega arith)
nth-past (p ∷ all) (suc i) past = nth-past all i (omega arith)

pub process-shown : (all : List (Option Code)) (pid i : ℕ) (d : Option Code) → 0 < pid → i ≡ pid - 1 → i < length all → process (shown_all all) pid ≡ shown (get_or all i d)
process-shown all zero i d some is inside = absurd (omega arith)
process-shown all (suc j) i d some is inside =
    let e : i ≡ j = omega arith in rw (← e) (nth-shown all i d inside)

pub process-past : (all : List (Option Code)) (pid i : ℕ) → i ≡ pid - 1 → length all ≤ i → process (shown_all all) pid ≡ None
process-past all zero i is past = refl
process-past all (suc j) i is past =
    let e : i ≡ j = omega arith in rw (← e) (nth-past all i past)

nth-inside : (all : List (Option Code)) (i : ℕ) → IsSome (nth (shown_all all) i) → i < length all
nth-inside [] i some = cc
nth-inside (p ∷ all) zero some = omega arith
nth-inside (p ∷ all) (suc i) some =
    let h = nth-inside all i some in omega arith

pub process-positive : (all : List (Option Code)) (pid : ℕ) → IsSome (process (shown_all all) pid) → 0 < pid
process-positive all zero some = cc
process-positive all (suc i) some = omega arith

pub process-inside : (all : List (Option Code)) (pid i : ℕ) → i ≡ pid - 1 → IsSome (process (shown_all all) pid) → i < length all
process-inside all zero i is some = cc
process-inside all (suc j) i is some =
    let e : i ≡ j = omega arith in
    let h = nth-inside all j some in omega arith

pub with_process-shown : (all : List (Option Code)) (pid i : ℕ) (y : Option Code) → 0 < pid → i ≡ pid - 1 → shown_all (set all i y) ≡ with_process (shown_all all) pid (shown y)
with_process-shown all zero i y some is = absurd (omega arith)
with_process-shown all (suc j) i y some is =
    let e : i ≡ j = omega arith in rw e (map-set shown all j y)
