-- Tables of processes, and the lists of those that are there and of those that live.
use Rattle.std.proofs.Common.{◌≡◌, ◌⊎◌, inl, inr, ℕ, zero, suc, ◌+◌, Bool, true, false, cond, List, [], ◌∷◌, ◌++◌, length, map, set, Option, Some, None, refl, ap, sym, arith, add-one, append_assoc, length-append}
use Rattle.std.specs.Prelude.{filter, slice_get, option_and_then, is_some}
use Rattle.std.proofs.lemmas.List.Sums.{sum_by-cons}
use Rattle.parts_model.specs.Numbered.{nth, how_many}
use Rattle.parts_model.specs.Processes.{Process, Processes, process, with_process, numbers_from}
use Rattle.guest_procs.specs.Sound.{is_any, present, holds, visited}

-- the element behind others, and another in its place
slice_get-seam : {A : Type 0} (pre : List A) (x : A) (rest : List A) → slice_get (pre ++ x ∷ rest) (length pre) ≡ Some x
slice_get-seam [] x rest = refl
slice_get-seam (y ∷ pre) x rest = slice_get-seam pre x rest

set-seam : {A : Type 0} (pre : List A) (x y : A) (rest : List A) → set (pre ++ x ∷ rest) (length pre) y ≡ pre ++ y ∷ rest
set-seam [] x y rest = refl
set-seam (z ∷ pre) x y rest = ap (λ (l : List _). z ∷ l) (set-seam pre x y rest)

process-seam : (pre : Processes) (x : Option Process) (rest : Processes) → process (pre ++ x ∷ rest) (length pre + 1) ≡ x
process-seam pre x rest =
    rw add-one (ap (option_and_then (λ (thing : Option Process). thing)) (slice_get-seam pre x rest))

with_process-seam : (pre : Processes) (x y : Option Process) (rest : Processes) → with_process (pre ++ x ∷ rest) (length pre + 1) y ≡ pre ++ y ∷ rest
with_process-seam pre x y rest = rw add-one (set-seam pre x y rest)

-- a change of each process that is there is one of all
visited-from : (change : Process → Option Process) (pre all : Processes) → visited change (pre ++ all) (numbers_from is_any (length pre + 1) all) ≡ pre ++ map (option_and_then change) all
visited-from change pre [] = refl
visited-from change pre (None ∷ all) =
    simp (append_assoc, length-append) at (visited-from change (pre ++ None ∷ []) all)
visited-from change pre (Some p ∷ all) =
    rw (process-seam pre (Some p) all, with_process-seam pre (Some p) (change p) all) (simp (append_assoc, length-append) at (visited-from change (pre ++ change p ∷ []) all))

pub visited-present : (change : Process → Option Process) (all : Processes) → visited change all (present all) ≡ map (option_and_then change) all
visited-present change all = visited-from change [] all

-- one that isn't there is left out
set-none : (all : Processes) (i : ℕ) → nth all i ≡ None → set all i None ≡ all
set-none [] i is = refl
set-none (x ∷ all) zero is = ap (λ (y : Option Process). y ∷ all) (sym is)
set-none (x ∷ all) (suc i) is = ap (λ (l : Processes). x ∷ l) (set-none all i is)

pub with_process-none : (all : Processes) (pid : ℕ) → process all pid ≡ None → with_process all pid None ≡ all
with_process-none all zero is = refl
with_process-none all (suc i) is = set-none all i is

pub not_present : (x : Option Process) → holds is_any x ≡ false → x ≡ None
not_present None gone = refl
not_present (Some p) gone = cc

-- where a test holds later, another held before
pub data Follows (later before : Process → Bool) : Processes → Processes → Type 0 where
  none : Follows later before [] []
  one : {x y : Option Process} {all new : Processes} → (holds later y ≡ true → holds before x ≡ true) → Follows later before all new → Follows later before (x ∷ all) (y ∷ new)

-- which of those numbers are left
false_unless : (b : Bool) → (b ≡ true → false ≡ true) → b ≡ false
false_unless true h = sym (h refl)
false_unless false h = refl

pub is_or_not : (b : Bool) → (b ≡ true) ⊎ (b ≡ false)
is_or_not true = inl refl
is_or_not false = inr refl

kept-from : (later before : Process → Bool) (pre all new : Processes) → Follows later before all new → filter (λ pid. holds later (process (pre ++ new) pid)) (numbers_from before (length pre + 1) all) ≡ numbers_from later (length pre + 1) new
kept-from later before pre [] [] none = refl
kept-from later before pre [] (y ∷ new) h = elim h [ ]
kept-from later before pre (None ∷ all) [] h = elim h [ ]
kept-from later before pre (Some p ∷ all) [] h = elim h [ ]
kept-from later before pre (None ∷ all) (None ∷ new) (one here rest) =
    simp (append_assoc, length-append) at (kept-from later before (pre ++ None ∷ []) all new rest)
kept-from later before pre (None ∷ all) (Some q ∷ new) (one here rest) =
    rw (false_unless (later q) here) (simp (append_assoc, length-append) at (kept-from later before (pre ++ Some q ∷ []) all new rest))
kept-from later before pre (Some p ∷ all) (None ∷ new) (one here rest) =
    let tail = simp (append_assoc, length-append) at (kept-from later before (pre ++ None ∷ []) all new rest) in
    elim (is_or_not (before p)) [
      | inl held ↦ rw (held, process-seam pre None new) tail
      | inr not_held ↦ rw not_held tail
    ]
kept-from later before pre (Some p ∷ all) (Some q ∷ new) (one here rest) =
    let tail = simp (append_assoc, length-append) at (kept-from later before (pre ++ Some q ∷ []) all new rest) in
    elim (is_or_not (later q)) [
      | inl holds_now ↦ rw (here holds_now, process-seam pre (Some q) new, holds_now) (ap (λ (pids : List ℕ). (length pre + 1) ∷ pids) tail)
      | inr not_now ↦
          elim (is_or_not (before p)) [
            | inl held ↦ rw (held, process-seam pre (Some q) new, not_now) tail
            | inr not_held ↦ rw (not_held, not_now) tail
          ]
    ]

pub kept : (later before : Process → Bool) (all new : Processes) → Follows later before all new → filter (λ pid. holds later (process new pid)) (numbers_from before 1 all) ≡ numbers_from later 1 new
kept later before all new follows = kept-from later before [] all new follows

-- a change that lets the test hold only where it held
pub follows-map : (test : Process → Bool) (change : Option Process → Option Process) → ((x : Option Process) → holds test (change x) ≡ true → holds test x ≡ true) → (all : Processes) → Follows test test all (map change all)
follows-map test change keeps [] = none
follows-map test change keeps (x ∷ all) = one (keeps x) (follows-map test change keeps all)

pub follows-same : (later before : Process → Bool) → ((p : Process) → later p ≡ true → before p ≡ true) → (all : Processes) → Follows later before all all
follows-same later before weaker [] = none
follows-same later before weaker (None ∷ all) = one (λ h. h) (follows-same later before weaker all)
follows-same later before weaker (Some p ∷ all) = one (weaker p) (follows-same later before weaker all)

follows-set : (test : Process → Bool) (all : Processes) (i : ℕ) (y : Option Process) → (holds test y ≡ true → holds test (nth all i) ≡ true) → Follows test test all (set all i y)
follows-set test [] i y keeps = none
follows-set test (x ∷ all) zero y keeps = one keeps (follows-same test test (λ p h. h) all)
follows-set test (None ∷ all) (suc i) y keeps = one (λ h. h) (follows-set test all i y keeps)
follows-set test (Some p ∷ all) (suc i) y keeps = one (λ h. h) (follows-set test all i y keeps)

pub follows-with_process : (test : Process → Bool) (all : Processes) (pid : ℕ) (y : Option Process) → (holds test y ≡ true → holds test (process all pid) ≡ true) → Follows test test all (with_process all pid y)
follows-with_process test all zero y keeps = follows-same test test (λ p h. h) all
follows-with_process test all (suc i) y keeps = follows-set test all i y keeps

pub follows-follows : (test : Process → Bool) (all new newer : Processes) → Follows test test all new → Follows test test new newer → Follows test test all newer
follows-follows test [] [] [] none none = none
follows-follows test [] [] (z ∷ newer) none h = elim h [ ]
follows-follows test [] (y ∷ new) newer h g = elim h [ ]
follows-follows test (x ∷ all) [] newer h g = elim h [ ]
follows-follows test (x ∷ all) (y ∷ new) [] h g = elim g [ ]
follows-follows test (x ∷ all) (y ∷ new) (z ∷ newer) (one a h) (one b g) = one (λ held. a (b held)) (follows-follows test all new newer h g)

-- one more process, for which the test holds
pub numbers_from-push : (test : Process → Bool) (n : ℕ) (all : Processes) (p : Process) → test p ≡ true → numbers_from test n (all ++ Some p ∷ []) ≡ numbers_from test n all ++ (n + length all) ∷ []
numbers_from-push test n [] p true_here =
    let e : n ≡ n + 0 = omega arith in rw true_here (ap (λ (m : ℕ). m ∷ []) e)
numbers_from-push test n (None ∷ all) p true_here =
    let e : n + 1 + length all ≡ n + suc (length all) = omega arith in
    rw (← e) (numbers_from-push test (n + 1) all p true_here)
numbers_from-push test n (Some q ∷ all) p true_here =
    let e : n + 1 + length all ≡ n + suc (length all) = omega arith in
    let rest = rw e at (numbers_from-push test (n + 1) all p true_here) in
    elim (is_or_not (test q)) [ inl h ↦ rw h (ap (λ (pids : List ℕ). n ∷ pids) rest) | inr h ↦ rw h rest ]

-- as many numbers as there are processes
length-numbers : (n : ℕ) (all : Processes) → length (numbers_from is_any n all) ≡ how_many all
length-numbers n [] = refl
length-numbers n (None ∷ all) =
    let h = length-numbers (n + 1) all in
    let more = sum_by-cons (λ (x : Option Process). cond (is_some x) 1 0) None all in omega arith
length-numbers n (Some p ∷ all) =
    let h = length-numbers (n + 1) all in
    let more = sum_by-cons (λ (x : Option Process). cond (is_some x) 1 0) (Some p) all in omega arith

pub length-present : (all : Processes) → length (present all) ≡ how_many all
length-present all = length-numbers 1 all

-- a change under which the test holds as before
numbers_from-set : (test : Process → Bool) (n : ℕ) (all : Processes) (i : ℕ) (x : Option Process) → holds test x ≡ holds test (nth all i) → numbers_from test n (set all i x) ≡ numbers_from test n all
numbers_from-set test n [] i x same = refl
numbers_from-set test n (None ∷ all) zero None same = refl
numbers_from-set test n (None ∷ all) zero (Some q) same = rw same refl
numbers_from-set test n (Some p ∷ all) zero None same = rw (← same) refl
numbers_from-set test n (Some p ∷ all) zero (Some q) same = rw same refl
numbers_from-set test n (None ∷ all) (suc i) x same = numbers_from-set test (n + 1) all i x same
numbers_from-set test n (Some p ∷ all) (suc i) x same =
    let rest = numbers_from-set test (n + 1) all i x same in rw rest refl

pub numbers_from-with_process : (test : Process → Bool) (all : Processes) (pid : ℕ) (x : Option Process) → holds test x ≡ holds test (process all pid) → numbers_from test 1 (with_process all pid x) ≡ numbers_from test 1 all
numbers_from-with_process test all zero x same = refl
numbers_from-with_process test all (suc i) x same = numbers_from-set test 1 all i x same
