-- The process that was made last, and the lists without it.
use Rattle.std.proofs.Common.{◌≡◌, ℕ, zero, suc, ◌-◌, ◌+◌, Bool, true, false, cond, List, [], ◌∷◌, ◌++◌, length, take, Option, Some, None, is_some, refl, ap, sym, ◌∙◌, arith, subst, length-append}
use Rattle.std.specs.Prelude.{option_and_then, if◌then◌else◌}
use Rattle.std.proofs.Math.Seq.{take-append_seam}
use Rattle.parts_model.specs.Numbered.{nth}
use Rattle.parts_model.specs.Processes.{Process, Processes, is_live, live_process}
use Rattle.guest_procs.specs.Sound.{is_any, IsSound}
use Rattle.guest_procs.proofs.Tables.{numbers_from-push}

-- a table is what is in front of its last process, and that
last-split : (x : Option Process) (xs : Processes) → x ∷ xs ≡ take (length xs) (x ∷ xs) ++ nth (x ∷ xs) (length xs) ∷ []
last-split x [] = refl
last-split x (y ∷ ys) = ap (λ (l : Processes). x ∷ l) (last-split y ys)

but-last : {A : Type 0} (xs : List A) (x : A) → take (length (xs ++ x ∷ []) - 1) (xs ++ x ∷ []) ≡ xs
but-last xs x =
    let before : length (xs ++ x ∷ []) - 1 ≡ length xs = omega (arith, length-append xs (x ∷ [])) in
    rw before (take-append_seam xs (x ∷ []))

-- the process at the end lives
live-one : (o : Option Process) → is_some (option_and_then (λ p. if is_live p then Some p else None) o) ≡ true → (p : Process) × (o ≡ Some p) × (is_live p ≡ true)
live-one None lives = cc
live-one (Some p) lives = (p, refl, by (is_live p) refl lives)
  where
    by : (b : Bool) → is_live p ≡ b → is_some (cond b (Some p) None) ≡ true → is_live p ≡ true
    by true e lives = e
    by false e lives = cc

without-last : (pre : Processes) (p : Process) (all_present all_live : List ℕ) → is_live p ≡ true → IsSound (pre ++ Some p ∷ []) all_present all_live → IsSound pre (take (length all_present - 1) all_present) (take (length all_live - 1) all_live)
without-last pre p all_present all_live alive sound =
    record {
      there_are = rw (sound.there_are, numbers_from-push is_any 1 pre p refl) (but-last _ _);
      live_are = rw (sound.live_are, numbers_from-push is_live 1 pre p alive) (but-last _ _);
    }

pub popped-sound : (all : Processes) (all_present all_live : List ℕ) → is_some (live_process all (length all)) ≡ true → IsSound all all_present all_live → IsSound (take (length all - 1) all) (take (length all_present - 1) all_present) (take (length all_live - 1) all_live)
popped-sound [] all_present all_live lives sound = cc
popped-sound (x ∷ xs) all_present all_live lives sound =
    let one = live-one (nth (x ∷ xs) (length xs)) lives in
    let split : x ∷ xs ≡ take (length xs) (x ∷ xs) ++ Some one.0 ∷ [] = last-split x xs ∙ ap (λ (o : Option Process). take (length xs) (x ∷ xs) ++ o ∷ []) one.1 in
    let less : length (x ∷ xs) - 1 ≡ length xs = omega arith in
    rw less (without-last (take (length xs) (x ∷ xs)) one.0 all_present all_live one.2 (subst (λ (l : Processes). IsSound l all_present all_live) split sound))

pub popped-sound-is : (all : Processes) (all_present all_live new_present new_live : List ℕ) (i j : ℕ) → is_some (live_process all (length all)) ≡ true → IsSound all all_present all_live → new_present ≡ take i all_present → new_live ≡ take j all_live → i ≡ length all_present - 1 → j ≡ length all_live - 1 → IsSound (take (length all - 1) all) new_present new_live
popped-sound-is all all_present all_live new_present new_live i j lives sound present_is live_is before_present before_live =
    rw (present_is, live_is, before_present, before_live) (popped-sound all all_present all_live lives sound)
