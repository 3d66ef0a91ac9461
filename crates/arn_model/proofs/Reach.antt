-- Bytes that a process reaches: a shorter range is reached too, and has the first of them.
use Rattle.std.proofs.lemmas.Grind.{common_steps}
use Rattle.std.proofs.Common.{◌≡◌, ℕ, ◌+◌, ◌-◌, ◌<◌, ◌≤◌, List, [], ◌∷◌, length, take, drop, refl, ap, ◌∙◌, sym, Option, Some, None, Bool, true, false, not, if◌then◌else◌, arith, nat_lt, nat_le, is_some, option_map, length-take, length-drop, take-take, length-take-le}
use Rattle.std.proofs.lemmas.Bool.Decides.{nat_tests}
use Rattle.std.proofs.lemmas.Bool.{eq-eqb, and_parts, and_right, le-leb, lt-leb, leb-true}
use Rattle.std.proofs.lemmas.List.{take_min}
use Rattle.arn_base.specs.Window.{Window, is_whole_in, window_bytes, bytes_at}
use Rattle.parts_model.specs.declared.limits.TheConstants.{WINDOW_START, WINDOW_LEN, SEGMENT_START}
use Rattle.parts_model.specs.Memory.{windows, shared_window}
use Rattle.acts_model.specs.Bodies.{View}
use Rattle.acts_model.specs.Disagreement.{first_difference, differ_from, is_outside}
use Rattle.acts_model.specs.Views.{reach, bytes_in, can_reach, read}

whole-shorter : (w : Window) (at len less : ℕ) → less ≤ len → is_whole_in w at len ≡ true → is_whole_in w at less ≡ true
whole-shorter w at len less h1 h2 = grind (arith, nat_tests, and_parts, le-leb, leb-true)

some-shorter : (ws : List Window) (at len less : ℕ) → less ≤ len → is_some (bytes_at ws at len) ≡ true → is_some (bytes_at ws at less) ≡ true
some-shorter [] at len less l e = e
some-shorter (w ∷ ws) at len less l e = by_test (is_whole_in w at len) refl (some-shorter ws at len less l) e
  where
    any : (b : Bool) → is_some (bytes_at ws at less) ≡ true → is_some (if b then Some (window_bytes w at less) else bytes_at ws at less) ≡ true
    any b h1 = grind (arith, nat_tests)

    by_test : (b : Bool) → is_whole_in w at len ≡ b → (is_some (bytes_at ws at len) ≡ true → is_some (bytes_at ws at less) ≡ true) → is_some (if b then Some (window_bytes w at len) else bytes_at ws at len) ≡ true → is_some (if is_whole_in w at less then Some (window_bytes w at less) else bytes_at ws at less) ≡ true
    by_test b h1 h2 h3 = grind (arith, nat_tests, whole-shorter, any)

pub reach-shorter : (v : View) (at len less : ℕ) → less ≤ len → can_reach v at len ≡ true → can_reach v at less ≡ true
reach-shorter v at len less l e = some-shorter (reach v) at len less l e

pub isnt-outside : (v : View) (at len less : ℕ) → less ≤ len → can_reach v at len ≡ true → is_outside v at less ≡ false
isnt-outside v at len less l e =
    and_right (nat_lt 0 less) (not (can_reach v at less)) (ap not (reach-shorter v at len less l e))

-- as many as were asked for
window-len : (w : Window) (at len : ℕ) → is_whole_in w at len ≡ true → length (window_bytes w at len) ≡ len
window-len w at len h1 = grind (arith, common_steps, nat_tests, and_parts, leb-true, length-drop, length-take-le)

bytes-len : (ws : List Window) (at len : ℕ) (xs : List ℕ) → bytes_at ws at len ≡ Some xs → length xs ≡ len
bytes-len [] at len xs e = absurd (cc)
bytes-len (w ∷ ws) at len xs e = by_test (is_whole_in w at len) refl (bytes-len ws at len xs) e
  where
    by_test : (b : Bool) → is_whole_in w at len ≡ b → (bytes_at ws at len ≡ Some xs → length xs ≡ len) → (if b then Some (window_bytes w at len) else bytes_at ws at len) ≡ Some xs → length xs ≡ len
    by_test b h1 h2 h3 = grind (arith, nat_tests, window-len)

pub bytes-reached : (v : View) (at len : ℕ) → can_reach v at len ≡ true → bytes_in v at len ≡ Some (read v at len)
bytes-reached v at len h1 = grind (arith, nat_tests)

pub read-len : (v : View) (at len : ℕ) → can_reach v at len ≡ true → length (read v at len) ≡ len
read-len v at len e = bytes-len (reach v) at len (read v at len) (bytes-reached v at len e)

-- the first bytes of a range, which lie in the same window
first-taken : (w : Window) (at len less : ℕ) → less ≤ len → window_bytes w at less ≡ take less (window_bytes w at len)
first-taken w at len less l = sym (take-take less len (drop (at - w.from) w.bytes) l)

shared-shorter : (o : Option (List ℕ)) (at len less : ℕ) (xs : List ℕ) → less ≤ len → bytes_at (shared_window o) at len ≡ Some xs → (SEGMENT_START ≤ at) × (bytes_at (shared_window o) at less ≡ Some (take less xs))
shared-shorter o at len less xs h1 h2 = grind (arith, common_steps, nat_tests, and_parts, leb-true, whole-shorter, first-taken)

windows-shorter : (space : List ℕ) (o : Option (List ℕ)) (at len less : ℕ) (xs : List ℕ) → length space ≤ WINDOW_LEN → 0 < less → less ≤ len → bytes_at (windows space o) at len ≡ Some xs → bytes_at (windows space o) at less ≡ Some (take less xs)
windows-shorter space o at len less xs fits some l e = by_test (is_whole_in (record { from = WINDOW_START; bytes = space }) at len) refl e
  where
    by_test : (b : Bool) → is_whole_in (record { from = WINDOW_START; bytes = space }) at len ≡ b → (if b then Some (window_bytes (record { from = WINDOW_START; bytes = space }) at len) else bytes_at (shared_window o) at len) ≡ Some xs → bytes_at (windows space o) at less ≡ Some (take less xs)
    by_test true t e =
        let w : Window = record { from = WINDOW_START; bytes = space } in
        let same : window_bytes w at len ≡ xs = cc in
        ap (λ (b : Bool). if b then Some (window_bytes w at less) else bytes_at (shared_window o) at less) (whole-shorter w at len less l t)
        ∙ ap (λ (ys : List ℕ). Some ys) (first-taken w at len less l ∙ ap (λ (ys : List ℕ). take less ys) same)
    by_test false t e =
        let w : Window = record { from = WINDOW_START; bytes = space } in
        let s = shared-shorter o at len less xs l e in
        let far = s.0 in
        let not_whole : is_whole_in w at less ≡ false = and_right (nat_le WINDOW_START at) (nat_le (at + less) (WINDOW_START + length space)) (lt-leb (at + less) (WINDOW_START + length space) (omega arith)) in
        ap (λ (b : Bool). if b then Some (window_bytes w at less) else bytes_at (shared_window o) at less) not_whole ∙ s.1

-- bytes that are as those found don't differ
first-same : (xs : List ℕ) → first_difference xs xs ≡ None
first-same [] = refl
first-same (x ∷ xs) = ap (λ (b : Bool). if b then first_difference xs xs else Some (record { said = x; found = x })) (eq-eqb x x refl) ∙ first-same xs

differ-same : (ys : List ℕ) (o : Option (List ℕ)) → (0 < length ys → o ≡ Some ys) → differ_from ys o ≡ None
differ-same [] o h = refl
differ-same (y ∷ ys) o h = ap (λ (o : Option (List ℕ)). differ_from (y ∷ ys) o) (h (omega arith)) ∙ first-same (y ∷ ys)

-- the first of the bytes that a write named, which it gave
pub gave-first : (v : View) (at len n : ℕ) → length v.window ≤ WINDOW_LEN → can_reach v at len ≡ true → differ_from (take n (read v at len)) (bytes_in v at (length (take n (read v at len)))) ≡ None
gave-first v at len n fits e =
    differ-same (take n (read v at len)) (bytes_in v at (length (take n (read v at len))))
    (λ some.
    let xs = read v at len in
    let whole = read-len v at len e in
    let cut = length-take n xs in
    windows-shorter v.window (option_map (λ made. v.segment) v.body.segment) at len (length (take n xs)) xs fits some (omega arith) (bytes-reached v at len e)
    ∙ ap (λ (ys : List ℕ). Some ys) (ap (λ (i : ℕ). take i xs) cut ∙ take_min n xs))

pub gave-all : (v : View) (at len : ℕ) → can_reach v at len ≡ true → differ_from (read v at len) (bytes_in v at (length (read v at len))) ≡ None
gave-all v at len h1 = grind (arith, nat_tests, bytes-reached, differ-same, read-len)
