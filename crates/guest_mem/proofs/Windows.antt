-- A range of addresses in the private window.
use Rattle.std.proofs.Common.{◌≡◌, ℕ, ◌+◌, ◌-◌, inl, inr, ◌≤◌, ◌<◌, Bool, true, false, nat_le, is_some, if◌then◌else◌, Option, Some, None, IsSome, List, [], ◌∷◌, length, take, drop, refl, ap, ◌∙◌, arith}
use Rattle.std.proofs.lemmas.Bool.{and_from, and_parts, le-leb, leb-true}
use Rattle.std.proofs.lemmas.Bool.Decides.{nat_tests}
use Rattle.arn_base.specs.Disk.{overwrite}
use Rattle.arn_base.specs.Window.{IsAccessLength, Window, bytes_at, is_whole_in, window_bytes, window_with, with_bytes}
use Rattle.parts_model.specs.Memory.{private_window}
use Rattle.parts_model.specs.declared.limits.TheConstants.{WINDOW_START}

abbrev private_one : List ℕ → Window
private_one bytes = record { from = WINDOW_START; bytes = bytes }

whole-in : (bytes : List ℕ) (at len : ℕ) → WINDOW_START ≤ at → at + len ≤ WINDOW_START + length bytes → is_whole_in (private_one bytes) at len ≡ true
whole-in bytes at len after before = and_from (nat_le WINDOW_START at) (nat_le (at + len) (WINDOW_START + length bytes)) (le-leb WINDOW_START at after) (le-leb (at + len) (WINDOW_START + length bytes) before)

whole-from : (w : Window) (at len : ℕ) → is_whole_in w at len ≡ true → (w.from ≤ at) × (at + len ≤ w.from + length w.bytes)
whole-from w at len whole = grind (arith, nat_tests, and_parts, leb-true)

pub reached : (bytes : List ℕ) (at len place : ℕ) → at ≡ WINDOW_START + place → place + len ≤ length bytes → bytes_at (private_window bytes) at len ≡ Some (take len (drop place bytes))
reached bytes at len place lies fits =
    let less : at - WINDOW_START ≡ place = omega arith in
    ap (λ (b : Bool). if b then Some (window_bytes (private_one bytes) at len) else None) (whole-in bytes at len (omega arith) (omega arith))
    ∙ ap (λ (k : ℕ). Some (take len (drop k bytes))) less

pub written : (bytes new : List ℕ) (at place : ℕ) → at ≡ WINDOW_START + place → place + length new ≤ length bytes → with_bytes (private_window bytes) at new ≡ private_window (overwrite bytes place new)
written bytes new at place lies fits =
    let less : at - WINDOW_START ≡ place = omega arith in
    ap (λ (b : Bool). if b then window_with (private_one bytes) at new ∷ [] else private_one bytes ∷ []) (whole-in bytes at (length new) (omega arith) (omega arith))
    ∙ ap (λ (k : ℕ). private_window (overwrite bytes k new)) less

pub range-of : (bytes : List ℕ) (at len : ℕ) → IsSome (bytes_at (private_window bytes) at len) → (WINDOW_START ≤ at) × (at + len ≤ WINDOW_START + length bytes)
range-of bytes at len some = by (is_whole_in (private_one bytes) at len) refl some where
  by : (b : Bool) → is_whole_in (private_one bytes) at len ≡ b → is_some (if b then Some (window_bytes (private_one bytes) at len) else None) ≡ true → (WINDOW_START ≤ at) × (at + len ≤ WINDOW_START + length bytes)
  by true whole found = whole-from (private_one bytes) at len whole
  by false whole found = absurd (cc)

some-access : (len : ℕ) → IsAccessLength len → 0 < len
some-access len access = elim access [ inl one ↦ omega arith | inr more ↦ elim more [ inl two ↦ omega arith | inr longer ↦ elim longer [ inl four ↦ omega arith | inr eight ↦ omega arith ] ] ]

-- where a place lies behind the window
pub missed : (bytes : List ℕ) (at len place : ℕ) → (WINDOW_START ≤ at → at ≡ WINDOW_START + place) → length bytes ≤ place → IsAccessLength len → bytes_at (private_window bytes) at len ≡ None
missed bytes at len place lies past access = by (bytes_at (private_window bytes) at len) refl where
  by : (o : Option (List ℕ)) → bytes_at (private_window bytes) at len ≡ o → bytes_at (private_window bytes) at len ≡ None
  by None none = none
  by (Some part) found =
      let range = range-of bytes at len (ap (λ (o : Option (List ℕ)). is_some o) found) in
      let there = lies range.0 in
      let some = some-access len access in
      absurd (omega arith)
