use Rattle.std.proofs.Common.{◌≡◌, ℕ, zero, suc, ◌+◌, ◌-◌, ◌<◌, ◌≤◌, ◌++◌, List, [], ◌∷◌, length, take, drop, drop-drop, slice_index, slice_set, append_assoc, refl, sym, ap, ◌∙◌, arith}
use borrow.Rule.Slice.PartMut.{put_mid}
use Rattle.arn_base.specs.Disk.{overwrite}
use Rattle.taint_pages.proofs.page.overwrite.Goals as goal

-- numbers over those of a part as long
over : (kept new numbers : List ℕ) (at n : ℕ) → n ≡ length numbers → new ≡ numbers → put_mid at n kept new ≡ overwrite kept at numbers
over kept new numbers at n long same =
    ap (λ k. put_mid at k kept new) long
    ∙ ap (λ l. put_mid at (length numbers) kept l) same
    ∙ ap (λ l. take at kept ++ (numbers ++ l)) (drop-drop (length numbers) at kept)
    ∙ sym (append_assoc (take at kept) numbers (drop (at + length numbers) kept))

part : (at n len : ℕ) → len ≡ n → at + n - at ≡ len
part at n len is = omega arith

pub returns-in-8 : goal.returns-in-8
returns-in-8 c = over c.args.kept.now c.copy_from_slice.new.self c.args.numbers.now c.args.at (c.args.at + 8 - c.args.at) (part c.args.at 8 (length c.args.numbers.now) c.in-8.is) c.copy_from_slice.ensures.after

pub returns-in_default : goal.returns-in_default
returns-in_default c =
    let len = length c.args.numbers.now in
    over c.args.kept.now c.copy_from_slice-in_default.new.self c.args.numbers.now c.args.at (c.args.at + len - c.args.at) (part c.args.at len len refl) c.copy_from_slice-in_default.ensures.after

-- one number over another
single : (numbers : List ℕ) → length numbers ≡ 1 → slice_index numbers 0 ∷ [] ≡ numbers
single [] is = absurd (omega arith)
single (x ∷ []) is = refl
single (x ∷ y ∷ ys) is = absurd (omega arith)

set-is : (kept : List ℕ) (at x : ℕ) → at < length kept → slice_set kept at x ≡ take at kept ++ x ∷ [] ++ drop (at + 1) kept
set-is [] at x h = absurd (omega arith)
set-is (y ∷ ys) zero x h = refl
set-is (y ∷ ys) (suc k) x h = let e : suc (k + 1) ≡ suc k + 1 = omega arith in ap (λ l. y ∷ l) (set-is ys k x (omega arith)) ∙ ap (λ n. y ∷ take k ys ++ x ∷ [] ++ drop n (y ∷ ys)) e

below : (at n len : ℕ) → n ≡ 1 → at + n ≤ len → at < len
below at n len is fits = omega arith

pub returns-in-1 : goal.returns-in-1
returns-in-1 c =
    let kept = c.args.kept.now in
    let numbers = c.args.numbers.now in
    set-is kept c.args.at (slice_index numbers 0) (below c.args.at (length numbers) (length kept) c.in-1.is c.requires) ∙ ap (λ l. take c.args.at kept ++ l ++ drop (c.args.at + length l) kept) (single numbers c.in-1.is)
