-- The blocks that aren't all zero, one block at a time, and lists in parts of one length.
use Rattle.std.proofs.Common.{◌≡◌, ℕ, zero, suc, ◌+◌, ◌-◌, ◌*◌, ◌/◌, ◌<◌, ◌≤◌, ◌||◌, Bool, List, [], ◌++◌, length, get_or, take, drop, refl, ap, sym, ◌∙◌, add-one, arith}
use Rattle.std.proofs.Math.Seq.{take-add}
use Rattle.std.proofs.lemmas.List.{drop-drop, drop-take, length-map, take-take, take_all}
use Rattle.std.proofs.lemmas.List.Folds.{list_any-append}
use Rattle.std.specs.List.{list_any}
use Rattle.std.specs.Simd.{first_chunks}
use Rattle.parts_model.specs.Blocks.{block_of, used_block, used_blocks}
use Rattle.parts_model.specs.declared.limits.TheConstants.{BLOCK_LEN}
use Rattle.guest_mem.specs.Pages.{ArePages, contents, joined, page_bytes}
use Rattle.guest_mem.specs.declared.page.Page.{Page}
use Rattle.guest_mem.specs.declared.page.TheConstants.{PAGE_LEN}
use Rattle.guest_mem.proofs.Joined.{take-in-page, whole-at}
use Rattle.guest_mem.proofs.Mapped.{map-read}

pub used_blocks-none : (bytes : List ℕ) → used_blocks bytes 0 ≡ []
unfolding used_blocks
used_blocks-none bytes = refl

used_blocks-more : (bytes : List ℕ) (n : ℕ) → used_blocks bytes (n + 1) ≡ used_blocks bytes n ++ used_block (block_of bytes n)
unfolding used_blocks
used_blocks-more bytes n = ap (used_blocks bytes) (add-one n)

module _ {A : Type 0} (n : ℕ) where
  -- a part of a number
  chunk-at : (k : ℕ) (xs : List A) (i : ℕ) (d : List A) → i < k → get_or (first_chunks n k xs) i d ≡ take n (drop (n * i) xs)
  chunk-at zero xs i d inside = absurd (omega arith)
  chunk-at (suc k) xs zero d inside =
      let none : 0 ≡ n * 0 = omega arith in
      ap (λ (m : ℕ). take n (drop m xs)) none
  chunk-at (suc k) xs (suc i) d inside =
      let more : n + n * i ≡ n * suc i = omega arith in
      chunk-at k (drop n xs) i d (omega arith)
      ∙ ap (take n) (drop-drop (n * i) n xs)
      ∙ ap (λ (m : ℕ). take n (drop m xs)) more

  -- an element of some part passes a test
  any-chunk : (p : A → Bool) (k : ℕ) (xs : List A) → list_any (list_any p) (first_chunks n k xs) ≡ list_any p (take (n * k) xs)
  any-chunk p zero xs =
      let none : 0 ≡ n * 0 = omega arith in
      ap (λ (m : ℕ). list_any p (take m xs)) none
  any-chunk p (suc k) xs =
      let more : n + n * k ≡ n * suc k = omega arith in
      ap (λ (b : Bool). list_any p (take n xs) || b) (any-chunk p k (drop n xs))
      ∙ sym (list_any-append p (take n xs) (take (n * k) (drop n xs)))
      ∙ ap (list_any p) (sym (take-add n (n * k) xs) ∙ ap (λ (m : ℕ). take m xs) more)

-- an element of some part of a whole list passes a test
pub any-part : {A : Type 0} (p : A → Bool) (n k : ℕ) (xs : List A) (parts : List (List A)) → length xs ≡ n * k → parts ≡ first_chunks n k xs → list_any (list_any p) parts ≡ list_any p xs
any-part p n k xs parts long are =
    ap (list_any (list_any p)) are
    ∙ any-chunk n p k xs
    ∙ ap (list_any p) (take_all (n * k) xs (omega arith))

-- elements of a part are those of the list
part-of : {A : Type 0} (xs part : List A) (at k n : ℕ) → take (length part) (drop at xs) ≡ part → k + n ≤ length part → take n (drop k part) ≡ take n (drop (at + k) xs)
part-of {A = A} xs part at k n is inside =
    let rest = length part - k in
    let split : length part ≡ k + (length part - k) = omega arith in
    ap (λ (ys : List A). take n (drop k ys)) (sym is)
    ∙ ap (λ (m : ℕ). take n (drop k (take m (drop at xs)))) split
    ∙ ap (take n) (drop-take k rest (drop at xs))
    ∙ take-take n rest (drop k (drop at xs)) (omega arith)
    ∙ ap (take n) (drop-drop k at xs)

-- one more block of a part is looked at
pub part-more : (window part : List ℕ) (blocks : List (List ℕ)) (before i : ℕ) → take (length part) (drop (BLOCK_LEN * before) window) ≡ part
    → blocks ≡ first_chunks BLOCK_LEN (length part / BLOCK_LEN) part → i < length part / BLOCK_LEN
    → used_blocks window (before + i) ++ used_block (record { number = before + i; bytes = get_or blocks i [] }) ≡ used_blocks window (before + (i + 1))
part-more window part blocks before i is are inside =
    let end : before + i + 1 ≡ before + (i + 1) = omega arith in
    let place : BLOCK_LEN * before + BLOCK_LEN * i ≡ BLOCK_LEN * (before + i) = omega arith in
    let bytes =
    ap (λ (l : List (List ℕ)). get_or l i []) are
    ∙ chunk-at BLOCK_LEN (length part / BLOCK_LEN) part i [] inside
    ∙ part-of window part (BLOCK_LEN * before) (BLOCK_LEN * i) BLOCK_LEN is (omega arith)
    ∙ ap (λ (m : ℕ). take BLOCK_LEN (drop m window)) place
    in
    ap (λ (l : List ℕ). used_blocks window (before + i) ++ used_block (record { number = before + i; bytes = l })) bytes
    ∙ sym (used_blocks-more window (before + i))
    ∙ ap (used_blocks window) end

-- the bytes of a page, among those of all pages
module _ (pages : List Page) (are : ArePages (contents pages)) (k : ℕ) (inside : k < length pages) (page : Page) (read : page ≡ get_or pages k page) where
  there : page_bytes page ≡ get_or (contents pages) k []
  there = map-read page_bytes pages k page page [] inside read

  within : k < length (contents pages)
  within = let same = length-map pages page_bytes in omega arith

  pub page-long : length (page_bytes page) ≡ PAGE_LEN
  page-long = ap (λ (l : List ℕ). length l) there ∙ whole-at PAGE_LEN (contents pages) k [] are.whole within

  pub page-part : take (length (page_bytes page)) (drop (PAGE_LEN * k) (joined (contents pages))) ≡ page_bytes page
  page-part =
      let long = page-long in
      let first : PAGE_LEN * k ≡ PAGE_LEN * k + 0 = omega arith in
      ap (λ (m : ℕ). take (length (page_bytes page)) (drop m (joined (contents pages)))) first
      ∙ take-in-page PAGE_LEN (contents pages) k [] are.whole within 0 (length (page_bytes page)) (omega arith)
      ∙ ap (take (length (page_bytes page))) (sym there)
      ∙ take_all (length (page_bytes page)) (page_bytes page) (omega arith)
