-- What happens in one page of a window.
use Rattle.std.proofs.Common.{◌≡◌, ℕ, ◌+◌, ◌*◌, ◌/◌, ◌%◌, ◌<◌, ◌≤◌, true, false, List, [], length, get_or, set, take, drop, replicate, ap, sym, subst, ◌∙◌, arith}
use Rattle.std.proofs.lemmas.List.{length-map, length-replicate, map-set}
use Rattle.guest_mem.specs.Pages.{AreOwn, ArePages, AreWhole, IsOwn, Meets, contents, is_own, joined, owned, page_bytes}
use Rattle.guest_mem.specs.declared.page.Page.{Page}
use Rattle.guest_mem.specs.declared.page.TheConstants.{PAGE_COUNT, PAGE_LEN}
use Rattle.guest_mem.proofs.Joined.{joined-replicate, length-put, put, whole-replicate}
use Rattle.guest_mem.proofs.Mapped.{map-read}
use Rattle.guest_mem.proofs.Pieces.{page-long, pages-set, put-piece, take-piece}
use Rattle.parts_model.specs.Memory.{zeros}

-- a place in a page is in the window
pub near-within : (pages : List Page) → ArePages (contents pages) → (place : ℕ) → place / PAGE_LEN < length pages → place < PAGE_LEN * PAGE_COUNT
near-within pages are place inside = let count = are.count in let same = length-map pages page_bytes in omega arith

module _ (pages : List Page) (are : ArePages (contents pages)) (place : ℕ) (within : place < PAGE_LEN * PAGE_COUNT) where
  near-inside : place / PAGE_LEN < length pages
  near-inside = let count = are.count in let same = length-map pages page_bytes in omega arith

  module _ (other page : Page) (read : page ≡ get_or pages (place / PAGE_LEN) other) where
    near-bytes : page_bytes page ≡ get_or (contents pages) (place / PAGE_LEN) []
    near-bytes = map-read page_bytes pages (place / PAGE_LEN) page other [] near-inside read

    pub near-long : length (page_bytes page) ≡ PAGE_LEN
    near-long = ap (λ (l : List ℕ). length l) near-bytes ∙ page-long (contents pages) are place within

    pub near-own : is_own page ≡ get_or (owned pages) (place / PAGE_LEN) false
    near-own = map-read is_own pages (place / PAGE_LEN) page other false near-inside read

    pub near-take : (len : ℕ) → place % PAGE_LEN + len ≤ PAGE_LEN → take len (drop (place % PAGE_LEN) (page_bytes page)) ≡ take len (drop place (joined (contents pages)))
    near-take len short =
        ap (λ (l : List ℕ). take len (drop (place % PAGE_LEN) l)) near-bytes
        ∙ sym (take-piece (contents pages) are place within len short)

    -- the page is the only one that a short range meets
    pub near-meets : (len : ℕ) → place % PAGE_LEN + len ≤ PAGE_LEN → is_own page ≡ true → AreOwn place len (owned pages)
    near-meets len short own k met =
        let ends = met.ends in
        let begins = met.begins in
        let same : place / PAGE_LEN ≡ k = omega arith in
        subst (λ j. IsOwn (owned pages) j) same (sym near-own ∙ own)

    module _ (new : Page) (bytes : List ℕ) (short : place % PAGE_LEN + length bytes ≤ PAGE_LEN) (wrote : page_bytes new ≡ put (page_bytes page) (place % PAGE_LEN) bytes) where
      pub near-put : joined (contents (set pages (place / PAGE_LEN) new)) ≡ put (joined (contents pages)) place bytes
      near-put =
          ap (λ (l : List (List ℕ)). joined l) (map-set page_bytes pages (place / PAGE_LEN) new)
          ∙ ap (λ (l : List ℕ). joined (set (contents pages) (place / PAGE_LEN) l)) wrote
          ∙ ap (λ (l : List ℕ). joined (set (contents pages) (place / PAGE_LEN) (put l (place % PAGE_LEN) bytes))) near-bytes
          ∙ put-piece (contents pages) are place within bytes short

      pub put-long : length (page_bytes new) ≡ PAGE_LEN
      put-long =
          let long = near-long in
          ap (λ (l : List ℕ). length l) wrote
          ∙ length-put (page_bytes page) bytes (place % PAGE_LEN) (subst (λ n. place % PAGE_LEN + length bytes ≤ n) (sym long) short)
          ∙ long

pub near-pages : (pages : List Page) (k : ℕ) (new : Page) → ArePages (contents pages) → length (page_bytes new) ≡ PAGE_LEN → ArePages (contents (set pages k new))
near-pages pages k new are long = subst ArePages (sym (map-set page_bytes pages k new)) (pages-set (contents pages) k (page_bytes new) are long)

-- the page of a place meets each range that begins there
pub meets-first : (place len : ℕ) → 0 < len → Meets place len (place / PAGE_LEN)
meets-first place len some = record { some = some; begins = omega arith; ends = omega arith }

whole-zeros : (k n : ℕ) → AreWhole n (replicate k (zeros n))
unfolding zeros
whole-zeros k n = whole-replicate k n 0

pub zeros-pages : (k : ℕ) → k ≡ PAGE_COUNT → ArePages (replicate k (zeros PAGE_LEN))
zeros-pages k same = record {
  count = length-replicate k (zeros PAGE_LEN) ∙ same;
  whole = whole-zeros k PAGE_LEN;
}

pub joined-zeros : (k n m : ℕ) → n * k ≡ m → joined (replicate k (zeros n)) ≡ zeros m
unfolding zeros
joined-zeros k n m same = joined-replicate k n 0 ∙ ap (λ (j : ℕ). replicate j 0) same
