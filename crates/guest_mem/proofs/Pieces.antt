-- Parts of a window's bytes: in one page, and one part after the other.
use Rattle.std.proofs.Common.{◌≡◌, ℕ, ◌+◌, ◌*◌, ◌/◌, ◌%◌, ◌<◌, ◌≤◌, List, [], ◌++◌, length, get_or, set, take, drop, ap, sym, ◌∙◌, append_assoc, arith, length-drop}
use Rattle.std.proofs.Math.Seq.{take-add}
use Rattle.std.proofs.lemmas.List.{drop-drop, length-set, length-take-le, take_all, take_at}
use borrow.Rule.Slice.PartMut.{put_mid}
use Rattle.guest_mem.specs.Pages.{ArePages, joined}
use Rattle.guest_mem.specs.declared.page.TheConstants.{PAGE_COUNT, PAGE_LEN}
use Rattle.guest_mem.proofs.Joined.{length-joined, put, put-in-page, put-none, put-put, take-behind, take-in-page, whole-at, whole-set}

pub length-pages : (pages : List (List ℕ)) → ArePages pages → length (joined pages) ≡ PAGE_LEN * PAGE_COUNT
length-pages pages are = length-joined PAGE_LEN pages are.whole ∙ ap (λ (n : ℕ). PAGE_LEN * n) are.count

pub pages-set : (pages : List (List ℕ)) (k : ℕ) (page : List ℕ) → ArePages pages → length page ≡ PAGE_LEN → ArePages (set pages k page)
pages-set pages k page are long = record {
  count = length-set pages k page ∙ are.count;
  whole = whole-set PAGE_LEN pages k page are.whole long;
}

module _ (pages : List (List ℕ)) (are : ArePages pages) (place : ℕ) (within : place < PAGE_LEN * PAGE_COUNT) where
  inside : place / PAGE_LEN < length pages
  inside = let count = are.count in omega arith

  whole : place ≡ PAGE_LEN * (place / PAGE_LEN) + place % PAGE_LEN
  whole = omega arith

  pub page-long : length (get_or pages (place / PAGE_LEN) []) ≡ PAGE_LEN
  page-long = whole-at PAGE_LEN pages (place / PAGE_LEN) [] are.whole inside

  pub take-piece : (len : ℕ) → place % PAGE_LEN + len ≤ PAGE_LEN → take len (drop place (joined pages)) ≡ take len (drop (place % PAGE_LEN) (get_or pages (place / PAGE_LEN) []))
  take-piece len short =
      ap (λ (k : ℕ). take len (drop k (joined pages))) whole
      ∙ take-in-page PAGE_LEN pages (place / PAGE_LEN) [] are.whole inside (place % PAGE_LEN) len short

  pub put-piece : (new : List ℕ) → place % PAGE_LEN + length new ≤ PAGE_LEN → joined (set pages (place / PAGE_LEN) (put (get_or pages (place / PAGE_LEN) []) (place % PAGE_LEN) new)) ≡ put (joined pages) place new
  put-piece new short =
      put-in-page PAGE_LEN pages (place / PAGE_LEN) [] are.whole inside (place % PAGE_LEN) new short
      ∙ ap (λ (k : ℕ). put (joined pages) k new) (sym whole)

-- one more part is read into a buffer
pub read-more : (old bytes piece tail : List ℕ) (place done count rest : ℕ) → done + count ≤ length old → place + done + count ≤ length bytes → take done old ≡ take done (drop place bytes)
    → piece ≡ take count (drop (place + done) bytes) ++ tail → take (done + count) (put_mid done rest old piece) ≡ take (done + count) (drop place bytes)
read-more old bytes piece tail place done count rest room there before read =
    let part = take count (drop (place + done) bytes) in
    let post = drop rest (drop done old) in
    let filled : done ≤ length old = omega arith in
    let left : count ≤ length (drop (place + done) bytes) = omega (arith, length-drop (place + done) bytes) in
    take-behind (take done old) (piece ++ post) count done (length-take-le done old filled)
    ∙ ap (λ (l : List ℕ). take done old ++ take count (l ++ post)) read
    ∙ ap (λ (l : List ℕ). take done old ++ take count l) (append_assoc part tail post)
    ∙ ap (λ (l : List ℕ). take done old ++ l) (take_at part (tail ++ post) count (length-take-le count (drop (place + done) bytes) left))
    ∙ ap (λ (l : List ℕ). l ++ part) before
    ∙ ap (λ (l : List ℕ). take done (drop place bytes) ++ take count l) (sym (drop-drop done place bytes))
    ∙ sym (take-add done count (drop place bytes))

-- one more part is added
pub part-more : (bytes now next : List ℕ) (place done count : ℕ) → now ≡ take done (drop place bytes) → next ≡ now ++ take count (drop (place + done) bytes) → next ≡ take (done + count) (drop place bytes)
part-more bytes now next place done count before added =
    let part = take count (drop (place + done) bytes) in
    added
    ∙ ap (λ (l : List ℕ). l ++ part) before
    ∙ ap (λ (l : List ℕ). take done (drop place bytes) ++ take count l) (sym (drop-drop done place bytes))
    ∙ sym (take-add done count (drop place bytes))

-- one more part is written
pub write-more : (old now next bytes : List ℕ) (place done count : ℕ) → place ≤ length old → done + count ≤ length bytes → now ≡ put old place (take done bytes) → next ≡ put now (place + done) (take count (drop done bytes))
    → next ≡ put old place (take (done + count) bytes)
write-more old now next bytes place done count within room before wrote =
    let first = take done bytes in
    let second = take count (drop done bytes) in
    let short : done ≤ length bytes = omega arith in
    let long : done ≡ length (take done bytes) = sym (length-take-le done bytes short) in
    wrote
    ∙ ap (λ (l : List ℕ). put l (place + done) second) before
    ∙ ap (λ (k : ℕ). put (put old place first) (place + k) second) long
    ∙ put-put old first second place within
    ∙ ap (λ (l : List ℕ). put old place l) (sym (take-add done count bytes))

pub write-none : (old bytes : List ℕ) (place : ℕ) → old ≡ put old place (take 0 bytes)
write-none old bytes place = sym (put-none old place)

pub write-all : (old now bytes : List ℕ) (place done : ℕ) → length bytes ≤ done → now ≡ put old place (take done bytes) → now ≡ put old place bytes
write-all old now bytes place done all wrote = wrote ∙ ap (λ (l : List ℕ). put old place l) (take_all done bytes all)

-- the front of a list in which bytes were put
pub put-front : (old bytes : List ℕ) (len : ℕ) → length bytes ≡ len → take len (put old 0 bytes) ≡ bytes
put-front old bytes len same = take_at bytes (drop (0 + length bytes) old) len same

pub ruleset long = (length-pages)
