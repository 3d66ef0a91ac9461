-- Pages one behind the other, byte by byte.
use Rattle.std.proofs.Common.{◌≡◌, ◌⊎◌, ℕ, zero, suc, ◌+◌, ◌*◌, ◌/◌, ◌%◌, ◌<◌, ◌≤◌, ◌==◌, Bool, true, false, nat_lt, if◌then◌else◌, List, [], ◌∷◌, ◌++◌, length, get_or, set, take, replicate, None, Some, refl, sym, ap, subst, ◌∙◌, arith, length-append, inl, inr}
use Rattle.taint_pages.specs.declared.page.Page.{Page as KeptPage}
use Rattle.taint_pages.specs.declared.page.Page.TheVariants.{Absent}
use Rattle.std.proofs.Math.ListN.{get_or-eq_default}
use Rattle.std.proofs.lemmas.Bool.{ltb-true, ltb-false}
use Rattle.std.proofs.lemmas.Bool.Decides.{Decides-eqb}
use Rattle.std.proofs.lemmas.Grind.{get_or-set_at}
use Rattle.std.proofs.lemmas.List.{length-map, length-set, map-append, map-set, take_all, take_more, get_or_append_left, get_or-append-add, get_or-set_other}
use Rattle.taint_pages.specs.declared.page.Unset.{Unset}
use Rattle.taint_pages.specs.declared.page.Unset.TheVariants.{Zero, From}
use Rattle.taint_pages.specs.Pages.{AreEight, AreEightOf, AreSound, AreUnset, ArePages, FitsIn, IsPage, Page, Puts, PutsIn, Sets, SetsOne, content, contents, number_in, numbers_from, page_len, page_numbers, unset_number, unset_numbers}

pub fits-within : (u : Unset) (n m : ℕ) → m ≤ n → FitsIn u n → FitsIn u m
fits-within Zero n m h f = tt
fits-within (From first) n m h f = omega arith

length-unset : (u : Unset) (base n : ℕ) → length (unset_numbers u base n) ≡ n
unfolding unset_numbers
length-unset u base zero = refl
length-unset u base (suc n) = omega (arith, length-unset u (base + 1) n)

index-unset : (u : Unset) (base n j : ℕ) → j < n → get_or (unset_numbers u base n) j 0 ≡ unset_number u (base + j)
unfolding unset_numbers
index-unset u base zero j h = absurd (omega arith)
index-unset u base (suc n) zero h = let e : base ≡ base + 0 = omega arith in ap (λ (k : ℕ). unset_number u k) e
index-unset u base (suc n) (suc j) h = let e : base + 1 + j ≡ base + suc j = omega arith in index-unset u (base + 1) n j (omega arith) ∙ ap (λ (k : ℕ). unset_number u k) e

length-page : (u : Unset) (base : ℕ) (page : Page) → IsPage page → length (page_numbers u base page) ≡ page_len
unfolding page_numbers
length-page u base None h = length-unset u base page_len
length-page u base (Some numbers) h = h

index-page : (u : Unset) (base : ℕ) (page : Page) (j : ℕ) → j < page_len → get_or (page_numbers u base page) j 0 ≡ number_in u base page j
unfolding page_numbers
index-page u base None j h = index-unset u base page_len j h
index-page u base (Some numbers) j h = refl

rest : (page : Page) (pages : List Page) → ArePages (page ∷ pages) → ArePages pages
rest page pages all k = all (suc k)

pub length-pages : (u : Unset) (base : ℕ) (pages : List Page) → ArePages pages → length (numbers_from u base pages) ≡ page_len * length pages
length-pages u base [] all = refl
length-pages u base (page ∷ pages) all =
    omega (arith, length-append (page_numbers u base page) (numbers_from u (base + page_len) pages), length-page u base page (all 0), length-pages u (base + page_len) pages (rest page pages all))

index-split : (u : Unset) (base : ℕ) (pages : List Page) → ArePages pages → (i j : ℕ) → j < page_len → i < length pages
    → get_or (numbers_from u base pages) (page_len * i + j) 0 ≡ number_in u (base + page_len * i) (get_or pages i None) j
index-split u base [] all i j h inside = absurd (omega arith)
index-split u base (page ∷ pages) all zero j h inside =
    let near : page_len * 0 + j ≡ j = omega arith in
    let same : base ≡ base + page_len * 0 = omega arith in
    ap (λ (k : ℕ). get_or (page_numbers u base page ++ numbers_from u (base + page_len) pages) k 0) near
    ∙ get_or_append_left (page_numbers u base page) (numbers_from u (base + page_len) pages) 0 j (subst (λ n. j < n) (sym (length-page u base page (all 0))) h)
    ∙ index-page u base page j h
    ∙ ap (λ (b : ℕ). number_in u b page j) same
index-split u base (page ∷ pages) all (suc i) j h inside =
    let far : page_len * suc i + j ≡ length (page_numbers u base page) + (page_len * i + j) = omega (arith, length-page u base page (all 0)) in
    let same : base + page_len + page_len * i ≡ base + page_len * suc i = omega arith in
    ap (λ (k : ℕ). get_or (page_numbers u base page ++ numbers_from u (base + page_len) pages) k 0) far
    ∙ get_or-append-add (page_numbers u base page) (numbers_from u (base + page_len) pages) (page_len * i + j) 0
    ∙ index-split u (base + page_len) pages (rest page pages all) i j h (omega arith)
    ∙ ap (λ (b : ℕ). number_in u b (get_or pages i None) j) same

pub page-inside : (u : Unset) (pages : List Page) → ArePages pages → (at : ℕ) → at < length (numbers_from u 0 pages) → at / page_len < length pages
page-inside u pages all at h = omega (arith, length-pages u 0 pages all)

-- a byte's number stands in its page
pub index-pages : (u : Unset) (pages : List Page) → ArePages pages → (at : ℕ) → at / page_len < length pages
    → get_or (numbers_from u 0 pages) at 0 ≡ number_in u (at / page_len * page_len) (get_or pages (at / page_len) None) (at % page_len)
index-pages u pages all at inside =
    let split : at ≡ page_len * (at / page_len) + at % page_len = omega arith in
    let base : 0 + page_len * (at / page_len) ≡ at / page_len * page_len = omega arith in
    ap (λ (k : ℕ). get_or (numbers_from u 0 pages) k 0) split
    ∙ index-split u 0 pages all (at / page_len) (at % page_len) (omega arith) inside
    ∙ ap (λ (b : ℕ). number_in u b (get_or pages (at / page_len) None) (at % page_len)) base

-- one page is another one
pub ArePages-set : (pages : List Page) (i : ℕ) (page : Page) → ArePages pages → IsPage page → ArePages (set pages i page)
ArePages-set [] i page all h k = tt
ArePages-set (x ∷ xs) zero page all h zero = h
ArePages-set (x ∷ xs) zero page all h (suc k) = all (suc k)
ArePages-set (x ∷ xs) (suc i) page all h zero = all 0
ArePages-set (x ∷ xs) (suc i) page all h (suc k) = ArePages-set xs i page (rest x xs all) h k

test : (b : Bool) (j k : ℕ) → (j == k) ≡ b → (j ≡ k → b ≡ true)
test b j k e h = sym e ∙ (Decides-eqb j k).1 h

other : (k at : ℕ) → (k ≡ at → ⊥) → (k == at) ≡ false
other k at ne = by (k == at) refl where
  by : (b : Bool) → (k == at) ≡ b → (k == at) ≡ false
  by true e = absurd (ne ((Decides-eqb k at).0 e))
  by false e = e

pub at-byte : (k at number was : ℕ) → k ≡ at → (if k == at then number else was) ≡ number
at-byte k at number was e = ap (λ (b : Bool). if b then number else was) ((Decides-eqb k at).1 e)

pub off-byte : (k at number was : ℕ) → (k ≡ at → ⊥) → (if k == at then number else was) ≡ was
off-byte k at number was ne = ap (λ (b : Bool). if b then number else was) (other k at ne)

-- one page is another one: what its bytes and the others have
module _ (u : Unset) (pages : List Page) (all : ArePages pages) (at : ℕ) (inside : at / page_len < length pages) (old new : Page)
    (read : old ≡ get_or pages (at / page_len) None) (page : IsPage new) where
  still : ArePages (set pages (at / page_len) new)
  still = ArePages-set pages (at / page_len) new all page

  long : length (numbers_from u 0 (set pages (at / page_len) new)) ≡ length (numbers_from u 0 pages)
  long = length-pages u 0 (set pages (at / page_len) new) still ∙ ap (λ (n : ℕ). page_len * n) (length-set pages (at / page_len) new) ∙ sym (length-pages u 0 pages all)

  index-new : (k : ℕ) → k / page_len < length pages → get_or (numbers_from u 0 (set pages (at / page_len) new)) k 0 ≡ number_in u (k / page_len * page_len) (get_or (set pages (at / page_len) new) (k / page_len) None) (k % page_len)
  index-new k within = index-pages u (set pages (at / page_len) new) still k (subst (λ n. k / page_len < n) (sym (length-set pages (at / page_len) new)) within)

  here-new : (k : ℕ) → k / page_len ≡ at / page_len → get_or (numbers_from u 0 (set pages (at / page_len) new)) k 0 ≡ number_in u (at / page_len * page_len) new (k % page_len)
  here-new k e =
      index-new k (subst (λ n. n < length pages) (sym e) inside)
      ∙ ap (λ (p : Page). number_in u (k / page_len * page_len) p (k % page_len)) (get_or-set_at pages (at / page_len) (k / page_len) new None e inside)
      ∙ ap (λ (n : ℕ). number_in u (n * page_len) new (k % page_len)) e

  here-old : (k : ℕ) → k / page_len ≡ at / page_len → number_in u (at / page_len * page_len) old (k % page_len) ≡ get_or (numbers_from u 0 pages) k 0
  here-old k e =
      ap (λ (p : Page). number_in u (at / page_len * page_len) p (k % page_len)) (read ∙ ap (λ (n : ℕ). get_or pages n None) (sym e))
      ∙ ap (λ (n : ℕ). number_in u (n * page_len) (get_or pages (k / page_len) None) (k % page_len)) (sym e)
      ∙ sym (index-pages u pages all k (subst (λ n. n < length pages) (sym e) inside))

  elsewhere : (k : ℕ) → (k / page_len ≡ at / page_len → ⊥) → get_or (numbers_from u 0 (set pages (at / page_len) new)) k 0 ≡ get_or (numbers_from u 0 pages) k 0
  elsewhere k apart = by (nat_lt (k / page_len) (length pages)) refl where
    by : (b : Bool) → nat_lt (k / page_len) (length pages) ≡ b → get_or (numbers_from u 0 (set pages (at / page_len) new)) k 0 ≡ get_or (numbers_from u 0 pages) k 0
    by true e =
        let within = ltb-true (k / page_len) (length pages) e in
        index-new k within
        ∙ ap (λ (p : Page). number_in u (k / page_len * page_len) p (k % page_len)) (get_or-set_other pages (at / page_len) (k / page_len) new None apart)
        ∙ sym (index-pages u pages all k within)
    by false e =
        let beyond = ltb-false (k / page_len) (length pages) e in
        let past : length (numbers_from u 0 pages) ≤ k = omega (arith, length-pages u 0 pages all) in
        get_or-eq_default (numbers_from u 0 (set pages (at / page_len) new)) 0 (subst (λ n. n ≤ k) (sym long) past)
        ∙ sym (get_or-eq_default (numbers_from u 0 pages) 0 past)

module _ (u : Unset) (pages : List Page) (all : ArePages pages) (at number : ℕ) (inside : at / page_len < length pages) (old new : Page)
    (read : old ≡ get_or pages (at / page_len) None) (page : IsPage new) (one : SetsOne u (at / page_len * page_len) (at % page_len) number old new) where
  by-page : (k : ℕ) (b : Bool) → (k / page_len == at / page_len) ≡ b → get_or (numbers_from u 0 (set pages (at / page_len) new)) k 0 ≡ (if k == at then number else get_or (numbers_from u 0 pages) k 0)
  by-page k true e =
      let same = (Decides-eqb (k / page_len) (at / page_len)).0 e in
      here-new u pages all at inside old new read page k same ∙ one (k % page_len) (omega arith) ∙ in-byte (k % page_len == at % page_len) refl same
    where
      in-byte : (b : Bool) → (k % page_len == at % page_len) ≡ b → k / page_len ≡ at / page_len → (if k % page_len == at % page_len then number else number_in u (at / page_len * page_len) old (k % page_len)) ≡ (if k == at then number else get_or (numbers_from u 0 pages) k 0)
      in-byte true f same =
          let rem = (Decides-eqb (k % page_len) (at % page_len)).0 f in
          let equal : k ≡ at = omega arith in
          at-byte (k % page_len) (at % page_len) number (number_in u (at / page_len * page_len) old (k % page_len)) rem ∙ sym (at-byte k at number (get_or (numbers_from u 0 pages) k 0) equal)
      in-byte false f same =
          let apart : k % page_len ≡ at % page_len → ⊥ = λ (r : k % page_len ≡ at % page_len). let t = test false (k % page_len) (at % page_len) f r in cc in
          off-byte (k % page_len) (at % page_len) number (number_in u (at / page_len * page_len) old (k % page_len)) apart ∙ here-old u pages all at inside old new read page k same
          ∙ sym (off-byte k at number (get_or (numbers_from u 0 pages) k 0) (λ (r : k ≡ at). apart (ap (λ (n : ℕ). n % page_len) r)))
  by-page k false e =
      let apart : k / page_len ≡ at / page_len → ⊥ = λ (r : k / page_len ≡ at / page_len). let t = test false (k / page_len) (at / page_len) e r in cc in
      elsewhere u pages all at inside old new read page k apart
      ∙ sym (off-byte k at number (get_or (numbers_from u 0 pages) k 0) (λ (r : k ≡ at). apart (ap (λ (n : ℕ). n / page_len) r)))

  pub sets : Sets at number (numbers_from u 0 pages) (numbers_from u 0 (set pages (at / page_len) new))
  sets = record { len = long u pages all at inside old new read page; numbers = λ k. by-page k (k / page_len == at / page_len) refl }

module _ (u : Unset) (pages : List Page) (all : ArePages pages) (at : ℕ) (numbers : List ℕ) (inside : at / page_len < length pages) (short : at % page_len + length numbers ≤ page_len)
    (old new : Page) (read : old ≡ get_or pages (at / page_len) None) (page : IsPage new) (put : PutsIn u (at / page_len * page_len) (at % page_len) numbers old new) where
  put-here : (i : ℕ) → i < length numbers → get_or (numbers_from u 0 (set pages (at / page_len) new)) (at + i) 0 ≡ get_or numbers i 0
  put-here i h =
      let same : (at + i) / page_len ≡ at / page_len = omega arith in
      let rem : (at + i) % page_len ≡ at % page_len + i = omega arith in
      here-new u pages all at inside old new read page (at + i) same ∙ ap (λ (n : ℕ). number_in u (at / page_len * page_len) new n) rem ∙ put.put i h

  put-kept : (k : ℕ) → (k < at) ⊎ (at + length numbers ≤ k) → (b : Bool) → (k / page_len == at / page_len) ≡ b → get_or (numbers_from u 0 (set pages (at / page_len) new)) k 0 ≡ get_or (numbers_from u 0 pages) k 0
  put-kept k off true e =
      let same = (Decides-eqb (k / page_len) (at / page_len)).0 e in
      let beside : (k % page_len < at % page_len) ⊎ (at % page_len + length numbers ≤ k % page_len) = elim off [ inl before ↦ inl (omega arith) | inr behind ↦ inr (omega arith) ] in
      here-new u pages all at inside old new read page k same ∙ put.kept (k % page_len) (omega arith) beside ∙ here-old u pages all at inside old new read page k same
  put-kept k off false e =
      let apart : k / page_len ≡ at / page_len → ⊥ = λ (r : k / page_len ≡ at / page_len). let t = test false (k / page_len) (at / page_len) e r in cc in
      elsewhere u pages all at inside old new read page k apart

  puts : Puts at numbers (numbers_from u 0 pages) (numbers_from u 0 (set pages (at / page_len) new))
  puts = record { len = long u pages all at inside old new read page; put = λ i h there. put-here i h; kept = λ k off. put-kept k off (k / page_len == at / page_len) refl }

-- a byte that lies in the same page
pub page-byte : (u : Unset) (pages : List Page) → ArePages pages → (at i : ℕ) (page : Page) → at / page_len < length pages → page ≡ get_or pages (at / page_len) None → at % page_len + i < page_len
    → number_in u (at / page_len * page_len) page (at % page_len + i) ≡ get_or (numbers_from u 0 pages) (at + i) 0
page-byte u pages all at i page inside read near =
    let same : at / page_len ≡ (at + i) / page_len = omega arith in
    let rem : at % page_len + i ≡ (at + i) % page_len = omega arith in
    ap (λ (n : ℕ). number_in u (at / page_len * page_len) page n) rem
    ∙ ap (λ (p : Page). number_in u (at / page_len * page_len) p ((at + i) % page_len)) (read ∙ ap (λ (n : ℕ). get_or pages n None) same)
    ∙ ap (λ (n : ℕ). number_in u (n * page_len) (get_or pages ((at + i) / page_len) None) ((at + i) % page_len)) same
    ∙ sym (index-pages u pages all (at + i) (subst (λ n. n < length pages) same inside))

-- eight bytes that lie in one page
pub eight-page : (u : Unset) (pages : List Page) → ArePages pages → (at count : ℕ) (eight : List ℕ) (page : Page) → at / page_len < length pages → page ≡ get_or pages (at / page_len) None → at % page_len + 8 ≤ page_len → count ≤ 8
    → AreEightOf u (at / page_len * page_len) page (at % page_len) count eight → AreEight (numbers_from u 0 pages) at count eight
eight-page u pages all at count eight page inside read short few e = record {
  len = e.len;
  bytes = λ i h. e.bytes i h ∙ page-byte u pages all at i page inside read (omega (arith, h));
  zeros = e.zeros;
}

-- pages that are all absent
absent-at : (n i : ℕ) → get_or {A = Page} (contents (replicate n Absent)) i None ≡ None
absent-at zero i = refl
absent-at (suc n) zero = refl
absent-at (suc n) (suc i) = absent-at n i

length-absent : (n : ℕ) → length (contents (replicate n Absent)) ≡ n
length-absent zero = refl
length-absent (suc n) = ap suc (length-absent n)

ArePages-absent : (n : ℕ) → ArePages (contents (replicate n Absent))
ArePages-absent n k = subst IsPage (sym (absent-at n k)) tt

pub sound-absent : (u : Unset) (n : ℕ) → FitsIn u (page_len * n) → AreSound u (contents (replicate n Absent))
sound-absent u n f = record { whole = ArePages-absent n; fits = subst (λ k. FitsIn u (page_len * k)) (sym (length-absent n)) f }

pub unset-absent : (u : Unset) (n : ℕ) → AreUnset u (page_len * n) (numbers_from u 0 (contents (replicate n Absent)))
unset-absent u n = record {
  len = length-pages u 0 (contents (replicate n Absent)) (ArePages-absent n) ∙ ap (λ (k : ℕ). page_len * k) (length-absent n);
  all = λ k h.
      let whole : k / page_len * page_len + k % page_len ≡ k = omega arith in
      let inside : k / page_len < n = omega arith in
      index-pages u (contents (replicate n Absent)) (ArePages-absent n) k (subst (λ m. k / page_len < m) (sym (length-absent n)) inside)
      ∙ ap (λ (p : Page). number_in u (k / page_len * page_len) p (k % page_len)) (absent-at n (k / page_len))
      ∙ ap (λ (m : ℕ). unset_number u m) whole;
}

-- the page of a byte whose number stays
pub one-absent : (u : Unset) (base at number : ℕ) → number ≡ unset_number u (base + at) → SetsOne u base at number None None
one-absent u base at number e k within = by (k == at) refl where
  by : (b : Bool) → (k == at) ≡ b → unset_number u (base + k) ≡ (if k == at then number else unset_number u (base + k))
  by true f =
      let same = (Decides-eqb k at).0 f in
      ap (λ (n : ℕ). unset_number u (base + n)) same ∙ sym e ∙ sym (at-byte k at number (unset_number u (base + k)) same)
  by false f =
      let apart : k ≡ at → ⊥ = λ (r : k ≡ at). let t = test false k at f r in cc in
      sym (off-byte k at number (unset_number u (base + k)) apart)

-- a page that is made for one byte
pub one-made : (u : Unset) (base at number : ℕ) (items : List ℕ) → length items ≡ page_len → ((k : ℕ) → k < page_len → get_or items k 0 ≡ unset_number u (base + k)) → at < page_len
    → (k : ℕ) → k < page_len → get_or (set items at number) k 0 ≡ (if k == at then number else unset_number u (base + k))
one-made u base at number items long all h k within = by (k == at) refl where
  by : (b : Bool) → (k == at) ≡ b → get_or (set items at number) k 0 ≡ (if k == at then number else unset_number u (base + k))
  by true f =
      let same = (Decides-eqb k at).0 f in
      get_or-set_at items at k number 0 same (subst (λ m. at < m) (sym long) h) ∙ sym (at-byte k at number (unset_number u (base + k)) same)
  by false f =
      let apart : k ≡ at → ⊥ = λ (r : k ≡ at). let t = test false k at f r in cc in
      get_or-set_other items at k number 0 apart ∙ all k within ∙ sym (off-byte k at number (unset_number u (base + k)) apart)

pub zero-at : (n j : ℕ) → get_or {A = ℕ} (replicate n 0) j 0 ≡ 0
zero-at zero j = refl
zero-at (suc n) zero = refl
zero-at (suc n) (suc j) = zero-at n j

pub length-contents : (pages : List KeptPage) → length (contents pages) ≡ length pages
length-contents pages = length-map pages content

-- what a page holds that is read
pub read-page : (pages : List KeptPage) (i : ℕ) (page : KeptPage) → i < length (contents pages) → page ≡ get_or pages i page → content page ≡ get_or (contents pages) i None
read-page [] i page h e = absurd (omega arith)
read-page (x ∷ xs) zero page h e = ap (λ (p : KeptPage). content p) e
read-page (x ∷ xs) (suc i) page h e = read-page xs i page (omega arith) e

pub place-inside : (u : Unset) (pages : List KeptPage) → AreSound u (contents pages) → (at : ℕ) → at < length (numbers_from u 0 (contents pages)) → at / page_len < length pages
place-inside u pages s at h = subst (λ n. at / page_len < n) (length-contents pages) (page-inside u (contents pages) s.whole at h)

pub place-fits : (u : Unset) (pages : List Page) → AreSound u pages → (at : ℕ) → at / page_len < length pages → FitsIn u (at / page_len * page_len + page_len)
place-fits u pages s at h = fits-within u (page_len * length pages) (at / page_len * page_len + page_len) (omega arith) s.fits

pub sets-page : (u : Unset) (pages : List KeptPage) → AreSound u (contents pages) → (at number : ℕ) (old new : KeptPage) → at / page_len < length (contents pages) → content old ≡ get_or (contents pages) (at / page_len) None
    → IsPage (content new) → SetsOne u (at / page_len * page_len) (at % page_len) number (content old) (content new) → Sets at number (numbers_from u 0 (contents pages)) (numbers_from u 0 (contents (set pages (at / page_len) new)))
sets-page u pages s at number old new inside read page one =
    subst (λ l. Sets at number (numbers_from u 0 (contents pages)) (numbers_from u 0 l)) (sym (map-set content pages (at / page_len) new))
    (sets u (contents pages) s.whole at number inside (content old) (content new) read page one)

pub puts-page : (u : Unset) (pages : List KeptPage) → AreSound u (contents pages) → (at : ℕ) (numbers : List ℕ) (old new : KeptPage) → at / page_len < length (contents pages) → at % page_len + length numbers ≤ page_len
    → content old ≡ get_or (contents pages) (at / page_len) None → IsPage (content new) → PutsIn u (at / page_len * page_len) (at % page_len) numbers (content old) (content new)
    → Puts at numbers (numbers_from u 0 (contents pages)) (numbers_from u 0 (contents (set pages (at / page_len) new)))
puts-page u pages s at numbers old new inside short read page put =
    subst (λ l. Puts at numbers (numbers_from u 0 (contents pages)) (numbers_from u 0 l)) (sym (map-set content pages (at / page_len) new))
    (puts u (contents pages) s.whole at numbers inside short (content old) (content new) read page put)

pub long-page : (u : Unset) (pages : List KeptPage) → AreSound u (contents pages) → (i : ℕ) (new : KeptPage) → IsPage (content new)
    → length (numbers_from u 0 (contents (set pages i new))) ≡ length (numbers_from u 0 (contents pages))
long-page u pages s i new page =
    ap (λ l. length (numbers_from u 0 l)) (map-set content pages i new)
    ∙ length-pages u 0 (set (contents pages) i (content new)) (ArePages-set (contents pages) i (content new) s.whole page)
    ∙ ap (λ (n : ℕ). page_len * n) (length-set (contents pages) i (content new))
    ∙ sym (length-pages u 0 (contents pages) s.whole)

pub sound-set : (u : Unset) (pages : List KeptPage) (i : ℕ) (new : KeptPage) → AreSound u (contents pages) → IsPage (content new) → AreSound u (contents (set pages i new))
sound-set u pages i new s page =
    subst (AreSound u) (sym (map-set content pages i new)) (record {
      whole = ArePages-set (contents pages) i (content new) s.whole page;
      fits = subst (λ n. FitsIn u (page_len * n)) (sym (length-set (contents pages) i (content new))) s.fits;
    })

pub copied : (pages copy : List KeptPage) (n : ℕ) → contents copy ≡ take n (contents pages) → length pages ≤ n → contents copy ≡ contents pages
copied pages copy n e h = e ∙ take_all n (contents pages) (subst (λ m. m ≤ n) (sym (length-contents pages)) h)

pub copy-more : (pages copy : List KeptPage) (i : ℕ) (old new : KeptPage) → contents copy ≡ take i (contents pages) → i < length pages → old ≡ get_or pages i old → content new ≡ content old
    → contents (copy ++ new ∷ []) ≡ take (i + 1) (contents pages)
copy-more pages copy i old new e h read same =
    let inside : i < length (contents pages) = subst (λ n. i < n) (sym (length-contents pages)) h in
    map-append content copy (new ∷ [])
    ∙ ap (λ (l : List Page). l ++ content new ∷ []) e
    ∙ ap (λ (p : Page). take i (contents pages) ++ p ∷ []) (same ∙ read-page pages i old inside read)
    ∙ sym (take_more (contents pages) i None inside)
