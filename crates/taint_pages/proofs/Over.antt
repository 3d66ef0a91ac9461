-- Numbers that are put over those of a page from one place on.
use Rattle.std.proofs.Common.{◌≡◌, ◌⊎◌, inl, inr, ℕ, ◌+◌, ◌-◌, ◌<◌, ◌≤◌, List, ◌++◌, length, get_or, take, drop, Option, None, Some, option_map, Vec, Global, refl, sym, ap, subst, append_assoc, ◌∙◌, arith}
use Rattle.std.proofs.Math.Seq.{take-append_seam}
use Rattle.std.proofs.lemmas.List.{length-append, length-take, length-drop, get_or_append_left, get_or-append-add, get_or-append_right, get_or-take, get_or-drop}
use Rattle.arn_base.specs.Disk.{overwrite}
use Rattle.taint_spans.specs.Carried.{Carried, HasNumber, HaveNumbers}
use Rattle.taint_pages.specs.Carried.{CarriesPage}
use Rattle.taint_pages.specs.declared.page.Unset.{Unset}
use Rattle.taint_pages.specs.Pages.{HaveUnset, Page, PutsIn, number_in, page_len, unset_number}

module _ (old numbers : List ℕ) (at : ℕ) (inside : at + length numbers ≤ length old) where
  front : length (take at old) ≡ at
  front = length-take at old ∙ omega arith

  shape : overwrite old at numbers ≡ take at old ++ (numbers ++ drop (at + length numbers) old)
  shape = append_assoc (take at old) numbers (drop (at + length numbers) old)

  pub over-len : length (overwrite old at numbers) ≡ length old
  over-len = simp (length-append, length-take, length-drop) (omega arith)

  over-put : (i : ℕ) → i < length numbers → get_or (overwrite old at numbers) (at + i) 0 ≡ get_or numbers i 0
  over-put i below =
      subst (λ k. get_or (overwrite old at numbers) (k + i) 0 ≡ get_or numbers i 0) front
      (ap (λ l. get_or l (length (take at old) + i) 0) shape ∙ get_or-append-add (take at old) (numbers ++ drop (at + length numbers) old) i 0 ∙ get_or_append_left numbers (drop (at + length numbers) old) 0 i below)

  over-kept : (k : ℕ) → (k < at) ⊎ (at + length numbers ≤ k) → get_or (overwrite old at numbers) k 0 ≡ get_or old k 0
  over-kept k (inl before) = ap (λ l. get_or l k 0) shape ∙ get_or_append_left (take at old) (numbers ++ drop (at + length numbers) old) 0 k (subst (λ n. k < n) (sym front) before) ∙ get_or-take at old k 0 before
  over-kept k (inr behind) =
      ap (λ l. get_or l k 0) shape
      ∙ (get_or-append_right (take at old) (numbers ++ drop (at + length numbers) old) at k 0 front (omega arith)
      ∙ (get_or-append_right numbers (drop (at + length numbers) old) (length numbers) (k - at) 0 refl (omega arith)
      ∙ (get_or-drop (at + length numbers) old (k - at - length numbers) 0 ∙ ap (λ j. get_or old j 0) (omega arith))))

-- what was lent is back
back : (n : ℕ) (old new : List ℕ) → length new ≡ n → take n (new ++ drop (length new) old) ≡ new
back n old new e = subst (λ k. take k (new ++ drop (length new) old) ≡ new) e (take-append_seam new (drop (length new) old))

-- numbers of a page that are lent have room
pub lent-fits : (items lent numbers : List ℕ) (at : ℕ) → lent ≡ items → length items ≡ page_len → at + length numbers ≤ page_len → at + length numbers ≤ length lent
lent-fits items lent numbers at same long inside = subst (λ m. at + length numbers ≤ m) (sym (ap (λ l. length l) same ∙ long)) inside

-- a page whose numbers were lent, and written over
module _ (items lent new numbers : List ℕ) (at n : ℕ) (same : lent ≡ items) (long : length items ≡ page_len) (all : n ≡ length items) (inside : at + length numbers ≤ page_len) (is : new ≡ overwrite lent at numbers) where
  over : new ≡ overwrite items at numbers
  over = is ∙ ap (λ l. overwrite l at numbers) same

  fits : at + length numbers ≤ length items
  fits = subst (λ m. at + length numbers ≤ m) (sym long) inside

  whole : length new ≡ length items
  whole = ap (λ l. length l) over ∙ over-len items numbers at fits

  put-back : take n (new ++ drop (length new) items) ≡ overwrite items at numbers
  put-back = back n items new (whole ∙ sym all) ∙ over

  pub put-len : length (take n (new ++ drop (length new) items)) ≡ page_len
  put-len = ap (λ l. length l) put-back ∙ (over-len items numbers at fits ∙ long)

  pub put-over : (u : Unset) (base : ℕ) (old : Page) → ((k : ℕ) → k < page_len → get_or items k 0 ≡ number_in u base old k) → PutsIn u base at numbers old (Some (take n (new ++ drop (length new) items)))
  put-over u base old was =
      subst (λ l. PutsIn u base at numbers old (Some l)) (sym put-back) (record { put = over-put items numbers at fits; kept = λ k within apart. over-kept items numbers at fits k apart ∙ was k within })

-- a page that stays absent
pub put-none : (u : Unset) (base at : ℕ) (numbers : List ℕ) → HaveUnset u (base + at) numbers → PutsIn u base at numbers None None
put-none u base at numbers have = record { put = λ i below. ap (unset_number u) (omega arith) ∙ sym (have i below); kept = λ k within apart. refl }

-- the numbers that were taken out of a page are those that it had
pub was-some : (o : Option (Vec ℕ Global)) (v : Vec ℕ Global) (page : Page) → option_map (λ (numbers : Vec ℕ Global). numbers.items) o ≡ page → o ≡ Some v → page ≡ Some v.items
was-some o v page taken is = sym taken ∙ ap (option_map (λ (numbers : Vec ℕ Global). numbers.items)) is

pub was-none : (o : Option (Vec ℕ Global)) (page : Page) → option_map (λ (numbers : Vec ℕ Global). numbers.items) o ≡ page → o ≡ None → page ≡ None
was-none o page taken is = sym taken ∙ ap (option_map (λ (numbers : Vec ℕ Global). numbers.items)) is

-- a page whose numbers were lent, and carried over
module _ (sets : Carried) (items lent new : List ℕ) (n : ℕ) (same : lent ≡ items) (long : length items ≡ page_len) (all : n ≡ length items) (carried : HaveNumbers sets lent new) where
  long-new : length new ≡ length items
  long-new = carried.len ∙ ap (λ l. length l) same

  there : take n (new ++ drop (length new) items) ≡ new
  there = back n items new (long-new ∙ sym all)

  pub carried-len : length (take n (new ++ drop (length new) items)) ≡ page_len
  carried-len = ap (λ l. length l) there ∙ (long-new ∙ long)

  pub carried-back : (u : Unset) (base : ℕ) (old : Page) → ((k : ℕ) → k < page_len → get_or items k 0 ≡ number_in u base old k) → CarriesPage sets u base old (Some (take n (new ++ drop (length new) items)))
  carried-back u base old was k within =
      subst (λ m. HasNumber sets m (get_or (take n (new ++ drop (length new) items)) k 0)) (was k within)
      (subst (λ l. HasNumber sets (get_or items k 0) (get_or l k 0)) (sym there)
      (subst (λ l. HasNumber sets (get_or l k 0) (get_or new k 0)) same (carried.each k (subst (λ m. k < m) (sym (ap (λ l. length l) same ∙ long)) within))))
