-- Pages whose numbers are carried over.
use Rattle.std.proofs.Common.{◌≡◌, ℕ, ◌+◌, ◌*◌, ◌/◌, ◌%◌, ◌<◌, ◌≤◌, ◌==◌, Bool, true, false, List, length, get_or, set, None, refl, sym, ap, subst, ◌∙◌, arith}
use Rattle.taint_pages.specs.declared.page.Page.{Page as KeptPage}
use Rattle.std.proofs.lemmas.Bool.{eqb-true, eqb-false}
use Rattle.std.proofs.lemmas.Grind.{get_or-set_at}
use Rattle.std.proofs.lemmas.List.{get_or-set_other, length-set, map-set}
use Rattle.taint_pages.specs.declared.page.Unset.{Unset}
use Rattle.taint_pages.specs.Carried.{CarriesPage, CarriesPages}
use Rattle.taint_pages.specs.Pages.{AreSound, FitsIn, IsPage, Page, content, contents, number_in, numbers_from, page_len}
use Rattle.taint_pages.proofs.Flat.{fits-within, index-pages, length-contents, length-pages, page-inside, read-page, sound-set}
use Rattle.taint_spans.specs.Carried.{Carried, CarriesOn, HasNumber, HaveNumbers}

pub on-twice : (a b c : Carried) → CarriesOn a b → CarriesOn b c → CarriesOn a c
on-twice a b c f g = record { from = g.from ∙ f.from; still = λ was is h. g.still was is (f.still was is h) }

-- the bytes of pages have numbers where each page's have
pub carries-numbers : (sets : Carried) (u : Unset) (old new : List Page) → AreSound u old → AreSound u new → CarriesPages sets u old new → HaveNumbers sets (numbers_from u 0 old) (numbers_from u 0 new)
carries-numbers sets u old new before after carries = record {
  len = length-pages u 0 new after.whole ∙ ap (λ (n : ℕ). page_len * n) carries.count ∙ sym (length-pages u 0 old before.whole);
  each = λ k below.
      let inside = page-inside u old before.whole k below in
      subst (λ n. HasNumber sets n (get_or (numbers_from u 0 new) k 0)) (sym (index-pages u old before.whole k inside))
      (subst (λ n. HasNumber sets (number_in u (k / page_len * page_len) (get_or old (k / page_len) None) (k % page_len)) n) (sym (index-pages u new after.whole k (subst (λ n. k / page_len < n) (sym carries.count) inside)))
      (carries.each (k / page_len) inside (k % page_len) (omega arith)));
}

-- a page of numbers, each of which has another
pub carries-page : (sets : Carried) (u : Unset) (base : ℕ) (old new : List ℕ) → length old ≡ page_len → HaveNumbers sets old new → (k : ℕ) → k < page_len → HasNumber sets (get_or old k 0) (get_or new k 0)
carries-page sets u base old new whole has k below = has.each k (subst (λ n. k < n) (sym whole) below)

-- the pages before a place are carried over, and those from it on aren't yet
pub record CarriedTo (begun now : Carried) (u : Unset) (first pages : List Page) (place : ℕ) : Type 0 where
  pub sound : AreSound u pages
  pub count : length pages ≡ length first
  pub done : (i : ℕ) → i < place → CarriesPage now u (i * page_len) (get_or first i None) (get_or pages i None)
  pub rest : (i : ℕ) → place ≤ i → get_or pages i None ≡ get_or first i None
  pub on : CarriesOn begun now

pub carried-first : (sets : Carried) (u : Unset) (pages : List Page) → AreSound u pages → CarriedTo sets sets u pages pages 0
carried-first sets u pages sound = record { sound = sound; count = refl; done = λ i below. absurd (omega arith); rest = λ i from. refl; on = record { from = refl; still = λ was is h. h } }

module _ (begun now next : Carried) (u : Unset) (first : List Page) (pages : List KeptPage) (place : ℕ) (was new : KeptPage) (so : CarriedTo begun now u first (contents pages) place) (inside : place < length pages)
    (read : was ≡ get_or pages place was) (on : CarriesOn now next) (page : IsPage (content new)) where
  there : place < length (contents pages)
  there = subst (λ n. place < n) (sym (length-contents pages)) inside

  pub still-sound : AreSound u (contents (set pages place new))
  still-sound = sound-set u pages place new so.sound page

  pub on-so : CarriesOn begun next
  on-so = on-twice begun now next so.on on

  pub carried-more : CarriesPage next u (place * page_len) (content was) (content new) → CarriedTo begun next u first (contents (set pages place new)) (place + 1)
  carried-more one = record {
    sound = still-sound;
    count = ap (λ l. length l) (map-set content pages place new) ∙ length-set (contents pages) place (content new) ∙ so.count;
    done = λ i below. subst (λ (l : List Page). CarriesPage next u (i * page_len) (get_or first i None) (get_or l i None)) (sym (map-set content pages place new)) (by i below (i == place) refl);
    rest = λ i behind. ap (λ (l : List Page). get_or l i None) (map-set content pages place new) ∙ get_or-set_other (contents pages) place i (content new) None (λ e. omega arith) ∙ so.rest i (omega arith);
    on = on-so;
  }
    where
      by : (i : ℕ) → i < place + 1 → (b : Bool) → (i == place) ≡ b → CarriesPage next u (i * page_len) (get_or first i None) (get_or (set (contents pages) place (content new)) i None)
      by i below true e =
          let same = eqb-true i place e in
          subst (λ (p : Page). CarriesPage next u (i * page_len) (get_or first i None) p) (sym (get_or-set_at (contents pages) place i (content new) None same there))
          (subst (λ (p : Page). CarriesPage next u (i * page_len) p (content new)) (read-page pages place was there read ∙ ap (λ j. get_or (contents pages) j None) (sym same) ∙ so.rest i (omega arith))
          (subst (λ j. CarriesPage next u (j * page_len) (content was) (content new)) (sym same) one))
      by i below false e =
          let apart = eqb-false i place e in
          subst (λ (p : Page). CarriesPage next u (i * page_len) (get_or first i None) p) (sym (get_or-set_other (contents pages) place i (content new) None apart))
          (λ k within. on.still _ _ (so.done i (omega (arith, apart)) k within))

-- the page at a place fits
pub page-fits : (u : Unset) (pages : List Page) (place : ℕ) → AreSound u pages → place < length pages → FitsIn u (place * page_len + page_len)
page-fits u pages place sound inside = fits-within u (page_len * length pages) (place * page_len + page_len) (omega arith) sound.fits

pub carried-all : (begun now : Carried) (u : Unset) (first pages : List Page) (place : ℕ) → CarriedTo begun now u first pages place → length first ≤ place → CarriesPages now u first pages
carried-all begun now u first pages place so all = record { count = so.count; each = λ i below. so.done i (omega arith) }

-- a place of the pages of before is one of the pages of now
pub inside-still : (first pages : List KeptPage) (place : ℕ) → length (contents pages) ≡ length (contents first) → place < length first → place < length pages
inside-still first pages place same below = subst (λ n. place < n) (sym (sym (length-contents pages) ∙ same ∙ length-contents first)) below
