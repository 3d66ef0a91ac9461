-- Numbers of a memory's bytes, in pages.
use Rattle.std.specs.Prelude.{◌≡◌, ◌⊎◌, ℕ, zero, suc, ◌+◌, ◌*◌, ◌^◌, ◌<◌, ◌≤◌, ◌==◌, ◌&&◌, nat_lt, if◌then◌else◌, List, [], ◌∷◌, ◌++◌, length, map, slice_index, slice_index_or, Option, Some, None, IfSome}
use Rattle.taint_pages.specs.declared.page.Page.{Page as KeptPage}
use Rattle.taint_pages.specs.declared.page.Page.TheVariants.{Absent, Own, Shared}
use Rattle.taint_pages.specs.declared.page.Unset.{Unset}
use Rattle.taint_pages.specs.declared.page.Unset.TheVariants.{Zero, From}

-- how many bytes a page is for
abbrev pub page_len : ℕ
page_len = 4096

-- the number of a byte that wasn't set
abbrev pub unset_number : Unset → ℕ → ℕ
unset_number Zero at = 0
unset_number (From first) at = first + at

-- the numbers of so many bytes fit 32 bits
abbrev pub FitsIn : Unset → ℕ → Type 0
FitsIn Zero len = Unit {0}
FitsIn (From first) len = first + len ≤ 2 ^ 32

-- the numbers of a page, if it is there
abbrev pub Page : Type 0
Page = Option (List ℕ)

abbrev pub content : KeptPage → Page
content Absent = None
content (Own numbers) = Some numbers.items
content (Shared numbers) = Some numbers.value.items

abbrev pub contents : List KeptPage → List Page
contents pages = map content pages

-- the number of byte j of the page whose first byte has this place
abbrev pub number_in : Unset → ℕ → Page → ℕ → ℕ
number_in unset base None j = unset_number unset (base + j)
number_in unset base (Some numbers) j = slice_index numbers j

-- a page has a number for each of its bytes
abbrev pub IsPage : Page → Type 0
IsPage page = IfSome page (λ (numbers : List ℕ). length numbers ≡ page_len)

-- so has each page
abbrev pub ArePages : List Page → Type 0
ArePages pages = (k : ℕ) → IsPage (slice_index_or pages k None)

-- one byte of a page has another number
abbrev pub SetsOne : Unset → ℕ → ℕ → ℕ → Page → Page → Type 0
SetsOne unset base at number old new = (k : ℕ) → k < page_len → number_in unset base new k ≡ (if k == at then number else number_in unset base old k)

-- the numbers of so many bytes that weren't set
unfoldable pub unset_numbers : Unset → ℕ → ℕ → List ℕ
unset_numbers unset base zero = []
unset_numbers unset base (suc n) = unset_number unset base ∷ unset_numbers unset (base + 1) n

-- the numbers of a page's bytes
unfoldable pub page_numbers : Unset → ℕ → Page → List ℕ
page_numbers unset base None = unset_numbers unset base page_len
page_numbers unset base (Some numbers) = numbers

-- of all pages, one behind the other
abbrev pub numbers_from : Unset → ℕ → List Page → List ℕ
numbers_from unset base [] = []
numbers_from unset base (page ∷ pages) = page_numbers unset base page ++ numbers_from unset (base + page_len) pages

-- one byte has another number
pub record Sets (at number : ℕ) (old new : List ℕ) : Type 0 where
  pub len : length new ≡ length old
  pub numbers : (k : ℕ) → slice_index new k ≡ (if k == at then number else slice_index old k)

-- the same, where there is such a byte
abbrev pub SetsInside : ℕ → ℕ → List ℕ → List ℕ → Type 0
SetsInside at number old new = (k : ℕ) → slice_index new k ≡ (if (k == at) && nat_lt at (length old) then number else slice_index old k)

-- several bytes have other numbers, as far as there are such bytes
pub record Puts (at : ℕ) (numbers old new : List ℕ) : Type 0 where
  pub len : length new ≡ length old
  pub put : (i : ℕ) → i < length numbers → at + i < length old → slice_index new (at + i) ≡ slice_index numbers i
  pub kept : (k : ℕ) → (k < at) ⊎ (at + length numbers ≤ k) → slice_index new k ≡ slice_index old k

-- the numbers of so many bytes, and zeros behind them
pub record AreEight (numbers : List ℕ) (at count : ℕ) (eight : List ℕ) : Type 0 where
  pub len : length eight ≡ 8
  pub bytes : (i : ℕ) → i < count → slice_index eight i ≡ slice_index numbers (at + i)
  pub zeros : (i : ℕ) → count ≤ i → slice_index eight i ≡ 0

-- the same of the bytes of a page
pub record AreEightOf (unset : Unset) (base : ℕ) (page : Page) (at count : ℕ) (eight : List ℕ) : Type 0 where
  pub len : length eight ≡ 8
  pub bytes : (i : ℕ) → i < count → slice_index eight i ≡ number_in unset base page (at + i)
  pub zeros : (i : ℕ) → count ≤ i → slice_index eight i ≡ 0

-- bytes from a place on have the numbers of bytes that weren't set
abbrev pub HaveUnset : Unset → ℕ → List ℕ → Type 0
HaveUnset unset at numbers = (i : ℕ) → i < length numbers → slice_index numbers i ≡ unset_number unset (at + i)

-- several bytes of a page have other numbers
pub record PutsIn (unset : Unset) (base at : ℕ) (numbers : List ℕ) (old new : Page) : Type 0 where
  pub put : (i : ℕ) → i < length numbers → number_in unset base new (at + i) ≡ slice_index numbers i
  pub kept : (k : ℕ) → k < page_len → (k < at) ⊎ (at + length numbers ≤ k) → number_in unset base new k ≡ number_in unset base old k

-- no byte of so many has been set
pub record AreUnset (unset : Unset) (count : ℕ) (numbers : List ℕ) : Type 0 where
  pub len : length numbers ≡ count
  pub all : (k : ℕ) → k < count → slice_index numbers k ≡ unset_number unset k

-- each page is whole, and what isn't set fits
pub record AreSound (unset : Unset) (pages : List Page) : Type 0 where
  pub whole : ArePages pages
  pub fits : FitsIn unset (page_len * length pages)
