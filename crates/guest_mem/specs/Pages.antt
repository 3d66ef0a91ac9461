-- The pages of a private window, and which of them are its own.
use Rattle.std.specs.Prelude.{◌≡◌, ◌⊎◌, ℕ, zero, suc, ◌+◌, ◌*◌, ◌/◌, ◌<◌, ◌≤◌, Bool, true, false, List, [], ◌∷◌, ◌++◌, length, map, slice_index_or}
use Rattle.std.specs.List.{AllByRecursion}
use Rattle.guest_mem.specs.declared.page.TheConstants.{PAGE_COUNT, PAGE_LEN}
use Rattle.guest_mem.specs.declared.page.Page.{Page}
use Rattle.guest_mem.specs.declared.page.Page.TheVariants.{Own, Shared}

-- a private window: its bytes, and for each page in order whether it is the window's own
pub record Paged : Type 0 where
  pub bytes : List ℕ
  pub own : List Bool

abbrev pub page_bytes : Page → List ℕ
page_bytes (Own bytes) = bytes.value
page_bytes (Shared bytes) = bytes.value.value

abbrev pub is_own : Page → Bool
is_own (Own bytes) = true
is_own (Shared bytes) = false

abbrev pub contents : List Page → List (List ℕ)
contents pages = map page_bytes pages

abbrev pub owned : List Page → List Bool
owned pages = map is_own pages

-- pages one behind the other
abbrev pub joined : {A : Type 0} → List (List A) → List A
joined [] = []
joined (page ∷ pages) = page ++ joined pages

-- each page has so many elements
abbrev pub AreWhole : {A : Type 0} → ℕ → List (List A) → Type 0
AreWhole len pages = AllByRecursion (λ page. length page ≡ len) pages

-- the pages of a window, each of them whole
pub record ArePages (pages : List (List ℕ)) : Type 0 where
  pub count : length pages ≡ PAGE_COUNT
  pub whole : AreWhole PAGE_LEN pages

-- the page of a number is own
abbrev pub IsOwn : List Bool → ℕ → Type 0
IsOwn own page = slice_index_or own page false ≡ true

-- so many bytes from a place on have one in the page of a number
pub record Meets (place len page : ℕ) : Type 0 where
  pub some : 0 < len
  pub begins : place < PAGE_LEN * page + PAGE_LEN
  pub ends : PAGE_LEN * page < place + len

-- a range of so many bytes meets at most so many pages
abbrev pub most_met : ℕ → ℕ
most_met zero = 0
most_met (suc zero) = 1
most_met (suc (suc more)) = more / PAGE_LEN + 2

-- so many pages in hand serve a write of so many bytes
abbrev pub IsEnough : ℕ → ℕ → Type 0
IsEnough len spare = most_met len ≤ spare

-- each page of a range is own
abbrev pub AreOwn : ℕ → ℕ → List Bool → Type 0
AreOwn place len own = (page : ℕ) → Meets place len page → IsOwn own page

-- some page of a range isn't own. It is one of the window
pub record Lacks (place len : ℕ) (own : List Bool) : Type 0 where
  pub page : ℕ
  pub inside : page < length own
  pub met : Meets place len page
  pub shared : slice_index_or own page false ≡ false

-- no own page is lost, and only pages of a range have become own
pub record Gains (place len : ℕ) (old new : List Bool) : Type 0 where
  pub count : length new ≡ length old
  pub kept : (page : ℕ) → IsOwn old page → IsOwn new page
  pub gained : (page : ℕ) → IsOwn new page → IsOwn old page ⊎ Meets place len page

-- no page has become own
pub record Loses (old new : List Bool) : Type 0 where
  pub count : length new ≡ length old
  pub kept : (page : ℕ) → IsOwn new page → IsOwn old page

-- no page is own
abbrev pub NoneOwn : List Bool → Type 0
NoneOwn own = (page : ℕ) → slice_index_or own page false ≡ false
