-- Numbers whose sets are carried over.
use Rattle.std.specs.Prelude.{◌≡◌, ℕ, ◌*◌, ◌<◌, List, length, slice_index_or, None}
use Rattle.taint_pages.specs.declared.page.Unset.{Unset}
use Rattle.taint_pages.specs.Pages.{Page, number_in, page_len}
use Rattle.taint_spans.specs.Carried.{Carried, HasNumber}

-- each byte of a page has the number that its set has from now on
abbrev pub CarriesPage : Carried → Unset → ℕ → Page → Page → Type 0
CarriesPage sets unset base old new = (k : ℕ) → k < page_len → HasNumber sets (number_in unset base old k) (number_in unset base new k)

-- so has each byte of several pages
pub record CarriesPages (sets : Carried) (unset : Unset) (old new : List Page) : Type 0 where
  pub count : length new ≡ length old
  pub each : (i : ℕ) → i < length old → CarriesPage sets unset (i * page_len) (slice_index_or old i None) (slice_index_or new i None)
