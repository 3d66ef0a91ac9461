-- What a space shows of its pages.
use Rattle.std.proofs.Common.{◌≡◌, ◌++◌, Bool, Err, List, Ok, Result, ℕ, ap, drop, length, subst, sym, take, ◌∙◌}
use Rattle.std.proofs.lemmas.List.{take_at}
use Rattle.std.specs.Result.{OnErr}
use Rattle.guest_mem.specs.Pages.{ArePages, Paged, contents, joined, owned}
use Rattle.guest_mem.specs.declared.page.Page.{Page}

abbrev paged : List (List ℕ) → List Bool → Paged
paged pages own = record { bytes = joined pages; own = own }

abbrev pub shown : List Page → Paged
shown pages = paged (contents pages) (owned pages)

pub shown-same : (new old : List Page) → contents new ≡ contents old → owned new ≡ owned old → shown new ≡ shown old
shown-same new old bytes own =
    ap (λ (l : List (List ℕ)). paged l (owned new)) bytes
    ∙ ap (λ (l : List Bool). paged (contents old) l) own

pub shown-err : {T E : Type 0} (r : Result T E) (new old : List Page) → OnErr r (contents new ≡ contents old) → OnErr r (owned new ≡ owned old) → OnErr r (shown new ≡ shown old)
shown-err (Ok x) new old bytes own = tt
shown-err (Err e) new old bytes own = shown-same new old bytes own

-- what holds of the pages that were lent and of those that came back holds of the space
pub lifted : (P : Paged → Paged → Type 0) (old items new : List Page) (len : ℕ) (now : Paged) → old ≡ items → shown items ≡ now → length new ≡ length old → length old ≡ len → P (shown old) (shown new) → P now (shown (take len (new ++ drop (length new) items)))
lifted P old items new len now was is same long holds =
    subst (λ (space : Paged). P now space) (sym (ap shown (take_at new (drop (length new) items) len (same ∙ long))))
    (subst (λ (space : Paged). P space (shown new)) (ap shown was ∙ is) holds)

pub kept-pages : (old items new : List Page) (len : ℕ) → length new ≡ length old → length old ≡ len → ArePages (contents new) → ArePages (contents (take len (new ++ drop (length new) items)))
kept-pages old items new len same long are =
    subst (λ (pages : List Page). ArePages (contents pages)) (sym (take_at new (drop (length new) items) len (same ∙ long))) are
