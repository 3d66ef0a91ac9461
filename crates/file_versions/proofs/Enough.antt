-- Enough cells hold what a file holds.
use Rattle.std.proofs.Common.{◌≡◌, inl, inr, ℕ, zero, suc, ◌+◌, ◌-◌, ◌<◌, ◌≤◌, ◌||◌, Bool, true, false, cond, nat_lt, nat_le, ◌==◌, List, [], ◌∷◌, length, Option, Some, None, is_some, replicate, refl, sym, ap, ◌∙◌, arith, subst, eqb-true}
use Rattle.std.proofs.lemmas.Bool.Decides.{nat_tests}
use Rattle.std.proofs.lemmas.List.{length-replicate}
use Rattle.std.proofs.lemmas.Option.{slice_get_past}
use Rattle.parts_model.specs.declared.tagged.TaggedByte.{TaggedByte}
use Rattle.parts_model.specs.Numbered.{nth}
use Rattle.file_versions.specs.Versions.{Write, byte_of, laid_at, or_before, cell_after, reach, onto_filled, filled_from, bytes_after}
use Rattle.file_versions.specs.Cells.{filled, written_len, AreCells, IsRoom}

-- a list of cells, and cells by place
filled-list : (cells : ℕ → Option TaggedByte) (list : List (Option TaggedByte)) (p : ℕ) → ((k : ℕ) → k < length list → nth list k ≡ cells (p + k)) → filled list ≡ filled_from cells p (length list)
filled-list cells [] p same = refl
filled-list cells (c ∷ list) p same =
    let rest : filled list ≡ filled_from cells (p + 1) (length list) = filled-list cells list (p + 1) (λ k h. same (suc k) (omega (arith, h)) ∙ ap cells (omega arith)) in
    ap (λ (x : Option TaggedByte). onto_filled x (filled list)) (same 0 (omega arith) ∙ ap cells (omega arith)) ∙ ap (onto_filled (cells p)) rest

-- an empty cell ends them
ends-here : (cells : ℕ → Option TaggedByte) (p n : ℕ) → cells p ≡ None → filled_from cells p n ≡ []
ends-here cells p zero none = refl
ends-here cells p (suc n) none = ap (λ (c : Option TaggedByte). onto_filled c (filled_from cells (p + 1) n)) none

ends-at : (cells : ℕ → Option TaggedByte) (p n m q : ℕ) → n ≤ m → p ≤ q → q ≤ p + n → cells q ≡ None → filled_from cells p n ≡ filled_from cells p m
ends-at cells p zero m q more from to none =
    let here : q ≡ p = omega (arith, from, to) in sym (ends-here cells p m (ap cells (sym here) ∙ none))
ends-at cells p (suc n) zero q more from to none = absurd (omega (arith, more))
ends-at cells p (suc n) (suc m) q more from to none =
    by_test (q == p) refl (λ later. ends-at cells (p + 1) n m q (omega (arith, more)) later (omega (arith, to)) none)
  where
    by_test : (b : Bool) → (q == p) ≡ b → (p + 1 ≤ q → filled_from cells (p + 1) n ≡ filled_from cells (p + 1) m) → filled_from cells p (suc n) ≡ filled_from cells p (suc m)
    by_test true e rest =
        let empty : cells p ≡ None = ap cells (sym (eqb-true q p e)) ∙ none in
        ends-here cells p (suc n) empty ∙ sym (ends-here cells p (suc m) empty)
    by_test false e rest = ap (onto_filled (cells p)) (rest (grind (arith, nat_tests)))

-- nothing is written behind the reach
laid-past : (w : Write) (place : ℕ) (before : Option TaggedByte) → w.over.at + length w.over.bytes ≤ place → laid_at w place before ≡ before
laid-past w place before past = by_test (nat_le w.over.at place)
  where
    by_test : (b : Bool) → cond b (or_before (byte_of w (place - w.over.at)) before) before ≡ before
    by_test true = rw (slice_get_past w.over.bytes (place - w.over.at) (omega (arith, past))) refl
    by_test false = refl

cell-past : (writes : List Write) (place : ℕ) (before : Option TaggedByte) → reach writes ≤ place → cell_after writes place before ≡ before
cell-past [] place before past = refl
cell-past (w ∷ writes) place before past =
    cell-past writes place (laid_at w place before) (omega (arith, past)) ∙ laid-past w place before (omega (arith, past))

-- how many of the first cells hold something
abbrev count : (ℕ → Bool) → ℕ → ℕ
count test zero = 0
count test (suc n) = cond (test n) 1 0 + count test n

count-same : (a b : ℕ → Bool) (n : ℕ) → ((k : ℕ) → a k ≡ b k) → count a n ≡ count b n
count-same a b zero same = refl
count-same a b (suc n) same = ap (λ (t : Bool). cond t 1 0 + count a n) (same n) ∙ ap (λ (c : ℕ). cond (b n) 1 0 + c) (count-same a b n same)

count-or : (a b : ℕ → Bool) (n : ℕ) → count (λ k. a k || b k) n ≤ count a n + count b n
count-or a b zero = omega arith
count-or a b (suc n) = by_tests (a n) (b n) (count-or a b n)
  where
    by_tests : (s t : Bool) → count (λ k. a k || b k) n ≤ count a n + count b n → cond (s || t) 1 0 + count (λ k. a k || b k) n ≤ cond s 1 0 + count a n + (cond t 1 0 + count b n)
    by_tests true true h = omega (arith, h)
    by_tests _ _ h = omega (arith, h)

-- a write holds as many as it has bytes
abbrev is_laid : Write → ℕ → Bool
is_laid w place = is_some (laid_at w place None)

laid-inside : (w : Write) (place : ℕ) → is_laid w place ≡ true → (w.over.at ≤ place) × (place < w.over.at + length w.over.bytes)
laid-inside w place e = by_tests (nat_le w.over.at place) refl (nat_lt place (w.over.at + length w.over.bytes)) refl
  where
    never : laid_at w place None ≡ None → ⊥
    never none = differs (sym (ap (λ (o : Option TaggedByte). is_some o) none) ∙ e)
      where
        differs : false ≡ true → ⊥
        differs x = cc

    by_tests : (b : Bool) → nat_le w.over.at place ≡ b → (c : Bool) → nat_lt place (w.over.at + length w.over.bytes) ≡ c → (w.over.at ≤ place) × (place < w.over.at + length w.over.bytes)
    by_tests true f true g = (grind (arith, nat_tests), grind (arith, nat_tests))
    by_tests b f false g = absurd (never (laid-past w place None (grind (arith, nat_tests))))
    by_tests false f true g = absurd (never (ap (λ (t : Bool). cond t (or_before (byte_of w (place - w.over.at)) None) None) f))

pub record IsFew (w : Write) (n : ℕ) : Type 0 where
  pub inside : count (is_laid w) n ≤ n - w.over.at
  pub few : count (is_laid w) n ≤ length w.over.bytes

laid-few : (w : Write) (n : ℕ) → IsFew w n
laid-few w zero = record { inside = omega arith; few = omega arith }
laid-few w (suc n) = by_test (is_laid w n) refl (laid-few w n)
  where
    by_test : (b : Bool) → is_laid w n ≡ b → IsFew w n → IsFew w (suc n)
    by_test true e h =
        let at = laid-inside w n e in
        record {
          inside = subst (λ (t : Bool). cond t 1 0 + count (is_laid w) n ≤ suc n - w.over.at) (sym e) (omega (arith, at.0, at.1, h.inside));
          few = subst (λ (t : Bool). cond t 1 0 + count (is_laid w) n ≤ length w.over.bytes) (sym e) (omega (arith, at.0, at.1, h.inside));
        }
    by_test false e h =
        record {
          inside = subst (λ (t : Bool). cond t 1 0 + count (is_laid w) n ≤ suc n - w.over.at) (sym e) (omega (arith, h.inside));
          few = subst (λ (t : Bool). cond t 1 0 + count (is_laid w) n ≤ length w.over.bytes) (sym e) (omega (arith, h.few));
        }

-- and so do some
abbrev is_held : List Write → ℕ → Bool
is_held writes place = is_some (cell_after writes place None)

some-laid : (w : Write) (place : ℕ) (before : Option TaggedByte) → is_some (laid_at w place before) ≡ (is_laid w place || is_some before)
some-laid w place before = by_test (nat_le w.over.at place) (byte_of w (place - w.over.at))
  where
    by_test : (b : Bool) (o : Option TaggedByte) → is_some (cond b (or_before o before) before) ≡ (is_some (cond b (or_before o None) None) || is_some before)
    by_test true (Some x) = refl
    by_test true None = refl
    by_test false o = refl

or-assoc : (a b c : Bool) → (a || (b || c)) ≡ ((a || b) || c)
or-assoc true b c = refl
or-assoc false b c = refl

some-after : (writes : List Write) (place : ℕ) (before : Option TaggedByte) → is_some (cell_after writes place before) ≡ (is_held writes place || is_some before)
some-after [] place before = refl
some-after (w ∷ writes) place before =
    some-after writes place (laid_at w place before)
    ∙ ap (λ (b : Bool). is_held writes place || b) (some-laid w place before)
    ∙ or-assoc (is_held writes place) (is_laid w place) (is_some before)
    ∙ ap (λ (b : Bool). b || is_some before) (sym (some-after writes place (laid_at w place None)))

held-few : (writes : List Write) (n : ℕ) → count (is_held writes) n ≤ written_len writes
held-few [] zero = omega arith
held-few [] (suc n) = omega (arith, held-few [] n)
held-few (w ∷ writes) n =
    let same : count (is_held (w ∷ writes)) n ≡ count (λ k. is_held writes k || is_laid w k) n = count-same (is_held (w ∷ writes)) (λ k. is_held writes k || is_laid w k) n (λ k. some-after writes k (laid_at w k None)) in
    omega (arith, same, count-or (is_held writes) (is_laid w) n, held-few writes n, (laid-few w n).few)

-- so one of more cells than there are bytes holds nothing
pub data Gap (test : ℕ → Bool) (n : ℕ) : Type 0 where
  Full : count test n ≡ n → Gap test n
  At : (q : ℕ) → q < n → test q ≡ false → Gap test n

gap : (test : ℕ → Bool) (n : ℕ) → Gap test n
gap test zero = Full refl
gap test (suc n) = by_test (test n) refl (gap test n)
  where
    by_test : (b : Bool) → test n ≡ b → Gap test n → Gap test (suc n)
    by_test b e (At q below none) = At q (omega (arith, below)) none
    by_test false e (Full all) = At n (omega arith) e
    by_test true e (Full all) = Full (ap (λ (t : Bool). cond t 1 0 + count test n) e ∙ omega (arith, all))

none-of : (o : Option TaggedByte) → is_some o ≡ false → o ≡ None
none-of None e = refl
none-of (Some x) e = cc

room-few : (writes : List Write) (n : ℕ) → written_len writes ≤ n → Gap (is_held writes) (n + 1) → n ≤ reach writes → filled_from (λ place. cell_after writes place None) 0 n ≡ bytes_after writes
room-few writes n few (Full all) far = absurd (omega (arith, few, all, held-few writes (n + 1)))
room-few writes n few (At q below none) far =
    ends-at (λ place. cell_after writes place None) 0 n (reach writes) q far (omega arith) (omega (arith, below)) (none-of (cell_after writes q None) none)

room-far : (writes : List Write) (n : ℕ) → reach writes ≤ n → filled_from (λ place. cell_after writes place None) 0 n ≡ bytes_after writes
room-far writes n far =
    sym (ends-at (λ place. cell_after writes place None) 0 (reach writes) n (reach writes) far (omega arith) (omega arith) (cell-past writes (reach writes) None (omega arith)))

room-is : (writes : List Write) (n : ℕ) → IsRoom writes n → filled_from (λ place. cell_after writes place None) 0 n ≡ bytes_after writes
room-is writes n (inl far) = room-far writes n far
room-is writes n (inr few) = by_test (nat_le n (reach writes)) refl
  where
    by_test : (b : Bool) → nat_le n (reach writes) ≡ b → filled_from (λ place. cell_after writes place None) 0 n ≡ bytes_after writes
    by_test true e = room-few writes n few (gap (is_held writes) (n + 1)) (grind (arith, nat_tests))
    by_test false e = room-far writes n (grind (arith, nat_tests))

pub held-is : (writes : List Write) (cells : List (Option TaggedByte)) → AreCells writes cells → filled cells ≡ bytes_after writes
held-is writes cells are =
    filled-list (λ place. cell_after writes place None) cells 0 (λ k h. are.held k h ∙ ap (λ (j : ℕ). cell_after writes j None) (omega arith)) ∙ room-is writes (length cells) are.room

abbrev none-cell : Option TaggedByte
none-cell = None

abbrev empty : ℕ → List (Option TaggedByte)
empty n = replicate n None

none-there : (n place : ℕ) → nth (empty n) place ≡ None
none-there zero place = refl
none-there (suc n) zero = refl
none-there (suc n) (suc place) = none-there n place

-- cells that were empty, after all writes
pub laid-cells : (writes : List Write) (n : ℕ) (old new : List (Option TaggedByte)) → IsRoom writes n → old ≡ empty n → length new ≡ length old → ((place : ℕ) → place < length old → nth new place ≡ cell_after writes place (nth old place)) → AreCells writes new
laid-cells writes n old new room were same held =
    let many : length new ≡ n = same ∙ ap (λ (cells : List (Option TaggedByte)). length cells) were ∙ length-replicate n (none-cell) in
    record {
      room = subst (IsRoom writes) (sym many) room;
      held = λ place h. held place (omega (arith, h, same)) ∙ ap (cell_after writes place) (ap (λ (cells : List (Option TaggedByte)). nth cells place) were ∙ none-there n place);
    }
