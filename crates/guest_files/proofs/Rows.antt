-- A row of bytes with their event bytes, after bytes of an event are laid over some.
use Rattle.std.proofs.Common.{◌≡◌, ℕ, zero, suc, ◌+◌, ◌-◌, ◌<◌, ◌≤◌, ◌++◌, ◌∙◌, max, min, Bool, true, false, nat_le, List, [], ◌∷◌, length, take, drop, replicate, length-append, length-drop, take_at, append-nil, append_assoc, drop-drop, refl, sym, ap, arith, leb-true, leb-false}
use Rattle.std.proofs.lemmas.List.{drop_all, length-replicate, take_all, take_min, take-append-le}
use borrow.Rule.Slice.PartMut.{put_mid}
use Rattle.arn_base.specs.declared.records.Src.{Src}
use Rattle.arn_base.specs.declared.records.Give.{Give}
use Rattle.parts_model.specs.declared.tagged.TaggedByte.{TaggedByte}
use Rattle.parts_model.specs.Files.{laid_over, read_from}
use Rattle.parts_model.specs.Tagged.{given, held_bytes, held_from, origins_of}
use Rattle.guest_files.specs.Runs.{first_bytes, tagged}
use Rattle.guest_files.proofs.Sources.{drop-tagged, given-tagged, length-sources_from, tagged-append, tagged-first_bytes, take-tagged}

length-held_from : (event at : ℕ) (bytes : List ℕ) → length (held_from event at bytes) ≡ length bytes
length-held_from event at [] = refl
length-held_from event at (b ∷ bytes) = ap (λ (n : ℕ). suc n) (length-held_from event (at + 1) bytes)

pub length-taken : (n : ℕ) (bytes : List ℕ) (sources : List Src) → length sources ≡ length bytes → length (take n sources) ≡ length (take n bytes)
length-taken zero bytes sources same = refl
length-taken (suc n) [] [] same = refl
length-taken (suc n) [] (s ∷ sources) same = absurd (omega (arith, same))
length-taken (suc n) (b ∷ bytes) [] same = absurd (omega (arith, same))
length-taken (suc n) (b ∷ bytes) (s ∷ sources) same = ap (λ (k : ℕ). suc k) (length-taken n bytes sources (omega (arith, same)))

-- both rows change alike
pub tagged-laid : (items bytes : List ℕ) (sources : List Src) (event at : ℕ) → length sources ≡ length items → tagged (take at items ++ bytes ++ drop (at + length bytes) items) (take at sources ++ first_bytes event (length bytes) ++ drop (at + length bytes) sources) ≡ laid_over (tagged items sources) at (held_bytes event bytes)
tagged-laid items bytes sources event at same =
    let stop : ℕ = at + length bytes in
    let new : List Src = first_bytes event (length bytes) in
    let front = length-taken at items sources same in
    let as_many : length (take at sources ++ new) ≡ length (take at items ++ bytes) = omega (arith, front, length-append (take at sources) new, length-append (take at items) bytes, length-sources_from (λ k. record { event = event; at = k }) 0 (length bytes)) in
    let behind : at + length (held_bytes event bytes) ≡ stop = ap (λ (n : ℕ). at + n) (length-held_from event 0 bytes) in
    tagged-append (take at items ++ bytes) (drop stop items) (take at sources ++ new) (drop stop sources) as_many
    ∙ ap (λ (held : List TaggedByte). held ++ tagged (drop stop items) (drop stop sources)) (tagged-append (take at items) bytes (take at sources) new front)
    ∙ ap (λ (held : List TaggedByte). (held ++ tagged bytes new) ++ tagged (drop stop items) (drop stop sources)) (sym (take-tagged at items sources))
    ∙ ap (λ (held : List TaggedByte). (take at (tagged items sources) ++ held) ++ tagged (drop stop items) (drop stop sources)) (tagged-first_bytes event bytes)
    ∙ ap (λ (held : List TaggedByte). (take at (tagged items sources) ++ held_bytes event bytes) ++ held) (sym (drop-tagged stop items sources))
    ∙ ap (λ (n : ℕ). (take at (tagged items sources) ++ held_bytes event bytes) ++ drop n (tagged items sources)) (sym behind)

-- a row that is made longer with zeros, and written
longer : (items : List ℕ) (n : ℕ) → length items ≤ n → take n items ++ replicate (n - length items) 0 ≡ items ++ replicate (n - length items) 0
longer items n fits = ap (λ (xs : List ℕ). xs ++ replicate (n - length items) 0) (take_all n items fits)

behind-longer : (items : List ℕ) (stop n : ℕ) → n ≡ max (length items) stop → drop stop (items ++ replicate (n - length items) 0) ≡ drop stop items
behind-longer items stop n is = by (nat_le stop (length items)) refl
  where
    by : (b : Bool) → nat_le stop (length items) ≡ b → drop stop (items ++ replicate (n - length items) 0) ≡ drop stop items
    by true within =
        let short : stop ≤ length items = leb-true stop (length items) within in
        let none : n - length items ≡ 0 = omega (arith, is, short) in
        ap (λ (k : ℕ). drop stop (items ++ replicate k 0)) none ∙ ap (drop stop) (append-nil items)
    by false past =
        let long : length items < stop = leb-false stop (length items) past in
        let all = length-append items (replicate (n - length items) 0) in
        let more = length-replicate {A = ℕ} (n - length items) 0 in
        drop_all stop (items ++ replicate (n - length items) 0) (omega (arith, is, all, more, long)) ∙ sym (drop_all stop items (omega (arith, long)))

pub row-written : (items bytes : List ℕ) (at n k : ℕ) → at ≤ length items → n ≡ max (length items) (at + length bytes) → k ≡ length bytes → put_mid at k (take n items ++ replicate (n - length items) 0) bytes ≡ take at items ++ bytes ++ drop (at + length bytes) items
row-written items bytes at n k within is count =
    let row : List ℕ = items ++ replicate (n - length items) 0 in
    ap (λ (xs : List ℕ). put_mid at k xs bytes) (longer items n (omega (arith, is)))
    ∙ ap (λ (xs : List ℕ). xs ++ (bytes ++ drop k (drop at row))) (take-append-le at items (replicate (n - length items) 0) within)
    ∙ ap (λ (xs : List ℕ). take at items ++ (bytes ++ xs))
    (drop-drop k at row ∙ ap (λ (m : ℕ). drop (at + m) row) count ∙ behind-longer items (at + length bytes) n is)
    ∙ sym (append_assoc (take at items) bytes (drop (at + length bytes) items))

pub row-cut : (items : List ℕ) (n : ℕ) → length items ≤ n → take (length items) (take n items ++ replicate (n - length items) 0) ≡ items
row-cut items n fits =
    ap (take (length items)) (longer items n fits)
    ∙ take-append-le (length items) items (replicate (n - length items) 0) (omega arith)
    ∙ take_all (length items) items (omega arith)

pub length-laid : {A : Type 0} (xs new : List A) (at stop : ℕ) → stop ≡ at + length new → at ≤ length xs → length (take at xs ++ new ++ drop stop xs) ≡ max (length xs) stop
length-laid {A} xs new at stop is within =
    let all = length-append (take at xs ++ new) (drop stop xs) in
    let behind = length-append (take at xs) new in
    let rest = length-drop stop xs in
    let front = length-front xs at within in
    omega (arith, all, behind, rest, front, is)
  where
    length-front : (ys : List A) (n : ℕ) → n ≤ length ys → length (take n ys) ≡ n
    length-front ys zero fits = refl
    length-front [] (suc n) fits = absurd (omega (arith, fits))
    length-front (y ∷ ys) (suc n) fits = ap (λ (k : ℕ). suc k) (length-front ys n (omega (arith, fits)))

-- a row as a vector holds it that was lent as a slice
pub lent-row : (row items : List ℕ) (len : ℕ) → len ≡ length row → take len (row ++ drop (length row) items) ≡ row
lent-row row items len is = take_at row (drop (length row) items) len (sym is)

-- what is read
pub given-read : (items : List ℕ) (sources : List Src) (at most count : ℕ) (give : Give) → length sources ≡ length items → at ≤ length items → count ≡ min most (length items - at) → give.bytes ≡ take count (drop at items) → give.origins ≡ origins_of (take count (drop at sources)) → give ≡ given (read_from (tagged items sources) at most)
given-read items sources at most count give same within is bytes origins =
    let len = length-drop at items in
    let other = length-drop at sources in
    let dropped : length (drop at sources) ≡ length (drop at items) = omega (arith, len, other, same) in
    given-tagged (take count (drop at items)) (take count (drop at sources)) give (length-taken count (drop at items) (drop at sources) dropped) bytes origins
    ∙ ap given
    (ap (λ (bs : List ℕ). tagged bs (take count (drop at sources))) (as_many (drop at items) (omega (arith, is, len)))
    ∙ ap (λ (ss : List Src). tagged (take most (drop at items)) ss) (as_many_sources (drop at sources) (omega (arith, is, other, same)))
    ∙ sym (take-tagged most (drop at items) (drop at sources))
    ∙ ap (take most) (sym (drop-tagged at items sources)))
  where
    as_many : (xs : List ℕ) → count ≡ min most (length xs) → take count xs ≡ take most xs
    as_many xs are = ap (λ (k : ℕ). take k xs) are ∙ take_min most xs

    as_many_sources : (xs : List Src) → count ≡ min most (length xs) → take count xs ≡ take most xs
    as_many_sources xs are = ap (λ (k : ℕ). take k xs) are ∙ take_min most xs
