-- The fields of a give, read as a give.
use Rattle.std.proofs.lemmas.Bool.Decides.{nat_tests}
use Rattle.std.proofs.Common.{◌≡◌, ℕ, zero, suc, ◌*◌, ◌-◌, ◌≤◌, ◌<◌, List, [], ◌∷◌, ◌++◌, length, take, drop, flat_map, slice_range, refl, sym, ap, subst, ◌∙◌, append_assoc, length-drop, length-take, arith}
use Rattle.std.specs.List.{All}
use Rattle.std.proofs.lemmas.List.{take-append-drop}
use Rattle.std.proofs.lemmas.List.Elements.{All-cons, All-drop, All-nil, All-take}
use Rattle.std.proofs.Math.Seq.{drop-append_seam, take-append_seam}
use Rattle.arn_base.specs.declared.records.Origin.{Origin}
use Rattle.arn_base.specs.declared.records.Give.{Give}
use Rattle.schedule_log.specs.Fields.{counted, field, BeginsCounted, OnlyCounted, IsCounted}
use Rattle.schedule_log.specs.Laws.{AreBytes, FieldSpelled, FrontStands, StandsInFront}
use Rattle.exchange_log.specs.Gives.{give_fields, origin_fields, origins_fields, BeginsOrigins, FitsOrigin, IsNoGive, IsSomeGive, ReadsGive, StartsGive, StartsNoGive, StartsSomeGive}
use Rattle.exchange_log.proofs.OneWay.{length-origins, origin-fields}

AreBytes-drop : (n : ℕ) (xs : List ℕ) → AreBytes xs → AreBytes (drop n xs)
AreBytes-drop = All-drop (λ b. b < 256)

AreBytes-take : (n : ℕ) (xs : List ℕ) → AreBytes xs → AreBytes (take n xs)
AreBytes-take = All-take (λ b. b < 256)

-- of two parts
AreBytes-front : (xs ys : List ℕ) → AreBytes (xs ++ ys) → AreBytes xs
AreBytes-front xs ys h = subst AreBytes (take-append_seam xs ys) (AreBytes-take (length xs) (xs ++ ys) h)

AreBytes-behind : (xs ys : List ℕ) → AreBytes (xs ++ ys) → AreBytes ys
AreBytes-behind xs ys h = subst AreBytes (drop-append_seam xs ys) (AreBytes-drop (length xs) (xs ++ ys) h)

-- an origin is spelled in front
record Fronts (fields : List ℕ) (o : Origin) : Type 0 where
  fits : FitsOrigin o
  is_bytes : fields ≡ origin_fields o ++ drop 4 (drop 4 (drop 8 fields))

-- three fields in front, and what stands behind them
three : (fields a b c : List ℕ) → take 8 fields ≡ a → take 4 (drop 8 fields) ≡ b → take 4 (drop 4 (drop 8 fields)) ≡ c
    → fields ≡ a ++ (b ++ (c ++ drop 4 (drop 4 (drop 8 fields))))
three fields a b c h1 h2 h3 = grind (arith, nat_tests, take-append-drop)

no-bytes : (xs : List ℕ) → length xs ≡ 0 → [] ≡ xs
no-bytes [] l = refl
no-bytes (x ∷ xs) l = absurd (omega arith)

module _ (eight : FieldSpelled 8) (four : FieldSpelled 4) where
  -- the origin that the first 16 bytes spell
  front-origin : (fields : List ℕ) → AreBytes fields → 16 ≤ length fields → (o : Origin) × Fronts fields o
  front-origin fields small long =
      let b = drop 8 fields in
      let c = drop 4 b in
      let small_b = AreBytes-drop 8 fields small in
      let long_b = length-drop 8 fields in
      let event = eight (take 8 fields) (AreBytes-take 8 fields small) (omega (arith, length-take 8 fields)) in
      let at = four (take 4 b) (AreBytes-take 4 b small_b) (omega (arith, long_b, length-take 4 b)) in
      let len = four (take 4 c) (AreBytes-take 4 c (AreBytes-drop 4 b small_b)) (omega (arith, long_b, length-drop 4 b, length-take 4 c)) in
      let o : Origin = record { event = event.0; at = at.0; len = len.0 } in (
        o,
        record {
          fits = (event.1.0, at.1.0, len.1.0);
          is_bytes = three fields (field 8 event.0) (field 4 at.0) (field 4 len.0) event.1.1 at.1.1 len.1.1
              ∙ sym (origin-fields o (drop 4 c));
        },
      )

  -- bytes of the right number are the fields of some origins
  origins_exist : (count : ℕ) (fields : List ℕ) → AreBytes fields → length fields ≡ 16 * count
      → (origins : List Origin) × ((flat_map origin_fields origins ≡ fields) × All FitsOrigin origins)
  origins_exist zero fields small whole = ([], (no-bytes fields (omega arith), All-nil FitsOrigin))
  origins_exist (suc n) fields small whole =
      let found = front-origin fields small (omega arith) in
      let o = found.0 in
      let rest = drop 4 (drop 4 (drop 8 fields)) in
      let left : length rest ≡ 16 * n = omega (arith, length-drop 8 fields, length-drop 4 (drop 8 fields), length-drop 4 (drop 4 (drop 8 fields))) in
      let small_rest = AreBytes-drop 4 (drop 4 (drop 8 fields)) (AreBytes-drop 4 (drop 8 fields) (AreBytes-drop 8 fields small)) in
      let more = origins_exist n rest small_rest left in (
        o ∷ more.0,
        (
          ap (λ xs. origin_fields o ++ xs) more.1.0 ∙ sym found.1.is_bytes,
          All-cons FitsOrigin o more.0 found.1.fits more.1.1,
        ),
      )

-- bytes behind their length, and fields of origins behind their count, are a give
pub give-starts : (bytes given behind fields rest kept : List ℕ) (origins : List Origin) → kept ≡ given
    → BeginsCounted bytes given behind → BeginsOrigins behind fields rest
    → flat_map origin_fields origins ≡ fields → All FitsOrigin origins
    → StartsGive bytes (record { bytes = kept; origins = origins }) rest
give-starts bytes given behind fields rest kept origins same_bytes is_given are_origins read fits =
    let long = length-origins origins in
    let same : length (flat_map origin_fields origins) ≡ length fields = ap (λ (xs : List ℕ). length xs) read in
    let count : length origins ≡ are_origins.count = omega (arith, long, same, are_origins.is_whole) in
    let spelled : origins_fields origins ≡ field 4 are_origins.count ++ fields =
    ap (λ k. field 4 k ++ flat_map origin_fields origins) count ∙ ap (λ xs. field 4 are_origins.count ++ xs) read in
    record {
      has_spelling = (subst IsCounted (sym same_bytes) is_given.is_counted, omega (arith, count, are_origins.fits));
      fits = fits;
      is_bytes = is_given.is_bytes
          ∙ ap (λ xs. counted xs ++ behind) (sym same_bytes)
          ∙ ap (λ xs. counted kept ++ xs) (are_origins.is_bytes ∙ ap (λ xs. xs ++ rest) (sym spelled))
          ∙ sym (append_assoc (counted kept) (origins_fields origins) rest);
    }

-- a give stands there, whether or not there is memory for it
pub give_stands : FieldSpelled 8 → FieldSpelled 4 → (bytes given behind fields rest : List ℕ) → AreBytes bytes
    → BeginsCounted bytes given behind → BeginsOrigins behind fields rest → StartsSomeGive bytes
give_stands eight four bytes given behind fields rest small is_given are_origins =
    let small_behind = AreBytes-behind (counted given) behind (subst AreBytes is_given.is_bytes small) in
    let small_front = AreBytes-front (field 4 are_origins.count ++ fields) rest (subst AreBytes are_origins.is_bytes small_behind) in
    let small_fields = AreBytes-behind (field 4 are_origins.count) fields small_front in
    let found = origins_exist eight four are_origins.count fields small_fields are_origins.is_whole in (
      record { bytes = given; origins = found.0 },
      (rest, give-starts bytes given behind fields rest given found.0 refl is_given are_origins found.1.0 found.1.1),
    )

-- no give starts where no origins stand behind the bytes
pub no-give : (bytes given behind : List ℕ) → OnlyCounted bytes given behind
    → ((fields rest : List ℕ) → ¬ BeginsOrigins behind fields rest) → StartsNoGive bytes
no-give bytes given behind only h g rest s =
    let e : origins_fields g.origins ++ rest ≡ behind =
    (only g.bytes (origins_fields g.origins ++ rest) (record {
      is_counted = s.has_spelling.0;
      is_bytes = s.is_bytes ∙ append_assoc (counted g.bytes) (origins_fields g.origins) rest;
    })).1 in
    h (flat_map origin_fields g.origins) rest (record { count = length g.origins; fits = s.has_spelling.1; is_whole = length-origins g.origins; is_bytes = sym e })

-- no give is read where none starts
pub none-read : StandsInFront → (bytes behind : List ℕ) (at : ℕ) → behind ≡ slice_range bytes at (length bytes)
    → StartsNoGive behind → IsNoGive bytes at
none-read in_front bytes behind at is_behind none (g, (next, r)) =
    none g (drop next bytes) (record {
      has_spelling = r.has_spelling;
      fits = r.fits;
      is_bytes = is_behind ∙ in_front bytes (give_fields g) at next r.stands;
    })

-- a give is read where it starts
pub one-read : FrontStands → (bytes behind rest : List ℕ) (at : ℕ) (g : Give) → at ≤ length bytes
    → behind ≡ slice_range bytes at (length bytes) → StartsGive behind g rest → ReadsGive bytes at g (length bytes - length rest)
one-read stands bytes behind rest at g within is_behind s =
    record {
      has_spelling = s.has_spelling;
      fits = s.fits;
      stands = stands bytes (give_fields g) rest at within (sym is_behind ∙ s.is_bytes);
    }

pub some-read : FrontStands → (bytes behind : List ℕ) (at : ℕ) → at ≤ length bytes
    → behind ≡ slice_range bytes at (length bytes) → StartsSomeGive behind → IsSomeGive bytes at
some-read stands bytes behind at within is_behind (g, (rest, s)) =
    (g, (length bytes - length rest, one-read stands bytes behind rest at g within is_behind s))
