-- What a give is spelled by begins bytes in one way.
use Rattle.std.proofs.lemmas.Bool.Decides.{nat_tests}
use Rattle.std.proofs.Common.{◌≡◌, ℕ, ◌*◌, List, [], ◌∷◌, ◌++◌, length, flat_map, refl, sym, ap, ◌∙◌, append_assoc, length-append, arith}
use Rattle.std.specs.List.{All}
use Rattle.std.proofs.lemmas.List.Elements.{All-head, All-tail}
use Rattle.arn_base.specs.declared.records.Origin.{Origin}
use Rattle.arn_base.specs.declared.records.Give.{Give}
use Rattle.schedule_log.specs.Fields.{field}
use Rattle.schedule_log.specs.Laws.{CountedOneWay, FieldOneWay}
use Rattle.exchange_log.specs.Gives.{origin_fields, FitsOrigin, GiveOneWay}

-- how many bytes the fields of origins take
pub length-origins : (origins : List Origin) → length (flat_map origin_fields origins) ≡ 16 * length origins
length-origins [] = refl
length-origins (o ∷ origins) = grind (arith, nat_tests, length-append (origin_fields o) (flat_map origin_fields origins), length-origins origins)

-- the numbers of an origin, one behind the other
pub origin-fields : (o : Origin) (s : List ℕ) → origin_fields o ++ s ≡ field 8 o.event ++ (field 4 o.at ++ (field 4 o.len ++ s))
origin-fields o s = grind (arith, nat_tests, append_assoc)

origin_of : ℕ → ℕ → ℕ → Origin
origin_of event at len = record { event = event; at = at; len = len }

origin-same : (a b : Origin) → a.event ≡ b.event → a.at ≡ b.at → a.len ≡ b.len → a ≡ b
unfolding origin_of
origin-same a b h1 h2 h3 = grind (arith, nat_tests, origin_of)

give_of : List ℕ → List Origin → Give
give_of bytes origins = record { bytes = bytes; origins = origins }

give-same : (a b : Give) → a.bytes ≡ b.bytes → a.origins ≡ b.origins → a ≡ b
unfolding give_of
give-same a b bytes origins = ap (λ xs. give_of xs a.origins) bytes ∙ ap (λ os. give_of b.bytes os) origins

module _ (field-one : FieldOneWay) where
  origin-one : (a b : Origin) (s t : List ℕ) → FitsOrigin a → FitsOrigin b → origin_fields a ++ s ≡ origin_fields b ++ t
      → (a ≡ b) × (s ≡ t)
  origin-one a b s t h1 h2 h3 = grind (arith, nat_tests, origin-fields, origin-same)

  origin-items-one : (a b : List Origin) (s t : List ℕ) → length a ≡ length b → All FitsOrigin a → All FitsOrigin b
      → flat_map origin_fields a ++ s ≡ flat_map origin_fields b ++ t → (a ≡ b) × (s ≡ t)
  origin-items-one [] [] s t l fits_a fits_b e = (refl, e)
  origin-items-one (x ∷ a) (y ∷ b) s t l fits_a fits_b e =
      let whole = sym (append_assoc (origin_fields x) (flat_map origin_fields a) s) ∙ e ∙ append_assoc (origin_fields y) (flat_map origin_fields b) t in
      let first = origin-one x y (flat_map origin_fields a ++ s) (flat_map origin_fields b ++ t) (All-head FitsOrigin x a fits_a) (All-head FitsOrigin y b fits_b) whole in
      let more = origin-items-one a b s t (omega arith) (All-tail FitsOrigin x a fits_a) (All-tail FitsOrigin y b fits_b) first.1 in
      (ap (λ o. o ∷ a) first.0 ∙ ap (λ os. y ∷ os) more.0, more.1)
  origin-items-one _ _ s t l fits_a fits_b e = absurd (omega arith)

  pub give-one : CountedOneWay → GiveOneWay
  give-one h1 = grind (arith, nat_tests, append_assoc, origin-items-one, give-same)
