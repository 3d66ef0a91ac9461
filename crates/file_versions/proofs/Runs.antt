-- Origins grow behind as they grow in front.
use Rattle.std.proofs.Common.{◌≡◌, ℕ, ◌+◌, ◌<◌, ◌++◌, ◌∙◌, ◌==◌, ◌&&◌, Bool, true, false, cond, List, [], ◌∷◌, Option, None, Some, option_to_list, length, map, take, get_or, append-nil, append_assoc, refl, sym, ap, subst, arith, eqb-true}
use Rattle.std.proofs.lemmas.List.{take_more, map-append}
use Rattle.arn_base.specs.declared.records.Src.{Src}
use Rattle.arn_base.specs.declared.records.Origin.{Origin}
use Rattle.parts_model.specs.declared.tagged.TaggedByte.{TaggedByte}
use Rattle.parts_model.specs.Tagged.{one_origin, comes_before, onto_origins, origins_of}
use Rattle.guest_give.specs.Runs.{goes_on, with_place}

-- where a place comes before an origin, a further one goes on with both alike
goes-longer : (q p : Src) (o : Origin) (a b : Bool) → (q.event == o.event) ≡ a → (q.at + 1 == o.at) ≡ b → a && b ≡ true → goes_on (record { event = q.event; at = q.at; len = o.len + 1 }) p ≡ goes_on o p
goes-longer q p o true true event at both =
    let same : q.event ≡ o.event = eqb-true q.event o.event event in
    let next : q.at + 1 ≡ o.at = eqb-true (q.at + 1) o.at at in
    ap (λ (e : ℕ). (e == p.event) && (q.at + (o.len + 1) == p.at)) same ∙ ap (λ (n : ℕ). (o.event == p.event) && (n == p.at)) (omega (arith, next))
goes-longer q p o true false event at both = cc
goes-longer q p o false b event at both = cc

-- one place in front and one behind
onto-one : (q p : Src) (o : Origin) (before on : Bool) → comes_before q o ≡ before → goes_on o p ≡ on → onto_origins q (cond on (record o { len = o.len + 1 } ∷ []) (o ∷ one_origin p ∷ [])) ≡ with_place (cond before (record { event = q.event; at = q.at; len = o.len + 1 } ∷ []) (one_origin q ∷ o ∷ [])) p
onto-one q p o true true b g = let longer = goes-longer q p o (q.event == o.event) (q.at + 1 == o.at) refl refl b ∙ g in rw (b, longer) refl
onto-one q p o true false b g = let longer = goes-longer q p o (q.event == o.event) (q.at + 1 == o.at) refl refl b ∙ g in rw (b, longer) refl
onto-one q p o false true b g = rw (b, g) refl
onto-one q p o false false b g = rw (b, g) refl

onto-more : (q p : Src) (o next : Origin) (os : List Origin) (before : Bool) → comes_before q o ≡ before → onto_origins q (o ∷ with_place (next ∷ os) p) ≡ with_place (onto_origins q (o ∷ next ∷ os)) p
onto-more q p o next os true b = rw b refl
onto-more q p o next os false b = rw b refl

onto-with_place : (q p : Src) (os : List Origin) → onto_origins q (with_place os p) ≡ with_place (onto_origins q os) p
onto-with_place q p [] = refl
onto-with_place q p (o ∷ []) = onto-one q p o (comes_before q o) (goes_on o p) refl refl
onto-with_place q p (o ∷ next ∷ os) = onto-more q p o next os (comes_before q o) refl

origins-push : (places : List Src) (p : Src) → origins_of (places ++ p ∷ []) ≡ with_place (origins_of places) p
origins-push [] p = refl
origins-push (q ∷ places) p = ap (onto_origins q) (origins-push places p) ∙ onto-with_place q p (origins_of places)

-- a place behind a last origin
with_place-last : (front : List Origin) (o : Origin) (p : Src) → with_place (front ++ o ∷ []) p ≡ front ++ cond (goes_on o p) (record o { len = o.len + 1 } ∷ []) (o ∷ one_origin p ∷ [])
with_place-last (f ∷ g ∷ front) o p = ap (λ (os : List Origin). f ∷ os) (with_place-last (g ∷ front) o p)
with_place-last _ o p = refl

-- there is a last origin where there is any
abbrev pub HasLast : List Origin → Option Origin → Type 0
HasLast front None = front ≡ []
HasLast front (Some o) = Unit {0}

-- the runs of the places so far, of which the last one isn't kept yet
pub record AreRuns (places : List Src) (kept : List Origin) (last : Option Origin) : Type 0 where
  pub runs : kept ++ option_to_list last ≡ origins_of places
  pub has_last : HasLast kept last

abbrev pub places_in : List TaggedByte → List Src
places_in held = map (λ byte. byte.origin) held

places-more : (held : List TaggedByte) (i : ℕ) (d : TaggedByte) → i < length held → places_in (take (i + 1) held) ≡ places_in (take i held) ++ (get_or held i d).origin ∷ []
places-more held i d within = ap places_in (take_more held i d within) ∙ map-append (λ byte. byte.origin) (take i held) (get_or held i d ∷ [])

-- the first byte
pub runs-first : (held : List TaggedByte) (i : ℕ) (d : TaggedByte) (kept new : List Origin) (last : Option Origin) → i < length held → AreRuns (places_in (take i held)) kept last → last ≡ None → new ≡ kept
    → AreRuns (places_in (take (i + 1) held)) new (Some (one_origin (get_or held i d).origin))
runs-first held i d kept new last within are was same =
    let places = places_in (take i held) in
    let p = (get_or held i d).origin in
    let before : AreRuns places kept None = subst (AreRuns places kept) was are in
    record {
      runs =
          ap (λ (os : List Origin). os ++ one_origin p ∷ []) (same ∙ before.has_last)
          ∙ ap (λ (os : List Origin). with_place os p) (sym before.has_last ∙ sym (append-nil kept) ∙ before.runs)
          ∙ sym (origins-push places p)
          ∙ ap origins_of (sym (places-more held i d within));
      has_last = tt;
    }

-- a further byte
pub runs-next : (held : List TaggedByte) (i : ℕ) (d : TaggedByte) (kept new : List Origin) (last : Option Origin) (run longer : Origin) → i < length held → AreRuns (places_in (take i held)) kept last → last ≡ Some run
    → new ++ longer ∷ [] ≡ with_place (kept ++ run ∷ []) (get_or held i d).origin → AreRuns (places_in (take (i + 1) held)) new (Some longer)
runs-next held i d kept new last run longer within are was on =
    let places = places_in (take i held) in
    let p = (get_or held i d).origin in
    let before : AreRuns places kept (Some run) = subst (AreRuns places kept) was are in
    record {
      runs = on ∙ ap (λ (os : List Origin). with_place os p) before.runs ∙ sym (origins-push places p) ∙ ap origins_of (sym (places-more held i d within));
      has_last = tt;
    }

-- the last run goes on with a place, or another one begins
run-goes : (kept : List Origin) (run longer : Origin) (place : Src) (on : Bool) → goes_on run place ≡ on → Some longer ≡ cond on (Some (record run { len = run.len + 1 })) None → kept ++ longer ∷ [] ≡ with_place (kept ++ run ∷ []) place
run-goes kept run longer place true on is = rw (with_place-last kept run place, on) (ap (λ (o : Origin). kept ++ o ∷ []) (some-same is))
  where
    some-same : {a b : Origin} → Some a ≡ Some b → a ≡ b
    some-same e = cc
run-goes kept run longer place false on is = cc

pub run-longer : (kept : List Origin) (run longer : Origin) (place : Src) → Some longer ≡ cond (goes_on run place) (Some (record run { len = run.len + 1 })) None → kept ++ longer ∷ [] ≡ with_place (kept ++ run ∷ []) place
run-longer kept run longer place is = run-goes kept run longer place (goes_on run place) refl is

run-stops : (kept : List Origin) (run : Origin) (place : Src) (on : Bool) → goes_on run place ≡ on → None ≡ cond on (Some (record run { len = run.len + 1 })) None → (kept ++ run ∷ []) ++ one_origin place ∷ [] ≡ with_place (kept ++ run ∷ []) place
run-stops kept run place true on is = cc
run-stops kept run place false on is = append_assoc kept (run ∷ []) (one_origin place ∷ []) ∙ sym (rw (with_place-last kept run place, on) refl)

pub run-begins : (kept : List Origin) (run : Origin) (place : Src) → None ≡ cond (goes_on run place) (Some (record run { len = run.len + 1 })) None → (kept ++ run ∷ []) ++ one_origin place ∷ [] ≡ with_place (kept ++ run ∷ []) place
run-begins kept run place is = run-stops kept run place (goes_on run place) refl is
