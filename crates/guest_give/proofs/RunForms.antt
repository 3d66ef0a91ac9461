-- Origins grow behind as they grow in front.
use Rattle.std.proofs.Common.{◌≡◌, ℕ, suc, ◌+◌, ◌++◌, ◌∙◌, ◌==◌, ◌&&◌, Bool, true, false, if◌then◌else◌, List, [], ◌∷◌, Option, None, Some, IfSome, option_to_list, ◌<◌, ◌≤◌, length, map, take, get_or, append-nil, refl, sym, ap, subst, arith}
use Rattle.std.proofs.lemmas.Bool.{eqb-true, eq-eqb}
use Rattle.std.proofs.lemmas.List.{take_more, map-append}
use Rattle.arn_base.specs.declared.records.Src.{Src}
use Rattle.arn_base.specs.declared.records.Origin.{Origin}
use Rattle.arn_base.specs.declared.records.Give.{Give}
use Rattle.parts_model.specs.declared.tagged.TaggedByte.{TaggedByte}
use Rattle.parts_model.specs.Tagged.{given, held_bytes, held_from, values, one_origin, comes_before, onto_origins, origins_of}
use Rattle.guest_give.specs.Runs.{goes_on, with_place, whole_run}

-- where a place comes before an origin, a further one goes on with both alike
goes_on-longer : (q p : Src) (o : Origin) (a b : Bool) → (q.event == o.event) ≡ a → (q.at + 1 == o.at) ≡ b → a && b ≡ true → goes_on (record { event = q.event; at = q.at; len = o.len + 1 }) p ≡ goes_on o p
goes_on-longer q p o true true event at both =
    let same : q.event ≡ o.event = eqb-true q.event o.event event in
    let next : q.at + 1 ≡ o.at = eqb-true (q.at + 1) o.at at in
    ap (λ (e : ℕ). (e == p.event) && (q.at + (o.len + 1) == p.at)) same ∙ ap (λ (n : ℕ). (o.event == p.event) && (n == p.at)) (omega (arith, next))
goes_on-longer q p o true false event at both = cc
goes_on-longer q p o false b event at both = cc

-- a place in front of an origin that a place goes on with, or not
onto-one : (q p : Src) (o : Origin) (cb go : Bool) → comes_before q o ≡ cb → goes_on o p ≡ go → onto_origins q (if go then record o { len = o.len + 1 } ∷ [] else o ∷ one_origin p ∷ []) ≡ with_place (if cb then record { event = q.event; at = q.at; len = o.len + 1 } ∷ [] else one_origin q ∷ o ∷ []) p
onto-one q p o true true before on =
    let longer = goes_on-longer q p o (q.event == o.event) (q.at + 1 == o.at) refl refl before ∙ on in
    rw (before, longer) refl
onto-one q p o true false before on =
    let longer = goes_on-longer q p o (q.event == o.event) (q.at + 1 == o.at) refl refl before ∙ on in
    rw (before, longer) refl
onto-one q p o false true before on = rw (before, on) refl
onto-one q p o false false before on = rw (before, on) refl

onto-more : (q p : Src) (o next : Origin) (os : List Origin) (cb : Bool) → comes_before q o ≡ cb → onto_origins q (o ∷ with_place (next ∷ os) p) ≡ with_place (onto_origins q (o ∷ next ∷ os)) p
onto-more q p o next os true before = rw before refl
onto-more q p o next os false before = rw before refl

-- one place in front and one behind
onto-with_place : (q p : Src) (os : List Origin) → onto_origins q (with_place os p) ≡ with_place (onto_origins q os) p
onto-with_place q p [] = refl
onto-with_place q p (o ∷ []) = onto-one q p o (comes_before q o) (goes_on o p) refl refl
onto-with_place q p (o ∷ next ∷ os) = onto-more q p o next os (comes_before q o) refl

pub origins_of-push : (places : List Src) (p : Src) → origins_of (places ++ p ∷ []) ≡ with_place (origins_of places) p
origins_of-push [] p = refl
origins_of-push (q ∷ places) p = ap (onto_origins q) (origins_of-push places p) ∙ onto-with_place q p (origins_of places)

-- a place behind a last origin
pub with_place-last : (front : List Origin) (o : Origin) (p : Src) → with_place (front ++ o ∷ []) p ≡ front ++ (if goes_on o p then record o { len = o.len + 1 } ∷ [] else o ∷ one_origin p ∷ [])
with_place-last [] o p = refl
with_place-last (f ∷ []) o p = refl
with_place-last (f ∷ g ∷ front) o p = ap (λ (os : List Origin). f ∷ os) (with_place-last (g ∷ front) o p)

-- there is a last origin where there is any
pub HasLast : List Origin → Option Origin → Type 0
HasLast front None = front ≡ []
HasLast front (Some o) = Unit {0}

-- the runs of the places so far, of which the last one isn't kept yet
pub record RunsSoFar (places : List Src) (kept : List Origin) (last : Option Origin) (count : ℕ) : Type 0 where
  pub runs : kept ++ option_to_list last ≡ origins_of places
  pub has_last : HasLast kept last
  pub few : IfSome last (λ run. run.len ≤ count)

pub RunsSoFar-none : RunsSoFar [] [] None 0
unfolding HasLast
RunsSoFar-none = record { runs = refl; has_last = refl; few = tt }

-- the places of the first bytes
places_in-more : (held : List TaggedByte) (i : ℕ) (d : TaggedByte) → i < length held → map (λ byte. byte.origin) (take (i + 1) held) ≡ map (λ byte. byte.origin) (take i held) ++ (get_or held i d).origin ∷ []
places_in-more held i d within = ap (map (λ byte. byte.origin)) (take_more held i d within) ∙ map-append (λ byte. byte.origin) (take i held) (get_or held i d ∷ [])

-- the first byte
pub RunsSoFar-first : (held : List TaggedByte) (i : ℕ) (d : TaggedByte) (kept kept' : List Origin) (last last' : Option Origin) → i < length held → RunsSoFar (map (λ byte. byte.origin) (take i held)) kept last i → last ≡ None → kept' ≡ kept → last' ≡ Some (one_origin (get_or held i d).origin) → RunsSoFar (map (λ byte. byte.origin) (take (i + 1) held)) kept' last' (i + 1)
unfolding HasLast
RunsSoFar-first held i d kept kept' last last' within s was same is =
    let places = map (λ byte. byte.origin) (take i held) in
    let p = (get_or held i d).origin in
    let t : RunsSoFar places kept None i = subst (λ (o : Option Origin). RunsSoFar places kept o i) was s in
    let none : kept' ≡ [] = same ∙ t.has_last in
    record {
      runs =
          ap (λ (o : Option Origin). kept' ++ option_to_list o) is
          ∙ ap (λ (os : List Origin). os ++ one_origin p ∷ []) none
          ∙ ap (λ (os : List Origin). with_place os p) (sym t.has_last ∙ sym (append-nil kept) ∙ t.runs)
          ∙ sym (origins_of-push places p)
          ∙ ap origins_of (sym (places_in-more held i d within));
      has_last = subst (HasLast kept') (sym is) tt;
      few = subst (λ (o : Option Origin). IfSome o (λ run. run.len ≤ i + 1)) (sym is) (omega arith);
    }

-- a further byte
pub RunsSoFar-on : (held : List TaggedByte) (i : ℕ) (d : TaggedByte) (kept kept' : List Origin) (last last' : Option Origin) (run run' : Origin) → i < length held → RunsSoFar (map (λ byte. byte.origin) (take i held)) kept last i → last ≡ Some run → kept' ++ run' ∷ [] ≡ with_place (kept ++ run ∷ []) (get_or held i d).origin → run'.len ≤ run.len + 1 → last' ≡ Some run' → RunsSoFar (map (λ byte. byte.origin) (take (i + 1) held)) kept' last' (i + 1)
unfolding HasLast
RunsSoFar-on held i d kept kept' last last' run run' within s was on few is =
    let places = map (λ byte. byte.origin) (take i held) in
    let p = (get_or held i d).origin in
    let t : RunsSoFar places kept (Some run) i = subst (λ (o : Option Origin). RunsSoFar places kept o i) was s in
    record {
      runs =
          ap (λ (o : Option Origin). kept' ++ option_to_list o) is
          ∙ on
          ∙ ap (λ (os : List Origin). with_place os p) t.runs
          ∙ sym (origins_of-push places p)
          ∙ ap origins_of (sym (places_in-more held i d within));
      has_last = subst (HasLast kept') (sym is) tt;
      few = subst (λ (o : Option Origin). IfSome o (λ run. run.len ≤ i + 1)) (sym is) (omega (arith, few, t.few));
    }

-- the bytes of an event from a place on are one run
origins_of-held : (event at b : ℕ) (bytes : List ℕ) → origins_of (map (λ h. h.origin) (held_from event at (b ∷ bytes))) ≡ record { event = event; at = at; len = suc (length bytes) } ∷ []
origins_of-held event at b [] = refl
origins_of-held event at b (c ∷ bytes) =
    let first : Src = record { event = event; at = at } in
    let run : Origin = record { event = event; at = at + 1; len = suc (length bytes) } in
    let before : comes_before first run ≡ true = and-both (eq-eqb event event refl) (eq-eqb (at + 1) (at + 1) refl) in
    ap (onto_origins first) (origins_of-held event (at + 1) c bytes)
    ∙ ap (λ (x : Bool). if x then record { event = event; at = at; len = run.len + 1 } ∷ [] else one_origin first ∷ run ∷ []) before
    ∙ ap (λ (n : ℕ). record { event = event; at = at; len = n } ∷ []) (omega arith)
  where
    and-both : {a b : Bool} → a ≡ true → b ≡ true → a && b ≡ true
    and-both p q = rw (p, q) refl

pub origins_of-whole : (event : ℕ) (bytes : List ℕ) → origins_of (map (λ h. h.origin) (held_bytes event bytes)) ≡ whole_run event (length bytes)
origins_of-whole event [] = refl
origins_of-whole event (b ∷ bytes) = origins_of-held event 0 b bytes

-- the bytes of an event without their origins
values-held_from : (event at : ℕ) (bytes : List ℕ) → values (held_from event at bytes) ≡ bytes
values-held_from event at [] = refl
values-held_from event at (b ∷ bytes) = ap (λ (x : List ℕ). b ∷ x) (values-held_from event (at + 1) bytes)

pub given-whole : (event : ℕ) (bytes : List ℕ) (give : Give) → give.bytes ≡ bytes → give.origins ≡ whole_run event (length bytes) → give ≡ given (held_bytes event bytes)
given-whole event bytes give are runs =
    ap (λ (x : List ℕ). record { bytes = x; origins = give.origins }) (are ∙ sym (values-held_from event 0 bytes))
    ∙ ap (λ (x : List Origin). record { bytes = values (held_bytes event bytes); origins = x }) (runs ∙ sym (origins_of-whole event bytes))

-- there are no more origins than places
onto-few : (place : Src) (os : List Origin) → length (onto_origins place os) ≤ length os + 1
onto-few place [] = omega arith
onto-few place (o ∷ os) = one (comes_before place o)
  where
    one : (before : Bool) → length (if before then record { event = place.event; at = place.at; len = o.len + 1 } ∷ os else one_origin place ∷ o ∷ os) ≤ suc (length os) + 1
    one true = omega arith
    one false = omega arith

pub origins_of-few : (places : List Src) → length (origins_of places) ≤ length places
origins_of-few [] = omega arith
origins_of-few (place ∷ places) = omega (arith, origins_of-few places, onto-few place (origins_of places))
