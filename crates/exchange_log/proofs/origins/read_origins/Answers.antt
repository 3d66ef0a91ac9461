use Rattle.std.proofs.Common.{rules, ◌≡◌, ℕ, ◌%◌, List, [], ◌∷◌, ◌++◌, length, flat_map, sym, ap, subst, ◌∙◌, append_assoc, arith}
use Rattle.std.proofs.lemmas.Grind.{flat_map-append}
use Rattle.std.specs.List.{All}
use Rattle.std.proofs.lemmas.List.{append-nil}
use Rattle.std.proofs.lemmas.List.Elements.{All-push}
use Rattle.arn_base.specs.declared.records.Origin.{Origin}
use Rattle.exchange_log.specs.Gives.{origin_fields, FitsOrigin}
use Rattle.exchange_log.proofs.origins.read_origins.Goals as goal

-- one origin more was read, and its fields are behind
read_more : (before after : List Origin) (o : Origin) (left rest fields : List ℕ)
    → flat_map origin_fields before ++ left ≡ fields → after ≡ before ++ o ∷ [] → left ≡ origin_fields o ++ rest
    → flat_map origin_fields after ++ rest ≡ fields
read_more before after o left rest fields read is_after is_left =
    let one : flat_map origin_fields (o ∷ []) ≡ origin_fields o = append-nil (origin_fields o) in
    let all = ap (flat_map origin_fields) is_after ∙ flat_map-append origin_fields before (o ∷ []) ∙ ap (λ xs. flat_map origin_fields before ++ xs) one in
    ap (λ xs. xs ++ rest) all ∙ append_assoc (flat_map origin_fields before) (origin_fields o) rest
    ∙ ap (λ xs. flat_map origin_fields before ++ xs) (sym is_left) ∙ read

still_whole : (o : Origin) (left rest : List ℕ) → length left % 16 ≡ 0 → left ≡ origin_fields o ++ rest → length rest % 16 ≡ 0
still_whole o left rest whole is_left =
    let long : length left ≡ length (origin_fields o ++ rest) = ap (λ (xs : List ℕ). length xs) is_left in
    omega (arith, long, whole)

more_fit : (before after : List Origin) (o : Origin) → All FitsOrigin before → FitsOrigin o → after ≡ before ++ o ∷ [] → All FitsOrigin after
more_fit before after o fit fits is_after =
    subst (All FitsOrigin) (sym is_after) (All-push FitsOrigin before o fit fits)

pub loop-origin-preserved : goal.loop-origin-preserved
loop-origin-preserved c =
    let is_left : c.loop-origin.left.now ≡ origin_fields c.in-Some.origin ++ c.in-Some.rest.now = search rules in
    record {
      read = read_more c.loop-origin.origins c.push.new.self c.in-Some.origin c.loop-origin.left.now c.in-Some.rest.now c.args.fields.now
          c.loop-origin.invariant.read c.in_ok-push.ensures.ok is_left;
      fits = more_fit c.loop-origin.origins c.push.new.self c.in-Some.origin c.loop-origin.invariant.fits (search rules) c.in_ok-push.ensures.ok;
      whole = still_whole c.in-Some.origin c.loop-origin.left.now c.in-Some.rest.now c.loop-origin.invariant.whole is_left;
    }
