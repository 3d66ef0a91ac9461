-- Which groups had bytes of the outside first.
use Rattle.std.proofs.Common.{◌≡◌, inl, inr, ℕ, ◌||◌, nat_lt, Bool, true, false, if◌then◌else◌, List, [], filter, Option, Some, None, option_and_then, ap, sym, subst, ◌∙◌, arith}
use Rattle.std.proofs.lemmas.Bool.Decides.{nat_tests}
use Rattle.std.specs.List.{All, Contains, range_with_len}
use Rattle.std.proofs.lemmas.Bool.{and_from, and_parts, lt-ltb, ltb-true, or_left, or_right, or_cases}
use Rattle.std.proofs.lemmas.List.Elements.{All-contains_itself, All-filter, All-nil}
use Rattle.arn_base.specs.declared.records.Record.{Record}
use Rattle.history_index.specs.Lookups.{groups_in}
use Rattle.history_model.specs.Broken.{first_broken}
use Rattle.history_model.specs.Events.{event_at, how_many}
use Rattle.history_model.specs.Exchanges.{received}
use Rattle.history_model.specs.Groups.{event_group, is_number}
use Rattle.lineage_model.specs.Joined.{is_source}
use Rattle.query_model.specs.Forth.{first_by, first_groups, has_copy, has_read, has_taken, takes_at}
use Rattle.query_laws.specs.Forth.{FirstAreTold, HadFirst, Read, TakesAt, Took}
use Rattle.query_laws.proofs.Found.{event-is-of}
use Rattle.query_laws.proofs.Links.{is-number, number-is}
use Rattle.query_laws.proofs.Lists.{any-in, in-any, in-kept, in-range, kept-in, range-in}

module _ (entries : List Record) (event from len : ℕ) where
  abbrev had : ℕ → Bool
  had g = has_taken entries event from len g || has_read entries event len g

  first-is : (e : Record) → event_at entries event ≡ Some e → is_source e ≡ true → first_groups entries event from len ≡ filter had (groups_in entries)
  first-is e at source = ap (first_by entries event from len) at ∙ ap (λ (b : Bool). (if b then filter had (groups_in entries) else [])) source

  took-first : (g n : ℕ) → takes_at entries event from len g n ≡ true → TakesAt entries event from len g n
  took-first g n h1 = grind (arith, nat_tests, and_parts, number-is)

  had-first : (g : ℕ) → had g ≡ true → HadFirst entries event from len g
  had-first g is = elim (or_cases (has_taken entries event from len g) (has_read entries event len g) is) [
    | inl taken ↦ (
        let found = in-any (takes_at entries event from len g) (range_with_len 0 (how_many entries)) taken in
        Took found.0 (omega (arith, (range-in 0 (how_many entries) found.0 found.1).1)) (took-first g found.0 found.2))
    | inr read ↦ (
        let parts = and_parts (nat_lt 0 len) (is_number g (event_group entries event)) read in
        Read (ltb-true 0 len parts.0) (number-is g (event_group entries event) parts.1))
  ]

  pub first-had : (g : ℕ) → HadFirst entries event from len g → had g ≡ true
  first-had g (Took n low takes) =
      or_left (has_taken entries event from len g) (has_read entries event len g)
      (any-in (takes_at entries event from len g) (range_with_len 0 (how_many entries)) n (in-range 0 (how_many entries) n (omega arith) (omega (arith, low)))
      (and_from (is_number g (event_group entries n)) (has_copy event from len (option_and_then received (event_at entries n))) (is-number g (event_group entries n) takes.group) takes.copy))
  first-had g (Read some group) =
      or_right (has_taken entries event from len g) (has_read entries event len g)
      (and_from (nat_lt 0 len) (is_number g (event_group entries event)) (lt-ltb 0 len some) (is-number g (event_group entries event) group))

  had-group : first_broken entries ≡ None → (g : ℕ) → HadFirst entries event from len g → Contains (groups_in entries) g
  had-group stands g (Took n low takes) = event-is-of entries stands n g takes.group
  had-group stands g (Read some group) = event-is-of entries stands event g group

pub first-known : (entries : List Record) (event from len : ℕ) (o : Option Record) → All (Contains (groups_in entries)) (first_by entries event from len o)
first-known entries event from len None = All-nil (Contains (groups_in entries))
first-known entries event from len (Some e) = by-test (is_source e)
  where
    by-test : (b : Bool) → All (Contains (groups_in entries)) (if b then filter (had entries event from len) (groups_in entries) else [])
    by-test true = All-filter (had entries event from len) (Contains (groups_in entries)) (groups_in entries) (All-contains_itself (groups_in entries))
    by-test false = All-nil (Contains (groups_in entries))

pub first-told : FirstAreTold
first-told entries event from len e stands at source g =
    let is = first-is entries event from len e at source in (
      λ has. had-first entries event from len g (in-kept (had entries event from len) (groups_in entries) g (subst (λ (xs : List ℕ). Contains xs g) is has)).1,
      λ h. subst (λ (xs : List ℕ). Contains xs g) (sym is) (kept-in (had entries event from len) (groups_in entries) g (had-group entries event from len stands g h) (first-had entries event from len g h)),
    )
