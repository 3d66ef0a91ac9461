-- What is known of a command that is read as the program's.
use Rattle.std.proofs.Common.{◌≡◌, ◌∙◌, ◌<◌, ◌≤◌, ap, ℕ, Bool, zero, suc, true, false, true≢false, not, ◌&&◌, List, [], ◌∷◌, length, map, Option, Some, None, refl, sym, subst, inl, inr, arith, codes, is_some}
use Rattle.std.specs.List.{All, slice_index_or}
use Rattle.std.specs.Str.{bytes_eq}
use Rattle.std.specs.Prelude.{slice_index}
use Rattle.std.proofs.lemmas.Bool.{eqb-true}
use Rattle.std.specs.Borrow.{Bor}
use Rattle.clap.specs.Facts.{args_of, groups_of, least_values, unwrap_or_range, WantsDefault}
use Rattle.clap.specs.Texts.{items_of}
use Rattle.clap.specs.declared.builder.range.ValueRange.{ValueRange}
use Rattle.clap.specs.Built.{IsAuto, IsPlain, IsPlainArg}
use Rattle.clap.specs.Simple.{has_plain_fields}
use Rattle.clap.specs.Walk.{is_empty, is_free_arg, is_simple_arg, rule_of, texts, Rule, Text}
use Rattle.clap.specs.Words.{App, HasMatchesOf, app_of, fault_of, found_of, is_simple, is_simple_and_free, matches_of, rows_of}
use Rattle.clap.specs.declared.parser.matches.ArgMatches.{ArgMatches}
use Rattle.clap.specs.declared.builder.action.ArgAction.TheVariants.{Set}
use Rattle.clap.specs.declared.builder.arg.Arg.{Arg}
use Rattle.clap.specs.declared.builder.command.Command.{Command}
use Rattle.clap.specs.declared.builder.command.Command.TheViews.{out-Command}
use Rattle.clap.proofs.WalkLemmas.{both}
use Rattle.arn_words.specs.Words.{AreAcceptedTexts, log_rule, program, random_rule, round_rule, seed_rule}
use Rattle.arn_words.proofs.EntryLemmas.{TakesText}

abbrev pub rules : List Rule
rules = log_rule ∷ round_rule ∷ seed_rule ∷ random_rule ∷ []

nothing : {X : Type 0} (xs : List X) → is_empty xs ≡ true → xs ≡ []
nothing [] empty = refl
nothing (x ∷ xs) empty =
    let bad : length (x ∷ xs) ≡ 0 = eqb-true _ _ empty in
    absurd (omega (arith, bad))

is_false : (b : Bool) → not b ≡ true → b ≡ false
is_false true holds = sym holds
is_false false holds = refl

is_none : {X : Type 0} (o : Option X) → not (is_some o) ≡ true → o ≡ None
is_none None holds = refl
is_none (Some x) holds = absurd (true≢false (sym holds))

-- what makes an argument a simple one
simple_parts : (a : Arg) → is_simple_arg a ≡ true
    → (a.overrides.items ≡ []) × (a.default_vals_ifs.items ≡ []) × (a.groups.items ≡ []) × (a.val_delim ≡ None)
simple_parts a simple =
    let overrides = both (is_empty a.overrides.items) _ simple in
    let conditions = both (is_empty a.default_vals_ifs.items) _ overrides.1 in
    let groups = both (is_empty a.groups.items) _ conditions.1 in
    let delimiter = both (not (is_some a.val_delim)) _ groups.1 in
    (nothing _ overrides.0, nothing _ conditions.0, nothing _ groups.0, is_none _ delimiter.0)

plain_arg : (a : Arg) → is_simple_arg a ≡ true → is_free_arg a ≡ true → IsPlainArg a
plain_arg a simple free =
    let parts = simple_parts a simple in
    let exclusive = both (not a.exclusive) _ free in
    let conflicts = both (is_empty a.conflicts.items) _ exclusive.1 in
    (is_false _ exclusive.0, nothing _ conflicts.0, parts.0, parts.2)

rule_of_place : (args : List Arg) (k : ℕ) (d : Arg) → k < length args → rule_of (slice_index_or args k d) ≡ slice_index_or (map rule_of args) k (rule_of d)
rule_of_place [] k d lt = absurd (omega arith)
rule_of_place (a ∷ args) zero d lt = refl
rule_of_place (a ∷ args) (suc k) d lt = rule_of_place args k d (omega arith)

many : (args : List Arg) → length args ≡ length (map rule_of args)
many [] = refl
many (a ∷ args) = ap suc (many args)

all_simple : (k : ℕ) (r : Rule) → k < 4 → ((slice_index_or rules k r).is_simple ≡ true) × ((slice_index_or rules k r).is_free ≡ true)
all_simple zero r lt = (refl, refl)
all_simple (suc zero) r lt = (refl, refl)
all_simple (suc (suc zero)) r lt = (refl, refl)
all_simple (suc (suc (suc zero))) r lt = (refl, refl)
all_simple (suc (suc (suc (suc k)))) r lt = absurd (omega arith)

only_log : (j : ℕ) (r : Rule) → j < 4 → bytes_eq (slice_index_or rules j r).id (codes "LOG") ≡ true → j ≡ 0
only_log zero r lt same = refl
only_log (suc zero) r lt same = absurd (true≢false (sym same))
only_log (suc (suc zero)) r lt same = absurd (true≢false (sym same))
only_log (suc (suc (suc zero))) r lt same = absurd (true≢false (sym same))
only_log (suc (suc (suc (suc k)))) r lt same = absurd (omega arith)

only_round : (j : ℕ) (r : Rule) → j < 4 → bytes_eq (slice_index_or rules j r).id (codes "round") ≡ true → j ≡ 1
only_round zero r lt same = absurd (true≢false (sym same))
only_round (suc zero) r lt same = refl
only_round (suc (suc zero)) r lt same = absurd (true≢false (sym same))
only_round (suc (suc (suc zero))) r lt same = absurd (true≢false (sym same))
only_round (suc (suc (suc (suc k)))) r lt same = absurd (omega arith)

only_seed : (j : ℕ) (r : Rule) → j < 4 → bytes_eq (slice_index_or rules j r).id (codes "seed") ≡ true → j ≡ 2
only_seed zero r lt same = absurd (true≢false (sym same))
only_seed (suc zero) r lt same = absurd (true≢false (sym same))
only_seed (suc (suc zero)) r lt same = refl
only_seed (suc (suc (suc zero))) r lt same = absurd (true≢false (sym same))
only_seed (suc (suc (suc (suc k)))) r lt same = absurd (omega arith)

-- a command that is read as the program's
module _ (c : Command) (is : app_of c ≡ program) where
  rules_are : map rule_of (args_of c) ≡ rules
  rules_are = ap (λ a. a.top.rules) is

  pub four : length (args_of c) ≡ 4
  four = many (args_of c) ∙ ap length rules_are

  pub rule_at : (k : ℕ) (d : Arg) → k < 4 → rule_of (slice_index_or (args_of c) k d) ≡ slice_index_or rules k (rule_of d)
  rule_at k d lt =
      let within : k < length (args_of c) = omega (arith, four) in
      rule_of_place (args_of c) k d within ∙ ap (λ rs. slice_index_or rs k (rule_of d)) rules_are

  is_plain_shape : has_plain_fields (out-Command c) ≡ true
  is_plain_shape = ap (λ a. a.top.is_plain) is

  pub no_globals : (out-Command c).has_globals ≡ false
  no_globals =
      let groups = both (is_empty (out-Command c).groups.items) _ is_plain_shape in
      let external = both (not (out-Command c).allow_external_subcommands) _ groups.1 in
      let globals = both (not (out-Command c).has_globals) _ external.1 in
      is_false _ globals.0

  plain_at : (k : ℕ) (d : Arg) → k < 4 → IsPlainArg (slice_index_or (args_of c) k d)
  plain_at k d lt =
      let known = all_simple k (rule_of d) lt in
      plain_arg (slice_index_or (args_of c) k d) (ap (λ (r : Rule). r.is_simple) (rule_at k d lt) ∙ known.0) (ap (λ (r : Rule). r.is_free) (rule_at k d lt) ∙ known.1)

  pub is_plain : IsPlain c
  is_plain =
      let groups = both (is_empty (out-Command c).groups.items) _ is_plain_shape in
      ((λ k d lt. plain_at k d (omega (arith, four, lt))), nothing _ groups.0)

  pub negates_nothing : (out-Command c).subcommand_negates_reqs ≡ false
  negates_nothing = ap (λ a. a.top.subcommand_negates_reqs) is

  some_default : (vs : List (Bor Text)) (text : Text) → texts vs ≡ text ∷ [] → 0 < length vs
  some_default [] text one =
      let bad : ◌≡◌ {A = ℕ} 0 1 = ap length one in
      absurd (omega (arith, bad))
  some_default (v ∷ vs) text one = omega arith

  range_is_one : (range : Option ValueRange) → range ≡ None → 1 ≤ (unwrap_or_range range).start_inclusive
  range_is_one range none = rw none (omega arith)

  -- the argument at a place below 4 takes a value at each use, where its rule is one that does
  taking : (k : ℕ) (d : Arg) → k < 4 → (r : Rule) → rule_of (slice_index_or (args_of c) k d) ≡ r → r.is_simple ≡ true
      → r.action ≡ Some Set → r.range ≡ None → (first : ℕ) → slice_index r.id 0 ≡ first → (first ≡ 0 → ⊥) → (first ≡ 104 → ⊥) → (first ≡ 118 → ⊥)
      → ((j : ℕ) (s : Rule) → j < 4 → bytes_eq (slice_index_or rules j s).id r.id ≡ true → j ≡ k) → TakesText c k d
  taking k d lt r is simple set range first begins named help version only =
      let a = slice_index_or (args_of c) k d in
      let id : a.id.now ≡ r.id = ap (λ s. s.id) is in
      let at : slice_index a.id.now 0 ≡ first = ap (λ t. slice_index t 0) id ∙ begins in
      record {
        within = omega (arith, four);
        set = ap (λ s. s.action) is ∙ set;
        whole = (simple_parts a (ap (λ (s : Rule). s.is_simple) is ∙ simple)).3;
        least = range_is_one a.num_vals (ap (λ s. s.range) is ∙ range);
        one = λ j e within same.
            let below : j < 4 = omega (arith, four) in
            only j (rule_of e) below (subst (λ t. bytes_eq t r.id ≡ true) (ap (λ s. s.id) (rule_at j e below))
            (subst (λ t. bytes_eq (slice_index_or (args_of c) j e).id.now t ≡ true) id same));
        named = λ empty. named (sym at ∙ ap (λ t. slice_index t 0) empty);
        own = λ auto. elim auto [
          | inl is_help ↦ help (sym at ∙ ap (λ t. slice_index t 0) is_help)
          | inr is_version ↦ version (sym at ∙ ap (λ t. slice_index t 0) is_version)
        ];
      }

  pub log_takes : (d : Arg) → TakesText c 0 d
  log_takes d = taking 0 d (omega arith) log_rule (rule_at 0 d (omega arith)) refl refl refl 76 refl (λ e. omega (arith, e)) (λ e. omega (arith, e)) (λ e. omega (arith, e)) only_log

  pub round_takes : (d : Arg) → TakesText c 1 d
  round_takes d = taking 1 d (omega arith) round_rule (rule_at 1 d (omega arith)) refl refl refl 114 refl (λ e. omega (arith, e)) (λ e. omega (arith, e)) (λ e. omega (arith, e)) only_round

  pub seed_takes : (d : Arg) → TakesText c 2 d
  seed_takes d = taking 2 d (omega arith) seed_rule (rule_at 2 d (omega arith)) refl refl refl 115 refl (λ e. omega (arith, e)) (λ e. omega (arith, e)) (λ e. omega (arith, e)) only_seed

  pub round_default : (d : Arg) → WantsDefault (slice_index_or (args_of c) 1 d)
  round_default d =
      let is = rule_at 1 d (omega arith) in (
        (simple_parts (slice_index_or (args_of c) 1 d) (ap (λ (s : Rule). s.is_simple) is)).1,
        some_default (items_of (slice_index_or (args_of c) 1 d).default_vals) (codes "1000") (ap (λ (s : Rule). s.defaults) is),
      )

  pub seed_default : (d : Arg) → WantsDefault (slice_index_or (args_of c) 2 d)
  seed_default d =
      let is = rule_at 2 d (omega arith) in (
        (simple_parts (slice_index_or (args_of c) 2 d) (ap (λ (s : Rule). s.is_simple) is)).1,
        some_default (items_of (slice_index_or (args_of c) 2 d).default_vals) (codes "0") (ap (λ (s : Rule). s.defaults) is),
      )

  -- some argument, to stand where a place wants one
  pub any_arg : Arg
  any_arg = first (args_of c) (omega (arith, four))
    where
      first : (args : List Arg) → 0 < length args → Arg
      first [] lt = absurd (omega arith)
      first (a ∷ args) lt = a

simple_and_free : is_simple_and_free program ≡ true
simple_and_free = refl

-- and what the words say by such a command, they say by the program's
module _ (c : Command) (is : app_of c ≡ program) (words : List Text) where
  pub none_faulty : (is_simple_and_free (app_of c) ≡ true → fault_of (app_of c) words ≡ []) → AreAcceptedTexts words
  unfolding AreAcceptedTexts
  none_faulty free = subst (λ (a : App). fault_of a words ≡ []) is (free (ap is_simple_and_free is ∙ simple_and_free))

  pub rows_are : (m : ArgMatches) → HasMatchesOf (app_of c) words m → rows_of (found_of m) ≡ matches_of program words
  rows_are m has = (has (ap is_simple is ∙ (both (is_simple program) _ simple_and_free).0)).0 ∙ ap (λ (a : App). matches_of a words) is
