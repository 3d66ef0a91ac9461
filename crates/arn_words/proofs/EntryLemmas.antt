-- What an argument that has an entry after a parse gives to a typed getter, whether the words or a default made the entry.
use Rattle.std.proofs.Common.{◌≡◌, ◌∙◌, ◌<◌, ◌≤◌, ap, ℕ, Bool, zero, suc, true, false, true≢false, List, [], ◌∷◌, length, is_some, Option, Some, None, refl, sym, subst, inl, inr, arith}
use Rattle.std.specs.Prelude.{find, option_map, slice_get}
use Rattle.std.specs.List.{All, slice_index_or}
use Rattle.std.specs.Str.{bytes_eq}
use Rattle.std.specs.Borrow.{Bor}
use Rattle.std.proofs.lemmas.Slice.Eq.{bytes_eq-Decides}
use Rattle.clap.specs.Facts.{args_of, groups_of, Entry, EntryPasses, HasIn, IsParsed, PassesArg, HasReading, least_values, parser_of, parser_of_value}
use Rattle.clap.specs.Built.{IsAuto, IsParsedFrom, IsPlain, SameRules}
use Rattle.clap.specs.Matches.{found_of, has_subcommand, matched_of, one_text}
use Rattle.clap.specs.Values.{Accepts, read_as, reading_of}
use Rattle.clap.specs.declared.builder.action.ArgAction.TheVariants.{Count, Set}
use Rattle.clap.specs.declared.builder.arg.Arg.{Arg}
use Rattle.clap.specs.declared.builder.command.Command.{Command}
use Rattle.clap.specs.declared.builder.command.Command.TheViews.{out-Command}
use Rattle.clap.specs.declared.builder.value_parser.Reading.{Reading}
use Rattle.clap.specs.declared.builder.value_parser.ValueParser.{ValueParser}
use Rattle.clap.specs.declared.parser.matches.ArgMatches.{ArgMatches}
use Rattle.clap.specs.declared.parser.matches.Found.{Found}
use Rattle.clap.specs.declared.parser.matches.MatchedArg.{MatchedArg}
use Rattle.clap.proofs.CallerLemmas.{entry_by_id, same_rules_by_id}

-- an id that some entry has is found
found-some : (entries : List Entry) (id : List ℕ) → HasIn entries id → is_some (find (λ e. bytes_eq e.0.now id) entries) ≡ true
found-some [] id has = absurd (omega (arith, has.1))
found-some (entry ∷ entries) id has = go has.0 has.1 has.2 (bytes_eq entry.0.now id) refl (λ rest. found-some entries id rest)
  where
    go : (i : ℕ) → i < length (entry ∷ entries) → ((d : Entry) → bytes_eq (slice_index_or (entry ∷ entries) i d).0.now id ≡ true)
        → (t : Bool) → bytes_eq entry.0.now id ≡ t → (HasIn entries id → is_some (find (λ e. bytes_eq e.0.now id) entries) ≡ true)
        → is_some (find (λ e. bytes_eq e.0.now id) (entry ∷ entries)) ≡ true
    go i lt at true t rest = rw t refl
    go zero lt at false t rest = absurd (true≢false (sym (at entry) ∙ t))
    go (suc i) lt at false t rest = rw t (rest (i, omega arith, at))

pub matched-some : (f : Found) (id : List ℕ) → HasIn f.entries.items id → is_some (matched_of f id) ≡ true
matched-some f id has = go (find (λ (e : Entry). bytes_eq e.0.now id) f.entries.items) (found-some f.entries.items id has)
  where
    go : (o : Option Entry) → is_some o ≡ true → is_some (option_map (λ e. e.1) o) ≡ true
    go None some = some
    go (Some e) some = refl

first_value_passes : (how : Reading) (ignore_case : Bool) (q : ValueParser) (vs : List (Bor (List ℕ))) → 0 < length vs
    → All (λ v. Accepts ignore_case q v.now) vs
    → (t : List ℕ) × (option_map (λ s. read_as how s.now) (slice_get vs 0) ≡ Some (read_as how t)) × Accepts ignore_case q t
first_value_passes how ignore_case q [] lt all = absurd (omega arith)
first_value_passes how ignore_case q (v ∷ vs) lt all = (v.now, refl, all 0 v (omega arith))

-- a command without groups, each of whose arguments of one id is the caller's argument `a`, which takes a value at each use
module _ (c : Command) (id : List ℕ) (a : Arg) (no_groups : groups_of c ≡ []) (named : id ≡ [] → ⊥)
    (same : (j : ℕ) (x : Arg) → j < length (args_of c) → slice_index_or (args_of c) j x ≡ x → bytes_eq x.id.now id ≡ true → SameRules a x)
    (set : a.action ≡ Some Set) (whole : a.val_delim ≡ None) (least : 1 ≤ least_values a) where
  no_group_entry : (e : Entry) → e.0.now ≡ id → EntryPasses c e → e.1.is_group ≡ true → ⊥
  no_group_entry e key pass group = elim (pass.3 group) [
    | inl empty ↦ named (sym key ∙ empty)
    | inr some ↦
        let bad : 0 < 0 = rw no_groups at some in
        absurd (omega arith)
  ]

  has_value : (e : Entry) → e.0.now ≡ id → EntryPasses c e → 0 < length e.1.vals.items
  has_value e key pass = elim pass.1 [
    | inl group ↦ absurd (no_group_entry e key pass group.0)
    | inr (inl some) ↦ some
    | inr (inr (inl count)) ↦
        let any = count.1 in
        let rules = same any.0 any.1 any.2 any.3 (rw key at any.4.0) in
        let is_set : any.1.action ≡ Some Set = rules.action Set set in
        let bad : Set ≡ Count = rw is_set at any.4.1 in
        cc
    | inr (inr (inr none)) ↦
        let rules = same none.0 none.1 none.2 none.3 (rw key at none.4.0) in
        elim none.4.1 [
          | inl empty ↦
              let one = rules.least set least in
              absurd (omega arith)
          | inr splits ↦
              let bad : false ≡ true = rw (rules.val_delim, whole) at splits in
              cc
        ]
  ]

  passes : (q : ValueParser) → a.value_parser ≡ Some q → (e : Entry) → e.0.now ≡ id → EntryPasses c e
      → All (λ v. Accepts a.ignore_case q v.now) e.1.vals.items
  passes q parser e key pass = elim pass.0 [
    | inl group ↦ absurd (no_group_entry e key pass group)
    | inr all ↦ λ j v lt.
        let any = all j v lt in
        let rules = same any.0 any.1 any.2 any.3 (rw key at any.4.0) in
        let is_q : parser_of any.1 ≡ q = ap parser_of_value (rules.parser q parser) in
        let by_q = subst (λ (w : ValueParser). Accepts any.1.ignore_case w (slice_index_or e.1.vals.items j v).now) is_q any.4.1 in
        subst (λ (b : Bool). Accepts b q (slice_index_or e.1.vals.items j v).now) rules.ignore_case by_q
  ]

  reads_by : (q : ValueParser) → a.value_parser ≡ Some q → (e : Entry) → e.0.now ≡ id → EntryPasses c e → e.1.reading ≡ reading_of q
  reads_by q parser e key pass = elim pass.4 [
    | inl group ↦ absurd (no_group_entry e key pass group)
    | inr any ↦
        let rules = same any.0 any.1 any.2 any.3 (rw key at any.4.0) in
        sym any.4.1 ∙ ap reading_of (ap parser_of_value (rules.parser q parser))
  ]

  text_of_entry : (f : Found) (q : ValueParser) → a.value_parser ≡ Some q → (e : Entry) → matched_of f id ≡ Some e.1 → e.0.now ≡ id → EntryPasses c e
      → (t : List ℕ) × (one_text f id ≡ Some (read_as (reading_of q) t)) × Accepts a.ignore_case q t
  text_of_entry f q parser e found key pass =
      let first = first_value_passes e.1.reading a.ignore_case q e.1.vals.items (has_value e key pass) (passes q parser e key pass) in
      (first.0, rw found (first.1 ∙ ap (λ (how : Reading). Some (read_as how first.0)) (reads_by q parser e key pass)), first.2)

  pub text_of_found : (f : Found) (q : ValueParser) → a.value_parser ≡ Some q → All (EntryPasses c) f.entries.items → is_some (matched_of f id) ≡ true
      → (t : List ℕ) × (one_text f id ≡ Some (read_as (reading_of q) t)) × Accepts a.ignore_case q t
  text_of_found f q parser all some = go (matched_of f id) refl some
    where
      go : (o : Option MatchedArg) → matched_of f id ≡ o → is_some o ≡ true
          → (t : List ℕ) × (one_text f id ≡ Some (read_as (reading_of q) t)) × Accepts a.ignore_case q t
      go None is some = absurd (true≢false (sym some))
      go (Some x) is some =
          let got = entry_by_id (EntryPasses c) f.entries.items id x all is in
          text_of_entry f q parser got.0 (is ∙ ap (λ (y : MatchedArg). Some y) (sym got.1)) ((bytes_eq-Decides got.0.0.now id).0 got.2) got.3

-- the caller's argument at place k takes a value at each use, and no other has its id
pub record TakesText (old : Command) (k : ℕ) (d : Arg) : Type 0 where
  pub within : k < length (args_of old)
  pub set : (slice_index_or (args_of old) k d).action ≡ Some Set
  pub whole : (slice_index_or (args_of old) k d).val_delim ≡ None
  pub least : 1 ≤ least_values (slice_index_or (args_of old) k d)
  pub one : (j : ℕ) (e : Arg) → j < length (args_of old)
      → bytes_eq (slice_index_or (args_of old) j e).id.now (slice_index_or (args_of old) k d).id.now ≡ true → j ≡ k
  pub named : (slice_index_or (args_of old) k d).id.now ≡ [] → ⊥
  pub own : IsAuto (slice_index_or (args_of old) k d) → ⊥

-- where it has an entry after a parse, a typed getter reads a text of it that passed its parser
pub text_read : (old : Command) (m : ArgMatches) → IsParsedFrom old m → IsPlain old → (out-Command old).has_globals ≡ false
    → (k : ℕ) (d : Arg) → TakesText old k d → (q : ValueParser) → (slice_index_or (args_of old) k d).value_parser ≡ Some q
    → is_some (matched_of (found_of m) (slice_index_or (args_of old) k d).id.now) ≡ true
    → (t : List ℕ) × (one_text (found_of m) (slice_index_or (args_of old) k d).id.now ≡ Some (read_as (reading_of q) t))
    × Accepts (slice_index_or (args_of old) k d).ignore_case q t
text_read old m p plain globals k d takes q parser some =
    let parsed = p.parsed (p.from.globals ∙ globals) in
    text_of_found p.built (slice_index_or (args_of old) k d).id.now (slice_index_or (args_of old) k d) (p.from.plain plain).1 takes.named
    (λ j x lt at key. same_rules_by_id old m p k d takes.within takes.one takes.own j x lt at key)
    takes.set takes.whole takes.least (found_of m) q parser parsed.values some
