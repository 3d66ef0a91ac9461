-- What the getters read after a parse of the program's words.
use Rattle.std.proofs.Common.{◌≡◌, ◌∙◌, ◌<◌, ◌≤◌, ap, ℕ, Bool, zero, suc, true, false, true≢false, List, [], ◌∷◌, length, Option, Some, None, refl, sym, subst, inl, inr, arith, codes, is_some, ◌^◌}
use Rattle.std.specs.Prelude.{◌↔◌, IsTrue, option_map, slice_index, unwrap_or, pos, Ok, Err, Result}
use Rattle.std.specs.List.{slice_index_or}
use Rattle.std.specs.Str.Parse.{ParsesBool, ParsesUnsigned, false_text, true_text}
use Rattle.clap.specs.Facts.{args_of}
use Rattle.clap.specs.Built.{IsParsedFrom}
use Rattle.clap.specs.Lexer.{without_minus}
use Rattle.clap.specs.Matches.{found_of, first_value, matched_of, one_text, ReadsOne}
use Rattle.clap.specs.Values.{Accepts, IsSignedIn, IsUnsignedIn, read_as, reading_of}
use Rattle.clap.specs.Words.{app_of}
use Rattle.clap.specs.declared.builder.arg.Arg.{Arg}
use Rattle.clap.specs.declared.builder.command.Command.{Command}
use Rattle.clap.specs.declared.builder.value_parser.ValueParser.{ValueParser}
use Rattle.clap.specs.declared.builder.value_parser.ValueParser.TheVariants as vp
use Rattle.clap.specs.declared.parser.matches.ArgMatches.{ArgMatches}
use Rattle.clap.proofs.CallerLemmas.{default_present, required_has_value}
use Rattle.clap.proofs.CallerReads.{signed_reads}
use Rattle.arn_words.specs.Words.{number_of, program}
use Rattle.arn_words.proofs.EntryLemmas.{matched-some, text_read}
use Rattle.arn_words.proofs.ProgramLemmas.{is_plain, negates_nothing, no_globals, four, log_takes, round_takes, seed_takes, round_default, seed_default, rule_at, any_arg}

-- a number that was read from a text is the one that it writes
module _ {E : Type 0} (G : List ℕ → Result ℕ E → Type 0) (k : ℕ) (only : (u : List ℕ) (x : Result ℕ E) → G u x → ParsesUnsigned k 10 u x) where
  number_read : (t : List ℕ) (r : Option ℕ) (n : ℕ) → ReadsOne G t r → r ≡ Some n → number_of t ≡ n
  number_read t (Some v) n read is = sym (only t (Ok v) read).1 ∙ ap (λ (o : Option ℕ). unwrap_or o v) is
  number_read t None n read is = cc

  unsigned_read : (low high : ℕ) (t : List ℕ) (r : Option ℕ) → high < 2 ^ k → IsUnsignedIn low high t → ReadsOne G t r → r ≡ Some (number_of t)
  unsigned_read low high t (Some v) fits passed read = ap (λ (n : ℕ). Some n) (only t (Ok v) read).1
  unsigned_read low high t None fits passed read = absurd (only t (Err read.0) read.1 (passed.0, omega arith))

module _ (c : Command) (is : app_of c ≡ program) (m : ArgMatches) (parsed : IsParsedFrom c m) where
  d : Arg
  d = any_arg c is

  pub log_read : is_some (first_value (found_of m) (codes "LOG")) ≡ true
  log_read =
      let takes = log_takes c is d in
      let rule = rule_at c is 0 d (omega arith) in
      subst (λ (t : List ℕ). is_some (first_value (found_of m) t) ≡ true) (ap (λ r. r.id) rule)
      (required_has_value c m parsed (is_plain c is) (no_globals c is) (negates_nothing c is) 0 d takes.within (ap (λ r. r.required) rule)
      takes.set takes.whole takes.least takes.one takes.named takes.own)

  round_text : (t : List ℕ) × (one_text (found_of m) (codes "round") ≡ Some (without_minus t)) × IsSignedIn (pos 1) (pos 1000000) t
  round_text =
      let takes = round_takes c is d in
      let rule = rule_at c is 1 d (omega arith) in
      let there = matched-some (found_of m) _ (default_present c m parsed (no_globals c is) 1 d takes.within (round_default c is d)) in
      let read = text_read c m parsed (is_plain c is) (no_globals c is) 1 d takes (vp.Signed (pos 1) (pos 1000000)) (ap (λ r. r.parser) rule) there in
      (read.0, subst (λ (t : List ℕ). one_text (found_of m) t ≡ Some (without_minus read.0)) (ap (λ r. r.id) rule) read.1, read.2)

  seed_text : (t : List ℕ) × (one_text (found_of m) (codes "seed") ≡ Some t) × IsUnsignedIn 0 18446744073709551615 t
  seed_text =
      let takes = seed_takes c is d in
      let rule = rule_at c is 2 d (omega arith) in
      let there = matched-some (found_of m) _ (default_present c m parsed (no_globals c is) 2 d takes.within (seed_default c is d)) in
      let read = text_read c m parsed (is_plain c is) (no_globals c is) 2 d takes (vp.Unsigned 0 18446744073709551615) (ap (λ r. r.parser) rule) there in
      (read.0, subst (λ (t : List ℕ). one_text (found_of m) t ≡ Some read.0) (ap (λ r. r.id) rule) read.1, read.2)

  -- a getter of `--round` gives the number that the text writes
  pub round_read : {E : Type 0} (G : List ℕ → Result ℕ E → Type 0) → ((u : List ℕ) (x : Result ℕ E) → G u x → ParsesUnsigned 32 10 u x)
      → (r : Option ℕ) → ((t : List ℕ) → one_text (found_of m) (codes "round") ≡ Some t → ReadsOne G t r)
      → (is_some r ≡ true) × (option_map number_of (one_text (found_of m) (codes "round")) ≡ r)
  round_read {E} G only r value =
      let text = round_text in
      let read = value (without_minus text.0) text.1 in
      let got = signed_reads E G 32 1 1000000 text.0 r read only (omega arith) text.2 in
      let number = number_read G 32 only (without_minus text.0) r got.0 read got.1 in
      (rw got.1 refl, ap (option_map number_of) text.1 ∙ (ap (λ (n : ℕ). Some n) number ∙ sym got.1))

  -- and so one of `--seed`
  pub seed_read : {E : Type 0} (G : List ℕ → Result ℕ E → Type 0) → ((u : List ℕ) (x : Result ℕ E) → G u x → ParsesUnsigned 64 10 u x)
      → (r : Option ℕ) → ((t : List ℕ) → one_text (found_of m) (codes "seed") ≡ Some t → ReadsOne G t r)
      → (is_some r ≡ true) × (option_map number_of (one_text (found_of m) (codes "seed")) ≡ r)
  seed_read {E} G only r value =
      let text = seed_text in
      let is_number = unsigned_read G 64 only 0 18446744073709551615 text.0 r (omega arith) text.2 (value text.0 text.1) in
      (rw is_number refl, ap (option_map number_of) text.1 ∙ sym is_number)

-- whether a getter of a flag says `true`
pub flag_read : (E : Type 0) (o : Option (List ℕ)) (r : Option Bool) → (o ≡ None → r ≡ None)
    → ((t : List ℕ) → o ≡ Some t → ReadsOne {E = E} ParsesBool t r) → IsTrue (unwrap_or r false) ↔ (o ≡ Some true_text)
flag_read E None r none some = (
  (λ yes.
      let bad : false ≡ true = rw (none refl) at yes in
      absurd (true≢false (sym bad))),
  (λ is. cc),
)
flag_read E (Some t) r none some = by_text r (some t refl)
  where
    by_text : (r : Option Bool) → ReadsOne {E = E} ParsesBool t r → IsTrue (unwrap_or r false) ↔ (Some t ≡ Some true_text)
    by_text (Some true) read = ((λ yes. ap (λ (u : List ℕ). Some u) read), (λ is. refl))
    by_text (Some false) read = (
      (λ yes. absurd (true≢false (sym yes))),
      (λ is.
          let same : t ≡ true_text = ap (λ (o : Option (List ℕ)). unwrap_or o t) is in
          let first : slice_index true_text 0 ≡ slice_index false_text 0 = ap (λ (u : List ℕ). slice_index u 0) (sym same ∙ read) in
          absurd (omega (arith, first))),
    )
    by_text None read = (
      (λ yes. absurd (true≢false (sym yes))),
      (λ is. absurd (read.1.0 (ap (λ (o : Option (List ℕ)). unwrap_or o t) is))),
    )
