use Rattle.std.proofs.Common.{◌≡◌, ◌∙◌, ap, sym, subst, codes, false, Bool, ℕ, List, Option, Some}
use Rattle.std.specs.Prelude.{◌↔◌, IsTrue, option_map, unwrap_or}
use Rattle.std.specs.Str.Parse.{ParsesUnsigned, ExplainsUnsignedError, HasUnsignedDigitsIfOk, true_text}
use Rattle.clap.specs.Words.{first_of, found_of, matches_of, one_of, one_text}
use Rattle.clap.proofs.CallerLemmas.{some_of_text}
use Rattle.clap.proofs.WalkLemmas.{first_value-rows, one_text-rows}
use Rattle.arn_words.specs.Words.{number_of, program, texts}
use Rattle.arn_words.proofs.ProgramLemmas.{none_faulty, rows_are}
use Rattle.arn_words.proofs.ReadLemmas.{flag_read, log_read, round_read, seed_read}
use Rattle.arn_words.proofs.options.read_words.Goals as goal

pub unwrap-requires : goal.unwrap-requires
unwrap-requires c =
    some_of_text _ c.get_str.result _ c.get_str.ensures
    (log_read c.in_ok-command.field-0 c.in_ok-command.ensures c.in_ok-matches.matches c.in_ok-matches.ensures.parsed)

pub unwrap-requires-2 : goal.unwrap-requires-2
unwrap-requires-2 c =
    (round_read c.in_ok-command.field-0 c.in_ok-command.ensures c.in_ok-matches.matches c.in_ok-matches.ensures.parsed
    (λ bs r. ParsesUnsigned 32 10 bs r × ExplainsUnsignedError 10 bs r × HasUnsignedDigitsIfOk bs r) (λ u x g. g.0)
    c.get_one.result c.get_one.ensures.value).0

pub unwrap-requires-3 : goal.unwrap-requires-3
unwrap-requires-3 c =
    (seed_read c.in_ok-command.field-0 c.in_ok-command.ensures c.in_ok-matches.matches c.in_ok-matches.ensures.parsed
    (λ bs r. ParsesUnsigned 64 10 bs r × ExplainsUnsignedError 10 bs r × HasUnsignedDigitsIfOk bs r) (λ u x g. g.0)
    c.get_one-2.result c.get_one-2.ensures.value).0

pub returns-clause-accepted : goal.returns-clause-accepted
returns-clause-accepted c =
    none_faulty c.in_ok-command.field-0 c.in_ok-command.ensures (texts c.args.words.now) c.in_ok-matches.ensures.kinds

pub returns-clause-log : goal.returns-clause-log
returns-clause-log c =
    let rows = rows_are c.in_ok-command.field-0 c.in_ok-command.ensures (texts c.args.words.now) c.in_ok-matches.matches c.in_ok-matches.ensures.matches in
    sym (first_value-rows (found_of c.in_ok-matches.matches) (codes "LOG") ∙ ap (first_of (codes "LOG")) rows)
    ∙ (sym c.get_str.ensures ∙ (ap (option_map (λ s. s.now)) c.unwrap.ensures ∙ ap (λ (t : List ℕ). Some t) (sym c.in_ok-log.ensures.ok)))

pub returns-clause-round : goal.returns-clause-round
returns-clause-round c =
    let rows = rows_are c.in_ok-command.field-0 c.in_ok-command.ensures (texts c.args.words.now) c.in_ok-matches.matches c.in_ok-matches.ensures.matches in
    let read = round_read c.in_ok-command.field-0 c.in_ok-command.ensures c.in_ok-matches.matches c.in_ok-matches.ensures.parsed
    (λ bs r. ParsesUnsigned 32 10 bs r × ExplainsUnsignedError 10 bs r × HasUnsignedDigitsIfOk bs r) (λ u x g. g.0)
    c.get_one.result c.get_one.ensures.value in
    ap (option_map number_of) (sym (one_text-rows (found_of c.in_ok-matches.matches) (codes "round") ∙ ap (one_of (codes "round")) rows))
    ∙ (read.1 ∙ c.unwrap-2.ensures)

pub returns-clause-seed : goal.returns-clause-seed
returns-clause-seed c =
    let rows = rows_are c.in_ok-command.field-0 c.in_ok-command.ensures (texts c.args.words.now) c.in_ok-matches.matches c.in_ok-matches.ensures.matches in
    let read = seed_read c.in_ok-command.field-0 c.in_ok-command.ensures c.in_ok-matches.matches c.in_ok-matches.ensures.parsed
    (λ bs r. ParsesUnsigned 64 10 bs r × ExplainsUnsignedError 10 bs r × HasUnsignedDigitsIfOk bs r) (λ u x g. g.0)
    c.get_one-2.result c.get_one-2.ensures.value in
    ap (option_map number_of) (sym (one_text-rows (found_of c.in_ok-matches.matches) (codes "seed") ∙ ap (one_of (codes "seed")) rows))
    ∙ (read.1 ∙ c.unwrap-3.ensures)

pub returns-clause-random : goal.returns-clause-random
returns-clause-random c =
    let rows = rows_are c.in_ok-command.field-0 c.in_ok-command.ensures (texts c.args.words.now) c.in_ok-matches.matches c.in_ok-matches.ensures.matches in
    let read = flag_read _ (one_text (found_of c.in_ok-matches.matches) (codes "random")) c.get_one-3.result c.get_one-3.ensures.none c.get_one-3.ensures.value in
    subst (λ (b : Bool). IsTrue b ↔ (one_of (codes "random") (matches_of program (texts c.args.words.now)) ≡ Some true_text)) (sym c.unwrap_or.ensures)
    (subst (λ (o : Option (List ℕ)). IsTrue (unwrap_or c.get_one-3.result false) ↔ (o ≡ Some true_text))
    (one_text-rows (found_of c.in_ok-matches.matches) (codes "random") ∙ ap (one_of (codes "random")) rows) read)
