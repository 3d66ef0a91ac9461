-- The words of the program: the simple command as which they are read, and what they say.
use Rattle.std.specs.Prelude.{◌≡◌, ℕ, List, [], ◌∷◌, Option, Some, true, codes, map, option_map, pos, string_bytes}
use Rattle.std.specs.Str.Parse.{digits_value, without_leading_plus}
use Rattle.std.specs.declared.alloc.Global.{Global}
use Rattle.std.specs.declared.string.String.{String}
use Rattle.clap.specs.Words.{App, Row, Rule, Shape, Text, fault_of, first_of, matches_of, new_app, new_rule, one_of, with_rule}
use Rattle.clap.specs.Simple.{on_top}
use Rattle.clap.specs.declared.builder.action.ArgAction.TheVariants.{Set, SetTrue}
use Rattle.clap.specs.declared.builder.value_parser.ValueParser.TheVariants as vp

-- LOG, the path of the log, which has to be there
abbrev pub log_rule : Rule
log_rule = record (new_rule (codes "LOG")) { action = Some Set; required = true }

-- `--round N`: from 1 to 1,000,000 instructions, and 1,000 where it isn't given
abbrev pub round_rule : Rule
round_rule = record (new_rule (codes "round")) {
  long = Some (codes "round");
  action = Some Set;
  value_names = 1;
  parser = Some (vp.Signed (pos 1) (pos 1000000));
  defaults = codes "1000" ∷ [];
}

-- `--seed S`: a number below 2^64, and 0 where it isn't given
abbrev pub seed_rule : Rule
seed_rule = record (new_rule (codes "seed")) {
  long = Some (codes "seed");
  action = Some Set;
  value_names = 1;
  parser = Some (vp.Unsigned 0 18446744073709551615);
  defaults = codes "0" ∷ [];
}

-- the flag `--random`
abbrev pub random_rule : Rule
random_rule = record (new_rule (codes "random")) { long = Some (codes "random"); action = Some SetTrue }

-- the words alone, with no flags but those that are named
abbrev pub without_more : Shape → Shape
without_more shape = record shape {
  no_binary_name = true;
  disable_help_flag = true;
  disable_version_flag = true;
}

-- the command as which the words are read
abbrev pub program : App
program = with_rule (with_rule (with_rule (with_rule (on_top without_more (new_app (codes "arnold")))
    log_rule) round_rule) seed_rule) random_rule

-- the bytes of each word
abbrev pub texts : List (String Global) → List Text
texts words = map (λ word. string_bytes word) words

-- the words are accepted: the command finds no fault in them
unfoldable pub AreAcceptedTexts : List Text → Type 0
AreAcceptedTexts words = fault_of program words ≡ []

abbrev pub AreAccepted : List (String Global) → Type 0
AreAccepted words = AreAcceptedTexts (texts words)

-- what the command finds in the words
abbrev pub found_in : List (String Global) → List Row
found_in words = matches_of program (texts words)

-- the number that a text writes
abbrev pub number_of : Text → ℕ
number_of text = digits_value 10 (without_leading_plus text)

-- the log that the words name
abbrev pub log_in : List (String Global) → Option Text
log_in words = first_of (codes "LOG") (found_in words)

-- the numbers of `--round` and `--seed`
abbrev pub round_in : List (String Global) → Option ℕ
round_in words = option_map number_of (one_of (codes "round") (found_in words))

abbrev pub seed_in : List (String Global) → Option ℕ
seed_in words = option_map number_of (one_of (codes "seed") (found_in words))

-- the words have `--random`
abbrev pub AskForRandom : List (String Global) → Type 0
AskForRandom words = one_of (codes "random") (found_in words) ≡ Some (codes "true")
