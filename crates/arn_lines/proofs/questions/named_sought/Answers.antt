use Rattle.std.proofs.Common.{◌≡◌, ℕ, List, [], ◌∷◌, ◌++◌, ap, codes, subst, ◌∙◌, sym}
use Rattle.arn_lines.specs.Pieces.{IsFirstWord}
use Rattle.arn_lines.specs.Questions.{AreNumbers, IsNamed, IsNumberAnd}
use Rattle.arn_lines.specs.Words.{IsName, space}
use Rattle.arn_lines.proofs.Asks.{IsNamed-moment, IsNamed-parts, no_named}
use Rattle.arn_lines.proofs.FirstWords.{no_first_word}
use Rattle.arn_lines.proofs.Lists.{IsNumberAnd-same}
use Rattle.arn_lines.proofs.questions.named_sought.Goals as goal

pub returns-in_default-clause-none : goal.returns-in_default-clause-none
returns-in_default-clause-none c =
    no_named c.args.text.now
    (λ moment name from len named.
    let lead = IsNamed-moment c.args.text.now moment name from len named in
    (rw c.in_default.is at c.next_number.ensures.none) moment lead.0 lead.1)

pub returns-in_default-split_word-clause-none : goal.returns-in_default-split_word-clause-none
returns-in_default-split_word-clause-none c =
    no_named c.args.text.now
    (λ moment name from len named.
    let lead = IsNamed-moment c.args.text.now moment name from len named in
    let same = IsNumberAnd-same c.args.text.now c.in-Some.moment moment c.in-Some.rest.now lead.0 c.in-Some.ensures.some lead.1 in
    no_first_word c.in-Some.rest.now name lead.2 (rw c.in_default-split_word.is at c.split_word.ensures.none) (sym same.1 ∙ lead.3))

pub returns-in_default-two_numbers-clause-none : goal.returns-in_default-two_numbers-clause-none
returns-in_default-two_numbers-clause-none c =
    no_named c.args.text.now
    (λ moment name from len named.
    let parts = IsNamed-parts c.args.text.now c.in-Some.rest.now c.in-Some-split_word.word.now c.in-Some-split_word.range.now c.args.text.now c.in-Some.moment moment name from len c.in-Some.ensures.some c.in-Some-split_word.ensures.some named in
    (rw c.in_default-two_numbers.is at c.two_numbers.ensures.none) from len parts.3)

pub returns-in_default-2-clause-none : goal.returns-in_default-2-clause-none
returns-in_default-2-clause-none c =
    no_named c.args.text.now
    (λ moment name from len named.
    let parts = IsNamed-parts c.args.text.now c.in-Some.rest.now c.in-Some-split_word.word.now c.in-Some-split_word.range.now c.args.text.now c.in-Some.moment moment name from len c.in-Some.ensures.some c.in-Some-split_word.ensures.some named in
    (rw c.in_default-2.is at c.in_ok-name.ensures.none) parts.2)

-- the words that were split off are those of a name's line
named-split : (text rest word range name : List ℕ) (moment from len : ℕ) → IsNumberAnd text moment rest → IsFirstWord rest word range
    → IsName word → name ≡ word → AreNumbers range (from ∷ len ∷ []) → IsNamed (codes "name " ++ text) moment name from len
named-split text rest word range name moment from len lead first is_name same are =
    let behind : rest ≡ name ++ space ++ range = first.is_text ∙ ap (λ xs. xs ++ space ++ range) (sym same) in
    record {
      moment_text = lead.number;
      range = range;
      is_moment = lead.is_number;
      is_name = subst IsName (sym same) is_name;
      is_range = are;
      is_text = ap (λ xs. codes "name " ++ xs) (lead.is_text ∙ ap (λ xs. lead.number ++ space ++ xs) behind);
    }

pub returns-clause-some : goal.returns-clause-some
returns-clause-some c =
    let copied = rw c.in-Some-2.is at c.in_ok-name.ensures.some in
    named-split c.args.text.now c.in-Some.rest.now c.in-Some-split_word.word.now c.in-Some-split_word.range.now c.in-Some-2.name c.in-Some.moment c.in-Some-two_numbers.from c.in-Some-two_numbers.len c.in-Some.ensures.some c.in-Some-split_word.ensures.some copied.0 copied.1 c.in-Some-two_numbers.ensures.some
