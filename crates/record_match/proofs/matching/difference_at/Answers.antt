use Rattle.std.proofs.Common.{ℕ, List, ◌≢◌, option_copied, slice_get, ◌∙◌, sym, ap}
use Rattle.record_match.specs.Differs.{spelling_if}
use Rattle.record_match.proofs.Compared.{difference_of, spellings_differ}
use Rattle.record_match.proofs.matching.difference_at.Goals as goal

pub returns : goal.returns
returns c =
    let law = c.records_spelled_one_way.ensures in
    let said = option_copied c.args.said in
    let found = option_copied c.args.found in
    let differ : spelling_if said ≢ spelling_if found =
    spellings_differ law.spelled law.stands law.goes_on said found c.requires.said c.in_ok-said.ensures.fits c.requires.found c.in_ok-found.ensures.fits c.requires.differ in
    let is_said = c.as_slice.ensures.value ∙ c.in_ok-said.ensures.ok in
    let is_found = c.as_slice-2.ensures.value ∙ c.in_ok-found.ensures.ok in
    let at = c.common_len-at.result in
    let is_said_byte = sym (c.byte_at.ensures ∙ ap (λ (xs : List ℕ). slice_get xs at) (c.as_slice-3.ensures.value ∙ sym c.as_slice.ensures.value)) in
    let is_found_byte = sym (c.byte_at-2.ensures ∙ ap (λ (xs : List ℕ). slice_get xs at) (c.as_slice-4.ensures.value ∙ sym c.as_slice-2.ensures.value)) in
    difference_of c.args.place at said found c.as_slice.result.now c.as_slice-2.result.now c.byte_at.result c.byte_at-2.result differ is_said is_found
    c.common_len-at.ensures.same c.common_len-at.ensures.differ is_said_byte is_found_byte
