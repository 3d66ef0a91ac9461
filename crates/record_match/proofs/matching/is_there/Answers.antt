use Rattle.std.proofs.Common.{◌≡◌, Some, option_copied, ap, ◌∙◌}
use Rattle.std.specs.Bool.{Decides}
use Rattle.std.proofs.lemmas.Bool.Decides.{Decides-at, Decides-like}
use Rattle.arn_base.specs.declared.records.Record.{Record}
use Rattle.record_match.proofs.SameRecord.{record-Decides}
use Rattle.record_match.proofs.matching.is_there.Goals as goal

pub returns-in-Some : goal.returns-in-Some
returns-in-Some c =
    let same : Decides c.eq.result (c.in-Some.there.now ≡ c.args.entry.now) = Decides-at c.eq.result _ c.eq.ensures (record-Decides c.in-Some.there.now c.args.entry.now) in
    let is : option_copied c.args.there ≡ Some c.in-Some.there.now = ap option_copied c.in-Some.is in
    Decides-like c.eq.result (λ e. is ∙ ap (λ (r : Record). Some r) e) (λ e. cc) same
