use Rattle.std.proofs.Common.{◌≡◌, ◌≢◌, ◌++◌, Bool, false, Some, IsTrue, option_copied, slice_get, take, ◌∙◌, sym, subst, Option}
use Rattle.arn_base.specs.declared.records.Record.{Record}
use Rattle.arn_base.specs.declared.records.Differs.{Differs}
use Rattle.record_match.specs.Matching.{IsDifferenceAt, IsMismatch}
use Rattle.record_match.proofs.Compared.{IsMatched-more, IsMismatch-here}
use Rattle.record_match.proofs.matching.match_records.Goals as goal

pub returns-then-not-is_there-clause-differs : goal.returns-then-not-is_there-clause-differs
returns-then-not-is_there-clause-differs c d is_error =
    let entries = c.args.entries.now in
    let found = c.args.found.now in
    let next = c.loop-entry.next in
    let entry = c.entry-item.result in
    let same : c.in_ok-differs.differs ≡ d = cc in
    let stands : option_copied c.record_at-said.result ≡ slice_get entries next = c.record_at-said.ensures.there in
    let other : slice_get entries next ≢ Some entry = λ there. is_other c.is_there.result (c.is_there.ensures.1 (stands ∙ there)) c.if-not-is_there.true in
    let at : IsDifferenceAt next (slice_get entries next) (Some entry) c.in_ok-differs.differs =
    subst (λ (o : Option Record). IsDifferenceAt next o (Some entry) c.in_ok-differs.differs) stands c.in_ok-differs.ensures in
    subst (λ (x : Differs). IsMismatch entries (take c.args.matched entries ++ found) x) same
    (IsMismatch-here entries found c.args.matched c.loop-entry.entry-index next entry c.in_ok-differs.differs c.requires.within c.loop-entry.invariant c.loop-entry-test.true c.entry-item.is other at)
  where
    is_other : (b : Bool) → IsTrue b → b ≡ false → ⊥
    is_other b is isnt = cc

pub loop-entry-preserved : goal.loop-entry-preserved
loop-entry-preserved c =
    let there : slice_get c.args.entries.now c.loop-entry.next ≡ Some c.entry-item.result = sym c.record_at-said.ensures.there ∙ c.is_there.ensures.0 c.if-not-is_there.false in
    IsMatched-more c.args.entries.now c.args.found.now c.args.matched c.loop-entry.entry-index c.loop-entry.next c.entry-item.result c.loop-entry.invariant c.loop-entry-test.true c.entry-item.is there
