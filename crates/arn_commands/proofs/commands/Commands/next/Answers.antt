-- A line, and the rest of the block that it opens.
use Rattle.std.proofs.Common.{◌≡◌, ◌∙◌, Err, sym}
use Rattle.std.proofs.lemmas.Result.{IfErr-weaker, IfOk-weaker, err_from_is_err_and}
use Rattle.arn_commands.proofs.BlockLemmas.{opened-name, opened-none}
use Rattle.arn_commands.proofs.ReadLemmas.{ReadsMore-line, ReadsNext-block, ReadsNext-last, ReadsPart-block, ReadsPart-line, UsesSome-more}
use Rattle.arn_commands.proofs.ResultLemmas.{IfErr-is}
use Rattle.arn_commands.proofs.commands.Commands.next.Goals as goal

pub returns-in_err-has_feed-clause-part : goal.returns-in_err-has_feed-clause-part
returns-in_err-has_feed-clause-part g c =
    let p = err_from_is_err_and c.from_residual.result c.from_residual.ensures.1 in
    let is : c.from_residual.result ≡ Err c.in_err-has_feed.field-0.0 = cc (p.1, p.2) in
    let part = rw c.self.view_is at c.in_err-has_feed.ensures.part in
    IfErr-is c.from_residual.result _ c.in_err-has_feed.field-0.0 is (λ other. ReadsPart-line _ _ _ _ _ (part other))

pub returns-then-not-has_feed-clause-next : goal.returns-then-not-has_feed-clause-next
returns-then-not-has_feed-clause-next g c =
    let read = rw (c.if-not-has_feed.true, c.self.view_is) at c.in_ok-has_feed.ensures.line in
    let ends = rw c.as_slice-line.ensures.value at c.in_ok-last.ensures.next in
    ReadsNext-last _ _ _ _ _ _ read (c.in_ok-has_feed.ensures.end c.if-not-has_feed.true) ends

pub returns-in_ok-command-in-None-clause-next : goal.returns-in_ok-command-in-None-clause-next
returns-in_ok-command-in-None-clause-next g c =
    let read = rw (c.if-not-has_feed.false, c.self.view_is) at c.in_ok-has_feed.ensures.line in
    let opened = rw c.as_slice-line.ensures.value at c.in_ok-block.ensures in
    let asks = rw c.as_slice-line.ensures.value at c.in_ok-command-in-None.ensures.asks in
    ReadsMore-line _ _ _ _ _ _ read (λ line kept. opened-none line (sym c.in-None.is ∙ opened line kept)) asks

pub rest_of-requires-clause-fresh : goal.rest_of-requires-clause-fresh
rest_of-requires-clause-fresh g c =
    let read = c.in_ok-has_feed.ensures.line in
    let opened = rw c.as_slice-line.ensures.value at c.in_ok-block.ensures in
    (opened-name read.line c.in-Some.block (sym c.in-Some.is ∙ opened read.line read.is_kept)).1

pub returns-in-Some-clause-next : goal.returns-in-Some-clause-next
returns-in-Some-clause-next g c =
    let read = rw (c.if-not-has_feed.false, c.self.view_is) at c.in_ok-has_feed.ensures.line in
    let opened = rw c.as_slice-line.ensures.value at c.in_ok-block.ensures in
    let block = c.in-Some.block in
    IfOk-weaker c.rest_of.result _ _ (λ next rest. ReadsNext-block block.name next _ _ _ _ _ _ _ read (λ line kept. (opened-name line block (sym c.in-Some.is ∙ opened line kept)).0) rest) c.rest_of.ensures.block

pub returns-in-Some-clause-part : goal.returns-in-Some-clause-part
returns-in-Some-clause-part g c =
    let read = rw (c.if-not-has_feed.false, c.self.view_is) at c.in_ok-has_feed.ensures.line in
    let opened = rw c.as_slice-line.ensures.value at c.in_ok-block.ensures in
    let block = c.in-Some.block in
    IfErr-weaker c.rest_of.result _ _ (λ e rest other. ReadsPart-block block.name _ _ _ _ _ _ _ read (λ line kept. (opened-name line block (sym c.in-Some.is ∙ opened line kept)).0) (rest other)) c.rest_of.ensures.part

pub returns-in-Some-clause-used : goal.returns-in-Some-clause-used
returns-in-Some-clause-used g c =
    let read = rw c.self.view_is at c.in_ok-has_feed.ensures.line in
    UsesSome-more _ _ _ _ _ _ _ _ read c.rest_of.ensures.used
