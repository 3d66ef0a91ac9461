use Rattle.std.proofs.Common.{subst, sym, OnOk}
use Rattle.lineage_join.specs.declared.wait.Kind.{Kind}
use Rattle.lineage_join.specs.Waits.{HasPairs, own_bytes}
use Rattle.lineage_join.proofs.step.keep_source.Goals as goal

pub returns-in-Received : goal.returns-in-Received
returns-in-Received c =
    subst (λ (k : Kind). OnOk c.keep.result (HasPairs c.args.found.now c.args.wait.byte (own_bytes c.args.wait.event c.args.len c.args.wait.at k) c.keep.new.found)) (sym c.in-Received.is) c.keep.ensures

pub returns-in-Byte : goal.returns-in-Byte
returns-in-Byte c =
    subst (λ (k : Kind). OnOk c.keep-in-Byte.result (HasPairs c.args.found.now c.args.wait.byte (own_bytes c.args.wait.event c.args.len c.args.wait.at k) c.keep-in-Byte.new.found)) (sym c.in-Byte.is) c.keep-in-Byte.ensures
