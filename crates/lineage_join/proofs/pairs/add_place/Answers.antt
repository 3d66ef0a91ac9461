use Rattle.std.proofs.Common.{subst, sym, OnOk}
use Rattle.lineage_join.specs.declared.demand.Place.{Place}
use Rattle.lineage_join.specs.Waits.{HasAlso, kind_of, number_of}
use Rattle.lineage_join.proofs.pairs.add_place.Goals as goal

pub returns-in-Byte-clause-ok : goal.returns-in-Byte-clause-ok
returns-in-Byte-clause-ok c =
    subst (λ (p : Place). OnOk c.add.result (HasAlso c.args.waiting.now (record { event = c.args.event; kind = kind_of p; at = number_of p; byte = c.args.byte }) c.add.new.self)) (sym c.in-Byte.is) c.add.ensures.ok

pub returns-in-Start-clause-ok : goal.returns-in-Start-clause-ok
returns-in-Start-clause-ok c =
    subst (λ (p : Place). OnOk c.add-in-Start.result (HasAlso c.args.waiting.now (record { event = c.args.event; kind = kind_of p; at = number_of p; byte = c.args.byte }) c.add-in-Start.new.self)) (sym c.in-Start.is) c.add-in-Start.ensures.ok
