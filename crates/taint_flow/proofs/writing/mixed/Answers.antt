use Rattle.std.proofs.Common.{◌≡◌, ◌<◌, slice_index, refl, sym, subst, ◌∙◌, rules}
use Rattle.std.proofs.lemmas.List.{length-set}
use Rattle.rv64_model.specs.Carries.{operands}
use Rattle.taint_spans.specs.Numbered.{StandAsBefore}
use Rattle.taint_flow.specs.Gathered.{number_of}
use Rattle.taint_flow.proofs.Bytes.{before-refl, before-trans}
use Rattle.taint_flow.proofs.Operands.{Knows, first-byte, known-same, one-more, takes-named, takes-still}
use Rattle.taint_flow.proofs.writing.mixed.Goals as goal
use Rattle.taint_flow.proofs.writing.mixed.Goals.{then-ne+in_ok-set-2, else-ne}

pub loop-byte-init : goal.loop-byte-init
loop-byte-init c =
    let number = number_of c.args.first.now c.args.second.now c.args.loaded.now in
    let table = operands c.args.linkage c.args.instr in
    let known : Knows c.args.sets.now c.gather.new.sets number c.inputs-masks.result c.in_ok-set.set =
    λ taken exact. takes-named c.args.sets.now c.args.sets.now c.gather.new.sets c.args.first.now c.args.second.now c.args.loaded.now c.inputs-masks.result taken c.in_ok-set.set
    c.requires.first c.requires.second c.requires.loaded (before-refl c.args.sets.now) exact c.in_ok-set.ensures.gathers in
    record {
      len = refl;
      known = known;
      bytes = first-byte c.args.sets.now c.gather.new.sets number table c.in_ok-set.set (known (table 0) c.inputs-masks.ensures.exact);
      before = c.gather.ensures.before;
    }

pub loop-byte-preserved : goal.loop-byte-preserved
loop-byte-preserved c =
    let old = c.args.sets.now in
    let number = number_of c.args.first.now c.args.second.now c.args.loaded.now in
    let table = operands c.args.linkage c.args.instr in
    let i = c.loop-byte.byte in
    let known = c.loop-byte.invariant.known in
    let step : StandAsBefore c.loop-byte.sets c.if-ne.sets × Knows old c.if-ne.sets number c.inputs-next.result c.if-ne.set × (c.if-ne.masks ≡ c.inputs-next.result) = elim c.if-ne.branch [
      | then-ne+in_ok-set-2 w ↦ (
        subst (StandAsBefore c.loop-byte.sets) (sym w.sets-is) w.gather-then-ne.ensures.before,
        known-same old c.if-ne.sets _ number c.inputs-next.result c.if-ne.set _ w.sets-is w.set-is
            (λ taken exact. takes-named old c.loop-byte.sets w.gather-then-ne.new.sets c.args.first.now c.args.second.now c.args.loaded.now c.inputs-next.result taken w.in_ok-set-2.set
            c.requires.first c.requires.second c.requires.loaded c.loop-byte.invariant.before exact w.in_ok-set-2.ensures.gathers),
        w.masks-is,
      )
      | else-ne w ↦
          let same : c.loop-byte.masks ≡ c.inputs-next.result = search rules in (
            subst (StandAsBefore c.loop-byte.sets) (sym w.sets-is) (before-refl c.loop-byte.sets),
            known-same old c.if-ne.sets _ number c.inputs-next.result c.if-ne.set _ w.sets-is w.set-is (subst (λ m. Knows old c.loop-byte.sets number m c.loop-byte.set) same known),
            w.masks-is ∙ same,
          )
    ] in
    record {
      len = length-set c.loop-byte.numbers i c.if-ne.set ∙ c.loop-byte.invariant.len;
      known = subst (λ m. Knows old c.if-ne.sets number m c.if-ne.set) (sym step.2) step.1;
      bytes = one-more old c.if-ne.sets number table c.loop-byte.numbers i c.if-ne.set
          (subst (λ n. i < n) (sym c.loop-byte.invariant.len) c.loop-byte-test.true)
          (λ k h. takes-still old c.loop-byte.sets c.if-ne.sets number (table k) (slice_index c.loop-byte.numbers k) step.0 (c.loop-byte.invariant.bytes k h))
          (step.1 (table i) c.inputs-next.ensures.exact);
      before = before-trans old c.loop-byte.sets c.if-ne.sets c.loop-byte.invariant.before step.0;
    }
