use Rattle.std.proofs.Common.{◌-◌, ◌∙◌, Bool, if◌then◌else◌, None, Some, get_or, sym, ap, arith}
use Rattle.guest_files.specs.declared.runs.Run.{Run}
use Rattle.guest_files.specs.Runs.{from_place}
use Rattle.guest_files.proofs.Counts.{AreRuns-sorted, count_until-some}
use Rattle.guest_files.proofs.RunForms.{left_behind-index}
use Rattle.guest_files.proofs.runs.left_behind.Goals as goal

pub count_until-requires : goal.count_until-requires
count_until-requires c = AreRuns-sorted 0 c.args.runs.now c.args.end c.requires

pub overflow_sub-run : goal.overflow_sub-run
overflow_sub-run c =
    omega (arith, c.count_until.ensures.count, count_until-some c.args.place c.args.end c.args.runs.now c.requires (omega (arith, c.if-place-end.false)))

pub returns-then-is_of_write : goal.returns-then-is_of_write
returns-then-is_of_write c =
    let run : Run = get_or c.args.runs.now (c.count_until.result - 1) (record { start = 0; base = 0; event = 0 }) in
    ap (λ (b : Bool). if b then None else Some (from_place run c.args.place)) (sym c.if-is_of_write.true ∙ c.is_of_write.ensures)
    ∙ left_behind-index c.args.runs.now c.args.new c.args.place c.args.end c.count_until.result (record { start = 0; base = 0; event = 0 }) c.requires (omega (arith, c.if-place-end.false)) c.count_until.ensures.count

pub returns-else-is_of_write : goal.returns-else-is_of_write
returns-else-is_of_write c =
    let run : Run = get_or c.args.runs.now (c.count_until.result - 1) (record { start = 0; base = 0; event = 0 }) in
    ap (λ (r : Run). Some r) c.from_place.ensures
    ∙ ap (λ (b : Bool). if b then None else Some (from_place run c.args.place)) (sym c.if-is_of_write.false ∙ c.is_of_write.ensures)
    ∙ left_behind-index c.args.runs.now c.args.new c.args.place c.args.end c.count_until.result (record { start = 0; base = 0; event = 0 }) c.requires (omega (arith, c.if-place-end.false)) c.count_until.ensures.count
