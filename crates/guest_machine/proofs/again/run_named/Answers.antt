use Rattle.std.proofs.Common.{◌∙◌, ℕ, List, ap, arith, sym}
use Rattle.arn_base.specs.declared.records.Record.TheVariants as entry
use Rattle.guest_machine.proofs.AgainLemmas.{Runs-named, Runs-unnamed, steps-of-slice, unnamed}
use Rattle.guest_machine.proofs.again.run_named.Goals as goal

pub returns-in-File-clause-runs : goal.returns-in-File-clause-runs
returns-in-File-clause-runs g c =
    Runs-named c.add_file.result c.args.entry.now _ c.args.behind.now c.args.machine.now c.add_file.new.machine c.args.out.now.items c.add_file.new.out.items (c.in-File.is ∙ ap (λ (name : List ℕ). entry.File name c.in-File.bytes) (sym c.as_slice.ensures) ∙ ap (entry.File c.as_slice.result.now) (sym c.as_slice-in-File.ensures)) c.add_file.ensures.runs

pub returns-in-File-clause-spelled : goal.returns-in-File-clause-spelled
returns-in-File-clause-spelled g c = c.add_file.ensures.spelled

pub returns-in-File-clause-steps : goal.returns-in-File-clause-steps
returns-in-File-clause-steps g c m stands = omega arith

pub returns-in-Boot-clause-runs : goal.returns-in-Boot-clause-runs
returns-in-Boot-clause-runs g c =
    Runs-named c.boot.result c.args.entry.now _ c.args.behind.now c.args.machine.now c.boot.new.machine c.args.out.now.items c.boot.new.out.items (c.in-Boot.is ∙ ap (λ (name : List ℕ). entry.Boot name c.in-Boot.give) (sym c.as_slice-in-Boot.ensures)) c.boot.ensures.runs

pub returns-in-Boot-clause-spelled : goal.returns-in-Boot-clause-spelled
returns-in-Boot-clause-spelled g c = c.boot.ensures.spelled

pub returns-in-Boot-clause-steps : goal.returns-in-Boot-clause-steps
returns-in-Boot-clause-steps g c m stands = omega arith

pub returns-in-Typed-clause-runs : goal.returns-in-Typed-clause-runs
returns-in-Typed-clause-runs g c =
    Runs-named c.type_in.result c.args.entry.now _ c.args.behind.now c.args.machine.now c.type_in.new.machine c.args.out.now.items c.type_in.new.out.items (c.in-Typed.is ∙ ap entry.Typed (sym c.as_slice-in-Typed.ensures)) c.type_in.ensures.runs

pub returns-in-Typed-clause-spelled : goal.returns-in-Typed-clause-spelled
returns-in-Typed-clause-spelled g c = c.type_in.ensures.spelled

pub returns-in-Typed-clause-steps : goal.returns-in-Typed-clause-steps
returns-in-Typed-clause-steps g c m stands = omega arith

pub returns-in-Unplug-clause-runs : goal.returns-in-Unplug-clause-runs
returns-in-Unplug-clause-runs g c =
    Runs-named c.unplug.result c.args.entry.now _ c.args.behind.now c.args.machine.now c.unplug.new.machine c.args.out.now.items c.unplug.new.out.items (c.in-Unplug.is) c.unplug.ensures.runs

pub returns-in-Unplug-clause-spelled : goal.returns-in-Unplug-clause-spelled
returns-in-Unplug-clause-spelled g c = c.unplug.ensures.spelled

pub returns-in-Unplug-clause-steps : goal.returns-in-Unplug-clause-steps
returns-in-Unplug-clause-steps g c m stands = omega arith

pub returns-in-Slice-clause-runs : goal.returns-in-Slice-clause-runs
returns-in-Slice-clause-runs g c =
    Runs-named c.run_slice.result c.args.entry.now _ c.args.behind.now c.args.machine.now c.run_slice.new.machine c.args.out.now.items c.run_slice.new.out.items (c.in-Slice.is) c.run_slice.ensures.runs

pub returns-in-Slice-clause-spelled : goal.returns-in-Slice-clause-spelled
returns-in-Slice-clause-spelled g c = c.run_slice.ensures.spelled

pub returns-in-Slice-clause-steps : goal.returns-in-Slice-clause-steps
returns-in-Slice-clause-steps g c m stands = steps-of-slice m c.args.entry.now c.in-Slice.pid c.in-Slice.ran c.args.behind.now c.args.steps.now c.run_slice.new.steps c.in-Slice.is (c.run_slice.ensures.steps m stands)

pub returns-in-Signal-clause-runs : goal.returns-in-Signal-clause-runs
returns-in-Signal-clause-runs g c m stands = Runs-unnamed m c.args.entry.now c.args.behind.now c.args.machine.now c.args.out.now.items (unnamed c.args.entry.now c.args.behind.now c.in-Signal.is) stands

pub returns-in-Signal-clause-steps : goal.returns-in-Signal-clause-steps
returns-in-Signal-clause-steps g c m stands = omega arith

pub returns-in-Signal-clause-spelled : goal.returns-in-Signal-clause-spelled
returns-in-Signal-clause-spelled g c all = all
