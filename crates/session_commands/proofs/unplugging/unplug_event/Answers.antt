use Rattle.std.proofs.Common.{[], ◌∷◌, ◌∙◌, arith}
use Rattle.arn_model.specs.Run as input
use Rattle.session_runs.specs.Ready.{machine_of}
use Rattle.session_commands.proofs.ReadyLemmas.{ready-recorded, recorded-alone, room-for}
use Rattle.session_commands.proofs.TellLemmas.{accepted-unplug, device-unplugged, is-told, unplug-recorded}
use Rattle.session_commands.proofs.unplugging.unplug_event.Goals as goal

pub overflow_cast-device : goal.overflow_cast-device
overflow_cast-device g c = omega (arith, (accepted-unplug (g.A.Plugs.filled c.args.answers.now) c.args.store.now.entries c.args.device c.requires.accepted).short)

pub unplug_from-requires : goal.unplug_from-requires
unplug_from-requires g c = record {
  room = room-for c.history_laws.ensures.room c.args.machine.now c.args.store.now.entries 1 0 c.requires.ready c.count_records.ensures (omega arith) (omega arith);
}

pub no_memory-requires : goal.no_memory-requires
no_memory-requires g c =
    let told = is-told c.records_tell_runs.ensures c.runs_sound.ensures c.history_laws.ensures.room c.args.machine.now c.args.store.now.entries c.requires.ready c.count_records.ensures in
    device-unplugged c.unplug_from.result c.in-Err.error c.args.machine.now (g.A.Plugs.filled c.args.answers.now) c.args.store.now.entries c.args.device told c.requires.accepted c.in-Err.is c.unplug_from.ensures.not_booted.0 c.unplug_from.ensures.no_device.0 c.unplug_from.ensures.only

pub returns-in-Ok-clause-ready : goal.returns-in-Ok-clause-ready
returns-in-Ok-clause-ready g c =
    let laws = c.history_laws.ensures in
    ready-recorded laws.named laws.records laws.runs laws.are_run c.args.machine.now c.unplug_from.new.self c.args.store.now.entries (input.Unplug c.args.device ∷ []) c.new-entries.result.items c.unplug_from.new.out.items c.requires.ready c.in-Ok.ensures.runs c.new-entries.ensures.items

pub returns-in-Ok-clause-number : goal.returns-in-Ok-clause-number
returns-in-Ok-clause-number g c = c.in-Ok.ensures.event ∙ c.requires.ready.is_after.leads.events

pub returns-in-Ok-clause-recorded : goal.returns-in-Ok-clause-recorded
returns-in-Ok-clause-recorded g c =
    let told = is-told c.records_tell_runs.ensures c.runs_sound.ensures c.history_laws.ensures.room c.args.machine.now c.args.store.now.entries c.requires.ready c.count_records.ensures in
    recorded-alone c.args.machine.now c.unplug_from.new.self c.args.store.now.entries (input.Unplug c.args.device ∷ []) c.new-entries.result.items c.unplug_from.new.out.items c.new-entries.ensures.items (c.in-Ok.ensures.runs (machine_of c.args.store.now.entries) c.requires.ready.is_after.leads)
    ∙ unplug-recorded c.args.machine.now (g.A.Plugs.filled c.args.answers.now) c.args.store.now.entries c.args.device c.requires.ready told c.requires.accepted
