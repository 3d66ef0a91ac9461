use Rattle.std.proofs.Common.{[], ◌∷◌, arith}
use Rattle.arn_model.specs.Run as input
use Rattle.session_commands.proofs.ReadyLemmas.{event-made, ready-recorded, room-for}
use Rattle.session_commands.proofs.TellLemmas.{boot-begun, is-told}
use Rattle.session_commands.proofs.events.boot_event.Goals as goal

pub boot-requires-clause-room : goal.boot-requires-clause-room
boot-requires-clause-room c =
    room-for c.history_laws.ensures.room c.args.machine.now c.args.store.now.entries 1 0 c.requires.ready c.count_records.ensures (omega arith) (omega arith)

pub no_memory-requires : goal.no_memory-requires
no_memory-requires c =
    let told = is-told c.records_tell_runs.ensures c.runs_sound.ensures c.history_laws.ensures.room c.args.machine.now c.args.store.now.entries c.requires.ready c.count_records.ensures in
    boot-begun c.boot.result c.in-Err.error c.args.machine.now c.args.store.now.entries c.args.name.now told c.requires.accepted c.in-Err.is c.boot.ensures.booted.0 c.boot.ensures.no_name (λ is. let h = c.boot.ensures.not_image is in record { file = h.file; held = h.held; named = h.named; bytes = h.bytes; no_image = h.no_image }) c.boot.ensures.only

pub returns-in-Ok-clause-ready : goal.returns-in-Ok-clause-ready
returns-in-Ok-clause-ready c =
    let laws = c.history_laws.ensures in
    ready-recorded laws.named laws.records laws.runs laws.are_run c.args.machine.now c.boot.new.self c.args.store.now.entries (input.Boot c.args.name.now ∷ []) c.new-entries.result.items c.boot.new.out.items c.requires.ready c.in-Ok.ensures.runs c.new-entries.ensures.items

pub returns-in-Ok-clause-made : goal.returns-in-Ok-clause-made
returns-in-Ok-clause-made c =
    event-made c.args.machine.now c.boot.new.self c.args.store.now.entries (input.Boot c.args.name.now) c.new-entries.result.items (record { number = c.in-Ok.number; entries = c.boot.new.out }) c.requires.ready c.in-Ok.ensures.runs c.new-entries.ensures.items c.in-Ok.ensures.event
