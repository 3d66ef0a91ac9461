use Rattle.std.proofs.Common.{◌≡◌, [], ◌∷◌, None, List, refl, subst, sym}
use Rattle.std.proofs.lemmas.Result.{on_ok_weaker}
use Rattle.arn_base.specs.declared.records.Record.{Record}
use Rattle.arn_model.specs.Run as input
use Rattle.session_runs.specs.Ready.{machine_of}
use Rattle.session_commands.specs.Generator.{gen_name}
use Rattle.session_commands.specs.Refusals.{boot_refusal, early_refusal}
use Rattle.session_commands.proofs.AnswerLemmas.{err-both, OnOk-never}
use Rattle.session_commands.proofs.BootLemmas.{accepts-boot, accepts-type}
use Rattle.session_commands.proofs.ChangeLemmas.{OnOk-each, err-same}
use Rattle.session_commands.proofs.QuietLemmas.{AreCommitted, committed-more, committed-one, entries-behind, halts-before, halts-behind}
use Rattle.session_commands.proofs.TellLemmas.{tells-run}
use Rattle.session_commands.proofs.generating.commit_events.Goals as goal

pub commit_event-requires-2-clause-open : goal.commit_event-requires-2-clause-open
commit_event-requires-2-clause-open g c = (c.in_ok-commit_event.ensures.carries None).stays_open

pub commit_event-requires-3-clause-open : goal.commit_event-requires-3-clause-open
commit_event-requires-3-clause-open g c = (c.in_ok-commit_event-2.ensures.carries None).stays_open

pub commit_event-requires-2-clause-accepted : goal.commit_event-requires-2-clause-accepted
commit_event-requires-2-clause-accepted g c =
    let t = tells-run c.records_tell_runs.ensures c.runs_sound.ensures c.history_laws.ensures.room c.args.machine.now c.args.store.now.entries c.requires.ready c.count_records.ensures in
    subst (λ (h : List Record). boot_refusal h gen_name ≡ None) (sym (entries-behind g.D.Disk c.args.disk.now c.commit_event.new.disk c.args.store.now c.commit_event.new.store None (machine_of c.args.store.now.entries) (input.File gen_name c.args.image.now) (c.in_ok-commit_event.ensures.carries None)))
    (accepts-boot c.args.store.now.entries t c.requires.ready.is_run gen_name c.args.image.now c.requires.accepted refl c.requires.image.fits c.requires.image.is_image)

pub commit_event-requires-3-clause-accepted : goal.commit_event-requires-3-clause-accepted
commit_event-requires-3-clause-accepted g c =
    let s = c.commit_event.new.store in
    let t = tells-run c.records_tell_runs.ensures c.runs_sound.ensures c.history_laws.ensures.room c.commit_event.new.machine s.entries c.in_ok-commit_event.ensures.ready c.count_records-2.ensures in
    let accepted = subst (λ (h : List Record). boot_refusal h gen_name ≡ None) (sym (entries-behind g.D.Disk c.args.disk.now c.commit_event.new.disk c.args.store.now s None (machine_of c.args.store.now.entries) (input.File gen_name c.args.image.now) (c.in_ok-commit_event.ensures.carries None)))
    (accepts-boot c.args.store.now.entries (tells-run c.records_tell_runs.ensures c.runs_sound.ensures c.history_laws.ensures.room c.args.machine.now c.args.store.now.entries c.requires.ready c.count_records.ensures) c.requires.ready.is_run gen_name c.args.image.now c.requires.accepted refl c.requires.image.fits c.requires.image.is_image) in
    subst (λ (h : List Record). early_refusal h ≡ None) (sym (entries-behind g.D.Disk c.commit_event.new.disk c.commit_event-2.new.disk s c.commit_event-2.new.store None (machine_of s.entries) (input.Boot gen_name) (c.in_ok-commit_event-2.ensures.carries None)))
    (accepts-type s.entries t c.in_ok-commit_event.ensures.ready.is_run gen_name accepted)

pub returns-in_err-commit_event-clause-stops : goal.returns-in_err-commit_event-clause-stops
returns-in_err-commit_event-clause-stops g c held =
    let why = c.in_err-commit_event.field-0.0 in
    err-same c.from_residual.result why _ c.from_residual.ensures.1
    (halts-before g.D.Disk c.halts_follow.ensures c.args.disk.now c.commit_event.new.disk c.args.store.now.entries held why (machine_of c.args.store.now.entries) (input.File gen_name c.args.image.now ∷ []) (input.Boot gen_name ∷ input.Typed c.args.typed.now ∷ []) (c.in_err-commit_event.ensures.stops held))

pub returns-in_err-commit_event-2-clause-stops : goal.returns-in_err-commit_event-2-clause-stops
returns-in_err-commit_event-2-clause-stops g c held =
    let why = c.in_err-commit_event-2.field-0.0 in
    let laws = c.history_laws.ensures in
    let first : AreCommitted g.D.Disk c.args.disk.now c.commit_event.new.disk c.args.store.now c.commit_event.new.store (input.File gen_name c.args.image.now ∷ []) =
    committed-one g.D.Disk c.records_append.ensures c.named_runs_again.ensures laws.append c.args.disk.now c.commit_event.new.disk c.args.store.now c.commit_event.new.store (input.File gen_name c.args.image.now) c.requires.ready.is_run c.in_ok-commit_event.ensures.carries in
    err-same c.from_residual-in_err-commit_event-2.result why _ c.from_residual-in_err-commit_event-2.ensures.1
    (halts-before g.D.Disk c.halts_follow.ensures c.args.disk.now c.commit_event-2.new.disk c.args.store.now.entries held why (machine_of c.args.store.now.entries) (input.File gen_name c.args.image.now ∷ input.Boot gen_name ∷ []) (input.Typed c.args.typed.now ∷ [])
    (halts-behind g.D.Disk c.halts_follow.ensures c.args.disk.now c.commit_event.new.disk c.commit_event-2.new.disk c.args.store.now c.commit_event.new.store held why (input.File gen_name c.args.image.now ∷ []) (input.Boot gen_name ∷ []) first (c.in_err-commit_event-2.ensures.stops held)))

pub returns-in_err-commit_event-2-clause-cause : goal.returns-in_err-commit_event-2-clause-cause
returns-in_err-commit_event-2-clause-cause g c =
    let why = c.in_err-commit_event-2.field-0.0 in
    err-same c.from_residual-in_err-commit_event-2.result why _ c.from_residual-in_err-commit_event-2.ensures.1
    (λ faults. c.causes_follow.ensures.cause why _ _ _ _ _ _ c.commit_event.ensures.later.never_falls c.commit_event-2.ensures.later.never_falls (c.causes_follow.ensures.still faults) (c.causes_follow.ensures.still faults) (c.in_err-commit_event-2.ensures.cause faults))

pub returns-clause-leads : goal.returns-clause-leads
returns-clause-leads g c =
    let laws = c.history_laws.ensures in
    let first : AreCommitted g.D.Disk c.args.disk.now c.commit_event.new.disk c.args.store.now c.commit_event.new.store (input.File gen_name c.args.image.now ∷ []) =
    committed-one g.D.Disk c.records_append.ensures c.named_runs_again.ensures laws.append c.args.disk.now c.commit_event.new.disk c.args.store.now c.commit_event.new.store (input.File gen_name c.args.image.now) c.requires.ready.is_run c.in_ok-commit_event.ensures.carries in
    let second : AreCommitted g.D.Disk c.commit_event.new.disk c.commit_event-2.new.disk c.commit_event.new.store c.commit_event-2.new.store (input.Boot gen_name ∷ []) =
    committed-one g.D.Disk c.records_append.ensures c.named_runs_again.ensures laws.append c.commit_event.new.disk c.commit_event-2.new.disk c.commit_event.new.store c.commit_event-2.new.store (input.Boot gen_name) c.in_ok-commit_event.ensures.ready.is_run c.in_ok-commit_event-2.ensures.carries in
    let both = committed-more g.D.Disk c.effects_follow.ensures.follow laws.append c.args.disk.now c.commit_event.new.disk c.commit_event-2.new.disk c.args.store.now c.commit_event.new.store c.commit_event-2.new.store (input.File gen_name c.args.image.now ∷ []) (input.Boot gen_name ∷ []) first second in
    on_ok_weaker c.commit_event-3.result (λ carries. (committed-more g.D.Disk c.effects_follow.ensures.follow laws.append c.args.disk.now c.commit_event-2.new.disk c.commit_event-3.new.disk c.args.store.now c.commit_event-2.new.store c.commit_event-3.new.store (input.File gen_name c.args.image.now ∷ input.Boot gen_name ∷ []) (input.Typed c.args.typed.now ∷ []) both
    (committed-one g.D.Disk c.records_append.ensures c.named_runs_again.ensures laws.append c.commit_event-2.new.disk c.commit_event-3.new.disk c.commit_event-2.new.store c.commit_event-3.new.store (input.Typed c.args.typed.now) c.in_ok-commit_event-2.ensures.ready.is_run carries)).leads) (OnOk-each _ c.commit_event-3.result c.commit_event-3.ensures.carries)

pub returns-clause-carries : goal.returns-clause-carries
returns-clause-carries g c held =
    let laws = c.history_laws.ensures in
    let first : AreCommitted g.D.Disk c.args.disk.now c.commit_event.new.disk c.args.store.now c.commit_event.new.store (input.File gen_name c.args.image.now ∷ []) =
    committed-one g.D.Disk c.records_append.ensures c.named_runs_again.ensures laws.append c.args.disk.now c.commit_event.new.disk c.args.store.now c.commit_event.new.store (input.File gen_name c.args.image.now) c.requires.ready.is_run c.in_ok-commit_event.ensures.carries in
    let second : AreCommitted g.D.Disk c.commit_event.new.disk c.commit_event-2.new.disk c.commit_event.new.store c.commit_event-2.new.store (input.Boot gen_name ∷ []) =
    committed-one g.D.Disk c.records_append.ensures c.named_runs_again.ensures laws.append c.commit_event.new.disk c.commit_event-2.new.disk c.commit_event.new.store c.commit_event-2.new.store (input.Boot gen_name) c.in_ok-commit_event.ensures.ready.is_run c.in_ok-commit_event-2.ensures.carries in
    let both = committed-more g.D.Disk c.effects_follow.ensures.follow laws.append c.args.disk.now c.commit_event.new.disk c.commit_event-2.new.disk c.args.store.now c.commit_event.new.store c.commit_event-2.new.store (input.File gen_name c.args.image.now ∷ []) (input.Boot gen_name ∷ []) first second in
    on_ok_weaker c.commit_event-3.result (λ carries. (committed-more g.D.Disk c.effects_follow.ensures.follow laws.append c.args.disk.now c.commit_event-2.new.disk c.commit_event-3.new.disk c.args.store.now c.commit_event-2.new.store c.commit_event-3.new.store (input.File gen_name c.args.image.now ∷ input.Boot gen_name ∷ []) (input.Typed c.args.typed.now ∷ []) both
    (committed-one g.D.Disk c.records_append.ensures c.named_runs_again.ensures laws.append c.commit_event-2.new.disk c.commit_event-3.new.disk c.commit_event-2.new.store c.commit_event-3.new.store (input.Typed c.args.typed.now) c.in_ok-commit_event-2.ensures.ready.is_run carries)).carries held) (OnOk-each _ c.commit_event-3.result c.commit_event-3.ensures.carries)

pub returns-clause-stops : goal.returns-clause-stops
returns-clause-stops g c held =
    let laws = c.history_laws.ensures in
    let first : AreCommitted g.D.Disk c.args.disk.now c.commit_event.new.disk c.args.store.now c.commit_event.new.store (input.File gen_name c.args.image.now ∷ []) =
    committed-one g.D.Disk c.records_append.ensures c.named_runs_again.ensures laws.append c.args.disk.now c.commit_event.new.disk c.args.store.now c.commit_event.new.store (input.File gen_name c.args.image.now) c.requires.ready.is_run c.in_ok-commit_event.ensures.carries in
    let second : AreCommitted g.D.Disk c.commit_event.new.disk c.commit_event-2.new.disk c.commit_event.new.store c.commit_event-2.new.store (input.Boot gen_name ∷ []) =
    committed-one g.D.Disk c.records_append.ensures c.named_runs_again.ensures laws.append c.commit_event.new.disk c.commit_event-2.new.disk c.commit_event.new.store c.commit_event-2.new.store (input.Boot gen_name) c.in_ok-commit_event.ensures.ready.is_run c.in_ok-commit_event-2.ensures.carries in
    let both = committed-more g.D.Disk c.effects_follow.ensures.follow laws.append c.args.disk.now c.commit_event.new.disk c.commit_event-2.new.disk c.args.store.now c.commit_event.new.store c.commit_event-2.new.store (input.File gen_name c.args.image.now ∷ []) (input.Boot gen_name ∷ []) first second in
    err-both c.commit_event-3.result _ _ _
    (λ why halted again. halts-behind g.D.Disk c.halts_follow.ensures c.args.disk.now c.commit_event-2.new.disk c.commit_event-3.new.disk c.args.store.now c.commit_event-2.new.store held why (input.File gen_name c.args.image.now ∷ input.Boot gen_name ∷ []) (input.Typed c.args.typed.now ∷ []) both halted)
    (c.commit_event-3.ensures.stops held) (c.commit_event-3.ensures.stops held)

pub returns-clause-cause : goal.returns-clause-cause
returns-clause-cause g c =
    let before = c.causes_follow.ensures.falls _ _ _ c.commit_event.ensures.later.never_falls c.commit_event-2.ensures.later.never_falls in
    err-both c.commit_event-3.result _ _ _
    (λ why cause again faults. c.causes_follow.ensures.cause why _ _ _ _ _ _ before c.commit_event-3.ensures.later.never_falls (c.causes_follow.ensures.still faults) (c.causes_follow.ensures.still faults) (cause faults))
    c.commit_event-3.ensures.cause c.commit_event-3.ensures.cause

pub returns-in_err-commit_event-clause-ready : goal.returns-in_err-commit_event-clause-ready
returns-in_err-commit_event-clause-ready g c = OnOk-never _ c.from_residual.result c.in_err-commit_event.field-0.0 c.from_residual.ensures.1

pub returns-in_err-commit_event-clause-leads : goal.returns-in_err-commit_event-clause-leads
returns-in_err-commit_event-clause-leads g c = OnOk-never _ c.from_residual.result c.in_err-commit_event.field-0.0 c.from_residual.ensures.1

pub returns-in_err-commit_event-clause-carries : goal.returns-in_err-commit_event-clause-carries
returns-in_err-commit_event-clause-carries g c = λ held. OnOk-never _ c.from_residual.result c.in_err-commit_event.field-0.0 c.from_residual.ensures.1

pub returns-in_err-commit_event-2-clause-ready : goal.returns-in_err-commit_event-2-clause-ready
returns-in_err-commit_event-2-clause-ready g c = OnOk-never _ c.from_residual-in_err-commit_event-2.result c.in_err-commit_event-2.field-0.0 c.from_residual-in_err-commit_event-2.ensures.1

pub returns-in_err-commit_event-2-clause-leads : goal.returns-in_err-commit_event-2-clause-leads
returns-in_err-commit_event-2-clause-leads g c = OnOk-never _ c.from_residual-in_err-commit_event-2.result c.in_err-commit_event-2.field-0.0 c.from_residual-in_err-commit_event-2.ensures.1

pub returns-in_err-commit_event-2-clause-carries : goal.returns-in_err-commit_event-2-clause-carries
returns-in_err-commit_event-2-clause-carries g c = λ held. OnOk-never _ c.from_residual-in_err-commit_event-2.result c.in_err-commit_event-2.field-0.0 c.from_residual-in_err-commit_event-2.ensures.1

pub returns-in_err-commit_event-clause-cause : goal.returns-in_err-commit_event-clause-cause
returns-in_err-commit_event-clause-cause g c = err-same c.from_residual.result c.in_err-commit_event.field-0.0 _ c.from_residual.ensures.1 c.in_err-commit_event.ensures.cause

pub returns-in_err-commit_event-clause-later : goal.returns-in_err-commit_event-clause-later
returns-in_err-commit_event-clause-later g c = c.commit_event.ensures.later

pub returns-in_err-commit_event-2-clause-later : goal.returns-in_err-commit_event-2-clause-later
returns-in_err-commit_event-2-clause-later g c = c.causes_follow.ensures.later _ _ _ c.commit_event.ensures.later c.commit_event-2.ensures.later

pub returns-clause-ready : goal.returns-clause-ready
returns-clause-ready g c = c.commit_event-3.ensures.ready

pub returns-clause-later : goal.returns-clause-later
returns-clause-later g c = c.causes_follow.ensures.later _ _ _ (c.causes_follow.ensures.later _ _ _ c.commit_event.ensures.later c.commit_event-2.ensures.later) c.commit_event-3.ensures.later

pub commit_event-requires-clause-open : goal.commit_event-requires-clause-open
commit_event-requires-clause-open g c = c.requires.«open»

pub commit_event-requires-clause-ready : goal.commit_event-requires-clause-ready
commit_event-requires-clause-ready g c = c.requires.ready

pub commit_event-requires-2-clause-ready : goal.commit_event-requires-2-clause-ready
commit_event-requires-2-clause-ready g c = c.in_ok-commit_event.ensures.ready

pub commit_event-requires-3-clause-ready : goal.commit_event-requires-3-clause-ready
commit_event-requires-3-clause-ready g c = c.in_ok-commit_event-2.ensures.ready
