-- No slot holds a device.
use Rattle.std.proofs.Common.{◌≡◌, List, IfOk, ap, subst}
use Rattle.arn_base.specs.declared.records.Record.{Record}
use Rattle.guest_devices.specs.Slots.{is_filled}
use Rattle.arn_session.specs.declared.status.Status.TheVariants as status
use Rattle.session_effects.specs.Carrying.{HoldsLog}
use Rattle.session_questions.specs.Texts.{told}
use Rattle.session_commands.specs.Given.{Given, given}
use Rattle.session_trials.specs.Sessions.{Prints}
use Rattle.session_trials.proofs.sessions.run_on.Goals as goal

pub returns-clause-done : goal.returns-clause-done
returns-clause-done g c =
    subst (λ (handed : Given). IfOk c.run_with.result (λ ended. ended.status ≡ status.Done → (history : List Record) → HoldsLog g.D.Disk c.args.disk.now history → Prints handed history c.args.script.now.text.now ended.sink.held))
    (ap (λ slots. given told (is_filled slots)) c.new.ensures.items) c.run_with.ensures.done
