use Rattle.std.proofs.Common.{◌≡◌, ◌∙◌, [], ◌∷◌, ◌++◌, ap}
use Rattle.std.proofs.lemmas.Result.{on_ok_weaker}
use Rattle.arn_base.specs.declared.machine.Member.{Member}
use Rattle.acts_model.specs.Acts.{beginning_of, start_of}
use Rattle.arn_base.specs.declared.records.Start.{Start}
use Rattle.guest_bodies.specs.Shown.{seen_in}
use Rattle.guest_states.specs.Told.{place_in}
use Rattle.guest_states.proofs.Told.{adds-at, adds-holder, at-some, member-is, registers-are}
use Rattle.guest_states.proofs.states.Telling.add.Goals as goal

pub returns : goal.returns
returns c =
    let old = c.args.self.now in
    on_ok_weaker c.push.result
    (λ more v e.
    let start : c.in_ok-start.start ≡ start_of (beginning_of v) = at-some (λ v. c.in_ok-start.start ≡ start_of (beginning_of v)) (seen_in c.args.bodies.now c.args.pid) v e c.in_ok-start.ensures.start in
    let window : c.window.result ≡ v.body.window = at-some (λ v. c.window.result ≡ v.body.window) (seen_in c.args.bodies.now c.args.pid) v e c.window.ensures in
    let cpu : c.cpu.result.now ≡ v.body.cpu = registers-are (seen_in c.args.bodies.now c.args.pid) v c.cpu.result.now e c.cpu.ensures in
    adds-holder c.args.pid v old _
    (record {
      number = c.in_ok-window.window;
      segment = c.in_ok-segment.segment;
      windows = adds-at window (ap (λ (s : Start). s.blocks) start) c.in_ok-window.ensures.adds;
      numbered = c.in_ok-window.ensures.number ∙ ap (place_in c.number.new.self) window;
      segments = c.in_ok-segment.ensures.adds v e;
      shared = c.in_ok-segment.ensures.number v e;
      members =
          more
          ∙ ap (λ (x : Member). old.members ++ x ∷ [])
          (member-is c.args.pid v c.cpu.result.now c.in_ok-start.start.slot c.in_ok-window.window c.in_ok-segment.segment cpu (ap (λ (s : Start). s.slot) start));
    }))
    c.push.ensures.ok
