use Rattle.std.proofs.Common.{◌∙◌, ap, option_map, subst, sym}
use Rattle.acts_model.specs.Deeds.{deed_as}
use Rattle.taint_group.specs.Groups.{kept_of}
use Rattle.taint_state.specs.Goes.{TakesEvent}
use Rattle.taint_state.specs.Kept.{shown}
use Rattle.taint_group.proofs.Groups.{ok-map}
use Rattle.taint_group.proofs.Happening.{has-len, takes-act, takes-dead, takes-nobody, takes-untold}
use Rattle.taint_group.proofs.group.Group.hears.Goals as goal

pub returns-clause-takes : goal.returns-clause-takes
returns-clause-takes c =
    ok-map c.release.result
    (λ same. subst (λ y. TakesEvent (shown (kept_of c.args.self.now)) c.args.event c.args.entry.now c.args.before.now y) (sym same)
    (takes-act (deed_as c.in-Some-deed_of.deed) c.in-Some.pid c.args.event c.event_len.result c.args.entry.now c.args.before.now c.args.self.now c.step.new.self
    (sym c.process_of.ensures ∙ c.in-Some.is) (sym c.deed_of.ensures ∙ ap (option_map deed_as) c.in-Some-deed_of.is) (sym c.is_live.ensures ∙ c.if-not-is_live.false) c.event_len.ensures c.in_ok-step.ensures).0) c.release.ensures.same

pub release-requires : goal.release-requires
release-requires c =
    record {
      sound =
          (takes-act (deed_as c.in-Some-deed_of.deed) c.in-Some.pid c.args.event c.event_len.result c.args.entry.now c.args.before.now c.args.self.now c.step.new.self
          (sym c.process_of.ensures ∙ c.in-Some.is) (sym c.deed_of.ensures ∙ ap (option_map deed_as) c.in-Some-deed_of.is) (sym c.is_live.ensures ∙ c.if-not-is_live.false) c.event_len.ensures c.in_ok-step.ensures).1;
    }

pub returns-in_default-clause-takes : goal.returns-in_default-clause-takes
returns-in_default-clause-takes c = takes-nobody c.args.event c.args.entry.now c.args.before.now c.args.self.now (sym c.process_of.ensures ∙ c.in_default.is)

pub returns-in_default-clause-sound : goal.returns-in_default-clause-sound
returns-in_default-clause-sound c = c.requires.sound

pub returns-in_default-deed_of-clause-takes : goal.returns-in_default-deed_of-clause-takes
returns-in_default-deed_of-clause-takes c = takes-untold c.in-Some.pid c.args.event c.args.entry.now c.args.before.now c.args.self.now (sym c.process_of.ensures ∙ c.in-Some.is) (sym c.deed_of.ensures ∙ ap (option_map deed_as) c.in_default-deed_of.is)

pub returns-in_default-deed_of-clause-sound : goal.returns-in_default-deed_of-clause-sound
returns-in_default-deed_of-clause-sound c = c.requires.sound

pub returns-then-not-is_live-clause-takes : goal.returns-then-not-is_live-clause-takes
returns-then-not-is_live-clause-takes c = takes-dead c.in-Some.pid c.args.event c.args.entry.now c.args.before.now c.args.self.now (sym c.process_of.ensures ∙ c.in-Some.is) (sym c.is_live.ensures ∙ c.if-not-is_live.true)

pub returns-then-not-is_live-clause-sound : goal.returns-then-not-is_live-clause-sound
returns-then-not-is_live-clause-sound c = c.requires.sound

pub step-requires : goal.step-requires
step-requires c =
    record {
      sound = c.requires.sound;
      len = has-len (deed_as c.in-Some-deed_of.deed) c.event_len.result c.args.entry.now c.args.before.now c.acts_have_len.ensures (sym c.deed_of.ensures ∙ ap (option_map deed_as) c.in-Some-deed_of.is) c.event_len.ensures;
    }
