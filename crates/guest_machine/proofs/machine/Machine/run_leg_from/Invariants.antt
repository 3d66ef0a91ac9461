use Rattle.std.proofs.Common.{◌-◌, All}
use Rattle.result_log.specs.Spelling.{HasSpelling}
use Rattle.guest_legs.specs.Legs.{fresh}
use Rattle.guest_machine.specs.Recorded.{OfEach}
use Rattle.guest_legs.specs.declared.leg.TheConstants.{MOST_LEG}
use Rattle.guest_machine.proofs.LegLemmas.{Counts, SoFar}
use Rattle.guest_machine.proofs.machine.Machine.run_leg_from.Given as goal

abbrev pub invariant-loop-end : goal.invariant-loop-end
invariant-loop-end g l =
    record {
      so_far : OfEach l.initial.self.kernel (λ m. SoFar g.A.Answers.answers (fresh m l.budget) l.initial.self l.self (g.C.Chooser.choices l.initial.chooser) (g.C.Chooser.choices l.chooser) l.initial.answers l.answers l.initial.out.items l.out.items l.initial.steps l.steps l.left l.spelled);
      counts : Counts l.initial.self l.self l.budget l.left l.spelled;
      spelled : All HasSpelling l.initial.out.items → All HasSpelling l.out.items;
    }

abbrev pub decreases-loop-end : goal.decreases-loop-end
decreases-loop-end g l = MOST_LEG - l.spelled
