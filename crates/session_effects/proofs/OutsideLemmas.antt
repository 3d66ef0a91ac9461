-- What is lent goes on over calls that follow one another.
use Rattle.std.proofs.Common.{◌≡◌, ◌∙◌, ℕ, refl}
use Rattle.arn_base.specs.declared.disk.Disk.{Ghosts}
use Rattle.session_effects.specs.Outside.{GoesOnOutside, GoingsFollow, IsSame}
use Rattle.session_effects.specs.declared.outside.Outside.{Outside}
use Rattle.session_effects.proofs.FaultLemmas.{GoesOn-append, IsCause-after, NeverFalls-append, NeverFalls-same}

module _ {C A D K L : Type 0} where
  IsSame-same : (now : Outside C A D K L) → IsSame now now
  IsSame-same now = record { chooser = refl; answers = refl; disk = refl; sink = refl; steps = refl; text = refl }

  IsSame-append : (old mid new : Outside C A D K L) → IsSame old mid → IsSame mid new → IsSame old new
  IsSame-append old mid new p q = record {
    chooser = q.chooser ∙ p.chooser;
    answers = q.answers ∙ p.answers;
    disk = q.disk ∙ p.disk;
    sink = q.sink ∙ p.sink;
    steps = q.steps ∙ p.steps;
    text = q.text ∙ p.text;
  }

  module _ (d : Ghosts D) (faults : K → ℕ) where
    pub goings : GoingsFollow C A D K L d faults
    goings = record {
      still = λ now. record {
        later = record { tells = refl; never_falls = NeverFalls-same (d.faults now.disk.now) };
        faults = NeverFalls-same (faults now.sink.now);
        same = IsSame-same now;
      };
      later = λ old mid new p q. record {
        later = GoesOn-append d.image d.faults old.disk.now mid.disk.now new.disk.now p.later q.later;
        faults = NeverFalls-append _ _ _ p.faults q.faults;
        same = IsSame-append old mid new p.same q.same;
      };
      cause = λ why old mid new p q is. IsCause-after why _ _ _ _ _ _ p.later.never_falls q.later.never_falls p.faults q.faults is;
    }
