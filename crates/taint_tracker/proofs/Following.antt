use Rattle.std.proofs.Common.{◌≡◌, Bool, [], true, false, ap, subst, ◌∙◌}
use Rattle.taint_spans.specs.Numbered.{IsSet}
use Rattle.taint_group.specs.declared.group.Group.{Group}
use Rattle.taint_group.specs.Groups.{IsSoundGroup, kept_of}
use Rattle.taint_state.specs.Kept.{Kept}
use Rattle.taint_tracker.specs.Followed.{IsLost, kept_unless}

-- what is kept of a tracker that isn't lost is what is kept of its group
pub kept-now : (lost : Bool) (g : Group) (now : Kept) → lost ≡ false → kept_unless lost g ≡ now → kept_of g ≡ now
kept-now true g now e same = absurd (cc)
kept-now false g now e same = same

-- where nothing is kept, there is no set
no-set : IsSet (record { sets = record { kept = []; runs = [] }; spans = [] }) 0 → ⊥
unfolding IsSet
no-set is = cc

-- what is kept of a group has the empty set, so the tracker isn't lost
pub not-lost : (lost : Bool) (g : Group) (now : Kept) → lost ≡ false → (lost ≡ false → IsSoundGroup g) → kept_unless lost g ≡ now → IsLost now → ⊥
not-lost lost g now e sound same is = no-set (subst (λ sets. IsSet sets 0) (ap (λ (k : Kept). k.sets) (kept-now lost g now e same ∙ is)) (sound e).kept.zero)
