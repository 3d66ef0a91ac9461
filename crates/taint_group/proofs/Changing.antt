-- Tables in which one member changes.
use Rattle.std.proofs.Common.{◌≡◌, ◌≢◌, ◌≤◌, length, arith, ℕ, zero, suc, List, [], ◌∷◌, map, slice_set, Option, Some, option_map, refl, sym, subst, ap, ◌∙◌}
use Rattle.parts_model.specs.Numbered.{nth}
use Rattle.taint_members.specs.declared.member.MemberSets.{MemberSets}
use Rattle.taint_steps.specs.Table.{Tables}
use Rattle.rv64_model.specs.declared.linkage.Linkage.{Linkage}
use Rattle.taint_group.proofs.Changes.{Changes, TablesBecome}
use Rattle.taint_state.specs.Events.{Hears}
use Rattle.taint_state.specs.Kept.{KeptHeard}
use Rattle.taint_state.specs.RunsShow.{kept_member}
use Rattle.taint_group.specs.Tables.{AreSoundTables}
use Rattle.taint_group.proofs.Keyed.{HoldsSame, keyed-from, nth-map, same-but}
use Rattle.taint_group.proofs.Tables.{nth-other}

pub nth-put : {X : Type 0} (xs : List (Option X)) (k : ℕ) (x : X) (y : Option X) → nth xs k ≡ Some x → nth (slice_set xs k y) k ≡ y
nth-put [] k x y e = absurd (cc)
nth-put (z ∷ xs) zero x y e = refl
nth-put (z ∷ xs) (suc k) x y e = nth-put xs k x y e

-- a member as it is kept, where memories are the same
pub kept-same : (x y : Tables) (p : ℕ) (o : Option MemberSets) → y.memories ≡ x.memories → nth y.members p ≡ o
    → nth (map (option_map (kept_member y.memories)) y.members) p ≡ option_map (kept_member x.memories) o
kept-same x y p o e is =
    nth-map (kept_member y.memories) y.members p ∙ (ap (option_map (kept_member y.memories)) is ∙ ap (λ s. option_map (kept_member s) o) e)

pub tables-change : (linkage : Linkage) (heard after : List KeptHeard) (pid : ℕ) (old : MemberSets) (new : Option MemberSets) (event : KeptHeard) (x y : Tables)
    → AreSoundTables linkage heard x → Hears event heard after → Changes pid old new x y → TablesBecome linkage heard after pid old new event x y
tables-change linkage heard after pid old new event x y sound hears step = record {
  becomes = record {
    was = kept-same x x pid (Some old) refl step.was;
    stays = record { linkage = refl; sets = step.sets };
    members = record {
      one = kept-same x y pid new step.memories one;
      others = λ p ne. kept-same x y p (nth x.members p) step.memories (others p ne) ∙ sym (nth-map (kept_member x.memories) x.members p);
    };
    heard = hears;
  };
  keyed = keyed-from x y sound.keyed (subst (λ l. length x.memories ≤ length l) (sym step.memories) (omega arith)) (same-but x y pid (subst (λ o. HoldsSame o (nth x.members pid)) (sym one) (subst (HoldsSame new) (sym step.was) step.holds)) others);
} where
  one : nth y.members pid ≡ new
  one = ap (λ l. nth l pid) step.members ∙ nth-put x.members pid old new step.was

  others : (p : ℕ) → p ≢ pid → nth y.members p ≡ nth x.members p
  others p ne = ap (λ l. nth l p) step.members ∙ nth-other x.members pid p new ne
