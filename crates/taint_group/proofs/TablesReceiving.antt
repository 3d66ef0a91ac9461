-- Tables in which a member receives bytes.
use Rattle.std.proofs.Common.{◌≡◌, ◌≢◌, ℕ, ◌≤◌, List, length, Some, option_map, refl, sym, subst, ap, ◌∙◌, arith}
use Rattle.parts_model.specs.Numbered.{nth}
use Rattle.taint_members.specs.declared.member.Held.{Held}
use Rattle.taint_members.specs.declared.member.MemberSets.{MemberSets}
use Rattle.taint_steps.specs.Table.{Tables}
use Rattle.taint_state.specs.Events.{Hears}
use Rattle.taint_state.specs.RunsShow.{kept_member}
use Rattle.taint_state.specs.Kept.{KeptHeard}
use Rattle.rv64_model.specs.declared.linkage.Linkage.{Linkage}
use Rattle.taint_group.specs.Tables.{AreKeyed, AreSoundTables, held_of}
use Rattle.taint_group.specs.declared.memories.MemoryKind.{MemoryKind}
use Rattle.taint_group.specs.declared.memories.MemoryKind.TheVariants.{Segment, Window}
use Rattle.taint_group.proofs.TablesReceive.{TablesTake, TablesTook}
use Rattle.taint_group.proofs.Changing.{nth-put}
use Rattle.taint_group.proofs.HeldShown.{receives-kept}
use Rattle.taint_group.proofs.Keyed.{HoldsSame, WritesOwn, keyed-from, nth-map, same-but, tables-seen, two-of, writes-own}
use Rattle.taint_group.proofs.Tables.{nth-other}

pub tables-receive : (linkage : Linkage) (heard after : List KeptHeard) (pid at : ℕ) (numbers : List ℕ) (old new : MemberSets) (event : KeptHeard) (x y : Tables)
    → AreSoundTables linkage heard x → Hears event heard after → TablesTake pid at numbers old new x y → TablesTook linkage heard after pid at numbers old new event x y
tables-receive linkage heard after pid at numbers old new event x y sound hears step = record {
  receives = receives-kept at numbers old new x.memories y.memories (two-of x pid old sound.keyed step.was) step.receives;
  becomes = record {
    was = nth-map (kept_member x.memories) x.members pid ∙ ap (option_map (kept_member x.memories)) step.was;
    stays = record { linkage = refl; sets = step.sets };
    members = tables-seen x y pid new written.kind written.held keyed one (of-new written.kind written.held written.holds) written.others others;
    heard = hears;
  };
  keyed = keyed;
} where
  one : nth y.members pid ≡ Some new
  one = ap (λ l. nth l pid) step.members ∙ nth-put x.members pid old (Some new) step.was

  others : (p : ℕ) → p ≢ pid → nth y.members p ≡ nth x.members p
  others p ne = ap (λ l. nth l p) step.members ∙ nth-other x.members pid p (Some new) ne

  keyed : AreKeyed y
  keyed =
      keyed-from x y sound.keyed (subst (λ n. length x.memories ≤ n) (sym step.keys) (omega arith))
      (same-but x y pid (subst (λ o. HoldsSame o (nth x.members pid)) (sym one) (subst (HoldsSame (Some new)) (sym step.was) (ap (λ (k : MemberSets). k.window) step.receives.others, ap (λ (k : MemberSets). k.segment) step.receives.others))) others)

  written : WritesOwn old x.memories y.memories
  written = writes-own at numbers old x.memories y.memories step.receives.memory

  of-new : (kind : MemoryKind) (held : Held) → held_of kind old ≡ Some held → held_of kind new ≡ Some held
  of-new Window held e = ap (λ (k : MemberSets). Some k.window) step.receives.others ∙ e
  of-new Segment held e = ap (λ (k : MemberSets). k.segment) step.receives.others ∙ e
