-- An instruction in tables of members and memories.
use Rattle.std.proofs.Common.{◌≡◌, ◌≢◌, ℕ, zero, suc, ◌+◌, ◌-◌, Bool, true, false, if◌then◌else◌, List, [], ◌∷◌, map, length, take, slice_index, slice_set, Option, Some, None, IfSome, option_map, refl, sym, subst, ap, ◌∙◌, arith}
use Rattle.arn_base.specs.declared.machine.Cpu.{Cpu}
use Rattle.rv64_isa.specs.declared.instruction.Instr.{Instr}
use Rattle.rv64_model.specs.Operands.{accessed, stored_len}
use Rattle.parts_model.specs.declared.limits.TheConstants.{WINDOW_START, SEGMENT_START}
use Rattle.parts_model.specs.Numbered.{nth}
use Rattle.taint_spans.specs.Numbered.{IsSet, StandAsBefore}
use Rattle.acts_model.specs.Transfers.{is_private, is_shared}
use Rattle.taint_members.specs.Access.{held_numbers, window_numbers}
use Rattle.taint_members.specs.declared.member.MemberSets.{MemberSets}
use Rattle.taint_members.specs.declared.member.Held.{Held}
use Rattle.taint_steps.specs.Table.{IsReady, RunsMember, RunsOne, Tables}
use Rattle.rv64_model.specs.declared.linkage.Linkage.{Linkage}
use Rattle.taint_state.specs.Goes.{GoesIf, TakesInstr}
use Rattle.taint_state.specs.Kept.{KeptHeard, shown, shown_member}
use Rattle.taint_state.specs.RunsShow.{RunsIn, RunsKeep, RunsShow, kept_member}
use Rattle.taint_state.specs.Sound.{IsSoundMember}
use Rattle.taint_state.specs.Steps.{instr_inside}
use Rattle.taint_group.specs.Tables.{AreKeyed, AreSoundTables, held_of, kept_in}
use Rattle.taint_group.specs.declared.memories.MemoryKind.{MemoryKind}
use Rattle.taint_group.specs.declared.memories.MemoryKind.TheVariants.{Segment, Window}
use Rattle.taint_group.proofs.Keyed.{HoldsSame, WritesOwn, at-some, keyed-from, keys-of, nth-map, same-but, stores-own, tables-seen, two-of}

-- what the tables show goes on by an instruction, and they stay sound
pub record TablesGoOn (linkage : Linkage) (heard : List KeptHeard) (pid : ℕ) (instr : Instr) (before : Cpu) (x y : Tables) : Type 0 where
  pub shows : TakesInstr (shown (kept_in linkage heard x)) pid instr before (shown (kept_in linkage heard y))
  pub sound : AreSoundTables linkage heard y

pub nth-set : {X : Type 0} (xs : List (Option X)) (k : ℕ) (x y : X) → nth xs k ≡ Some x → nth (slice_set xs k (Some y)) k ≡ Some y
nth-set [] k x y e = absurd (cc)
nth-set (z ∷ xs) zero x y e = refl
nth-set (z ∷ xs) (suc k) x y e = nth-set xs k x y e

pub nth-other : {X : Type 0} (xs : List (Option X)) (k j : ℕ) (y : Option X) → j ≢ k → nth (slice_set xs k y) j ≡ nth xs j
nth-other [] k j y h = refl
nth-other (z ∷ xs) zero zero y h = absurd (h refl)
nth-other (z ∷ xs) zero (suc j) y h = refl
nth-other (z ∷ xs) (suc k) zero y h = refl
nth-other (z ∷ xs) (suc k) (suc j) y h = nth-other xs k j y (λ e. h (ap suc e))

module _ (linkage : Linkage) (heard : List KeptHeard) (pid : ℕ) (instr : Instr) (before : Cpu) (x y : Tables) (sound : AreSoundTables linkage heard x) (m : MemberSets) (there : nth x.members pid ≡ Some m)
    (one : RunsOne pid linkage instr before m x y) (stand : StandAsBefore x.sets y.sets) (keys : length y.memories ≡ length x.memories) where
  after : nth y.members pid ≡ Some one.changed
  after = ap (λ l. nth l pid) one.members ∙ nth-set x.members pid m one.changed there

  others : (p : ℕ) → p ≢ pid → nth y.members p ≡ nth x.members p
  others p apart = ap (λ l. nth l p) one.members ∙ nth-other x.members pid p (Some one.changed) apart

  keyed : AreKeyed y
  keyed =
      keyed-from x y sound.keyed (omega arith)
      (same-but x y pid (subst (λ o. HoldsSame o (nth x.members pid)) (sym after) (subst (HoldsSame (Some one.changed)) (sym there) (ap (λ (k : MemberSets). k.window) one.runs.others, ap (λ (k : MemberSets). k.segment) one.runs.others))) others)

  written : WritesOwn m x.memories y.memories
  written = stores-own (accessed instr before) (take (stored_len instr) one.runs.numbers) m x.memories y.memories one.runs.memory

  ran : RunsIn pid instr before (kept_in linkage heard x) (kept_in linkage heard y)
  ran = record {
    member = m;
    changed = one.changed;
    memories = x.memories;
    written = y.memories;
    two = two-of x pid m sound.keyed there;
    was = nth-map (kept_member x.memories) x.members pid ∙ ap (option_map (kept_member x.memories)) there;
    runs = one.runs;
    members = tables-seen x y pid one.changed written.kind written.held keyed after (of-changed written.kind written.held written.holds) written.others others;
    stand = stand;
    rest = refl;
  } where
    of-changed : (kind : MemoryKind) (held : Held) → held_of kind m ≡ Some held → held_of kind one.changed ≡ Some held
    of-changed Window held e = ap (λ (k : MemberSets). Some k.window) one.runs.others ∙ e
    of-changed Segment held e = ap (λ (k : MemberSets). k.segment) one.runs.others ∙ e

  goes-on : RunsShow → RunsKeep → TablesGoOn linkage heard pid instr before x y
  goes-on show keep = record {
    shows = show pid instr before (kept_in linkage heard x) (kept_in linkage heard y) sound.kept ran;
    sound = record { kept = keep pid instr before (kept_in linkage heard x) (kept_in linkage heard y) sound.kept ran; keyed = keyed };
  }

-- where the member of a number has run it
pub tables-run : (linkage : Linkage) (heard : List KeptHeard) (pid : ℕ) (instr : Instr) (before : Cpu) (x y : Tables) → RunsShow → RunsKeep
    → AreSoundTables linkage heard x → RunsMember (nth x.members pid) pid linkage instr before x y → StandAsBefore x.sets y.sets → length y.memories ≡ length x.memories
    → TablesGoOn linkage heard pid instr before x y
tables-run linkage heard pid instr before x y show keep sound runs stand keys = by_member (nth x.members pid) refl runs
  where
    by_member : (o : Option MemberSets) → nth x.members pid ≡ o → RunsMember o pid linkage instr before x y → TablesGoOn linkage heard pid instr before x y
    by_member (Some m) e runs = goes-on linkage heard pid instr before x y sound m e runs stand keys show keep
    by_member None e same =
        subst (λ (z : Tables). TablesGoOn linkage heard pid instr before x z) (sym same) (record {
          shows = subst (λ o. GoesIf (option_map (instr_inside pid instr before) (option_map (λ m. m.holds) (option_map (shown_member (kept_in linkage heard x)) o))) (shown (kept_in linkage heard x)) (shown (kept_in linkage heard x)))
              (sym (nth-map (kept_member x.memories) x.members pid ∙ ap (option_map (kept_member x.memories)) e)) refl;
          sound = sound;
        })

-- any member can run an instruction
pub tables-ready : (linkage : Linkage) (heard : List KeptHeard) (x : Tables) → AreSoundTables linkage heard x → (pid : ℕ) → IfSome (nth x.members pid) (IsReady x.sets x.memories)
tables-ready linkage heard x sound pid = by_member (nth x.members pid) refl
  where
    raw : (m : MemberSets) → IsSoundMember x.sets (kept_member x.memories m) → (b c : Bool) (i j : ℕ)
        → IsSet x.sets (if b then slice_index (window_numbers m x.memories) i else if c then slice_index (held_numbers m.segment x.memories) j else 0)
    raw m own true c i j = own.window i
    raw m own false true i j = own.segment j
    raw m own false false i j = sound.kept.zero

    by_member : (o : Option MemberSets) → nth x.members pid ≡ o → IfSome o (IsReady x.sets x.memories)
    by_member None e = tt
    by_member (Some m) e =
        let own = at-some (IsSoundMember x.sets) (nth (map (option_map (kept_member x.memories)) x.members) pid) (kept_member x.memories m)
        (nth-map (kept_member x.memories) x.members pid ∙ ap (option_map (kept_member x.memories)) e) (sound.kept.members pid) in
        record {
          held = keys-of x pid m sound.keyed e;
          registers = λ r i above below byte. own.registers r i (record { above = above; below = below; byte = byte });
          memory = λ at k. raw m own (is_private at) (is_shared at) (at - WINDOW_START + k) (at - SEGMENT_START + k);
        }
