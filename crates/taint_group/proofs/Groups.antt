-- What is kept of a group by its tables.
use Rattle.std.proofs.Common.{◌≡◌, ℕ, zero, suc, ◌≤◌, ◌<◌, List, [], ◌∷◌, ◌++◌, length, take, drop, slice_index_or, slice_set, Option, Some, None, Result, Ok, Err, OnOk, IfSome, refl, sym, subst, ap, ◌∙◌, arith}
use Rattle.std.proofs.Math.Seq.{take-append_seam}
use Rattle.arn_base.specs.declared.machine.Cpu.{Cpu}
use Rattle.rv64_isa.specs.declared.instruction.Instr.{Instr}
use Rattle.parts_model.specs.Numbered.{nth}
use Rattle.taint_spans.specs.Numbered.{Numbered, StandAsBefore}
use Rattle.taint_members.specs.declared.member.MemberSets.{MemberSets}
use Rattle.taint_steps.specs.Table.{RunsMember, Tables}
use Rattle.rv64_model.specs.declared.linkage.Linkage.{Linkage}
use Rattle.taint_group.specs.Groups.{ReturnsEntry, ReturnsIn, ReturnsOne}
use Rattle.taint_state.specs.Kept.{KeptHeard}
use Rattle.taint_state.specs.RunsShow.{RunsKeep, RunsShow}
use Rattle.taint_group.specs.Tables.{AreSoundTables}
use Rattle.taint_group.proofs.Tables.{TablesGoOn, tables-run}

pub slice-back : {X : Type 0} (n : ℕ) (old new : List X) → length new ≡ n → take n (new ++ drop (length new) old) ≡ new
slice-back n old new e = subst (λ k. take k (new ++ drop (length new) old) ≡ new) e (take-append_seam new (drop (length new) old))

-- what was lent, and stayed as it was, is back
pub slice-same : {X : Type 0} (n : ℕ) (old lent new : List X) → lent ≡ old → new ≡ lent → length old ≡ n → take n (new ++ drop (length new) old) ≡ old
slice-same n old lent new same still e = slice-back n old new (ap length (still ∙ same) ∙ e) ∙ still ∙ same

pub ok-map : {A E P Q : Type 0} (r : Result A E) → (P → Q) → OnOk r P → OnOk r Q
ok-map (Ok a) f h = f h
ok-map (Err e) f h = tt

abbrev pub tables_with : List (Option MemberSets) → List (List ℕ) → Numbered → Tables
tables_with members memories sets = record { members = members; memories = memories; sets = sets }

pub tables-same : (m n : List (Option MemberSets)) (s r : List (List ℕ)) (sets : Numbered) → m ≡ n → s ≡ r → tables_with m s sets ≡ tables_with n r sets
tables-same m n s r sets e f = ap (λ l. tables_with l s sets) e ∙ ap (λ l. tables_with n l sets) f

-- tables that stand elsewhere run as these do
pub runs-at : (linkage : Linkage) (heard : List KeptHeard) (pid : ℕ) (instr : Instr) (before : Cpu) (m m' n n' : List (Option MemberSets)) (s s' r r' : List (List ℕ)) (sets new : Numbered)
    → m' ≡ m → s' ≡ s → n' ≡ n → r' ≡ r → AreSoundTables linkage heard (tables_with m s sets) → RunsShow → RunsKeep
    → RunsMember (nth m' pid) pid linkage instr before (tables_with m' s' sets) (tables_with n r new) → StandAsBefore sets new → length r ≡ length s'
    → TablesGoOn linkage heard pid instr before (tables_with m s sets) (tables_with n' r' new)
runs-at linkage heard pid instr before m m' n n' s s' r r' sets new e f g h sound show keep runs stand keys =
    let first : tables_with m' s' sets ≡ tables_with m s sets = tables-same m' m s' s sets e f in
    let second : tables_with n r new ≡ tables_with n' r' new = sym (tables-same n' n r' r new g h) in
    subst (λ (z : Tables). TablesGoOn linkage heard pid instr before z (tables_with n' r' new)) first
    (subst (λ (z : Tables). TablesGoOn linkage heard pid instr before (tables_with m' s' sets) z) second
    (tables-run linkage heard pid instr before (tables_with m' s' sets) (tables_with n r new) show keep (subst (AreSoundTables linkage heard) (sym first) sound) runs stand keys))

nth-at : (xs : List (Option MemberSets)) (k : ℕ) (d : Option MemberSets) → k < length xs → nth xs k ≡ slice_index_or xs k d
nth-at [] k d h = absurd (omega arith)
nth-at (x ∷ xs) zero d h = refl
nth-at (x ∷ xs) (suc k) d h = nth-at xs k d (omega arith)

nth-behind : (xs : List (Option MemberSets)) (k : ℕ) → length xs ≤ k → nth xs k ≡ None
nth-behind [] k h = refl
nth-behind (x ∷ xs) zero h = absurd (omega arith)
nth-behind (x ∷ xs) (suc k) h = nth-behind xs k (omega arith)

-- the entry that returns is that of the number
pub returns-in : (pid : ℕ) (members : List (Option MemberSets)) (d after : Option MemberSets) → pid < length members → ReturnsEntry (slice_index_or members pid d) after
    → ReturnsIn pid members (slice_set members pid after)
returns-in pid members d after below entry =
    subst (λ o. IfSome o (ReturnsOne pid members (slice_set members pid after))) (sym (nth-at members pid d below)) (by_entry (slice_index_or members pid d) entry)
  where
    by_entry : (o : Option MemberSets) → ReturnsEntry o after → IfSome o (ReturnsOne pid members (slice_set members pid after))
    by_entry None entry = tt
    by_entry (Some old) entry = record { new = entry.0; becomes = entry.2; members = ap (slice_set members pid) entry.1 }

pub returns-none : (pid : ℕ) (members after : List (Option MemberSets)) → length members ≤ pid → ReturnsIn pid members after
returns-none pid members after behind = subst (λ o. IfSome o (ReturnsOne pid members after)) (sym (nth-behind members pid behind)) tt

pub if-map : {X : Type 0} {P Q : X → Type 0} (o : Option X) → ((x : X) → P x → Q x) → IfSome o P → IfSome o Q
if-map None f h = tt
if-map (Some x) f h = f x h
