-- The member of a number, in a table.
use Rattle.std.proofs.Common.{◌≡◌, ℕ, zero, suc, ◌<◌, ◌≤◌, List, [], ◌∷◌, length, slice_index_or, slice_set, Option, Some, None, Result, Ok, Err, OnOk, refl, sym, subst, ap, ◌∙◌, arith}
use Rattle.arn_base.specs.declared.machine.Cpu.{Cpu}
use Rattle.rv64_isa.specs.declared.instruction.Instr.{Instr}
use Rattle.parts_model.specs.Numbered.{nth}
use Rattle.taint_members.specs.declared.member.MemberSets.{MemberSets}
use Rattle.taint_steps.specs.Table.{RunsEntry, RunsMember, Tables}
use Rattle.rv64_model.specs.declared.linkage.Linkage.{Linkage}

pub nth-at : {X : Type 0} (xs : List (Option X)) (k : ℕ) (d : Option X) → k < length xs → nth xs k ≡ slice_index_or xs k d
nth-at [] k d h = absurd (omega arith)
nth-at (x ∷ xs) zero d h = refl
nth-at (x ∷ xs) (suc k) d h = nth-at xs k d (omega arith)

pub nth-behind : {X : Type 0} (xs : List (Option X)) (k : ℕ) → length xs ≤ k → nth xs k ≡ None
nth-behind [] k h = refl
nth-behind (x ∷ xs) zero h = absurd (omega arith)
nth-behind (x ∷ xs) (suc k) h = nth-behind xs k (omega arith)

-- what is there already
set-same : {X : Type 0} (xs : List X) (k : ℕ) (d : X) → k < length xs → slice_set xs k (slice_index_or xs k d) ≡ xs
set-same [] k d h = absurd (omega arith)
set-same (x ∷ xs) zero d h = refl
set-same (x ∷ xs) (suc k) d h = ap (λ ys. x ∷ ys) (set-same xs k d (omega arith))

pub runs-entry : {Y E : Type 0} (r : Result Y E) (pid : ℕ) (linkage : Linkage) (instr : Instr) (before : Cpu) (d after : Option MemberSets) (x y : Tables) → pid < length x.members
    → y.members ≡ slice_set x.members pid after
    → OnOk r (RunsEntry (slice_index_or x.members pid d) after linkage instr before x.memories y.memories x.sets y.sets) → OnOk r (RunsMember (nth x.members pid) pid linkage instr before x y)
runs-entry (Err e) pid linkage instr before d after x y h is runs = runs
runs-entry (Ok v) pid linkage instr before d after x y h is runs =
    subst (λ o. RunsMember o pid linkage instr before x y) (sym (nth-at x.members pid d h)) (by_entry (slice_index_or x.members pid d) refl runs)
  where
    by_entry : (o : Option MemberSets) → slice_index_or x.members pid d ≡ o → RunsEntry o after linkage instr before x.memories y.memories x.sets y.sets → RunsMember o pid linkage instr before x y
    by_entry (Some m) e runs = record { changed = runs.0; runs = runs.2; members = is ∙ ap (slice_set x.members pid) runs.1 }
    by_entry None e runs =
        let members : y.members ≡ x.members = is ∙ ap (slice_set x.members pid) (runs.0 ∙ sym e) ∙ set-same x.members pid d h in
        let memories : y.memories ≡ x.memories = runs.1 in
        let sets : y.sets ≡ x.sets = runs.2 in
        ap (λ m. record { members = m; memories = y.memories; sets = y.sets }) members
        ∙ ap (λ s. record { members = x.members; memories = s; sets = y.sets }) memories
        ∙ ap (λ s. record { members = x.members; memories = x.memories; sets = s }) sets

pub runs-none : (pid : ℕ) (linkage : Linkage) (instr : Instr) (before : Cpu) (x : Tables) → length x.members ≤ pid → RunsMember (nth x.members pid) pid linkage instr before x x
runs-none pid linkage instr before x h = subst (λ o. RunsMember o pid linkage instr before x x) (sym (nth-behind x.members pid h)) refl
