-- The machine to which the first of some records lead.
use Rattle.std.proofs.Common.{◌≡◌, ℕ, ◌+◌, ◌<◌, ◌≤◌, ◌^◌, List, [], ◌∷◌, ◌++◌, length, get_or, take, drop, slice_get, cond, Result, Ok, Err, refl, sym, ap, ◌∙◌, subst, append_assoc, append-nil, take-append-drop, arith}
use Rattle.std.specs.List.{between}
use Rattle.std.specs.Prelude.{count_by}
use Rattle.std.proofs.lemmas.List.{drop_all, drop_more, length-take-le, take_more}
use Rattle.std.proofs.Math.Seq.{take-length}
use Rattle.std.proofs.lemmas.List.Sums.{sum_by-append}
use Rattle.std.proofs.lemmas.Slice.{between_to_end}
use Rattle.arn_base.specs.declared.records.Record.{Record}
use Rattle.arn_base.specs.declared.records.Record.TheVariants as entry
use Rattle.arn_base.specs.declared.records.Differs.{Differs}
use Rattle.parts_model.specs.declared.limits.TheConstants.{MOST_SLICE}
use Rattle.arn_model.specs.Kernel.{at_first}
use Rattle.arn_model.specs.Run.{Input, instructions_in, machine_after, run, steps_from}
use Rattle.log_model.specs.Laws.{RecordsAppend}
use Rattle.log_model.specs.Records.{named, records, records_from, IsRun}
use Rattle.guest_machine.specs.Again.{named_first}
use Rattle.record_match.specs.Differs.{IsFirstDifference}
use Rattle.guest_machine.specs.Again.{is_slice, rebuild_cost}
use Rattle.guest_machine.specs.Laws.{RecordsFollow, RecordsLeaveRoom, RunsFollow}
use Rattle.record_match.specs.Matching.{IsMatched, IsMismatch}
use Rattle.record_match.specs.declared.differs.RebuildError.{RebuildError}
use Rattle.record_match.specs.declared.differs.RebuildError.TheVariants as rebuild_error
use Rattle.guest_machine.specs.Recorded.{Recorded, HasRoom, IsAfter, Runs, recorded_first}
use Rattle.guest_machine.proofs.Appends.{instructions_in-append, steps_from-append}
use Rattle.guest_machine.proofs.RealLemmas.{first-stands}

count-append : (entries more : List Record) → count_by is_slice (entries ++ more) ≡ count_by is_slice entries + count_by is_slice more
count-append entries more = sum_by-append (λ (e : Record). cond (is_slice e) 1 0) entries more

-- what inputs run that come later is added
instructions-more : (inputs more : List Input) → instructions_in (run (inputs ++ more)) ≡ instructions_in (run inputs) + instructions_in (steps_from (machine_after inputs) more)
instructions-more inputs more =
    ap instructions_in (steps_from-append at_first inputs more) ∙ instructions_in-append (run inputs) (steps_from (machine_after inputs) more)

-- a record names its input, and those behind it theirs
named-first : (e : Record) (behind : List Record) → named (e ∷ behind) ≡ named_first e behind ++ named behind
named-first (entry.File name bytes) behind = refl
named-first (entry.Boot name give) behind = refl
named-first (entry.Typed bytes) behind = refl
named-first (entry.Unplug device) behind = refl
named-first (entry.Slice pid ran) behind = refl
named-first (entry.Signal pid signal cut handler) behind = refl
named-first (entry.Call pid number result more) behind = refl
named-first (entry.End pid status) behind = refl

-- Where the first i records lead, by the inputs that all records name: their own records are the first `matched`. So many steps were taken
-- at most.
pub record IsRebuilt (entries : List Record) (i : ℕ) (r : Recorded) (matched : ℕ) (steps0 steps : ℕ) : Type 0 where
  pub inputs : List Input
  pub front : named entries ≡ inputs ++ named (drop i entries)
  pub within : matched ≤ length entries
  pub after : IsAfter r inputs
  pub recorded : records inputs ≡ take matched entries
  pub few : steps ≤ steps0 + r.instructions + count_by is_slice (take i entries)

pub IsRebuilt-none : (entries : List Record) (steps0 : ℕ) → IsRebuilt entries 0 recorded_first 0 steps0 steps0
IsRebuilt-none entries steps0 = record {
  inputs = [];
  front = refl;
  within = omega arith;
  after = record { leads = first-stands; counted = refl };
  recorded = refl;
  few = omega arith;
}

-- few enough events and instructions have been counted to go on
pub IsRebuilt-room : RecordsLeaveRoom → (entries : List Record) (i : ℕ) (r : Recorded) (matched steps0 steps : ℕ) → IsRebuilt entries i r matched steps0 steps → length entries < 2 ^ 63 → HasRoom r 2 MOST_SLICE
IsRebuilt-room leave entries i r matched steps0 steps so_far short =
    let few : length (records so_far.inputs) ≡ matched = ap length so_far.recorded ∙ length-take-le matched entries so_far.within in
    leave r so_far.inputs 2 MOST_SLICE so_far.after (omega (arith, few, so_far.within, short)) (omega arith) (omega arith)

module _ (entries : List Record) (i : ℕ) (r : Recorded) (matched : ℕ) (steps0 steps : ℕ) (so_far : IsRebuilt entries i r matched steps0 steps) (e : Record) (lt : i < length entries) (is : e ≡ get_or entries i e) (behind : List Record) (rest : behind ≡ drop (i + 1) entries) where
  -- one record more
  count-more : count_by is_slice (take (i + 1) entries) ≡ count_by is_slice (take i entries) + count_by is_slice (e ∷ [])
  count-more =
      ap (count_by is_slice) (take_more entries i e lt ∙ ap (λ (x : Record). take i entries ++ x ∷ []) (sym is)) ∙ count-append (take i entries) (e ∷ [])

  split : drop i entries ≡ e ∷ behind
  split = drop_more entries i e lt ∙ ap (λ (x : Record). x ∷ drop (i + 1) entries) (sym is) ∙ ap (λ (xs : List Record). e ∷ xs) (sym rest)

  front-more : named entries ≡ (so_far.inputs ++ named_first e behind) ++ named behind
  front-more =
      so_far.front
      ∙ ap (λ (xs : List Record). so_far.inputs ++ named xs) split
      ∙ ap (λ (xs : List Input). so_far.inputs ++ xs) (named-first e behind)
      ∙ sym (append_assoc so_far.inputs (named_first e behind) (named behind))

  -- an input takes no more steps than are due
  pub few-next : (steps' : ℕ) → steps' ≤ steps + instructions_in (steps_from (machine_after so_far.inputs) (named_first e behind)) + count_by is_slice (e ∷ []) → steps' ≤ steps0 + rebuild_cost entries
  few-next steps' few =
      let whole = ap (λ (inputs : List Input). instructions_in (run inputs)) front-more in
      let one = instructions-more so_far.inputs (named_first e behind) in
      let all = instructions-more (so_far.inputs ++ (named_first e behind)) (named behind) in
      let slices = count-front entries (i + 1) in
      omega (arith, few, so_far.few, so_far.after.counted, whole, one, all, count-more, slices)
    where
      count-front : (xs : List Record) (k : ℕ) → count_by is_slice (take k xs) ≤ count_by is_slice xs
      count-front xs k =
          let all : count_by is_slice xs ≡ count_by is_slice (take k xs ++ drop k xs) = ap (count_by is_slice) (sym (take-append-drop k xs)) in
          omega (arith, all, count-append (take k xs) (drop k xs))

  -- the records so far and those of this input
  records-next : RecordsFollow → (r' : Recorded) (out out' : List Record) → Runs (machine_after so_far.inputs) (named_first e behind) r r' out out' → out ≡ [] → records (so_far.inputs ++ (named_first e behind)) ≡ take matched entries ++ out'
  records-next follow r' out out' runs none =
      let own : Runs (machine_after so_far.inputs) (named_first e behind) r r' (take matched entries) (take matched entries ++ out') = record {
        leads = runs.leads;
        counted = runs.counted;
        recorded = ap (λ (xs : List Record). take matched entries ++ xs) (runs.recorded ∙ ap (λ (xs : List Record). xs ++ records_from (machine_after so_far.inputs) (named_first e behind)) none);
      } in
      follow r r' so_far.inputs (named_first e behind) (take matched entries) (take matched entries ++ out') so_far.recorded own

  -- one record more, whose own records are matched
  pub IsRebuilt-more : RunsFollow → RecordsFollow → (r' : Recorded) (out out' found : List Record) (now steps' : ℕ) → Runs (machine_after so_far.inputs) (named_first e behind) r r' out out' → out ≡ [] → found ≡ out' → IsMatched entries matched found now
      → steps' ≤ steps + instructions_in (steps_from (machine_after so_far.inputs) (named_first e behind)) + count_by is_slice (e ∷ [])
      → IsRebuilt entries (i + 1) r' now steps0 steps'
  IsRebuilt-more follow follow' r' out out' found now steps' runs none is_found matches few = record {
    inputs = so_far.inputs ++ (named_first e behind);
    front = front-more ∙ ap (λ (xs : List Record). (so_far.inputs ++ named_first e behind) ++ named xs) rest;
    within = matches.within;
    after = follow r r' so_far.inputs (named_first e behind) out out' so_far.after runs;
    recorded = records-next follow' r' out out' runs none ∙ ap (λ (xs : List Record). take matched entries ++ xs) (sym is_found) ∙ sym matches.same;
    few = omega (arith, few, so_far.few, runs.counted, count-more);
  }

  -- a difference from these is one from all
  pub IsMismatch-first : RecordsFollow → RecordsAppend → (r' : Recorded) (out out' found : List Record) (d : Differs) → Runs (machine_after so_far.inputs) (named_first e behind) r r' out out' → out ≡ [] → found ≡ out'
      → IsMismatch entries (take matched entries ++ found) d → IsFirstDifference entries (records (named entries)) d
  IsMismatch-first follow append r' out out' found d runs none is_found mismatch =
      let front : List Record = take matched entries ++ found in
      let seen : List Input = so_far.inputs ++ (named_first e behind) in
      let others : List Record = records_from (machine_after seen) (named behind) in
      let whole : records (named entries) ≡ front ++ others =
      ap records front-more
      ∙ append seen (named behind)
      ∙ ap (λ (xs : List Record). xs ++ others) (records-next follow r' out out' runs none ∙ ap (λ (xs : List Record). take matched entries ++ xs) (sym is_found)) in
      subst (λ (xs : List Record). IsFirstDifference entries xs d) (sym whole) (mismatch others)

-- the records don't differ from their own where they are those of a run
pub differ_no_run : (entries : List Record) (d : Differs) → IsFirstDifference entries (records (named entries)) d → ¬ IsRun entries
differ_no_run entries d first run = first.differ (ap (λ (xs : List Record). slice_get xs d.place) run)

-- where all records have been run
module _ (entries : List Record) (r : Recorded) (matched steps0 steps i : ℕ) (within : i ≤ length entries) (end : length entries ≤ i) (done : IsRebuilt entries i r matched steps0 steps) where
  all-named : named entries ≡ done.inputs
  all-named = done.front ∙ ap (λ (xs : List Record). done.inputs ++ named xs) (drop_all i entries end) ∙ append-nil done.inputs

  records-all : records (named entries) ≡ take matched entries
  records-all = ap records all-named ∙ done.recorded

  -- a record is missing
  pub IsRebuilt-missing : {T : Type 0} (missing d : Differs) (s : Result T RebuildError) → s ≡ Err (rebuild_error.Differs missing) → s ≡ Err (rebuild_error.Differs d) → IsFirstDifference entries (take matched entries) missing → IsFirstDifference entries (records (named entries)) d
  IsRebuilt-missing missing d s was same first = subst (λ (xs : List Record). IsFirstDifference entries xs d) (sym records-all) (subst (IsFirstDifference entries (take matched entries)) is first)
    where
      is : missing ≡ d
      is = cc same

  pub IsRebuilt-leads : IsAfter r (named entries)
  IsRebuilt-leads = subst (IsAfter r) (sym all-named) done.after

  pub IsRebuilt-steps : steps ≤ steps0 + rebuild_cost entries
  IsRebuilt-steps =
      let at : i ≡ length entries = omega (arith, within, end) in
      let all : count_by is_slice (take i entries) ≡ count_by is_slice entries = ap (λ (k : ℕ). count_by is_slice (take k entries)) at ∙ ap (count_by is_slice) (take-length entries) in
      omega (arith, done.few, done.after.counted, ap (λ (inputs : List Input). instructions_in (run inputs)) all-named, all)

  -- none is missing
  pub IsRebuilt-whole : length entries ≤ matched → IsRun entries
  IsRebuilt-whole all =
      let at : matched ≡ length entries = omega (arith, done.within, all) in
      sym (records-all ∙ ap (λ (k : ℕ). take k entries) at ∙ take-length entries)

-- no other error tells a difference
pub no-memory : {T : Type 0} (r : Result T RebuildError) (e : RebuildError) (d : Differs) → r ≡ Err e → e ≡ rebuild_error.NoMemory → r ≡ Err (rebuild_error.Differs d) → ⊥
no-memory r e d is no_memory differs = cc

pub no-error : {T E : Type 0} (x : T) (e : E) → Ok x ≡ Err e → ⊥
no-error x e is = cc

-- the records behind the one at a place
pub behind-is : (entries : List Record) (at i : ℕ) → at ≡ i → between (at + 1) (length entries) entries ≡ drop (i + 1) entries
behind-is entries at i same = between_to_end entries (at + 1) (length entries) (omega arith) ∙ ap (λ (n : ℕ). drop (n + 1) entries) same
