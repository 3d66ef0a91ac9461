-- A commit to the log: it succeeded, or it didn't.
use Rattle.std.proofs.Common.{◌≡◌, ◌≢◌, inl, inr, ℕ, ◌+◌, ◌<◌, ◌++◌, List, [], ◌∷◌, length, Option, IfSome, IsTrue, All, Result, Ok, Err, IfErr, OnOk, IsErrAnd, refl, sym, ap, subst, ◌∙◌}
use Rattle.std.proofs.lemmas.Option.{IfSome_then}
use Rattle.std.proofs.lemmas.List.Elements.{All-append}
use Rattle.arn_base.specs.declared.records.Record.{Record}
use Rattle.arn_base.specs.Disk.{Only}
use Rattle.result_log.specs.Spelling.{HasSpelling}
use Rattle.log_store.specs.Log.{spellings}
use Rattle.log_store.specs.Stores.{StoreState, IsLeftBy, IsBeforeOrAfter, MayLeaveLog}
use Rattle.log_store.specs.Stops.{LeavesOnly}
use Rattle.log_store.specs.declared.size.TheConstants.{MOST_LOG}
use Rattle.log_store.specs.declared.errors.CommitError.{CommitError}
use Rattle.log_store.specs.declared.errors.CommitError.TheVariants as commit
use Rattle.session_effects.specs.Effects.{Effect, Commits}
use Rattle.session_effects.specs.Carrying.{CarriesOut, IsAtCommit, IsInCommit, Stopped, StopsAt, StopsBetween}
use Rattle.session_effects.specs.Standing.{Carries}
use Rattle.session_effects.specs.Halts.{commit_halt_of}
use Rattle.session_effects.specs.declared.halt.Halt.{Halt}
use Rattle.session_effects.specs.declared.halt.Halt.TheVariants as halt
use Rattle.session_effects.proofs.EffectLemmas.{committed-one}
use Rattle.session_effects.proofs.StepLemmas.{halts-commit, halts-nothing}
use Rattle.session_effects.proofs.CarryLemmas.{stops-of}
use Rattle.arn_base.specs.declared.disk.Disk.{Ghosts}
use Rattle.session_effects.proofs.DiskLaws.{OnlyNow, CountsNow, MayStay}

-- the commit of these records stands next
at_commit : (entries : List Record) → IsAtCommit (Commits entries ∷ []) entries
at_commit entries = record { more = []; is_commit = refl }

in_commit : (entries : List Record) → IsInCommit (Commits entries ∷ []) (Commits entries ∷ [])
in_commit entries = record { entries = entries; is_at = at_commit entries; is_next = refl }

-- the log is too long for a commit
pub record IsFull (store : StoreState) (entries : List Record) (log payload : ℕ) : Type 0 where
  pub is_len : log ≡ store.log_len
  pub is_payload : payload ≡ length (spellings entries)
  pub too_long : MOST_LOG < log + 5 + payload

module _ {D : Type 0} (is_run : List Record → Type 0) (d : Ghosts D) where
  -- the store behind a commit stays open
  pub Carries-commit : (old new : D) (store store' : StoreState) (entries : List Record) (held : Option (List ℕ)) → All HasSpelling store.entries → All HasSpelling entries → IsTrue store'.usable → IfSome (d.image new) (IsLeftBy store') → store'.entries ≡ store.entries ++ entries → CarriesOut is_run d old new store.entries held held (Commits entries ∷ []) → Carries is_run d old new store store' held held (Commits entries ∷ [])
  Carries-commit old new store store' entries held spelled more usable left added out = record {
    stays_open = record {
      usable = usable;
      left = left;
      spelled = subst (All HasSpelling) (sym added) (All-append HasSpelling store.entries entries spelled more);
    };
    entries = added ∙ ap (λ (x : List Record). store.entries ++ x) (sym (committed-one entries));
    out = out;
  }

  -- a commit that didn't succeed
  halts-error : CountsNow D d → MayStay D d → OnlyNow D d → (old new : D) (store : StoreState) (entries : List Record) (held : Option (List ℕ)) (error : CommitError) → (is_run store.entries → is_run (store.entries ++ entries)) → IfSome (d.image old) (IsLeftBy store) → IfSome (d.image old) (λ bytes. Only bytes (d.may_leave old) → LeavesOnly d.moment d.left_since old new (IsBeforeOrAfter store.entries entries)) → IfSome (d.image old) (λ _. MayLeaveLog (d.may_leave new) store.entries) → ((log payload : ℕ) → error ≡ commit.Full log payload → IsFull store entries log payload) → ((log payload : ℕ) → error ≡ commit.Full log payload → new ≡ old) → StopsBetween is_run d old new store.entries held held (commit_halt_of error) [] (Commits entries ∷ [])
  halts-error counts stays only_now old new store entries held commit.Disk run left any before full same =
      halts-commit is_run d counts old new store.entries entries held halt.Disk run (in_commit entries, refl) any before
  halts-error counts stays only_now old new store entries held (commit.Full log payload) run left any before full same =
      let is_full = full log payload refl in
      let stopped : Stopped d old (halt.Full log payload) (Commits entries ∷ []) [] [] = (entries, at_commit entries, refl, refl, is_full.is_payload, is_full.too_long, IfSome_then (d.image old) left (λ bytes is_left. is_full.is_len ∙ sym is_left.is_whole)) in
      subst (λ (disk : D). StopsBetween is_run d old disk store.entries held held (halt.Full log payload) [] (Commits entries ∷ [])) (sym (same log payload refl))
      (halts-nothing is_run d stays only_now old store.entries held (halt.Full log payload) (Commits entries ∷ []) stopped)
  halts-error counts stays only_now old new store entries held commit.NoMemory run left any before full same =
      halts-commit is_run d counts old new store.entries entries held halt.NoMemory run (inl refl, inr (in_commit entries)) any before

  -- the halt that its error makes
  pub halts-error-result : CountsNow D d → MayStay D d → OnlyNow D d → {T : Type 0} (result : Result T Halt) (old new : D) (store : StoreState) (entries : List Record) (error : CommitError) → IsErrAnd result (λ halt. halt ≡ commit_halt_of error) → (is_run store.entries → is_run (store.entries ++ entries)) → IfSome (d.image old) (IsLeftBy store) → IfSome (d.image old) (λ bytes. Only bytes (d.may_leave old) → LeavesOnly d.moment d.left_since old new (IsBeforeOrAfter store.entries entries)) → IfSome (d.image old) (λ _. MayLeaveLog (d.may_leave new) store.entries) → ((log payload : ℕ) → error ≡ commit.Full log payload → IsFull store entries log payload) → ((log payload : ℕ) → error ≡ commit.Full log payload → new ≡ old) → IfErr result (λ halt. (held : Option (List ℕ)) → StopsBetween is_run d old new store.entries held held halt [] (Commits entries ∷ []))
  halts-error-result counts stays only_now (Ok x) old new store entries error is run left any before full same = absurd is
  halts-error-result counts stays only_now (Err halt) old new store entries error is run left any before full same = λ held.
      subst (λ (x : Halt). StopsBetween is_run d old new store.entries held held x [] (Commits entries ∷ [])) (sym is)
      (halts-error counts stays only_now old new store entries held error run left any before full same)

  -- the same, with none of it done
  pub stops-result : {T : Type 0} (result : Result T Halt) (old new : D) (history : List Record) (effects : List Effect) → IfErr result (λ halt. (held : Option (List ℕ)) → StopsBetween is_run d old new history held held halt [] effects) → IfErr result (λ halt. (held : Option (List ℕ)) → StopsAt is_run d old new history held held halt [] effects)
  stops-result (Ok x) old new history effects stops = tt
  stops-result (Err halt) old new history effects stops = λ held. stops-of is_run d old new history held held halt [] effects (stops held)
