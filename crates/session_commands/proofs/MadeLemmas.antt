-- The machine that is there, or is made of what the records name.
use Rattle.std.proofs.Common.{◌≡◌, ℕ, ◌+◌, ◌≤◌, Bool, true, false, List, Option, Some, None, IfSome, is_some, refl, sym, subst}
use Rattle.std.proofs.lemmas.Bool.{false≢true}
use Rattle.arn_base.specs.declared.records.Differs.{Differs}
use Rattle.arn_base.specs.declared.records.Record.{Record}
use Rattle.guest_machine.specs.Again.{rebuild_cost}
use Rattle.guest_machine.specs.Recorded.{IsAfter, Recorded}
use Rattle.log_model.specs.Records.{IsRun, named, records}
use Rattle.record_match.specs.Differs.{IsFirstDifference}
use Rattle.record_match.specs.declared.differs.RebuildError.{RebuildError}
use Rattle.record_match.specs.declared.differs.RebuildError.TheVariants as rebuild
use Rattle.session_runs.specs.Ready.{IsNotMade, IsReady}
use Rattle.session_commands.specs.Answering.{BlamesRecords}
use Rattle.session_commands.specs.Cost.{machine_cost}
use Rattle.session_commands.specs.Halts.{rebuild_halt_of}
use Rattle.session_commands.specs.Kept.{IsThere}

pub none-there : (o : Option Recorded) → is_some o ≡ false → o ≡ None
none-there None is = refl
none-there (Some m) is = absurd (false≢true (sym is))

pub some-ready : (o : Option Recorded) (history : List Record) → is_some o ≡ true → IfSome o (λ m. IsReady m history) → IsThere o history
some-ready None history is ready = absurd (false≢true is)
some-ready (Some m) history is ready = ready

pub made-ready : (m made : Recorded) (told history : List Record) → made ≡ m → told ≡ history → IsAfter m (named told) → IsRun told → IsReady made history
made-ready m made told history is_made is_history after is_run =
    subst (λ (r : Recorded). IsReady r history) (sym is_made)
    (subst (λ (h : List Record). IsReady m h) is_history (record { is_after = after; is_run = is_run }))

pub made-cost : (b : Bool) (told history : List Record) (old new : ℕ) → b ≡ false → told ≡ history → new ≤ old + rebuild_cost told → new ≤ old + machine_cost b history
made-cost b told history old new absent is_history within =
    subst (λ (b : Bool). new ≤ old + machine_cost b history) (sym absent)
    (subst (λ (h : List Record). new ≤ old + rebuild_cost h) is_history within)

pub not-made : (why : RebuildError) → IsNotMade (rebuild_halt_of why)
not-made (rebuild.Differs d) = tt
not-made rebuild.NoMemory = tt

blames : (why : RebuildError) (told : List Record) → ((d : Differs) → why ≡ rebuild.Differs d → IsFirstDifference told (records (named told)) d) → ((d : Differs) → why ≡ rebuild.Differs d → ¬ IsRun told) → BlamesRecords (rebuild_halt_of why) told
blames (rebuild.Differs d) told first no_run = record { is_first = first d refl; is_none = no_run d refl }
blames rebuild.NoMemory told first no_run = tt

pub not-made-blames : (why : RebuildError) (told history : List Record) → told ≡ history → ((d : Differs) → why ≡ rebuild.Differs d → IsFirstDifference told (records (named told)) d) → ((d : Differs) → why ≡ rebuild.Differs d → ¬ IsRun told) → BlamesRecords (rebuild_halt_of why) history
not-made-blames why told history is_history first no_run =
    subst (λ (h : List Record). BlamesRecords (rebuild_halt_of why) h) is_history (blames why told first no_run)
