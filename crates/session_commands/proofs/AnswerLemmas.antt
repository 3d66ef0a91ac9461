-- Answers to commands, and where they halt.
use Rattle.std.proofs.Common.{◌≡◌, inl, inr, ℕ, ◌+◌, ◌≤◌, ◌++◌, Bool, true, false, List, [], Option, None, Some, option_map, Result, Ok, Err, IfErr, IsErrAnd, OnOk, refl, sym, ap, ◌∙◌, subst, append-nil, arith, ◌||◌}
use Rattle.std.proofs.lemmas.Bool.{false≢true}
use Rattle.arn_base.specs.declared.boxes.Choice.{Choice}
use Rattle.arn_base.specs.declared.disk.Disk.{Ghosts}
use Rattle.arn_base.specs.declared.records.Record.{Record}
use Rattle.arn_base.specs.Faults.{NeverFalls, Rose}
use Rattle.log_model.specs.Records.{IsRun}
use Rattle.log_store.specs.Stops.{GoesOn}
use Rattle.log_store.specs.Stores.{StoreState}
use Rattle.arn_commands.specs.declared.command.Command.{Command}
use Rattle.session_effects.specs.Carrying.{StopsBetween}
use Rattle.session_effects.specs.Laws.{EffectsFollow, HaltsFollow}
use Rattle.session_effects.specs.Printing.{PutsFront, StopsPut}
use Rattle.session_effects.specs.Standing.{IsCause, IsOpen}
use Rattle.session_effects.specs.declared.halt.Halt.{Halt}
use Rattle.session_effects.specs.declared.halt.Halt.TheVariants as halt
use Rattle.session_runs.specs.Ready.{IsNotMade}
use Rattle.session_runs.specs.Points.{around}
use Rattle.session_runs.specs.Touches.{Answering}
use Rattle.session_runs.specs.Turns.{finished, prints}
use Rattle.session_commands.specs.Answering.{BlamesRecords, BlamesRightly, IsAnswered, IsHalted, IsLineCause, IsNotBegun}
use Rattle.session_runs.specs.Standing.{Standpoint, standpoint}
use Rattle.session_commands.specs.Cost.{cost, machine_cost}
use Rattle.session_commands.specs.Given.{Given}
use Rattle.session_commands.specs.Lines.{needs_machine, turn}
use Rattle.session_commands.proofs.TurnLemmas.{Advances-nothing, Advances-prints, IsStill, Stops-nothing, Stops-prints}

-- what halts a part of a line may halt the line
pub line-cause : (why : Halt) (d0 d1 s0 s1 : ℕ) → IsCause why d0 d1 s0 s1 → IsLineCause why d0 d1 s0 s1
line-cause halt.NoMemory d0 d1 s0 s1 is = tt
line-cause halt.Sink d0 d1 s0 s1 is = is
line-cause halt.Disk d0 d1 s0 s1 is = is
line-cause (halt.Full log payload) d0 d1 s0 s1 is = is
line-cause _ d0 d1 s0 s1 is = absurd is

pub line-causes : {T : Type 0} (result : Result T Halt) (d s0 s1 : ℕ) → IfErr result (λ why. (faults : ℕ) → IsCause why faults faults s0 s1) → IfErr result (λ why. IsLineCause why d d s0 s1)
line-causes (Ok x) d s0 s1 causes = tt
line-causes (Err why) d s0 s1 causes = line-cause why d d s0 s1 (causes d)

-- a count that didn't rise
pub never-rose : Rose 0 0 → ⊥
never-rose (inl less) = omega arith
never-rose (inr most) = omega arith

-- a text halts by no fault of the disk, whatever the disk did before
pub text-cause : (why : Halt) (d0 d1 s0 s1 : ℕ) → ((faults : ℕ) → IsCause why faults faults s0 s1) → IsLineCause why d0 d1 s0 s1
text-cause halt.NoMemory d0 d1 s0 s1 causes = tt
text-cause halt.Sink d0 d1 s0 s1 causes = causes 0
text-cause halt.Disk d0 d1 s0 s1 causes = absurd (never-rose (causes 0))
text-cause (halt.Full log payload) d0 d1 s0 s1 causes = causes 0
text-cause _ d0 d1 s0 s1 causes = absurd (causes 0)

pub put-cause : {T : Type 0} (result : Result T Halt) (d0 d1 s0 s1 : ℕ) → IfErr result (λ why. (faults : ℕ) → IsCause why faults faults s0 s1) → IfErr result (λ why. IsCause why d0 d1 s0 s1)
put-cause (Ok x) d0 d1 s0 s1 causes = tt
put-cause (Err halt.NoMemory) d0 d1 s0 s1 causes = tt
put-cause (Err halt.Sink) d0 d1 s0 s1 causes = causes 0
put-cause (Err halt.Disk) d0 d1 s0 s1 causes = absurd (never-rose (causes 0))
put-cause (Err (halt.Full log payload)) d0 d1 s0 s1 causes = causes 0
put-cause (Err _) d0 d1 s0 s1 causes = absurd (causes 0)

-- what puts no text halts by no fault of the sink, whatever the sink did before
pub disk-cause : (why : Halt) (d0 d1 s0 s1 : ℕ) → ((faults : ℕ) → IsCause why d0 d1 faults faults) → IsLineCause why d0 d1 s0 s1
disk-cause halt.NoMemory d0 d1 s0 s1 causes = tt
disk-cause halt.Sink d0 d1 s0 s1 causes = absurd (never-rose (causes 0))
disk-cause halt.Disk d0 d1 s0 s1 causes = causes 0
disk-cause (halt.Full log payload) d0 d1 s0 s1 causes = causes 0
disk-cause _ d0 d1 s0 s1 causes = absurd (causes 0)

-- what holds of an error by two facts
pub err-both : {T : Type 0} (result : Result T Halt) (P Q R : Halt → Type 0) → ((why : Halt) → P why → Q why → R why) → IfErr result P → IfErr result Q → IfErr result R
err-both (Ok x) P Q R then p q = tt
err-both (Err why) P Q R then p q = then why p q

-- nothing was put of a text
pub put-nothing : (text : List ℕ) (held : Option (List ℕ)) → PutsFront text held held
put-nothing text None = record { put = []; left = text; are_bytes = refl; printed = refl }
put-nothing text (Some before) = record { put = []; left = text; are_bytes = refl; printed = ap (λ (x : List ℕ). Some x) (sym (append-nil before)) }

pub not-made-cause : (why : Halt) (d0 d1 s0 s1 : ℕ) → IsNotMade why → IsLineCause why d0 d1 s0 s1
not-made-cause halt.NoMemory d0 d1 s0 s1 is = tt
not-made-cause (halt.Differs d) d0 d1 s0 s1 is = tt
not-made-cause _ d0 d1 s0 s1 is = absurd is

-- what holds where a machine is there or was made
pub or-false : (b n : Bool) → n ≡ false → b ≡ (b || n)
or-false true n none = refl
or-false false n none = sym none

pub OnOk-always : {T P : Type 0} (result : Result T Halt) → P → OnOk result P
OnOk-always (Ok x) is = is
OnOk-always (Err e) is = tt

-- nothing is asked of a result that is an error
pub OnOk-never : {T : Type 0} (P : Type 0) (result : Result T Halt) (why : Halt) → IsErrAnd result (λ halt. halt ≡ why) → OnOk result P
OnOk-never P (Ok x) why is = absurd is
OnOk-never P (Err e) why is = tt

-- a count of faults that stands, and a disk that tells what it did
pub falls-same : (faults : ℕ) → NeverFalls faults faults
falls-same faults = record { no_less = omega arith; stands_still = λ is. refl }

pub goes-same : {D : Type 0} (image : D → Option (List ℕ)) (faults : D → ℕ) (disk : D) → GoesOn image faults disk disk
goes-same image faults disk = record { tells = refl; never_falls = falls-same (faults disk) }

pub or-true : (b n : Bool) → n ≡ true → true ≡ (b || n)
or-true true n one = refl
or-true false n one = sym one

module _ {D A : Type 0} (g : Given) (is_there : Bool) (command : Command) where
  -- what halts a part of a line doesn't blame records
  pub cause-blames : (why : Halt) (d0 d1 s0 s1 : ℕ) (old new : Standpoint D A) → IsCause why d0 d1 s0 s1 → BlamesRightly g is_there why command old new
  cause-blames (halt.Differs at) d0 d1 s0 s1 old new is = absurd is
  cause-blames _ d0 d1 s0 s1 old new is = tt

  -- nor does a text
  put-blames : (why : Halt) (text : List ℕ) (h0 h1 : Option (List ℕ)) (old new : Standpoint D A) → StopsPut why text h0 h1 → BlamesRightly g is_there why command old new
  put-blames (halt.Differs at) text h0 h1 old new is = absurd is
  put-blames _ text h0 h1 old new is = tt

  pub blames-text : {T : Type 0} (result : Result T Halt) (text : List ℕ) (h0 h1 : Option (List ℕ)) (old new : Standpoint D A) → IfErr result (λ why. StopsPut why text h0 h1) → IfErr result (λ why. BlamesRightly g is_there why command old new)
  blames-text (Ok x) text h0 h1 old new put = tt
  blames-text (Err why) text h0 h1 old new put = put-blames why text h0 h1 old new put

  module _ (choices : ℕ → Option Choice) (answers : A) where
    -- no machine was made
    pub not-begun : (why : Halt) (disk : D) (store store' : StoreState) (held : Option (List ℕ)) (steps steps' : ℕ) → IsNotMade why → store' ≡ store → steps' ≤ steps + machine_cost is_there store.entries → IsNotBegun why is_there (standpoint disk store held (around choices answers steps)) (standpoint disk store' held (around choices answers steps'))
    not-begun why disk store store' held steps steps' is same cheap = record {
      not_made = is;
      untouched = record { disk = refl; store = same; held = refl; choices = λ k. refl; answers = refl };
      executed = cheap;
    }

    -- where the records are blamed for it, it is rightly
    pub blames-not-made : (why : Halt) (disk : D) (store store' : StoreState) (held : Option (List ℕ)) (steps steps' : ℕ) → IsNotMade why → store' ≡ store → BlamesRecords why store.entries → is_there ≡ false → needs_machine g store.entries command ≡ true → steps' ≤ steps + machine_cost is_there store.entries → BlamesRightly g is_there why command (standpoint disk store held (around choices answers steps)) (standpoint disk store' held (around choices answers steps'))
    blames-not-made (halt.Differs at) disk store store' held steps steps' is same blames absent needs cheap = record {
      is_no_run = blames;
      absent = absent;
      needs = needs;
      not_begun = not-begun (halt.Differs at) disk store store' held steps steps' is same cheap;
    }
    blames-not-made _ disk store store' held steps steps' is same blames absent needs cheap = tt

module _ {D A : Type 0} (d : Ghosts D) (who : Answering A) (g : Given) (is_there : Bool) (command : Command) (choices : ℕ → Option Choice) (answers : A) where
  -- a text answers a command
  pub answered-text : {T : Type 0} (laws : EffectsFollow IsRun d) (result : Result T Halt) (disk : D) (store store' : StoreState) (h0 h1 : Option (List ℕ)) (text : List ℕ) (steps steps' n : ℕ) → store' ≡ store → turn g store.entries command ≡ prints text → needs_machine g store.entries command ≡ false → IsOpen d store disk → steps' ≤ steps + n → ((behind : List Record) → n ≤ cost g is_there store.entries behind command) → OnOk result (h1 ≡ option_map (λ before. before ++ text) h0) → OnOk result (IsAnswered d who g is_there command (standpoint disk store h0 (around choices answers steps)) (standpoint disk store' h1 (around choices answers steps')))
  answered-text laws (Ok x) disk store store' h0 h1 text steps steps' n same is none open_now cheap costs put =
      subst (λ (s : StoreState). IsAnswered d who g is_there command (standpoint disk store h0 (around choices answers steps)) (standpoint disk s h1 (around choices answers steps'))) (sym same)
      (record {
        advances = Advances-prints IsRun d who laws choices answers disk store h0 h1 (turn g store.entries command) steps steps' (cost g is_there store.entries store.entries command) text is open_now put (omega (arith, cheap, costs store.entries));
        on_run = λ needed. absurd (false≢true (sym none ∙ needed));
      })
  answered-text laws (Err e) disk store store' h0 h1 text steps steps' n same is none open_now cheap costs put = tt

  -- it stops somewhere
  pub halted-text : {T : Type 0} (halts : HaltsFollow IsRun d) (result : Result T Halt) (disk : D) (store store' : StoreState) (h0 h1 : Option (List ℕ)) (text : List ℕ) (steps steps' n : ℕ) → turn g store.entries command ≡ prints text → needs_machine g store.entries command ≡ false → steps' ≤ steps + n → ((behind : List Record) → n ≤ cost g is_there store.entries behind command) → IfErr result (λ why. StopsPut why text h0 h1) → IfErr result (λ why. IsHalted d who g is_there why command (standpoint disk store h0 (around choices answers steps)) (standpoint disk store' h1 (around choices answers steps')))
  halted-text halts (Ok x) disk store store' h0 h1 text steps steps' n is none cheap costs put = tt
  halted-text halts (Err why) disk store store' h0 h1 text steps steps' n is none cheap costs put = record {
    beside = n;
    stops = (Stops-prints IsRun d who halts choices answers disk store.entries h0 h1 why (turn g store.entries command) steps steps' n text is put cheap).stops;
    costs = costs _;
    on_run = λ needed. absurd (false≢true (sym none ∙ needed));
  }

  -- a command that asks for nothing
  pub answered-nothing : (laws : EffectsFollow IsRun d) (disk : D) (store : StoreState) (held : Option (List ℕ)) (steps : ℕ) → turn g store.entries command ≡ finished → needs_machine g store.entries command ≡ false → IsOpen d store disk → IsAnswered d who g is_there command (standpoint disk store held (around choices answers steps)) (standpoint disk store held (around choices answers steps))
  answered-nothing laws disk store held steps is none open_now = record {
    advances = Advances-nothing IsRun d who laws choices answers disk store held (turn g store.entries command) finished steps steps (cost g is_there store.entries store.entries command) is open_now (omega arith);
    on_run = λ needed. absurd (false≢true (sym none ∙ needed));
  }

  -- it halts there
  pub halted-not-made : (halts : HaltsFollow IsRun d) (why : Halt) (disk : D) (store store' : StoreState) (held : Option (List ℕ)) (steps steps' : ℕ) → IsNotMade why → store' ≡ store → IsStill (turn g store.entries command) → steps' ≤ steps + machine_cost is_there store.entries → ((behind : List Record) → machine_cost is_there store.entries ≤ cost g is_there store.entries behind command) → IsHalted d who g is_there why command (standpoint disk store held (around choices answers steps)) (standpoint disk store' held (around choices answers steps'))
  halted-not-made halts why disk store store' held steps steps' is same still made costs = record {
    beside = machine_cost is_there store.entries;
    stops = Stops-nothing IsRun d who halts choices answers disk store.entries held why (turn g store.entries command) steps steps' (machine_cost is_there store.entries) still (inr is) (stopped why is) made;
    costs = costs _;
    on_run = λ needed. inr (not-begun g is_there command choices answers why disk store store' held steps steps' is same made);
  }
    where
      stopped : (why : Halt) → IsNotMade why → StopsBetween IsRun d disk disk store.entries held held why [] (turn g store.entries command []).effects
      stopped (halt.Differs at) is = halts.nothing disk store.entries held (halt.Differs at) (turn g store.entries command []).effects (refl, refl)
      stopped halt.NoMemory is = halts.nothing disk store.entries held halt.NoMemory (turn g store.entries command []).effects (inl refl, inl refl)
      stopped _ is = absurd is
