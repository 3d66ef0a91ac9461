-- In the records of a run each child begins with whole blocks.
use Rattle.std.proofs.Common.{◌≡◌, ℕ, zero, suc, ◌*◌, ◌≤◌, ◌==◌, ◌&&◌, not, is_some, Bool, true, false, if◌then◌else◌, List, [], ◌∷◌, length, drop, Option, Some, None, IfSome, refl, ap, sym, subst, ◌∙◌, arith, length-drop, All, Contains, length-take-le}
use Rattle.std.proofs.lemmas.Bool.Decides.{nat_tests}
use Rattle.std.specs.List.{cons_option}
use Rattle.std.proofs.lemmas.Bool.{and_parts, eqb-true, true≢false}
use Rattle.std.proofs.lemmas.List.Elements.{All-append, All-cons, All-contains, All-contains_itself, All-nil}
use Rattle.std.proofs.lemmas.Option.{same_Some}
use Rattle.arn_base.specs.declared.machine.Block.{Block}
use Rattle.arn_base.specs.declared.machine.Cpu.{Cpu}
use Rattle.arn_base.specs.declared.records.Extra.{Extra}
use Rattle.arn_base.specs.declared.records.Extra.TheVariants as extra
use Rattle.arn_base.specs.declared.records.Record.{Record}
use Rattle.arn_base.specs.declared.records.Record.TheVariants as entry
use Rattle.arn_base.specs.declared.records.Start.{Start}
use Rattle.parts_model.specs.Blocks.{block_of, used_block, used_blocks}
use Rattle.parts_model.specs.Replies.{is_success}
use Rattle.parts_model.specs.declared.calls.TheConstants.{FORK}
use Rattle.parts_model.specs.declared.limits.TheConstants.{BLOCK_LEN}
use Rattle.acts_model.specs.Acts.{Founds, Returns, beginning_of, start_of}
use Rattle.acts_model.specs.Bodies.{View}
use Rattle.acts_model.specs.Moved.{Event}
use Rattle.acts_model.specs.Records.{child_forked, child_number, is_event}
use Rattle.acts_model.specs.Told.{call_act, kind_of}
use Rattle.arn_model.specs.Doing.{Doing}
use Rattle.arn_model.specs.Kernel.{Machine, at_first}
use Rattle.arn_model.specs.Laws.{StepsTell}
use Rattle.arn_model.specs.Run.{Input, events_of, machine_after, run}
use Rattle.arn_model.specs.Step.{Step}
use Rattle.arn_model.specs.Tells.{Adds, Along, Boots, EventTells, Happens, HasNumbers, Runs, StepTells, Types, Unplugs}
use Rattle.history_model.specs.Broken.{first_broken, misplaces_start}
use Rattle.log_model.specs.Laws.{EventsRecorded}
use Rattle.log_model.specs.Records.{records}
use Rattle.window_laws.specs.Blocks.{AreWhole, HasWholeBlocks}
use Rattle.query_laws.proofs.Lists.{kept-in}
use Rattle.query_laws.proofs.Mapped.{in-map}
use Rattle.query_laws.proofs.Origins.{is-placed}

-- blocks of a window are whole
used-whole : (block : Block) → length block.bytes ≡ BLOCK_LEN → AreWhole (used_block block)
used-whole block h1 = grind (arith, nat_tests)

all-whole : (bytes : List ℕ) (count : ℕ) → BLOCK_LEN * count ≤ length bytes → AreWhole (used_blocks bytes count)
unfolding used_blocks
all-whole bytes zero fits = All-nil (λ (x : Block). length x.bytes ≡ BLOCK_LEN)
all-whole bytes (suc count) fits =
    All-append (λ (x : Block). length x.bytes ≡ BLOCK_LEN) (used_blocks bytes count) (used_block (block_of bytes count)) (all-whole bytes count (omega (arith, fits)))
    (used-whole (block_of bytes count) (length-take-le BLOCK_LEN (drop (BLOCK_LEN * count) bytes) (omega (arith, length-drop (BLOCK_LEN * count) bytes, fits))))

-- a fork's record has those of the parent's window
start-of : (start : Start) (v : View) → extra.Start start ≡ extra.Start (start_of (beginning_of v)) → AreWhole start.blocks
start-of start v h1 = grind (arith, nat_tests, all-whole)

fork-act : (number result : ℕ) (cpu : Cpu) (start : Start) → (number == FORK) ≡ true → is_success result ≡ true → call_act (kind_of number) cpu result (extra.Start start) ≡ Founds result
fork-act number result cpu start is success =
    ap (λ n. call_act (kind_of n) cpu result (extra.Start start)) (eqb-true number FORK is) ∙ ap (λ (b : Bool). if b then Founds result else Returns result) success

call-whole : (m : Machine) (pid number result p : ℕ) (v : View) (d : Doing) (more : Extra) → EventTells m p v d (entry.Call pid number result more) → misplaces_start (entry.Call pid number result more) ≡ false → HasWholeBlocks (entry.Call pid number result more)
call-whole m pid number result p v d (extra.Start start) tells placed = by-test ((number == FORK) && is_success result) refl placed
  where
    by-test : (b : Bool) → ((number == FORK) && is_success result) ≡ b → (true && not (is_some (child_number (if b then Some (child_forked result (extra.Start start)) else None)))) ≡ false → AreWhole start.blocks
    by-test b h1 h2 = grind (arith, nat_tests, and_parts, same_Some, fork-act, start-of, true≢false)
call-whole m pid number result p v d extra.Nothing tells placed = tt
call-whole m pid number result p v d _ tells placed = tt

-- an event that is placed rightly has whole blocks
abbrev IsWhole : Record → Type 0
IsWhole e = misplaces_start e ≡ false → HasWholeBlocks e

happens-whole : (m : Machine) (p : ℕ) (v : View) (d : Doing) (e : Record) → EventTells m p v d e → IsWhole e
happens-whole m p v d e h1 = grind (arith, nat_tests, call-whole)

abbrev StepWhole : Step → Type 0
StepWhole s = IfSome s.moved.inside.event (λ event. IsWhole event.entry)

step-whole : (m : Machine) (s : Step) → StepTells m s → StepWhole s
step-whole m s (Runs pid v instr cpu memory sees stands is) = subst StepWhole (sym is) tt
step-whole m s (Happens pid v d e tells is) = subst StepWhole (sym is) (happens-whole m pid v d e tells)
step-whole m s (Boots path file held first found bytes image is) = subst StepWhole (sym is) (λ placed. tt)
step-whole m s (Adds path bytes can is) = subst StepWhole (sym is) (λ placed. tt)
step-whole m s (Types bytes booted is) = subst StepWhole (sym is) (λ placed. tt)
step-whole m s (Unplugs device may is) = subst StepWhole (sym is) (λ placed. tt)

cons-whole : (o : Option Event) (events : List Event) → IfSome o (λ event. IsWhole event.entry) → All (λ (event : Event). IsWhole event.entry) events → All (λ (event : Event). IsWhole event.entry) (cons_option o events)
cons-whole None events is all = all
cons-whole (Some event) events is all = All-cons (λ (event : Event). IsWhole event.entry) event events is all

steps-whole : (m : Machine) (steps : List Step) → Along StepTells m steps → All (λ (event : Event). IsWhole event.entry) (events_of steps)
steps-whole m [] tells = All-nil (λ (event : Event). IsWhole event.entry)
steps-whole m (s ∷ steps) tells = cons-whole s.moved.inside.event (events_of steps) (step-whole m s tells.0) (steps-whole s.after steps tells.1)

slice-whole : (e : Record) → is_event e ≡ false → HasWholeBlocks e
slice-whole e h1 = grind (arith, nat_tests, true≢false)

pub run-whole : (inputs : List Input) → HasNumbers (machine_after inputs).kernel → StepsTell → EventsRecorded → first_broken (records inputs) ≡ None → All HasWholeBlocks (records inputs)
run-whole inputs few tell recorded stands = λ k d low. one _ (All-contains_itself (records inputs) k d low)
  where
    one : (e : Record) → Contains (records inputs) e → HasWholeBlocks e
    one e has = by-event (is_event e) refl
      where
        by-event : (b : Bool) → is_event e ≡ b → HasWholeBlocks e
        by-event false is = slice-whole e is
        by-event true is =
            let found = in-map (λ (event : Event). event.entry) (events_of (run inputs)) e (subst (λ (es : List Record). Contains es e) (recorded inputs) (kept-in is_event (records inputs) e has is)) in
            subst IsWhole found.2 (All-contains (λ (event : Event). IsWhole event.entry) (events_of (run inputs)) found.0 (steps-whole at_first (run inputs) (tell inputs few)) found.1) (is-placed (records inputs) stands e has)
