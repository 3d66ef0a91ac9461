-- What records tell of the machine that they lead to, each step keeps; and the record of an event can stand behind them.
use Rattle.std.proofs.lemmas.Bool.Decides.{nat_tests}
use Rattle.std.proofs.Common.{◌≡◌, ℕ, ◌+◌, not, Bool, true, false, cond, List, [], ◌∷◌, ◌++◌, length, Option, Some, None, IfSome, slice_get, refl, sym, ap, subst, ◌∙◌, append-nil, arith, option_and_then}
use Rattle.std.proofs.lemmas.Bool.{eq-eqb, false≢true}
use Rattle.std.proofs.lemmas.List.{length_push}
use Rattle.std.proofs.lemmas.List.Elements.{filter-append}
use Rattle.arn_base.specs.declared.records.Record.{Record}
use Rattle.arn_base.specs.declared.records.Record.TheVariants as entry
use Rattle.parts_model.specs.declared.tagged.TaggedByte.{TaggedByte}
use Rattle.parts_model.specs.Files.{file_bytes}
use Rattle.parts_model.specs.Tagged.{values, given}
use Rattle.acts_model.specs.Moved.{KernelByte, FileByte, Event}
use Rattle.acts_model.specs.Records.{is_event, event_len, give_of, life_told, lives_after}
use Rattle.arn_model.specs.Kernel.{Kernel, Machine}
use Rattle.arn_model.specs.Sound.{IsSoundMachine}
use Rattle.arn_model.specs.Step.{Step}
use Rattle.arn_model.specs.Tells.{kernel_byte, lives, is_inner, StepTells, Runs, Happens, Boots, Adds, Types, Unplugs, HasNumbers}
use Rattle.history_model.specs.Broken.{are_origins, has_blocks_wrong, start_in, misnumbers, child_in, misplaces_start, greatest, greatest_from, greatest_after}
use Rattle.history_model.specs.Events.{events}
use Rattle.unbroken_laws.proofs.Counted.{Counted}
use Rattle.unbroken_laws.proofs.Inputs.{CountedBy, CountsRight}
use Rattle.unbroken_laws.proofs.Lies.{AllLie, OldOrPut, lie-after, holds-put, typed-put, unplug-put, file-put, boot-put, Gives, receives-gives, origins-fine}

-- what is known of each step of a run
pub record Facts (m : Machine) (s : Step) : Type 0 where
  pub tells : StepTells m s
  pub sound : IsSoundMachine m
  pub later : IsSoundMachine s.after
  pub few : HasNumbers s.after.kernel
  pub right : CountsRight m s

-- an event
pub record Happened (m : Machine) (s : Step) (e : Record) : Type 0 where
  pub event : s.moved.inside.event ≡ Some (record { number = m.events; entry = e })
  pub counts : s.after.events ≡ m.events + 1
  pub is : is_event e ≡ true
  pub puts : OldOrPut m.events (event_len e) m.kernel s.after.kernel
  pub gives : Gives m.kernel (give_of e)
  pub lives : is_inner e ≡ true → (q : ℕ) → lives s.after.kernel q ≡ lives_after (life_told e) q (lives m.kernel q)

-- a step is none, or one
pub data Kind (m : Machine) (s : Step) : Type 0 where
  IsPlain : s.moved.inside.event ≡ None → s.after.events ≡ m.events → Kind m s
  IsEvent : (e : Record) → Happened m s e → Kind m s

inner-event : (e : Record) → is_inner e ≡ true → is_event e ≡ true
inner-event (entry.Slice pid ran) is = absurd (cc)
inner-event _ is = refl

file-there : (k : Kernel) (file : ℕ) (held : List TaggedByte) → file_bytes k.files file ≡ Some held → (n : ℕ) (h : TaggedByte) → slice_get held n ≡ Some h → (byte : KernelByte) × (kernel_byte k byte ≡ Some h)
file-there k file held e n h f = (FileByte file n, ap (λ (o : Option (List TaggedByte)). option_and_then (λ bytes. slice_get bytes n) o) e ∙ f)

pub kind-of : (m : Machine) (s : Step) → StepTells m s → Kind m s
kind-of m s (Runs pid v instr cpu memory sees stands is) = subst (Kind m) (sym is) (IsPlain refl refl)
kind-of m s (Happens pid v d e t is) =
    subst (Kind m) (sym is)
    (IsEvent e (record {
      event = refl;
      counts = refl;
      is = inner-event e t.inner;
      puts = subst (λ (n : ℕ). OldOrPut m.events n m.kernel d.kernel) (sym t.length) (holds-put m.events d.bytes d.outgoing m.kernel d.kernel t.holds);
      gives = receives-gives m.kernel d.incoming d.bytes e t.receives;
      lives = λ inner. t.lives;
    }))
kind-of m s (Boots path file held first found bytes image is) =
    subst (Kind m) (sym is)
    (IsEvent (entry.Boot path (given held)) (record {
      event = refl;
      counts = refl;
      is = refl;
      puts = boot-put m.events (length (values held)) m.kernel first;
      gives = record { held = held; is = refl; there = file-there m.kernel file held bytes };
      lives = λ inner. absurd (false≢true inner);
    }))
kind-of m s (Adds path bytes may is) =
    subst (Kind m) (sym is)
    (IsEvent (entry.File path bytes) (record { event = refl; counts = refl; is = refl; puts = file-put m path bytes; gives = tt; lives = λ inner. absurd (false≢true inner) }))
kind-of m s (Types bytes booted is) =
    subst (Kind m) (sym is)
    (IsEvent (entry.Typed bytes) (record { event = refl; counts = refl; is = refl; puts = typed-put m bytes; gives = tt; lives = λ inner. absurd (false≢true inner) }))
kind-of m s (Unplugs device may is) =
    subst (Kind m) (sym is)
    (IsEvent (entry.Unplug device) (record { event = refl; counts = refl; is = refl; puts = unplug-put m device; gives = tt; lives = λ inner. absurd (false≢true inner) }))

-- what records tell of the machine that they lead to
pub record Known (before : List Record) (m : Machine) : Type 0 where
  pub counts : length (events before) ≡ m.events
  pub lie : AllLie (events before) m.kernel
  pub most : greatest before ≡ length m.kernel.processes

-- what else has to hold of a record behind others
pub record Fits (before : List Record) (e : Record) : Type 0 where
  pub origins : are_origins before (give_of e) ≡ true
  pub blocks : has_blocks_wrong (start_in e) ≡ false
  pub number : misnumbers before (child_in e) ≡ false
  pub start : misplaces_start e ≡ false

events-push : (before : List Record) (e : Record) → is_event e ≡ true → events (before ++ e ∷ []) ≡ events before ++ e ∷ []
events-push before e is = filter-append is_event before (e ∷ []) ∙ ap (λ (b : Bool). events before ++ cond b (e ∷ []) []) is

events-same : (before : List Record) (e : Record) → is_event e ≡ false → events (before ++ e ∷ []) ≡ events before
events-same before e is = filter-append is_event before (e ∷ []) ∙ (ap (λ (b : Bool). events before ++ cond b (e ∷ []) []) is ∙ append-nil (events before))

greatest-from-push : (n : ℕ) (before : List Record) (e : Record) → greatest_from n (before ++ e ∷ []) ≡ greatest_after e (greatest_from n before)
greatest-from-push n [] e = refl
greatest-from-push n (x ∷ before) e = greatest-from-push (greatest_after x n) before e

greatest-push : (before : List Record) (e : Record) → greatest (before ++ e ∷ []) ≡ greatest_after e (greatest before)
greatest-push before e = greatest-from-push 0 before e

numbers-right : (before : List Record) (n : ℕ) (o : Option ℕ) → greatest before ≡ n → IfSome o (λ c. c ≡ n + 1) → misnumbers before o ≡ false
numbers-right before n None e h = refl
numbers-right before n (Some c) e h = ap not (eq-eqb c (greatest before + 1) (omega arith))

-- an event
pub event-counted : (m : Machine) (s : Step) (e : Record) → Facts m s → Happened m s e → Counted (length m.kernel.processes) (length s.after.kernel.processes) e
event-counted m s e facts h = (subst (λ (o : Option Event). CountedBy m s.after o) h.event facts.right.counted) facts.few facts.sound

pub event-fits : (before : List Record) (m : Machine) (s : Step) (e : Record) → Facts m s → Happened m s e → Known before m → Fits before e
event-fits before m s e h1 h2 h3 = grind (arith, nat_tests, event-counted, origins-fine, numbers-right)

pub event-known : (before : List Record) (m : Machine) (s : Step) (e : Record) → Facts m s → Happened m s e → Known before m → Known (before ++ e ∷ []) s.after
event-known before m s e facts h known =
    let same = events-push before e h.is in
    record {
      counts = ap (λ (es : List Record). length es) same ∙ (length_push (events before) e ∙ (ap (λ (n : ℕ). n + 1) known.counts ∙ sym h.counts));
      lie = subst (λ (es : List Record). AllLie es s.after.kernel) (sym same) (lie-after (events before) e m.events m.kernel s.after.kernel known.counts h.puts known.lie);
      most = greatest-push before e ∙ (ap (greatest_after e) known.most ∙ (event-counted m s e facts h).grows);
    }

-- an instruction
pub plain-known : (before : List Record) (m : Machine) (s : Step) → Facts m s → s.moved.inside.event ≡ None → s.after.events ≡ m.events → Known before m → Known before s.after
plain-known before m s facts none same known =
    let kernel : s.after.kernel ≡ m.kernel = subst (λ (o : Option Event). CountedBy m s.after o) none facts.right.counted in
    record {
      counts = known.counts ∙ sym same;
      lie = subst (λ (k : Kernel). AllLie (events before) k) (sym kernel) known.lie;
      most = known.most ∙ ap (λ (k : Kernel). length k.processes) (sym kernel);
    }

-- a slice
pub slice-known : (before : List Record) (m : Machine) (pid ran : ℕ) → Known before m → Known (before ++ entry.Slice pid ran ∷ []) m
slice-known before m pid ran h1 = grind (arith, nat_tests, events-same, greatest-push)

pub slice-fits : (before : List Record) (pid ran : ℕ) → Fits before (entry.Slice pid ran)
slice-fits before pid ran = record { origins = refl; blocks = refl; number = refl; start = refl }
