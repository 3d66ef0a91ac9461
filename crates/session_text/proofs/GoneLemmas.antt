-- Which devices are gone where slices are asked for.
use Rattle.std.proofs.Common.{◌≡◌, ℕ, ◌++◌, ◌&&◌, Bool, true, false, if◌then◌else◌, List, [], ◌∷◌, length, Option, Some, None, is_none, refl, sym, ap, ◌∙◌, subst, append_assoc, append-nil, arith}
use Rattle.arn_base.specs.declared.records.Record.{Record}
use Rattle.arn_commands.specs.declared.command.Command.{Command}
use Rattle.arn_commands.specs.declared.command.Command.TheVariants.{PassedOver, TooLong, Unreadable, Says, Faulty, Generates}
use Rattle.arn_lines.specs.declared.answer.Refusal.{Refusal}
use Rattle.arn_lines.specs.declared.answer.RunEnd.{RunEnd}
use Rattle.arn_lines.specs.declared.line.Line.{Line}
use Rattle.arn_lines.specs.declared.line.Line.TheVariants as line
use Rattle.arn_lines.specs.declared.line.TheConstants.{MOST_RUN}
use Rattle.arn_model.specs.Kernel.{Machine, at_first}
use Rattle.arn_model.specs.Run.{Input, File, Boot, Typed, after_input, boot_found, boot_from, boot_step, can_add, file_step, is_booted, machine_after, machine_from, typed_step}
use Rattle.arn_model.specs.Tells.{HasNumbers}
use Rattle.guest_legs.specs.LegLaws.{SameAsNamed, as_named}
use Rattle.guest_legs.specs.Legs.{Ask, AreInRange, Going, IsInRange, Picked, ask, ask_of, input_of}
use Rattle.history_model.specs.Unplugged.{unplugged_in}
use Rattle.log_model.specs.Records.{IsRun, event_records, named, records, records_from}
use Rattle.parts_model.specs.Files.{find_file, file_bytes}
use Rattle.parts_model.specs.Image.{is_image}
use Rattle.parts_model.specs.Tagged.{values}
use Rattle.parts_model.specs.declared.tagged.TaggedByte.{TaggedByte}
use Rattle.session_effects.specs.Effects.{committed}
use Rattle.session_runs.specs.Quiet.{quiet_turn, quietly}
use Rattle.session_runs.specs.Ready.{machine_of}
use Rattle.session_runs.specs.Runs.{Running, begun, closing, ended, ends, is_full, next_leg, run, run_after, run_from, unless_ended}
use Rattle.session_runs.specs.Touches.{Touch, AtSlice, AtUnplug, asks_in, named_at, unplugs_in}
use Rattle.session_runs.specs.Turns.{Point, behind, cut_off, followed_by, prints}
use Rattle.session_commands.specs.Generator.{gen_inputs, gen_name, generator_turn}
use Rattle.session_commands.specs.Given.{Given}
use Rattle.session_commands.specs.Lines.{needs_machine, turn, turn_unless}
use Rattle.session_commands.specs.Refusals.{generator_refusal}
use Rattle.session_commands.specs.Rows.{row_of}
use Rattle.session_text.specs.Gone.{GoneBefore, GoneLaws}
use Rattle.session_text.proofs.TouchLemmas.{unplugged-append}

pub GoneBefore-append : (gone : List ℕ) (touches more : List Touch) → GoneBefore gone touches → GoneBefore (gone ++ unplugs_in touches) more → GoneBefore gone (touches ++ more)
GoneBefore-append gone [] more p q = subst (λ (l : List ℕ). GoneBefore l more) (append-nil gone) q
GoneBefore-append gone (AtSlice a ∷ touches) more p q = (p.0, GoneBefore-append gone touches more p.1 q)
GoneBefore-append gone (AtUnplug n ∷ touches) more p q =
    GoneBefore-append (gone ++ n ∷ []) touches more p (subst (λ (l : List ℕ). GoneBefore l more) (sym (append_assoc gone (n ∷ []) (unplugs_in touches))) q)

-- no touch, and one that unplugs
pub none-gone : (gone : List ℕ) (touches more : List Touch) → [] ≡ touches ++ more → GoneBefore gone touches
none-gone gone [] more is = tt
none-gone gone (t ∷ touches) more is = absurd cc

one-gone : (gone : List ℕ) (n : ℕ) (touches more : List Touch) → AtUnplug n ∷ [] ≡ touches ++ more → GoneBefore gone touches
one-gone gone n [] more is = tt
one-gone gone n (AtUnplug m ∷ []) more is = tt
one-gone gone n (AtSlice a ∷ touches) more is = absurd cc
one-gone gone n (AtUnplug m ∷ (t ∷ touches)) more is = absurd cc

-- what comes from outside before a run unplugs nothing
file-none : (m : Machine) (path bytes : List ℕ) (b : Bool) → unplugged_in (event_records (if b then file_step m path bytes ∷ [] else []) ++ []) ≡ []
file-none m path bytes true = refl
file-none m path bytes false = refl

typed-none : (m : Machine) (bytes : List ℕ) (b : Bool) → unplugged_in (event_records (if b then typed_step m bytes ∷ [] else []) ++ []) ≡ []
typed-none m bytes true = refl
typed-none m bytes false = refl

image-none : (m : Machine) (path : List ℕ) (file : ℕ) (held : List TaggedByte) (b : Bool) → unplugged_in (event_records (if b then boot_step m path file held ∷ [] else []) ++ []) ≡ []
image-none m path file held true = refl
image-none m path file held false = refl

from-none : (m : Machine) (path : List ℕ) (file : ℕ) (o : Option (List TaggedByte)) → unplugged_in (event_records (boot_from m path file o) ++ []) ≡ []
from-none m path file None = refl
from-none m path file (Some held) = image-none m path file held (is_image (values held))

found-none : (m : Machine) (path : List ℕ) (o : Option ℕ) → unplugged_in (event_records (boot_found m path o) ++ []) ≡ []
found-none m path None = refl
found-none m path (Some file) = from-none m path file (file_bytes m.kernel.files file)

boot-none : (m : Machine) (path : List ℕ) (o : Option ℕ) (b : Bool) → unplugged_in (event_records (if b then [] else boot_found m path o) ++ []) ≡ []
boot-none m path o true = refl
boot-none m path o false = found-none m path o

-- a run takes slices, and unplugs nothing
first-touch : (budget : ℕ) (r : Running) (s : Picked) (slices : List Picked) (a : Ask) (more : List Touch) → (run_from budget r (s ∷ slices)).touches ≡ AtSlice a ∷ more → (a ≡ ask_of r.leg) × ((run_from budget (next_leg (run_after r s)) slices).touches ≡ more)
first-touch budget r s slices a more is = by (ends r) is
  where
    by : (o : Option RunEnd) → (unless_ended o (λ end. ended budget r end (s ∷ slices)) (behind (closing (run_after r s)) (AtSlice (ask_of r.leg) ∷ []) (run_from budget (next_leg (run_after r s)) slices))).touches ≡ AtSlice a ∷ more → (a ≡ ask_of r.leg) × ((run_from budget (next_leg (run_after r s)) slices).touches ≡ more)
    by None is = (cc, cc)
    by (Some end) is = absurd cc

never-unplugs : (budget : ℕ) (r : Running) (slices : List Picked) (n : ℕ) (more : List Touch) → (run_from budget r slices).touches ≡ AtUnplug n ∷ more → ⊥
never-unplugs budget r [] n more is = by (ends r) is
  where
    by : (o : Option RunEnd) → (unless_ended o (λ end. ended budget r end []) cut_off).touches ≡ AtUnplug n ∷ more → ⊥
    by None is = cc
    by (Some end) is = cc
never-unplugs budget r (s ∷ slices) n more is = by (ends r) is
  where
    by : (o : Option RunEnd) → (unless_ended o (λ end. ended budget r end (s ∷ slices)) (behind (closing (run_after r s)) (AtSlice (ask_of r.leg) ∷ []) (run_from budget (next_leg (run_after r s)) slices))).touches ≡ AtUnplug n ∷ more → ⊥
    by None is = cc
    by (Some end) is = cc

-- a new leg goes on with the same machine
next-same : (r : Running) → (next_leg r).leg.machine ≡ r.leg.machine
next-same r = by (is_full r)
  where
    by : (b : Bool) → (if b then begun r.leg.machine r.leg.left else r).leg.machine ≡ r.leg.machine
    by true = refl
    by false = refl

-- the machine is that of a run whose records unplug these devices
record Unplugged (gone : List ℕ) (m : Machine) : Type 0 where
  inputs : List Input
  is_after : m ≡ machine_after inputs
  same : unplugged_in (records inputs) ≡ gone

unplugged-first : (history : List Record) → IsRun history → Unplugged (unplugged_in history) (machine_of history)
unplugged-first history run = record { inputs = named history; is_after = refl; same = ap unplugged_in (sym run) }

-- what a turn without its texts touches
quiet-touches : (history : List Record) (p : Point) (text : List Record → List ℕ) (slices : List Picked) → (quietly history p text slices).touches ≡ (p slices).touches
quiet-touches history p text slices = by (p slices).left
  where
    by : (left : Option (List Picked)) → (followed_by (quiet_turn (p slices)) left (prints (text (history ++ committed (quiet_turn (p slices)).effects)))).touches ≡ (p slices).touches
    by None = refl
    by (Some rest) = append-nil (p slices).touches

module _ (laws : GoneLaws) where
  gone-there : (gone : List ℕ) (m : Machine) → Unplugged gone m → HasNumbers m.kernel → m.kernel.unplugged ≡ gone
  gone-there gone m u numbers =
      let tells = laws.tell u.inputs (subst (λ (x : Machine). HasNumbers x.kernel) u.is_after numbers) in
      ap (λ (x : Machine). x.kernel.unplugged) u.is_after ∙ sym tells.unplugged ∙ u.same

  -- after an input that unplugs nothing
  unplugged-more : (gone : List ℕ) (m : Machine) (i : Input) → Unplugged gone m → unplugged_in (records_from m (i ∷ [])) ≡ [] → Unplugged gone (after_input m i)
  unplugged-more gone m i u none = record {
    inputs = u.inputs ++ i ∷ [];
    is_after = ap (λ (x : Machine). after_input x i) u.is_after ∙ sym (laws.runs at_first u.inputs (i ∷ [])).machine;
    same =
        ap unplugged_in (laws.records u.inputs (i ∷ []))
        ∙ unplugged-append (records u.inputs) (records_from (machine_after u.inputs) (i ∷ []))
        ∙ ap (λ (x : Machine). unplugged_in (records u.inputs) ++ unplugged_in (records_from x (i ∷ []))) (sym u.is_after)
        ∙ ap (λ (l : List ℕ). unplugged_in (records u.inputs) ++ l) none
        ∙ append-nil (unplugged_in (records u.inputs))
        ∙ u.same;
  }

  -- a slice, as its records name it, unplugs nothing
  slice-none : (inputs : List Input) (left : ℕ) (s : Picked) → IsInRange (ask (machine_after inputs) left) s.pick → let m : Machine = machine_after inputs in unplugged_in (records_from m (input_of (as_named m s) ∷ [])) ≡ []
  slice-none inputs left s in_range =
      let m : Machine = machine_after inputs in
      let g : Going = record { machine = m; left = left; entries = [] } in
      let same : SameAsNamed g (s ∷ []) = laws.legs inputs left [] (s ∷ []) (in_range, tt) in
      let entries : records_from m (input_of (as_named m s) ∷ []) ≡ records_from m (input_of s ∷ []) = ap (λ (x : Going). x.entries ++ []) same.leads in
      ap unplugged_in entries ∙ laws.slices (records_from m (input_of s ∷ [])) (as_named m s ∷ []) same.names

  unplugged-slice : (gone : List ℕ) (m : Machine) (left : ℕ) (s : Picked) → IsInRange (ask m left) s.pick → Unplugged gone m → Unplugged gone (after_input m (input_of (as_named m s)))
  unplugged-slice gone m left s in_range u =
      unplugged-more gone m (input_of (as_named m s)) u
      (subst (λ (x : Machine). unplugged_in (records_from x (input_of (as_named x s) ∷ [])) ≡ []) (sym u.is_after) (slice-none u.inputs left s (subst (λ (x : Machine). IsInRange (ask x left) s.pick) u.is_after in_range)))

  -- a run on its way
  run-gone : (gone : List ℕ) (budget : ℕ) (r : Running) (touches more : List Touch) (slices rest : List Picked) → Unplugged gone r.leg.machine → length (asks_in touches) ≡ length slices → AreInRange (asks_in touches) slices → (run_from budget r (named_at touches slices ++ rest)).touches ≡ touches ++ more → GoneBefore gone touches
  run-gone gone budget r [] more slices rest u many in_range is = tt
  run-gone gone budget r (AtUnplug n ∷ touches) more slices rest u many in_range is = absurd (never-unplugs budget r (named_at touches slices ++ rest) n (touches ++ more) is)
  run-gone gone budget r (AtSlice a ∷ touches) more [] rest u many in_range is = absurd (omega (arith, many))
  run-gone gone budget r (AtSlice a ∷ touches) more (s ∷ slices) rest u many in_range is =
      let x : Picked = as_named a.machine s in
      let first = first-touch budget r x (named_at touches slices ++ rest) a (touches ++ more) is in
      let asked : a ≡ ask_of r.leg = first.0 in
      let after : Unplugged gone (after_input r.leg.machine (input_of x)) =
      subst (λ (y : Ask). Unplugged gone (after_input r.leg.machine (input_of (as_named y.machine s)))) (sym asked)
      (unplugged-slice gone r.leg.machine r.leg.left s (subst (λ (y : Ask). IsInRange y s.pick) asked in_range.0) u) in (
        subst (λ (y : Ask). HasNumbers y.machine.kernel → y.machine.kernel.unplugged ≡ gone) (sym asked) (gone-there gone r.leg.machine u),
        run-gone gone budget (next_leg (run_after r x)) touches more slices rest (subst (Unplugged gone) (sym (next-same (run_after r x))) after) (omega (arith, many)) in_range.1 first.1,
      )

  gen-unplugged : (history : List Record) (image typed : List ℕ) → IsRun history → Unplugged (unplugged_in history) (machine_from (machine_of history) (gen_inputs image typed))
  gen-unplugged history image typed run =
      let m : Machine = machine_of history in
      let brought : Machine = after_input m (File gen_name image) in
      let booted : Machine = after_input brought (Boot gen_name) in
      let gone = unplugged_in history in
      unplugged-more gone booted (Typed typed) (
      unplugged-more gone brought (Boot gen_name) (
      unplugged-more gone m (File gen_name image) (unplugged-first history run) (file-none m gen_name image (can_add m gen_name image)))
      (boot-none brought gen_name (find_file brought.kernel.files gen_name) (is_booted brought))) (typed-none booted typed (is_booted booted))

  -- a command
  module _ (g : Given) (history : List Record) (touches more : List Touch) (slices rest : List Picked) (many : length (asks_in touches) ≡ length slices) (in_range : AreInRange (asks_in touches) slices) where
    line-gone : (l : Line) → (((row_of g history l).needs_machine && true) ≡ true → IsRun history) → ((row_of g history l).turn (named_at touches slices ++ rest)).touches ≡ touches ++ more → GoneBefore (unplugged_in history) touches
    line-gone (line.File name bytes) on_run is = none-gone (unplugged_in history) touches more is
    line-gone (line.Boot name) on_run is = none-gone (unplugged_in history) touches more is
    line-gone (line.Type bytes) on_run is = none-gone (unplugged_in history) touches more is
    line-gone (line.Run count) on_run is =
        run-gone (unplugged_in history) count (begun (machine_of history) count) touches more slices rest (unplugged-first history (on_run refl)) many in_range is
    line-gone (line.Unplug device) on_run is = one-gone (unplugged_in history) device touches more is
    line-gone l on_run is = none-gone (unplugged_in history) touches more is

    says-gone : (l : Line) (o : Option Refusal) → (((row_of g history l).needs_machine && is_none o) ≡ true → IsRun history) → (turn_unless o (row_of g history l).turn (named_at touches slices ++ rest)).touches ≡ touches ++ more → GoneBefore (unplugged_in history) touches
    says-gone l None on_run is = line-gone l on_run is
    says-gone l (Some why) on_run is = none-gone (unplugged_in history) touches more is

    generates-gone : (image typed : List ℕ) (processes : ℕ) (o : Option Refusal) → (is_none o ≡ true → IsRun history) → (turn_unless o (generator_turn g.told history image typed processes) (named_at touches slices ++ rest)).touches ≡ touches ++ more → GoneBefore (unplugged_in history) touches
    generates-gone image typed processes (Some why) on_run is = none-gone (unplugged_in history) touches more is
    generates-gone image typed processes None on_run is =
        let m : Machine = machine_from (machine_of history) (gen_inputs image typed) in
        let h : List Record = history ++ records_from (machine_of history) (gen_inputs image typed) in
        let quiet = quiet-touches h (run m MOST_RUN) (λ all. g.told.generated all processes) (named_at touches slices ++ rest) in
        run-gone (unplugged_in history) MOST_RUN (begun m MOST_RUN) touches more slices rest (gen-unplugged history image typed (on_run refl)) many in_range (sym quiet ∙ is)

    pub turn-gone : (c : Command) → (needs_machine g history c ≡ true → IsRun history) → (turn g history c (named_at touches slices ++ rest)).touches ≡ touches ++ more → GoneBefore (unplugged_in history) touches
    turn-gone PassedOver on_run is = none-gone (unplugged_in history) touches more is
    turn-gone TooLong on_run is = none-gone (unplugged_in history) touches more is
    turn-gone Unreadable on_run is = none-gone (unplugged_in history) touches more is
    turn-gone (Says l) on_run is = says-gone l (row_of g history l).refusal on_run is
    turn-gone (Faulty at) on_run is = none-gone (unplugged_in history) touches more is
    turn-gone (Generates image typed processes) on_run is = generates-gone image typed processes (generator_refusal history) on_run is
