-- What commands do that are refused, that print, or that become an event.
use Rattle.std.proofs.Common.{◌≡◌, ◌⊎◌, ◌≤◌, inl, inr, sym, ℕ, ◌++◌, Bool, true, false, List, [], ◌∷◌, Option, Some, None, refl, ap, ◌∙◌, subst, append-nil, arith, ◌&&◌, if◌then◌else◌, is_none}
use Rattle.std.proofs.lemmas.Bool.{false≢true}
use Rattle.arn_base.specs.declared.records.Record.{Record}
use Rattle.arn_base.specs.declared.records.Record.TheVariants as entry
use Rattle.parts_model.specs.Files.{find_file, file_bytes}
use Rattle.parts_model.specs.Image.{is_image}
use Rattle.parts_model.specs.Tagged.{values}
use Rattle.parts_model.specs.declared.tagged.TaggedByte.{TaggedByte}
use Rattle.arn_model.specs.Kernel.{Machine}
use Rattle.arn_model.specs.Run.{Input, File, Boot, Typed, boot_found, boot_from, boot_step, can_add, file_step, is_booted, typed_step}
use Rattle.log_model.specs.Records.{event_records, records_from, reply_behind}
use Rattle.arn_lines.specs.declared.answer.Refusal.{Refusal}
use Rattle.arn_lines.specs.declared.answer.RunEnd.{RunEnd}
use Rattle.arn_lines.specs.declared.line.Line.{Line}
use Rattle.arn_lines.specs.declared.line.Line.TheVariants as line
use Rattle.arn_lines.specs.declared.line.Question.{Question}
use Rattle.arn_lines.specs.Texts.{event_text, refusal_text}
use Rattle.arn_commands.specs.declared.command.Command.{Command}
use Rattle.arn_commands.specs.declared.command.Command.TheVariants.{Generates, PassedOver, Says}
use Rattle.session_effects.specs.Carrying.{IsAtCommit}
use Rattle.session_effects.specs.Effects.{Prints, committed}
use Rattle.session_runs.specs.Points.{slices_in}
use Rattle.session_runs.specs.Ready.{machine_of}
use Rattle.session_runs.specs.Runs.{begun, ended, ends, run, unless_ended}
use Rattle.history_model.specs.Unplugged.{unplugged_in}
use Rattle.session_runs.specs.Turns.{Point, cut_off, does, finished, prints}
use Rattle.session_commands.specs.Cost.{cost, machine_cost}
use Rattle.session_commands.specs.Events.{event_effects, input_of, unplugging}
use Rattle.session_commands.specs.Generator.{generator_turn}
use Rattle.session_commands.specs.Given.{Given}
use Rattle.session_commands.specs.Lines.{command_refusal, needs_machine, turn, turn_unless}
use Rattle.session_commands.specs.Rows.{LineTells, row_of}
use Rattle.session_commands.specs.declared.events.Incoming.{Incoming}
use Rattle.session_commands.specs.declared.events.Incoming.TheVariants as incoming
use Rattle.session_commands.proofs.TurnLemmas.{IsStill, NameNone, first-commit, no-commit, none-next, still-does, still-untouched}

-- records that name no slice, begin with nothing that a slice ends with, and unplug nothing
abbrev pub IsPlain : List Record → Type 0
IsPlain entries = (slices_in entries ≡ []) × (reply_behind entries ≡ None) × (unplugged_in entries ≡ [])

file-plain : (m : Machine) (path bytes : List ℕ) (b : Bool) → IsPlain (event_records (if b then file_step m path bytes ∷ [] else []) ++ [])
file-plain m path bytes true = (refl, refl, refl)
file-plain m path bytes false = (refl, refl, refl)

typed-plain : (m : Machine) (bytes : List ℕ) (b : Bool) → IsPlain (event_records (if b then typed_step m bytes ∷ [] else []) ++ [])
typed-plain m bytes true = (refl, refl, refl)
typed-plain m bytes false = (refl, refl, refl)

image-plain : (m : Machine) (path : List ℕ) (file : ℕ) (held : List TaggedByte) (b : Bool) → IsPlain (event_records (if b then boot_step m path file held ∷ [] else []) ++ [])
image-plain m path file held true = (refl, refl, refl)
image-plain m path file held false = (refl, refl, refl)

from-plain : (m : Machine) (path : List ℕ) (file : ℕ) (o : Option (List TaggedByte)) → IsPlain (event_records (boot_from m path file o) ++ [])
from-plain m path file None = (refl, refl, refl)
from-plain m path file (Some held) = image-plain m path file held (is_image (values held))

found-plain : (m : Machine) (path : List ℕ) (o : Option ℕ) → IsPlain (event_records (boot_found m path o) ++ [])
found-plain m path None = (refl, refl, refl)
found-plain m path (Some file) = from-plain m path file (file_bytes m.kernel.files file)

boot-plain : (m : Machine) (path : List ℕ) (o : Option ℕ) (b : Bool) → IsPlain (event_records (if b then [] else boot_found m path o) ++ [])
boot-plain m path o true = (refl, refl, refl)
boot-plain m path o false = found-plain m path o

-- a file, a boot and a typed piece have such records
pub plain-file : (m : Machine) (path bytes : List ℕ) → IsPlain (records_from m (File path bytes ∷ []))
plain-file m path bytes = file-plain m path bytes (can_add m path bytes)

pub plain-boot : (m : Machine) (path : List ℕ) → IsPlain (records_from m (Boot path ∷ []))
plain-boot m path = boot-plain m path (find_file m.kernel.files path) (is_booted m)

pub plain-typed : (m : Machine) (bytes : List ℕ) → IsPlain (records_from m (Typed bytes ∷ []))
plain-typed m bytes = typed-plain m bytes (is_booted m)

pub plain-given : (m : Machine) (i : Incoming) → IsPlain (records_from m (input_of i ∷ []))
plain-given m (incoming.File name bytes) = plain-file m name.now bytes.now
plain-given m (incoming.Boot name) = plain-boot m name.now
plain-given m (incoming.Typed bytes) = plain-typed m bytes.now

-- no slice is taken where they are committed
pub plain-effects : (m : Machine) (i : Input) → IsPlain (records_from m (i ∷ [])) → IsPlain (committed (event_effects m i))
plain-effects m i plain =
    let same = append-nil (records_from m (i ∷ [])) in (
      ap slices_in same ∙ plain.0,
      ap reply_behind same ∙ plain.1,
      ap unplugged_in same ∙ plain.2,
    )

still-event : (m : Machine) (i : Input) (from : Point) → from ≡ does (event_effects m i) [] → IsPlain (records_from m (i ∷ [])) → IsStill from
still-event m i from is plain =
    still-does from (event_effects m i) is
    (λ entries at. subst NameNone (sym (first-commit (records_from m (i ∷ [])) entries (Prints (event_text m.events) ∷ []) at)) (plain.0, plain.2))

still-text : (text : List ℕ) → IsStill (prints text)
still-text text = still-does (prints text) (Prints text ∷ []) refl (λ entries at. absurd (no-commit text entries [] at))

still-run : (m : Machine) (count : ℕ) → IsStill (run m count)
still-run m count = still-untouched (run m count) (none_touched (ends (begun m count))) (none_left (ends (begun m count))) (no_names (ends (begun m count)))
  where
    none_touched : (o : Option RunEnd) → (unless_ended o (λ end. ended count (begun m count) end []) cut_off).touches ≡ []
    none_touched None = refl
    none_touched (Some end) = refl

    none_left : (o : Option RunEnd) → ((unless_ended o (λ end. ended count (begun m count) end []) cut_off).left ≡ None) ⊎ ((unless_ended o (λ end. ended count (begun m count) end []) cut_off).left ≡ Some [])
    none_left None = inl refl
    none_left (Some end) = inr refl

    no_names : (o : Option RunEnd) → (entries : List Record) → IsAtCommit (unless_ended o (λ end. ended count (begun m count) end []) cut_off).effects entries → NameNone entries
    no_names None entries at = absurd (none-next entries at)
    no_names (Some end) entries at = absurd (no-commit _ entries [] at)

-- a device that is unplugged
pub still-unplugging : (m : Machine) (device : ℕ) → IsStill (unplugging m device)
still-unplugging m device = record {
  one = omega arith;
  none_asked = refl;
  left = inr refl;
  names = λ entries at.
      let same = first-commit (entry.Unplug device ∷ []) entries (Prints (event_text m.events) ∷ []) at in
      (ap slices_in same, ap unplugged_in same);
}

-- without slices no line asks for one
pub still-line : (g : Given) (history : List Record) (l : Line) → IsStill (row_of g history l).turn
still-line g history (line.File name bytes) = still-event (machine_of history) (File name bytes) _ refl (plain-file (machine_of history) name bytes)
still-line g history (line.Boot name) = still-event (machine_of history) (Boot name) _ refl (plain-boot (machine_of history) name)
still-line g history (line.Type bytes) = still-event (machine_of history) (Typed bytes) _ refl (plain-typed (machine_of history) bytes)
still-line g history (line.Run count) = still-run (machine_of history) count
still-line g history (line.Unplug device) = still-unplugging (machine_of history) device
still-line g history l = still-text _

-- a line that needs no machine prints a text, and does nothing else
pub record IsText (g : Given) (history : List Record) (l : Line) : Type 0 where
  pub text : List ℕ
  pub is : LineTells g history l text

pub text-line : (g : Given) (history : List Record) (l : Line) → (row_of g history l).needs_machine ≡ false → IsText g history l
text-line g history (line.File name bytes) none = absurd (false≢true (sym none))
text-line g history (line.Boot name) none = absurd (false≢true (sym none))
text-line g history (line.Type bytes) none = absurd (false≢true (sym none))
text-line g history (line.Run count) none = absurd (false≢true (sym none))
text-line g history (line.Unplug device) none = absurd (false≢true (sym none))
text-line g history l none = record { text = _; is = refl }

-- texts that are all that a line prints are one
pub text-same : (g : Given) (history : List Record) (l : Line) (text other : List ℕ) → LineTells g history l text → LineTells g history l other → text ≡ other
text-same g history l text other a b =
    let e : Prints text ∷ [] ≡ Prints other ∷ [] = ap (λ (p : Point). (p []).effects) (sym a ∙ b) in
    cc

-- no other line needs the machine, and none of the others is refused
pub others-need-none : (g : Given) (history : List Record) (l : Line) → ((name bytes : List ℕ) → l ≡ line.File name bytes → ⊥) → ((name : List ℕ) → l ≡ line.Boot name → ⊥) → ((bytes : List ℕ) → l ≡ line.Type bytes → ⊥) → ((count : ℕ) → l ≡ line.Run count → ⊥) → ((device : ℕ) → l ≡ line.Unplug device → ⊥) → (row_of g history l).needs_machine ≡ false
others-need-none g history (line.File name bytes) file boot typed run unplug = absurd (file name bytes refl)
others-need-none g history (line.Boot name) file boot typed run unplug = absurd (boot name refl)
others-need-none g history (line.Type bytes) file boot typed run unplug = absurd (typed bytes refl)
others-need-none g history (line.Run count) file boot typed run unplug = absurd (run count refl)
others-need-none g history (line.Unplug device) file boot typed run unplug = absurd (unplug device refl)
others-need-none g history l file boot typed run unplug = refl

pub others-are-answered : (g : Given) (history : List Record) (l : Line) → ((name bytes : List ℕ) → l ≡ line.File name bytes → ⊥) → ((name : List ℕ) → l ≡ line.Boot name → ⊥) → ((bytes : List ℕ) → l ≡ line.Type bytes → ⊥) → ((count : ℕ) → l ≡ line.Run count → ⊥) → ((device : ℕ) → l ≡ line.Unplug device → ⊥) → (row_of g history l).refusal ≡ None
others-are-answered g history (line.File name bytes) file boot typed run unplug = absurd (file name bytes refl)
others-are-answered g history (line.Boot name) file boot typed run unplug = absurd (boot name refl)
others-are-answered g history (line.Type bytes) file boot typed run unplug = absurd (typed bytes refl)
others-are-answered g history (line.Run count) file boot typed run unplug = absurd (run count refl)
others-are-answered g history (line.Unplug device) file boot typed run unplug = absurd (unplug device refl)
others-are-answered g history l file boot typed run unplug = refl

pub still-finished : IsStill finished
still-finished = still-untouched finished refl (inr refl) (λ entries at. absurd (none-next entries at))

and-false : (b : Bool) → (b && false) ≡ false
and-false true = refl
and-false false = refl

-- a refused command prints why, and needs no machine
pub turn-refused : (g : Given) (history : List Record) (command : Command) (why : Refusal) → command_refusal g history command ≡ Some why → turn g history command ≡ prints (refusal_text why)
turn-refused g history PassedOver why is = absurd cc
turn-refused g history (Says l) why is = ap (λ (o : Option Refusal). turn_unless o (row_of g history l).turn) is
turn-refused g history (Generates image typed processes) why is = ap (λ (o : Option Refusal). turn_unless o (generator_turn g.told history image typed processes)) is
turn-refused g history _ why is = ap (λ (o : Option Refusal). turn_unless o finished) is

pub needs-refused : (g : Given) (history : List Record) (command : Command) (why : Refusal) → command_refusal g history command ≡ Some why → needs_machine g history command ≡ false
needs-refused g history (Says l) why is = ap (λ (o : Option Refusal). (row_of g history l).needs_machine && is_none o) is ∙ and-false (row_of g history l).needs_machine
needs-refused g history (Generates image typed processes) why is = ap (λ (o : Option Refusal). is_none o) is
needs-refused g history _ why is = refl

-- what is neither passed over nor a line nor the generator's is refused
pub others-refused : (g : Given) (history : List Record) (command : Command) → command_refusal g history command ≡ None → (command ≡ PassedOver → ⊥) → ((l : Line) → command ≡ Says l → ⊥) → ((image typed : List ℕ) (processes : ℕ) → command ≡ Generates image typed processes → ⊥) → ⊥
others-refused g history PassedOver none passed says generates = passed refl
others-refused g history (Says l) none passed says generates = says l refl
others-refused g history (Generates image typed processes) none passed says generates = generates image typed processes refl
others-refused g history _ none passed says generates = absurd cc

-- a line that isn't refused goes on
pub turn-line : (g : Given) (history : List Record) (l : Line) → (row_of g history l).refusal ≡ None → turn g history (Says l) ≡ (row_of g history l).turn
turn-line g history l is = ap (λ (o : Option Refusal). turn_unless o (row_of g history l).turn) is

pub needs-none : (g : Given) (history : List Record) (l : Line) → (row_of g history l).needs_machine ≡ false → needs_machine g history (Says l) ≡ false
needs-none g history l none = ap (λ (b : Bool). b && is_none (row_of g history l).refusal) none

pub needs-one : (g : Given) (history : List Record) (l : Line) → (row_of g history l).needs_machine ≡ true → (row_of g history l).refusal ≡ None → needs_machine g history (Says l) ≡ true
needs-one g history l needs is = ap (λ (b : Bool). b && is_none (row_of g history l).refusal) needs ∙ ap (λ (o : Option Refusal). true && is_none o) is

-- what a line costs, whatever the history behind it: the machine alone, where it needs that
row-free : (g : Given) (history : List Record) (l : Line) → (row_of g history l).needs_machine ≡ true → (row_of g history l).cost ≡ 0
row-free g history (line.Asks question) needs = absurd (false≢true needs)
row-free g history _ needs = refl

pub cost-changed : (g : Given) (is_there : Bool) (history behind : List Record) (l : Line) → (row_of g history l).needs_machine ≡ true → (row_of g history l).refusal ≡ None → machine_cost is_there history ≡ cost g is_there history behind (Says l)
cost-changed g is_there history behind l needs is =
    let e : (if needs_machine g history (Says l) then machine_cost is_there history else 0) ≡ machine_cost is_there history = ap (λ (b : Bool). if b then machine_cost is_there history else 0) (needs-one g history l needs is) in
    omega (arith, e, row-free g history l needs)

pub cost-machine : (g : Given) (is_there : Bool) (history behind : List Record) (l : Line) → (row_of g history l).needs_machine ≡ true → (row_of g history l).refusal ≡ None → machine_cost is_there history ≤ cost g is_there history behind (Says l)
cost-machine g is_there history behind l needs is = omega (arith, cost-changed g is_there history behind l needs is)

pub cost-told : (g : Given) (is_there : Bool) (history behind : List Record) (l : Line) → (row_of g history l).cost ≤ cost g is_there history behind (Says l)
cost-told g is_there history behind l = omega arith

-- there are no other lines
pub no-others : (l : Line) → ((name bytes : List ℕ) → l ≡ line.File name bytes → ⊥) → ((name : List ℕ) → l ≡ line.Boot name → ⊥) → ((bytes : List ℕ) → l ≡ line.Type bytes → ⊥) → ((question : Question) → l ≡ line.Asks question → ⊥) → ((count : ℕ) → l ≡ line.Run count → ⊥) → ((device : ℕ) → l ≡ line.Unplug device → ⊥) → ⊥
no-others (line.File name bytes) file boot typed asks run unplug = file name bytes refl
no-others (line.Boot name) file boot typed asks run unplug = boot name refl
no-others (line.Type bytes) file boot typed asks run unplug = typed bytes refl
no-others (line.Run count) file boot typed asks run unplug = run count refl
no-others (line.Unplug device) file boot typed asks run unplug = unplug device refl
no-others (line.Asks question) file boot typed asks run unplug = asks question refl
