-- Why lines are refused. The line and the records of the history tell, and no machine is needed.
use Rattle.std.specs.Prelude.{ℕ, ◌^◌, ◌&&◌, nat_lt, not, Bool, true, false, if◌then◌else◌, List, Option, Some, None, is_none}
use Rattle.arn_base.specs.declared.records.Record.{Record}
use Rattle.parts_model.specs.Image.{image_of}
use Rattle.history_model.specs.Names.{is_booted, brought, may_bring}
use Rattle.history_model.specs.Unplugged.{is_gone}
use Rattle.session_commands.specs.Generator.{gen_name}
use Rattle.arn_lines.specs.declared.answer.Refusal.{Refusal}
use Rattle.arn_lines.specs.declared.answer.Refusal.TheVariants.{NoBoot, NoBooted, NoAsm, NoName, NoImage, NoDevice}

-- a refusal where something holds
abbrev pub refused_if : Bool → Refusal → Option Refusal
refused_if true why = Some why
refused_if false why = None

-- a file is brought before the boot, under a name that is free
abbrev pub bring_refusal : List Record → List ℕ → Option Refusal
bring_refusal history name = if is_booted history then Some NoBooted else refused_if (not (may_bring history name)) NoName

-- the file of a boot isn't there, or it is no image
abbrev pub file_refusal : Option (List ℕ) → Option Refusal
file_refusal None = Some NoName
file_refusal (Some bytes) = refused_if (is_none (image_of bytes)) NoImage

-- a machine is booted once, from an image that was brought
abbrev pub boot_refusal : List Record → List ℕ → Option Refusal
boot_refusal history name = if is_booted history then Some NoBooted else file_refusal (brought history name)

-- what comes behind the boot alone
abbrev pub early_refusal : List Record → Option Refusal
early_refusal history = refused_if (not (is_booted history)) NoBoot

-- a device has a number of 32 bits, and is there
abbrev pub is_there : (ℕ → Bool) → ℕ → Bool
is_there filled device = nat_lt device (2 ^ 32) && filled device

-- it can be unplugged, once in a history
abbrev pub can_unplug : (ℕ → Bool) → List Record → ℕ → Bool
can_unplug filled history device = is_there filled device && not (is_gone history device)

-- a device is unplugged behind the boot, where it is there and the history didn't unplug it
abbrev pub unplug_refusal : (ℕ → Bool) → List Record → ℕ → Option Refusal
unplug_refusal filled history device = if is_booted history then refused_if (not (can_unplug filled history device)) NoDevice else Some NoBoot

-- why a block is refused whose program has a fault on this line
abbrev pub fault_refusal : List Record → ℕ → Refusal
fault_refusal history at = if is_booted history then NoBooted else NoAsm at

-- why the generator is refused: as a file of its name would be
abbrev pub generator_refusal : List Record → Option Refusal
generator_refusal history = bring_refusal history gen_name
