-- What a script tells.
use Rattle.std.specs.Prelude.{[], Option, None, Some}
use Rattle.arn_base.specs.Device.{DeviceReply, Faults, Gives}
use Rattle.arn_base.specs.declared.boxes.Choice.{Choice}
use Rattle.guest_devices.specs.declared.devices.ScriptReply.{ScriptReply}
use Rattle.guest_devices.specs.declared.devices.ScriptReply.TheVariants as script

-- the reply at a place; no bytes where the script is used up
abbrev pub told_by : Option ScriptReply → DeviceReply
told_by (Some script.Fault) = Faults
told_by (Some (script.Bytes bytes)) = Gives bytes
told_by None = Gives []

-- the choice of a script that is used up
abbrev pub last_choice : Choice
last_choice = record { index = 0; count = 1 }
