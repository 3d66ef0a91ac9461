-- Where what a record says can't be what a process did that sees this.
use Rattle.std.specs.Prelude.{ℕ, ◌-◌, ◌^◌, ◌==◌, nat_lt, ◌&&◌, ◌||◌, not, Bool, if◌then◌else◌, List, [], ◌∷◌, length, Option, Some, None, is_none}
use Rattle.arn_base.specs.declared.machine.Cpu.{Cpu}
use Rattle.arn_base.specs.declared.records.Extra.{Extra}
use Rattle.arn_base.specs.declared.records.Extra.TheVariants as extra
use Rattle.arn_base.specs.declared.records.Record.{Record}
use Rattle.arn_base.specs.declared.records.Record.TheVariants as entry
use Rattle.rv64_model.specs.Instruction.{Effect, Next, Call, End}
use Rattle.parts_model.specs.declared.limits.TheConstants.{MOST_BLOCK_BYTES}
use Rattle.parts_model.specs.declared.refusals.TheConstants.{BAD_ARGUMENT}
use Rattle.parts_model.specs.Image.{is_image}
use Rattle.acts_model.specs.Acts.{Act, Returns, Receives, Gives, Starts, Forks, Founds, Shares, Leaves, Delivers, Exits, Faults, Dies}
use Rattle.acts_model.specs.Bodies.{View}
use Rattle.acts_model.specs.Told.{kind_of, call_act}
use Rattle.acts_model.specs.Views.{bytes_in, can_reach, call_number, error}

-- what the record says, and what is found in its place
pub record Wrong : Type 0 where
  pub said : ℕ
  pub found : ℕ

abbrev pub wrong_if : Bool → ℕ → ℕ → Option Wrong
wrong_if test said found = if test then Some (record { said = said; found = found }) else None

-- the first, or else the next
abbrev pub or_else : Option Wrong → Option Wrong → Option Wrong
or_else None next = next
or_else (Some wrong) next = Some wrong

-- the process doesn't stand at a call
abbrev pub isnt_call : Effect → ℕ → Option Wrong
isnt_call (Next instr cpu memory) number = Some (record { said = number; found = 2 ^ 64 - 1 })
isnt_call Call number = None
isnt_call (End status) number = Some (record { said = number; found = 2 ^ 64 - 1 })

-- it stands at another call
abbrev pub is_other_call : Cpu → ℕ → Option Wrong
is_other_call cpu number = wrong_if (not (number == call_number cpu)) number (call_number cpu)

-- bytes that were given away aren't those in memory: the first that differs
abbrev pub first_difference : List ℕ → List ℕ → Option Wrong
first_difference [] found = None
first_difference (b ∷ said) [] = None
first_difference (b ∷ said) (c ∷ found) = if b == c then first_difference said found else Some (record { said = b; found = c })

-- or aren't whole in one window, which 256 says
abbrev pub differ_from : List ℕ → Option (List ℕ) → Option Wrong
differ_from [] found = None
differ_from (b ∷ said) None = Some (record { said = b; found = 256 })
differ_from (b ∷ said) (Some found) = first_difference (b ∷ said) found

-- so many bytes aren't whole in one window; no bytes are nowhere outside
abbrev pub is_outside : View → ℕ → ℕ → Bool
is_outside v at len = nat_lt 0 len && not (can_reach v at len)

-- the bytes that a write gave, as its record holds them; a write to a pipe holds none
abbrev pub given_wrong : View → ℕ → ℕ → ℕ → Extra → Option Wrong
given_wrong v at len result (extra.Put file place bytes) = differ_from bytes (bytes_in v at len)
given_wrong v at len result (extra.Console bytes) = differ_from bytes (bytes_in v at len)
given_wrong v at len result (extra.Sent device bytes) = differ_from bytes (bytes_in v at len)
given_wrong v at len result more = wrong_if (is_outside v at len) result 0

-- an argument block is too long, or isn't there
abbrev pub isnt_block : View → ℕ → ℕ → Bool
isnt_block v block len = nat_lt MOST_BLOCK_BYTES len || is_outside v block len

-- what an act that a record tells can't do for a process that sees this
abbrev pub act_wrong : View → Act → Extra → Option Wrong
act_wrong v (Returns result) more = None
act_wrong v (Receives at bytes result) more = wrong_if (is_outside v at (length bytes)) (length bytes) 0
act_wrong v (Gives at len result) more = given_wrong v at len result more
act_wrong v (Starts file block len) more = or_else (wrong_if (not (is_image file)) (length file) 0) (wrong_if (isnt_block v block len) len 0)
act_wrong v (Forks child) more = None
act_wrong v (Founds child) more = None
act_wrong v Shares more = None
act_wrong v Leaves more = wrong_if (is_none v.body.slot) 0 (error BAD_ARGUMENT)
act_wrong v (Delivers signal handler cut) more = None
act_wrong v Exits more = None
act_wrong v (Faults status) more = None
act_wrong v (Dies signal cut) more = None

-- a fault ends the process with another status, or, which 256 says, none does
abbrev pub status_wrong : Effect → ℕ → Option Wrong
status_wrong (Next instr cpu memory) status = Some (record { said = status; found = 256 })
status_wrong Call status = Some (record { said = status; found = 256 })
status_wrong (End found) status = wrong_if (not (status == found)) status found

-- a call's record: where the process stands, and what its act needs
abbrev pub call_wrong : View → Effect → ℕ → ℕ → Extra → Option Wrong
call_wrong v effect number result more =
    or_else (isnt_call effect number)
    (or_else (is_other_call v.body.cpu number) (act_wrong v (call_act (kind_of number) v.body.cpu result more) more))

-- what is wrong with a record, for a process that sees this and whose next instruction comes to this
abbrev pub wrong_with : View → Effect → Record → Option Wrong
wrong_with v effect (entry.Call pid number result more) = call_wrong v effect number result more
wrong_with v effect (entry.End pid status) = status_wrong effect status
wrong_with v effect (entry.Boot name give) = act_wrong v (Starts give.bytes 0 0) extra.Nothing
wrong_with v effect (entry.File name bytes) = None
wrong_with v effect (entry.Typed bytes) = None
wrong_with v effect (entry.Unplug device) = None
wrong_with v effect (entry.Slice pid ran) = None
wrong_with v effect (entry.Signal pid signal cut handler) = None
