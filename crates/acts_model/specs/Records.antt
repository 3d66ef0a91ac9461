-- What one record tells by itself: whose event it is, how long, and what it changes.
use Rattle.std.specs.Prelude.{ℕ, ◌==◌, nat_le, ◌&&◌, Bool, true, false, if◌then◌else◌, List, length, Option, Some, None, is_some, option_map, option_and_then, unwrap_or}
use Rattle.arn_base.specs.declared.records.Extra.{Extra}
use Rattle.arn_base.specs.declared.records.Extra.TheVariants as extra
use Rattle.arn_base.specs.declared.records.Give.{Give}
use Rattle.arn_base.specs.declared.records.Record.{Record}
use Rattle.arn_base.specs.declared.records.Record.TheVariants as entry
use Rattle.arn_base.specs.declared.records.Start.{Start}
use Rattle.parts_model.specs.declared.calls.TheConstants.{EXIT, FORK, OPEN, WRITE, UNLINK}
use Rattle.parts_model.specs.declared.limits.TheConstants.{MOST_TRANSFER}
use Rattle.parts_model.specs.Replies.{is_success}

-- every record is an event but a slice
abbrev pub is_event : Record → Bool
is_event (entry.Slice pid ran) = false
is_event other = true

-- the process of a record, if it has one
abbrev pub process_of : Record → Option ℕ
process_of (entry.File name bytes) = None
process_of (entry.Boot name give) = Some 1
process_of (entry.Typed bytes) = None
process_of (entry.Unplug device) = None
process_of (entry.Slice pid ran) = Some pid
process_of (entry.Signal pid signal cut handler) = Some pid
process_of (entry.Call pid number result more) = Some pid
process_of (entry.End pid status) = Some pid

-- how many bytes what a call did holds, if it holds a list of them
abbrev pub held_len : Extra → Option ℕ
held_len (extra.Give give) = Some (length give.bytes)
held_len (extra.Put file at bytes) = Some (length bytes)
held_len (extra.Console bytes) = Some (length bytes)
held_len (extra.Reply device bytes) = Some (length bytes)
held_len (extra.Sent device bytes) = Some (length bytes)
held_len extra.Nothing = None
held_len (extra.Start start) = None
held_len extra.Fault = None
held_len extra.Absent = None
held_len (extra.Name file path) = None

-- it did nothing more
abbrev pub is_nothing : Extra → Bool
is_nothing extra.Nothing = true
is_nothing other = false

-- a write to a pipe holds no bytes: its result counts them
abbrev pub counts_itself : ℕ → ℕ → Extra → Bool
counts_itself number result more = (number == WRITE) && (is_nothing more && nat_le result MOST_TRANSFER)

-- else a call has no bytes, but for the status byte of an exit
abbrev pub plain_len : ℕ → ℕ → Extra → ℕ
plain_len number result more = if counts_itself number result more then result else if number == EXIT then 1 else 0

-- how many bytes an event has, as its record tells
abbrev pub event_len : Record → ℕ
event_len (entry.File name bytes) = length bytes
event_len (entry.Boot name give) = length give.bytes
event_len (entry.Typed bytes) = length bytes
event_len (entry.Unplug device) = 0
event_len (entry.Slice pid ran) = 0
event_len (entry.Signal pid signal cut handler) = if handler == 0 then 1 else 0
event_len (entry.Call pid number result more) = unwrap_or (held_len more) (plain_len number result more)
event_len (entry.End pid status) = 1

-- what a record tells of a child: its number, and how it begins where it starts a group. Else it joins its maker's group
pub record Child : Type 0 where
  pub number : ℕ
  pub start : Option Start

-- how a child begins, if what a call did holds it
abbrev pub start_held : Extra → Option Start
start_held (extra.Start start) = Some start
start_held more = None

abbrev pub child_forked : ℕ → Extra → Child
child_forked result more = record { number = result; start = start_held more }

-- a fork that succeeds makes a child
abbrev pub child_called : ℕ → ℕ → Extra → Option Child
child_called number result more = if (number == FORK) && is_success result then Some (child_forked result more) else None

-- the child that a record tells of, if it makes one
abbrev pub child_told : Record → Option Child
child_told (entry.Call pid number result more) = child_called number result more
child_told other = None

-- its number
abbrev pub child_number : Option Child → Option ℕ
child_number child = option_map (λ c. c.number) child

-- how it begins, if it starts a group
abbrev pub child_start : Option Child → Option Start
child_start child = option_and_then (λ c. c.start) child

-- whether it starts a group
abbrev pub is_founder : Child → Bool
is_founder child = is_some child.start

-- its number, if it starts a group
abbrev pub child_founded : Option Child → Option ℕ
child_founded child = option_and_then (λ c. if is_founder c then Some c.number else None) child

-- a process begins, or it ends
pub data LifeChange : Type 0 where
  BeginsLife : (pid : ℕ) → LifeChange
  EndsLife : (pid : ℕ) → LifeChange
  NoLife : LifeChange

-- a child begins, if there is one
abbrev pub child_life : Option Child → LifeChange
child_life None = NoLife
child_life (Some child) = BeginsLife child.number

abbrev pub call_life : ℕ → ℕ → ℕ → Extra → LifeChange
call_life pid number result more = if number == EXIT then EndsLife pid else child_life (child_called number result more)

abbrev pub life_told : Record → LifeChange
life_told (entry.File name bytes) = NoLife
life_told (entry.Boot name give) = BeginsLife 1
life_told (entry.Typed bytes) = NoLife
life_told (entry.Unplug device) = NoLife
life_told (entry.Slice pid ran) = NoLife
life_told (entry.Signal pid signal cut handler) = if handler == 0 then EndsLife pid else NoLife
life_told (entry.Call pid number result more) = call_life pid number result more
life_told (entry.End pid status) = EndsLife pid

-- whether a process lives after it, by whether it lived before
abbrev pub lives_after : LifeChange → ℕ → Bool → Bool
lives_after (BeginsLife p) pid before = if p == pid then true else before
lives_after (EndsLife p) pid before = if p == pid then false else before
lives_after NoLife pid before = before

-- a name stands for a file from now on, or for none
pub data NameChange : Type 0 where
  Names : (path : List ℕ) → (file : ℕ) → NameChange
  Unnames : (path : List ℕ) → NameChange
  NoName : NameChange

abbrev pub call_name : ℕ → Extra → NameChange
call_name number (extra.Name file path) = if number == OPEN then Names path file else if number == UNLINK then Unnames path else NoName
call_name number more = NoName

-- what a call's record tells of names
abbrev pub name_told : Record → NameChange
name_told (entry.Call pid number result more) = call_name number more
name_told other = NoName

-- bytes that were written to a file, from a place on
pub record Written : Type 0 where
  pub file : ℕ
  pub at : ℕ
  pub bytes : List ℕ

abbrev pub call_put : ℕ → Extra → Option Written
call_put number (extra.Put file at bytes) = if number == WRITE then Some (record { file = file; at = at; bytes = bytes }) else None
call_put number more = None

abbrev pub put_told : Record → Option Written
put_told (entry.Call pid number result more) = call_put number more
put_told other = None

-- what was received with its origins, by a boot or a call
abbrev pub give_in : Extra → Option Give
give_in (extra.Give give) = Some give
give_in more = None

abbrev pub give_of : Record → Option Give
give_of (entry.Boot name give) = Some give
give_of (entry.Call pid number result more) = give_in more
give_of other = None
