-- A group alone: what its own records make of it, one record after the other, up to a moment, without a kernel and other groups.
use Rattle.std.specs.Prelude.{ℕ, zero, suc, ◌+◌, ◌-◌, ◌^◌, ◌==◌, nat_le, ◌&&◌, min, Bool, true, false, if◌then◌else◌, List, [], ◌∷◌, ◌++◌, Option, Some, None}
use Rattle.arn_base.specs.declared.records.Record.{Record}
use Rattle.arn_base.specs.declared.records.Record.TheVariants as entry
use Rattle.arn_base.specs.declared.records.Start.{Start}
use Rattle.rv64_model.specs.Instruction.{Effect, Next, Call, End}
use Rattle.acts_model.specs.Acts.{Act, begun, beginning_in, done, unborn}
use Rattle.acts_model.specs.Bodies.{Bodies, View, nobody, put, seen}
use Rattle.acts_model.specs.Disagreement.{Wrong, wrong_with}
use Rattle.acts_model.specs.Moved.{Inside}
use Rattle.acts_model.specs.Records.{child_called, child_start}
use Rattle.acts_model.specs.Told.{act_of}
use Rattle.acts_model.specs.Transfers.{Begins, holds_of, transfer, instr_transfer}
use Rattle.acts_model.specs.Views.{stands_at, after_instr}
use Rattle.history_model.specs.Groups.{Groups, groups_told, is_number}

-- what a replay has made: the bodies of the group's processes, and what happened inside it
pub record Own : Type 0 where
  pub bodies : Bodies
  pub inside : List Inside

-- nothing yet
abbrev pub nothing_own : Own
nothing_own = record { bodies = nobody; inside = [] }

-- the records say what can't be: at the event that comes next, this is said and this is found
pub record Disagrees : Type 0 where
  pub event : ℕ
  pub said : ℕ
  pub found : ℕ

-- what there is of a replay: what it has made, or the first disagreement
pub data Made : Type 0 where
  Makes : Own → Made
  Fails : Disagrees → Made

-- what follows, unless the records disagree already
abbrev pub and_then : Made → (Own → Made) → Made
and_then (Makes own) goes_on = goes_on own
and_then (Fails disagrees) goes_on = Fails disagrees

-- something more happens inside, with these bodies after it
abbrev pub noted : Inside → Bodies → Own → Own
noted i bodies own = record { bodies = bodies; inside = own.inside ++ i ∷ [] }

-- an instruction of a process that sees this, if the next one follows it
abbrev pub plain_by : ℕ → Own → View → Effect → Option Own
plain_by pid own v (Next instr cpu memory) =
    Some (noted (record { actor = Some pid; before = v.body.cpu; transfer = instr_transfer pid v.body.cpu (holds_of v.body) instr; event = None })
    (put pid (after_instr cpu memory v) own.bodies) own)
plain_by pid own v Call = None
plain_by pid own v (End status) = None

abbrev pub plain_in : ℕ → Own → Option View → Option Own
plain_in pid own None = None
plain_in pid own (Some v) = plain_by pid own v (stands_at v)

-- The slice at hand: its process, its count, the number of the next event, and that of the event that ends the slice, or would if it had one.
-- By the latter a disagreement of its instructions is named, so that it is the same whatever stands behind the slice.
pub record Slice : Type 0 where
  pub pid : ℕ
  pub ran : ℕ
  pub event : ℕ
  pub end_event : ℕ

-- the count says more instructions than the next ones follow
abbrev pub plain_or : Slice → ℕ → Option Own → (Own → Made) → Made
plain_or slice done None goes_on = Fails (record { event = slice.end_event; said = slice.ran; found = done })
plain_or slice done (Some own) goes_on = goes_on own

-- so many instructions of a slice, of which so many were run before
abbrev pub plains : Slice → ℕ → ℕ → Own → Made
plains slice done zero own = Makes own
plains slice done (suc left) own = plain_or slice done (plain_in slice.pid own (seen own.bodies slice.pid)) (plains slice (suc done) left)

-- an act that a record tells of a process that sees this
abbrev pub act_done : ℕ → ℕ → Record → View → Option Act → Own → Made
act_done pid event e v None own = Makes own
act_done pid event e v (Some act) own =
    Makes (noted (record {
      actor = Some pid;
      before = v.body.cpu;
      transfer = transfer pid event (holds_of v.body) act;
      event = Some (record { number = event; entry = e });
    }) (done pid event act own.bodies) own)

-- unless something is wrong with the record
abbrev pub unless_wrong : ℕ → Option Wrong → Made → Made
unless_wrong event None made = made
unless_wrong event (Some wrong) made = Fails (record { event = event; said = wrong.said; found = wrong.found })

abbrev pub record_done : ℕ → ℕ → Record → View → Own → Made
record_done pid event e v own = unless_wrong event (wrong_with v (stands_at v) e) (act_done pid event e v (act_of v.body.cpu e) own)

abbrev pub record_seen : ℕ → ℕ → Record → Option View → Own → Made
record_seen pid event e None own = Makes own
record_seen pid event e (Some v) own = record_done pid event e v own

-- what a process does at an event, as its record tells it
abbrev pub happens : ℕ → ℕ → Record → Own → Made
happens pid event e own = record_seen pid event e (seen own.bodies pid) own

-- the boot of process 1 does so from nothing
abbrev pub boots : ℕ → Record → Own → Made
boots event e own = record_done 1 event e (unborn event) (record own { bodies = put 1 (unborn event) own.bodies })

-- a slice of no instruction ends with no call and no fault
abbrev pub no_instruction : ℕ → Record → Made → Made
no_instruction event (entry.Call pid number result more) made = Fails (record { event = event; said = number; found = 2 ^ 64 - 1 })
no_instruction event (entry.End pid status) made = Fails (record { event = event; said = status; found = 256 })
no_instruction event other made = made

-- a call or an end by fault: the last instruction of a slice, behind the others
abbrev pub ends_slice : Slice → ℕ → Record → Own → Made
ends_slice slice zero e own = no_instruction slice.event e (Makes own)
ends_slice slice (suc left) e own = and_then (plains slice 0 left own) (happens slice.pid slice.event e)

-- the group's first process begins, with what the fork's record holds
abbrev pub begin_inside : ℕ → ℕ → Record → Start → Inside
begin_inside g event e start =
    record { actor = Some g; before = start.cpu; transfer = Begins g event; event = Some (record { number = event; entry = e }) }

abbrev pub begins : ℕ → ℕ → Record → Start → Own → Own
begins g event e start own = noted (begin_inside g event e start) (begun g event (beginning_in start) own.bodies) own

abbrev pub begins_if : ℕ → ℕ → ℕ → Record → Option Start → Own → Made
begins_if g child event e None own = Makes own
begins_if g child event e (Some start) own = if child == g then Makes (begins g event e start own) else Makes own

-- a group's number is that of its first process
abbrev pub begins_by : ℕ → ℕ → Record → Own → Made
begins_by g event (entry.Call pid number result more) own = begins_if g result event (entry.Call pid number result more) (child_start (child_called number result more)) own
begins_by g event other own = Makes own

-- Where a replay stands. When each part changes:
--
-- `made`        with what a record tells, and with the next slice or the records' end, which run what is owed
-- `groups`      with a boot and with a fork that makes a child
-- `events`      with each event: the number of the next one
-- `moment`      with a slice: the moment behind it
-- `is_begun`,
-- `is_ended`    with a slice: whether its begin and its end come up to the moment until which the group is replayed
-- `owed`        with a slice: how many of its instructions are still to be run. A call or an end by fault that isn't cut off runs
--               all but the last and does the last itself, so that none is owed
-- `pid`, `ran`  with a slice: its process and its count
-- `end_event`   with a slice, and with its delivery: the number that the next event has then. No other record changes it, also no
--               call or end by fault that is cut off
pub record Standing : Type 0 where
  pub made : Made
  pub groups : Groups
  pub events : ℕ
  pub moment : ℕ
  pub is_begun : Bool
  pub is_ended : Bool
  pub owed : ℕ
  pub pid : ℕ
  pub ran : ℕ
  pub end_event : ℕ

abbrev pub at_first : Standing
at_first =
    record {
      made = Makes nothing_own;
      groups = λ p. None;
      events = 0;
      moment = 0;
      is_begun = true;
      is_ended = true;
      owed = 0;
      pid = 0;
      ran = 0;
      end_event = 0;
    }

abbrev pub slice_of : Standing → Slice
slice_of t = record { pid = t.pid; ran = t.ran; event = t.events; end_event = t.end_event }

-- what is owed has been run
abbrev pub settled : Standing → Made
settled t = and_then t.made (plains (slice_of t) 0 t.owed)

-- it goes on where the test holds
abbrev pub made_if : Bool → Made → (Own → Made) → Made
made_if true made goes_on = and_then made goes_on
made_if false made goes_on = made

-- a slice, of which so many instructions come before the moment until which the group is replayed
abbrev pub after_slice : ℕ → ℕ → ℕ → ℕ → Standing → Standing
after_slice g until pid ran t =
    record {
      made = settled t;
      groups = t.groups;
      events = t.events;
      moment = t.moment + ran;
      is_begun = nat_le t.moment until;
      is_ended = nat_le (t.moment + ran) until;
      owed = if is_number g (t.groups pid) then min ran (until - t.moment) else 0;
      pid = pid;
      ran = ran;
      end_event = t.events;
    }

-- a delivery, at the begin of its slice
abbrev pub after_signal : ℕ → ℕ → Record → Standing → Standing
after_signal g pid e t =
    record t {
      made = made_if (t.is_begun && is_number g (t.groups pid)) t.made (happens pid t.events e);
      events = t.events + 1;
      end_event = t.events + 1;
    }

-- a call or an end by fault, at the end of its slice: of the group's own process, and perhaps of another that starts the group
abbrev pub after_last : ℕ → ℕ → Record → Standing → Standing
after_last g pid e t =
    record t {
      made =
          made_if t.is_ended (made_if (t.is_ended && is_number g (t.groups pid)) t.made (ends_slice (slice_of t) t.owed e)) (begins_by g t.events e);
      groups = groups_told e t.groups;
      events = t.events + 1;
      owed = if t.is_ended then 0 else t.owed;
    }

-- the boot starts group 1
abbrev pub after_boot : ℕ → Record → Standing → Standing
after_boot g e t =
    record t { made = made_if (t.is_ended && (g == 1)) t.made (boots t.events e); groups = groups_told e t.groups; events = t.events + 1 }

-- one record more
abbrev pub after_record : ℕ → ℕ → Standing → Record → Standing
after_record g until t (entry.File name bytes) = record t { events = t.events + 1 }
after_record g until t (entry.Boot name give) = after_boot g (entry.Boot name give) t
after_record g until t (entry.Typed bytes) = record t { events = t.events + 1 }
after_record g until t (entry.Unplug device) = record t { events = t.events + 1 }
after_record g until t (entry.Slice pid ran) = after_slice g until pid ran t
after_record g until t (entry.Signal pid signal cut handler) = after_signal g pid (entry.Signal pid signal cut handler) t
after_record g until t (entry.Call pid number result more) = after_last g pid (entry.Call pid number result more) t
after_record g until t (entry.End pid status) = after_last g pid (entry.End pid status) t

abbrev pub replayed : ℕ → ℕ → Standing → List Record → Standing
replayed g until t [] = t
replayed g until t (e ∷ entries) = replayed g until (after_record g until t e) entries

-- what group g is at a moment, made from its own records, with all that happened inside it; or the first disagreement of these
abbrev pub alone : List Record → ℕ → ℕ → Made
alone entries g moment = settled (replayed g moment at_first entries)
