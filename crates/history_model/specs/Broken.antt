-- Which lists of records can't be indexed, whatever the machine would have done: the first record that can't stand behind those before it.
use Rattle.std.specs.Prelude.{ℕ, ◌+◌, ◌*◌, ◌==◌, nat_le, ◌&&◌, ◌||◌, not, Bool, true, false, if◌then◌else◌, List, [], ◌∷◌, ◌++◌, length, max, Option, Some, None, is_some}
use Rattle.std.specs.List.{list_all}
use Rattle.std.specs.Option.{option_map_or}
use Rattle.arn_base.specs.declared.machine.Block.{Block}
use Rattle.arn_base.specs.declared.records.Give.{Give}
use Rattle.arn_base.specs.declared.records.Origin.{Origin}
use Rattle.arn_base.specs.declared.records.Record.{Record}
use Rattle.arn_base.specs.declared.records.Record.TheVariants as entry
use Rattle.arn_base.specs.declared.records.Start.{Start}
use Rattle.parts_model.specs.declared.limits.TheConstants.{BLOCK_LEN, WINDOW_LEN}
use Rattle.acts_model.specs.Records.{child_number, child_told, give_of, start_held}
use Rattle.history_model.specs.Events.{len_of}
use Rattle.history_model.specs.Moments.{lives_at, total}
use Rattle.history_model.specs.Names.{is_booted}

-- before a boot only files come in, and behind it only what isn't a file or another boot
abbrev pub comes_wrong : List Record → Record → Bool
comes_wrong before (entry.File name bytes) = is_booted before
comes_wrong before (entry.Boot name give) = is_booted before
comes_wrong before (entry.Typed bytes) = not (is_booted before)
comes_wrong before (entry.Unplug device) = not (is_booted before)
comes_wrong before (entry.Slice pid ran) = not (is_booted before)
comes_wrong before other = false

-- a slice of a process that doesn't live
abbrev pub lacks_process : List Record → Record → Bool
lacks_process before (entry.Slice pid ran) = not (lives_at before (total before) pid)
lacks_process before other = false

-- the process whose slice is open behind records: its own events may follow, behind one delivery that isn't fatal
pub data Behind : Type 0 where
  Nowhere : Behind
  ASlice : (pid : ℕ) → Behind
  ADelivery : (pid : ℕ) → Behind

abbrev pub behind_signal : ℕ → ℕ → Behind → Behind
behind_signal pid handler (ASlice p) = if (p == pid) && not (handler == 0) then ADelivery pid else Nowhere
behind_signal pid handler other = Nowhere

abbrev pub behind_record : Behind → Record → Behind
behind_record b (entry.Slice pid ran) = ASlice pid
behind_record b (entry.Signal pid signal cut handler) = behind_signal pid handler b
behind_record b other = Nowhere

abbrev pub behind_from : Behind → List Record → Behind
behind_from b [] = b
behind_from b (e ∷ entries) = behind_from (behind_record b e) entries

abbrev pub behind : List Record → Behind
behind entries = behind_from Nowhere entries

abbrev pub is_behind : ℕ → Behind → Bool
is_behind pid Nowhere = false
is_behind pid (ASlice p) = p == pid
is_behind pid (ADelivery p) = p == pid

-- an event of a process that isn't behind a slice of its own
abbrev pub lacks_slice : List Record → Record → Bool
lacks_slice before (entry.Signal pid signal cut handler) = not (is_behind pid (behind before))
lacks_slice before (entry.Call pid number result more) = not (is_behind pid (behind before))
lacks_slice before (entry.End pid status) = not (is_behind pid (behind before))
lacks_slice before other = false

-- an origin names bytes that an earlier event has, one at least
abbrev pub lies_in_event : Origin → Option ℕ → Bool
lies_in_event o None = false
lies_in_event o (Some len) = nat_le 1 o.len && nat_le (o.at + o.len) len

abbrev pub is_origin : List Record → Origin → Bool
is_origin before o = lies_in_event o (len_of before o.event)

abbrev pub origins_len : List Origin → ℕ
origins_len [] = 0
origins_len (o ∷ origins) = o.len + origins_len origins

-- received bytes have origins that name earlier bytes, one for each
abbrev pub are_origins : List Record → Option Give → Bool
are_origins before None = true
are_origins before (Some give) = list_all (is_origin before) give.origins && (origins_len give.origins == length give.bytes)

-- blocks rise and lie in the window
abbrev pub rise_from : ℕ → List Block → Bool
rise_from least [] = true
rise_from least (b ∷ blocks) = nat_le least b.number && (nat_le (BLOCK_LEN * (b.number + 1)) WINDOW_LEN && rise_from (b.number + 1) blocks)

abbrev pub start_in : Record → Option Start
start_in (entry.Call pid number result more) = start_held more
start_in other = None

abbrev pub has_blocks_wrong : Option Start → Bool
has_blocks_wrong None = false
has_blocks_wrong (Some start) = not (rise_from 0 start.blocks)

-- the number of the child that a record tells of
abbrev pub child_in : Record → Option ℕ
child_in e = child_number (child_told e)

-- the greatest number of a process: 1 is there from the boot on
abbrev pub greatest_after : Record → ℕ → ℕ
greatest_after (entry.Boot name give) n = max n 1
greatest_after other n = option_map_or (max n) (child_in other) n

abbrev pub greatest_from : ℕ → List Record → ℕ
greatest_from n [] = n
greatest_from n (e ∷ entries) = greatest_from (greatest_after e n) entries

abbrev pub greatest : List Record → ℕ
greatest entries = greatest_from 0 entries

-- a child's number is one above the greatest
abbrev pub misnumbers : List Record → Option ℕ → Bool
misnumbers before None = false
misnumbers before (Some child) = not (child == greatest before + 1)

-- how a child begins stands only with a record that tells of one
abbrev pub misplaces_start : Record → Bool
misplaces_start e = is_some (start_in e) && not (is_some (child_in e))

-- the record can't stand behind these
abbrev pub cant_follow : List Record → Record → Bool
cant_follow before e =
    comes_wrong before e || (lacks_process before e || (lacks_slice before e || (not (are_origins before (give_of e)) || (has_blocks_wrong (start_in e) || (misnumbers before (child_in e) || misplaces_start e)))))

-- the place of the first record that can't stand where it does
abbrev pub broken_from : List Record → List Record → Option ℕ
broken_from before [] = None
broken_from before (e ∷ entries) = if cant_follow before e then Some (length before) else broken_from (before ++ e ∷ []) entries

abbrev pub first_broken : List Record → Option ℕ
first_broken entries = broken_from [] entries
