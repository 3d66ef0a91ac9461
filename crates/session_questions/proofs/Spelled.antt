-- How long the spellings of records are.
use Rattle.std.proofs.Common.{◌≡◌, ℕ, ◌+◌, ◌≤◌, ◌<◌, ◌^◌, ◌++◌, ◌&&◌, ◌==◌, Bool, true, false, cond, nat_le, List, [], ◌∷◌, length, length-append, unwrap_or, refl, arith, All}
use Rattle.std.proofs.lemmas.Bool.Decides.{nat_tests}
use Rattle.std.proofs.lemmas.List.Elements.{All-cons, All-nil}
use Rattle.byteorder.specs.Numbers.{length-bytes_low_first}
use Rattle.arn_base.specs.declared.records.Extra.{Extra}
use Rattle.arn_base.specs.declared.records.Extra.TheVariants as extra
use Rattle.arn_base.specs.declared.records.Record.{Record}
use Rattle.arn_base.specs.declared.records.Record.TheVariants as entry
use Rattle.parts_model.specs.declared.calls.TheConstants.{EXIT, WRITE}
use Rattle.parts_model.specs.declared.limits.TheConstants.{MOST_TRANSFER}
use Rattle.acts_model.specs.Records.{event_len, held_len, is_nothing, plain_len}
use Rattle.result_log.specs.Spelling.{counted, extra_fields, field, give_fields, named, origins_fields, spelling}
use Rattle.schedule_log.specs.Fields.{flag_field}
use Rattle.history_index.specs.Indexes.{AreCountable}
use Rattle.generator.specs.Sums.{to_console, written, written_by}
use Rattle.log_store.specs.Log.{spellings}
use Rattle.log_store.specs.declared.size.TheConstants.{MOST_LOG}

length-field : (width n : ℕ) → length (field width n) ≡ width
length-field width n = length-bytes_low_first 0 width n

-- what is no longer than a part of bytes is no longer than these
in-front : (n : ℕ) (front behind : List ℕ) → n ≤ length front → n ≤ length (front ++ behind)
in-front n front behind le = omega (arith, le, length-append front behind)

behind-it : (n : ℕ) (front behind : List ℕ) → n ≤ length behind → n ≤ length (front ++ behind)
behind-it n front behind le = omega (arith, le, length-append front behind)

counted-le : (bytes : List ℕ) → length bytes ≤ length (counted bytes)
counted-le bytes = behind-it (length bytes) (field 4 (length bytes)) bytes (omega arith)

-- a record is spelled by a byte at least
byte-le : (n : ℕ) (behind : List ℕ) → 1 ≤ length (field 1 n ++ behind)
byte-le n behind = in-front 1 (field 1 n) behind (omega (arith, length-field 1 n))

spelled : (e : Record) → 1 ≤ length (spelling e)
spelled (entry.File name bytes) = byte-le 1 (named name ++ counted bytes)
spelled (entry.Boot name g) = byte-le 2 (named name ++ give_fields g)
spelled (entry.Typed bytes) = byte-le 3 (counted bytes)
spelled (entry.Unplug device) = byte-le 4 (field 4 device)
spelled (entry.Slice pid ran) = byte-le 5 (field 4 pid ++ field 4 ran)
spelled (entry.Signal pid signal cut handler) = byte-le 6 (field 4 pid ++ field 1 signal ++ flag_field cut ++ field 8 handler)
spelled (entry.Call pid number answer did) = byte-le 7 (field 4 pid ++ field 8 number ++ field 8 answer ++ extra_fields did)
spelled (entry.End pid status) = byte-le 8 (field 4 pid ++ field 1 status)

-- what a call moves without holding it is bounded
plain-in : (t other : Bool) (n : ℕ) → nat_le n MOST_TRANSFER ≡ t → cond t n (cond other 1 0) ≤ 65536
plain-in true other n is = grind (arith, nat_tests)
plain-in false true n is = omega arith
plain-in false false n is = omega arith

plain-by : (a b other : Bool) (n : ℕ) → cond (a && (b && nat_le n MOST_TRANSFER)) n (cond other 1 0) ≤ 65536
plain-by true true other n = plain-in (nat_le n MOST_TRANSFER) other n refl
plain-by true false true n = omega arith
plain-by true false false n = omega arith
plain-by false b true n = omega arith
plain-by false b false n = omega arith

plain-le : (number result : ℕ) (more : Extra) → plain_len number result more ≤ 65536
plain-le number result more = plain-by (number == WRITE) (is_nothing more) (number == EXIT) result

-- what it holds is spelled
held-le : (more : Extra) (n : ℕ) → n ≤ 65536 → unwrap_or (held_len more) n ≤ length (extra_fields more) + 65536
held-le (extra.Give g) n le =
    let held = behind-it (length g.bytes) (field 1 1) (give_fields g) (in-front (length g.bytes) (counted g.bytes) (origins_fields g.origins) (counted-le g.bytes)) in omega (arith, held)
held-le (extra.Put file at bytes) n le =
    let held = behind-it (length bytes) (field 1 3) (field 4 file ++ field 4 at ++ counted bytes) (behind-it (length bytes) (field 4 file) (field 4 at ++ counted bytes) (behind-it (length bytes) (field 4 at) (counted bytes) (counted-le bytes))) in omega (arith, held)
held-le (extra.Console bytes) n le = let held = behind-it (length bytes) (field 1 4) (counted bytes) (counted-le bytes) in omega (arith, held)
held-le (extra.Reply device bytes) n le =
    let held = behind-it (length bytes) (field 1 5) (field 4 device ++ counted bytes) (behind-it (length bytes) (field 4 device) (counted bytes) (counted-le bytes)) in omega (arith, held)
held-le (extra.Sent device bytes) n le =
    let held = behind-it (length bytes) (field 1 9) (field 4 device ++ counted bytes) (behind-it (length bytes) (field 4 device) (counted bytes) (counted-le bytes)) in omega (arith, held)
held-le _ n le = omega (arith, le)

bit-le : (b : Bool) → cond b 1 0 ≤ 1
bit-le true = omega arith
bit-le false = omega arith

-- an event has no more bytes than its record's spelling, or than a call moves
event-le : (e : Record) → event_len e ≤ length (spelling e) + 65536
event-le (entry.File name bytes) =
    let held = behind-it (length bytes) (field 1 1) (named name ++ counted bytes) (behind-it (length bytes) (named name) (counted bytes) (counted-le bytes)) in omega (arith, held)
event-le (entry.Boot name g) =
    let held = behind-it (length g.bytes) (field 1 2) (named name ++ give_fields g) (behind-it (length g.bytes) (named name) (give_fields g) (in-front (length g.bytes) (counted g.bytes) (origins_fields g.origins) (counted-le g.bytes))) in omega (arith, held)
event-le (entry.Typed bytes) = let held = behind-it (length bytes) (field 1 3) (counted bytes) (counted-le bytes) in omega (arith, held)
event-le (entry.Signal pid signal cut handler) = let bit = bit-le (handler == 0) in omega (arith, bit)
event-le (entry.Call pid number answer did) =
    let held = held-le did (plain_len number answer did) (plain-le number answer did) in
    let all = behind-it (length (extra_fields did)) (field 1 7) (field 4 pid ++ field 8 number ++ field 8 answer ++ extra_fields did) (behind-it (length (extra_fields did)) (field 4 pid) (field 8 number ++ field 8 answer ++ extra_fields did) (behind-it (length (extra_fields did)) (field 8 number) (field 8 answer ++ extra_fields did) (behind-it (length (extra_fields did)) (field 8 answer) (extra_fields did) (omega arith)))) in
    omega (arith, held, all)
event-le _ = omega arith

-- records are no more than the bytes that spell them
pub few-records : (entries : List Record) → length entries ≤ length (spellings entries)
few-records [] = omega arith
few-records (e ∷ entries) = omega (arith, spelled e, few-records entries, length-append (spelling e) (spellings entries))

short-events : (entries : List Record) → length (spellings entries) ≤ MOST_LOG → All (λ e. event_len e < 2 ^ 32) entries
short-events [] short = All-nil (λ e. event_len e < 2 ^ 32)
short-events (e ∷ entries) short =
    let both = length-append (spelling e) (spellings entries) in
    let one = event-le e in
    All-cons (λ e. event_len e < 2 ^ 32) e entries (omega (arith, one, both, short)) (short-events entries (omega (arith, both, short)))

pub countable : (entries : List Record) → length (spellings entries) ≤ MOST_LOG → AreCountable entries
countable entries short =
    let few = few-records entries in
    record { few = omega (arith, few, short); short = short-events entries short }

-- what was written to the console is spelled
console-le : (more : Extra) → length (to_console more) ≤ length (extra_fields more)
console-le (extra.Console bytes) = behind-it (length bytes) (field 1 4) (counted bytes) (counted-le bytes)
console-le _ = omega arith

written-le : (e : Record) → length (written_by e) ≤ length (spelling e)
written-le (entry.Call pid number answer did) =
    let n = length (to_console did) in
    behind-it n (field 1 7) (field 4 pid ++ field 8 number ++ field 8 answer ++ extra_fields did) (behind-it n (field 4 pid) (field 8 number ++ field 8 answer ++ extra_fields did) (behind-it n (field 8 number) (field 8 answer ++ extra_fields did) (behind-it n (field 8 answer) (extra_fields did) (console-le did))))
written-le _ = omega arith

all-written-le : (entries : List Record) → length (written entries) ≤ length (spellings entries)
all-written-le [] = omega arith
all-written-le (e ∷ entries) =
    omega (arith, written-le e, all-written-le entries, length-append (spelling e) (spellings entries), length-append (written_by e) (written entries))

pub few_written : (entries : List Record) → length (spellings entries) ≤ MOST_LOG → length (written entries) < 2 ^ 32
few_written entries short = omega (arith, all-written-le entries, short)
