-- Bytes of files were written by bytes that events have.
use Rattle.std.proofs.Common.{◌≡◌, ℕ, zero, suc, ◌+◌, ◌-◌, ◌≤◌, Bool, true, false, cond, nat_le, List, [], ◌∷◌, length, take, drop, filter, Option, Some, None, IfSome, option_map, slice_get, sym, ap, subst, ◌∙◌, arith, leb-true}
use Rattle.std.proofs.lemmas.Bool.Decides.{nat_tests}
use Rattle.std.specs.List.{cons_option}
use Rattle.std.proofs.lemmas.Bool.{and_parts}
use Rattle.std.proofs.lemmas.Option.{slice_get_within}
use Rattle.arn_base.specs.declared.records.Extra.{Extra}
use Rattle.arn_base.specs.declared.records.Record.{Record}
use Rattle.arn_base.specs.declared.records.Record.TheVariants as entry
use Rattle.parts_model.specs.declared.tagged.TaggedByte.{TaggedByte}
use Rattle.acts_model.specs.Records.{Written, call_put, event_len, is_event}
use Rattle.file_versions.specs.Versions.{Write, byte_of, bytes_at, cell_after, filled_from, is_to, laid_at, onto_filled, reach, version_at, written_by, writes_at, writes_from, brought_by}
use Rattle.history_model.specs.Events.{event_at, events}
use Rattle.history_model.specs.Moments.{Numbered, events_from, events_until, if_happened}
use Rattle.lineage_join.specs.Fits.{IsThere}
use Rattle.lineage_model.specs.Flow.{Byte}
use Rattle.query_model.specs.Names.{Named, named_bytes}
use Rattle.query_laws.specs.Names.{AreWritten, NamedAreWritten}

-- each event that has happened is one of the history's, by its number
abbrev AreEvents : List Record → List Numbered → Type 0
AreEvents all [] = Unit {0}
AreEvents all (e ∷ happened) = (slice_get all e.number ≡ Some e.entry) × AreEvents all happened

if-event : (all : List Record) (test : Bool) (n : ℕ) (e : Record) (happened : List Numbered) → slice_get all n ≡ Some e → AreEvents all happened → AreEvents all (if_happened test n e happened)
if-event all true n e happened here are = (here, are)
if-event all false n e happened here are = are

abbrev AreBehind : List Record → ℕ → List Record → Type 0
AreBehind all n entries = (k : ℕ) → slice_get all (n + k) ≡ slice_get (filter is_event entries) k

first-behind : (all : List Record) (n : ℕ) (e : Record) (rest : List Record) → ((k : ℕ) → slice_get all (n + k) ≡ slice_get (e ∷ rest) k) → slice_get all n ≡ Some e
first-behind all n e rest behind = ap (slice_get all) (let same : n ≡ n + 0 = omega arith in same) ∙ behind 0

next-behind : (all : List Record) (n : ℕ) (e : Record) (rest : List Record) → ((k : ℕ) → slice_get all (n + k) ≡ slice_get (e ∷ rest) k) → (k : ℕ) → slice_get all (n + 1 + k) ≡ slice_get rest k
next-behind all n e rest behind k = ap (slice_get all) (let same : n + 1 + k ≡ n + suc k = omega arith in same) ∙ behind (suc k)

events-are : (all : List Record) (moment begins ends n : ℕ) (entries : List Record) → AreBehind all n entries → AreEvents all (events_from moment begins ends n entries)
events-are all moment begins ends n [] behind = tt
events-are all moment begins ends n (entry.Slice pid ran ∷ entries) behind = events-are all moment ends (ends + ran) n entries behind
events-are all moment begins ends n (entry.Signal pid signal cut handler ∷ entries) behind =
    if-event all (nat_le begins moment) n _ _ (first-behind all n _ _ behind) (events-are all moment begins ends (n + 1) entries (next-behind all n _ _ behind))
events-are all moment begins ends n (_ ∷ entries) behind =
    if-event all (nat_le ends moment) n _ _ (first-behind all n _ _ behind) (events-are all moment begins ends (n + 1) entries (next-behind all n _ _ behind))

-- a write has the bytes of its event
pub record IsWrite (entries : List Record) (w : Write) : Type 0 where
  pub entry : Record
  pub there : event_at entries w.event ≡ Some entry
  pub len : length w.over.bytes ≡ event_len entry

abbrev AreWrites : List Record → List Write → Type 0
AreWrites entries [] = Unit {0}
AreWrites entries (w ∷ writes) = IsWrite entries w × AreWrites entries writes

put-len : (pid number result : ℕ) (more : Extra) → IfSome (call_put number more) (λ w. length w.bytes ≡ event_len (entry.Call pid number result more))
put-len pid number result more = grind (arith, nat_tests)

written-len : (n : ℕ) (e : Record) → IfSome (written_by n e) (λ w. length w.bytes ≡ event_len e)
written-len n e = grind (arith, nat_tests, put-len)

writes-are : (entries : List Record) (n : ℕ) (happened : List Numbered) → AreEvents (events entries) happened → AreWrites entries (writes_from n happened)
writes-are entries n [] are = tt
writes-are entries n (e ∷ happened) are = by_write (written_by n e.entry) (written-len n e.entry) (writes-are entries (n + brought_by e.entry) happened are.1)
  where
    by_write : (o : Option Written) → IfSome o (λ w. length w.bytes ≡ event_len e.entry) → AreWrites entries (writes_from (n + brought_by e.entry) happened)
        → AreWrites entries (cons_option (option_map (λ w. record { event = e.number; over = w }) o) (writes_from (n + brought_by e.entry) happened))
    by_write o h1 h2 = grind (arith, nat_tests)

filter-writes : (entries : List Record) (test : Write → Bool) (writes : List Write) → AreWrites entries writes → AreWrites entries (filter test writes)
filter-writes entries test [] are = tt
filter-writes entries test (w ∷ writes) are = by_test (test w) (filter-writes entries test writes are.1)
  where
    by_test : (b : Bool) → AreWrites entries (filter test writes) → AreWrites entries (cond b (w ∷ filter test writes) (filter test writes))
    by_test b h1 = grind (arith, nat_tests)

-- so each byte that is laid is one of an event
abbrev IsWritten : List Record → TaggedByte → Type 0
IsWritten entries b = IsThere (event_at entries b.origin.event) (Byte b.origin.at)

byte-written : (entries : List Record) (w : Write) → IsWrite entries w → (k : ℕ) → IfSome (byte_of w k) (IsWritten entries)
byte-written entries w h1 k = grind (arith, nat_tests, slice_get_within)

laid-written : (entries : List Record) (w : Write) → IsWrite entries w → (place : ℕ) (before : Option TaggedByte) → IfSome before (IsWritten entries) → IfSome (laid_at w place before) (IsWritten entries)
laid-written entries w h1 place before h2 = grind (arith, nat_tests, byte-written)

cell-written : (entries : List Record) (writes : List Write) → AreWrites entries writes → (place : ℕ) (before : Option TaggedByte) → IfSome before (IsWritten entries) → IfSome (cell_after writes place before) (IsWritten entries)
cell-written entries [] are place before was = was
cell-written entries (w ∷ writes) are place before was =
    cell-written entries writes are.1 place (laid_at w place before) (laid-written entries w are.0 place before was)

abbrev pub Each : List Record → List TaggedByte → Type 0
Each entries [] = Unit {0}
Each entries (b ∷ bytes) = IsWritten entries b × Each entries bytes

filled-written : (entries : List Record) (cells : ℕ → Option TaggedByte) → ((place : ℕ) → IfSome (cells place) (IsWritten entries)) → (place n : ℕ) → Each entries (filled_from cells place n)
filled-written entries cells are place zero = tt
filled-written entries cells are place (suc n) = by_cell (cells place) (are place) (filled-written entries cells are (place + 1) n)
  where
    by_cell : (o : Option TaggedByte) → IfSome o (IsWritten entries) → Each entries (filled_from cells (place + 1) n) → Each entries (onto_filled o (filled_from cells (place + 1) n))
    by_cell o h1 h2 = grind (arith, nat_tests)

bytes-written : (entries : List Record) (moment file : ℕ) → Each entries (bytes_at entries moment file)
bytes-written entries moment file =
    let writes = writes_at entries moment file in
    let are = filter-writes entries (is_to file) (writes_from 0 (events_until moment entries))
    (writes-are entries 0 (events_until moment entries) (events-are (events entries) moment 0 0 0 entries (λ k. ap (slice_get (events entries)) (omega arith)))) in
    filled-written entries (λ place. cell_after writes place None) (λ place. cell-written entries writes are place None tt) 0 (reach writes)

-- and so are those that are asked for
each-drop : (entries : List Record) (n : ℕ) (bytes : List TaggedByte) → Each entries bytes → Each entries (drop n bytes)
each-drop entries zero bytes are = are
each-drop entries (suc n) [] are = tt
each-drop entries (suc n) (b ∷ bytes) are = each-drop entries n bytes are.1

each-take : (entries : List Record) (n : ℕ) (bytes : List TaggedByte) → Each entries bytes → Each entries (take n bytes)
each-take entries zero bytes are = tt
each-take entries (suc n) [] are = tt
each-take entries (suc n) (b ∷ bytes) are = (are.0, each-take entries n bytes are.1)

each-all : (entries : List Record) (bytes : List TaggedByte) → Each entries bytes → AreWritten entries bytes
each-all entries [] are k d l = absurd (omega arith)
each-all entries (b ∷ bytes) are zero d l = are.0
each-all entries (b ∷ bytes) are (suc k) d l = each-all entries bytes are.1 k d (omega (arith, l))

-- bytes that are asked for are a part of the version
pub record IsPart (entries : List Record) (n : Named) (bytes : List TaggedByte) : Type 0 where
  pub held : List TaggedByte
  pub version : version_at entries n.moment n.name ≡ Some held
  pub inside : n.from + n.len ≤ length held
  pub part : bytes ≡ take n.len (drop n.from held)

pub is-part : (entries : List Record) (n : Named) (bytes : List TaggedByte) → named_bytes entries n ≡ Some bytes → IsPart entries n bytes
is-part entries n bytes h1 = grind (arith, nat_tests, and_parts, leb-true)

version-written : (entries : List Record) (moment : ℕ) (name : List ℕ) (held : List TaggedByte) → version_at entries moment name ≡ Some held → Each entries held
version-written entries moment name held h1 = grind (arith, nat_tests, bytes-written)

pub named-written : NamedAreWritten
named-written entries n bytes is =
    let p = is-part entries n bytes is in
    subst (AreWritten entries) (sym p.part)
    (each-all entries (take n.len (drop n.from p.held))
    (each-take entries n.len (drop n.from p.held) (each-drop entries n.from p.held (version-written entries n.moment n.name p.held p.version))))
