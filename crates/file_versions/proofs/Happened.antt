-- What is kept of names and writes is what has happened of them by each moment.
use Rattle.std.proofs.Common.{◌≡◌, ℕ, ◌+◌, ◌<◌, ◌≤◌, ◌^◌, ◌&&◌, Bool, true, false, cond, nat_le, List, [], ◌∷◌, map, filter, Option, Some, None, option_map, bytes_eq, refl, sym, ap, ◌∙◌, arith, add-zero, subst, All}
use Rattle.std.specs.List.{cons_option}
use Rattle.std.proofs.lemmas.Bool.Decides.{nat_tests}
use Rattle.arn_base.specs.declared.records.Record.{Record}
use Rattle.arn_base.specs.declared.records.Record.TheVariants as entry
use Rattle.acts_model.specs.Records.{NameChange, Names, Unnames, NoName, name_told, Written, is_event, event_len}
use Rattle.history_index.specs.Lookups.{begin_after, events_in}
use Rattle.history_model.specs.Moments.{Numbered, events_from, ran_in, total}
use Rattle.history_model.specs.Names.{named_by, named_from}
use Rattle.file_versions.specs.declared.told.Before.{Before}
use Rattle.file_versions.specs.Versions.{Write, brought_by, written_by, writes_from, is_to}
use Rattle.file_versions.specs.Tables.{NameAt, WriteAt, Tables, TellsFiles, nothing_before, with_record, name_changed, name_in, names_in, writes_in, name_after, named_until, file_until, is_until, writes_until}
use Rattle.file_versions.proofs.Counted.{IsShortAt, writes-short}

-- an event is there, or not
abbrev cons_if : Bool → Numbered → List Numbered → List Numbered
cons_if b e events = cond b (e ∷ events) events

abbrev numbered : ℕ → Record → Numbered
numbered n e = record { number = n; entry = e }

abbrev write_of : ℕ → Written → Write
write_of event w = record { event = event; over = w }

-- where a moment is reached, each event has happened
happens : (m begins ends n : ℕ) (e : Record) (entries : List Record) → begins ≤ ends → ends ≤ m
    → events_from m begins ends n (e ∷ entries) ≡ cons_if (is_event e) (numbered n e) (events_from m (begin_after begins ends e) (ends + ran_in e) (n + events_in e) entries)
happens m begins ends n e entries before reached = by_entry e
  where
    is : nat_le ends m ≡ true
    is = grind (arith, nat_tests)

    was : nat_le begins m ≡ true
    was = grind (arith, nat_tests)

    by_entry : (e : Record) → events_from m begins ends n (e ∷ entries) ≡ cons_if (is_event e) (numbered n e) (events_from m (begin_after begins ends e) (ends + ran_in e) (n + events_in e) entries)
    by_entry (entry.Slice pid ran) = rw add-zero refl
    by_entry (entry.Signal pid signal cut handler) = rw (was, add-zero) refl
    by_entry _ = rw (is, add-zero) refl

-- and past it only deliveries have
abbrev IsDelivery : Record → Type 0
IsDelivery (entry.Signal pid signal cut handler) = Unit {0}
IsDelivery other = ⊥

abbrev AreDeliveries : List Numbered → Type 0
AreDeliveries [] = Unit {0}
AreDeliveries (e ∷ events) = IsDelivery e.entry × AreDeliveries events

only-deliveries : (m begins ends n : ℕ) (entries : List Record) → m < ends → AreDeliveries (events_from m begins ends n entries)
only-deliveries m begins ends n [] past = tt
only-deliveries m begins ends n (e ∷ entries) past =
    by_entry e (only-deliveries m begins ends (n + 1) entries past) (λ ran. only-deliveries m ends (ends + ran) n entries (omega (arith, past)))
  where
    isnt : nat_le ends m ≡ false
    isnt = grind (arith, nat_tests)

    by_test : (b : Bool) (e : Numbered) (events : List Numbered) → IsDelivery e.entry → AreDeliveries events → AreDeliveries (cond b (e ∷ events) events)
    by_test true e events is are = (is, are)
    by_test false e events is are = are

    by_entry : (e : Record) → AreDeliveries (events_from m begins ends (n + 1) entries) → ((ran : ℕ) → AreDeliveries (events_from m ends (ends + ran) n entries)) → AreDeliveries (events_from m begins ends n (e ∷ entries))
    by_entry (entry.Slice pid ran) later behind = behind ran
    by_entry (entry.Signal pid signal cut handler) later behind =
        by_test (nat_le begins m) (numbered n (entry.Signal pid signal cut handler)) (events_from m begins ends (n + 1) entries) tt later
    by_entry _ later behind = rw isnt later

-- these change no name, and write nothing
name-kept : (k : ℕ) (events : List Numbered) (name : List ℕ) (x : Option ℕ) → AreDeliveries events → named_from k (map (λ e. e.entry) events) name x ≡ x
name-kept k [] name x are = refl
name-kept k (e ∷ events) name x are = by_entry e.entry are.0 (name-kept k events name x are.1)
  where
    by_entry : (r : Record) → IsDelivery r → named_from k (map (λ e. e.entry) events) name x ≡ x → named_from k (r ∷ map (λ e. e.entry) events) name x ≡ x
    by_entry (entry.Signal pid signal cut handler) is rest = rest
    by_entry _ is rest = absurd is

nothing-written : (k : ℕ) (events : List Numbered) → AreDeliveries events → writes_from k events ≡ []
nothing-written k [] are = refl
nothing-written k (e ∷ events) are = by_entry e.entry are.0 (nothing-written (k + 0) events are.1)
  where
    by_entry : (r : Record) → IsDelivery r → writes_from (k + 0) events ≡ [] → cons_option (option_map (write_of e.number) (written_by k r)) (writes_from (k + brought_by r) events) ≡ []
    by_entry (entry.Signal pid signal cut handler) is rest = rest
    by_entry _ is rest = absurd is

-- the file that a name stands for after a record, where so many files were brought before it
abbrev name_by : ℕ → List ℕ → Record → Option ℕ → Option ℕ
name_by k name (entry.File path bytes) x = cond (bytes_eq path name) (Some k) x
name_by k name other x = named_by (name_told other) name x

names-next : (k : ℕ) (e : Record) (entries : List Record) (name : List ℕ) (x : Option ℕ) → named_from k (e ∷ entries) name x ≡ named_from (k + brought_by e) entries name (name_by k name e x)
names-next k (entry.File path bytes) entries name x = refl
names-next k _ entries name x = rw add-zero refl

-- a change of a name that there may be
abbrev after_if : ℕ → List ℕ → Option NameAt → Option ℕ → Option ℕ
after_if m name None x = x
after_if m name (Some n) x = name_after m name n x

until-next : (m : ℕ) (name : List ℕ) (o : Option NameAt) (names : List NameAt) (x : Option ℕ) → named_until m name (cons_option o names) x ≡ named_until m name names (after_if m name o x)
until-next m name None names x = refl
until-next m name (Some n) names x = refl

changed-is : (m : ℕ) (name : List ℕ) (ran : ℕ) (change : NameChange) (x : Option ℕ) → after_if m name (name_changed ran change) x ≡ cond (nat_le ran m) (named_by change name x) x
changed-is m name ran (Names path file) x = by_test (nat_le ran m)
  where
    by_test : (b : Bool) → cond (b && bytes_eq path name) (Some file) x ≡ cond b (cond (bytes_eq path name) (Some file) x) x
    by_test true = refl
    by_test false = refl
changed-is m name ran (Unnames path) x = by_test (nat_le ran m)
  where
    by_test : (b : Bool) → cond (b && bytes_eq path name) None x ≡ cond b (cond (bytes_eq path name) None x) x
    by_test true = refl
    by_test false = refl
changed-is m name ran NoName x = by_test (nat_le ran m)
  where
    by_test : (b : Bool) → x ≡ cond b x x
    by_test true = refl
    by_test false = refl

change-is : (m : ℕ) (name : List ℕ) (b : Before) (e : Record) (x : Option ℕ) → after_if m name (name_in b e) x ≡ cond (nat_le b.ran m) (name_by b.files name e x) x
change-is m name b (entry.File path bytes) x = by_test (nat_le b.ran m)
  where
    by_test : (t : Bool) → cond (t && bytes_eq path name) (Some b.files) x ≡ cond t (cond (bytes_eq path name) (Some b.files) x) x
    by_test true = refl
    by_test false = refl
change-is m name b e x = changed-is m name b.ran (name_told e) x

-- past a moment, no name changes any more
names-past : (m : ℕ) (name : List ℕ) (b : Before) (entries : List Record) (x : Option ℕ) → m < b.ran → named_until m name (names_in b entries) x ≡ x
names-past m name b [] x past = refl
names-past m name b (e ∷ entries) x past =
    let isnt : nat_le b.ran m ≡ false = grind (arith, nat_tests) in
    until-next m name (name_in b e) (names_in (with_record b e) entries) x
    ∙ names-past m name (with_record b e) entries (after_if m name (name_in b e) x) (omega (arith, past))
    ∙ change-is m name b e x
    ∙ ap (λ (t : Bool). cond t (name_by b.files name e x) x) isnt

-- a slice changes none
no-event : (k : ℕ) (name : List ℕ) (e : Record) (x : Option ℕ) → is_event e ≡ false → name_by k name e x ≡ x
no-event k name (entry.Slice pid ran) x isnt = refl
no-event k name _ x isnt = cc

no-file : (k : ℕ) (e : Record) → is_event e ≡ false → k + brought_by e ≡ k
no-file k (entry.Slice pid ran) isnt = add-zero k
no-file k _ isnt = cc

-- the slice at hand begins before it ends
begins-before : (begins ends : ℕ) (e : Record) → begins ≤ ends → begin_after begins ends e ≤ ends + ran_in e
begins-before begins ends (entry.File path bytes) before = omega (arith, before)
begins-before begins ends _ before = omega (arith, before)

names-told : (m : ℕ) (name : List ℕ) (b : Before) (begins : ℕ) (entries : List Record) (x : Option ℕ) → begins ≤ b.ran
    → named_until m name (names_in b entries) x ≡ named_from b.files (map (λ e. e.entry) (events_from m begins b.ran b.events entries)) name x
names-told m name b begins [] x before = refl
names-told m name b begins (e ∷ entries) x before =
    by_test (nat_le b.ran m) refl (names-told m name (with_record b e) (begin_after begins b.ran e) entries (name_by b.files name e x) (begins-before begins b.ran e before))
  where
    by_event : (t : Bool) → is_event e ≡ t → named_from (b.files + brought_by e) (map (λ e. e.entry) (events_from m (begin_after begins b.ran e) (b.ran + ran_in e) (b.events + events_in e) entries)) name (name_by b.files name e x)
        ≡ named_from b.files (map (λ e. e.entry) (cons_if t (numbered b.events e) (events_from m (begin_after begins b.ran e) (b.ran + ran_in e) (b.events + events_in e) entries))) name x
    by_event true is = sym (names-next b.files e (map (λ e. e.entry) (events_from m (begin_after begins b.ran e) (b.ran + ran_in e) (b.events + events_in e) entries)) name x)
    by_event false isnt = rw (no-file b.files e isnt, no-event b.files name e x isnt) refl

    by_test : (t : Bool) → nat_le b.ran m ≡ t → named_until m name (names_in (with_record b e) entries) (name_by b.files name e x) ≡ named_from (b.files + brought_by e) (map (λ e. e.entry) (events_from m (begin_after begins b.ran e) (b.ran + ran_in e) (b.events + events_in e) entries)) name (name_by b.files name e x) → named_until m name (names_in b (e ∷ entries)) x ≡ named_from b.files (map (λ e. e.entry) (events_from m begins b.ran b.events (e ∷ entries))) name x
    by_test true is rest =
        until-next m name (name_in b e) (names_in (with_record b e) entries) x
        ∙ ap (named_until m name (names_in (with_record b e) entries)) (change-is m name b e x ∙ ap (λ (t : Bool). cond t (name_by b.files name e x) x) is)
        ∙ rest
        ∙ by_event (is_event e) refl
        ∙ sym (ap (λ (events : List Numbered). named_from b.files (map (λ e. e.entry) events) name x) (happens m begins b.ran b.events e entries before (grind (arith, nat_tests))))
    by_test false isnt rest =
        names-past m name b (e ∷ entries) x (grind (arith, nat_tests))
        ∙ sym (name-kept b.files (events_from m begins b.ran b.events (e ∷ entries)) name x (only-deliveries m begins b.ran b.events (e ∷ entries) (grind (arith, nat_tests))))

-- a write that there may be, at a moment that is reached, or not yet
abbrev at_moment : ℕ → ℕ → Written → WriteAt
at_moment ran event w = record { moment = ran; write = record { event = event; over = w } }

written-now : (m file ran event : ℕ) (o : Option Written) (writes : List WriteAt) (rest : List Write) → nat_le ran m ≡ true → writes_until m file writes ≡ filter (is_to file) rest
    → writes_until m file (cons_option (option_map (at_moment ran event) o) writes) ≡ filter (is_to file) (cons_option (option_map (write_of event) o) rest)
written-now m file ran event None writes rest is same = same
written-now m file ran event (Some w) writes rest is same =
    rw is (by_test (is_to file (write_of event w)))
  where
    by_test : (t : Bool) → map (λ w. w.write) (cond t (at_moment ran event w ∷ filter (is_until m file) writes) (filter (is_until m file) writes)) ≡ cond t (write_of event w ∷ filter (is_to file) rest) (filter (is_to file) rest)
    by_test true = ap (λ (all : List Write). write_of event w ∷ all) same
    by_test false = same

written-past : (m file : ℕ) (b : Before) (entries : List Record) → m < b.ran → writes_until m file (writes_in b entries) ≡ []
written-past m file b [] past = refl
written-past m file b (e ∷ entries) past = by_write (written_by b.files e) (written-past m file (with_record b e) entries (omega (arith, past)))
  where
    isnt : nat_le b.ran m ≡ false
    isnt = grind (arith, nat_tests)

    by_write : (o : Option Written) → writes_until m file (writes_in (with_record b e) entries) ≡ [] → writes_until m file (cons_option (option_map (at_moment b.ran b.events) o) (writes_in (with_record b e) entries)) ≡ []
    by_write None rest = rest
    by_write (Some w) rest = rw isnt rest

no-write : (k : ℕ) (e : Record) → is_event e ≡ false → written_by k e ≡ None
no-write k (entry.Slice pid ran) isnt = refl
no-write k _ isnt = cc

writes-told : (m file : ℕ) (b : Before) (begins : ℕ) (entries : List Record) → begins ≤ b.ran
    → writes_until m file (writes_in b entries) ≡ filter (is_to file) (writes_from b.files (events_from m begins b.ran b.events entries))
writes-told m file b begins [] before = refl
writes-told m file b begins (e ∷ entries) before =
    by_test (nat_le b.ran m) refl (writes-told m file (with_record b e) (begin_after begins b.ran e) entries (begins-before begins b.ran e before))
  where
    by_event : (t : Bool) → is_event e ≡ t → filter (is_to file) (cons_option (option_map (write_of b.events) (written_by b.files e)) (writes_from (b.files + brought_by e) (events_from m (begin_after begins b.ran e) (b.ran + ran_in e) (b.events + events_in e) entries)))
        ≡ filter (is_to file) (writes_from b.files (cons_if t (numbered b.events e) (events_from m (begin_after begins b.ran e) (b.ran + ran_in e) (b.events + events_in e) entries)))
    by_event true is = refl
    by_event false isnt = rw (no-file b.files e isnt, no-write b.files e isnt) refl

    by_test : (t : Bool) → nat_le b.ran m ≡ t → writes_until m file (writes_in (with_record b e) entries) ≡ filter (is_to file) (writes_from (b.files + brought_by e) (events_from m (begin_after begins b.ran e) (b.ran + ran_in e) (b.events + events_in e) entries)) → writes_until m file (writes_in b (e ∷ entries)) ≡ filter (is_to file) (writes_from b.files (events_from m begins b.ran b.events (e ∷ entries)))
    by_test true is rest =
        written-now m file b.ran b.events (written_by b.files e) (writes_in (with_record b e) entries) _ is rest
        ∙ by_event (is_event e) refl
        ∙ sym (ap (λ (events : List Numbered). filter (is_to file) (writes_from b.files events)) (happens m begins b.ran b.events e entries before (grind (arith, nat_tests))))
    by_test false isnt rest =
        written-past m file b (e ∷ entries) (grind (arith, nat_tests))
        ∙ sym (ap (filter (is_to file)) (nothing-written b.files (events_from m begins b.ran b.events (e ∷ entries)) (only-deliveries m begins b.ran b.events (e ∷ entries) (grind (arith, nat_tests)))))

pub tells-files : (t : Tables) (entries : List Record) → All (λ e. event_len e < 2 ^ 32) entries → t.total ≡ total entries → ((m : ℕ) (name : List ℕ) → file_until m name t.names ≡ named_until m name (names_in nothing_before entries) None) → t.writes ≡ writes_in nothing_before entries → TellsFiles t entries
tells-files t entries short all names writes =
    record {
      total = all;
      names = λ m name. names m name ∙ names-told m name nothing_before 0 entries None (omega arith);
      short = subst (All IsShortAt) (sym writes) (writes-short nothing_before entries short);
      writes = λ m file. ap (writes_until m file) writes ∙ writes-told m file nothing_before 0 entries (omega arith);
    }
