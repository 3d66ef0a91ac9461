-- Along the steps of a run, the records tell of each file what the machine holds of it.
use Rattle.std.proofs.Common.{◌≡◌, ℕ, zero, suc, ◌+◌, ◌≤◌, ◌==◌, Bool, true, false, cond, nat_lt, List, [], ◌∷◌, ◌++◌, append_assoc, append-nil, Option, None, Some, IfSome, option_map, option_to_list, length, map, filter, bytes_eq, refl, sym, ap, subst, ◌∙◌, arith, eq-eqb, eqb-true}
use Rattle.std.specs.List.{cons_option}
use Rattle.std.proofs.lemmas.Bool.Decides.{nat_tests}
use Rattle.std.proofs.lemmas.List.{length_push}
use Rattle.std.proofs.lemmas.Slice.Eq.{bytes_eq-Decides}
use Rattle.arn_base.specs.declared.records.Record.{Record}
use Rattle.arn_base.specs.declared.records.Record.TheVariants as entry
use Rattle.parts_model.specs.declared.tagged.TaggedByte.{TaggedByte}
use Rattle.parts_model.specs.Files.{File, Files, Name, file_among, file_bytes, find_file, laid_over, made, next_file}
use Rattle.parts_model.specs.Numbered.{nth}
use Rattle.parts_model.specs.Tagged.{held_bytes}
use Rattle.acts_model.specs.Moved.{Event}
use Rattle.acts_model.specs.Records.{NameChange, Names, Written, name_told, put_told}
use Rattle.arn_model.specs.Kernel.{Machine}
use Rattle.arn_model.specs.Run.{events_of, is_booted}
use Rattle.arn_model.specs.Step.{Step}
use Rattle.arn_model.specs.Tells.{Along, FileAfter, WritesInside, named_after, patched}
use Rattle.arn_model.specs.Turn.{after_steps}
use Rattle.history_model.specs.Names.{is_file, named_by, named_from}
use Rattle.history_model.specs.Moments.{Numbered}
use Rattle.log_model.specs.Records.{event_records}
use Rattle.file_versions.specs.Versions.{Write, is_to, writes_from}
use Rattle.version_laws.proofs.Happened.{numbered}
use Rattle.version_laws.proofs.Laying.{Leaves, first-leaves, laid-leaves}
use Rattle.version_laws.proofs.Changes.{Brings, Changes, Changing, FileStep, IsEvent, MakesNone, Stays}

-- the next file is the next one that is brought, until a process is made
abbrev pub IsNext : ℕ → Machine → Type 0
IsNext brought m = is_booted m ≡ false → brought ≡ next_file m.kernel.files

next-kept : (brought : ℕ) (m : Machine) (s : Step) → MakesNone m s → IsNext brought m → IsNext brought s.after
next-kept brought m s makes next none = let was = makes none in next was.0 ∙ sym was.1

next-made : (brought : ℕ) (m : Machine) (s : Step) (path bytes : List ℕ) → is_booted m ≡ false → s.after.kernel.files ≡ made m.kernel.files path (held_bytes m.events bytes) → IsNext brought m → IsNext (brought + 1) s.after
next-made brought m s path bytes h1 h2 h3 = grind (arith, nat_tests, length_push)

-- the records of a step's event and of those behind it
abbrev pub told : ℕ → List Step → List Numbered
told n steps = numbered n (event_records steps)

event-told : (m : Machine) (s : Step) (steps : List Step) (e : Record) → IsEvent m s e → told m.events (s ∷ steps) ≡ record { number = m.events; entry = e } ∷ told s.after.events steps
event-told m s steps e is = cc

quiet-told : (m : Machine) (s : Step) (steps : List Step) → s.moved.inside.event ≡ None → s.after.events ≡ m.events → told m.events (s ∷ steps) ≡ told s.after.events steps
quiet-told m s steps none same =
    ap (λ (o : Option Event). numbered m.events (map (λ e. e.entry) (cons_option o (events_of steps)))) none ∙ ap (λ (n : ℕ). told n steps) (sym same)

-- names

-- one text for a change of names
same-change : (change : NameChange) (name : List ℕ) (before : Option ℕ) → named_by change name before ≡ named_after change name before
same-change (Names path file) name before = refl
same-change _ name before = refl

-- a new name behind the others is found, where it was free
pushed : (all : List Name) (path : List ℕ) (file : ℕ) → file_among all path ≡ None → (name : List ℕ) → cond (bytes_eq path name) (Some file) (file_among all name) ≡ file_among (all ++ record { path = path; file = file } ∷ []) name
pushed [] path file free name = refl
pushed (x ∷ all) path file free name = grind (arith, nat_tests, bytes_eq-Decides, pushed all path file)

-- what a record that brings no file does to names
entry-named : (brought : ℕ) (e : Record) (entries : List Record) (name : List ℕ) (before : Option ℕ) → is_file e ≡ false → named_from brought (e ∷ entries) name before ≡ named_from brought entries name (named_by (name_told e) name before)
entry-named brought (entry.File path bytes) entries name before none = absurd (cc)
entry-named brought _ entries name before none = refl

abbrev pub entries_of : List Numbered → List Record
entries_of events = map (λ e. e.entry) events

-- the records tell for which file a name stands behind the steps
abbrev pub NamesTold : List ℕ → Machine → List Step → Type 0
NamesTold name m steps =
    (brought : ℕ) → IsNext brought m → named_from brought (entries_of (told m.events steps)) name (find_file m.kernel.files name) ≡ find_file (after_steps m steps).kernel.files name

pub names-told : (name : List ℕ) (m : Machine) (steps : List Step) → Along FileStep m steps → NamesTold name m steps
names-told name m [] along brought next = refl
names-told name m (s ∷ steps) along brought next = by_kind (names-told name s.after steps along.1) along.0
  where
    behind : NamesTold name s.after steps → (brought : ℕ) (before : Option ℕ) → find_file s.after.kernel.files name ≡ before → IsNext brought s.after
        → named_from brought (entries_of (told s.after.events steps)) name before ≡ find_file (after_steps s.after steps).kernel.files name
    behind rest brought before same next = ap (named_from brought (entries_of (told s.after.events steps)) name) (sym same) ∙ rest brought next

    by_kind : NamesTold name s.after steps → FileStep m s → named_from brought (entries_of (told m.events (s ∷ steps))) name (find_file m.kernel.files name) ≡ find_file (after_steps s.after steps).kernel.files name
    by_kind rest (Stays none same files makes) =
        ap (λ (events : List Numbered). named_from brought (entries_of events) name (find_file m.kernel.files name)) (quiet-told m s steps none same)
        ∙ behind rest brought (find_file m.kernel.files name) (ap (λ (files : Files). find_file files name) files) (next-kept brought m s makes next)
    by_kind rest (Brings path bytes is none free files) =
        ap (λ (events : List Numbered). named_from brought (entries_of events) name (find_file m.kernel.files name)) (event-told m s steps (entry.File path bytes) is)
        ∙ behind rest (brought + 1) (cond (bytes_eq path name) (Some brought) (find_file m.kernel.files name))
        (ap (λ (files : Files). find_file files name) files
        ∙ sym (pushed m.kernel.files.names path (next_file m.kernel.files) free name)
        ∙ ap (λ (k : ℕ). cond (bytes_eq path name) (Some k) (find_file m.kernel.files name)) (sym (next none)))
        (next-made brought m s path bytes none files next)
    by_kind rest (Changing e is changes makes) =
        ap (λ (events : List Numbered). named_from brought (entries_of events) name (find_file m.kernel.files name)) (event-told m s steps e is)
        ∙ entry-named brought e (entries_of (told s.after.events steps)) name (find_file m.kernel.files name) changes.file
        ∙ behind rest brought (named_by (name_told e) name (find_file m.kernel.files name))
        (changes.names name ∙ sym (same-change (name_told e) name (find_file m.kernel.files name)))
        (next-kept brought m s makes next)

-- bytes

-- what is written to a file leaves it as it is, if it is there, and nothing is written to one that isn't made
pub record IsTold (files : Files) (file : ℕ) (writes : List Write) : Type 0 where
  pub unmade : length files.all ≤ file → writes ≡ []
  pub held : IfSome (file_bytes files file) (Leaves writes)

abbrev to_file : ℕ → List Write → List Write
to_file file writes = filter (is_to file) writes

-- the write of an event
abbrev write_in : ℕ → Option Written → Option Write
write_in event o = option_map (λ w. record { event = event; over = w }) o

abbrev one_write : ℕ → ℕ → Option Written → List Write
one_write event file o = to_file file (option_to_list (write_in event o))

one-more : (writes : List Write) (file : ℕ) (o : Option Write) (more : List Write) → writes ++ to_file file (cons_option o more) ≡ (writes ++ to_file file (option_to_list o)) ++ to_file file more
one-more writes file o more = grind (arith, nat_tests, append-nil, append_assoc)

-- a record that brings no file
entry-written : (brought event : ℕ) (e : Record) (events : List Numbered) → is_file e ≡ false
    → writes_from brought (record { number = event; entry = e } ∷ events) ≡ cons_option (write_in event (put_told e)) (writes_from brought events)
entry-written brought event e events h1 = grind (arith, nat_tests)

-- one that isn't made yet isn't written to
no-write : (files : Files) (event file : ℕ) (o : Option Written) → WritesInside files o → length files.all ≤ file → one_write event file o ≡ []
no-write files event file o h1 h2 = grind (arith, nat_tests, eqb-true)

-- an event keeps what the records tell of a file
change-told : (event : ℕ) (e : Record) (old new : Files) (file : ℕ) (writes : List Write) → Changes event e old new → IsTold old file writes → IsTold new file (writes ++ one_write event file (put_told e))
change-told event e old new file writes changes is =
    record {
      unmade = λ past. none (omega (arith, past, changes.last.made));
      held = by_old (file_bytes old file) refl (file_bytes new file) refl is.held (changes.files file);
    }
  where
    none : length old.all ≤ file → writes ++ one_write event file (put_told e) ≡ []
    none past = ap (λ (ws : List Write). ws ++ one_write event file (put_told e)) (is.unmade past) ∙ no-write old event file (put_told e) changes.writes past

    patched-told : (o : Option Written) (bytes : List TaggedByte) → file_bytes old file ≡ Some bytes → WritesInside old o → Leaves writes bytes → Leaves (writes ++ one_write event file o) (patched event o file bytes)
    patched-told None bytes there inside leaves = subst (λ (ws : List Write). Leaves ws bytes) (sym (append-nil writes)) leaves
    patched-told (Some w) bytes there inside leaves = by_test (w.file == file) refl
      where
        begins : w.file ≡ file → w.at ≤ length bytes
        begins same = subst (λ (o : Option (List TaggedByte)). IfSome o (λ bytes. w.at ≤ length bytes)) (ap (file_bytes old) same ∙ there) inside.inside

        by_test : (b : Bool) → (w.file == file) ≡ b → Leaves (writes ++ cond b (record { event = event; over = w } ∷ []) []) (cond b (laid_over bytes w.at (held_bytes event w.bytes)) bytes)
        by_test true e = laid-leaves writes bytes event w (begins (eqb-true w.file file e)) leaves
        by_test false e = subst (λ (ws : List Write). Leaves ws bytes) (sym (append-nil writes)) leaves

    by_old : (o : Option (List TaggedByte)) → file_bytes old file ≡ o → (p : Option (List TaggedByte)) → file_bytes new file ≡ p → IfSome o (Leaves writes) → FileAfter event e file o p → IfSome p (Leaves (writes ++ one_write event file (put_told e)))
    by_old o was None now leaves after = tt
    by_old (Some bytes) was (Some more) now leaves after =
        subst (Leaves (writes ++ one_write event file (put_told e))) (sym after) (patched-told (put_told e) bytes was changes.writes leaves)
    by_old None was (Some more) now leaves after = by_made (nat_lt file (length old.all)) refl
      where
        by_made : (b : Bool) → nat_lt file (length old.all) ≡ b → Leaves (writes ++ one_write event file (put_told e)) more
        by_made true made = absurd (let gone : file_bytes new file ≡ None = changes.last.gone file (grind (arith, nat_tests)) was in some-none (sym gone ∙ now))
          where
            some-none : None ≡ Some more → ⊥
            some-none e = cc
        by_made false made =
            subst (λ (ws : List Write). Leaves ws more) (sym (none (grind (arith, nat_tests))))
            (subst (Leaves []) (sym after) (record { cells = λ place. refl; end = refl }))

-- and so does a file that is brought
nth-last : (all : List (Option File)) (x : Option File) → nth (all ++ x ∷ []) (length all) ≡ x
nth-last [] x = refl
nth-last (y ∷ all) x = nth-last all x

nth-other : (all : List (Option File)) (x : Option File) (k : ℕ) → (k ≡ length all → ⊥) → nth (all ++ x ∷ []) k ≡ nth all k
nth-other [] x zero other = absurd (other refl)
nth-other (y ∷ all) x (suc k) other = nth-other all x k (λ same. other (ap suc same))
nth-other _ x _ other = refl

made-told : (event : ℕ) (path bytes : List ℕ) (old : Files) (file : ℕ) (writes : List Write) → IsTold old file writes
    → IsTold (made old path (held_bytes event bytes)) file (writes ++ one_write event file (Some (record { file = next_file old; at = 0; bytes = bytes })))
made-told event path bytes old file writes is = by_test (next_file old == file) refl
  where
    new : Option File
    new = Some (record { bytes = held_bytes event bytes; holders = 0 })

    w : Write
    w = record { event = event; over = record { file = next_file old; at = 0; bytes = bytes } }

    size : length (old.all ++ new ∷ []) ≡ length old.all + 1
    size = length_push old.all new

    by_test : (b : Bool) → (next_file old == file) ≡ b → IsTold (made old path (held_bytes event bytes)) file (writes ++ cond b (w ∷ []) [])
    by_test true e =
        let same : next_file old ≡ file = eqb-true (next_file old) file e in
        let none : writes ≡ [] = is.unmade (omega (arith, same)) in
        record {
          unmade = λ past. absurd (let more = size in omega (arith, same, past));
          held =
              subst (λ (o : Option (List TaggedByte)). IfSome o (Leaves (writes ++ w ∷ [])))
              (ap (λ (o : Option File). option_map (λ f. f.bytes) o) (sym (nth-last old.all new)) ∙ ap (λ (k : ℕ). file_bytes (made old path (held_bytes event bytes)) k) same)
              (subst (λ (ws : List Write). Leaves (ws ++ w ∷ []) (held_bytes event bytes)) (sym none) (first-leaves event (next_file old) bytes));
        }
    by_test false e =
        record {
          unmade = λ past. append-nil writes ∙ is.unmade (let more = size in omega (arith, past));
          held =
              subst (λ (ws : List Write). IfSome (file_bytes (made old path (held_bytes event bytes)) file) (Leaves ws)) (sym (append-nil writes))
              (subst (λ (o : Option File). IfSome (option_map (λ f. f.bytes) o) (Leaves writes)) (sym (nth-other old.all new file (λ same. differs (sym (eq-eqb (next_file old) file (sym same)) ∙ e)))) is.held);
        }
      where
        differs : true ≡ false → ⊥
        differs e = cc

-- the records tell what a file holds behind the steps
abbrev pub BytesTold : ℕ → Machine → List Step → Type 0
BytesTold file m steps =
    (brought : ℕ) (writes : List Write) → IsNext brought m → IsTold m.kernel.files file writes
    → IsTold (after_steps m steps).kernel.files file (writes ++ to_file file (writes_from brought (told m.events steps)))

pub bytes-told : (file : ℕ) (m : Machine) (steps : List Step) → Along FileStep m steps → BytesTold file m steps
bytes-told file m [] along brought writes next is = subst (IsTold m.kernel.files file) (sym (append-nil writes)) is
bytes-told file m (s ∷ steps) along brought writes next is = by_kind (bytes-told file s.after steps along.1) along.0
  where
    behind : BytesTold file s.after steps → (brought : ℕ) (o : Option Write) (all : List Write) → all ≡ cons_option o (writes_from brought (told s.after.events steps)) → IsNext brought s.after
        → IsTold s.after.kernel.files file (writes ++ to_file file (option_to_list o)) → IsTold (after_steps s.after steps).kernel.files file (writes ++ to_file file all)
    behind h1 brought o all h2 h3 h4 = grind (arith, nat_tests, one-more)

    by_kind : BytesTold file s.after steps → FileStep m s → IsTold (after_steps s.after steps).kernel.files file (writes ++ to_file file (writes_from brought (told m.events (s ∷ steps))))
    by_kind rest (Stays none same files makes) =
        behind rest brought None (writes_from brought (told m.events (s ∷ steps)))
        (ap (writes_from brought) (quiet-told m s steps none same))
        (next-kept brought m s makes next)
        (subst (λ (files : Files). IsTold files file (writes ++ [])) (sym files) (subst (IsTold m.kernel.files file) (sym (append-nil writes)) is))
    by_kind rest (Brings path bytes event none free files) =
        let w : Written = record { file = brought; at = 0; bytes = bytes } in
        behind rest (brought + 1) (Some (record { event = m.events; over = w })) (writes_from brought (told m.events (s ∷ steps)))
        (ap (writes_from brought) (event-told m s steps (entry.File path bytes) event))
        (next-made brought m s path bytes none files next)
        (subst (λ (files : Files). IsTold files file (writes ++ one_write m.events file (Some w))) (sym files)
        (subst (λ (k : ℕ). IsTold (made m.kernel.files path (held_bytes m.events bytes)) file (writes ++ one_write m.events file (Some (record { file = k; at = 0; bytes = bytes })))) (sym (next none))
        (made-told m.events path bytes m.kernel.files file writes is)))
    by_kind rest (Changing e event changes makes) =
        behind rest brought (write_in m.events (put_told e)) (writes_from brought (told m.events (s ∷ steps)))
        (ap (writes_from brought) (event-told m s steps e event) ∙ entry-written brought m.events e (told s.after.events steps) changes.file)
        (next-kept brought m s makes next)
        (change-told m.events e m.kernel.files s.after.kernel.files file writes changes is)
