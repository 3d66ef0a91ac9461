-- Until a process is made, the records tell the bytes of each file, and whether one more may be brought.
use Rattle.std.proofs.Common.{◌≡◌, ℕ, zero, suc, ◌+◌, ◌<◌, ◌&&◌, not, Bool, true, false, cond, nat_le, nat_lt, List, [], ◌∷◌, ◌++◌, Option, None, Some, is_some, length, map, filter, bytes_eq, refl, sym, ap, subst, ◌∙◌, arith, option_map, option_and_then, count_by}
use Rattle.std.proofs.lemmas.Bool.Decides.{nat_tests}
use Rattle.std.proofs.lemmas.List.Sums.{sum_by-cons, sum_by-append}
use Rattle.std.proofs.lemmas.Bool.{not-true}
use Rattle.arn_base.specs.declared.records.Record.{Record}
use Rattle.arn_base.specs.declared.records.Record.TheVariants as entry
use Rattle.parts_model.specs.declared.limits.TheConstants.{MOST_FILES}
use Rattle.parts_model.specs.Files.{Files, File, file_bytes, find_file, made, next_file}
use Rattle.parts_model.specs.Numbered.{nth, how_many}
use Rattle.parts_model.specs.Tagged.{held_from, held_bytes, values}
use Rattle.acts_model.specs.Moved.{Event}
use Rattle.acts_model.specs.Records.{is_event}
use Rattle.arn_model.specs.Kernel.{Machine}
use Rattle.arn_model.specs.Run as run
use Rattle.arn_model.specs.Run.{is_free, boot_step}
use Rattle.arn_model.specs.Step.{Step}
use Rattle.arn_model.specs.Tells.{StepTells, Runs, Happens, Boots, Adds, Types, Unplugs}
use Rattle.history_model.specs.Names.{is_file, brought_from}
use Rattle.replay_laws.specs.Laws.{named_bytes}
use Rattle.replay_laws.proofs.TellsLives.{seen-booted, stays-booted, boot-booted}
use Rattle.replay_laws.proofs.TellsNames.{pushed, not-both, first-of, second-of, free-none, unplugged-booted}
use Rattle.replay_laws.proofs.TellsSteps.{Facts, by_event, fold_events}

-- slices bring nothing

files-cons : (e : Record) (entries : List Record) → count_by is_file (e ∷ entries) ≡ cond (is_file e) 1 0 + count_by is_file entries
files-cons e entries = sum_by-cons (λ (x : Record). cond (is_file x) 1 0) e entries

count-both : (e : Record) (entries : List Record) → count_by is_file entries ≡ count_by is_file (filter is_event entries) → count_by is_file (e ∷ entries) ≡ count_by is_file (e ∷ filter is_event entries)
count-both e entries rest = files-cons e entries ∙ ap (λ (k : ℕ). cond (is_file e) 1 0 + k) rest ∙ sym (files-cons e (filter is_event entries))

pub count-kept : (entries : List Record) → count_by is_file entries ≡ count_by is_file (filter is_event entries)
count-kept [] = refl
count-kept (entry.Slice pid ran ∷ entries) = omega (arith, files-cons (entry.Slice pid ran) entries, count-kept entries)
count-kept (e ∷ entries) = count-both e entries (count-kept entries)

pub brought-kept : (entries : List Record) (name : List ℕ) (before : Option (List ℕ)) → brought_from entries name before ≡ brought_from (filter is_event entries) name before
brought-kept [] name before = refl
brought-kept (entry.File path bytes ∷ entries) name before = brought-kept entries name (cond (bytes_eq path name) (Some bytes) before)
brought-kept (_ ∷ entries) name before = brought-kept entries name before

-- how many files were brought, and the bytes of the last of a name
pub record Brought : Type 0 where
  pub count : ℕ
  pub bytes : Option (List ℕ)

abbrev pub brings : List ℕ → ℕ → Record → Brought → Brought
brings name n (entry.File path bytes) old = record { count = old.count + 1; bytes = cond (bytes_eq path name) (Some bytes) old.bytes }
brings name n other old = old

abbrev entries_of : List Event → List Record
entries_of es = map (λ e. e.entry) es

pub bytes-fold : (name : List ℕ) (es : List Event) (old : Brought) → brought_from (entries_of es) name old.bytes ≡ (fold_events (brings name) es old).bytes
bytes-fold name [] old = refl
bytes-fold name (e ∷ es) old = by_entry e.entry (bytes-fold name es)
  where
    by_entry : (x : Record) → ((old : Brought) → brought_from (entries_of es) name old.bytes ≡ (fold_events (brings name) es old).bytes) → brought_from (x ∷ entries_of es) name old.bytes ≡ (fold_events (brings name) es (brings name e.number x old)).bytes
    by_entry x h1 = grind (arith, nat_tests)

brings-count : (name : List ℕ) (n : ℕ) (e : Record) (old : Brought) → (brings name n e old).count ≡ old.count + cond (is_file e) 1 0
brings-count name n e old = grind (arith, nat_tests)

pub count-fold : (name : List ℕ) (es : List Event) (old : Brought) → old.count + count_by is_file (entries_of es) ≡ (fold_events (brings name) es old).count
count-fold name [] old = omega arith
count-fold name (e ∷ es) old =
    omega (arith, files-cons e.entry (entries_of es), brings-count name e.number e.entry old)
    ∙ count-fold name es (brings name e.number e.entry old)

-- what they are in the machine
pub record BroughtIs (name : List ℕ) (m : Machine) (b : Brought) : Type 0 where
  pub count : b.count ≡ how_many m.kernel.files.all
  pub bytes : b.bytes ≡ named_bytes m.kernel.files name
  pub there : is_some b.bytes ≡ is_some (find_file m.kernel.files name)

abbrev pub UntilBooted : List ℕ → Machine → Brought → Type 0
UntilBooted name m b = run.is_booted m ≡ false → BroughtIs name m b

-- one more file
values-held : (event at : ℕ) (bytes : List ℕ) → values (held_from event at bytes) ≡ bytes
values-held event at [] = refl
values-held event at (b ∷ bytes) = ap (λ (bs : List ℕ). b ∷ bs) (values-held event (at + 1) bytes)

more-files : (all : List (Option File)) (x : File) → how_many (all ++ Some x ∷ []) ≡ how_many all + 1
more-files all x = grind (arith, nat_tests, sum_by-append, sum_by-cons)

nth-last : (all : List (Option File)) (x : Option File) → nth (all ++ x ∷ []) (length all) ≡ x
nth-last [] x = refl
nth-last (y ∷ all) x = nth-last all x

nth-before : (all : List (Option File)) (x : Option File) (k : ℕ) → k < length all → nth (all ++ x ∷ []) k ≡ nth all k
nth-before [] x k below = absurd (omega (arith, below))
nth-before (y ∷ all) x zero below = refl
nth-before (y ∷ all) x (suc k) below = nth-before all x k (omega (arith, below))

made-bytes : (all : Files) (event : ℕ) (path bytes name : List ℕ) → ((file : ℕ) → find_file all name ≡ Some file → file < length all.all) → find_file all path ≡ None
    → cond (bytes_eq path name) (Some bytes) (named_bytes all name) ≡ named_bytes (made all path (held_bytes event bytes)) name
made-bytes all event path bytes name inside free =
    by_test (bytes_eq path name)
    ∙ ap (λ (o : Option ℕ). option_map values (option_and_then (file_bytes (made all path (held_bytes event bytes))) o)) (pushed all.names path (next_file all) free name)
  where
    by_found : (o : Option ℕ) → find_file all name ≡ o → option_map values (option_and_then (file_bytes all) o) ≡ option_map values (option_and_then (file_bytes (made all path (held_bytes event bytes))) o)
    by_found o h1 = grind (arith, nat_tests, nth-before)

    by_test : (t : Bool) → cond t (Some bytes) (named_bytes all name) ≡ option_map values (option_and_then (file_bytes (made all path (held_bytes event bytes))) (cond t (Some (next_file all)) (find_file all name)))
    by_test t = grind (arith, nat_tests, values-held, nth-last, by_found)

some-cond : {A B : Type 0} (t : Bool) (a : A) (b : B) (o : Option A) (p : Option B) → is_some o ≡ is_some p → is_some (cond t (Some a) o) ≡ is_some (cond t (Some b) p)
some-cond true a b o p same = refl
some-cond false a b o p same = same

-- only a file comes before a process is made
pub brought-keeps : (name : List ℕ) (m : Machine) (s : Step) (old : Brought) → Facts m s → UntilBooted name m old → UntilBooted name s.after (by_event (brings name) s.moved.inside.event old)
brought-keeps name m s old facts is = by_kind facts.tells
  where
    there : (x : Step) → s ≡ x → UntilBooted name x.after (by_event (brings name) x.moved.inside.event old) → UntilBooted name s.after (by_event (brings name) s.moved.inside.event old)
    there x same r = subst (λ (x : Step). UntilBooted name x.after (by_event (brings name) x.moved.inside.event old)) (sym same) r

    never : run.is_booted m ≡ true → UntilBooted name s.after (by_event (brings name) s.moved.inside.event old)
    never booted none = absurd (not-both (run.is_booted s.after) (stays-booted m s facts booted) none)

    by_kind : StepTells m s → UntilBooted name s.after (by_event (brings name) s.moved.inside.event old)
    by_kind (Runs p v instr cpu memory sees stands same) = never (seen-booted m s p v facts sees)
    by_kind (Happens p v d e tells same) = never (seen-booted m s p v facts tells.seen)
    by_kind (Boots path file held first found bytes image same) =
        there _ same (λ none. absurd (not-both (run.is_booted (boot_step m path file held).after) (boot-booted m.kernel first) none))
    by_kind (Adds path bytes may same) =
        let none = not-true (run.is_booted m) (first-of (not (run.is_booted m)) _ may) in
        let free = free-none (find_file m.kernel.files path) _ (first-of (is_free m.kernel.files path) _ (second-of (not (run.is_booted m)) _ may)) in
        let was = is none in
        there _ same
        (λ still.
        record {
          count = ap (λ (k : ℕ). k + 1) was.count ∙ sym (more-files m.kernel.files.all (record { bytes = held_bytes m.events bytes; holders = 0 }));
          bytes = ap (cond (bytes_eq path name) (Some bytes)) was.bytes ∙ made-bytes m.kernel.files m.events path bytes name (facts.sound.kernel.named name) free;
          there =
              some-cond (bytes_eq path name) bytes (next_file m.kernel.files) old.bytes (find_file m.kernel.files name) was.there
              ∙ ap (λ (o : Option ℕ). is_some o) (pushed m.kernel.files.names path (next_file m.kernel.files) free name);
        })
    by_kind (Types bytes may same) = never may
    by_kind (Unplugs device may same) = never (unplugged-booted m device may)

-- so one more may be brought exactly where the name is free
less-full : (n : ℕ) → nat_lt n MOST_FILES ≡ not (nat_le MOST_FILES n)
less-full n = grind (arith, nat_tests)

pub brought-free : (name : List ℕ) (m : Machine) (b : Brought) → BroughtIs name m b → (not (is_some b.bytes) && nat_lt b.count MOST_FILES) ≡ is_free m.kernel.files name
brought-free name m b h1 = grind (arith, nat_tests, less-full)
