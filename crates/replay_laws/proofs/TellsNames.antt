-- The records tell which file a name stands for.
use Rattle.std.proofs.Common.{◌≡◌, ℕ, ◌+◌, ◌&&◌, not, Bool, true, false, cond, List, [], ◌∷◌, ◌++◌, Option, None, Some, is_some, map, filter, bytes_eq, refl, arith}
use Rattle.std.proofs.lemmas.Bool.Decides.{nat_tests}
use Rattle.std.specs.List.{list_any}
use Rattle.std.proofs.lemmas.List.{length_push}
use Rattle.std.proofs.lemmas.Slice.Eq.{bytes_eq-Decides}
use Rattle.std.proofs.lemmas.Bool.{not-true}
use Rattle.arn_base.specs.declared.records.Record.{Record}
use Rattle.arn_base.specs.declared.records.Record.TheVariants as entry
use Rattle.parts_model.specs.Files.{Name, file_among, find_file, next_file}
use Rattle.acts_model.specs.Moved.{Event}
use Rattle.acts_model.specs.Records.{is_event, NameChange, name_told}
use Rattle.arn_model.specs.Kernel.{Machine}
use Rattle.arn_model.specs.Run as run
use Rattle.arn_model.specs.Run.{may_unplug}
use Rattle.arn_model.specs.Step.{Step}
use Rattle.arn_model.specs.TransferCalls.{was_unplugged}
use Rattle.arn_model.specs.Tells.{is_inner, named_after}
use Rattle.history_model.specs.Names as names
use Rattle.history_model.specs.Names.{named_by, named_from}
use Rattle.replay_laws.proofs.TellsLives.{seen-booted, stays-booted}
use Rattle.replay_laws.proofs.TellsSteps.{Facts, by_event, fold_events}

-- one text for a change of names
same-change : (change : NameChange) (name : List ℕ) (before : Option ℕ) → named_by change name before ≡ named_after change name before
same-change change name before = grind (arith, nat_tests)

-- a new name behind the others is found, where it was free
pub pushed : (all : List Name) (path : List ℕ) (file : ℕ) → file_among all path ≡ None → (name : List ℕ) → cond (bytes_eq path name) (Some file) (file_among all name) ≡ file_among (all ++ record { path = path; file = file } ∷ []) name
pushed [] path file free name = refl
pushed (x ∷ all) path file free name = grind (arith, nat_tests, bytes_eq-Decides, pushed all path file)

-- slices tell nothing of names
pub named-kept : (n : ℕ) (entries : List Record) (name : List ℕ) (before : Option ℕ) → named_from n entries name before ≡ named_from n (filter is_event entries) name before
named-kept n [] name before = refl
named-kept n (entry.File path bytes ∷ entries) name before = named-kept (n + 1) entries name (cond (bytes_eq path name) (Some n) before)
named-kept n (entry.Call pid number result more ∷ entries) name before =
    named-kept n entries name (named_by (name_told (entry.Call pid number result more)) name before)
named-kept n (_ ∷ entries) name before = named-kept n entries name before

pub boot-kept : (entries : List Record) → list_any names.is_boot entries ≡ list_any names.is_boot (filter is_event entries)
boot-kept [] = refl
boot-kept (entry.Boot path give ∷ entries) = refl
boot-kept (_ ∷ entries) = boot-kept entries

-- how many files were brought, and what the name stands for
pub record Naming : Type 0 where
  pub brought : ℕ
  pub file : Option ℕ

abbrev pub named_at : List ℕ → ℕ → Record → Naming → Naming
named_at name n (entry.File path bytes) old = record { brought = old.brought + 1; file = cond (bytes_eq path name) (Some old.brought) old.file }
named_at name n e old = record { brought = old.brought; file = named_by (name_told e) name old.file }

pub names-fold : (name : List ℕ) (es : List Event) (old : Naming) → named_from old.brought (map (λ e. e.entry) es) name old.file ≡ (fold_events (named_at name) es old).file
names-fold name [] old = refl
names-fold name (e ∷ es) old = by_entry e.entry (names-fold name es)
  where
    by_entry : (x : Record) → ((old : Naming) → named_from old.brought (map (λ e. e.entry) es) name old.file ≡ (fold_events (named_at name) es old).file) → named_from old.brought (x ∷ map (λ e. e.entry) es) name old.file ≡ (fold_events (named_at name) es (named_at name e.number x old)).file
    by_entry x h1 = grind (arith, nat_tests)

-- what they are in the machine: before any process was made, the next file is the next one that is brought
pub record NamesAre (name : List ℕ) (m : Machine) (naming : Naming) : Type 0 where
  pub file : naming.file ≡ find_file m.kernel.files name
  pub next : run.is_booted m ≡ false → naming.brought ≡ next_file m.kernel.files

inner-named : (name : List ℕ) (n : ℕ) (e : Record) (old : Naming) → is_inner e ≡ true → (named_at name n e old).file ≡ named_by (name_told e) name old.file
inner-named name n e old h1 = grind (arith, nat_tests)

pub free-none : (o : Option ℕ) (b : Bool) → (not (is_some o) && b) ≡ true → o ≡ None
free-none None b e = refl
free-none (Some x) b e = cc

pub first-of : (a b : Bool) → (a && b) ≡ true → a ≡ true
first-of true b e = refl
first-of false b e = cc

pub second-of : (a b : Bool) → (a && b) ≡ true → b ≡ true
second-of true b e = e
second-of false b e = cc

pub not-both : (b : Bool) → b ≡ true → b ≡ false → ⊥
not-both b e f = cc

pub unplugged-booted : (m : Machine) (device : ℕ) → may_unplug m device ≡ true → run.is_booted m ≡ true
unplugged-booted m device may = first-of (run.is_booted m) (not (was_unplugged m.kernel device)) may

pub names-keep : (name : List ℕ) (m : Machine) (s : Step) (old : Naming) → Facts m s → NamesAre name m old → NamesAre name s.after (by_event (named_at name) s.moved.inside.event old)
names-keep name m s old h1 h2 = grind (arith, nat_tests, stays-booted, seen-booted, inner-named, same-change, not-both, not-true, first-of, free-none, second-of, pushed, length_push, unplugged-booted)
