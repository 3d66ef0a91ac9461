-- Which inputs a history takes behind others: an image that was brought can be booted, and behind a boot bytes can be typed.
use Rattle.std.proofs.Common.{◌≡◌, ◌≤◌, ℕ, ◌++◌, Bool, true, false, List, [], ◌∷◌, Option, Some, None, length, refl, sym, ap, ◌∙◌, ◌||◌, ◌&&◌, IsTrue, bytes_eq, if◌then◌else◌, is_none, nat_le, not, option_and_then, option_map, le-leb}
use Rattle.std.specs.List.{list_any}
use Rattle.std.proofs.lemmas.List.Folds.{list_any-append}
use Rattle.std.proofs.lemmas.Slice.Eq.{bytes_eq-Decides}
use Rattle.arn_base.specs.declared.records.Record.{Record}
use Rattle.arn_base.specs.declared.records.Record.TheVariants as entry
use Rattle.parts_model.specs.Files.{file_bytes, find_file, is_name}
use Rattle.parts_model.specs.Image.{is_image, read_as_image}
use Rattle.parts_model.specs.Tagged.{values}
use Rattle.parts_model.specs.declared.limits.TheConstants.{MOST_FILE_BYTES}
use Rattle.parts_model.specs.declared.tagged.TaggedByte.{TaggedByte}
use Rattle.arn_model.specs.Kernel.{at_first}
use Rattle.arn_model.specs.Laws.{EachRunAppends}
use Rattle.arn_model.specs.Run as run
use Rattle.arn_model.specs.Run.{Input, File, Boot, boot_found, boot_from, boot_step, can_add, file_step, is_free, machine_from}
use Rattle.arn_model.specs.Step.{Step}
use Rattle.arn_model.specs.Turn.{after_steps}
use Rattle.arn_lines.specs.declared.answer.Refusal.TheVariants.{NoBoot, NoBooted, NoImage}
use Rattle.history_model.specs.Names as names
use Rattle.history_model.specs.Names.{brought_from}
use Rattle.log_model.specs.Laws.{NamedRunsAgain, RecordsAppend}
use Rattle.log_model.specs.Records.{IsRun, event_records, named, records, records_from}
use Rattle.replay_laws.specs.Laws.{TellsRun, named_bytes}
use Rattle.session_runs.specs.Ready.{machine_of}
use Rattle.session_commands.specs.Refusals.{boot_refusal, bring_refusal, early_refusal, file_refusal, refused_if}
use Rattle.session_commands.proofs.AnswerLemmas.{or-true}
use Rattle.session_commands.proofs.TellLemmas.{IsBrought, accepted-boot, accepted-file}

-- the machine behind more inputs is that of the history with their records
pub machine-more : RecordsAppend → NamedRunsAgain → EachRunAppends → (history : List Record) → IsRun history → (more : List Input) → machine_of (history ++ records_from (machine_of history) more) ≡ machine_from (machine_of history) more
machine-more append again follow history is_run more =
    let inputs : List Input = named history in
    let same : history ++ records_from (machine_of history) more ≡ records (inputs ++ more) = ap (λ (h : List Record). h ++ records_from (machine_of history) more) is_run ∙ sym (append inputs more) in
    ap machine_of same
    ∙ (follow at_first (named (records (inputs ++ more))) []).reached
    ∙ ap (λ (s : List Step). after_steps at_first s) (again (inputs ++ more))
    ∙ sym (follow at_first (inputs ++ more) []).reached
    ∙ (follow at_first inputs more).machine

-- the last file of a name is the one that was brought last
brought-last : (entries : List Record) (name bytes : List ℕ) (before : Option (List ℕ)) → brought_from (entries ++ entry.File name bytes ∷ []) name before ≡ Some bytes
brought-last [] name bytes before = ap (λ (b : Bool). if b then Some bytes else before) ((bytes_eq-Decides name name).1 refl)
brought-last (entry.File path held ∷ entries) name bytes before = brought-last entries name bytes (if bytes_eq path name then Some held else before)
brought-last (e ∷ entries) name bytes before = brought-last entries name bytes before

or-false : (a b : Bool) → a ≡ false → b ≡ false → (a || b) ≡ false
or-false true b first second = first
or-false false b first second = second

and-all : (booted free named fits : Bool) → booted ≡ false → free ≡ true → named ≡ true → fits ≡ true → (not booted && (free && (named && fits))) ≡ true
and-all false true true true a b c d = refl
and-all true free named fits a b c d = absurd cc
and-all false false named fits a b c d = absurd cc
and-all false true false fits a b c d = absurd cc
and-all false true true false a b c d = absurd cc

-- an image may be booted
boots-image : (b : Bool) (o : Option (List ℕ)) (bytes : List ℕ) → b ≡ false → o ≡ Some bytes → is_image bytes ≡ true → (if b then Some NoBooted else file_refusal o) ≡ None
boots-image b o bytes none is image =
    ap (λ (x : Bool). if x then Some NoBooted else file_refusal o) none
    ∙ ap file_refusal is
    ∙ ap (λ (x : Bool). refused_if (is_none (if x then Some (read_as_image bytes) else None)) NoImage) image

module _ (history : List Record) (t : TellsRun (named history)) (is_run : IsRun history) (name : List ℕ) where
  -- no process was made
  none-booted : names.is_booted history ≡ false → run.is_booted (machine_of history) ≡ false
  none-booted none = sym t.booted ∙ ap names.is_booted (sym is_run) ∙ none

  -- a file that isn't refused is recorded
  records-file : (bytes : List ℕ) → bring_refusal history name ≡ None → IsTrue (is_name name) → length bytes ≤ MOST_FILE_BYTES → records_from (machine_of history) (File name bytes ∷ []) ≡ entry.File name bytes ∷ []
  records-file bytes accepted is_named fits =
      let a = accepted-file history name accepted in
      let none = none-booted a.0 in
      let free : is_free (machine_of history).kernel.files name ≡ true = sym (t.may_bring none name) ∙ ap (λ (h : List Record). names.may_bring h name) (sym is_run) ∙ a.1 in
      let can : can_add (machine_of history) name bytes ≡ true = and-all (run.is_booted (machine_of history)) (is_free (machine_of history).kernel.files name) (is_name name) (nat_le (length bytes) MOST_FILE_BYTES) none free is_named (le-leb (length bytes) MOST_FILE_BYTES fits) in
      ap (λ (b : Bool). event_records (if b then file_step (machine_of history) name bytes ∷ [] else []) ++ []) can

  -- where it is an image it may be booted
  pub accepts-boot : (bytes : List ℕ) → bring_refusal history name ≡ None → IsTrue (is_name name) → length bytes ≤ MOST_FILE_BYTES → IsTrue (is_image bytes) → boot_refusal (history ++ records_from (machine_of history) (File name bytes ∷ [])) name ≡ None
  accepts-boot bytes accepted is_named fits image =
      let there : List Record = history ++ entry.File name bytes ∷ [] in
      ap (λ (r : List Record). boot_refusal (history ++ r) name) (records-file bytes accepted is_named fits)
      ∙ boots-image (names.is_booted there) (names.brought there name) bytes
      (list_any-append names.is_boot history (entry.File name bytes ∷ []) ∙ or-false (names.is_booted history) false (accepted-file history name accepted).0 refl)
      (brought-last history name bytes None) image

  -- a boot that isn't refused is recorded
  boots-held : (file : ℕ) (held : List TaggedByte) (b : Bool) → b ≡ true → list_any names.is_boot (event_records (if b then boot_step (machine_of history) name file held ∷ [] else []) ++ []) ≡ true
  boots-held file held true is = refl
  boots-held file held false is = absurd cc

  boots-file : (file : ℕ) (o : Option (List TaggedByte)) (bytes : List ℕ) → option_map values o ≡ Some bytes → is_image bytes ≡ true → list_any names.is_boot (event_records (boot_from (machine_of history) name file o) ++ []) ≡ true
  boots-file file None bytes is image = absurd cc
  boots-file file (Some held) bytes is image =
      let same : values held ≡ bytes = cc in
      boots-held file held (is_image (values held)) (ap is_image same ∙ image)

  boots-found : (o : Option ℕ) (bytes : List ℕ) → option_map values (option_and_then (file_bytes (machine_of history).kernel.files) o) ≡ Some bytes → is_image bytes ≡ true → list_any names.is_boot (event_records (boot_found (machine_of history) name o) ++ []) ≡ true
  boots-found None bytes is image = absurd cc
  boots-found (Some file) bytes is image = boots-file file (file_bytes (machine_of history).kernel.files file) bytes is image

  records-boot : boot_refusal history name ≡ None → list_any names.is_boot (records_from (machine_of history) (Boot name ∷ [])) ≡ true
  records-boot accepted =
      let a = accepted-boot history name accepted in
      let none = none-booted a.0 in
      let file : IsBrought (names.brought history name) = a.1 in
      let holds : named_bytes (machine_of history).kernel.files name ≡ Some file.bytes = sym (t.brought none name) ∙ ap (λ (h : List Record). names.brought h name) (sym is_run) ∙ file.are in
      ap (λ (b : Bool). list_any names.is_boot (event_records (if b then [] else boot_found (machine_of history) name (find_file (machine_of history).kernel.files name)) ++ [])) none
      ∙ boots-found (find_file (machine_of history).kernel.files name) file.bytes holds file.image

  -- behind it bytes may be typed
  pub accepts-type : boot_refusal history name ≡ None → early_refusal (history ++ records_from (machine_of history) (Boot name ∷ [])) ≡ None
  accepts-type accepted =
      let booted : names.is_booted (history ++ records_from (machine_of history) (Boot name ∷ [])) ≡ true =
      list_any-append names.is_boot history (records_from (machine_of history) (Boot name ∷ []))
      ∙ sym (or-true (names.is_booted history) (list_any names.is_boot (records_from (machine_of history) (Boot name ∷ []))) (records-boot accepted)) in
      ap (λ (b : Bool). refused_if (not b) NoBoot) booted
