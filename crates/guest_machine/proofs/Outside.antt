-- Inputs that are one step from outside, and what they record.
use Rattle.std.proofs.Common.{◌≡◌, ◌≢◌, ◌⊎◌, inl, inr, ◌<◌, ◌^◌, ℕ, suc, ◌+◌, ◌≤◌, ◌++◌, ◌∙◌, Bool, true, false, not, ◌&&◌, ◌↔◌, if◌then◌else◌, nat_le, nat_lt, List, [], ◌∷◌, length, Option, None, Some, Result, Ok, Err, refl, sym, ap, subst, arith}
use Rattle.std.specs.Prelude.{IfErr, IsNone, IsSome, IsTrue, OnErr, OnOk, is_some}
use Rattle.std.proofs.lemmas.Bool.Decides.{nat_tests}
use Rattle.arn_base.specs.declared.records.Give.{Give}
use Rattle.arn_base.specs.declared.records.Record.{Record}
use Rattle.arn_base.specs.declared.records.Record.TheVariants as entry
use Rattle.parts_model.specs.Files.{Files, find_file, file_bytes, is_full, is_name}
use Rattle.parts_model.specs.declared.limits.TheConstants.{MOST_FILE_BYTES}
use Rattle.arn_model.specs.Kernel.{Kernel, Machine}
use Rattle.arn_model.specs.Run.{Input, File, Boot, Typed, Unplug, boot_from, boot_found, boot_step, file_step, input_steps, instructions_in, is_booted, is_free, typed_step, unplug_step}
use Rattle.arn_model.specs.Step.{Step}
use Rattle.arn_model.specs.TransferCalls.{was_unplugged}
use Rattle.log_model.specs.Records.{input_records}
use Rattle.result_log.specs.Spelling.{IsCounted}
use Rattle.guest_calls.specs.Starts.{BootedFrom}
use Rattle.guest_calls.specs.State.{Becomes, IsNext, State, StandsFor}
use Rattle.guest_files.specs.declared.errors.FileError.{FileError}
use Rattle.guest_files.specs.declared.errors.FileError.TheVariants as file_error
use Rattle.guest_machine.specs.Recorded.{OfEach, Recorded, Runs, has_process}
use Rattle.guest_machine.specs.Refusals.{of_file}
use Rattle.guest_machine.specs.declared.errors.MachineError.{MachineError}
use Rattle.guest_machine.specs.declared.errors.MachineError.TheVariants as machine_error
use Rattle.guest_machine.proofs.RunsLemmas.{Runs-one}

-- what holds where it was done
pub where-ok : {T E : Type 0} (done r : Result T E) (x : T) (P : Type 0) → r ≡ done → r ≡ Ok x → OnOk done P → P
where-ok {T} {E} done r x P same is h = subst (λ (s : Result T E). OnOk s P) (sym same ∙ is) h

abbrev recorded : State → ℕ → Recorded
recorded k n = record { kernel = k; instructions = n }

module _ (k k' : State) (n : ℕ) (r : Recorded) (out out' : List Record) (view : record { kernel = k; instructions = n } ≡ r) where
  -- one step
  runs-outside : (i : Input) (step : Machine → Step) (e : Record) → ((m : Machine) → StandsFor k m → input_steps m i ≡ step m ∷ []) → ((m : Machine) → instructions_in (step m ∷ []) ≡ 0)
      → ((m : Machine) → input_records i (step m ∷ []) ≡ e ∷ []) → Becomes k (λ m. (step m).after) k' → out' ≡ out ++ e ∷ []
      → OfEach r.kernel (λ m. Runs m (i ∷ []) r (record { kernel = k'; instructions = n }) out out')
  runs-outside i step e steps none told becomes pushed =
      subst (λ (x : Recorded). OfEach x.kernel (λ m. Runs m (i ∷ []) x (record { kernel = k'; instructions = n }) out out')) view
      (λ m stands.
      Runs-one m i (step m ∷ []) (record { kernel = k; instructions = n }) (record { kernel = k'; instructions = n }) out out' (steps m stands) (becomes.stands m stands)
      (omega (arith, none m)) (pushed ∙ ap (λ (es : List Record). out ++ es) (sym (told m))))

  -- whether there has been a process
  booted-by : (b : Bool) → has_process r.kernel ≡ b → (m : Machine) → StandsFor k m → is_booted m ≡ b
  booted-by b was m stands =
      ap (λ (x : Kernel). nat_lt 0 (length x.processes)) (sym stands.kernel) ∙ ap (λ (x : Recorded). has_process x.kernel) view ∙ was

  pub runs-typed : (bytes : List ℕ) → has_process r.kernel ≡ true → Becomes k (λ m. (typed_step m bytes).after) k' → out' ≡ out ++ entry.Typed bytes ∷ []
      → OfEach r.kernel (λ m. Runs m (Typed bytes ∷ []) r (record { kernel = k'; instructions = n }) out out')
  runs-typed bytes was becomes pushed =
      runs-outside (Typed bytes) (λ m. typed_step m bytes) (entry.Typed bytes) (λ m stands. ap (λ (b : Bool). if b then typed_step m bytes ∷ [] else []) (booted-by true was m stands))
      (λ m. refl) (λ m. refl) becomes pushed

  pub runs-unplug : (device : ℕ) → has_process r.kernel ≡ true → was_unplugged k.kernel device ≡ false → Becomes k (λ m. (unplug_step m device).after) k' → out' ≡ out ++ entry.Unplug device ∷ []
      → OfEach r.kernel (λ m. Runs m (Unplug device ∷ []) r (record { kernel = k'; instructions = n }) out out')
  runs-unplug device was before becomes pushed =
      runs-outside (Unplug device) (λ m. unplug_step m device) (entry.Unplug device)
      (λ m stands.
      ap (λ (b : Bool). if b && not (was_unplugged m.kernel device) then unplug_step m device ∷ [] else []) (booted-by true was m stands)
      ∙ ap (λ (b : Bool). if not b then unplug_step m device ∷ [] else []) (ap (λ (x : Kernel). was_unplugged x device) (sym stands.kernel) ∙ before))
      (λ m. refl) (λ m. refl) becomes pushed

  pub runs-boot : (name : List ℕ) (give : Give) → has_process r.kernel ≡ false → BootedFrom name give k k' → out' ≡ out ++ entry.Boot name give ∷ []
      → OfEach r.kernel (λ m. Runs m (Boot name ∷ []) r (record { kernel = k'; instructions = n }) out out')
  runs-boot name give was b pushed =
      runs-outside (Boot name) (λ m. boot_step m name b.file b.held) (entry.Boot name give)
      (λ m stands.
      ap (λ (x : Bool). if x then [] else boot_found m name (find_file m.kernel.files name)) (booted-by false was m stands)
      ∙ ap (boot_found m name) (ap (λ (x : Kernel). find_file x.files name) (sym stands.kernel) ∙ b.named)
      ∙ ap (boot_from m name b.file) (ap (λ (x : Kernel). file_bytes x.files b.file) (sym stands.kernel) ∙ b.bytes)
      ∙ ap (λ (x : Bool). if x then boot_step m name b.file b.held ∷ [] else []) b.image)
      (λ m. refl) (λ m. ap (λ (g : Give). entry.Boot name g ∷ []) (sym b.gives)) b.becomes pushed

  pub runs-file : (name bytes : List ℕ) → has_process r.kernel ≡ false → is_free k.kernel.files name ≡ true → is_name name ≡ true → length bytes ≤ MOST_FILE_BYTES
      → Becomes k (λ m. (file_step m name bytes).after) k' → out' ≡ out ++ entry.File name bytes ∷ []
      → OfEach r.kernel (λ m. Runs m (File name bytes ∷ []) r (record { kernel = k'; instructions = n }) out out')
  runs-file name bytes was free is few becomes pushed =
      runs-outside (File name bytes) (λ m. file_step m name bytes) (entry.File name bytes)
      (λ m stands.
      let rest : Bool = is_name name && nat_le (length bytes) MOST_FILE_BYTES in
      ap (λ (b : Bool). if not b && (is_free m.kernel.files name && rest) then file_step m name bytes ∷ [] else []) (booted-by false was m stands)
      ∙ ap (λ (b : Bool). if b && rest then file_step m name bytes ∷ [] else []) (ap (λ (x : Kernel). is_free x.files name) (sym stands.kernel) ∙ free)
      ∙ ap (λ (b : Bool). if b && nat_le (length bytes) MOST_FILE_BYTES then file_step m name bytes ∷ [] else []) is
      ∙ ap (λ (b : Bool). if b then file_step m name bytes ∷ [] else []) (within (length bytes) MOST_FILE_BYTES few))
      (λ m. refl) (λ m. refl) becomes pushed
    where
      within : (a b : ℕ) → a ≤ b → nat_le a b ≡ true
      within a b le = grind (arith, nat_tests)

-- a file that was added has a free name
pub free-of : {T : Type 0} (r : Result T FileError) (x : T) (files : Files) (name : List ℕ) → r ≡ Ok x → (r ≡ Err file_error.Exists) ↔ IsSome (find_file files name)
    → (r ≡ Err file_error.TooMany) ↔ (IsNone (find_file files name) × IsTrue (is_full files)) → is_free files name ≡ true
free-of {T} r x files name is exists many = free (find_file files name) (is_full files) (λ some. clash (sym is ∙ exists.1 some)) (λ full. clash (sym is ∙ many.1 full))
  where
    clash : {E : Type 0} {e : E} → Ok x ≡ Err e → ⊥
    clash is = cc

    free : (o : Option ℕ) (full : Bool) → (IsSome o → ⊥) → (IsNone o × IsTrue full → ⊥) → (not (is_some o) && not full) ≡ true
    free (Some p) full some many = absurd (some refl)
    free None true some many = absurd (many (refl, refl))
    free None false some many = refl

-- and one that wasn't has none, where its bytes are few
module _ {T : Type 0} (r : Result T MachineError) (error : FileError) (told : r ≡ Err (of_file error)) where
  pub file-not-booted : (b : Bool) → b ≡ false → (r ≡ Err machine_error.Booted) ↔ IsTrue b
  file-not-booted b not_yet = (λ is. absurd (never error r told is), λ yes. absurd (no_true (sym not_yet ∙ yes)))
    where
      no_true : false ≡ true → ⊥
      no_true is = cc

      never : (e : FileError) (s : Result T MachineError) → s ≡ Err (of_file e) → s ≡ Err machine_error.Booted → ⊥
      never file_error.NoFile s is same = cc
      never file_error.Exists s is same = cc
      never file_error.TooMany s is same = cc
      never file_error.TooLong s is same = cc
      never file_error.NoMemory s is same = cc

  pub file-only : IfErr r (λ e. (e ≡ machine_error.Booted) ⊎ ((e ≡ machine_error.NoName) ⊎ (e ≡ machine_error.NoMemory)))
  file-only = subst (λ (s : Result T MachineError). IfErr s (λ e. (e ≡ machine_error.Booted) ⊎ ((e ≡ machine_error.NoName) ⊎ (e ≡ machine_error.NoMemory)))) (sym told) (only error)
    where
      only : (e : FileError) → (of_file e ≡ machine_error.Booted) ⊎ ((of_file e ≡ machine_error.NoName) ⊎ (of_file e ≡ machine_error.NoMemory))
      only file_error.NoFile = inr (inl refl)
      only file_error.Exists = inr (inl refl)
      only file_error.TooMany = inr (inl refl)
      only file_error.TooLong = inr (inl refl)
      only file_error.NoMemory = inr (inr refl)

  pub file-no-name : {U : Type 0} (done : Result U FileError) (files : Files) (name bytes : List ℕ) → done ≡ Err error → (done ≡ Err file_error.Exists) ↔ IsSome (find_file files name)
      → (done ≡ Err file_error.TooMany) ↔ (IsNone (find_file files name) × IsTrue (is_full files))
      → (done ≡ Err file_error.TooLong) ↔ (IsNone (find_file files name) × (is_full files ≡ false) × (MOST_FILE_BYTES < length bytes))
      → IfErr done (λ e. e ≢ file_error.NoFile) → length bytes ≤ MOST_FILE_BYTES → r ≡ Err machine_error.NoName → is_free files name ≡ false
  file-no-name {U} done files name bytes was exists many long not_file few is = by error was told
    where
      by : (e : FileError) → done ≡ Err e → r ≡ Err (of_file e) → is_free files name ≡ false
      by file_error.NoFile was same = absurd (subst (λ (s : Result U FileError). IfErr s (λ e. e ≢ file_error.NoFile)) was not_file refl)
      by file_error.Exists was same = ap (λ (b : Bool). not b && not (is_full files)) (exists.0 was)
      by file_error.TooMany was same = ap (λ (b : Bool). not (is_some (find_file files name)) && not b) (many.0 was).1 ∙ none (is_some (find_file files name))
        where
          none : (b : Bool) → (not b && false) ≡ false
          none true = refl
          none false = refl
      by file_error.TooLong was same = absurd (omega (arith, (long.0 was).2, few))
      by file_error.NoMemory was same = absurd (clash r same is)
        where
          clash : (s : Result T MachineError) → s ≡ Err machine_error.NoMemory → s ≡ Err machine_error.NoName → ⊥
          clash s no_memory no_name = cc

-- what holds where it failed
pub where-err : {T E : Type 0} (done r : Result T E) (e : E) (P : Type 0) → r ≡ done → r ≡ Err e → OnErr done P → P
where-err {T} {E} done r e P same is h = subst (λ (s : Result T E). OnErr s P) (sym same ∙ is) h

-- the machine as it was
pub same-recorded : (k k' : State) (n : ℕ) (r : Recorded) → record { kernel = k; instructions = n } ≡ r → k' ≡ k → record { kernel = k'; instructions = n } ≡ r
same-recorded k k' n r view same = ap (λ (x : State). recorded x n) same ∙ view

-- no process has been made
pub no-process : (k : State) (n : ℕ) (r : Recorded) → record { kernel = k; instructions = n } ≡ r → has_process r.kernel ≡ false → k.kernel.processes ≡ []
no-process k n r view was = none k.kernel.processes (ap (λ (x : Recorded). has_process x.kernel) view ∙ was)
  where
    none : {A : Type 0} (xs : List A) → nat_lt 0 (length xs) ≡ false → xs ≡ []
    none [] is = refl
    none (x ∷ xs) is = absurd (some (length xs) is)
      where
        some : (n : ℕ) → nat_lt 0 (suc n) ≡ false → ⊥
        some n is = grind (arith, nat_tests)

-- the number of the next event
pub next-event : (k : State) (event n : ℕ) (r : Recorded) → record { kernel = k; instructions = n } ≡ r → event ≡ k.events → r.kernel.events + 1 < 2 ^ 64 → IsNext k event
next-event k event n r view is room = record { number = is; room = few (subst (λ (x : Recorded). x.kernel.events + 1 < 2 ^ 64) (sym view) room) }
  where
    few : k.events + 1 < 2 ^ 64 → event + 1 < 2 ^ 64
    few room = omega (arith, is, room)

pub few-counted : (bytes : List ℕ) → length bytes ≤ MOST_FILE_BYTES → IsCounted bytes
few-counted bytes few = omega (arith, few)
