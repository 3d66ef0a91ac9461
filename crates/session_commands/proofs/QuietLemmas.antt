-- Events that are committed without their numbers.
use Rattle.std.proofs.Common.{◌≡◌, ◌≢◌, ℕ, ◌++◌, List, [], ◌∷◌, Option, None, filter_map, refl, sym, ap, ◌∙◌, subst, append_assoc, append-nil}
use Rattle.std.proofs.lemmas.Grind.{flat_map-append}
use Rattle.std.proofs.lemmas.List.Elements.{filter_map-append}
use Rattle.arn_base.specs.declared.disk.Disk.{Ghosts}
use Rattle.arn_base.specs.declared.records.Record.{Record}
use Rattle.arn_model.specs.Kernel.{Machine}
use Rattle.arn_model.specs.Laws.{EachRunAppends}
use Rattle.arn_model.specs.Run.{Input, after_input, input_steps, machine_from}
use Rattle.log_model.specs.Laws.{BehindAppend, NamedAppend, NamedRunsAgain, RecordsAppend}
use Rattle.log_model.specs.Records.{IsRun, input_records, named, records_from}
use Rattle.log_store.specs.Stores.{StoreState}
use Rattle.session_effects.specs.Carrying.{IsAtCommit, StopsBetween}
use Rattle.session_effects.specs.Effects.{Effect, Commits, Prints, committed, records_of}
use Rattle.session_effects.specs.Laws.{EffectsFollow, HaltsFollow}
use Rattle.session_effects.specs.Standing.{Carries, IsCause}
use Rattle.session_effects.specs.declared.halt.Halt.{Halt}
use Rattle.session_effects.specs.declared.halt.Halt.TheVariants as halt
use Rattle.session_runs.specs.Points.{slice_in, slices_in}
use Rattle.session_runs.specs.Ready.{machine_of}
use Rattle.history_model.specs.Unplugged.{unplugged_by, unplugged_in}
use Rattle.session_commands.specs.Answering.{HaltsIn}
use Rattle.session_commands.specs.Generator.{event_commits}
use Rattle.session_commands.proofs.AnswerLemmas.{never-rose}
use Rattle.session_commands.proofs.BootLemmas.{machine-more}
use Rattle.session_commands.proofs.LineLemmas.{IsPlain}
use Rattle.session_commands.proofs.TurnLemmas.{NameNone, first-commit, no-commit, none-next}

-- a sink that never fails makes nothing halt, and what does halt has its cause whatever sink there is
pub not-sink : (why : Halt) (d0 d1 : ℕ) → IsCause why d0 d1 0 0 → why ≢ halt.Sink
not-sink why d0 d1 cause is = never-rose (subst (λ (x : Halt). IsCause x d0 d1 0 0) is cause)

-- commits behind others
pub commits-append : (m : Machine) (inputs more : List Input) → event_commits m (inputs ++ more) ≡ event_commits m inputs ++ event_commits (machine_from m inputs) more
commits-append m [] more = refl
commits-append m (i ∷ inputs) more = ap (λ (x : List Effect). Commits (records_from m (i ∷ [])) ∷ x) (commits-append (after_input m i) inputs more)

-- all that they commit
pub commits-are : (m : Machine) (inputs : List Input) → committed (event_commits m inputs) ≡ records_from m inputs
commits-are m [] = refl
commits-are m (i ∷ inputs) =
    let first : List Record = input_records i (input_steps m i) in
    ap (λ (x : List Record). x ++ committed (event_commits (after_input m i) inputs)) (append-nil first) ∙ ap (λ (x : List Record). first ++ x) (commits-are (after_input m i) inputs)

-- Inputs became events whose records were committed, and nothing was put: so it looks from any sink.
pub record AreCommitted {D : Type 0} (d : Ghosts D) (old new : D) (s0 s1 : StoreState) (inputs : List Input) : Type 0 where
  pub carries : (held : Option (List ℕ)) → Carries IsRun d old new s0 s1 held held (event_commits (machine_of s0.entries) inputs)
  pub leads : machine_of s1.entries ≡ machine_from (machine_of s0.entries) inputs

module _ {D : Type 0} (d : Ghosts D) where
  -- the history behind an event
  pub entries-behind : (old new : D) (s0 s1 : StoreState) (held : Option (List ℕ)) (m : Machine) (i : Input) → Carries IsRun d old new s0 s1 held held (event_commits m (i ∷ [])) → s1.entries ≡ s0.entries ++ records_from m (i ∷ [])
  entries-behind old new s0 s1 held m i carries = carries.entries ∙ ap (λ (x : List Record). s0.entries ++ x) (append-nil (records_from m (i ∷ [])))

  -- one event
  pub committed-one : RecordsAppend → NamedRunsAgain → EachRunAppends → (old new : D) (s0 s1 : StoreState) (i : Input) → IsRun s0.entries → ((held : Option (List ℕ)) → Carries IsRun d old new s0 s1 held held (event_commits (machine_of s0.entries) (i ∷ []))) → AreCommitted d old new s0 s1 (i ∷ [])
  committed-one append again runs old new s0 s1 i is_run carries = record {
    carries = carries;
    leads =
        ap machine_of (entries-behind old new s0 s1 None (machine_of s0.entries) i (carries None))
        ∙ machine-more append again runs s0.entries is_run (i ∷ []);
  }

  -- events behind others
  pub committed-more : EffectsFollow IsRun d → EachRunAppends → (old mid new : D) (s0 s1 s2 : StoreState) (inputs more : List Input) → AreCommitted d old mid s0 s1 inputs → AreCommitted d mid new s1 s2 more → AreCommitted d old new s0 s2 (inputs ++ more)
  committed-more effects runs old mid new s0 s1 s2 inputs more a b =
      let m = machine_of s0.entries in
      let first = event_commits m inputs in
      let second = event_commits (machine_of s1.entries) more in
      let both : event_commits m (inputs ++ more) ≡ first ++ second = commits-append m inputs more ∙ ap (λ (x : Machine). first ++ event_commits x more) (sym a.leads) in
      record {
        carries = λ held. subst (λ (e : List Effect). Carries IsRun d old new s0 s2 held held e) (sym both)
            (record {
              stays_open = (b.carries held).stays_open;
              entries =
                  (b.carries held).entries
                  ∙ ap (λ (x : List Record). x ++ committed second) (a.carries held).entries
                  ∙ append_assoc s0.entries (committed first) (committed second)
                  ∙ ap (λ (x : List Record). s0.entries ++ x) (sym (flat_map-append records_of first second));
              out = effects.append old mid new s0.entries s1.entries held held held first second (a.carries held).entries (a.carries held).out (b.carries held).out;
            });
        leads = b.leads ∙ ap (λ (x : Machine). machine_from x more) a.leads ∙ sym (runs m inputs more).machine;
      }

  -- one that halts before others
  pub halts-before : HaltsFollow IsRun d → (old new : D) (history : List Record) (held : Option (List ℕ)) (why : Halt) (m : Machine) (inputs more : List Input) → HaltsIn (StopsBetween IsRun d old new history held held why) (event_commits m inputs) → HaltsIn (StopsBetween IsRun d old new history held held why) (event_commits m (inputs ++ more))
  halts-before halts old new history held why m inputs more h =
      let rest = event_commits (machine_from m inputs) more in
      record {
        done = h.done;
        undone = h.undone ++ rest;
        are_effects = commits-append m inputs more ∙ ap (λ (x : List Effect). x ++ rest) h.are_effects ∙ append_assoc h.done h.undone rest;
        stopped = halts.before old new history held held why h.done h.undone rest h.stopped;
      }

  -- one that halts behind others
  pub halts-behind : HaltsFollow IsRun d → (old mid new : D) (s0 s1 : StoreState) (held : Option (List ℕ)) (why : Halt) (inputs more : List Input) → AreCommitted d old mid s0 s1 inputs → HaltsIn (StopsBetween IsRun d mid new s1.entries held held why) (event_commits (machine_of s1.entries) more) → HaltsIn (StopsBetween IsRun d old new s0.entries held held why) (event_commits (machine_of s0.entries) (inputs ++ more))
  halts-behind halts old mid new s0 s1 held why inputs more a h =
      let m = machine_of s0.entries in
      let first = event_commits m inputs in
      record {
        done = first ++ h.done;
        undone = h.undone;
        are_effects =
            commits-append m inputs more
            ∙ ap (λ (x : Machine). first ++ event_commits x more) (sym a.leads)
            ∙ ap (λ (x : List Effect). first ++ x) h.are_effects
            ∙ sym (append_assoc first h.done h.undone);
        stopped = halts.behind old mid new s0.entries s1.entries held held held why first h.done h.undone (a.carries held).entries (a.carries held).out h.stopped;
      }

-- effects whose records name no slice, and unplug nothing
abbrev pub AllPlain : List Effect → Type 0
AllPlain [] = Unit {0}
AllPlain (Commits entries ∷ effects) = IsPlain entries × AllPlain effects
AllPlain (Prints text ∷ effects) = AllPlain effects

pub plain-committed : NamedAppend → BehindAppend → (effects : List Effect) → AllPlain effects → IsPlain (committed effects)
plain-committed names behind [] plain = (refl, refl, refl)
plain-committed names behind (Commits entries ∷ effects) plain =
    let rest = plain-committed names behind effects plain.1 in (
      ap (λ (x : List Input). filter_map slice_in x) (names entries (committed effects) rest.1)
          ∙ filter_map-append slice_in (named entries) (named (committed effects))
          ∙ ap (λ (x : _). x ++ slices_in (committed effects)) plain.0.0
          ∙ rest.0,
      behind entries (committed effects) rest.1 ∙ plain.0.1,
      filter_map-append unplugged_by entries (committed effects) ∙ ap (λ (x : List ℕ). x ++ unplugged_in (committed effects)) plain.0.2 ∙ rest.2,
    )
plain-committed names behind (Prints text ∷ effects) plain = plain-committed names behind effects plain

pub plain-done : (done undone : List Effect) → AllPlain (done ++ undone) → AllPlain done × AllPlain undone
plain-done [] undone plain = (tt, plain)
plain-done (Commits entries ∷ done) undone plain = let p = plain-done done undone plain.1 in ((plain.0, p.0), p.1)
plain-done (Prints text ∷ done) undone plain = plain-done done undone plain

pub plain-append : (effects more : List Effect) → AllPlain effects → AllPlain more → AllPlain (effects ++ more)
plain-append [] more plain others = others
plain-append (Commits entries ∷ effects) more plain others = (plain.0, plain-append effects more plain.1 others)
plain-append (Prints text ∷ effects) more plain others = plain-append effects more plain others

pub plain-next : (effects : List Effect) → AllPlain effects → (entries : List Record) → IsAtCommit effects entries → NameNone entries
plain-next [] plain entries at = absurd (none-next entries at)
plain-next (Commits first ∷ more) plain entries at = subst NameNone (sym (first-commit first entries more at)) (plain.0.0, plain.0.2)
plain-next (Prints text ∷ more) plain entries at = absurd (no-commit text entries more at)
