-- A leg that was taken from the machine of a history, as the session sees it.
use Rattle.std.proofs.Common.{◌≡◌, ℕ, ◌+◌, ◌-◌, ◌^◌, ◌<◌, ◌≤◌, ◌++◌, List, [], ◌∷◌, length, map, Option, Some, option_map, Result, Ok, Err, IfErr, IsErrAnd, sym, ap, ◌∙◌, subst, append-nil, length-append, arith}
use Rattle.arn_base.specs.declared.boxes.Choice.{Choice}
use Rattle.arn_base.specs.declared.disk.Disk.{Ghosts}
use Rattle.arn_base.specs.declared.records.Record.{Record}
use Rattle.arn_model.specs.Kernel.{Machine}
use Rattle.arn_model.specs.Laws.{EachRunAppends}
use Rattle.arn_model.specs.Run.{instructions_in, steps_from}
use Rattle.arn_model.specs.Turn.{run_state}
use Rattle.log_model.specs.Laws.{NamedAppend, RecordsBegin}
use Rattle.log_model.specs.Records.{named}
use Rattle.log_store.specs.Stores.{StoreState}
use Rattle.parts_model.specs.Replies.{Answered}
use Rattle.guest_devices.specs.Answers.{Asked}
use Rattle.guest_legs.specs.declared.leg.Leg.{Leg}
use Rattle.guest_legs.specs.declared.leg.LegEnd.TheVariants as leg_end_is
use Rattle.guest_machine.specs.Laws.{RecordsLeaveRoom}
use Rattle.guest_legs.specs.LegLaws.{LegsAsNamed, SameAsNamed}
use Rattle.guest_legs.specs.Legs.{AreInRange, Picked, PickedBy, StaysOpen, asks_by, end_of, fresh, going_by, input_of}
use Rattle.guest_machine.specs.Legs.{IsLeg, RepliedBy}
use Rattle.guest_legs.specs.Pieces.{spelled_len}
use Rattle.guest_machine.specs.Recorded.{HasRoom, Recorded}
use Rattle.session_effects.specs.Effects.{Effect, Commits, Prints}
use Rattle.session_effects.specs.Laws.{EffectsFollow}
use Rattle.session_effects.specs.Standing.{Carries, IsOpen}
use Rattle.session_effects.specs.declared.halt.Halt.{Halt}
use Rattle.session_runs.specs.Outputs.{outputs_text}
use Rattle.session_runs.specs.Points.{Advances, Surroundings, around}
use Rattle.session_runs.specs.Ready.{IsReady, machine_of}
use Rattle.session_runs.specs.Runs.{begun, end_told, ends, leg_effects, run_from}
use Rattle.session_runs.specs.Touches.{Answering}
use Rattle.session_runs.proofs.LegLemmas.{Advances-leg, entries-are, machine-behind}
use Rattle.session_runs.proofs.RunLemmas.{end-behind, leg-some, more-some}

-- what holds of an error holds of the result that is this error
pub err-same : {T : Type 0} (result : Result T Halt) (why : Halt) (P : Halt → Type 0) → IsErrAnd result (λ halt. halt ≡ why) → P why → IfErr result P
err-same (Ok x) why P is p = tt
err-same (Err halt) why P is p = subst P (sym is) p

-- the slices of a leg, and its records
pub record Taken {A : Type 0} (replies : A → Asked → Answered → A → Type 0) (m : Machine) (left : ℕ) (leg : Leg) (entries : List Record) (old new : Surroundings A) : Type 0 where
  pub slices : List Picked
  pub same : SameAsNamed (fresh m left) slices
  pub opens : StaysOpen (fresh m left) slices
  pub closed : end_of (going_by (fresh m left) slices) ≡ Some leg.end
  pub are : entries ≡ (going_by (fresh m left) slices).entries
  pub is_left : left - leg.ran ≡ (going_by (fresh m left) slices).left
  pub picked : PickedBy old.choices new.choices (asks_by (fresh m left) slices) slices
  pub in_range : AreInRange (asks_by (fresh m left) slices) slices
  pub replied : RepliedBy replies (asks_by (fresh m left) slices) slices old.answers new.answers
  pub executed : new.steps ≤ old.steps + (instructions_in (steps_from m (map input_of slices)) + length slices)

pub taken : {A : Type 0} (answers : A → Asked → Answered → A → Type 0) → LegsAsNamed → (history : List Record) (left : ℕ) (leg : Leg) (r r' : Recorded) (before after : ℕ → Option Choice) (a a' : A) (out out' : List Record) (steps steps' : ℕ) → IsLeg answers (fresh (machine_of history) left) leg r r' before after a a' out out' steps steps' → out ≡ []
    → Taken answers (machine_of history) left leg out' (around before a steps) (around after a' steps')
taken answers legs history left leg r r' before after a a' out out' steps steps' is none =
    let m = machine_of history in
    record {
      slices = is.slices;
      same = legs (named history) left [] is.slices is.took.in_range;
      opens = is.took.open_before;
      closed = is.ends;
      are = entries-are m left is.slices r r' out out' none is.took.runs;
      is_left = omega (arith, is.left);
      picked = is.picked;
      in_range = is.took.in_range;
      replied = is.took.replied;
      executed = omega (arith, is.ticks, is.took.runs.counted);
    }

module _ {A : Type 0} (who : Answering A) (names : NamedAppend) (begin : RecordsBegin) (append : EachRunAppends) (history there : List Record) (left : ℕ) (leg : Leg) (entries : List Record) (old new : Surroundings A) (t : Taken who.answers (machine_of history) left leg entries old new) (is : there ≡ history ++ entries) where
  -- the machine behind it
  machine-there : machine_of there ≡ (going_by (fresh (machine_of history) left) t.slices).machine
  machine-there = ap machine_of is ∙ ap (λ (x : List Record). machine_of (history ++ x)) t.are ∙ machine-behind names begin append history left t.slices t.same

  pub Advances-taken : (budget : ℕ) (carried : List Effect → Type 0) → carried (leg_effects (machine_of history).events entries) → Advances who (run_from budget (begun (machine_of history) left)) (run_from budget (begun (machine_of there) (left - leg.ran))) old new 0 carried
  Advances-taken budget carried carries =
      Advances-leg who budget (machine_of history) (machine_of there) left (left - leg.ran) t.slices leg.end old new carried begin t.same t.opens t.closed machine-there t.is_left t.picked t.in_range t.replied t.executed
      (subst (λ (x : List Record). carried (leg_effects (machine_of history).events x)) t.are carries)

  pub ends-taken : ends (begun (machine_of there) (left - leg.ran)) ≡ end_told leg.end
  ends-taken =
      let g = going_by (fresh (machine_of history) left) t.slices in
      ap (λ (m : Machine). ends (begun m (left - leg.ran))) machine-there ∙ ap (λ (n : ℕ). ends (begun g.machine n)) t.is_left ∙ end-behind (run_state g.machine) g.left (spelled_len g.entries) leg.end t.closed

  pub some-taken : leg.end ≡ leg_end_is.More → 0 < length entries
  some-taken more =
      let g = going_by (fresh (machine_of history) left) t.slices in
      subst (λ (x : List Record). 0 < length x) (sym t.are) (more-some (run_state g.machine) g.left g.entries (t.closed ∙ ap (λ e. Some e) more))

  pub more-taken : leg.end ≡ leg_end_is.More → length history < length there
  more-taken more = omega (arith, some-taken more, ap (λ (x : List Record). length x) is, length-append history entries)

-- what its records tell, put into an empty text
pub leg-text : {events first event : ℕ} {shown entries : List Record} {before text : List ℕ} → events ≡ first → event ≡ events → shown ≡ entries → before ≡ [] → text ≡ before ++ outputs_text event shown → text ≡ outputs_text first entries
leg-text {events} {first} {event} {shown} {entries} {before} {text} is same are none written =
    written
    ∙ ap (λ (x : List ℕ). x ++ outputs_text event shown) none
    ∙ ap (λ (n : ℕ). outputs_text n shown) (same ∙ is)
    ∙ ap (outputs_text first) are

-- the machine has room for more where there are few records
pub room-for : RecordsLeaveRoom → (r : Recorded) (history : List Record) (events instructions : ℕ) → IsReady r history → length history < 2 ^ 63 → events ≤ 2 ^ 63 → instructions ≤ 2 ^ 64 → HasRoom r events instructions
room-for leave_room r history events instructions ready few at_most within =
    leave_room r (named history) events instructions ready.is_after (subst (λ (x : List Record). length x < 2 ^ 63) ready.is_run few) at_most within

module _ {D : Type 0} (is_run : List Record → Type 0) (d : Ghosts D) (effects : EffectsFollow is_run d) where
  -- nothing was carried out
  pub Carries-none : (disk : D) (store : StoreState) (held : Option (List ℕ)) → IsOpen d store disk → Carries is_run d disk disk store store held held []
  Carries-none disk store held open_now = record { stays_open = open_now; entries = sym (append-nil store.entries); out = effects.nothing disk store.entries held }

  -- a text behind a commit
  pub Carries-leg : (old new : D) (s0 s1 : StoreState) (h0 h1 : Option (List ℕ)) (first : ℕ) (entries : List Record) (text : List ℕ) → 0 < length entries → text ≡ outputs_text first entries → Carries is_run d old new s0 s1 h0 h0 (Commits entries ∷ []) → h1 ≡ option_map (λ held. held ++ text) h0 → Carries is_run d old new s0 s1 h0 h1 (leg_effects first entries)
  Carries-leg old new s0 s1 h0 h1 first entries text some is a put =
      subst (λ (x : List Effect). Carries is_run d old new s0 s1 h0 h1 x) (ap (λ (x : List ℕ). Commits entries ∷ Prints x ∷ []) is ∙ sym (leg-some first entries some))
      (record {
        stays_open = a.stays_open;
        entries = a.entries;
        out = effects.append old new new s0.entries s1.entries h0 h0 h1 (Commits entries ∷ []) (Prints text ∷ []) a.entries a.out (effects.text new s1.entries h0 h1 text put);
      })

  -- a text alone
  pub Carries-text : (disk : D) (store : StoreState) (h0 h1 : Option (List ℕ)) (text : List ℕ) → IsOpen d store disk → h1 ≡ option_map (λ held. held ++ text) h0 → Carries is_run d disk disk store store h0 h1 (Prints text ∷ [])
  Carries-text disk store h0 h1 text open_now put = record { stays_open = open_now; entries = sym (append-nil store.entries); out = effects.text disk store.entries h0 h1 text put }
