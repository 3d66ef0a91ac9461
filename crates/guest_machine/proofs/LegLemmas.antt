-- A leg that takes one more slice.
use Rattle.std.proofs.Common.{◌≡◌, ℕ, zero, suc, ◌+◌, ◌-◌, ◌*◌, ◌<◌, ◌≤◌, ◌++◌, Bool, true, false, cond, nat_le, List, [], ◌∷◌, length, map, flat_map, Option, Some, None, IfSome, refl, sym, ap, subst, ◌∙◌, arith, append-nil, length-append}
use Rattle.std.proofs.lemmas.Bool.Decides.{nat_tests}
use Rattle.std.proofs.lemmas.List.{map-append}
use Rattle.std.proofs.lemmas.List.Concat.{flat_map-append}
use Rattle.arn_base.specs.declared.boxes.Choice.{Choice}
use Rattle.arn_base.specs.declared.records.Record.{Record}
use Rattle.parts_model.specs.Replies.{Answered}
use Rattle.arn_model.specs.declared.run_state.RunState.{RunState}
use Rattle.arn_model.specs.declared.run_state.RunState.TheVariants as state
use Rattle.arn_model.specs.Kernel.{Machine}
use Rattle.arn_model.specs.Run.{Input, Slice, input_steps, instructions_in, machine_from}
use Rattle.arn_model.specs.Step.{Step}
use Rattle.arn_model.specs.Turn.{is_possible, run_state}
use Rattle.log_model.specs.Records.{input_records, records_from, slice_records}
use Rattle.result_log.specs.Spelling.{spelling}
use Rattle.guest_devices.specs.Answers.{Asked}
use Rattle.guest_calls.specs.State.{StandsFor}
use Rattle.guest_legs.specs.LegLaws.{PicksFollow}
use Rattle.guest_legs.specs.Legs.{AreInRange, Ask, Going, IsInRange, Picked, PickedBy, StaysOpen, ask, ask_of, asks_by, brought, end_of, fresh, going_after, going_by, input_of, leg_end, unanswered}
use Rattle.guest_machine.specs.Legs.{IsCutLeg, IsLeg, RepliedBy, RunsSlices}
use Rattle.guest_legs.specs.Pieces.{spelled_len}
use Rattle.guest_machine.specs.Recorded.{HasRoom, OfEach, Recorded, Runs}
use Rattle.guest_machine.specs.Slices.{IsCut, RanSlice, RepliesIn}
use Rattle.guest_legs.specs.declared.leg.LegEnd.{LegEnd}
use Rattle.guest_legs.specs.declared.leg.LegEnd.TheVariants as ends
use Rattle.guest_legs.specs.declared.leg.Pick.{Pick}
use Rattle.guest_legs.specs.declared.leg.TheConstants.{MOST_LEG}
use Rattle.guest_machine.proofs.PickLemmas.{PickedBy-none, PickedBy-one, RepliedBy-append, RepliedBy-one}
use Rattle.guest_machine.proofs.RunsLemmas.{Runs-none, Runs-then}

going-machine : (g : Going) (slices : List Picked) → (going_by g slices).machine ≡ machine_from g.machine (map input_of slices)
going-machine g [] = refl
going-machine g (s ∷ slices) = going-machine (going_after g s) slices

going_by-push : (g : Going) (slices : List Picked) (s : Picked) → going_by g (slices ++ s ∷ []) ≡ going_after (going_by g slices) s
going_by-push g [] s = refl
going_by-push g (x ∷ slices) s = going_by-push (going_after g x) slices s

asks_by-push : (g : Going) (slices : List Picked) (s : Picked) → asks_by g (slices ++ s ∷ []) ≡ asks_by g slices ++ ask_of (going_by g slices) ∷ []
asks_by-push g [] s = refl
asks_by-push g (x ∷ slices) s = ap (λ (asks : List Ask). ask_of g ∷ asks) (asks_by-push (going_after g x) slices s)

StaysOpen-push : (g : Going) (slices : List Picked) (s : Picked) → StaysOpen g slices → end_of (going_by g slices) ≡ None → StaysOpen g (slices ++ s ∷ [])
StaysOpen-push g [] s stays is = (is, tt)
StaysOpen-push g (x ∷ slices) s stays is = (stays.0, StaysOpen-push (going_after g x) slices s stays.1 is)

AreInRange-push : (g : Going) (slices : List Picked) (s : Picked) → AreInRange (asks_by g slices) slices → IsInRange (ask_of (going_by g slices)) s.pick → AreInRange (asks_by g (slices ++ s ∷ [])) (slices ++ s ∷ [])
AreInRange-push g [] s are is = (is, tt)
AreInRange-push g (x ∷ slices) s are is = (are.0, AreInRange-push (going_after g x) slices s are.1 is)

-- one more was picked where the leg now is
PickedBy-push : PicksFollow → (before between after : ℕ → Option Choice) (g : Going) (slices : List Picked) (s : Picked) → PickedBy before between (asks_by g slices) slices → IfSome (between 0) (λ choice. s.pick ≡ brought (ask_of (going_by g slices)) choice) → ((k : ℕ) → after k ≡ between (k + 1))
    → PickedBy before after (asks_by g (slices ++ s ∷ [])) (slices ++ s ∷ [])
PickedBy-push follow before between after g slices s picked is later =
    let now = ask_of (going_by g slices) in
    subst (λ (asks : List Ask). PickedBy before after asks (slices ++ s ∷ [])) (sym (asks_by-push g slices s))
    (follow before between after (asks_by g slices) (now ∷ []) slices (s ∷ []) picked (PickedBy-one between after now s is later))

RepliedBy-push : {A : Type 0} (answers : A → Asked → Answered → A → Type 0) (g : Going) (slices : List Picked) (s : Picked) (a b c : A) → RepliedBy answers (asks_by g slices) slices a b → RepliesIn answers s.pick.count s.pick.pid (going_by g slices).machine s.reply b c → RepliedBy answers (asks_by g (slices ++ s ∷ [])) (slices ++ s ∷ []) a c
RepliedBy-push answers g slices s a b c replied now =
    let here = ask_of (going_by g slices) in
    subst (λ (asks : List Ask). RepliedBy answers asks (slices ++ s ∷ []) a c) (sym (asks_by-push g slices s))
    (RepliedBy-append answers a b c (asks_by g slices) (here ∷ []) slices (s ∷ []) replied (RepliedBy-one answers b c here s now))

RunsSlices-none : {A : Type 0} (answers : A → Asked → Answered → A → Type 0) (start : Going) (r : Recorded) (asked : A) (out : List Record) → StandsFor r.kernel start.machine → RunsSlices answers start [] r r asked asked out out
RunsSlices-none answers start r asked out stands = record { runs = Runs-none start.machine r out stands; open_before = tt; in_range = tt; replied = (refl, refl) }

RunsSlices-push : {A : Type 0} (answers : A → Asked → Answered → A → Type 0) (start : Going) (slices : List Picked) (s : Picked) (r0 r1 r2 : Recorded) (a0 a1 a2 : A) (out0 out1 out2 : List Record) → RunsSlices answers start slices r0 r1 a0 a1 out0 out1
    → end_of (going_by start slices) ≡ None → IsInRange (ask_of (going_by start slices)) s.pick
    → Runs (going_by start slices).machine (input_of s ∷ []) r1 r2 out1 out2 → RepliesIn answers s.pick.count s.pick.pid (going_by start slices).machine s.reply a1 a2
    → RunsSlices answers start (slices ++ s ∷ []) r0 r2 a0 a2 out0 out2
RunsSlices-push answers start slices s r0 r1 r2 a0 a1 a2 out0 out1 out2 took is within runs replied =
    let next : Runs (machine_from start.machine (map input_of slices)) (input_of s ∷ []) r1 r2 out1 out2 = subst (λ (m : Machine). Runs m (input_of s ∷ []) r1 r2 out1 out2) (going-machine start slices) runs in
    record {
      runs =
          subst (λ (inputs : List Input). Runs start.machine inputs r0 r2 out0 out2) (sym (map-append input_of slices (s ∷ [])))
          (Runs-then start.machine (map input_of slices) (input_of s ∷ []) r0 r1 r2 out0 out1 out2 took.runs next);
      open_before = StaysOpen-push start slices s took.open_before is;
      in_range = AreInRange-push start slices s took.in_range within;
      replied = RepliedBy-push answers start slices s a0 a1 a2 took.replied replied;
    }

pub spelled-append : (xs ys : List Record) → spelled_len (xs ++ ys) ≡ spelled_len xs + spelled_len ys
spelled-append xs ys = ap length (flat_map-append spelling xs ys) ∙ length-append (flat_map spelling xs) (flat_map spelling ys)

-- What a leg has done so far, from a machine for which it began.
pub record SoFar {A : Type 0} (answers : A → Asked → Answered → A → Type 0) (start : Going) (r0 r : Recorded) (before after : ℕ → Option Choice) (a0 a : A) (out0 out : List Record) (steps0 steps left spelled : ℕ) : Type 0 where
  pub slices : List Picked
  pub took : RunsSlices answers start slices r0 r a0 a out0 out
  pub picked : PickedBy before after (asks_by start slices) slices
  pub is_left : (going_by start slices).left ≡ left
  pub is_spelled : spelled_len (going_by start slices).entries ≡ spelled
  pub ticks : steps + r0.instructions ≤ steps0 + r.instructions + length slices

pub SoFar-start : {A : Type 0} (answers : A → Asked → Answered → A → Type 0) (m : Machine) (budget : ℕ) (r : Recorded) (choices : ℕ → Option Choice) (a : A) (out : List Record) (steps : ℕ) → StandsFor r.kernel m → SoFar answers (fresh m budget) r r choices choices a a out out steps steps budget 0
SoFar-start answers m budget r choices a out steps stands =
    record { slices = []; took = RunsSlices-none answers (fresh m budget) r a out stands; picked = PickedBy-none choices; is_left = refl; is_spelled = refl; ticks = omega arith }

-- the records of a slice by what they add
pub slice-len : (m : Machine) (i : Input) (r r' : Recorded) (out out' : List Record) (len : ℕ) → Runs m (i ∷ []) r r' out out' → spelled_len out' ≡ spelled_len out + len → len ≡ spelled_len (input_records i (input_steps m i))
slice-len m i r r' out out' len runs is =
    let all = ap spelled_len runs.recorded ∙ spelled-append out (records_from m (i ∷ [])) in
    let one = ap spelled_len (append-nil (input_records i (input_steps m i))) in
    omega (arith, all, one, is)

-- they are some where the slice takes a step
records-some : (pid : ℕ) (steps : List Step) → 0 < length steps → 0 < spelled_len (slice_records pid steps)
records-some pid [] some = absurd (omega (arith, some))
records-some pid (s ∷ steps) some = omega arith

pub slice-spelled : (m : Machine) (pid count : ℕ) (reply : Option Answered) (r r' : Recorded) (out out' : List Record) (len : ℕ) → 0 < length (input_steps m (Slice pid count reply)) → Runs m (Slice pid count reply ∷ []) r r' out out' → spelled_len out' ≡ spelled_len out + len → 0 < len
slice-spelled m pid count reply r r' out out' len some runs is =
    omega (arith, slice-len m (Slice pid count reply) r r' out out' len runs is, records-some pid (input_steps m (Slice pid count reply)) some)

-- and its instructions
slice-ran : (m : Machine) (i : Input) (r r' : Recorded) (out out' : List Record) (ran : ℕ) → Runs m (i ∷ []) r r' out out' → r'.instructions ≡ r.instructions + ran → ran ≡ instructions_in (input_steps m i)
slice-ran m i r r' out out' ran runs is =
    let one = ap instructions_in (append-nil (input_steps m i)) in
    omega (arith, runs.counted, one, is)

module _ {A : Type 0} (answers : A → Asked → Answered → A → Type 0) (start : Going) (r0 r : Recorded) (before between : ℕ → Option Choice) (a0 a : A) (out0 out : List Record) (steps0 steps left spelled : ℕ) (rs : RunState) (stood : OfEach r.kernel (λ m. rs ≡ run_state m)) (p : SoFar answers start r0 r before between a0 a out0 out steps0 steps left spelled) where
  -- where the leg now is
  abbrev now : Going
  now = going_by start p.slices

  -- the state now stands for its machine
  now-stands : StandsFor r.kernel now.machine
  now-stands = subst (λ (m : Machine). StandsFor r.kernel m) (sym (going-machine start p.slices)) p.took.runs.leads

  -- what ends it here
  now-end : end_of now ≡ leg_end rs left spelled
  now-end =
      ap (λ (x : RunState). leg_end x now.left (spelled_len now.entries)) (sym (stood now.machine now-stands))
      ∙ ap (λ (n : ℕ). leg_end rs n (spelled_len now.entries)) p.is_left
      ∙ ap (λ (n : ℕ). leg_end rs left n) p.is_spelled

  pub SoFar-end : (end : LegEnd) → leg_end rs left spelled ≡ Some end → left ≤ start.left → IsLeg answers start (record { ran = start.left - left; end = end }) r0 r before between a0 a out0 out steps0 steps
  SoFar-end end is within =
      record { slices = p.slices; took = p.took; picked = p.picked; ends = now-end ∙ is; left = omega (arith, p.is_left, within); ticks = p.ticks }

  -- one more is picked
  module _ (follow : PicksFollow) (r' : Recorded) (after : ℕ → Option Choice) (a' : A) (out' : List Record) (steps' : ℕ) (pick : Pick) (none : leg_end rs left spelled ≡ None) (chose : OfEach r.kernel (λ m. IfSome (between 0) (λ choice. pick ≡ brought (ask m left) choice))) (later : (k : ℕ) → after k ≡ between (k + 1))
      (possible : OfEach r.kernel (λ m. is_possible m pick.pid pick.count ≡ true)) (some : 0 < pick.count) (within : pick.count ≤ left) (ticks : steps' + r.instructions ≤ steps + r'.instructions + 1) where
    chosen : IfSome (between 0) (λ choice. pick ≡ brought (ask_of now) choice)
    chosen = subst (λ (n : ℕ). IfSome (between 0) (λ choice. pick ≡ brought (ask now.machine n) choice)) (sym p.is_left) (chose now.machine now-stands)

    ranged : IsInRange (ask_of now) pick
    ranged = record { possible = possible now.machine now-stands; some = some; within = omega (arith, within, p.is_left) }

    -- it runs whole
    pub SoFar-more : (ran len : ℕ) → OfEach r.kernel (λ m. RanSlice answers m pick.pid pick.count a a' r r' out out') → r'.instructions ≡ r.instructions + ran → spelled_len out' ≡ spelled_len out + len
        → SoFar answers start r0 r' before after a0 a' out0 out' steps0 steps' (left - ran) (spelled + len)
    SoFar-more ran len took is_ran is_len =
        let slice = took now.machine now-stands in
        let s : Picked = record { pick = pick; reply = slice.reply } in
        let behind = going_by-push start p.slices s in
        let entries = input_records (input_of s) (input_steps now.machine (input_of s)) in
        record {
          slices = p.slices ++ s ∷ [];
          took = RunsSlices-push answers start p.slices s r0 r r' a0 a a' out0 out out' p.took (now-end ∙ none) ranged slice.runs slice.replied;
          picked = PickedBy-push follow before between after start p.slices s p.picked chosen later;
          is_left =
              ap (λ (x : Going). x.left) behind
              ∙ ap (λ (n : ℕ). n - instructions_in (input_steps now.machine (input_of s))) p.is_left
              ∙ ap (λ (n : ℕ). left - n) (sym (slice-ran now.machine (input_of s) r r' out out' ran slice.runs is_ran));
          is_spelled =
              ap (λ (x : Going). spelled_len x.entries) behind
              ∙ spelled-append now.entries entries
              ∙ ap (λ (n : ℕ). n + spelled_len entries) p.is_spelled
              ∙ ap (λ (n : ℕ). spelled + n) (sym (slice-len now.machine (input_of s) r r' out out' len slice.runs is_len));
          ticks = omega (arith, p.ticks, ticks, length-append p.slices (s ∷ []));
        }

    -- or is cut
    pub SoFar-cut : OfEach r.kernel (λ m. IsCut m pick.pid pick.count r r' out out') → a' ≡ a → steps' ≤ steps + pick.count → IsCutLeg answers start r0 r' before after a0 a' out0 out' steps0 steps'
    SoFar-cut cut unasked few =
        record {
          slices = p.slices;
          lost = pick;
          between = r;
          kept = out;
          took = subst (λ (x : A). RunsSlices answers start p.slices r0 r a0 x out0 out) (sym unasked) p.took;
          is_open = now-end ∙ none;
          in_range = ranged;
          cut = cut now.machine now-stands;
          picked = PickedBy-push follow before between after start p.slices (unanswered pick) p.picked chosen later;
          ticks = omega (arith, p.ticks, ticks);
          at_most = omega (arith, p.ticks, few);
        }

-- a leg that goes on has a budget, a process that can go on, and room for more bytes
pub record GoesOn (rs : RunState) (left spelled : ℕ) : Type 0 where
  pub able : rs ≡ state.CanGoOn
  pub some : 0 < left
  pub room : spelled < MOST_LEG

if-open : (b : Bool) → cond b (Some ends.More) None ≡ None → b ≡ false
if-open false is = refl
if-open true is = absurd cc

pub goes-on : (rs : RunState) (left spelled : ℕ) → leg_end rs left spelled ≡ None → GoesOn rs left spelled
goes-on state.Done left spelled is = absurd cc
goes-on state.Stalled left spelled is = absurd cc
goes-on state.CanGoOn zero spelled is = absurd cc
goes-on state.CanGoOn (suc left) spelled is =
    let short = if-open (nat_le MOST_LEG spelled) is in
    record { able = refl; some = omega arith; room = grind (arith, nat_tests) }

-- what a leg has counted so far: each slice has at most two events, and at least one byte
pub record Counts (r0 r : Recorded) (budget left spelled : ℕ) : Type 0 where
  pub within : left ≤ budget
  pub ran : r.instructions + left ≡ r0.instructions + budget
  pub events : r.kernel.events ≤ r0.kernel.events + 2 * spelled

pub Counts-start : (r : Recorded) (budget : ℕ) → Counts r r budget budget 0
Counts-start r budget = record { within = omega arith; ran = refl; events = omega arith }

pub Counts-more : (r0 r r' : Recorded) (budget left spelled ran len : ℕ) → Counts r0 r budget left spelled → ran ≤ left → r'.instructions ≡ r.instructions + ran → r'.kernel.events ≤ r.kernel.events + 2 → 0 < len → Counts r0 r' budget (left - ran) (spelled + len)
Counts-more r0 r r' budget left spelled ran len counts few is_ran events some =
    record { within = omega (arith, counts.within); ran = omega (arith, counts.ran, is_ran, few); events = omega (arith, counts.events, events, some) }

pub Counts-room : (r0 r : Recorded) (budget left spelled count : ℕ) → Counts r0 r budget left spelled → HasRoom r0 (2 * MOST_LEG) budget → spelled < MOST_LEG → count ≤ left → HasRoom r 2 count
Counts-room r0 r budget left spelled count counts room open_ few =
    record { events = omega (arith, counts.events, room.events, open_); instructions = omega (arith, counts.ran, room.instructions, few) }
