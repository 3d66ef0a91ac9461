-- A turn, put together from its parts.
use Rattle.std.proofs.Common.{◌≡◌, ◌≢◌, ℕ, zero, suc, ◌+◌, ◌-◌, ◌<◌, ◌≤◌, ◌++◌, Bool, true, false, cond, nat_lt, List, [], ◌∷◌, Option, None, Some, IsSome, option_map, length, option_to_list, refl, sym, ap, subst, ◌∙◌, append-nil, arith}
use Rattle.std.proofs.lemmas.Bool.{cond-true, cond-false}
use Rattle.std.proofs.lemmas.Bool.Decides.{nat_tests}
use Rattle.arn_base.specs.declared.records.Record.{Record}
use Rattle.rv64_core.specs.declared.outcome.Outcome.{Outcome}
use Rattle.rv64_core.specs.declared.outcome.Outcome.TheVariants as outcome
use Rattle.rv64_model.specs.Instruction.{Effect, Call, End}
use Rattle.parts_model.specs.Numbered.{nth}
use Rattle.parts_model.specs.Replies.{Answered}
use Rattle.acts_model.specs.Bodies.{View, seen}
use Rattle.arn_model.specs.Kernel.{Machine}
use Rattle.arn_model.specs.Parts.{MaybeLast, TurnsHaveParts}
use Rattle.arn_model.specs.Run.{instructions_in}
use Rattle.arn_model.specs.Step.{Step, plain_by}
use Rattle.arn_model.specs.Turn.{after_first, after_steps, delivery_in, last_in, last_of, plain_in, plains, steps_of, steps_then, turn}
use Rattle.log_model.specs.Records.{event_records}
use Rattle.guest_bodies.specs.Shown.{Guests, IsLive, Shown, seen_in}
use Rattle.guest_devices.specs.Answers.{Asked}
use Rattle.guest_calls.specs.State.{State, StandsFor}
use Rattle.guest_machine.specs.Slices.{RepliesIf, RepliesOf, delivered}
use Rattle.guest_machine.specs.Turns.{Finishes, Happens, StandsAt, StopsAt, TookPart, TookWhole, Turn, Turned}
use Rattle.guest_machine.proofs.Appends.{after_steps-append, event_records-append}
use Rattle.guest_machine.proofs.TurnParts.{last-counted, last-one, plain-records}

-- what a live process sees
some-view : (guests : Guests) (p : ℕ) → IsLive guests p → (v : View) × (seen_in guests p ≡ Some v)
some-view guests p live = by (nth guests p) live
  where
    by : (o : Option Shown) → IsSome o → (v : View) × (option_map (λ shown. shown.view) o ≡ Some v)
    by None is = absurd cc
    by (Some shown) is = (shown.view, refl)

pub sees : (s : State) (m : Machine) (p : ℕ) → StandsFor s m → IsLive s.guests p → (v : View) × (seen m.bodies p ≡ Some v)
sees s m p stands live =
    let v = some-view s.guests p live in
    (v.0, sym (stands.seen p) ∙ v.1)

-- what a machine's process sees is live in a state that stands for it
pub lives : (s : State) (m : Machine) (p : ℕ) (v : View) → StandsFor s m → seen m.bodies p ≡ Some v → IsLive s.guests p
lives s m p v stands is = by (nth s.guests p) (stands.seen p ∙ is)
  where
    by : (o : Option Shown) → option_map (λ shown. shown.view) o ≡ Some v → IsSome o
    by None e = absurd cc
    by (Some shown) e = cc

-- who sees nothing runs nothing
none-plain : (n pid : ℕ) (m : Machine) → seen m.bodies pid ≡ None → plains n pid m ≡ []
none-plain zero pid m none = refl
none-plain (suc n) pid m none = rw none refl

-- plain instructions are as many as there may be, or fewer
then-few : (o : Option Step) (n : ℕ) (rest : Machine → List Step) → ((m : Machine) → length (rest m) ≤ n) → length (steps_then o rest) ≤ suc n
then-few None n rest few = omega arith
then-few (Some s) n rest few = omega (arith, few s.after)

pub plains-few : (n pid : ℕ) (m : Machine) → length (plains n pid m) ≤ n
plains-few zero pid m = omega arith
plains-few (suc n) pid m = then-few (plain_in m pid (seen m.bodies pid)) n (plains n pid) (plains-few n pid)

-- where so many ran, more go on behind them
then-more : (o : Option Step) (n k pid : ℕ) → ((m : Machine) → length (plains n pid m) ≡ n → plains (n + k) pid m ≡ plains n pid m ++ plains k pid (after_steps m (plains n pid m))) → (m : Machine) → length (steps_then o (plains n pid)) ≡ suc n
    → steps_then o (plains (n + k) pid) ≡ steps_then o (plains n pid) ++ plains k pid (after_steps m (steps_then o (plains n pid)))
then-more None n k pid more m all = absurd (omega (arith, all))
then-more (Some s) n k pid more m all = ap (λ (steps : List Step). s ∷ steps) (more s.after (omega (arith, all)))

pub plains-more : (n k pid : ℕ) (m : Machine) → length (plains n pid m) ≡ n → plains (n + k) pid m ≡ plains n pid m ++ plains k pid (after_steps m (plains n pid m))
plains-more zero k pid m all = ap (λ (i : ℕ). plains i pid m) (omega arith)
plains-more (suc n) k pid m all =
    let e : suc n + k ≡ suc (n + k) = omega arith in
    ap (λ (i : ℕ). plains i pid m) e ∙ then-more (plain_in m pid (seen m.bodies pid)) n k pid (plains-more n k pid) m all

turn-after : (n pid : ℕ) (reply : Option Answered) (m : Machine) → let m1 = delivered pid m in let plain = plains n pid m1 in
    after_steps m (steps_of (turn n pid reply m)) ≡ after_first (after_steps m1 plain) (last_of n pid reply m1 plain)
turn-after n pid reply m =
    let delivery = delivery_in m pid (seen m.bodies pid) in
    let m1 = delivered pid m in
    let plain = plains n pid m1 in
    let last = last_of n pid reply m1 plain in
    first (delivery_in m pid (seen m.bodies pid)) m (plain ++ option_to_list last) ∙ after_steps-append m1 plain (option_to_list last) ∙ at_end (after_steps m1 plain) last
  where
    first : (o : Option Step) (m : Machine) (rest : List Step) → after_steps m (option_to_list o ++ rest) ≡ after_steps (after_first m o) rest
    first None m rest = refl
    first (Some s) m rest = refl

    at_end : (m : Machine) (o : Option Step) → after_steps m (option_to_list o) ≡ after_first m o
    at_end m None = refl
    at_end m (Some s) = refl

turn-told : TurnsHaveParts → (n pid : ℕ) (reply : Option Answered) (m : Machine) → let m1 = delivered pid m in let plain = plains n pid m1 in
    event_records (steps_of (turn n pid reply m)) ≡ event_records (option_to_list (delivery_in m pid (seen m.bodies pid))) ++ event_records (option_to_list (last_of n pid reply m1 plain))
turn-told parts n pid reply m =
    let first = option_to_list (delivery_in m pid (seen m.bodies pid)) in
    let m1 = delivered pid m in
    let last = option_to_list (last_of n pid reply m1 (plains n pid m1)) in
    event_records-append first (plains n pid m1 ++ last) ∙ ap (λ (entries : List Record). event_records first ++ entries) (plain-records (plains n pid m1) last (parts n pid reply m).plain)

turn-ran : TurnsHaveParts → (n pid : ℕ) (reply : Option Answered) (m : Machine) → let m1 = delivered pid m in let plain = plains n pid m1 in
    instructions_in (steps_of (turn n pid reply m)) ≡ length plain + instructions_in (option_to_list (last_of n pid reply m1 plain))
turn-ran parts n pid reply m =
    let is = parts n pid reply m in
    let plain = plains n pid (delivered pid m) in
    let last = last_of n pid reply (delivered pid m) plain in
    is.instructions ∙ ap (λ (k : ℕ). length plain + k) (sym (last-one last is.last))

-- from the last step that may be, a turn's facts
pub turned : TurnsHaveParts → (m : Machine) (pid n : ℕ) (reply : Option Answered) (delivery last : Option Record) (step : Option Step) (ran : ℕ) (cut : Bool) (new : State)
    → event_records (option_to_list (delivery_in m pid (seen m.bodies pid))) ≡ option_to_list delivery
    → last_of n pid reply (delivered pid m) (plains n pid (delivered pid m)) ≡ step
    → event_records (option_to_list step) ≡ option_to_list last
    → length (plains n pid (delivered pid m)) + instructions_in (option_to_list step) ≡ ran
    → StandsFor new (after_first (after_steps (delivered pid m) (plains n pid (delivered pid m))) step)
    → Turned m pid n reply (record { delivery = delivery; ran = ran; last = last; cut = cut }) new
turned parts m pid n reply delivery last step ran cut new first is told count stands =
    let m1 = delivered pid m in
    let plain = plains n pid m1 in
    record {
      ran = turn-ran parts n pid reply m ∙ ap (λ (o : Option Step). length plain + instructions_in (option_to_list o)) is ∙ count;
      told =
          turn-told parts n pid reply m
          ∙ ap (λ (entries : List Record). entries ++ event_records (option_to_list (last_of n pid reply m1 plain))) first
          ∙ ap (λ (o : Option Step). option_to_list delivery ++ event_records (option_to_list o)) is
          ∙ ap (λ (entries : List Record). option_to_list delivery ++ entries) told;
      stands = subst (λ (x : Machine). StandsFor new x) (sym (turn-after n pid reply m ∙ ap (after_first (after_steps m1 plain)) is)) stands;
    }

-- the process ended by its delivery
pub took-dead : {A : Type 0} → TurnsHaveParts → (answers : A → Asked → Answered → A → Type 0) (asked : A) (m : Machine) (pid n : ℕ) (delivery : Option Record) (new : State)
    → event_records (option_to_list (delivery_in m pid (seen m.bodies pid))) ≡ option_to_list delivery
    → seen (delivered pid m).bodies pid ≡ None
    → StandsFor new (delivered pid m)
    → TookWhole answers m pid n (record { delivery = delivery; ran = 0; last = None; cut = false }) asked asked new
took-dead parts answers asked m pid n delivery new first dead stands =
    let m1 = delivered pid m in
    let none : plains n pid m1 ≡ [] = none-plain n pid m1 dead in
    let no_last : last_of n pid None m1 (plains n pid m1) ≡ None = ap (last_of n pid None m1) none ∙ ap (λ (o : Option View). cond (nat_lt 0 n) (last_in m1 pid None o) None) dead ∙ same (nat_lt 0 n) in
    record {
      reply = None;
      replied = subst (λ (plain : List Step). RepliesIf (nat_lt (length plain) n) answers (after_steps m1 plain) pid None asked asked) (sym none) (asks_none (nat_lt 0 n));
      turned = turned parts m pid n None delivery None None 0 false new first no_last refl (ap (λ (plain : List Step). length plain + 0) none) (subst (λ (plain : List Step). StandsFor new (after_steps m1 plain)) (sym none) stands);
    }
  where
    same : (b : Bool) → cond {A = Option Step} b None None ≡ None
    same true = refl
    same false = refl

    asks_none : (b : Bool) → RepliesIf b answers (delivered pid m) pid None asked asked
    asks_none true = subst (λ (o : Option View). RepliesOf answers (delivered pid m) pid o None asked asked) (sym dead) (refl, refl)
    asks_none false = (refl, refl)

-- where one doesn't run, none do
none-more : (o : Option Step) (k pid : ℕ) → steps_then o (plains 0 pid) ≡ [] → steps_then o (plains k pid) ≡ []
none-more None k pid none = refl
none-more (Some s) k pid none = absurd (no_cons none)
  where
    no_cons : s ∷ [] ≡ [] → ⊥
    no_cons is = cc

none-after-one : (k pid : ℕ) (m : Machine) → plains 1 pid m ≡ [] → plains k pid m ≡ []
none-after-one zero pid m none = refl
none-after-one (suc k) pid m none = none-more (plain_in m pid (seen m.bodies pid)) k pid none

-- behind a call or an end no more run
at-call-none : (m : Machine) (pid : ℕ) → StandsAt m pid Call → plains 1 pid m ≡ []
at-call-none m pid at =
    ap (λ (o : Option View). steps_then (plain_in m pid o) (plains 0 pid)) at.sees ∙ ap (λ (e : Effect). steps_then (plain_by m pid at.view e) (plains 0 pid)) at.is

at-end-none : (m : Machine) (pid status : ℕ) → StandsAt m pid (End status) → plains 1 pid m ≡ []
at-end-none m pid status at =
    ap (λ (o : Option View). steps_then (plain_in m pid o) (plains 0 pid)) at.sees ∙ ap (λ (e : Effect). steps_then (plain_by m pid at.view e) (plains 0 pid)) at.is

none-behind : (m : Machine) (pid n ran : ℕ) → length (plains ran pid m) ≡ ran → ran < n → plains 1 pid (after_steps m (plains ran pid m)) ≡ [] → plains n pid m ≡ plains ran pid m
none-behind m pid n ran many within none =
    let e : n ≡ ran + (n - ran) = omega (arith, within) in
    ap (λ (k : ℕ). plains k pid m) e
    ∙ plains-more ran (n - ran) pid m many
    ∙ ap (λ (steps : List Step). plains ran pid m ++ steps) (none-after-one (n - ran) pid (after_steps m (plains ran pid m)) none)
    ∙ append-nil (plains ran pid m)

-- where as many ran as might, or the next one is a call or an end, these are all
plains-all : (o : Outcome) (m : Machine) (pid n ran : ℕ) → o ≢ outcome.NoMemory → length (plains ran pid m) ≡ ran → StopsAt o ran n (after_steps m (plains ran pid m)) pid → plains n pid m ≡ plains ran pid m
plains-all outcome.Next m pid n ran some many stops = ap (λ (k : ℕ). plains k pid m) (sym stops)
plains-all outcome.Call m pid n ran some many stops = none-behind m pid n ran many stops.0 (at-call-none (after_steps m (plains ran pid m)) pid stops.1)
plains-all (outcome.End status) m pid n ran some many stops = none-behind m pid n ran many stops.0 (at-end-none (after_steps m (plains ran pid m)) pid status stops.1)
plains-all outcome.NoMemory m pid n ran some many stops = absurd (some refl)

-- all instructions ran that might
took-spent : {A : Type 0} → TurnsHaveParts → (answers : A → Asked → Answered → A → Type 0) (asked : A) (m : Machine) (pid n : ℕ) (delivery : Option Record) (new : State)
    → event_records (option_to_list (delivery_in m pid (seen m.bodies pid))) ≡ option_to_list delivery
    → length (plains n pid (delivered pid m)) ≡ n
    → StandsFor new (after_steps (delivered pid m) (plains n pid (delivered pid m)))
    → TookWhole answers m pid n (record { delivery = delivery; ran = n + 0; last = None; cut = false }) asked asked new
took-spent parts answers asked m pid n delivery new first all stands =
    let m1 = delivered pid m in
    let plain = plains n pid m1 in
    let spent : nat_lt (length plain) n ≡ false = grind (arith, nat_tests) in
    let m2 = after_steps m1 plain in
    record {
      reply = None;
      replied = subst (λ (b : Bool). RepliesIf b answers m2 pid None asked asked) (sym spent) (refl, refl);
      turned = turned parts m pid n None delivery None None (n + 0) false new first (cond-false (nat_lt (length plain) n) (last_in m2 pid None (seen m2.bodies pid)) None spent) refl (ap (λ (k : ℕ). k + 0) all) stands;
    }

-- the last step happened, or isn't ready
took-last : {A : Type 0} → TurnsHaveParts → (answers : A → Asked → Answered → A → Type 0) (asked asked' : A) (m : Machine) (pid n ran : ℕ) (delivery last : Option Record) (new : State)
    → event_records (option_to_list (delivery_in m pid (seen m.bodies pid))) ≡ option_to_list delivery
    → length (plains n pid (delivered pid m)) ≡ ran
    → ran < n
    → Happens answers (after_steps (delivered pid m) (plains n pid (delivered pid m))) pid last asked asked' new
    → TookWhole answers m pid n (record { delivery = delivery; ran = ran + length (option_to_list last); last = last; cut = false }) asked asked' new
took-last parts answers asked asked' m pid n ran delivery last new first many within happens =
    let m1 = delivered pid m in
    let plain = plains n pid m1 in
    let m2 = after_steps m1 plain in
    let some : nat_lt (length plain) n ≡ true = grind (arith, nat_tests) in
    let step = last_in m2 pid happens.reply (seen m2.bodies pid) in
    let one : last_of n pid happens.reply m1 plain ≡ step = cond-true (nat_lt (length plain) n) step None some in
    let counted = last-counted step (subst MaybeLast one (parts n pid happens.reply m).last) in
    record {
      reply = happens.reply;
      replied = subst (λ (b : Bool). RepliesIf b answers m2 pid happens.reply asked asked') (sym some) happens.replied;
      turned = turned parts m pid n happens.reply delivery last step (ran + length (option_to_list last)) false new first one happens.told (omega (arith, many, counted, ap length happens.told)) happens.stands;
    }

took-all : {A : Type 0} → TurnsHaveParts → (answers : A → Asked → Answered → A → Type 0) (asked asked' : A) (m : Machine) (pid n : ℕ) (delivery last : Option Record) (o : Outcome) (ran : ℕ) (s new : State)
    → event_records (option_to_list (delivery_in m pid (seen m.bodies pid))) ≡ option_to_list delivery
    → length (plains n pid (delivered pid m)) ≡ ran
    → StandsFor s (after_steps (delivered pid m) (plains n pid (delivered pid m)))
    → StopsAt o ran n (after_steps (delivered pid m) (plains n pid (delivered pid m))) pid
    → Finishes o answers (after_steps (delivered pid m) (plains n pid (delivered pid m))) pid last asked asked' s new
    → TookWhole answers m pid n (record { delivery = delivery; ran = ran + length (option_to_list last); last = last; cut = false }) asked asked' new
took-all {A} parts answers asked asked' m pid n delivery last outcome.Next ran s new first many stands stops ends =
    let m1 = delivered pid m in
    let plain = plains n pid m1 in
    let s' : StandsFor new (after_steps m1 plain) = subst (λ (x : State). StandsFor x (after_steps m1 plain)) (sym ends.2) stands in
    let spent = took-spent parts answers asked m pid n delivery new first (many ∙ stops) s' in
    let t : (l : Option Record) (k : ℕ) → Turn = λ (l : Option Record) (k : ℕ). record { delivery = delivery; ran = k; last = l; cut = false } in
    subst (λ (a : A). TookWhole answers m pid n (t last (ran + length (option_to_list last))) asked a new) (sym ends.1)
    (subst (λ (l : Option Record). TookWhole answers m pid n (t l (ran + length (option_to_list l))) asked asked new) (sym ends.0)
    (subst (λ (k : ℕ). TookWhole answers m pid n (t None (k + 0)) asked asked new) (sym stops) spent))
took-all {A} parts answers asked asked' m pid n delivery last outcome.Call ran s new first many stands stops ends = took-last parts answers asked asked' m pid n ran delivery last new first many stops.0 ends
took-all {A} parts answers asked asked' m pid n delivery last (outcome.End status) ran s new first many stands stops ends = took-last parts answers asked asked' m pid n ran delivery last new first many stops.0 ends
took-all {A} parts answers asked asked' m pid n delivery last outcome.NoMemory ran s new first many stands stops ends = absurd ends

-- a turn that is finished found its memory
finishes-some : {A : Type 0} (o : Outcome) (answers : A → Asked → Answered → A → Type 0) (m : Machine) (pid : ℕ) (last : Option Record) (asked asked' : A) (s new : State) → Finishes o answers m pid last asked asked' s new → o ≢ outcome.NoMemory
finishes-some outcome.Next answers m pid last asked asked' s new ends = λ (e : outcome.Next ≡ outcome.NoMemory). cc
finishes-some outcome.Call answers m pid last asked asked' s new ends = λ (e : outcome.Call ≡ outcome.NoMemory). cc
finishes-some (outcome.End status) answers m pid last asked asked' s new ends = λ (e : outcome.End status ≡ outcome.NoMemory). cc
finishes-some outcome.NoMemory answers m pid last asked asked' s new ends = absurd ends

pub took-whole : {A : Type 0} → TurnsHaveParts → (answers : A → Asked → Answered → A → Type 0) (asked asked' : A) (m : Machine) (pid n : ℕ) (delivery last : Option Record) (o : Outcome) (ran : ℕ) (s new : State)
    → event_records (option_to_list (delivery_in m pid (seen m.bodies pid))) ≡ option_to_list delivery
    → length (plains ran pid (delivered pid m)) ≡ ran
    → StandsFor s (after_steps (delivered pid m) (plains ran pid (delivered pid m)))
    → StopsAt o ran n (after_steps (delivered pid m) (plains ran pid (delivered pid m))) pid
    → Finishes o answers (after_steps (delivered pid m) (plains ran pid (delivered pid m))) pid last asked asked' s new
    → TookWhole answers m pid n (record { delivery = delivery; ran = ran + length (option_to_list last); last = last; cut = false }) asked asked' new
took-whole parts answers asked asked' m pid n delivery last o ran s new first many stands stops ends =
    let m1 = delivered pid m in
    let some = finishes-some o answers (after_steps m1 (plains ran pid m1)) pid last asked asked' s new ends in
    let all : plains n pid m1 ≡ plains ran pid m1 = plains-all o m1 pid n ran some many stops in
    took-all parts answers asked asked' m pid n delivery last o ran s new first (ap length all ∙ many)
    (subst (λ (plain : List Step). StandsFor s (after_steps m1 plain)) (sym all) stands)
    (subst (λ (plain : List Step). StopsAt o ran n (after_steps m1 plain) pid) (sym all) stops)
    (subst (λ (plain : List Step). Finishes o answers (after_steps m1 plain) pid last asked asked' s new) (sym all) ends)

-- a store or the last call found no memory
pub took-part : {A : Type 0} → TurnsHaveParts → (asked asked' : A) (m : Machine) (pid n ran : ℕ) (delivery : Option Record) (new : State)
    → event_records (option_to_list (delivery_in m pid (seen m.bodies pid))) ≡ option_to_list delivery
    → length (plains ran pid (delivered pid m)) ≡ ran
    → ran < n
    → asked' ≡ asked
    → StandsFor new (after_steps (delivered pid m) (plains ran pid (delivered pid m)))
    → TookPart m pid n (record { delivery = delivery; ran = ran; last = None; cut = true }) asked asked' new
took-part parts asked asked' m pid n ran delivery new first many within unasked stands =
    let m1 = delivered pid m in
    let m2 = after_steps m1 (plains ran pid m1) in
    let spent : nat_lt (length (plains ran pid m1)) ran ≡ false = grind (arith, nat_tests) in
    record {
      within = within;
      unasked = unasked;
      turned = turned parts m pid ran None delivery None None ran true new first (cond-false (nat_lt (length (plains ran pid m1)) ran) (last_in m2 pid None (seen m2.bodies pid)) None spent) refl (omega (arith, many)) stands;
    }
