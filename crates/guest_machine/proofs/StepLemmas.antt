-- What a kernel's calls on one process are of a turn.
use Rattle.std.proofs.Common.{◌≡◌, ◌≢◌, ℕ, zero, suc, ◌+◌, ◌<◌, ◌≤◌, ◌++◌, true, false, List, [], ◌∷◌, Option, None, Some, IfSome, option_map, length, option_to_list, refl, sym, ap, subst, ◌∙◌, arith, length-append}
use Rattle.arn_base.specs.declared.records.Record.{Record}
use Rattle.arn_base.specs.declared.records.Record.TheVariants as entry
use Rattle.rv64_core.specs.declared.outcome.Outcome.{Outcome}
use Rattle.rv64_core.specs.declared.outcome.Outcome.TheVariants as outcome
use Rattle.rv64_model.specs.Instruction.{Effect, Next, Call, End}
use Rattle.parts_model.specs.Replies.{Answered}
use Rattle.acts_model.specs.Bodies.{View, seen}
use Rattle.acts_model.specs.Moved.{Event}
use Rattle.acts_model.specs.Views.{stands_at, call_number}
use Rattle.arn_model.specs.Kernel.{Machine}
use Rattle.arn_model.specs.Row.{does, is_waiting, request}
use Rattle.arn_model.specs.Doing.{Doing, Request, Waits, Does, Asks}
use Rattle.arn_model.specs.Step.{Step, call_step, delivery_step, delivery_of, due_signal, fault_step, last_by, plain_step, plain_by}
use Rattle.arn_model.specs.Turn.{after_first, after_steps, delivery_in, last_in, plain_in, plains, steps_then}
use Rattle.log_model.specs.Records.{event_records}
use Rattle.guest_devices.specs.Answers.{Asked}
use Rattle.guest_bodies.specs.Running as running
use Rattle.guest_bodies.specs.Shown.{IsLive, seen_in}
use Rattle.guest_bodies.specs.declared.running.Stood.{Stood}
use Rattle.guest_calls.specs.Running.{SteppedMany}
use Rattle.guest_calls.specs.State.{OfProcess, State, StandsFor}
use Rattle.guest_calls.specs.Steps.{DeliveredBy, Performed, RepliesTo, Stepped}
use Rattle.guest_calls.specs.declared.outcomes.Done.{Done}
use Rattle.guest_calls.specs.declared.outcomes.Delivered.{Delivered}
use Rattle.guest_machine.specs.Recorded.{IsReal, OfEach}
use Rattle.guest_machine.specs.Slices.{RepliesAt, RepliesOf}
use Rattle.guest_machine.specs.Turns.{Delivers, Happens, RanPlain, StandsAt, StopsAt}
use Rattle.guest_machine.proofs.Appends.{after_steps-append}
use Rattle.guest_machine.proofs.TurnLemmas.{plains-more, sees}

-- a delivery, and its record
delivery-record : (s : Step) (event : Event) (e : Record) → s.moved.inside.event ≡ Some event → event.entry ≡ e → event_records (s ∷ []) ≡ e ∷ []
delivery-record s event e happened is = rw happened (ap (λ (x : Record). x ∷ []) is)

Delivers-by : (m : Machine) (pid : ℕ) (v : View) (d : Option Delivered) (o : Option Step) (old new : State) → StandsFor old m → DeliveredBy d pid o old new → delivery_step m pid v ≡ o
    → Delivers m pid v (option_map (λ d. entry.Signal pid d.signal d.cut d.handler) d) new
Delivers-by m pid v None None old new stands by is =
    record { told = rw is refl; stands = rw is (subst (λ (s : State). StandsFor s m) (sym by) stands) }
Delivers-by m pid v None (Some s) old new stands by is = absurd by
Delivers-by m pid v (Some d) None old new stands by is = absurd by
Delivers-by m pid v (Some d) (Some s) old new stands by is =
    record { told = rw is (delivery-record s by.0.event _ by.0.happened by.0.told); stands = rw is by.1 }

one-event : (m : Machine) (pid : ℕ) (v : View) (o : Option ℕ) → (after_first m (delivery_of m pid v o)).events ≤ m.events + 1
one-event m pid v None = omega arith
one-event m pid v (Some signal) = omega arith

pub Delivers-events : (m : Machine) (pid : ℕ) (v : View) (e : Option Record) (old new : State) → StandsFor old m → Delivers m pid v e new → new.events ≤ old.events + 1
Delivers-events m pid v e old new stands d = omega (arith, stands.events, d.stands.events, one-event m pid v (due_signal m pid v))

pub Delivers-real : (m : Machine) (pid : ℕ) (v : View) (e : Option Record) (new : State) → Delivers m pid v e new → IsReal new
Delivers-real m pid v e new d = record { machine = after_first m (delivery_step m pid v); stands = d.stands }

-- the delivery of a turn
pub Delivers-in : (m : Machine) (pid : ℕ) (v : View) (e : Option Record) (new : State) → seen m.bodies pid ≡ Some v → Delivers m pid v e new
    → (event_records (option_to_list (delivery_in m pid (seen m.bodies pid))) ≡ option_to_list e) × StandsFor new (after_first m (delivery_in m pid (seen m.bodies pid)))
Delivers-in m pid v e new is d =
    (ap (λ (o : Option View). event_records (option_to_list (delivery_in m pid o))) is ∙ d.told, subst (λ (o : Option View). StandsFor new (after_first m (delivery_in m pid o))) (sym is) d.stands)

-- so many plain instructions ran
pub record AfterPlain (m : Machine) (pid n : ℕ) (s : State) : Type 0 where
  pub many : length (plains n pid m) ≡ n
  pub stands : StandsFor s (after_steps m (plains n pid m))

pub AfterPlain-none : (m : Machine) (pid : ℕ) (s : State) → StandsFor s m → AfterPlain m pid 0 s
AfterPlain-none m pid s stands = record { many = refl; stands = stands }

-- one more
record OnePlain (m : Machine) (pid : ℕ) (new : State) : Type 0 where
  step : Step
  is : plains 1 pid m ≡ step ∷ []
  stands : StandsFor new step.after
  same : step.after.events ≡ m.events

no_next : outcome.Next ≡ outcome.Call → ⊥
no_next is = cc

no_end : (status : ℕ) → outcome.Next ≡ outcome.End status → ⊥
no_end status is = cc

plain-effect : (m : Machine) (pid : ℕ) (v : View) (e : Effect) (old new : State) → seen m.bodies pid ≡ Some v → stands_at v ≡ e → Stepped outcome.Next m pid v e old new → OnePlain m pid new
plain-effect m pid v (Next instr cpu memory) old new is at stepped =
    record {
      step = plain_step m pid v instr cpu memory;
      is = ap (λ (o : Option View). steps_then (plain_in m pid o) (plains 0 pid)) is ∙ ap (λ (e : Effect). steps_then (plain_by m pid v e) (plains 0 pid)) at;
      stands = stepped.1;
      same = refl;
    }
plain-effect m pid v Call old new is at stepped = absurd (no_next stepped.0)
plain-effect m pid v (End status) old new is at stepped = absurd (no_end status stepped.0)

one-plain : (m : Machine) (pid : ℕ) (v : View) (o : Outcome) (old new : State) → seen m.bodies pid ≡ Some v → o ≡ outcome.Next → Stepped o m pid v (stands_at v) old new → OnePlain m pid new
one-plain m pid v o old new is next stepped = plain-effect m pid v (stands_at v) old new is refl (subst (λ (o : Outcome). Stepped o m pid v (stands_at v) old new) next stepped)

pub AfterPlain-more : (m : Machine) (pid n : ℕ) (v : View) (o : Outcome) (old new : State) → AfterPlain m pid n old → seen (after_steps m (plains n pid m)).bodies pid ≡ Some v → o ≡ outcome.Next
    → Stepped o (after_steps m (plains n pid m)) pid v (stands_at v) old new → AfterPlain m pid (n + 1) new
AfterPlain-more m pid n v o old new so_far is next stepped =
    let m1 = after_steps m (plains n pid m) in
    let one = one-plain m1 pid v o old new is next stepped in
    let all : plains (n + 1) pid m ≡ plains n pid m ++ one.step ∷ [] = plains-more n 1 pid m so_far.many ∙ ap (λ (steps : List Step). plains n pid m ++ steps) one.is in
    record {
      many = omega (arith, ap length all, length-append (plains n pid m) (one.step ∷ []), so_far.many);
      stands = subst (λ (x : Machine). StandsFor new x) (sym (ap (after_steps m) all ∙ after_steps-append m (plains n pid m) (one.step ∷ []))) one.stands;
    }

-- a real state stays one, with as many events
pub plain-real : (m : Machine) (pid : ℕ) (v : View) (o : Outcome) (old new : State) → StandsFor old m → seen m.bodies pid ≡ Some v → o ≡ outcome.Next → Stepped o m pid v (stands_at v) old new → IsReal new × (new.events ≡ old.events)
plain-real m pid v o old new stands is next stepped =
    let one = one-plain m pid v o old new is next stepped in
    (record { machine = one.step.after; stands = one.stands }, one.stands.events ∙ one.same ∙ sym stands.events)

-- the next one is a call or an end
record Stops (m : Machine) (pid : ℕ) (o : Outcome) (old new : State) : Type 0 where
  effect : Effect
  at : StandsAt m pid effect
  same : new ≡ old
  stops : (ran n : ℕ) → ran < n → StopsAt o ran n m pid

stops-effect : (m : Machine) (pid : ℕ) (v : View) (e : Effect) (o : Outcome) (old new : State) → seen m.bodies pid ≡ Some v → stands_at v ≡ e → o ≢ outcome.Next → Stepped o m pid v e old new → Stops m pid o old new
stops-effect m pid v (Next instr cpu memory) o old new is at other stepped = absurd (other stepped.0)
stops-effect m pid v Call o old new is at other stepped =
    let here : StandsAt m pid Call = record { view = v; sees = is; is = at } in
    record {
      effect = Call;
      at = here;
      same = stepped.1;
      stops = λ ran n within. subst (λ (o : Outcome). StopsAt o ran n m pid) (sym stepped.0) (within, here);
    }
stops-effect m pid v (End status) o old new is at other stepped =
    let here : StandsAt m pid (End status) = record { view = v; sees = is; is = at } in
    record {
      effect = End status;
      at = here;
      same = stepped.1;
      stops = λ ran n within. subst (λ (o : Outcome). StopsAt o ran n m pid) (sym stepped.0) (within, here);
    }

pub RanPlain-stops : (m : Machine) (pid n ran : ℕ) (v : View) (o : Outcome) (old new : State) → AfterPlain m pid ran old → ran < n → seen (after_steps m (plains ran pid m)).bodies pid ≡ Some v → o ≢ outcome.Next
    → Stepped o (after_steps m (plains ran pid m)) pid v (stands_at v) old new → RanPlain m pid n (record { ran = ran; outcome = o }) new
RanPlain-stops m pid n ran v o old new so_far within is other stepped =
    let m1 = after_steps m (plains ran pid m) in
    let stops = stops-effect m1 pid v (stands_at v) o old new is refl other stepped in
    record {
      many = so_far.many;
      stands = subst (λ (s : State). StandsFor s m1) (sym stops.same) so_far.stands;
      stops = stops.stops ran n within;
    }

pub RanPlain-all : (m : Machine) (pid n : ℕ) (s : State) → AfterPlain m pid n s → RanPlain m pid n (record { ran = n; outcome = outcome.Next }) s
RanPlain-all m pid n s so_far = record { many = so_far.many; stands = so_far.stands; stops = refl }

-- the step of a call that was carried out
at-call : (m : Machine) (pid : ℕ) (v : View) (reply : Option Answered) → seen m.bodies pid ≡ Some v → stands_at v ≡ Call → last_in m pid reply (seen m.bodies pid) ≡ option_map (call_step m pid v) (does m pid v reply (request m pid v))
at-call m pid v reply is at = ap (last_in m pid reply) is ∙ ap (last_by m pid v reply) at

at-end : (m : Machine) (pid : ℕ) (v : View) (reply : Option Answered) (status : ℕ) → seen m.bodies pid ≡ Some v → stands_at v ≡ End status → last_in m pid reply (seen m.bodies pid) ≡ Some (fault_step m pid v status)
at-end m pid v reply status is at = ap (last_in m pid reply) is ∙ ap (last_by m pid v reply) at

replies-at-call : {A : Type 0} (answers : A → Asked → Answered → A → Type 0) (m : Machine) (pid : ℕ) (v : View) (reply : Option Answered) (asked asked' : A) → seen m.bodies pid ≡ Some v → stands_at v ≡ Call → RepliesTo answers v (request m pid v) reply asked asked' → RepliesOf answers m pid (seen m.bodies pid) reply asked asked'
replies-at-call answers m pid v reply asked asked' is at replied =
    subst (λ (o : Option View). RepliesOf answers m pid o reply asked asked') (sym is)
    (subst (λ (e : Effect). RepliesAt answers m pid v e reply asked asked') (sym at) replied)

pub Happens-called : {A : Type 0} (answers : A → Asked → Answered → A → Type 0) (asked asked' : A) (m : Machine) (pid number : ℕ) (v : View) (done : Done) (new : State) → seen m.bodies pid ≡ Some v → stands_at v ≡ Call → number ≡ call_number v.body.cpu
    → Performed answers asked asked' done m pid v new → Happens answers m pid (Some (entry.Call pid number done.result done.extra)) asked asked' new
Happens-called answers asked asked' m pid number v done new is at numbered p =
    let step : last_in m pid p.reply (seen m.bodies pid) ≡ Some (call_step m pid v p.doing) = at-call m pid v p.reply is at ∙ ap (option_map (call_step m pid v)) p.does in
    record {
      reply = p.reply;
      replied = replies-at-call answers m pid v p.reply asked asked' is at p.replied;
      told = ap (λ (o : Option Step). event_records (option_to_list o)) step ∙ cc (numbered, p.result, p.extra);
      stands = subst (λ (o : Option Step). StandsFor new (after_first m o)) (sym step) p.stands;
    }

-- one that isn't ready
waiting : (r : Request) → is_waiting r ≡ true → r ≡ Waits
waiting Waits is = refl
waiting (Does d) is = absurd (no_true is)
  where
    no_true : false ≡ true → ⊥
    no_true is = cc
waiting (Asks question) is = absurd (no_true is)
  where
    no_true : false ≡ true → ⊥
    no_true is = cc

pub Happens-waits : {A : Type 0} (answers : A → Asked → Answered → A → Type 0) (asked asked' : A) (m : Machine) (pid : ℕ) (v : View) (old new : State) → seen m.bodies pid ≡ Some v → stands_at v ≡ Call → is_waiting (request m pid v) ≡ true → asked' ≡ asked → new ≡ old → StandsFor old m
    → Happens answers m pid None asked asked' new
Happens-waits answers asked asked' m pid v old new is at waits unasked same stands =
    let r : request m pid v ≡ Waits = waiting (request m pid v) waits in
    let none : last_in m pid None (seen m.bodies pid) ≡ None = at-call m pid v None is at ∙ ap (λ (r : Request). option_map (call_step m pid v) (does m pid v None r)) r in
    record {
      reply = None;
      replied = replies-at-call answers m pid v None asked asked' is at (subst (λ (r : Request). RepliesTo answers v r None asked asked') (sym r) (refl, unasked));
      told = ap (λ (o : Option Step). event_records (option_to_list o)) none;
      stands = subst (λ (o : Option Step). StandsFor new (after_first m o)) (sym none) (subst (λ (s : State). StandsFor s m) (sym same) stands);
    }

-- an end by fault
pub Happens-ended : {A : Type 0} (answers : A → Asked → Answered → A → Type 0) (asked : A) (m : Machine) (pid status : ℕ) (v : View) (new : State) → seen m.bodies pid ≡ Some v → stands_at v ≡ End status → StandsFor new (fault_step m pid v status).after
    → Happens answers m pid (Some (entry.End pid status)) asked asked new
Happens-ended answers asked m pid status v new is at stands =
    let step = at-end m pid v None status is at in
    record {
      reply = None;
      replied = subst (λ (o : Option View). RepliesOf answers m pid o None asked asked) (sym is) (subst (λ (e : Effect). RepliesAt answers m pid v e None asked asked) (sym at) (refl, refl));
      told = ap (λ (o : Option Step). event_records (option_to_list o)) step;
      stands = subst (λ (o : Option Step). StandsFor new (after_first m o)) (sym step) stands;
    }

pub Happens-real : {A : Type 0} (answers : A → Asked → Answered → A → Type 0) (asked asked' : A) (m : Machine) (pid : ℕ) (e : Option Record) (new : State) → Happens answers m pid e asked asked' new → IsReal new
Happens-real answers asked asked' m pid e new h = record { machine = after_first m (last_in m pid h.reply (seen m.bodies pid)); stands = h.stands }

-- what a state knows where it stands for some machine
pub delivered-real : (old new : State) (pid : ℕ) (o : Option Delivered) → IsReal old → IsLive old.guests pid → OfProcess old pid (λ m v. DeliveredBy o pid (delivery_step m pid v) old new) → IsReal new × (new.events ≤ old.events + 1)
delivered-real old new pid o real live by =
    let m = real.machine in
    let v = sees old m pid real.stands live in
    let e = option_map (λ d. entry.Signal pid d.signal d.cut d.handler) o in
    let d = Delivers-by m pid v.0 o (delivery_step m pid v.0) old new real.stands (by m v.0 real.stands v.1) refl in
    (Delivers-real m pid v.0 e new d, Delivers-events m pid v.0 e old new real.stands d)

pub at-call-seen : (old : State) (pid : ℕ) → IsReal old → OfEach old (λ m. StandsAt m pid Call) → IfSome (seen_in old.guests pid) (λ v. stands_at v ≡ Call)
at-call-seen old pid real stands =
    let m = real.machine in
    let at = stands m real.stands in
    subst (λ (o : Option View). IfSome o (λ v. stands_at v ≡ Call)) (sym (real.stands.seen pid ∙ at.sees)) at.is

-- the number of a call, in each machine
pub numbered-all : (old : State) (pid number : ℕ) → IfSome (seen_in old.guests pid) (λ v. number ≡ call_number v.body.cpu) → OfProcess old pid (λ m v. number ≡ call_number v.body.cpu)
numbered-all old pid number is m v stands sees = subst (λ (o : Option View). IfSome o (λ v. number ≡ call_number v.body.cpu)) (stands.seen pid ∙ sees) is

pub call-happens : {A : Type 0} (answers : A → Asked → Answered → A → Type 0) (asked asked' : A) (old new : State) (pid number : ℕ) (done : Done) → OfEach old (λ m. StandsAt m pid Call) → OfProcess old pid (λ m v. number ≡ call_number v.body.cpu)
    → OfProcess old pid (λ m v. Performed answers asked asked' done m pid v new) → OfEach old (λ m. Happens answers m pid (Some (entry.Call pid number done.result done.extra)) asked asked' new)
call-happens answers asked asked' old new pid number done at numbered performed m stands =
    let here = at m stands in
    Happens-called answers asked asked' m pid number here.view done new here.sees here.is (numbered m here.view stands here.sees) (performed m here.view stands here.sees)

pub call-waits : {A : Type 0} (answers : A → Asked → Answered → A → Type 0) (asked asked' : A) (old new : State) (pid : ℕ) → OfEach old (λ m. StandsAt m pid Call) → OfProcess old pid (λ m v. is_waiting (request m pid v) ≡ true)
    → asked' ≡ asked → new ≡ old → OfEach old (λ m. Happens answers m pid None asked asked' new)
call-waits answers asked asked' old new pid at waits unasked same m stands =
    let here = at m stands in
    Happens-waits answers asked asked' m pid here.view old new here.sees here.is (waits m here.view stands here.sees) unasked same stands

one-last : (m : Machine) (pid : ℕ) (v : View) (reply : Option Answered) (e : Effect) → (after_first m (last_by m pid v reply e)).events ≤ m.events + 1
one-last m pid v reply (Next instr cpu memory) = omega arith
one-last m pid v reply Call = by (does m pid v reply (request m pid v))
  where
    by : (o : Option Doing) → (after_first m (option_map (call_step m pid v) o)).events ≤ m.events + 1
    by None = omega arith
    by (Some d) = omega arith
one-last m pid v reply (End status) = omega arith

one-last-in : (m : Machine) (pid : ℕ) (reply : Option Answered) (o : Option View) → (after_first m (last_in m pid reply o)).events ≤ m.events + 1
one-last-in m pid reply None = omega arith
one-last-in m pid reply (Some v) = one-last m pid v reply (stands_at v)

pub happens-real : {A : Type 0} (answers : A → Asked → Answered → A → Type 0) (asked asked' : A) (old new : State) (pid : ℕ) (e : Option Record) → IsReal old → OfEach old (λ m. Happens answers m pid e asked asked' new) → IsReal new × (new.events ≤ old.events + 1)
happens-real answers asked asked' old new pid e real happens =
    let m = real.machine in
    let h = happens m real.stands in
    (Happens-real answers asked asked' m pid e new h, omega (arith, real.stands.events, h.stands.events, one-last-in m pid h.reply (seen m.bodies pid)))

pub end-happens : {A : Type 0} (answers : A → Asked → Answered → A → Type 0) (asked : A) (old new : State) (pid status : ℕ) → OfEach old (λ m. StandsAt m pid (End status)) → OfProcess old pid (λ m v. StandsFor new (fault_step m pid v status).after)
    → OfEach old (λ m. Happens answers m pid (Some (entry.End pid status)) asked asked new)
end-happens answers asked old new pid status at ended m stands =
    let here = at m stands in
    Happens-ended answers asked m pid status here.view new here.sees here.is (ended m here.view stands here.sees)

-- instructions of a process so far
pub record RunSoFar (old : State) (pid n : ℕ) (new : State) : Type 0 where
  pub live : IsLive new.guests pid
  pub real : IsReal new
  pub ran : OfEach old (λ m. AfterPlain m pid n new)
  pub events : new.events ≡ old.events

pub RunSoFar-none : (old : State) (pid : ℕ) → IsLive old.guests pid → IsReal old → RunSoFar old pid 0 old
RunSoFar-none old pid live real = record { live = live; real = real; ran = λ m stands. AfterPlain-none m pid old stands; events = refl }

pub RunSoFar-more : (old : State) (pid ran : ℕ) (s new : State) → RunSoFar old pid ran s → OfProcess s pid (λ m v. Stepped outcome.Next m pid v (stands_at v) s new) → IsLive new.guests pid → RunSoFar old pid (suc ran) new
RunSoFar-more old pid ran s new p stepped live =
    let m0 = p.real.machine in
    let v0 = sees s m0 pid p.real.stands p.live in
    let real = plain-real m0 pid v0.0 outcome.Next s new p.real.stands v0.1 refl (stepped m0 v0.0 p.real.stands v0.1) in
    let e : ran + 1 ≡ suc ran = omega arith in
    record {
      live = live;
      real = real.0;
      ran = λ m stands.
          let so_far = p.ran m stands in
          let v = sees s (after_steps m (plains ran pid m)) pid so_far.stands p.live in
          subst (λ (n : ℕ). AfterPlain m pid n new) e
          (AfterPlain-more m pid ran v.0 outcome.Next s new so_far v.1 refl (stepped (after_steps m (plains ran pid m)) v.0 so_far.stands v.1));
      events = real.1 ∙ p.events;
    }

-- all of them
pub RunSoFar-many : (old : State) (pid n : ℕ) (new : State) → IsLive old.guests pid → IsReal old → IsLive new.guests pid → SteppedMany n pid old new → RunSoFar old pid n new
RunSoFar-many old pid zero new first real live same = subst (RunSoFar old pid 0) (sym same) (RunSoFar-none old pid first real)
RunSoFar-many old pid (suc n) new first real live many =
    RunSoFar-more old pid n many.between new (RunSoFar-many old pid n many.between first real many.live many.before) many.stepped live

RunSoFar-stops : (old : State) (pid ran n : ℕ) (s new : State) (o : Outcome) → RunSoFar old pid ran s → ran < n → o ≢ outcome.Next → OfProcess s pid (λ m v. Stepped o m pid v (stands_at v) s new) → OfEach old (λ m. RanPlain m pid n (record { ran = ran; outcome = o }) new)
RunSoFar-stops old pid ran n s new o p within other stepped m stands =
    let so_far = p.ran m stands in
    let v = sees s (after_steps m (plains ran pid m)) pid so_far.stands p.live in
    RanPlain-stops m pid n ran v.0 o s new so_far within v.1 other (stepped (after_steps m (plains ran pid m)) v.0 so_far.stands v.1)

-- what the process stands at behind them
abbrev AtStop : Outcome → ℕ → ℕ → State → ℕ → Type 0
AtStop o ran n s pid = IfSome (seen_in s.guests pid) (λ v. running.StopsAt o ran n (stands_at v))

at-stop : (o : Outcome) (ran n pid : ℕ) (s : State) (m : Machine) (v : View) → AtStop o ran n s pid → StandsFor s m → seen m.bodies pid ≡ Some v → running.StopsAt o ran n (stands_at v)
at-stop o ran n pid s m v stops stands sees = subst (λ (seen : Option View). IfSome seen (λ v. running.StopsAt o ran n (stands_at v))) (stands.seen pid ∙ sees) stops

no_call : outcome.Call ≡ outcome.Next → ⊥
no_call is = cc

no_ended : (status : ℕ) → outcome.End status ≡ outcome.Next → ⊥
no_ended status is = cc

stops-by : (old : State) (pid n ran : ℕ) (new : State) (o : Outcome) (e : Effect) → RunSoFar old pid ran new → AtStop o ran n new pid → running.StopsAt o ran n e → OfEach old (λ m. RanPlain m pid n (record { ran = ran; outcome = o }) new)
stops-by old pid n ran new outcome.Next e p stops here m stands =
    subst (λ (k : ℕ). RanPlain m pid k (record { ran = ran; outcome = outcome.Next }) new) here (RanPlain-all m pid ran new (p.ran m stands))
stops-by old pid n ran new outcome.Call e p stops here m stands =
    RunSoFar-stops old pid ran n new new outcome.Call p here.0 no_call
    (λ m v stands sees. subst (λ (e : Effect). Stepped outcome.Call m pid v e new new) (sym (at-stop outcome.Call ran n pid new m v stops stands sees).1) (refl, refl)) m stands
stops-by old pid n ran new (outcome.End status) e p stops here m stands =
    RunSoFar-stops old pid ran n new new (outcome.End status) p here.0 (no_ended status)
    (λ m v stands sees. subst (λ (e : Effect). Stepped (outcome.End status) m pid v e new new) (sym (at-stop (outcome.End status) ran n pid new m v stops stands sees).1) (refl, refl)) m stands
stops-by old pid n ran new outcome.NoMemory e p stops here m stands =
    record { many = (p.ran m stands).many; stands = (p.ran m stands).stands; stops = here.0 }

-- how many ran, and were counted
pub record Few (o : Outcome) (ran n : ℕ) : Type 0 where
  pub within : ran ≤ n
  pub some : o ≢ outcome.Next → ran < n
  pub counted : ran + running.stop_count o ≤ n
  pub one : running.stop_count o ≤ 1

few : (o : Outcome) (ran n : ℕ) (e : Effect) → running.StopsAt o ran n e → Few o ran n
few outcome.Next ran n e here =
    record { within = omega (arith, here); some = λ (other : outcome.Next ≢ outcome.Next). absurd (other refl); counted = omega (arith, here); one = omega arith }
few outcome.Call ran n e here =
    record { within = omega (arith, here.0); some = λ (other : outcome.Call ≢ outcome.Next). here.0; counted = omega (arith, here.0); one = omega arith }
few (outcome.End status) ran n e here =
    record { within = omega (arith, here.0); some = λ (other : outcome.End status ≢ outcome.Next). here.0; counted = omega (arith, here.0); one = omega arith }
few outcome.NoMemory ran n e here =
    record { within = omega (arith, here.0); some = λ (other : outcome.NoMemory ≢ outcome.Next). here.0; counted = omega (arith, here.0); one = omega arith }

-- instructions of a process have run, as many as might or until it stands at a call or an end
module _ (old new : State) (pid n : ℕ) (stood : Stood) (first : IsLive old.guests pid) (real : IsReal old) (live : IsLive new.guests pid) (many : SteppedMany stood.ran pid old new) (stops : AtStop stood.outcome stood.ran n new pid) where
  pub many-so-far : RunSoFar old pid stood.ran new
  many-so-far = RunSoFar-many old pid stood.ran new first real live many

  there : (e : Effect) × running.StopsAt stood.outcome stood.ran n e
  there =
      let m = many-so-far.real.machine in
      let v = sees new m pid many-so-far.real.stands live in
      (stands_at v.0, at-stop stood.outcome stood.ran n pid new m v.0 stops many-so-far.real.stands v.1)

  pub many-plain : OfEach old (λ m. RanPlain m pid n stood new)
  many-plain = stops-by old pid n stood.ran new stood.outcome there.0 many-so-far stops there.1

  pub many-few : Few stood.outcome stood.ran n
  many-few = few stood.outcome stood.ran n there.0 there.1

-- where instructions end with a call, an end or no memory, the next one doesn't follow
pub call-not-next : (o : Outcome) → o ≡ outcome.Call → o ≢ outcome.Next
call-not-next o is next = cc

pub end-not-next : (o : Outcome) (status : ℕ) → o ≡ outcome.End status → o ≢ outcome.Next
end-not-next o status is next = cc

pub lost-not-next : (o : Outcome) → o ≡ outcome.NoMemory → o ≢ outcome.Next
lost-not-next o is next = cc
