-- Instructions, due signals and deliveries.
use Rattle.std.proofs.Common.{◌≡◌, ◌≢◌, ℕ, ◌+◌, Bool, true, cond, List, length, Option, None, Some, IfSome, is_some, option_map, refl, sym, ap, ap₂, ◌∙◌, subst, ne_eqb}
use Rattle.std.specs.Prelude.{unwrap_or}
use Rattle.std.proofs.lemmas.Option.{same_Some}
use Rattle.arn_base.specs.declared.records.Record.TheVariants as entry
use Rattle.parts_model.specs.Numbered.{nth}
use Rattle.parts_model.specs.Signals as signals
use Rattle.parts_model.specs.Signals.{due, handler_of}
use Rattle.rv64_model.specs.Instruction.{Effect, Call}
use Rattle.rv64_core.specs.Outcome.{Tells, OnStop, WouldStore}
use Rattle.rv64_core.specs.declared.outcome.Outcome.{Outcome}
use Rattle.rv64_core.specs.declared.outcome.Outcome.TheVariants as outcome
use Rattle.acts_model.specs.Acts.{Delivers, Dies}
use Rattle.acts_model.specs.Bodies.{Bodies, View}
use Rattle.acts_model.specs.Views.{stands_at}
use Rattle.arn_model.specs.Kernel.{Handling, Machine, ended, handling_of, status_at}
use Rattle.arn_model.specs.Step.{due_in, due_signal, handler, waits, delivering, delivery_of, delivery_step, event_step, ending, only, without_signal}
use Rattle.guest_bodies.specs.Follows.{Shows, KeepsWatches, Ran}
use Rattle.guest_bodies.specs.Shown.{Guests, Shown, seen_in, signals_in, signals_of, watch_in}
use Rattle.guest_calls.specs.Acted.{Acted}
use Rattle.guest_requests.specs.Tables.{handling}
use Rattle.guest_calls.specs.Kept.{IsKept, state_of}
use Rattle.guest_calls.specs.State.{State, OfProcess}
use Rattle.guest_calls.specs.Steps.{DeliveredBy, Stepped}
use Rattle.guest_calls.specs.declared.kernel.Kernel.TheInside.{Inside}
use Rattle.guest_calls.proofs.Pieces.{live-numbered}
use Rattle.guest_calls.proofs.Stands.{machine_with, acted-stands, of_process}
use Rattle.guest_calls.proofs.Watches.{handlings-same, handling-of}

module _ (k : Inside) (pid : ℕ) (new : Guests) (keeps : KeepsWatches k.bodies new) (b : Bodies) (shows : Shows k.bodies b) where
  by_outcome : (result : Outcome) (ran : Ran result pid k.bodies new) (effect : Effect) → stands_at ran.before ≡ effect → Tells result effect ran.cpu ran.memory → OnStop result (new ≡ k.bodies) → result ≢ outcome.NoMemory → Stepped result (machine_with b (state_of k)) pid ran.before effect (state_of k) (state_of (record k { bodies = new }))
  by_outcome outcome.Next ran effect is tells stop some =
      subst (λ (e : Effect). Stepped outcome.Next (machine_with b (state_of k)) pid ran.before e (state_of k) (state_of (record k { bodies = new }))) (sym tells.is_next) (
        refl,
        record {
          seen = λ p. (ran.follows.shows b shows).same p;
          kernel = ap (λ (h : List (Option Handling)). record (state_of k).kernel { handling = h }) (handlings-same (length k.procs) k.bodies new keeps);
          events = refl;
        },
      )
  by_outcome outcome.Call ran effect is tells stop some =
      subst (λ (e : Effect). Stepped outcome.Call (machine_with b (state_of k)) pid ran.before e (state_of k) (state_of (record k { bodies = new }))) (sym tells) (refl, ap (λ (g : Guests). state_of (record k { bodies = g })) stop)
  by_outcome (outcome.End status) ran effect is tells stop some =
      subst (λ (e : Effect). Stepped (outcome.End status) (machine_with b (state_of k)) pid ran.before e (state_of k) (state_of (record k { bodies = new }))) (sym tells) (refl, ap (λ (g : Guests). state_of (record k { bodies = g })) stop)
  by_outcome outcome.NoMemory ran effect is tells stop some = absurd (some refl)

  pub ran-steps : (result : Outcome) → Ran result pid k.bodies new → OnStop result (new ≡ k.bodies) → result ≢ outcome.NoMemory → (v : View) → seen_in k.bodies pid ≡ Some v → Stepped result (machine_with b (state_of k)) pid v (stands_at v) (state_of k) (state_of (record k { bodies = new }))
  ran-steps result ran stop some v sees =
      subst (λ (w : View). Stepped result (machine_with b (state_of k)) pid w (stands_at w) (state_of k) (state_of (record k { bodies = new }))) (same_Some ran.before v (sym ran.stood ∙ sees))
      (by_outcome result ran (stands_at ran.before) refl ran.tells stop some)

-- who stood at a call stands there still
pub stands-at-call : (result : Outcome) (pid : ℕ) (old new : Guests) → Ran result pid old new → OnStop result (new ≡ old) → result ≡ outcome.Call → IfSome (seen_in new pid) (λ v. stands_at v ≡ Call)
stands-at-call outcome.Next pid old new ran stop is = cc
stands-at-call outcome.Call pid old new ran stop is =
    subst (λ (o : Option View). IfSome o (λ v. stands_at v ≡ Call)) (sym (ap (λ (g : Guests). seen_in g pid) stop ∙ ran.stood)) ran.tells
stands-at-call (outcome.End status) pid old new ran stop is = cc
stands-at-call outcome.NoMemory pid old new ran stop is = cc

-- where memory was wanted, a store stood
pub stands-at-store : (result : Outcome) (pid : ℕ) (old new : Guests) → Ran result pid old new → result ≡ outcome.NoMemory → (v : View) → seen_in old pid ≡ Some v → WouldStore (stands_at v)
stands-at-store outcome.Next pid old new ran is v sees = absurd (cc)
stands-at-store outcome.Call pid old new ran is v sees = absurd (cc)
stands-at-store (outcome.End status) pid old new ran is v sees = absurd (cc)
stands-at-store outcome.NoMemory pid old new ran is v sees =
    subst (λ (w : View). WouldStore (stands_at w)) (same_Some ran.before v (sym ran.stood ∙ sees)) ran.tells

-- the due signal, and the handler of a signal, as the machine has them
due-shown : (o : Option Shown) (v : View) (found : Option ℕ) → is_some o ≡ true → option_map (λ (s : Shown). s.view) o ≡ Some v → IfSome (option_map signals_of o) (λ s. found ≡ signals.due_signal s) → found ≡ due_in (option_map handling (option_map (λ (s : Shown). s.watch) o)) v
due-shown None v found live sees told = cc
due-shown (Some shown) v found live sees told = told ∙ ap (λ (w : View). due shown.watch.pending (is_some w.body.slot)) (same_Some shown.view v sees)

handler-shown : (o : Option Shown) (signal address : ℕ) → is_some o ≡ true → IfSome (option_map (λ (s : Shown). s.watch) o) (λ w. address ≡ handler_of w.handlers signal) → address ≡ unwrap_or (option_map (λ (h : Handling). handler_of h.handlers signal) (option_map handling (option_map (λ (s : Shown). s.watch) o))) 0
handler-shown None signal address live told = cc
handler-shown (Some shown) signal address live told = told

module _ (k : Inside) (pid : ℕ) (kept : IsKept k) (live : is_some (nth k.bodies pid) ≡ true) (b : Bodies) where
  as_kept : handling_of (state_of k).kernel pid ≡ option_map handling (watch_in k.bodies pid)
  as_kept = handling-of (length k.procs) k.bodies pid (live-numbered k pid kept live).0 (live-numbered k pid kept live).1

  pub due-is : (v : View) (found : Option ℕ) → seen_in k.bodies pid ≡ Some v → IfSome (signals_in k.bodies pid) (λ s. found ≡ signals.due_signal s) → found ≡ due_signal (machine_with b (state_of k)) pid v
  due-is v found sees told = due-shown (nth k.bodies pid) v found live sees told ∙ ap (λ (h : Option Handling). due_in h v) (sym as_kept)

  pub handler-is : (signal address : ℕ) → IfSome (watch_in k.bodies pid) (λ w. address ≡ handler_of w.handlers signal) → address ≡ handler (machine_with b (state_of k)) pid signal
  handler-is signal address told =
      handler-shown (nth k.bodies pid) signal address live told
      ∙ ap (λ (h : Option Handling). unwrap_or (option_map (λ (x : Handling). handler_of x.handlers signal) h) 0) (sym as_kept)

module _ (k : Inside) (old : State) (pid : ℕ) (is : state_of k ≡ old) (kept : IsKept k) (lives : is_some (nth old.guests pid) ≡ true) where
  live-kept : is_some (nth k.bodies pid) ≡ true
  live-kept = subst (λ (s : State). is_some (nth s.guests pid) ≡ true) (sym is) lives

  pub due-all : (found : Option ℕ) → IfSome (signals_in k.bodies pid) (λ s. found ≡ signals.due_signal s) → OfProcess old pid (λ m v. found ≡ due_signal m pid v)
  due-all found told =
      subst (λ (s : State). OfProcess s pid (λ m v. found ≡ due_signal m pid v)) is
      (of_process (state_of k) pid (λ m v. found ≡ due_signal m pid v) (λ b v shows sees. due-is k pid kept live-kept b v found sees told))

  pub handler-all : (signal address : ℕ) → IfSome (watch_in k.bodies pid) (λ w. address ≡ handler_of w.handlers signal) → OfProcess old pid (λ m v. address ≡ handler m pid signal)
  handler-all signal address told =
      subst (λ (s : State). OfProcess s pid (λ m v. address ≡ handler m pid signal)) is
      (of_process (state_of k) pid (λ m v. address ≡ handler m pid signal) (λ b v shows sees. handler-is k pid kept live-kept b signal address told))

-- what a delivery is, by what is due
pub delivery-is : (m : Machine) (pid : ℕ) (v : View) (signal address : ℕ) (cut : Bool) → Some signal ≡ due_signal m pid v → cut ≡ waits m pid v → address ≡ handler m pid signal → Some (event_step m pid v (delivering m pid signal address cut) (entry.Signal pid signal cut address)) ≡ delivery_step m pid v
delivery-is m pid v signal address cut is_due is_cut is_handler =
    ap₂ (λ (a : ℕ) (c : Bool). Some (event_step m pid v (delivering m pid signal a c) (entry.Signal pid signal c a))) is_handler is_cut
    ∙ ap (delivery_of m pid v) is_due

module _ (s new : State) (pid : ℕ) (v : View) (b : Bodies) (signal address : ℕ) (cut : Bool) (shows : Shows s.guests b) where
  -- a delivery to no handler ends the process
  pub delivered-dies : address ≡ 0 → Acted pid (Dies signal cut) (ended pid (status_at s.events (128 + signal)) s.kernel) s new → DeliveredBy (Some (record { signal = signal; cut = cut; handler = address })) pid (Some (event_step (machine_with b s) pid v (delivering (machine_with b s) pid signal address cut) (entry.Signal pid signal cut address))) s new
  delivered-dies is acted =
      subst (λ (a : ℕ). DeliveredBy (Some (record { signal = signal; cut = cut; handler = a })) pid (Some (event_step (machine_with b s) pid v (delivering (machine_with b s) pid signal a cut) (entry.Signal pid signal cut a))) s new) (sym is) (
        record { event = record { number = s.events; entry = entry.Signal pid signal cut 0 }; happened = refl; told = refl },
        acted-stands s new pid v b (ending (machine_with b s) pid (Dies signal cut) (128 + signal)) shows acted refl,
      )

  -- one to a handler begins it
  pub delivered-enters : address ≢ 0 → Acted pid (Delivers signal address cut) (without_signal pid signal s.kernel) s new → DeliveredBy (Some (record { signal = signal; cut = cut; handler = address })) pid (Some (event_step (machine_with b s) pid v (delivering (machine_with b s) pid signal address cut) (entry.Signal pid signal cut address))) s new
  delivered-enters isnt acted =
      subst (λ (t : Bool). DeliveredBy (Some (record { signal = signal; cut = cut; handler = address })) pid (Some (event_step (machine_with b s) pid v (cond t (ending (machine_with b s) pid (Dies signal cut) (128 + signal)) (only (cond t (Dies signal cut) (Delivers signal address cut)) (without_signal pid signal s.kernel))) (entry.Signal pid signal cut address))) s new) (sym (ne_eqb address 0 isnt)) (
        record { event = record { number = s.events; entry = entry.Signal pid signal cut address }; happened = refl; told = refl },
        acted-stands s new pid v b (only (Delivers signal address cut) (without_signal pid signal s.kernel)) shows acted refl,
      )
