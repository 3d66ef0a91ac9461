-- Processes that take signals otherwise, and calls on signals and segments.
use Rattle.std.proofs.Common.{◌≡◌, ℕ, ◌+◌, ◌%◌, ◌==◌, ◌&&◌, Bool, true, false, cond, List, length, Option, None, Some, is_some, option_map, refl, sym, ap, ap₂, ◌∙◌, subst}
use Rattle.std.specs.Prelude.{is_none, not}
use Rattle.std.proofs.lemmas.Bool.{eqb-true, eqb-false}
use Rattle.arn_base.specs.declared.machine.Cpu.{Cpu}
use Rattle.arn_base.specs.declared.records.Extra.TheVariants as extra
use Rattle.parts_model.specs.declared.limits.TheConstants.{KILL_SIGNAL}
use Rattle.parts_model.specs.declared.refusals.TheConstants.{BAD_ARGUMENT}
use Rattle.parts_model.specs.Numbered.{nth}
use Rattle.parts_model.specs.Signals.{can_set, is_signal, with_handler}
use Rattle.acts_model.specs.Acts.{Act, Leaves, Shares, done, result_of}
use Rattle.acts_model.specs.Bodies.{Bodies, View}
use Rattle.acts_model.specs.Views.{argument}
use Rattle.arn_model.specs.Doing.{Request, refused, returns}
use Rattle.arn_model.specs.Kernel.{Handling, Machine, with_handling}
use Rattle.arn_model.specs.SignalCalls.{does_only, shm_row, sigaction_row, sigreturn_row}
use Rattle.arn_model.specs.Step.{after_act, only}
use Rattle.guest_bodies.specs.Follows.{Rewatches, Shows}
use Rattle.guest_bodies.specs.Shown.{Guests, Shown, Watch, seen_in, watch_in}
use Rattle.guest_requests.specs.Tables.{handling}
use Rattle.guest_calls.specs.Acted.{Acted, Carried}
use Rattle.guest_calls.specs.Handled.{Rehandled, handling_as}
use Rattle.guest_calls.specs.Kept.{IsKept, IsSound, state_of}
use Rattle.guest_calls.specs.State.{State, OfProcess}
use Rattle.guest_calls.specs.declared.kernel.Kernel.TheInside.{Inside}
use Rattle.guest_calls.proofs.Past.{past-seen}
use Rattle.guest_calls.proofs.Pieces.{live-numbered}
use Rattle.guest_calls.proofs.Stands.{machine_with, of_process, acted-stands}
use Rattle.guest_calls.proofs.Watches.{handlings-changed, live-watch}

-- what is kept, where a process takes signals otherwise
module _ (k : Inside) (pid : ℕ) (change : Watch → Watch) (then : Handling → Handling) (same : (w : Watch) → handling (change w) ≡ then (handling w)) (new : Guests) (kept : IsKept k) (live : is_some (nth k.bodies pid) ≡ true) (rewatches : Rewatches pid change k.bodies new) where
  pub rehandled : Rehandled pid then (state_of k) (state_of (record k { bodies = new }))
  rehandled =
      let numbered = live-numbered k pid kept live in
      record {
        seen = rewatches.seen;
        kernel =
            ap (λ (h : List (Option Handling)). record (state_of k).kernel { handling = h })
            (handlings-changed (length k.procs) k.bodies new pid change then same numbered.0 numbered.1 rewatches);
        events = refl;
      }

  watched-same : (o : Option Watch) → is_some (option_map change o) ≡ is_some o
  watched-same None = refl
  watched-same (Some w) = refl

  alive-at : (q : ℕ) (own : Bool) → (q == pid) ≡ own → is_some (watch_in new q) ≡ is_some (watch_in k.bodies q)
  alive-at q true e = subst (λ (i : ℕ). is_some (watch_in new i) ≡ is_some (watch_in k.bodies i)) (sym (eqb-true q pid e)) (ap is_some rewatches.own ∙ watched-same (watch_in k.bodies pid))
  alive-at q false e = ap is_some (rewatches.kept q (eqb-false q pid e))

  pub rehandled-sound : IsSound new k.procs k.resources.files k.resources.descriptions k.booted k.events
  rehandled-sound =
      record {
        made = kept.made;
        alive = λ q. live-watch new q ∙ (alive-at q (q == pid) refl ∙ (sym (live-watch k.bodies q) ∙ kept.alive q));
        full = kept.full;
        before = kept.before;
        closed = kept.closed;
        past = past-seen k.bodies new k.events rewatches.seen kept.past;
      }

-- where it may, or all is as before
pub unless-refused-sound : (k : Inside) (new : Guests) (set : Bool) → IsKept k → (set ≡ true → IsSound new k.procs k.resources.files k.resources.descriptions k.booted k.events) → (set ≡ false → new ≡ k.bodies) → IsSound new k.procs k.resources.files k.resources.descriptions k.booted k.events
unless-refused-sound k new true kept sets same = sets refl
unless-refused-sound k new false kept sets same = subst (λ (g : Guests). IsSound g k.procs k.resources.files k.resources.descriptions k.booted k.events) (sym (same refl)) kept

-- an act behind such a change
pub acted-behind : (target pid : ℕ) (act : Act) (change : Handling → Handling) (old mid new : State) → Rehandled target change old mid → Acted pid act mid.kernel mid new → Acted pid act (with_handling target change old.kernel) old new
acted-behind target pid act change old mid new before acted =
    record {
      follows =
          record {
            shows = λ b shows. subst (λ (event : ℕ). Shows new.guests (done pid event act b)) before.events (acted.follows.shows b (record { same = λ p. before.seen p ∙ shows.same p }));
          };
      kernel = acted.kernel ∙ before.kernel;
      events = acted.events ∙ ap (λ (n : ℕ). n + 1) before.events;
    }

there-seen : (o : Option Shown) → is_some o ≡ is_some (option_map (λ (s : Shown). s.view) o)
there-seen None = refl
there-seen (Some s) = refl

-- and who lived lives behind it
pub live-behind : (target pid : ℕ) (change : Handling → Handling) (old mid : State) → Rehandled target change old mid → is_some (nth old.guests pid) ≡ true → is_some (nth mid.guests pid) ≡ true
live-behind target pid change old mid before live =
    there-seen (nth mid.guests pid) ∙ (ap is_some (before.seen pid) ∙ (sym (there-seen (nth old.guests pid)) ∙ live))

-- a call that does an act and moves nothing
pub carried-act : (pid : ℕ) (act : Act) (old new : State) (row : Machine → View → Request) → ((b : Bodies) (v : View) → after_act (machine_with b old) pid v act ≡ done pid old.events act b) → Acted pid act old.kernel old new → ((b : Bodies) (v : View) → seen_in old.guests pid ≡ Some v → row (machine_with b old) v ≡ does_only act old.kernel) → OfProcess old pid (λ m v. Carried (row m v) (record { result = result_of act; extra = extra.Nothing }) m pid v new)
carried-act pid act old new row alone acted is =
    of_process old pid (λ m v. Carried (row m v) (record { result = result_of act; extra = extra.Nothing }) m pid v new)
    (λ b v shows sees. record {
      doing = only act old.kernel;
      is = is b v sees;
      answers = refl;
      extra = refl;
      stands = acted-stands old new pid v b (only act old.kernel) shows acted (alone b v);
    })

-- the rows, by what is asked of the process
module _ (m : Machine) (pid signal handler : ℕ) where
  abbrev chosen : Request
  chosen = returns 0 (with_handling pid (λ h. record h { handlers = with_handler h.handlers signal handler }) m.kernel)

  pub set-row : can_set signal handler ≡ true → handling_as m pid signal handler ≡ returns 0 (with_handling pid (λ h. record h { handlers = with_handler h.handlers signal handler }) m.kernel)
  set-row may = ap (λ (t : Bool). cond (not t) (refused BAD_ARGUMENT m.kernel) chosen) may

  pub unset-row : can_set signal handler ≡ false → handling_as m pid signal handler ≡ refused BAD_ARGUMENT m.kernel
  unset-row not_may = ap (λ (t : Bool). cond (not t) (refused BAD_ARGUMENT m.kernel) chosen) not_may

no-set : (signal handler : ℕ) → is_signal signal ≡ false → can_set signal handler ≡ false
no-set signal handler isnt = ap (λ (t : Bool). t && (not (signal == KILL_SIGNAL) && (handler % 4 == 0))) isnt

module _ (m : Machine) (pid : ℕ) (v : View) where
  pub action-row : (signal handler : ℕ) → signal ≡ argument v.body.cpu 0 → handler ≡ argument v.body.cpu 1 → handling_as m pid signal handler ≡ sigaction_row m pid v
  action-row signal handler first second = ap₂ (handling_as m pid) first second

  pub no-action-row : (signal : ℕ) → signal ≡ argument v.body.cpu 0 → is_signal signal ≡ false → refused BAD_ARGUMENT m.kernel ≡ sigaction_row m pid v
  no-action-row signal first isnt =
      sym (unset-row m pid (argument v.body.cpu 0) (argument v.body.cpu 1) (no-set (argument v.body.cpu 0) (argument v.body.cpu 1) (ap is_signal (sym first) ∙ isnt)))

  none-by : (o : Option Cpu) (b : Bool) → b ≡ is_some o → is_none o ≡ not b
  none-by None b is = ap not (sym is)
  none-by (Some cpu) b is = ap not (sym is)

  pub leaves-row : (in_handler : Bool) → in_handler ≡ is_some v.body.slot → in_handler ≡ true → sigreturn_row m pid v ≡ does_only Leaves m.kernel
  leaves-row in_handler told is =
      ap (λ (t : Bool). cond t (refused BAD_ARGUMENT m.kernel) (does_only Leaves m.kernel)) (none-by v.body.slot in_handler told ∙ ap not is)

  pub no-slot-row : (in_handler : Bool) → in_handler ≡ is_some v.body.slot → in_handler ≡ false → refused BAD_ARGUMENT m.kernel ≡ sigreturn_row m pid v
  no-slot-row in_handler told is =
      sym (ap (λ (t : Bool). cond t (refused BAD_ARGUMENT m.kernel) (does_only Leaves m.kernel)) (none-by v.body.slot in_handler told ∙ ap not is))

  pub shares-row : (has : Bool) → has ≡ is_some v.body.segment → has ≡ false → shm_row m pid v ≡ does_only Shares m.kernel
  shares-row has told is = ap (λ (t : Bool). cond t (refused BAD_ARGUMENT m.kernel) (does_only Shares m.kernel)) (sym told ∙ is)

  pub has-segment-row : (has : Bool) → has ≡ is_some v.body.segment → has ≡ true → refused BAD_ARGUMENT m.kernel ≡ shm_row m pid v
  has-segment-row has told is = sym (ap (λ (t : Bool). cond t (refused BAD_ARGUMENT m.kernel) (does_only Shares m.kernel)) (sym told ∙ is))
