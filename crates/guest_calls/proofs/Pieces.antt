-- What the parts of a call do to the state and to what is kept.
use Rattle.std.proofs.Common.{◌≡◌, ℕ, ◌+◌, ◌<◌, ◌==◌, Bool, true, false, List, length, Option, None, Some, IfSome, is_some, option_map, refl, sym, ap, ap₂, ◌∙◌, subst}
use Rattle.std.specs.Prelude.{nat_lt}
use Rattle.std.proofs.lemmas.Bool.{eqb-true, eqb-false}
use Rattle.parts_model.specs.Numbered.{nth, with_nth_from_one}
use Rattle.parts_model.specs.Processes as table
use Rattle.parts_model.specs.Processes.{Processes, process, live_process}
use Rattle.parts_model.specs.Signals.{due_signal, with_pending, without}
use Rattle.parts_model.specs.Channel.{Channel, front, without_front}
use Rattle.parts_model.specs.Tagged.{values}
use Rattle.acts_model.specs.Acts.{Act, Delivers, Receives, done}
use Rattle.acts_model.specs.Bodies.{Bodies}
use Rattle.arn_model.specs.Kernel.{Handling, all_dropped, descriptors_of, ended, status_at}
use Rattle.arn_model.specs.Step.{without_signal}
use Rattle.guest_bodies.specs.Follows.{Shows, Follows, KeepsWatches, Rewatches, SetsWatch}
use Rattle.guest_bodies.specs.Shown.{Guests, Shown, Watch, seen_in, signals_in, signals_of, watch_in}
use Rattle.guest_calls.specs.Acted.{Acted}
use Rattle.guest_requests.specs.Tables.{handlings}
use Rattle.guest_calls.specs.Kept.{IsFull, IsKept, IsPast, IsSound, state_of}
use Rattle.guest_calls.specs.State.{State}
use Rattle.guest_calls.specs.declared.kernel.Kernel.TheInside.{Inside}
use Rattle.guest_calls.proofs.Ends.{alive-other, alive-own, full-other, full-own, length-ended, live-there, there-numbered}
use Rattle.guest_calls.proofs.Watches.{handlings-same, handlings-ended, handlings-changed, live-same, live-watch}

-- a live process has a number that was given
pub live-numbered : (k : Inside) (pid : ℕ) → IsKept k → is_some (nth k.bodies pid) ≡ true → (0 < pid) × (pid < length k.procs + 1)
live-numbered k pid kept live = there-numbered k.procs pid (live-there k.procs pid (sym (kept.alive pid) ∙ live))

-- an act that changes no more than bodies
pub body-acted : (k : Inside) (pid : ℕ) (act : Act) (new : Guests) → Follows k.bodies (done pid k.events act) new → KeepsWatches k.bodies new → Acted pid act (state_of k).kernel (state_of k) (state_of (record k { bodies = new; events = k.events + 1 }))
body-acted k pid act new follows keeps =
    record {
      follows = follows;
      kernel = ap (λ (h : List (Option Handling)). record (state_of k).kernel { handling = h }) (handlings-same (length k.procs) k.bodies new keeps);
      events = refl;
    }

pub body-sound : (k : Inside) (new : Guests) (events : ℕ) → IsKept k → KeepsWatches k.bodies new → IsPast new events → IsSound new k.procs k.resources.files k.resources.descriptions k.booted events
body-sound k new events kept keeps past =
    record { made = kept.made; alive = λ p. live-same k.bodies new p (keeps.kept p) ∙ kept.alive p; full = kept.full; before = kept.before; closed = kept.closed; past = past }

-- a process has ended
module _ (k : Inside) (pid status : ℕ) (procs : Processes) (new : Guests) (is : procs ≡ table.ended k.procs pid (status_at k.events status)) (sets : SetsWatch pid None k.bodies new) where
  longer : length procs ≡ length k.procs
  longer = ap length is ∙ length-ended k.procs pid (status_at k.events status)

  by_number : (q : ℕ) (own : Bool) → (q == pid) ≡ own → IsKept k → is_some (nth new q) ≡ is_some (live_process (table.ended k.procs pid (status_at k.events status)) q)
  by_number q true e kept =
      subst (λ (i : ℕ). is_some (nth new i) ≡ is_some (live_process (table.ended k.procs pid (status_at k.events status)) i)) (sym (eqb-true q pid e))
      (live-watch new pid ∙ (ap is_some sets.own ∙ sym (alive-own k.procs pid (status_at k.events status))))
  by_number q false e kept =
      live-same k.bodies new q (sets.kept q (eqb-false q pid e))
      ∙ (kept.alive q ∙ sym (alive-other k.procs pid (status_at k.events status) q (eqb-false q pid e)))

  full_number : (q : ℕ) (own : Bool) → (q == pid) ≡ own → IsKept k → IfSome (process (table.ended k.procs pid (status_at k.events status)) q) IsFull
  full_number q true e kept =
      subst (λ (i : ℕ). IfSome (process (table.ended k.procs pid (status_at k.events status)) i) IsFull) (sym (eqb-true q pid e)) (full-own k.procs pid (status_at k.events status))
  full_number q false e kept = full-other k.procs pid (status_at k.events status) q (eqb-false q pid e) (kept.full q)

  pub ended-sound : (events : ℕ) → IsKept k → IsPast new events → IsSound new procs k.resources.files k.resources.descriptions k.booted events
  ended-sound events kept past =
      record {
        made = kept.made ∙ ap (nat_lt 0) (sym longer);
        alive = λ q. subst (λ (x : Processes). is_some (nth new q) ≡ is_some (live_process x q)) (sym is) (by_number q (q == pid) refl kept);
        full = λ q. subst (λ (x : Processes). IfSome (process x q) IsFull) (sym is) (full_number q (q == pid) refl kept);
        before = kept.before;
        closed = kept.closed;
        past = past;
      }

  kernel-ended : record (state_of k).kernel { processes = procs; handling = handlings (length procs) new } ≡ record (state_of k).kernel { processes = table.ended k.procs pid (status_at k.events status); handling = with_nth_from_one (handlings (length k.procs) k.bodies) pid None }
  kernel-ended =
      ap₂ (λ (x : Processes) (h : List (Option Handling)). record (state_of k).kernel { processes = x; handling = h }) is
      (ap (λ (n : ℕ). handlings n new) longer ∙ handlings-ended (length k.procs) k.bodies new pid sets)

  pub ended-acted : (old : State) (act : Act) → state_of k ≡ record old { kernel = all_dropped (descriptors_of old.kernel pid) old.kernel } → ((event : ℕ) → Follows k.bodies (done pid event act) new) → Acted pid act (ended pid (status_at old.events status) old.kernel) old (state_of (record k { procs = procs; bodies = new; events = k.events + 1 }))
  ended-acted old act closed follows =
      record {
        follows = subst (λ (g : Guests). Follows g (done pid old.events act) new) (ap (λ (s : State). s.guests) closed) (follows old.events);
        kernel =
            kernel-ended
            ∙ ap (λ (s : State). record s.kernel { processes = table.ended s.kernel.processes pid (status_at s.events status); handling = with_nth_from_one s.kernel.handling pid None }) closed;
        events = ap (λ (s : State). s.events + 1) closed;
      }

-- the due signal is taken off, and its handler begins
taken-off : (old new : Guests) (pid signal : ℕ) (o : Option Shown) → is_some o ≡ true → IfSome (option_map signals_of o) (λ s. due_signal s ≡ Some signal) → IfSome (option_map signals_of o) (λ s. Rewatches pid (λ w. record w { pending = without w.pending (due_signal s) }) old new) → Rewatches pid (λ w. record w { pending = with_pending w.pending signal false }) old new
taken-off old new pid signal None live due drops = cc
taken-off old new pid signal (Some shown) live due drops = subst (λ (d : Option ℕ). Rewatches pid (λ w. record w { pending = without w.pending d }) old new) due drops

shows-rewatched : (old mid : Guests) (pid signal : ℕ) (b : Bodies) → Rewatches pid (λ w. record w { pending = with_pending w.pending signal false }) old mid → Shows old b → Shows mid b
shows-rewatched old mid pid signal b rewatches shows = record { same = λ p. rewatches.seen p ∙ shows.same p }

module _ (k : Inside) (pid signal handler : ℕ) (cut : Bool) (mid new : Guests) (kept : IsKept k) (live : is_some (nth k.bodies pid) ≡ true) (due : IfSome (signals_in k.bodies pid) (λ s. due_signal s ≡ Some signal)) (drops : IfSome (signals_in k.bodies pid) (λ s. Rewatches pid (λ w. record w { pending = without w.pending (due_signal s) }) k.bodies mid)) (keeps : KeepsWatches mid new) where
  rewatched : Rewatches pid (λ w. record w { pending = with_pending w.pending signal false }) k.bodies mid
  rewatched = taken-off k.bodies mid pid signal (nth k.bodies pid) live due drops

  pub entered-acted : ((event : ℕ) → Follows mid (done pid event (Delivers signal handler cut)) new) → Acted pid (Delivers signal handler cut) (without_signal pid signal (state_of k).kernel) (state_of k) (state_of (record k { bodies = new; events = k.events + 1 }))
  entered-acted follows =
      let numbered = live-numbered k pid kept live in
      record {
        follows = record { shows = λ b shows. (follows k.events).shows b (shows-rewatched k.bodies mid pid signal b rewatched shows) };
        kernel =
            ap (λ (h : List (Option Handling)). record (state_of k).kernel { handling = h })
            (handlings-same (length k.procs) mid new keeps
            ∙ handlings-changed (length k.procs) k.bodies mid pid (λ w. record w { pending = with_pending w.pending signal false }) (λ h. record h { pending = with_pending h.pending signal false }) (λ w. refl) numbered.0 numbered.1 rewatched);
        events = refl;
      }

  watched-same : (o : Option Watch) → is_some (option_map (λ (w : Watch). record w { pending = with_pending w.pending signal false }) o) ≡ is_some o
  watched-same None = refl
  watched-same (Some w) = refl

  alive-mid : (q : ℕ) (own : Bool) → (q == pid) ≡ own → is_some (watch_in mid q) ≡ is_some (watch_in k.bodies q)
  alive-mid q true e = subst (λ (i : ℕ). is_some (watch_in mid i) ≡ is_some (watch_in k.bodies i)) (sym (eqb-true q pid e)) (ap is_some rewatched.own ∙ watched-same (watch_in k.bodies pid))
  alive-mid q false e = ap is_some (rewatched.kept q (eqb-false q pid e))

  pub seen-mid : (q : ℕ) → seen_in mid q ≡ seen_in k.bodies q
  seen-mid = rewatched.seen

  pub entered-sound : (events : ℕ) → IsPast new events → IsSound new k.procs k.resources.files k.resources.descriptions k.booted events
  entered-sound events past =
      record {
        made = kept.made;
        full = kept.full;
        before = kept.before;
        closed = kept.closed;
        past = past;
        alive = λ q. live-watch new q ∙ (ap is_some (keeps.kept q) ∙ (alive-mid q (q == pid) refl ∙ (sym (live-watch k.bodies q) ∙ kept.alive q)));
      }

-- a process has received the first bytes of the console's queue
pub taken-acted : (k : Inside) (pid at count : ℕ) (bytes : List ℕ) (new : Guests) (console : Channel) → bytes ≡ values (front k.console count) → length (front k.console count) ≡ count → console ≡ without_front k.console count → Follows k.bodies (done pid k.events (Receives at bytes count)) new → KeepsWatches k.bodies new → Acted pid (Receives at (values (front k.console count)) (length (front k.console count))) (record (state_of k).kernel { console = without_front k.console (length (front k.console count)) }) (state_of k) (state_of (record k { bodies = new; console = console; events = k.events + 1 }))
taken-acted k pid at count bytes new console are long left follows keeps =
    record {
      follows = subst (λ (x : List ℕ). Follows k.bodies (done pid k.events (Receives at x (length (front k.console count)))) new) are (subst (λ (n : ℕ). Follows k.bodies (done pid k.events (Receives at bytes n)) new) (sym long) follows);
      kernel =
          ap₂ (λ (h : List (Option Handling)) (q : Channel). record (state_of k).kernel { handling = h; console = q }) (handlings-same (length k.procs) k.bodies new keeps)
          (left ∙ ap (without_front k.console) (sym long));
      events = refl;
    }
