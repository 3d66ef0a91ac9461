-- The records tell which segment each live process holds.
use Rattle.std.proofs.Common.{◌≡◌, ℕ, ◌==◌, Bool, true, false, cond, List, [], ◌∷◌, Option, None, Some, IfSome, map, refl, sym, ap, subst, ◌∙◌, arith, unwrap_or}
use Rattle.std.proofs.lemmas.Bool.Decides.{nat_tests}
use Rattle.std.proofs.lemmas.Bool.{eq-eqb, eqb-true, cond-false}
use Rattle.arn_base.specs.declared.machine.Cpu.{Cpu}
use Rattle.arn_base.specs.Window.{Window, with_bytes}
use Rattle.arn_base.specs.declared.records.Extra.{Extra}
use Rattle.arn_base.specs.declared.records.Extra.TheVariants as extra
use Rattle.arn_base.specs.declared.records.Record.{Record}
use Rattle.arn_base.specs.declared.records.Record.TheVariants as entry
use Rattle.arn_base.specs.declared.records.Start.{Start}
use Rattle.parts_model.specs.declared.calls.TheConstants as number
use Rattle.parts_model.specs.Replies.{is_success}
use Rattle.parts_model.specs.Tagged.{values}
use Rattle.acts_model.specs.Acts as act
use Rattle.acts_model.specs.Acts.{Act, acted, restored, beginning_of, joined, founded, done, done_by, unborn, child_view}
use Rattle.acts_model.specs.Bodies.{Body, Bodies, View, body_at, seen, put, remove, become}
use Rattle.acts_model.specs.Moved.{Event}
use Rattle.acts_model.specs.Records.{child_called, process_of}
use Rattle.acts_model.specs.Told as told
use Rattle.acts_model.specs.Told.{kind_of, call_act, act_of}
use Rattle.acts_model.specs.Views.{reach, with_reach, with_cpu, after_instr, argument}
use Rattle.arn_model.specs.Kernel.{Machine, at_first}
use Rattle.arn_model.specs.Step.{Step}
use Rattle.arn_model.specs.Tells.{is_inner, StepTells, Runs, Happens, Boots, Adds, Types, Unplugs}
use Rattle.history_model.specs.Moments.{changed, segment_made, segment_started, segment_called, segments_told, segments_by}
use Rattle.replay_laws.proofs.TellsSteps.{Facts, by_event, fold_events, as_numbered}
use Rattle.replay_laws.proofs.Places.{put-body, remove-body, nobody-at}

-- the bodies hold these segments

abbrev Holds : Option Body → Option ℕ → Type 0
Holds o segment = IfSome o (λ x. segment ≡ x.segment)

abbrev pub HoldIn : Bodies → (ℕ → Option ℕ) → Type 0
HoldIn b held = (q : ℕ) → Holds (body_at b q) (held q)

put-holds : (p : ℕ) (v : View) (b : Bodies) (held : ℕ → Option ℕ) → ((q : ℕ) → (q == p) ≡ false → Holds (body_at b q) (held q)) → held p ≡ v.body.segment → HoldIn (put p v b) held
put-holds p v b held h1 h2 = grind (arith, nat_tests, eqb-true, put-body)

remove-holds : (p : ℕ) (b : Bodies) (held : ℕ → Option ℕ) → ((q : ℕ) → (q == p) ≡ false → Holds (body_at b q) (held q)) → HoldIn (remove p b) held
remove-holds p b held h1 = grind (arith, nat_tests, remove-body)

become-holds : (p : ℕ) (o : Option View) (b : Bodies) (held : ℕ → Option ℕ) → ((q : ℕ) → (q == p) ≡ false → Holds (body_at b q) (held q)) → IfSome o (λ w. held p ≡ w.body.segment) → HoldIn (become p o b) held
become-holds p None b held others here = remove-holds p b held others
become-holds p (Some v) b held others here = put-holds p v b held others here

changed-here : (held : ℕ → Option ℕ) (k : ℕ) (x : Option ℕ) → changed held k x k ≡ x
changed-here held k x = ap (λ (t : Bool). cond t x (held k)) (eq-eqb k k refl)

changed-other : (held : ℕ → Option ℕ) (k : ℕ) (x : Option ℕ) (q : ℕ) → (q == k) ≡ false → changed held k x q ≡ held q
changed-other held k x q e = ap (λ (t : Bool). cond t x (held q)) e

others-hold : (b : Bodies) (held : ℕ → Option ℕ) (k : ℕ) (x : Option ℕ) → HoldIn b held → (q : ℕ) → (q == k) ≡ false → Holds (body_at b q) (changed held k x q)
others-hold b held k x there q e = subst (λ (y : Option ℕ). Holds (body_at b q) y) (sym (changed-other held k x q e)) (there q)

-- what acts do to them

record Before (pid : ℕ) (v : View) (b : Bodies) (held : ℕ → Option ℕ) : Type 0 where
  there : HoldIn b held
  here : held pid ≡ v.body.segment

abbrev Follow : ℕ → ℕ → View → Bodies → Act → (ℕ → Option ℕ) → Type 0
Follow pid event v b a held = HoldIn (founded a event (beginning_of v) (joined a event v (become pid (acted event a v) b))) held

reach-body : (ws : List Window) (v : View) → (with_reach ws v).body ≡ v.body
reach-body ws v = grind (arith, nat_tests)

restored-segment : (slot : Option Cpu) (v : View) → v.body.segment ≡ (restored slot v).body.segment
restored-segment None v = refl
restored-segment (Some cpu) v = refl

-- a number is one of a few, or none of them
either-is : (n k : ℕ) (P : ℕ → Type 0) → P k → ((n == k) ≡ false → P n) → P n
either-is n k P h1 h2 = grind (arith, nat_tests, eqb-true)

module _ (pid event : ℕ) (v : View) (b : Bodies) (held : ℕ → Option ℕ) (before : Before pid v b held) where
  -- its own segment stays, or it lives no more
  keeps : (o : Option View) → IfSome o (λ w. v.body.segment ≡ w.body.segment) → HoldIn (become pid o b) held
  keeps None same = become-holds pid None b held (λ q e. before.there q) tt
  keeps (Some w) same = become-holds pid (Some w) b held (λ q e. before.there q) (before.here ∙ same)

  follow-returns : (result : ℕ) → Follow pid event v b (act.Returns result) held
  follow-returns result = keeps (acted event (act.Returns result) v) refl

  follow-gives : (at len result : ℕ) → Follow pid event v b (act.Gives at len result) held
  follow-gives at len result = keeps (acted event (act.Gives at len result) v) refl

  follow-receives : (at : ℕ) (bytes : List ℕ) (result : ℕ) → Follow pid event v b (act.Receives at bytes result) held
  follow-receives at bytes result =
      keeps (acted event (act.Receives at bytes result) v) (sym (ap (λ (x : Body). x.segment) (reach-body (with_bytes (reach v) at bytes) v)))

  follow-leaves : Follow pid event v b act.Leaves held
  follow-leaves = keeps (acted event act.Leaves v) (restored-segment v.body.slot v)

  follow-delivers : (signal handler : ℕ) (cut : Bool) → Follow pid event v b (act.Delivers signal handler cut) held
  follow-delivers signal handler cut = keeps (acted event (act.Delivers signal handler cut) v) refl

  follow-exits : Follow pid event v b act.Exits held
  follow-exits = keeps None tt

  follow-faults : (status : ℕ) → Follow pid event v b (act.Faults status) held
  follow-faults status = keeps None tt

  follow-dies : (signal : ℕ) (cut : Bool) → Follow pid event v b (act.Dies signal cut) held
  follow-dies signal cut = keeps None tt

  -- it gets another one
  follow-starts : (file : List ℕ) (block len : ℕ) → Follow pid event v b (act.Starts file block len) (changed held pid None)
  follow-starts file block len =
      become-holds pid (acted event (act.Starts file block len) v) b (changed held pid None) (others-hold b held pid None before.there) (changed-here held pid None)

  follow-shares : Follow pid event v b act.Shares (changed held pid (Some event))
  follow-shares =
      become-holds pid (acted event act.Shares v) b (changed held pid (Some event)) (others-hold b held pid (Some event) before.there) (changed-here held pid (Some event))

  -- it makes a child
  follow-forks : (child : ℕ) → Follow pid event v b (act.Forks child) (changed held child (held pid))
  follow-forks child =
      let parent = become pid (acted event (act.Forks child) v) b in
      put-holds child (child_view event (beginning_of v) v.body.segment v.segment) parent (changed held child (held pid))
      (others-hold parent held child (held pid) (follow-returns child))
      (changed-here held child (held pid) ∙ before.here)

  follow-founds : (child : ℕ) → Follow pid event v b (act.Founds child) (changed held child None)
  follow-founds child =
      let parent = become pid (acted event (act.Founds child) v) b in
      put-holds child (child_view event (beginning_of v) None []) parent (changed held child None)
      (others-hold parent held child None (follow-returns child))
      (changed-here held child None)

  -- calls by kind
  plain-fork : (result : ℕ) (t : Bool) → Follow pid event v b (cond t (act.Forks result) (act.Returns result)) (segment_made pid (cond t (Some (record { number = result; start = None })) None) held)
  plain-fork result true = follow-forks result
  plain-fork result false = follow-returns result

  start-fork : (result : ℕ) (start : Start) (t : Bool) → Follow pid event v b (cond t (act.Founds result) (act.Returns result)) (segment_made pid (cond t (Some (record { number = result; start = Some start })) None) held)
  start-fork result start true = follow-founds result
  start-fork result start false = follow-returns result

  fork-follow : (cpu : Cpu) (result : ℕ) (more : Extra) → Follow pid event v b (call_act told.Fork cpu result more) (segment_made pid (child_called number.FORK result more) held)
  fork-follow cpu result (extra.Start start) = start-fork result start (is_success result)
  fork-follow cpu result _ = plain-fork result (is_success result)

  exec-follow : (cpu : Cpu) (result : ℕ) (more : Extra) → Follow pid event v b (call_act told.Exec cpu result more) (segment_started pid more held)
  exec-follow cpu result (extra.Give give) = follow-starts give.bytes (argument cpu 2) (argument cpu 3)
  exec-follow cpu result _ = follow-returns result

  wait-follow : (cpu : Cpu) (result : ℕ) (more : Extra) → Follow pid event v b (call_act told.Wait cpu result more) held
  wait-follow cpu result more = grind (arith, nat_tests, follow-receives, follow-returns)

  read-follow : (cpu : Cpu) (result : ℕ) (more : Extra) → Follow pid event v b (call_act told.Read cpu result more) held
  read-follow cpu result more = grind (arith, nat_tests, follow-receives, follow-returns)

  pipe-follow : (at result : ℕ) (t : Bool) → Follow pid event v b (cond t (act.Gives at result result) (act.Returns result)) held
  pipe-follow at result true = follow-gives at result result
  pipe-follow at result false = follow-returns result

  write-follow : (cpu : Cpu) (result : ℕ) (more : Extra) → Follow pid event v b (call_act told.Write cpu result more) held
  write-follow cpu result more = grind (arith, nat_tests, follow-gives, follow-returns, pipe-follow)

  leave-follow : (result : ℕ) (t : Bool) → Follow pid event v b (cond t act.Leaves (act.Returns result)) held
  leave-follow result true = follow-leaves
  leave-follow result false = follow-returns result

  shm-follow : (result : ℕ) (t : Bool) → Follow pid event v b (cond t act.Shares (act.Returns result)) (cond t (changed held pid (Some event)) held)
  shm-follow result true = follow-shares
  shm-follow result false = follow-returns result

  abbrev Called : Cpu → ℕ → Extra → ℕ → Type 0
  Called cpu result more n = Follow pid event v b (call_act (kind_of n) cpu result more) (segment_called event pid n result more held)

  call-follow : (n : ℕ) (cpu : Cpu) (result : ℕ) (more : Extra) → Follow pid event v b (call_act (kind_of n) cpu result more) (segment_called event pid n result more held)
  call-follow n cpu result more =
      either-is n number.EXIT (Called cpu result more) follow-exits
      (λ e1. either-is n number.FORK (Called cpu result more) (fork-follow cpu result more)
      (λ e2. either-is n number.EXEC (Called cpu result more) (exec-follow cpu result more)
      (λ e3. either-is n number.WAIT (Called cpu result more) (wait-follow cpu result more)
      (λ e4. either-is n number.SIGRETURN (Called cpu result more) (leave-follow result (result == 0))
      (λ e5. either-is n number.READ (Called cpu result more) (read-follow cpu result more)
      (λ e6. either-is n number.WRITE (Called cpu result more) (write-follow cpu result more)
      (λ e7. either-is n number.SHM (Called cpu result more) (shm-follow result (result == 0))
      (λ e8. other e1 e2 e3 e4 e5 e6 e7 e8))))))))
    where
      other : (n == number.EXIT) ≡ false → (n == number.FORK) ≡ false → (n == number.EXEC) ≡ false → (n == number.WAIT) ≡ false → (n == number.SIGRETURN) ≡ false → (n == number.READ) ≡ false → (n == number.WRITE) ≡ false → (n == number.SHM) ≡ false → Called cpu result more n
      other h1 h2 h3 h4 h5 h6 h7 h8 = grind (arith, nat_tests, cond-false, follow-returns)

  signal-follow : (signal handler : ℕ) (cut : Bool) (t : Bool) → Follow pid event v b (cond t (act.Dies signal cut) (act.Delivers signal handler cut)) held
  signal-follow signal handler cut true = follow-dies signal cut
  signal-follow signal handler cut false = follow-delivers signal handler cut

  -- the act that a record tells
  told-follow : (a : Act) (e : Record) → is_inner e ≡ true → process_of e ≡ Some pid → act_of v.body.cpu e ≡ Some a → Follow pid event v b a (segments_told event e held)
  told-follow a (entry.Signal p signal cut handler) inner process is =
      subst (λ (x : Act). Follow pid event v b x held) (ap (λ (o : Option Act). unwrap_or o a) is) (signal-follow signal handler cut (handler == 0))
  told-follow a (entry.Call p n result more) inner process is =
      subst (λ (x : Act). Follow pid event v b x (segment_called event p n result more held)) (ap (λ (o : Option Act). unwrap_or o a) is)
      (subst (λ (x : ℕ). Follow pid event v b (call_act (kind_of n) v.body.cpu result more) (segment_called event x n result more held)) (sym (ap (λ (o : Option ℕ). unwrap_or o pid) process))
      (call-follow n v.body.cpu result more))
  told-follow a (entry.End p status) inner process is =
      subst (λ (x : Act). Follow pid event v b x held) (ap (λ (o : Option Act). unwrap_or o a) is) (follow-faults status)
  told-follow a _ inner process is = cc

-- what a live process holds is what its body has
seen-body : (b : Bodies) (pid : ℕ) (v : View) → seen b pid ≡ Some v → body_at b pid ≡ Some v.body
seen-body b pid v h1 = grind (arith, nat_tests)

before-of : (b : Bodies) (held : ℕ → Option ℕ) (pid : ℕ) (v : View) → HoldIn b held → seen b pid ≡ Some v → Before pid v b held
before-of b held pid v there sees =
    record { there = there; here = subst (λ (o : Option Body). Holds o (held pid)) (seen-body b pid v sees) (there pid) }

-- the boot
boot-holds : (event : ℕ) (file : List ℕ) (b : Bodies) (held : ℕ → Option ℕ) → HoldIn b held → HoldIn (done 1 event (act.Starts file 0 0) (put 1 (unborn event) b)) (changed held 1 None)
boot-holds event file b held there =
    let first = put 1 (unborn event) b in
    let held' = changed held 1 None in
    let there' : HoldIn first held' = put-holds 1 (unborn event) b held' (others-hold b held 1 None there) (changed-here held 1 None) in
    by_seen first held' there' (changed-here held 1 None) (seen first 1)
  where
    by_seen : (first : Bodies) (held : ℕ → Option ℕ) → HoldIn first held → held 1 ≡ None → (o : Option View) → HoldIn (done_by 1 event (act.Starts file 0 0) o first) held
    by_seen first held there none None = there
    by_seen first held there none (Some w) = become-holds 1 (acted event (act.Starts file 0 0) w) first held (λ q e. there q) none

-- each step
abbrev pub SegmentsAre : Machine → (ℕ → Option ℕ) → Type 0
SegmentsAre m held = HoldIn m.bodies held

pub segments-keep : (m : Machine) (s : Step) (held : ℕ → Option ℕ) → Facts m s → SegmentsAre m held → SegmentsAre s.after (by_event segments_told s.moved.inside.event held)
segments-keep m s held facts is = by_kind facts.tells
  where
    there : (x : Step) → s ≡ x → SegmentsAre x.after (by_event segments_told x.moved.inside.event held) → SegmentsAre s.after (by_event segments_told s.moved.inside.event held)
    there x same r = subst (λ (x : Step). SegmentsAre x.after (by_event segments_told x.moved.inside.event held)) (sym same) r

    by_kind : StepTells m s → SegmentsAre s.after (by_event segments_told s.moved.inside.event held)
    by_kind (Runs p v instr cpu memory sees stands same) =
        let before = before-of m.bodies held p v is sees in
        there _ same
        (keeps p m.events v m.bodies held before (Some (after_instr cpu memory v)) (sym (ap (λ (x : Body). x.segment) (reach-body memory (with_cpu cpu v)))))
    by_kind (Happens p v d entry tells same) =
        let before = before-of m.bodies held p v is tells.seen in
        there _ same
        (subst (λ (o : Option View). HoldIn (founded d.act m.events (beginning_of v) (done_by p m.events d.act o m.bodies)) (segments_told m.events entry held)) (sym tells.seen)
        (told-follow p m.events v m.bodies held before d.act entry tells.inner tells.process tells.told))
    by_kind (Boots path file found_held first found bytes image same) = there _ same (boot-holds m.events (values found_held) m.bodies held is)
    by_kind (Adds path bytes may same) = there _ same is
    by_kind (Types bytes may same) = there _ same is
    by_kind (Unplugs device may same) = there _ same is

pub segments-first : SegmentsAre at_first (λ q. None)
segments-first q = subst (λ (o : Option Body). Holds o None) (sym (nobody-at q)) tt

pub segments-fold : (es : List Event) (held : ℕ → Option ℕ) → segments_by (map as_numbered es) held ≡ fold_events segments_told es held
segments-fold [] held = refl
segments-fold (e ∷ es) held = segments-fold es (segments_told e.number e.entry held)
