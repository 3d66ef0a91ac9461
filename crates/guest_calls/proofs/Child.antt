-- A process that has made a child.
use Rattle.std.proofs.Common.{◌≡◌, ◌≢◌, ℕ, zero, suc, ◌+◌, ◌==◌, Bool, true, false, List, [], ◌∷◌, ◌++◌, length, Option, None, Some, IfSome, is_some, option_map, refl, sym, ap, ◌∙◌, arith, subst, add-one, true≢false, length-append}
use Rattle.std.specs.Prelude.{IsNone, unwrap_or}
use Rattle.std.proofs.lemmas.Bool.{eqb-true, eqb-false, lt-ltb}
use Rattle.parts_model.specs.Files.{Files}
use Rattle.parts_model.specs.Numbered.{nth}
use Rattle.parts_model.specs.Processes as table
use Rattle.parts_model.specs.Processes.{Process, Processes, child_of, live_process, next_process, process}
use Rattle.acts_model.specs.Bodies.{View}
use Rattle.arn_model.specs.Kernel.{Handling, Kernel, Opened, all_also_held, child_handling, descriptors_of, forked, handling_of}
use Rattle.guest_bodies.specs.Follows.{Follows, SetsWatch}
use Rattle.guest_bodies.specs.Shown.{Guests, Shown, Watch, inherited, seen_in, watch_in}
use Rattle.guest_resources.specs.Resources.{Resources, Changes, with_resources}
use Rattle.guest_calls.specs.Forks.{HasChild, with_child}
use Rattle.guest_requests.specs.Tables.{handlings}
use Rattle.guest_calls.specs.Kept.{IsFull, IsKept, IsPast, IsSound, state_of}
use Rattle.guest_calls.specs.State.{OfProcess}
use Rattle.guest_calls.specs.declared.kernel.Kernel.TheInside.{Inside}
use Rattle.guest_calls.proofs.Ends.{if_live, live-there}
use Rattle.guest_calls.proofs.Numbers.{nth-add, nth-add_other}
use Rattle.guest_calls.proofs.Pieces.{live-numbered}
use Rattle.guest_calls.proofs.Room.{booted-live}
use Rattle.guest_calls.proofs.Stands.{of_process, at-seen}
use Rattle.guest_calls.proofs.Watches.{handlings-forked, live-same, live-watch}

-- the table with one more process
process-next : (all : Processes) (x : Option Process) → process (all ++ x ∷ []) (length all + 1) ≡ x
process-next all x = ap (process (all ++ x ∷ [])) (add-one (length all)) ∙ nth-add all x

process-before : (all : Processes) (x : Option Process) (q : ℕ) → q ≢ length all + 1 → process (all ++ x ∷ []) q ≡ process all q
process-before all x zero other = refl
process-before all x (suc i) other = nth-add_other all x i (λ (e : i ≡ length all). other (ap (λ (n : ℕ). suc n) e ∙ sym (add-one (length all))))

child-live : (pid : ℕ) (o : Option Process) → is_some (if_live (option_map (child_of pid) o)) ≡ is_some o
child-live pid None = refl
child-live pid (Some p) = refl

child-full : (pid : ℕ) (o : Option Process) → IfSome o IsFull → IfSome (option_map (child_of pid) o) IsFull
child-full pid None full = tt
child-full pid (Some p) full = full

inherits : (o : Option Watch) → is_some (option_map inherited o) ≡ is_some o
inherits None = refl
inherits (Some w) = refl

-- who lives sees something
record Sees (guests : Guests) (pid : ℕ) : Type 0 where
  view : View
  sees : seen_in guests pid ≡ Some view

sees-by : (guests : Guests) (pid : ℕ) (o : Option Shown) → nth guests pid ≡ o → is_some o ≡ true → Sees guests pid
sees-by guests pid None is live = absurd (true≢false (sym live))
sees-by guests pid (Some s) is live = record { view = s.view; sees = ap (option_map (λ (x : Shown). x.view)) is }

none-by : {A : Type 0} (o : Option A) → (is_some o ≡ true → ⊥) → IsNone o
none-by None isnt = refl
none-by (Some x) isnt = absurd (isnt refl)

-- nobody has the number of the next process
pub no-child : (k : Inside) (child : ℕ) → IsKept k → child ≡ next_process k.procs → IsNone (nth k.bodies child)
no-child k child kept next = none-by (nth k.bodies child) (λ (live : is_some (nth k.bodies child) ≡ true). omega (arith, next, (live-numbered k child kept live).1))

module _ (k : Inside) (pid : ℕ) (kept : IsKept k) (live : is_some (nth k.bodies pid) ≡ true) where
  there : is_some (process k.procs pid) ≡ true
  there = live-there k.procs pid (sym (kept.alive pid) ∙ live)

  isnt-child : pid ≢ length k.procs + 1
  isnt-child = λ (e : pid ≡ length k.procs + 1). omega (arith, e, (live-numbered k pid kept live).1)

  parent-same : process (table.forked k.procs pid) pid ≡ process k.procs pid
  parent-same = process-before k.procs (option_map (child_of pid) (process k.procs pid)) pid isnt-child

  -- the parent is there
  pub parent-there : is_some (process k.procs pid) ≡ true
  parent-there = there

  -- the child lives, if the table is that with one more process
  pub child-lives : (procs : Processes) → procs ≡ table.forked k.procs pid → is_some (live_process procs (length procs)) ≡ true
  child-lives procs is =
      let child : Option Process = option_map (child_of pid) (process k.procs pid) in
      subst (λ (x : Processes). is_some (live_process x (length x)) ≡ true) (sym is)
      (ap (λ (n : ℕ). is_some (live_process (table.forked k.procs pid) n)) (length-append k.procs (child ∷ []))
      ∙ (ap (λ (x : Option Process). is_some (if_live x)) (process-next k.procs child) ∙ (child-live pid (process k.procs pid) ∙ there)))

  -- what the parent has open
  pub still-open : (procs : Processes) → procs ≡ table.forked k.procs pid → unwrap_or (option_map (λ (p : Process). p.descriptors) (process procs pid)) [] ≡ descriptors_of (state_of k).kernel pid
  still-open procs is =
      ap (λ (all : Processes). unwrap_or (option_map (λ (p : Process). p.descriptors) (process all pid)) []) is
      ∙ ap (λ (o : Option Process). unwrap_or (option_map (λ (p : Process). p.descriptors) o) []) parent-same

  module _ (child : ℕ) (next : child ≡ next_process k.procs) (new : Guests) (sets : SetsWatch child (option_map inherited (watch_in k.bodies pid)) k.bodies new) where
    alive-at : (q : ℕ) (b : Bool) → (q == child) ≡ b → is_some (nth new q) ≡ is_some (live_process (table.forked k.procs pid) q)
    alive-at q true e =
        subst (λ (i : ℕ). is_some (nth new i) ≡ is_some (live_process (table.forked k.procs pid) i)) (sym (eqb-true q child e))
        (live-watch new child
        ∙ (ap is_some sets.own
        ∙ (inherits (watch_in k.bodies pid)
        ∙ (sym (live-watch k.bodies pid)
        ∙ (live
        ∙ (sym there
        ∙ (sym (child-live pid (process k.procs pid))
        ∙ (sym (ap (λ (x : Option Process). is_some (if_live x)) (process-next k.procs (option_map (child_of pid) (process k.procs pid))))
        ∙ ap (λ (n : ℕ). is_some (live_process (table.forked k.procs pid) n)) (sym next)))))))))
    alive-at q false e =
        live-same k.bodies new q (sets.kept q (eqb-false q child e))
        ∙ (kept.alive q
        ∙ sym (ap (λ (x : Option Process). is_some (if_live x)) (process-before k.procs (option_map (child_of pid) (process k.procs pid)) q (λ (is : q ≡ length k.procs + 1). eqb-false q child e (is ∙ sym next)))))

    full-at : (q : ℕ) (b : Bool) → (q == child) ≡ b → IfSome (process (table.forked k.procs pid) q) IsFull
    full-at q true e =
        subst (λ (i : ℕ). IfSome (process (table.forked k.procs pid) i) IsFull) (sym (eqb-true q child e ∙ next))
        (subst (λ (x : Option Process). IfSome x IsFull) (sym (process-next k.procs (option_map (child_of pid) (process k.procs pid)))) (child-full pid (process k.procs pid) (kept.full pid)))
    full-at q false e =
        subst (λ (x : Option Process). IfSome x IsFull)
        (sym (process-before k.procs (option_map (child_of pid) (process k.procs pid)) q (λ (is : q ≡ length k.procs + 1). eqb-false q child e (is ∙ sym next)))) (kept.full q)

    longer : length (table.forked k.procs pid) ≡ length k.procs + 1
    longer = length-append k.procs (option_map (child_of pid) (process k.procs pid) ∷ [])

    some-made : k.booted ≡ true
    some-made = booted-live k pid kept live

    pub forked-sound : (procs : Processes) (files : Files) (ds : List (Option Opened)) (events : ℕ) → procs ≡ table.forked k.procs pid → IsPast new events → IsSound new procs files ds k.booted events
    forked-sound procs files ds events is past =
        subst (λ (x : Processes). IsSound new x files ds k.booted events) (sym is) (record {
          made = some-made ∙ sym (lt-ltb 0 (length (table.forked k.procs pid)) (omega (arith, longer)));
          alive = λ q. alive-at q (q == child) refl;
          full = λ q. full-at q (q == child) refl;
          before = λ early. absurd (true≢false (sym some-made ∙ early));
          closed = λ early. absurd (true≢false (sym some-made ∙ early));
          past = past;
        })

    -- the kernel knows of the child
    abbrev kernel-before : Kernel
    kernel-before = record (state_of k).kernel { processes = table.forked k.procs pid; handling = (state_of k).kernel.handling ++ option_map child_handling (handling_of (state_of k).kernel pid) ∷ [] }

    kernel-forked : (r : Resources) (ds : List (Option ℕ)) → ds ≡ descriptors_of (state_of k).kernel pid → Changes k.resources (all_also_held ds) r → (state_of (record k { bodies = new; procs = table.forked k.procs pid; resources = r; events = k.events + 1 })).kernel ≡ forked pid (state_of k).kernel
    kernel-forked r ds are changes =
        let numbered = live-numbered k pid kept live in
        ap (λ (h : List (Option Handling)). with_resources r (record (state_of k).kernel { processes = table.forked k.procs pid; handling = h }))
        (ap (λ (n : ℕ). handlings n new) longer ∙ handlings-forked (length k.procs) k.bodies new pid child next numbered.0 numbered.1 sets)
        ∙ (sym (changes.kernel kernel-before) ∙ ap (λ (l : List (Option ℕ)). all_also_held l kernel-before) are)

    pub has-child : (procs : Processes) (r : Resources) (ds : List (Option ℕ)) → procs ≡ table.forked k.procs pid → ds ≡ descriptors_of (state_of k).kernel pid → Changes k.resources (all_also_held ds) r → IfSome (seen_in k.bodies pid) (λ v. Follows k.bodies (with_child pid child k.events v) new) → OfProcess (state_of k) pid (λ m v. HasChild child m pid v (state_of (record k { bodies = new; procs = procs; resources = r; events = k.events + 1 })))
    has-child procs r ds is are changes follows =
        subst (λ (p : Processes). OfProcess (state_of k) pid (λ m v. HasChild child m pid v (state_of (record k { bodies = new; procs = p; resources = r; events = k.events + 1 })))) (sym is)
        (of_process (state_of k) pid (λ m v. HasChild child m pid v (state_of (record k { bodies = new; procs = table.forked k.procs pid; resources = r; events = k.events + 1 })))
        (λ b v shows sees. record {
          number = next;
          stands =
              record {
                seen = λ p. ((at-seen (seen_in k.bodies pid) v (λ (w : View). Follows k.bodies (with_child pid child k.events w) new) sees follows).shows b shows).same p;
                kernel = kernel-forked r ds are changes;
                events = refl;
              };
        }))

    pub child-past : ((v : View) → Follows k.bodies (with_child pid child k.events v) new → IsPast new (k.events + 1)) → IfSome (seen_in k.bodies pid) (λ v. Follows k.bodies (with_child pid child k.events v) new) → IsPast new (k.events + 1)
    child-past past follows =
        let one : Sees k.bodies pid = sees-by k.bodies pid (nth k.bodies pid) refl live in
        past one.view (at-seen (seen_in k.bodies pid) one.view (λ (w : View). Follows k.bodies (with_child pid child k.events w) new) one.sees follows)
