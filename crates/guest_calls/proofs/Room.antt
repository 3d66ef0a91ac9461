-- What is kept, after descriptors and resources change.
use Rattle.std.proofs.Common.{◌≡◌, ℕ, zero, suc, ◌+◌, ◌==◌, Bool, true, false, cond, List, [], ◌∷◌, length, Option, None, Some, IfSome, is_some, is_none, refl, sym, ap, ◌∙◌, arith, subst, true≢false}
use Rattle.std.specs.Prelude.{option_and_then, option_map, unwrap_or, nat_lt, count_by}
use Rattle.std.proofs.lemmas.Bool.{eqb-true, eqb-false, lt-ltb}
use Rattle.std.proofs.lemmas.List.{length-set}
use Rattle.parts_model.specs.Files.{Files}
use Rattle.parts_model.specs.Numbered.{nth}
use Rattle.parts_model.specs.Processes.{Process, Processes, process, with_change, live_process, is_alive, lowest_free, lowest_free_from, placed, placed_at, with_descriptor, free_descriptors}
use Rattle.arn_model.specs.Kernel.{Opened}
use Rattle.guest_bodies.specs.Follows.{KeepsWatches}
use Rattle.guest_bodies.specs.Shown.{Guests}
use Rattle.guest_calls.specs.Kept.{IsFull, IsKept, IsPast, IsSound, state_of}
use Rattle.guest_calls.specs.State.{State}
use Rattle.guest_calls.specs.declared.kernel.Kernel.TheInside.{Inside}
use Rattle.guest_calls.proofs.Ends.{if_live, with_process-other}
use Rattle.guest_calls.proofs.Numbers.{nth-set_own}
use Rattle.guest_calls.proofs.Pieces.{live-numbered}
use Rattle.guest_calls.proofs.Watches.{live-same}

-- where a process lives, one was made
pub booted-live : (k : Inside) (pid : ℕ) → IsKept k → is_some (nth k.bodies pid) ≡ true → k.booted ≡ true
booted-live k pid kept live = kept.made ∙ lt-ltb 0 (length k.procs) (omega (arith, (live-numbered k pid kept live).0, (live-numbered k pid kept live).1))

some-if : (b : Bool) (p : Process) → is_some (cond b (Some p) None) ≡ b
some-if true p = refl
some-if false p = refl

-- a change of one process that lets it live as it did, with as many descriptors
module _ (f : Process → Process) (lives : (p : Process) → (f p).life ≡ p.life) (counts : (p : Process) → length (f p).descriptors ≡ length p.descriptors) where
  changed-own : (all : Processes) (pid : ℕ) → process (with_change all pid f) pid ≡ option_map f (process all pid)
  changed-own all zero = refl
  changed-own all (suc i) = nth-set_own (option_map f) refl all i

  alive-one : (x : Option Process) → is_some (if_live (option_map f x)) ≡ is_some (if_live x)
  alive-one None = refl
  alive-one (Some p) = some-if (is_alive (f p).life) (f p) ∙ (ap is_alive (lives p) ∙ sym (some-if (is_alive p.life) p))

  full-one : (x : Option Process) → IfSome x IsFull → IfSome (option_map f x) IsFull
  full-one None full = tt
  full-one (Some p) full = counts p ∙ full

  alive-at : (all : Processes) (pid q : ℕ) (b : Bool) → (q == pid) ≡ b → is_some (live_process (with_change all pid f) q) ≡ is_some (live_process all q)
  alive-at all pid q true e =
      subst (λ (i : ℕ). is_some (live_process (with_change all pid f) i) ≡ is_some (live_process all i)) (sym (eqb-true q pid e))
      (ap (λ (x : Option Process). is_some (if_live x)) (changed-own all pid) ∙ alive-one (process all pid))
  alive-at all pid q false e = ap (λ (x : Option Process). is_some (if_live x)) (with_process-other all pid (option_map f (process all pid)) q (eqb-false q pid e))

  full-at : (all : Processes) (pid q : ℕ) (b : Bool) → (q == pid) ≡ b → ((i : ℕ) → IfSome (process all i) IsFull) → IfSome (process (with_change all pid f) q) IsFull
  full-at all pid q true e full =
      subst (λ (i : ℕ). IfSome (process (with_change all pid f) i) IsFull) (sym (eqb-true q pid e))
      (subst (λ (x : Option Process). IfSome x IsFull) (sym (changed-own all pid)) (full-one (process all pid) (full pid)))
  full-at all pid q false e full =
      subst (λ (x : Option Process). IfSome x IsFull) (sym (with_process-other all pid (option_map f (process all pid)) q (eqb-false q pid e))) (full q)

  length-at : (all : Processes) (pid : ℕ) → length (with_change all pid f) ≡ length all
  length-at all zero = refl
  length-at all (suc i) = length-set all i (option_map f (process all (suc i)))

  changed-sound : (k : Inside) (pid : ℕ) (files : Files) (ds : List (Option Opened)) → k.booted ≡ true → IsKept k → IsSound k.bodies (with_change k.procs pid f) files ds k.booted k.events
  changed-sound k pid files ds booted kept =
      record {
        made = kept.made ∙ ap (nat_lt 0) (sym (length-at k.procs pid));
        alive = λ q. kept.alive q ∙ sym (alive-at k.procs pid q (q == pid) refl);
        full = λ q. full-at k.procs pid q (q == pid) refl kept.full;
        before = λ early. absurd (true≢false (sym booted ∙ early));
        closed = λ early. absurd (true≢false (sym booted ∙ early));
        past = kept.past;
      }

-- other resources
pub resources-sound : (k : Inside) (files : Files) (ds : List (Option Opened)) → k.booted ≡ true → IsKept k → IsSound k.bodies k.procs files ds k.booted k.events
resources-sound k files ds booted kept =
    record {
      made = kept.made;
      alive = kept.alive;
      full = kept.full;
      before = λ early. absurd (true≢false (sym booted ∙ early));
      closed = λ early. absurd (true≢false (sym booted ∙ early));
      past = kept.past;
    }

-- the same, where a process lives
pub live-sound : {files : Files} {ds : List (Option Opened)} (k : Inside) (s : State) (pid : ℕ) → state_of k ≡ s → IsKept k → is_some (nth s.guests pid) ≡ true → IsSound k.bodies k.procs files ds k.booted k.events
live-sound {files} {ds} k s pid is kept live = resources-sound k files ds (booted-live k pid kept (subst (λ (x : State). is_some (nth x.guests pid) ≡ true) (sym is) live)) kept

-- a descriptor stands for something, or for nothing any more
pub descriptor-sound : (k : Inside) (pid number : ℕ) (found : Option ℕ) (files : Files) (ds : List (Option Opened)) → k.booted ≡ true → IsKept k → IsSound k.bodies (with_change k.procs pid (with_descriptor number found)) files ds k.booted k.events
descriptor-sound k pid number found files ds booted kept = changed-sound (with_descriptor number found) (λ p. refl) (λ p. length-set p.descriptors number found) k pid files ds booted kept

placed-life : (o : Option ℕ) (d : ℕ) (p : Process) → (placed_at o d p).life ≡ p.life
placed-life None d p = refl
placed-life (Some n) d p = refl

placed-count : (o : Option ℕ) (d : ℕ) (p : Process) → length (placed_at o d p).descriptors ≡ length p.descriptors
placed-count None d p = refl
placed-count (Some n) d p = length-set p.descriptors n (Some d)

pub placed-sound : (k : Inside) (pid d : ℕ) (files : Files) (ds : List (Option Opened)) → k.booted ≡ true → IsKept k → IsSound k.bodies (with_change k.procs pid (placed d)) files ds k.booted k.events
placed-sound k pid d files ds booted kept = changed-sound (placed d) (λ p. placed-life (lowest_free p) d p) (λ p. placed-count (lowest_free p) d p) k pid files ds booted kept

-- a process with room has a free descriptor
lowest-some : (n : ℕ) (ds : List (Option ℕ)) → (count_by is_none ds == 0) ≡ false → is_some (lowest_free_from n ds) ≡ true
lowest-some n [] some = absurd (true≢false some)
lowest-some n (None ∷ ds) some = refl
lowest-some n (Some d ∷ ds) some = lowest-some (n + 1) ds some

pub room-some : (x : Option Process) → (unwrap_or (option_map free_descriptors x) 0 == 0) ≡ false → is_some (option_and_then lowest_free x) ≡ true
room-some None some = absurd (true≢false some)
room-some (Some p) some = lowest-some 0 p.descriptors some

-- a process has done an act, and resources have changed
pub acted-sound : (k : Inside) (new : Guests) (files : Files) (ds : List (Option Opened)) (events : ℕ) → k.booted ≡ true → IsKept k → KeepsWatches k.bodies new → IsPast new events → IsSound new k.procs files ds k.booted events
acted-sound k new files ds events booted kept keeps past =
    record {
      made = kept.made;
      alive = λ p. live-same k.bodies new p (keeps.kept p) ∙ kept.alive p;
      full = kept.full;
      before = λ early. absurd (true≢false (sym booted ∙ early));
      closed = λ early. absurd (true≢false (sym booted ∙ early));
      past = past;
    }
