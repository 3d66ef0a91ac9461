-- Descriptors of a process are closed one after the other.
use Rattle.std.proofs.Common.{◌≡◌, ℕ, zero, suc, ◌+◌, ◌<◌, length, drop, List, [], ◌∷◌, Option, Some, None, refl, sym, ap, ◌∙◌, add-one, ap₂, arith}
use Rattle.std.proofs.Math.Seq.{drop-length}
use Rattle.std.specs.Prelude.{option_and_then, option_map, unwrap_or}
use Rattle.parts_model.specs.Numbered.{nth}
use Rattle.parts_model.specs.Processes.{Process, Processes, process, descriptor}
use Rattle.arn_model.specs.Kernel.{Kernel, all_dropped, description_of, descriptors_of}
use Rattle.guest_bodies.specs.Shown.{Guests}
use Rattle.guest_calls.specs.Opened.{dropped_if}
use Rattle.guest_calls.specs.State.{State}

-- one after the other is dropped
first-dropped : (o : Option ℕ) (ns : List (Option ℕ)) (k : Kernel) → all_dropped (o ∷ ns) k ≡ all_dropped ns (dropped_if o k)
first-dropped None ns k = refl
first-dropped (Some n) ns k = refl

next-dropped : (ns : List (Option ℕ)) (i : ℕ) (k : Kernel) → i < length ns → all_dropped (drop i ns) k ≡ all_dropped (drop (suc i) ns) (dropped_if (nth ns i) k)
next-dropped [] i k within = absurd (omega arith)
next-dropped (o ∷ ns) zero k within = first-dropped o ns k
next-dropped (o ∷ ns) (suc i) k within = next-dropped ns i k (omega arith)

-- those of the first descriptors have been dropped
pub record IsClosing (pid count : ℕ) (old new : State) : Type 0 where
  pub guests : new.guests ≡ old.guests
  pub events : new.events ≡ old.events
  pub processes : new.kernel.processes ≡ old.kernel.processes
  pub rest : all_dropped (drop count (descriptors_of old.kernel pid)) new.kernel ≡ all_dropped (descriptors_of old.kernel pid) old.kernel

described : (p : Option Process) (n : ℕ) → option_and_then (λ p. descriptor p n) p ≡ nth (unwrap_or (option_map (λ p. p.descriptors) p) []) n
described None n = refl
described (Some p) n = refl

pub description-nth : (k k' : Kernel) (pid n : ℕ) → k'.processes ≡ k.processes → description_of k' pid n ≡ nth (descriptors_of k pid) n
description-nth k k' pid n same = ap (λ (x : Processes). option_and_then (λ p. descriptor p n) (process x pid)) same ∙ described (process k.processes pid) n

pub one-closed : (pid n : ℕ) (old mid new : State) → IsClosing pid n old mid → n < length (descriptors_of old.kernel pid) → new ≡ record mid { kernel = dropped_if (description_of mid.kernel pid n) mid.kernel } → new.kernel.processes ≡ mid.kernel.processes → IsClosing pid (n + 1) old new
one-closed pid n old mid new closing within changed same =
    let ds : List (Option ℕ) = descriptors_of old.kernel pid in
    record {
      guests = ap (λ (s : State). s.guests) changed ∙ closing.guests;
      events = ap (λ (s : State). s.events) changed ∙ closing.events;
      processes = same ∙ closing.processes;
      rest =
          ap (λ (i : ℕ). all_dropped (drop i ds) new.kernel) (add-one n)
          ∙ (ap (λ (s : State). all_dropped (drop (suc n) ds) s.kernel) changed
          ∙ (ap (λ (o : Option ℕ). all_dropped (drop (suc n) ds) (dropped_if o mid.kernel)) (description-nth old.kernel mid.kernel pid n closing.processes)
          ∙ (sym (next-dropped ds n mid.kernel within) ∙ closing.rest)));
    }

pub all-closed : (pid n : ℕ) (old new : State) → IsClosing pid n old new → n ≡ length (descriptors_of old.kernel pid) → new ≡ record old { kernel = all_dropped (descriptors_of old.kernel pid) old.kernel }
all-closed pid n old new closing is =
    let ds : List (Option ℕ) = descriptors_of old.kernel pid in
    let k : new.kernel ≡ all_dropped ds old.kernel = ap (λ (l : List (Option ℕ)). all_dropped l new.kernel) (sym (drop-length ds)) ∙ (ap (λ (i : ℕ). all_dropped (drop i ds) new.kernel) (sym is) ∙ closing.rest) in
    ap (λ (g : Guests). record new { guests = g }) closing.guests
    ∙ ap₂ (λ (x : Kernel) (e : ℕ). record old { kernel = x; events = e }) k closing.events
