-- The table of processes, after one of them ends.
use Rattle.std.proofs.Common.{◌≡◌, ◌≢◌, ℕ, zero, suc, ◌+◌, ◌<◌, ◌==◌, Bool, true, false, cond, List, [], length, map, Option, None, Some, IfSome, is_some, refl, sym, ap, ◌∙◌, arith, subst}
use Rattle.std.specs.Prelude.{option_and_then, option_map, unwrap_or, if◌then◌else◌}
use Rattle.std.proofs.lemmas.List.{length-map, length-set}
use Rattle.parts_model.specs.declared.limits.TheConstants.{MOST_DESCRIPTORS}
use Rattle.parts_model.specs.declared.tagged.TaggedByte.{TaggedByte}
use Rattle.parts_model.specs.Processes.{Life, Live, Ended, Process, Processes, process, with_process, is_live, live_process, is_number, if_awaited, orphan, with_end, ended}
use Rattle.guest_calls.specs.Kept.{IsFull}
use Rattle.guest_calls.proofs.Numbers.{nth-set_other, nth-set_own, nth-then, nth-within}

-- the process, if it lives
abbrev pub if_live : Option Process → Option Process
if_live x = option_and_then (λ p. if is_live p then Some p else None) x

pub with_process-other : (all : Processes) (pid : ℕ) (x : Option Process) (q : ℕ) → q ≢ pid → process (with_process all pid x) q ≡ process all q
with_process-other all zero x q other = refl
with_process-other all (suc i) x zero other = refl
with_process-other all (suc i) x (suc j) other = nth-set_other all i x j (λ (e : j ≡ i). other (ap (λ (k : ℕ). suc k) e))

with_process-own : (f : Process → Option Process) (all : Processes) (pid : ℕ) → process (with_process all pid (option_and_then f (process all pid))) pid ≡ option_and_then f (process all pid)
with_process-own f all zero = refl
with_process-own f all (suc i) = nth-set_own (option_and_then f) refl all i

process-then : (f : Process → Option Process) (all : Processes) (q : ℕ) → process (map (option_and_then f) all) q ≡ option_and_then f (process all q)
process-then f all zero = refl
process-then f all (suc j) = nth-then f all j

ended-other : (all : Processes) (pid : ℕ) (status : TaggedByte) (q : ℕ) → q ≢ pid → process (ended all pid status) q ≡ option_and_then (orphan pid) (process all q)
ended-other all pid status q other =
    process-then (orphan pid) (with_process all pid (option_and_then (with_end status) (process all pid))) q
    ∙ ap (option_and_then (orphan pid)) (with_process-other all pid (option_and_then (with_end status) (process all pid)) q other)

ended-own : (all : Processes) (pid : ℕ) (status : TaggedByte) → process (ended all pid status) pid ≡ option_and_then (orphan pid) (option_and_then (with_end status) (process all pid))
ended-own all pid status =
    process-then (orphan pid) (with_process all pid (option_and_then (with_end status) (process all pid))) pid
    ∙ ap (option_and_then (orphan pid)) (with_process-own (with_end status) all pid)

-- an orphan that may have lost its parent
orphan-parts : (lost : Bool) (state : Life) (parent : Option ℕ) (descriptors : List (Option ℕ)) → is_some (if_live (cond lost (if_awaited (record { life = state; parent = None; descriptors = descriptors })) (Some (record { life = state; parent = parent; descriptors = descriptors })))) ≡ is_some (if_live (Some (record { life = state; parent = parent; descriptors = descriptors })))
orphan-parts true Live parent descriptors = refl
orphan-parts true (Ended status) parent descriptors = refl
orphan-parts false state parent descriptors = refl

orphan-alive : (pid : ℕ) (x : Option Process) → is_some (if_live (option_and_then (orphan pid) x)) ≡ is_some (if_live x)
orphan-alive pid None = refl
orphan-alive pid (Some p) = orphan-parts (is_number pid p.parent) p.life p.parent p.descriptors

orphan-full : (lost : Bool) (state : Life) (parent : Option ℕ) (descriptors : List (Option ℕ)) → IsFull (record { life = state; parent = parent; descriptors = descriptors }) → IfSome (cond lost (if_awaited (record { life = state; parent = None; descriptors = descriptors })) (Some (record { life = state; parent = parent; descriptors = descriptors }))) IsFull
orphan-full true Live parent descriptors full = full
orphan-full true (Ended status) parent descriptors full = tt
orphan-full false state parent descriptors full = full

still-full : (pid : ℕ) (x : Option Process) → IfSome x IsFull → IfSome (option_and_then (orphan pid) x) IsFull
still-full pid None full = tt
still-full pid (Some p) full = orphan-full (is_number pid p.parent) p.life p.parent p.descriptors full

-- one that has ended
gone-parts : (lost : Bool) (status : TaggedByte) (parent : ℕ) (descriptors : List (Option ℕ)) → is_some (if_live (cond lost (if_awaited (record { life = Ended status; parent = None; descriptors = descriptors })) (Some (record { life = Ended status; parent = Some parent; descriptors = descriptors })))) ≡ false
gone-parts true status parent descriptors = refl
gone-parts false status parent descriptors = refl

gone : (pid : ℕ) (status : TaggedByte) (state : Life) (parent : Option ℕ) (descriptors : List (Option ℕ)) → is_some (if_live (option_and_then (orphan pid) (with_end status (record { life = state; parent = parent; descriptors = descriptors })))) ≡ false
gone pid status state None descriptors = refl
gone pid status state (Some parent) descriptors = gone-parts (parent == pid) status parent _

end-gone : (pid : ℕ) (status : TaggedByte) (x : Option Process) → is_some (if_live (option_and_then (orphan pid) (option_and_then (with_end status) x))) ≡ false
end-gone pid status None = refl
end-gone pid status (Some p) = gone pid status p.life p.parent p.descriptors

end-parts : (status : TaggedByte) (state : Life) (parent : Option ℕ) (descriptors : List (Option ℕ)) → IfSome (with_end status (record { life = state; parent = parent; descriptors = descriptors })) IsFull
end-parts status state None descriptors = tt
end-parts status state (Some parent) descriptors = refl

end-full : (status : TaggedByte) (x : Option Process) → IfSome (option_and_then (with_end status) x) IsFull
end-full status None = tt
end-full status (Some p) = end-parts status p.life p.parent p.descriptors

module _ (all : Processes) (pid : ℕ) (status : TaggedByte) where
  pub alive-other : (q : ℕ) → q ≢ pid → is_some (live_process (ended all pid status) q) ≡ is_some (live_process all q)
  alive-other q other = ap (λ (x : Option Process). is_some (if_live x)) (ended-other all pid status q other) ∙ orphan-alive pid (process all q)

  pub alive-own : is_some (live_process (ended all pid status) pid) ≡ false
  alive-own = ap (λ (x : Option Process). is_some (if_live x)) (ended-own all pid status) ∙ end-gone pid status (process all pid)

  pub full-other : (q : ℕ) → q ≢ pid → IfSome (process all q) IsFull → IfSome (process (ended all pid status) q) IsFull
  full-other q other full = subst (λ (x : Option Process). IfSome x IsFull) (sym (ended-other all pid status q other)) (still-full pid (process all q) full)

  pub full-own : IfSome (process (ended all pid status) pid) IsFull
  full-own = subst (λ (x : Option Process). IfSome x IsFull) (sym (ended-own all pid status)) (still-full pid (option_and_then (with_end status) (process all pid)) (end-full status (process all pid)))

  length-with : (p : ℕ) (x : Option Process) → length (with_process all p x) ≡ length all
  length-with zero x = refl
  length-with (suc i) x = length-set all i x

  pub length-ended : length (ended all pid status) ≡ length all
  length-ended = length-map (with_process all pid (option_and_then (with_end status) (process all pid))) (option_and_then (orphan pid)) ∙ length-with pid (option_and_then (with_end status) (process all pid))

-- a process that lives is there, under a number of those that were made
there : (x : Option Process) → is_some (if_live x) ≡ true → is_some x ≡ true
there None live = live
there (Some p) live = refl

pub live-there : (all : Processes) (pid : ℕ) → is_some (live_process all pid) ≡ true → is_some (process all pid) ≡ true
live-there all pid live = there (process all pid) live

pub there-numbered : (all : Processes) (pid : ℕ) → is_some (process all pid) ≡ true → (0 < pid) × (pid < length all + 1)
there-numbered all zero is = cc
there-numbered all (suc i) is = (omega arith, omega (arith, nth-within all i is))

all-descriptors : (x : Option Process) → is_some x ≡ true → IfSome x IsFull → length (unwrap_or (option_map (λ p. p.descriptors) x) []) ≡ MOST_DESCRIPTORS
all-descriptors None is full = cc
all-descriptors (Some p) is full = full

pub count-descriptors : (all : Processes) (pid : ℕ) → is_some (live_process all pid) ≡ true → IfSome (process all pid) IsFull → length (unwrap_or (option_map (λ p. p.descriptors) (process all pid)) []) ≡ MOST_DESCRIPTORS
count-descriptors all pid live full = all-descriptors (process all pid) (live-there all pid live) full
