-- What the trait asks of the calls of a disk in memory, from what they do to its state.
use Rattle.std.proofs.Common.{◌≡◌, ◌⊎◌, ℕ, ◌≤◌, List, length, Result, Ok, Err, OnOk, OnErr, refl, inl, inr, arith}
use Rattle.std.proofs.Math.Nat.{le_refl}
use Rattle.arn_base.specs.declared.errors.Stop.{Stop}
use Rattle.arn_base.specs.declared.errors.Stop.TheVariants.{Failed, NoMemory}
use Rattle.arn_base.specs.Disk.{Torn, Cut, Follows, NoLess, NoMore, Only, Elapses}
use Rattle.log_disk.specs.Crash.{Held, Crash, durable}
use Rattle.log_disk.specs.InMemory.{InMemory, Fused, Makes, changed, moment_of, LeftSince}
use Rattle.log_disk.specs.Steps.{span, written_to, cut_to}
use Rattle.log_disk.proofs.CrashLemmas.{Follows-written, Follows-cut, NoMore-durable, Crash-durable, Torn-overwrite, Torn-self, Cut-self, Cut-take}

-- a call that succeeds makes this change, and one that doesn't changes nothing
pub record Does (result : Result (Unit {0}) Stop) (next : Held) (old new : InMemory) : Type 0 where
  pub ok : OnOk result (new ≡ changed next old)
  pub err : OnErr result (new ≡ old)

-- what a crash may leave after it follows from what it may leave after the change
pub Follows-made : (step : List ℕ → List ℕ → Type 0) (result : Result (Unit {0}) Stop) (next : Held) (old new : InMemory) →
    Does result next old new → ((bytes : List ℕ) → step bytes bytes) →
    Follows step (Crash old.held) (Crash next) → Follows step (Crash old.held) (Crash new.held)
Follows-made step (Ok u) next old new makes self follows = rw makes.ok follows
Follows-made step (Err error) next old new makes self follows = rw makes.err (λ bytes left. (bytes, left, self bytes))

-- a crash since a time leaves what one before the change might, or what one now may
nothing_else : (next : Held) (old : InMemory) (time : ℕ) (bytes : List ℕ) →
    LeftSince (changed next old) time bytes → LeftSince old time bytes ⊎ Crash next bytes
nothing_else next old time bytes (inl now) = inr now
nothing_else next old time bytes (inr (inl before)) = inl (inl before.1)
nothing_else next old time bytes (inr (inr earlier)) = inl (inr earlier)

keeps : (next : Held) (old : InMemory) (time : ℕ) (bytes : List ℕ) → time ≤ moment_of old →
    LeftSince old time bytes → LeftSince (changed next old) time bytes
keeps next old time bytes early (inl now) = inr (inl (early, now))
keeps next old time bytes early (inr earlier) = inr (inr earlier)

Elapses-changed : (next : Held) (old : InMemory) →
    Elapses moment_of LeftSince (λ disk. Crash disk.held) old (changed next old)
Elapses-changed next old = record {
  later = omega arith;
  nothing_else = λ time bytes early left. nothing_else next old time bytes left;
  keeps = λ time bytes early left. keeps next old time bytes early left;
}

pub Elapses-same : (old : InMemory) → Elapses moment_of LeftSince (λ disk. Crash disk.held) old old
Elapses-same old = record {
  later = le_refl _;
  nothing_else = λ time bytes early left. inl left;
  keeps = λ time bytes early left. left;
}

-- time goes on by one moment, or stands still
pub Elapses-made : (result : Result (Unit {0}) Stop) (next : Held) (old new : InMemory) →
    Does result next old new → Elapses moment_of LeftSince (λ disk. Crash disk.held) old new
Elapses-made (Ok u) next old new makes = rw makes.ok (Elapses-changed next old)
Elapses-made (Err error) next old new makes = rw makes.err (Elapses-same old)

-- a call that changes only what it says takes nothing from what a crash may leave
pub NoLess-made : (result : Result (Unit {0}) Stop) (next : Held) (old new : InMemory) → Does result next old new →
    NoLess (Crash old.held) (Crash next) → NoLess (Crash old.held) (Crash new.held)
NoLess-made (Ok u) next old new makes more = rw makes.ok more
NoLess-made (Err error) next old new makes more = rw makes.err (λ bytes left. left)

-- nor one that may fail
pub NoLess-makes : (result : Result (Unit {0}) Stop) (done torn : Held) (old new : InMemory) → Makes result done torn old new →
    NoLess (Crash old.held) (Crash done) → NoLess (Crash old.held) (Crash torn) → NoLess (Crash old.held) (Crash new.held)
NoLess-makes (Ok u) done torn old new makes whole part = rw makes.ok whole
NoLess-makes (Err Failed) done torn old new makes whole part = rw (makes.failed refl) part
NoLess-makes (Err NoMemory) done torn old new makes whole part = rw (makes.no_memory refl) (λ bytes left. left)

-- what a crash may leave after a write
pub Follows-write : (result : Result (Unit {0}) Stop) (old new : InMemory) (at n : ℕ) (piece : List ℕ) →
    at ≤ length old.held.image → length piece ≤ n → Does result (written_to (span at n) piece old.held) old new →
    Follows (Torn at n) (Crash old.held) (Crash new.held)
Follows-write result old new at n piece in_range whole makes =
    Follows-made (Torn at n) result (written_to (span at n) piece old.held) old new makes (λ bytes. Torn-self bytes at n) (Follows-written old.held at n piece in_range whole)

-- and after a cut
pub Follows-cuts : (result : Result (Unit {0}) Stop) (old new : InMemory) (len : ℕ) →
    Does result (cut_to len old.held) old new → Follows (Cut len) (Crash old.held) (Crash new.held)
Follows-cuts result old new len makes =
    Follows-made (Cut len) result (cut_to len old.held) old new makes (λ bytes. Cut-self bytes len) (Follows-cut old.held len)

-- and after a sync
pub NoMore-sync : (result : Result (Unit {0}) Stop) (old new : InMemory) →
    Does result (durable old.held.image) old new → NoMore (Crash old.held) (Crash new.held)
NoMore-sync (Ok u) old new makes = rw makes.ok (NoMore-durable old.held)
NoMore-sync (Err error) old new makes = rw makes.err (λ bytes left. left)

pub Only-sync : (result : Result (Unit {0}) Stop) (old new : InMemory) →
    Does result (durable old.held.image) old new → OnOk result (Only old.held.image (Crash new.held))
Only-sync (Ok u) old new makes = rw makes.ok (Crash-durable old.held.image)
Only-sync (Err error) old new makes = tt

-- what a crash may leave after a call that may fail
Follows-makes : (step : List ℕ → List ℕ → Type 0) (result : Result (Unit {0}) Stop) (done torn : Held) (old new : InMemory) →
    Makes result done torn old new → ((bytes : List ℕ) → step bytes bytes) →
    Follows step (Crash old.held) (Crash done) → Follows step (Crash old.held) (Crash torn) →
    Follows step (Crash old.held) (Crash new.held)
Follows-makes step (Ok u) done torn old new makes self whole part = rw makes.ok whole
Follows-makes step (Err Failed) done torn old new makes self whole part = rw (makes.failed refl) part
Follows-makes step (Err NoMemory) done torn old new makes self whole part =
    rw (makes.no_memory refl) (λ bytes left. (bytes, left, self bytes))

-- time goes on by one moment, or stands still
pub Elapses-makes : (result : Result (Unit {0}) Stop) (done torn : Held) (old new : InMemory) →
    Makes result done torn old new → Elapses moment_of LeftSince (λ disk. Crash disk.held) old new
Elapses-makes (Ok u) done torn old new makes = rw makes.ok (Elapses-changed done old)
Elapses-makes (Err Failed) done torn old new makes = rw (makes.failed refl) (Elapses-changed torn old)
Elapses-makes (Err NoMemory) done torn old new makes = rw (makes.no_memory refl) (Elapses-same old)

-- a write that may fail
pub Follows-write_makes : (result : Result (Unit {0}) Stop) (old new : InMemory) (at n : ℕ) (piece half : List ℕ) →
    at ≤ length old.held.image → length piece ≤ n → length half ≤ n →
    Makes result (written_to (span at n) piece old.held) (written_to (span at n) half old.held) old new →
    Follows (Torn at n) (Crash old.held) (Crash new.held)
Follows-write_makes result old new at n piece half in_range whole part makes =
    Follows-makes (Torn at n) result (written_to (span at n) piece old.held) (written_to (span at n) half old.held) old new makes (λ bytes. Torn-self bytes at n) (Follows-written old.held at n piece in_range whole) (Follows-written old.held at n half in_range part)

-- and what is read after it
pub Torn-makes : (result : Result (Unit {0}) Stop) (old new : InMemory) (at n : ℕ) (piece half : List ℕ) →
    at ≤ length old.held.image → length half ≤ n →
    Makes result (written_to (span at n) piece old.held) (written_to (span at n) half old.held) old new →
    OnErr result (Torn at n old.held.image new.held.image)
Torn-makes (Ok u) old new at n piece half in_range part makes = tt
Torn-makes (Err Failed) old new at n piece half in_range part makes =
    rw (makes.failed refl) (Torn-overwrite old.held.image half at n in_range part)
Torn-makes (Err NoMemory) old new at n piece half in_range part makes =
    rw (makes.no_memory refl) (Torn-self old.held.image at n)

-- a cut that may fail
pub Follows-cut_makes : (result : Result (Unit {0}) Stop) (old new : InMemory) (len : ℕ) →
    Makes result (cut_to len old.held) (cut_to len old.held) old new →
    Follows (Cut len) (Crash old.held) (Crash new.held)
Follows-cut_makes result old new len makes =
    Follows-makes (Cut len) result (cut_to len old.held) (cut_to len old.held) old new makes (λ bytes. Cut-self bytes len) (Follows-cut old.held len) (Follows-cut old.held len)

pub Cut-makes : (result : Result (Unit {0}) Stop) (old new : InMemory) (len : ℕ) →
    Makes result (cut_to len old.held) (cut_to len old.held) old new →
    OnErr result (Cut len old.held.image new.held.image)
Cut-makes (Ok u) old new len makes = tt
Cut-makes (Err Failed) old new len makes = rw (makes.failed refl) (Cut-take old.held.image len)
Cut-makes (Err NoMemory) old new len makes = rw (makes.no_memory refl) (Cut-self old.held.image len)

-- the time of a fuse is that of its disk
pub Elapses-fused : (old new : Fused) → Elapses moment_of LeftSince (λ disk. Crash disk.held) old.disk new.disk →
    Elapses (λ fused. moment_of fused.disk) (λ fused. LeftSince fused.disk) (λ fused. Crash fused.disk.held) old new
Elapses-fused old new elapses = record {
  later = elapses.later;
  nothing_else = elapses.nothing_else;
  keeps = elapses.keeps;
}
