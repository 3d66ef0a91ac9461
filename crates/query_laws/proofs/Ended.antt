-- Every event has happened at the end of a history.
use Rattle.std.proofs.Common.{◌≡◌, ℕ, zero, suc, ◌+◌, ◌<◌, ◌≤◌, Bool, true, nat_le, List, [], ◌∷◌, refl, sym, subst, arith, Contains, le-leb}
use Rattle.arn_base.specs.declared.records.Record.{Record}
use Rattle.arn_base.specs.declared.records.Record.TheVariants as entry
use Rattle.history_model.specs.Events.{how_many}
use Rattle.history_model.specs.Moments.{Numbered, events_from, events_until, if_happened, total}
use Rattle.query_laws.proofs.Happened.{numbers}
use Rattle.query_laws.proofs.Lists.{first-in, later-in}

-- an event that happens by this moment, and those behind it
happens-next : (at moment k n : ℕ) (e : Record) (rest : List Numbered) → at ≤ moment → ((m : ℕ) → n ≡ suc m → Contains (numbers rest) (k + 1 + m)) → Contains (numbers (if_happened (nat_le at moment) k e rest)) (k + n)
happens-next at moment k zero e rest low later =
    let same : k ≡ k + zero = omega arith in
    subst (λ (b : Bool). Contains (numbers (if_happened b k e rest)) (k + zero)) (sym (le-leb at moment low))
    (subst (λ (j : ℕ). Contains (numbers (if_happened true k e rest)) j) same (first-in k (numbers rest)))
happens-next at moment k (suc n) e rest low later =
    let same : k + 1 + n ≡ k + suc n = omega arith in
    subst (λ (b : Bool). Contains (numbers (if_happened b k e rest)) (k + suc n)) (sym (le-leb at moment low))
    (subst (λ (j : ℕ). Contains (numbers (if_happened true k e rest)) j) same (later-in k (k + 1 + n) (numbers rest) (later n refl)))

happens : (entries : List Record) (begins ends k n moment : ℕ) → begins ≤ ends → ends + total entries ≤ moment → n < how_many entries → Contains (numbers (events_from moment begins ends k entries)) (k + n)
happens [] begins ends k n moment low high there = absurd (omega (arith, there))
happens (entry.Slice pid ran ∷ entries) begins ends k n moment low high there = happens entries ends (ends + ran) k n moment (omega arith) (omega (arith, high)) there
happens (entry.Signal pid signal cut handler ∷ entries) begins ends k n moment low high there =
    happens-next begins moment k n (entry.Signal pid signal cut handler) (events_from moment begins ends (k + 1) entries) (omega (arith, low, high))
    (λ m is. happens entries begins ends (k + 1) m moment low (omega (arith, high)) (omega (arith, there, is)))
happens (e ∷ entries) begins ends k n moment low high there =
    happens-next ends moment k n e (events_from moment begins ends (k + 1) entries) (omega (arith, high))
    (λ m is. happens entries begins ends (k + 1) m moment low (omega (arith, high)) (omega (arith, there, is)))

pub has-ended : (entries : List Record) (n : ℕ) → n < how_many entries → Contains (numbers (events_until (total entries) entries)) n
has-ended entries n there =
    let same : 0 + n ≡ n = omega arith in
    subst (λ (j : ℕ). Contains (numbers (events_until (total entries) entries)) j) same (happens entries 0 0 0 n (total entries) (omega arith) (omega arith) there)
