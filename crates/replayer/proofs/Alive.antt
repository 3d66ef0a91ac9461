-- Who lives as records tell it, one after the other: the process of each slice does.
use Rattle.std.proofs.lemmas.Bool.Decides.{nat_tests}
use Rattle.std.proofs.Common.{◌≡◌, ◌<◌, ◌≤◌, ℕ, zero, suc, ◌+◌, Bool, true, false, List, [], ◌∷◌, length, take, drop, get_or, None, IfSome, refl, ap, sym, ◌∙◌, arith, subst}
use Rattle.std.proofs.lemmas.Bool.{le-leb, not-false}
use Rattle.arn_base.specs.declared.records.Record.{Record}
use Rattle.arn_base.specs.declared.records.Record.TheVariants as entry
use Rattle.acts_model.specs.Records.{life_told, lives_after}
use Rattle.history_model.specs.Broken.{first_broken}
use Rattle.history_model.specs.Moments.{events_from, lives_at, lives_by, total}
use Rattle.replayer.proofs.Sound.{drop-more, drop-past, runner, there}
use Rattle.replayer.proofs.Unbroken.{Follows, can-follow, tests}

-- who lives behind a record
abbrev pub lives_told : Record → (ℕ → Bool) → ℕ → Bool
lives_told e live p = lives_after (life_told e) p (live p)

-- the process of each slice lives
abbrev pub AllLive : (ℕ → Bool) → List Record → Type 0
AllLive live [] = Unit {0}
AllLive live (e ∷ entries) = IfSome (runner e) (λ p. live p ≡ true) × AllLive (lives_told e live) entries

-- who lives behind records
abbrev lives_through : List Record → (ℕ → Bool) → ℕ → Bool
lives_through [] live = live
lives_through (e ∷ entries) live = lives_through entries (lives_told e live)

-- at a moment behind all of them each event has happened
lives-all : (moment begins ends k : ℕ) (entries : List Record) (p : ℕ) (live : ℕ → Bool) → begins ≤ ends → ends + total entries ≤ moment → lives_by (events_from moment begins ends k entries) p (live p) ≡ lives_through entries live p
lives-all moment begins ends k [] p live le past = refl
lives-all moment begins ends k (entry.Slice pid ran ∷ entries) p live le past = grind (arith, nat_tests, lives-all moment ends (ends + ran) k entries p (lives_told (entry.Slice pid ran) live) (omega arith) (omega (arith, past)))
lives-all moment begins ends k (e ∷ entries) p live le past = grind (arith, nat_tests, le-leb ends moment (omega (arith, past)), lives-all moment begins ends (k + 1) entries p (lives_told e live) le (omega (arith, past)))

lives-snoc : (live : ℕ → Bool) (entries : List Record) (i : ℕ) (e : Record) → i < length entries → e ≡ get_or entries i e → lives_through (take (suc i) entries) live ≡ lives_told e (lives_through (take i entries) live)
lives-snoc live [] i e lt is = absurd (omega arith)
lives-snoc live (x ∷ entries) zero e lt is = ap (λ (r : Record). lives_told r live) (sym is)
lives-snoc live (x ∷ entries) (suc i) e lt is = lives-snoc (lives_told x live) entries i e (omega arith) is

slice-live : (before : List Record) (e : Record) → Follows before e → IfSome (runner e) (λ p. lives_through before (λ q. false) p ≡ true)
slice-live before (entry.Slice pid ran) f =
    sym (lives-all (total before) 0 0 0 before pid (λ q. false) (omega arith) (omega arith)) ∙ not-false (lives_at before (total before) pid) f.process
slice-live before _ f = tt

module _ (entries : List Record) (stands : first_broken entries ≡ None) where
  live-from : (left i : ℕ) → left + i ≡ length entries → AllLive (lives_through (take i entries) (λ q. false)) (drop i entries)
  live-from zero i is = subst (AllLive (lives_through (take i entries) (λ q. false))) (sym (drop-past entries i (omega arith))) tt
  live-from (suc left) i is =
      let lt : i < length entries = omega arith in
      let e = there entries i lt in
      let rest = live-from left (suc i) (omega arith) in
      subst (AllLive (lives_through (take i entries) (λ q. false))) (sym (drop-more entries i e.0 lt e.1)) (
        slice-live (take i entries) e.0 (tests (take i entries) e.0 (can-follow [] entries i e.0 stands lt e.1)),
        subst (λ (live : ℕ → Bool). AllLive live (drop (suc i) entries)) (lives-snoc (λ q. false) entries i e.0 lt e.1) rest,
      )

  pub all-live : AllLive (λ q. false) entries
  all-live = live-from (length entries) 0 (omega arith)
