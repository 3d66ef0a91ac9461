-- Behind the moment no record matters.
use Rattle.std.proofs.lemmas.Bool.Decides.{nat_tests}
use Rattle.std.proofs.Common.{◌≡◌, ℕ, ◌<◌, ◌+◌, ◌-◌, List, [], ◌∷◌, ◌++◌, refl, ap, ap₂, ◌∙◌, sym, false, arith}
use Rattle.std.proofs.lemmas.Bool.{lt-leb}
use Rattle.arn_base.specs.declared.records.Record.{Record}
use Rattle.arn_base.specs.declared.records.Record.TheVariants as entry
use Rattle.history_model.specs.Alone as alone
use Rattle.history_model.specs.Alone.{Own, Made, Makes, Standing, and_then, after_slice, after_last, after_record, replayed}
use Rattle.history_model.specs.Groups.{Groups, groups_told, groups_from}
use Rattle.replay_laws.proofs.Heard.{slice_at}
use Rattle.replay_laws.proofs.Turns.{Settles}

-- the moment lies before all that is to come
pub record Still (until : ℕ) (own : Own) (t : Standing) : Type 0 where
  pub begun : t.is_begun ≡ false
  pub ended : t.is_ended ≡ false
  pub owed : t.owed ≡ 0
  pub late : until < t.moment
  pub made : t.made ≡ Makes own

pub still-settles : (until : ℕ) (own : Own) (t : Standing) → Still until own t → Settles t own
still-settles until own t h event end_event = ap₂ (λ (b : Made) (k : ℕ). and_then b (alone.plains (slice_at t.pid t.ran event end_event) 0 k)) h.made h.owed

-- where nothing is owed, what is settled has been made
pub made-settled : (own : Own) (t : Standing) → t.owed ≡ 0 → Settles t own → t.made ≡ Makes own
made-settled own t e h = by_made t.made (ap (λ (k : ℕ). and_then t.made (alone.plains (slice_at t.pid t.ran 0 0) 0 k)) (sym e) ∙ h 0 0)
  where
    by_made : (b : Made) → and_then b (alone.plains (slice_at t.pid t.ran 0 0) 0 0) ≡ Makes own → b ≡ Makes own
    by_made b h1 = grind (arith, nat_tests)

pub slice-still : (g until p ran : ℕ) (own : Own) (t : Standing) → until < t.moment → Settles t own → Still until own (after_slice g until p ran t)
slice-still g until p ran own t h1 h2 = grind (arith, nat_tests, lt-leb)

last-still : (g until p : ℕ) (r : Record) (own : Own) (t : Standing) → Still until own t → Still until own (after_last g p r t)
last-still g until p r own t h1 = grind (arith, nat_tests)

record-still : (g until : ℕ) (own : Own) (t : Standing) (r : Record) → Still until own t → Still until own (after_record g until t r)
record-still g until own t r h1 = grind (arith, nat_tests, slice-still, still-settles, last-still)

pub all-still : (g until : ℕ) (own : Own) (rs : List Record) (t : Standing) → Still until own t → Still until own (replayed g until t rs)
all-still g until own [] t h = h
all-still g until own (r ∷ rs) t h = all-still g until own rs (after_record g until t r) (record-still g until own t r h)

-- so a slice that begins behind the moment, and all that follows it, changes nothing
pub nothing-later : (g until p ran : ℕ) (own : Own) (t : Standing) (rs : List Record) → until < t.moment → Settles t own → Settles (replayed g until t (entry.Slice p ran ∷ rs)) own
nothing-later g until p ran own t rs h1 h2 = grind (arith, nat_tests, still-settles, all-still, slice-still)

pub replayed-append : (g until : ℕ) (rs more : List Record) (t : Standing) → replayed g until t (rs ++ more) ≡ replayed g until (replayed g until t rs) more
replayed-append g until [] more t = refl
replayed-append g until (r ∷ rs) more t = replayed-append g until rs more (after_record g until t r)

-- a replay has the groups that the records tell
record-groups : (g until : ℕ) (t : Standing) (r : Record) → (after_record g until t r).groups ≡ groups_told r t.groups
record-groups g until t (entry.File path bytes) = refl
record-groups g until t _ = refl

pub replayed-groups : (g until : ℕ) (rs : List Record) (t : Standing) → (replayed g until t rs).groups ≡ groups_from rs t.groups
replayed-groups g until [] t = refl
replayed-groups g until (r ∷ rs) t = replayed-groups g until rs (after_record g until t r) ∙ ap (groups_from rs) (record-groups g until t r)

pub groups-append : (rs more : List Record) (gs : Groups) → groups_from (rs ++ more) gs ≡ groups_from more (groups_from rs gs)
groups-append [] more gs = refl
groups-append (r ∷ rs) more gs = groups-append rs more (groups_told r gs)
