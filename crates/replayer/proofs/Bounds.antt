-- How many instructions a group's slices have before a moment.
use Rattle.std.proofs.Common.{◌≡◌, ℕ, ◌+◌, ◌-◌, min, Bool, true, false, if◌then◌else◌, cond, List, [], ◌∷◌, filter, refl, arith}
use Rattle.arn_base.specs.declared.records.Record.{Record}
use Rattle.arn_base.specs.declared.records.Record.TheVariants as entry
use Rattle.history_index.specs.declared.slices.SliceAt.{SliceAt}
use Rattle.history_index.specs.Lookups.{slices_from, slices_of}
use Rattle.history_model.specs.Groups.{Groups, group_of, is_number}
use Rattle.replayer.specs.Bounds.{count_before_from, ran_before}

abbrev pub slices_before : ℕ → List SliceAt → ℕ
slices_before until [] = 0
slices_before until (s ∷ slices) = min s.ran (until - s.moment) + slices_before until slices

zero-more : (a b : ℕ) → a ≡ b → 0 + a ≡ b
zero-more a b is = omega (arith, is)

module _ (g until : ℕ) (groups : Groups) where
  kept : (b : Bool) (place moment pid ran event rest : ℕ) (slices : List SliceAt) → rest ≡ slices_before until slices → (if b then min ran (until - moment) else 0) + rest ≡ slices_before until (cond b (record { place = place; moment = moment; pid = pid; ran = ran; event = event } ∷ slices) slices)
  kept true place moment pid ran event rest slices is = omega (arith, is)
  kept false place moment pid ran event rest slices is = omega (arith, is)

  from-slices : (entries : List Record) (place moment event : ℕ) → count_before_from g until moment groups entries ≡ slices_before until (filter (λ (s : SliceAt). is_number g (groups s.pid)) (slices_from place moment event entries))
  from-slices [] place moment event = refl
  from-slices (entry.Slice pid ran ∷ entries) place moment event = kept (is_number g (groups pid)) place moment pid ran event _ _ (from-slices entries (place + 1) (moment + ran) (event + 0))
  from-slices (_ ∷ entries) place moment event = zero-more _ _ (from-slices entries (place + 1) (moment + 0) (event + 1))

-- they are those that the group's members run before it
pub before-slices : (entries : List Record) (g until : ℕ) → ran_before entries g until ≡ slices_before until (slices_of entries g)
before-slices entries g until = from-slices g until (group_of entries) entries 0 0 0
