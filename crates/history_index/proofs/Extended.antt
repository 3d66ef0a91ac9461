-- Records are added one after the other.
use Rattle.std.proofs.Common.{◌≡◌, ℕ, zero, suc, ◌+◌, ◌<◌, ◌≤◌, Bool, true, false, if◌then◌else◌, List, [], ◌∷◌, ◌++◌, length, take, drop, get_or, Some, refl, ap, sym, subst, ◌∙◌, arith}
use Rattle.arn_base.specs.declared.records.Record.{Record}
use Rattle.arn_base.specs.declared.records.Record.TheVariants as entry
use Rattle.history_model.specs.Broken.{first_broken}
use Rattle.history_model.specs.Groups.{Groups, group_of, count_from, ran_for, is_number}
use Rattle.history_model.specs.Moments.{ran_in, total}
use Rattle.history_index.specs.declared.errors.IndexError.{IndexError}
use Rattle.history_index.specs.declared.errors.IndexError.TheVariants as error
use Rattle.history_index.specs.After.{after}
use Rattle.history_index.specs.Check.{refuses}
use Rattle.history_index.specs.Errors.{Refuses, TellsBroken, Leaves}
use Rattle.history_index.specs.Families.{run_in}
use Rattle.history_index.specs.Indexes.{Indexes}
use Rattle.history_index.specs.Tables.{Tables}
use Rattle.history_index.proofs.Refusals.{refusals-told}
use Rattle.history_index.proofs.Snoc.{broken-here}
use Rattle.history_index.proofs.Whole.{next}

-- no group runs more than all
ran-within : (b : Bool) (ran : ℕ) → (if b then ran else 0) ≤ ran
ran-within true ran = omega arith
ran-within false ran = omega arith

ran-least : (g : ℕ) (groups : Groups) (e : Record) → ran_for g groups e ≤ ran_in e
ran-least g groups (entry.Slice pid ran) = ran-within (is_number g (groups pid)) ran
ran-least g groups _ = omega arith

count-least : (g : ℕ) (groups : Groups) (entries : List Record) → count_from g groups entries ≤ total entries
count-least g groups [] = omega arith
count-least g groups (e ∷ entries) = let h = ran-least g groups e in let r = count-least g groups entries in omega arith

pub counts-within : (t : Tables) (entries : List Record) → Indexes t entries → (g : ℕ) → (run_in t.families.runs g).count ≤ t.total
counts-within t entries i g =
    let h = count-least g (group_of entries) entries in
    let c = i.families.counts g in
    let all = i.total in omega arith

-- the records up to one, and that one
taken : (entries : List Record) (place : ℕ) (e : Record) → place < length entries → e ≡ get_or entries place e → take (place + 1) entries ≡ take place entries ++ e ∷ []
taken [] place e within is = absurd (omega arith)
taken (x ∷ entries) zero e within is = ap (λ (r : Record). r ∷ []) (sym is)
taken (x ∷ entries) (suc place) e within is =
    let more : suc place + 1 ≡ suc (place + 1) = omega arith in
    rw more (ap (λ (xs : List Record). x ∷ xs) (taken entries place e (omega arith) is))

parted : (entries : List Record) (place : ℕ) (e : Record) → place < length entries → e ≡ get_or entries place e → entries ≡ take place entries ++ e ∷ drop (place + 1) entries
parted [] place e within is = absurd (omega arith)
parted (x ∷ entries) zero e within is = ap (λ (r : Record). r ∷ entries) (sym is)
parted (x ∷ entries) (suc place) e within is =
    let more : suc place + 1 ≡ suc (place + 1) = omega arith in
    rw more (ap (λ (xs : List Record). x ∷ xs) (parted entries place e (omega arith) is))

taken-len : (entries : List Record) (place : ℕ) → place ≤ length entries → length (take place entries) ≡ place
taken-len entries zero within = refl
taken-len [] (suc place) within = absurd (omega arith)
taken-len (x ∷ entries) (suc place) within = ap suc (taken-len entries place (omega arith))

module _ (t : Tables) (entries : List Record) (place : ℕ) (e : Record) (within : place < length entries) (is : e ≡ get_or entries place e) (i : Indexes t (take place entries)) where
  at : t.records ≡ place
  at = i.records ∙ taken-len entries place (omega arith)

  pub step : (u : Tables) → refuses t e ≡ false → u ≡ after t e → Indexes u (take (place + 1) entries)
  step u stands same =
      rw (same, taken entries place e within is) (next t (take place entries) e i (sym (refusals-told t (take place entries) e i) ∙ stands))

  pub broken-told : (err : IndexError) → Refuses t e err → TellsBroken entries err
  broken-told (error.Broken p) refused =
      ap first_broken (parted entries place e within is)
      ∙ broken-here (take place entries) (drop (place + 1) entries) e i.stands (sym (refusals-told t (take place entries) e i) ∙ refused.0)
      ∙ ap Some (sym (refused.1 ∙ i.records))
  broken-told error.NoMemory refused = tt

  pub left : (u : Tables) (err : IndexError) → u ≡ t → Refuses t e err → Leaves entries u err
  left u (error.Broken p) same refused = rw (same, refused.1) (subst (λ (k : ℕ). Indexes t (take k entries)) (sym at) i)
  left u error.NoMemory same refused = rw same (subst (λ (k : ℕ). Indexes t (take k entries)) (sym at) i)
