-- How many records stand behind a slice.
use Rattle.std.proofs.lemmas.Grind.{common_steps}
use Rattle.std.proofs.lemmas.Bool.Decides.{nat_tests}
use Rattle.std.proofs.Common.{◌≡◌, ◌<◌, ◌≤◌, ℕ, suc, ◌+◌, true, false, List, ◌∷◌, length, drop, get_or, refl, ap, ◌∙◌, arith}
use Rattle.arn_base.specs.declared.records.Record.{Record}
use Rattle.arn_base.specs.declared.records.Record.TheVariants as entry
use Rattle.acts_model.specs.Records.{is_event}
use Rattle.replayer.specs.Parts.{part_len}
use Rattle.replayer.proofs.Sound.{drop-more, drop-past}

len-slice : (e : Record) (rest : List Record) → is_event e ≡ false → part_len (e ∷ rest) ≡ 0
len-slice (entry.Slice pid ran) rest is = refl
len-slice _ rest is = absurd (let no-way : true ≡ false = is in cc)

pub len-event : (e : Record) (rest : List Record) → is_event e ≡ true → part_len (e ∷ rest) ≡ part_len rest + 1
len-event (entry.Slice pid ran) rest is = absurd (let no-way : false ≡ true = is in cc)
len-event _ rest is = refl

module _ (entries : List Record) (place : ℕ) where
  pub part-past : length entries ≤ place → part_len (drop place entries) ≡ 0
  part-past le = ap part_len (drop-past entries place le)

  module _ (e : Record) (lt : place < length entries) (is : e ≡ get_or entries place e) where
    pub part-here : is_event e ≡ false → part_len (drop place entries) ≡ 0
    part-here slice = ap part_len (drop-more entries place e lt is) ∙ len-slice e (drop (suc place) entries) slice

    pub part-next : is_event e ≡ true → part_len (drop place entries) + place ≡ part_len (drop (place + 1) entries) + (place + 1)
    part-next h1 = grind (arith, common_steps, nat_tests, drop-more, len-event)

    -- it stands before the part's end
    pub part-inside : 0 < part_len (drop place entries) → is_event e ≡ true
    part-inside h1 = grind (arith, nat_tests, part-here)
