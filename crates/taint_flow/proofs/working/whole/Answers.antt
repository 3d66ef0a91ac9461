use Rattle.std.proofs.Common.{◌≡◌, ℕ, ◌+◌, ◌<◌, ◌≤◌, nat_lt, Bool, true, false, slice_index, refl, subst, ◌∙◌, arith, sym}
use Rattle.std.proofs.lemmas.Bool.{ltb-true, ltb-false}
use Rattle.rv64_model.specs.Carries.{Left, first_bytes}
use Rattle.taint_flow.specs.Flow.{IsWidth, reach}
use Rattle.taint_flow.specs.Gathered.{number_of}
use Rattle.taint_flow.specs.Results.{TakesOperands}
use Rattle.taint_flow.proofs.Even.{same-at}
use Rattle.taint_flow.proofs.Grown.{reach-above, reach-below}
use Rattle.taint_flow.proofs.working.whole.Goals as goal

-- the last byte takes all of them
last : (width : ℕ) → IsWidth width → reach width 7 ≡ width
last width fits = by (nat_lt 7 width) refl where
  by : (b : Bool) → nat_lt 7 width ≡ b → reach width 7 ≡ width
  by true e =
      let below : 7 < width = ltb-true 7 width e in
      let few : width ≤ 8 = fits.1 in
      let all : 7 + 1 ≡ width = omega arith in
      reach-below width 7 below ∙ all
  by false e = reach-above width 7 fits (ltb-false 7 width e)

pub returns-clause-results : goal.returns-clause-results
returns-clause-results c = λ second loaded.
    let number = number_of c.args.first.now second loaded in
    let seven : 7 < 8 = omega arith in
    let taken = subst (λ n. TakesOperands c.args.sets.now c.rising.new.sets number (first_bytes Left n) (slice_index c.in_ok-numbers.numbers 7)) (last c.args.width c.requires.width)
    ((c.in_ok-numbers.ensures.results second loaded).bytes 7 seven) in
    record {
      len = refl;
      bytes = λ i h. subst (λ n. TakesOperands c.args.sets.now c.rising.new.sets number (first_bytes Left c.args.width) n) (sym (same-at 8 i (slice_index c.in_ok-numbers.numbers 7) h)) taken;
    }
