use Rattle.std.proofs.Common.{◌≡◌, ℕ, ◌<◌, List, ◌++◌, length, take, sym, ap, ◌∙◌, length-append, length-take, arith}
use Rattle.std.proofs.lemmas.List.{take_all}
use Rattle.result_log.specs.States.{registers_fields}
use Rattle.result_log.proofs.OneWay.{length-registers}
use Rattle.result_log.proofs.starts.split_registers.Goals as goal

-- fewer bytes than the registers take
too-few : (bytes items left : List ℕ) (i : ℕ) → length items ≡ 31 → i < 31 → registers_fields (take i items) ++ left ≡ bytes → length left < 8
    → length bytes < 248
too-few bytes items left i many below read few =
    let long : length (registers_fields (take i items) ++ left) ≡ length bytes = ap (λ (xs : List ℕ). length xs) read in
    omega (arith, long, few, length-append (registers_fields (take i items)) left, length-registers (take i items), length-take i items)

pub returns-in_err-number-clause-none : goal.returns-in_err-number-clause-none
returns-in_err-number-clause-none c =
    rw c.from_residual.ensures
    (too-few c.args.bytes.now c.loop-register.register-items c.loop-register.left.now c.loop-register.register-index
    c.loop-register.invariant.many (omega arith) c.loop-register.invariant.read c.in_err-number.ensures.none)

pub returns-clause-some : goal.returns-clause-some
returns-clause-some c =
    let items = c.loop-register.register-items in
    let whole : take c.loop-register.register-index items ≡ items = take_all c.loop-register.register-index items (omega arith) in
    record {
      fits = record {
        many = c.loop-register.invariant.many;
        fits = λ k d below. c.loop-register.invariant.fits k d (omega arith);
      };
      is_bytes = sym c.loop-register.invariant.read ∙ ap (λ xs. registers_fields xs ++ c.loop-register.left.now) whole;
    }
