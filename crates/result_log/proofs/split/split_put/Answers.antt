use Rattle.std.proofs.Common.{rules, ◌≡◌, ℕ, ◌<◌, List, ◌++◌, length, drop, sym, ap, ◌∙◌, arith}
use Rattle.schedule_log.specs.Fields.{counted, field, BeginsCounted}
use Rattle.result_log.specs.Pieces.{BeginsPut}
use Rattle.result_log.proofs.split.split_put.Goals as goal

too-few : (bytes found rest : List ℕ) (file at : ℕ) → length bytes < 8 → ¬ BeginsPut bytes file at found rest
too-few bytes found rest file at few b =
    let long : length bytes ≡ length ((field 4 file ++ field 4 at ++ counted found) ++ rest) = ap (λ (xs : List ℕ). length xs) b.is_bytes in
    omega arith

-- a number, and fewer bytes than another takes
one-number : (bytes behind : List ℕ) (file : ℕ) → bytes ≡ field 4 file ++ behind → length behind < 4 → length bytes < 8
one-number bytes behind file e few =
    let long : length bytes ≡ length (field 4 file ++ behind) = ap (λ (xs : List ℕ). length xs) e in
    omega arith

behind-numbers : (bytes behind last found rest : List ℕ) (file at other place : ℕ) → bytes ≡ field 4 file ++ behind
    → behind ≡ field 4 at ++ last → BeginsPut bytes other place found rest → BeginsCounted last found rest
behind-numbers bytes behind last found rest file at other place e f b =
    record { is_counted = b.is_counted; is_bytes = ap (drop 4) (sym f ∙ ap (drop 4) (sym e ∙ b.is_bytes)) }

pub returns-in_err-file-clause-none : goal.returns-in_err-file-clause-none
returns-in_err-file-clause-none c =
    let few = c.in_err-file.ensures.none in
    rw c.from_residual.ensures (λ file at found rest. too-few c.args.bytes.now found rest file at (omega arith))

pub returns-in_err-at-clause-none : goal.returns-in_err-at-clause-none
returns-in_err-at-clause-none c =
    rw c.from_residual-in_err-at.ensures
    (λ file at found rest. too-few c.args.bytes.now found rest file at (one-number c.args.bytes.now c.in_ok-file.behind.now c.in_ok-file.file c.in_ok-file.ensures.some c.in_err-at.ensures.none))

pub returns-in_err-written-clause-none : goal.returns-in_err-written-clause-none
returns-in_err-written-clause-none c =
    rw c.from_residual-in_err-written.ensures
    (λ file at found rest b. c.in_err-written.ensures.none found rest
    (behind-numbers c.args.bytes.now c.in_ok-file.behind.now c.in_ok-at.behind.now found rest c.in_ok-file.file c.in_ok-at.at file at c.in_ok-file.ensures.some c.in_ok-at.ensures.some b))

pub returns-clause-some : goal.returns-clause-some
returns-clause-some c = record {
  fits = search rules;
  is_counted = c.in_ok-written.ensures.some.is_counted;
  is_bytes = c.in_ok-file.ensures.some
      ∙ ap (λ xs. field 4 c.in_ok-file.file ++ xs) (c.in_ok-at.ensures.some ∙ ap (λ xs. field 4 c.in_ok-at.at ++ xs) c.in_ok-written.ensures.some.is_bytes);
}
