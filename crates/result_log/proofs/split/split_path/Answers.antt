use Rattle.std.proofs.Common.{rules, ◌≡◌, ℕ, ◌<◌, List, ◌++◌, length, drop, sym, ap, ◌∙◌, arith}
use Rattle.schedule_log.specs.Fields.{field, named, BeginsNamed}
use Rattle.result_log.specs.Pieces.{BeginsPath}
use Rattle.result_log.proofs.split.split_path.Goals as goal

too-few : (bytes path rest : List ℕ) (file : ℕ) → length bytes < 4 → ¬ BeginsPath bytes file path rest
too-few bytes path rest file few b =
    let long : length bytes ≡ length ((field 4 file ++ named path) ++ rest) = ap (λ (xs : List ℕ). length xs) b.is_bytes in
    omega arith

behind-number : (bytes behind path rest : List ℕ) (file other : ℕ) → bytes ≡ field 4 file ++ behind
    → BeginsPath bytes other path rest → BeginsNamed behind path rest
behind-number bytes behind path rest file other e b =
    record { is_name = b.is_name; is_bytes = ap (drop 4) (sym e ∙ b.is_bytes) }

pub returns-in_err-file-clause-none : goal.returns-in_err-file-clause-none
returns-in_err-file-clause-none c =
    rw c.from_residual.ensures (λ file path rest. too-few c.args.bytes.now path rest file c.in_err-file.ensures.none)

pub returns-in_err-path-clause-none : goal.returns-in_err-path-clause-none
returns-in_err-path-clause-none c =
    rw c.from_residual-in_err-path.ensures
    (λ file path rest b. c.in_err-path.ensures.none path rest (behind-number c.args.bytes.now c.in_ok-file.behind.now path rest c.in_ok-file.file file c.in_ok-file.ensures.some b))

pub returns-clause-some : goal.returns-clause-some
returns-clause-some c = record {
  fits = search rules;
  is_name = c.in_ok-path.ensures.some.is_name;
  is_bytes = c.in_ok-file.ensures.some ∙ ap (λ xs. field 4 c.in_ok-file.file ++ xs) c.in_ok-path.ensures.some.is_bytes;
}
