use Rattle.std.proofs.Common.{◌≡◌, ℕ, ◌+◌, ◌<◌, List, ◌∷◌, ◌++◌, length, ap, ◌∙◌, length-append, arith}
use Rattle.schedule_log.specs.Fields.{field}
use Rattle.result_log.proofs.split.split_call_head.Goals as goal

-- how many bytes there are where few stand behind those in front
few-behind : (bytes front behind : List ℕ) (few : ℕ) → bytes ≡ front ++ behind → length behind < few → length bytes < length front + few
few-behind bytes front behind few e less =
    let long : length bytes ≡ length (front ++ behind) = ap (λ (xs : List ℕ). length xs) e in
    omega (arith, length-append front behind)

pub returns-in_err-number-clause-none : goal.returns-in_err-number-clause-none
returns-in_err-number-clause-none c =
    let few = few-behind c.args.bytes.now (field 4 c.in_ok-pid.pid) c.in_ok-pid.behind.now 8 c.in_ok-pid.ensures.some c.in_err-number.ensures.none in
    rw c.from_residual-in_err-number.ensures (omega arith)

pub returns-in_err-result-clause-none : goal.returns-in_err-result-clause-none
returns-in_err-result-clause-none c =
    let few = few-behind c.in_ok-pid.behind.now (field 8 c.in_ok-number.number) c.in_ok-number.behind.now 8 c.in_ok-number.ensures.some c.in_err-result.ensures.none in
    let fewer = few-behind c.args.bytes.now (field 4 c.in_ok-pid.pid) c.in_ok-pid.behind.now 16 c.in_ok-pid.ensures.some few in
    rw c.from_residual-in_err-result.ensures (omega arith)

pub returns-clause-some : goal.returns-clause-some
returns-clause-some c =
    ap (λ xs. 7 ∷ xs) (c.in_ok-pid.ensures.some
    ∙ ap (λ xs. field 4 c.in_ok-pid.pid ++ xs) (c.in_ok-number.ensures.some ∙ ap (λ xs. field 8 c.in_ok-number.number ++ xs) c.in_ok-result.ensures.some))
