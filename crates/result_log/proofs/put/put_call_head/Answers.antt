use Rattle.std.proofs.Common.{◌≡◌, ℕ, List, ◌++◌, ap, ◌∙◌, append_assoc}
use Rattle.std.proofs.lemmas.Result.{on_ok_weaker}
use Rattle.schedule_log.specs.Fields.{field}
use Rattle.result_log.proofs.Options.{OnErr-always}
use Rattle.result_log.proofs.put.put_call_head.Goals as goal

-- the kind and the process, and with them the call's number
two-put : (old after : List ℕ) (pid : ℕ) → after ≡ old ++ field 1 7 ++ field 4 pid → after ≡ old ++ (field 1 7 ++ field 4 pid)
two-put old after pid e = e ∙ append_assoc old (field 1 7) (field 4 pid)

three-put : (old mid after : List ℕ) (pid number : ℕ) → mid ≡ old ++ field 1 7 ++ field 4 pid → after ≡ mid ++ field 8 number
    → after ≡ old ++ (field 1 7 ++ field 4 pid ++ field 8 number)
three-put old mid after pid number e f =
    f ∙ ap (λ xs. xs ++ field 8 number) (two-put old mid pid e) ∙ append_assoc old (field 1 7 ++ field 4 pid) (field 8 number)

pub returns-in_err-put_u64-clause-err : goal.returns-in_err-put_u64-clause-err
returns-in_err-put_u64-clause-err c =
    OnErr-always c.from_residual-in_err-put_u64.result (record {
      more = field 1 7 ++ field 4 c.args.pid;
      is_bytes = c.in_err-put_u64.ensures.err ∙ two-put c.args.out.now.items c.put_kind.new.out.items c.args.pid c.in_ok-put_kind.ensures.ok;
    })

pub returns-clause-ok : goal.returns-clause-ok
returns-clause-ok c =
    let a = c.args in
    let old = a.out.now.items in
    let before = three-put old c.put_kind.new.out.items c.put_u64.new.out.items a.pid a.number c.in_ok-put_kind.ensures.ok c.in_ok-put_u64.ensures.ok in
    on_ok_weaker c.put_u64-2.result
    (λ (e : c.put_u64-2.new.out.items ≡ c.put_u64.new.out.items ++ field 8 a.answer).
    e ∙ ap (λ xs. xs ++ field 8 a.answer) before ∙ append_assoc old (field 1 7 ++ field 4 a.pid ++ field 8 a.number) (field 8 a.answer))
    c.put_u64-2.ensures.ok
