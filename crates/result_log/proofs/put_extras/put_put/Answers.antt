use Rattle.std.proofs.Common.{◌≡◌, ℕ, List, ◌++◌, ap, ◌∙◌, append_assoc}
use Rattle.std.proofs.lemmas.Result.{on_err_weaker, on_ok_weaker}
use Rattle.schedule_log.specs.Fields.{counted, field, LeavesFront}
use Rattle.result_log.proofs.Growing.{front-more}
use Rattle.result_log.proofs.put_extras.put_put.Goals as goal

-- the tag, the file and the place
three-put : (old mid after : List ℕ) (file at : ℕ) → mid ≡ old ++ field 1 3 ++ field 4 file → after ≡ mid ++ field 4 at
    → after ≡ old ++ (field 1 3 ++ field 4 file ++ field 4 at)
three-put old mid after file at e f =
    f ∙ ap (λ xs. xs ++ field 4 at) (e ∙ append_assoc old (field 1 3) (field 4 file)) ∙ append_assoc old (field 1 3 ++ field 4 file) (field 4 at)

pub returns-clause-ok : goal.returns-clause-ok
returns-clause-ok c =
    let a = c.args in
    let old = a.out.now.items in
    let before = three-put old c.put_kind.new.out.items c.put_u32.new.out.items a.file a.at c.in_ok-put_kind.ensures.ok c.in_ok-put_u32.ensures.ok in
    on_ok_weaker c.put_bytes.result
    (λ (e : c.put_bytes.new.out.items ≡ c.put_u32.new.out.items ++ counted a.bytes.now).
    e ∙ ap (λ xs. xs ++ counted a.bytes.now) before ∙ append_assoc old (field 1 3 ++ field 4 a.file ++ field 4 a.at) (counted a.bytes.now))
    c.put_bytes.ensures.ok

pub returns-clause-err : goal.returns-clause-err
returns-clause-err c =
    let a = c.args in
    let old = a.out.now.items in
    let before = three-put old c.put_kind.new.out.items c.put_u32.new.out.items a.file a.at c.in_ok-put_kind.ensures.ok c.in_ok-put_u32.ensures.ok in
    on_err_weaker c.put_bytes.result
    (λ (left : LeavesFront c.put_u32.new.out.items c.put_bytes.new.out.items).
    front-more old c.put_u32.new.out.items c.put_bytes.new.out.items (field 1 3 ++ field 4 a.file ++ field 4 a.at) before left)
    c.put_bytes.ensures.err
