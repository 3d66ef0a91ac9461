use Rattle.std.proofs.Common.{◌≡◌, ◌↔◌, ◌++◌, ◌-◌, Err, IsNone, List, OnErr, OnOk, ℕ, ap, drop, length, take}
use Rattle.std.proofs.lemmas.Result.{IfErr-at_err, on_err_weaker}
use Rattle.arn_base.specs.Window.{bytes_at, with_bytes}
use Rattle.arn_base.specs.declared.errors.StoreError.TheVariants.{BadAddress, NoMemory}
use Rattle.guest_mem.specs.Pages.{AreOwn, Gains, Lacks, Paged, contents, joined}
use Rattle.parts_model.specs.Memory.{private_window}
use Rattle.parts_model.specs.declared.limits.TheConstants.{WINDOW_LEN, WINDOW_START}
use Rattle.guest_mem.proofs.Pieces.{length-pages}
use Rattle.guest_mem.proofs.Shown.{kept-pages, lifted, shown, shown-same}
use Rattle.guest_mem.proofs.space.Space.write_from.Goals as goal

lift : (c : goal.After-self-1) (P : Paged → Paged → Type 0) → P (shown c.as_mut_slice.result.now) (shown c.write_from.new.pages) → P c.args.self.now (shown (take c.self.inside.pages.len (c.write_from.new.pages ++ drop (length c.write_from.new.pages) c.self.inside.pages.items)))
lift c P =
    lifted P c.as_mut_slice.result.now c.self.inside.pages.items c.write_from.new.pages c.self.inside.pages.len c.args.self.now
    c.as_mut_slice.ensures.value c.self.view_is c.write_from.auto.pages c.as_mut_slice.ensures.len

pub returns-clause-ok : goal.returns-clause-ok
returns-clause-ok c =
    lift c (λ (before after : Paged). OnOk c.write_from.result (private_window after.bytes ≡ with_bytes (private_window before.bytes) c.args.at c.args.bytes.now))
    c.write_from.ensures.ok

pub returns-clause-bad_address : goal.returns-clause-bad_address
returns-clause-bad_address c =
    lift c (λ (before after : Paged). (c.write_from.result ≡ Err BadAddress) ↔ IsNone (bytes_at (private_window before.bytes) c.args.at (length c.args.bytes.now)))
    c.write_from.ensures.bad_address

pub returns-clause-err : goal.returns-clause-err
returns-clause-err c =
    lift c (λ (before after : Paged). OnErr c.write_from.result (after.bytes ≡ before.bytes))
    (on_err_weaker c.write_from.result (λ (same : contents c.write_from.new.pages ≡ contents c.as_mut_slice.result.now). ap (λ (l : List (List ℕ)). joined l) same) c.write_from.ensures.err)

pub returns-clause-refused : goal.returns-clause-refused
returns-clause-refused c =
    lift c (λ (before after : Paged). c.write_from.result ≡ Err BadAddress → after ≡ before)
    (λ bad. shown-same c.write_from.new.pages c.as_mut_slice.result.now (IfErr-at_err (λ _. contents c.write_from.new.pages ≡ contents c.as_mut_slice.result.now) bad c.write_from.ensures.err) (c.write_from.ensures.refused bad))

pub returns-clause-lacks : goal.returns-clause-lacks
returns-clause-lacks c =
    lift c (λ (before after : Paged). c.write_from.result ≡ Err NoMemory → Lacks (c.args.at - WINDOW_START) (length c.args.bytes.now) before.own)
    c.write_from.ensures.lacks

pub returns-clause-gains : goal.returns-clause-gains
returns-clause-gains c =
    lift c (λ (before after : Paged). Gains (c.args.at - WINDOW_START) (length c.args.bytes.now) before.own after.own)
    c.write_from.ensures.gains

pub returns-clause-own : goal.returns-clause-own
returns-clause-own c =
    lift c (λ (before after : Paged). OnOk c.write_from.result (AreOwn (c.args.at - WINDOW_START) (length c.args.bytes.now) after.own))
    c.write_from.ensures.own

pub returns-clause-length : goal.returns-clause-length
returns-clause-length c =
    lift c (λ (before after : Paged). length after.bytes ≡ WINDOW_LEN)
    (length-pages (contents c.write_from.new.pages) c.write_from.ensures.pages)

pub invariant_of-self : goal.invariant_of-self
invariant_of-self c =
    kept-pages c.as_mut_slice.result.now c.self.inside.pages.items c.write_from.new.pages c.self.inside.pages.len c.write_from.auto.pages c.as_mut_slice.ensures.len
    c.write_from.ensures.pages
