use Rattle.std.proofs.Common.{◌≡◌, ◌↔◌, ◌++◌, ◌-◌, IsErr, IsNone, OnErr, OnOk, drop, length, take}
use Rattle.arn_base.specs.Window.{bytes_at, with_bytes}
use Rattle.guest_mem.specs.Pages.{AreOwn, Gains, Paged, contents}
use Rattle.parts_model.specs.Memory.{private_window}
use Rattle.parts_model.specs.declared.limits.TheConstants.{WINDOW_LEN, WINDOW_START}
use Rattle.guest_mem.proofs.Pieces.{length-pages}
use Rattle.guest_mem.proofs.Shown.{kept-pages, lifted, shown, shown-err}
use Rattle.guest_mem.proofs.space.Space.write_with.Goals as goal

lift : (c : goal.After-self-1) (P : Paged → Paged → Type 0) → P (shown c.as_mut_slice.result.now) (shown c.write_with.new.pages) → P c.args.self.now (shown (take c.self.inside.pages.len (c.write_with.new.pages ++ drop (length c.write_with.new.pages) c.self.inside.pages.items)))
lift c P =
    lifted P c.as_mut_slice.result.now c.self.inside.pages.items c.write_with.new.pages c.self.inside.pages.len c.args.self.now
    c.as_mut_slice.ensures.value c.self.view_is c.write_with.auto.pages c.as_mut_slice.ensures.len

pub returns-clause-ok : goal.returns-clause-ok
returns-clause-ok c =
    lift c (λ (before after : Paged). OnOk c.write_with.result (private_window after.bytes ≡ with_bytes (private_window before.bytes) c.args.at c.args.bytes.now))
    c.write_with.ensures.ok

pub returns-clause-bad_address : goal.returns-clause-bad_address
returns-clause-bad_address c =
    lift c (λ (before after : Paged). IsErr c.write_with.result ↔ IsNone (bytes_at (private_window before.bytes) c.args.at (length c.args.bytes.now)))
    c.write_with.ensures.bad_address

pub returns-clause-err : goal.returns-clause-err
returns-clause-err c =
    lift c (λ (before after : Paged). OnErr c.write_with.result (after ≡ before))
    (shown-err c.write_with.result c.write_with.new.pages c.as_mut_slice.result.now c.write_with.ensures.err c.write_with.ensures.refused)

pub returns-clause-gains : goal.returns-clause-gains
returns-clause-gains c =
    lift c (λ (before after : Paged). Gains (c.args.at - WINDOW_START) (length c.args.bytes.now) before.own after.own)
    c.write_with.ensures.gains

pub returns-clause-own : goal.returns-clause-own
returns-clause-own c =
    lift c (λ (before after : Paged). OnOk c.write_with.result (AreOwn (c.args.at - WINDOW_START) (length c.args.bytes.now) after.own))
    c.write_with.ensures.own

pub returns-clause-length : goal.returns-clause-length
returns-clause-length c =
    lift c (λ (before after : Paged). length after.bytes ≡ WINDOW_LEN)
    (length-pages (contents c.write_with.new.pages) c.write_with.ensures.pages)

pub invariant_of-self : goal.invariant_of-self
invariant_of-self c =
    kept-pages c.as_mut_slice.result.now c.self.inside.pages.items c.write_with.new.pages c.self.inside.pages.len c.write_with.auto.pages c.as_mut_slice.ensures.len
    c.write_with.ensures.pages
