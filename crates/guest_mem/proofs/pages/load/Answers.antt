use Rattle.std.proofs.Common.{◌≡◌, ◌+◌, List, Option, Some, ℕ, ap, arith, option_map, sym, ◌∙◌}
use Rattle.arn_base.specs.Window.{number_of}
use Rattle.guest_mem.specs.Pages.{contents, joined}
use Rattle.parts_model.specs.declared.limits.TheConstants.{WINDOW_START}
use Rattle.guest_mem.proofs.Pieces.{length-pages}
use Rattle.guest_mem.proofs.Windows.{missed, reached}
use Rattle.guest_mem.proofs.pages.load.Goals as goal

pub returns-in-Some-clause-number : goal.returns-in-Some-clause-number
returns-in-Some-clause-number c =
    let long = length-pages (contents c.args.pages.now) c.requires.pages in
    let whole = c.in-Some.ensures.whole in
    let lies : c.args.at ≡ WINDOW_START + c.offset-place.result = c.offset-place.ensures.near (omega arith) in
    ap (λ (n : ℕ). Some n) c.in-Some.ensures.number
    ∙ ap (λ (o : Option (List ℕ)). option_map number_of o) (sym (reached (joined (contents c.args.pages.now)) c.args.at c.args.len c.offset-place.result lies (omega arith)))

pub returns-then-place-ge-WINDOW_LEN-clause-number : goal.returns-then-place-ge-WINDOW_LEN-clause-number
returns-then-place-ge-WINDOW_LEN-clause-number c =
    let long = length-pages (contents c.args.pages.now) c.requires.pages in
    ap (λ (o : Option (List ℕ)). option_map number_of o) (sym (missed (joined (contents c.args.pages.now)) c.args.at c.args.len c.offset-place.result c.offset-place.ensures.behind (omega arith) c.requires.length))
