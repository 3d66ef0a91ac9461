use Rattle.std.proofs.Common.{◌+◌, ◌%◌, ◌≤◌, List, ℕ, ap, arith, drop, length, sym, take, ◌∙◌}
use Rattle.std.proofs.lemmas.Bool.{ltb-true}
use Rattle.arn_base.specs.Window.{number_of}
use Rattle.guest_mem.specs.declared.page.TheConstants.{PAGE_LEN}
use Rattle.guest_mem.proofs.Near.{near-long, near-take, near-within}
use Rattle.guest_mem.proofs.pages.load_near.Goals as goal

pub load-requires-clause-whole : goal.load-requires-clause-whole
load-requires-clause-whole c =
    let within = near-within c.args.pages.now c.requires.pages c.args.place (ltb-true _ _ (sym c.in-Some.ensures.lookup.0)) in
    let long = near-long c.args.pages.now c.requires.pages c.args.place within c.in-Some.page.now c.in-Some.page.now c.in-Some.ensures.lookup.1 in
    let same = ap (λ (l : List ℕ). length l) c.bytes.ensures in
    omega arith

pub returns-in-Some-clause-number : goal.returns-in-Some-clause-number
returns-in-Some-clause-number c =
    let within = near-within c.args.pages.now c.requires.pages c.args.place (ltb-true _ _ (sym c.in-Some.ensures.lookup.0)) in
    let short : c.args.place % PAGE_LEN + c.args.len ≤ PAGE_LEN = omega arith in
    c.load.ensures.number
    ∙ ap (λ (l : List ℕ). number_of (take c.args.len (drop (c.args.place % PAGE_LEN) l))) c.bytes.ensures
    ∙ ap (λ (l : List ℕ). number_of l) (near-take c.args.pages.now c.requires.pages c.args.place within c.in-Some.page.now c.in-Some.page.now c.in-Some.ensures.lookup.1 c.args.len short)
