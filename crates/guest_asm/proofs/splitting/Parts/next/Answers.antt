use Rattle.std.proofs.Common.{Option, List, ℕ, Bor, ap, sym, ◌∙◌}
use Rattle.guest_asm.proofs.Parting.{parts_at, parts_alone}
use Rattle.guest_asm.specs.Parted.{left_of}
use Rattle.guest_asm.proofs.splitting.Parts.next.Goals as goal

pub returns-in-Some-clause-some : goal.returns-in-Some-clause-some
returns-in-Some-clause-some c =
    ap (λ (rest : Option (Bor (List ℕ))). left_of rest c.args.self.now.separator) c.in_ok-text.was
    ∙ parts_at c.args.self.now.separator c.in_ok-text.text.now c.in-Some.at (sym c.in-Some.ensures)

pub returns-in-None-clause-some : goal.returns-in-None-clause-some
returns-in-None-clause-some c =
    ap (λ (rest : Option (Bor (List ℕ))). left_of rest c.args.self.now.separator) c.in_ok-text.was
    ∙ parts_alone c.args.self.now.separator c.in_ok-text.text.now (sym c.in-None.ensures)
