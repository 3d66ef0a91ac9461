use Rattle.std.proofs.Common.{◌≡◌, ap, ℕ, length, arith}
use Rattle.std.specs.Prelude.{nat_le}
use Rattle.guest_procs.proofs.Ends.{count-present}
use Rattle.guest_procs.proofs.lists.Lists.is_full.Goals as goal

pub returns : goal.returns
returns c =
    let listed : c.len.result ≡ length c.args.self.now.present.items = omega (arith, c.args.self.now.present.ok.0) in
    ap (λ (n : ℕ). nat_le 64 n) (count-present c.args.self.now.table c.args.self.now.present.items c.args.self.now.live.items c.len.result c.requires listed)
