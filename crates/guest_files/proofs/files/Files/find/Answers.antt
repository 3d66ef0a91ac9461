use Rattle.std.proofs.Common.{ℕ, Option, IfSome, IsSome, sym, subst}
use Rattle.parts_model.specs.Files.{Files}
use Rattle.parts_model.specs.Numbered.{nth}
use Rattle.guest_files.specs.Table.{IsThere}
use Rattle.guest_files.proofs.Numbers.{file_among-there}
use Rattle.guest_files.proofs.files.Files.find.Goals as goal

pub returns-clause-there : goal.returns-clause-there
returns-clause-there c =
    let inside = c.self.inside in
    subst (λ (fs : Files). IfSome c.find.result (IsThere fs)) c.self.view_is
    (subst (λ (o : Option ℕ). IfSome o (λ file. IsSome (nth inside.all.items file))) (sym c.find.ensures) (file_among-there inside.all.items c.args.path.now inside.names c.self.invariant.named))
