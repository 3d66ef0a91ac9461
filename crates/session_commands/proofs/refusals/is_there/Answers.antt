-- A number of more bits is no device's.
use Rattle.std.proofs.Common.{◌^◌, Bool, ◌&&◌, ◌∙◌, ap, sym, arith}
use Rattle.std.proofs.lemmas.Bool.{le-ltb, lt-ltb}
use Rattle.session_commands.proofs.refusals.is_there.Goals as goal

pub returns-then-device : goal.returns-then-device
returns-then-device g c = ap (λ (b : Bool). b && g.A.Plugs.filled c.args.answers.now c.args.device) (sym (le-ltb c.args.device (2 ^ 32) (omega arith)))

pub returns : goal.returns
returns g c = c.is_filled.ensures ∙ ap (λ (b : Bool). b && g.A.Plugs.filled c.args.answers.now c.args.device) (sym (lt-ltb c.args.device (2 ^ 32) (omega arith)))
