-- What the calls on signals and segments tell.
use Rattle.std.proofs.Common.{ℕ, arith}
use Rattle.std.proofs.lemmas.Bool.Decides.{nat_tests}
use Rattle.parts_model.specs.declared.calls.TheConstants.{KILL, SIGACTION, SIGRETURN, SHM}
use Rattle.acts_model.specs.Bodies.{View}
use Rattle.arn_model.specs.Kernel.{Machine}
use Rattle.arn_model.specs.SignalCalls.{kill_row, sigaction_row, sigreturn_row, shm_row}
use Rattle.arn_model.proofs.Quiet.{quiet-refl}
use Rattle.arn_model.proofs.Closing.{quiet-with_handling}
use Rattle.arn_model.proofs.Effects.{quiet-tells}
use Rattle.arn_model.proofs.Calling.{At, RequestTells, done-call, done-plain, unless-refused}

pub kill-tells : (m : Machine) (pid : ℕ) (v : View) → At m pid v KILL → RequestTells m pid v KILL (kill_row m pid v)
kill-tells m pid v h1 = grind (arith, nat_tests, done-plain, quiet-with_handling, unless-refused)

pub sigaction-tells : (m : Machine) (pid : ℕ) (v : View) → At m pid v SIGACTION → RequestTells m pid v SIGACTION (sigaction_row m pid v)
sigaction-tells m pid v h1 = grind (arith, nat_tests, done-plain, quiet-with_handling, unless-refused)

pub sigreturn-tells : (m : Machine) (pid : ℕ) (v : View) → At m pid v SIGRETURN → RequestTells m pid v SIGRETURN (sigreturn_row m pid v)
sigreturn-tells m pid v h1 = grind (arith, nat_tests, done-call, quiet-refl, quiet-tells, unless-refused)

pub shm-tells : (m : Machine) (pid : ℕ) (v : View) → At m pid v SHM → RequestTells m pid v SHM (shm_row m pid v)
shm-tells m pid v h1 = grind (arith, nat_tests, done-call, quiet-refl, quiet-tells, unless-refused)
