-- How many instructions ran, and what came behind them.
use Rattle.std.proofs.Common.{◌≡◌, ℕ, zero, suc, ◌<◌, List, refl, sym, subst, ◌∙◌, arith}
use Rattle.std.proofs.lemmas.Bool.Decides.{nat_tests}
use Rattle.arn_base.specs.Window.{Window}
use Rattle.arn_base.specs.declared.machine.Cpu.{Cpu}
use Rattle.rv64_model.specs.Instruction.{Effect, instruction}
use Rattle.rv64_core.specs.Outcome.{LeadsTo, Tells, OnStop}
use Rattle.rv64_core.specs.declared.outcome.Outcome.{Outcome}
use Rattle.rv64_core.specs.declared.outcome.Outcome.TheVariants as outcome
use Rattle.guest_bodies.specs.Running.{LeadsMany, StopsAt, stop_count}

pub OnStop-map : {P Q : Type 0} (o : Outcome) → (P → Q) → OnStop o P → OnStop o Q
OnStop-map o h1 h2 = grind (arith, nat_tests)

pub OnStop-both : {P Q R : Type 0} (o : Outcome) → (P → Q → R) → OnStop o P → OnStop o Q → OnStop o R
OnStop-both o h1 h2 h3 = grind (arith, nat_tests)

-- what holds on a stop holds of each outcome but one
pub on-stop : {P : Type 0} (o : Outcome) → (o ≡ outcome.Next → ⊥) → OnStop o P → P
on-stop outcome.Next other p = absurd (other refl)
on-stop outcome.Call other p = p
on-stop (outcome.End status) other p = p
on-stop outcome.NoMemory other p = p

pub one-stop : (o : Outcome) → (o ≡ outcome.Next → ⊥) → stop_count o ≡ 1
one-stop outcome.Next other = absurd (other refl)
one-stop outcome.Call other = refl
one-stop (outcome.End status) other = refl
one-stop outcome.NoMemory other = refl

pub stop-at : (o : Outcome) (ran count : ℕ) (e : Effect) (cpu : Cpu) (ws : List Window) → (o ≡ outcome.Next → ⊥) → Tells o e cpu ws → ran < count → StopsAt o ran count e
stop-at outcome.Next ran count e cpu ws other tells less = absurd (other refl)
stop-at outcome.Call ran count e cpu ws other tells less = (less, tells)
stop-at (outcome.End status) ran count e cpu ws other tells less = (less, tells)
stop-at outcome.NoMemory ran count e cpu ws other tells less = (less, tells)

-- so many instructions lead to the same registers and to a memory with the same bytes
pub leads-same : {M : Type 0} (windows : M → List Window) (n : ℕ) (first cpu cpu' : Cpu) (start memory memory' : M) → LeadsMany windows n first start cpu memory → cpu' ≡ cpu → windows memory' ≡ windows memory → LeadsMany windows n first start cpu' memory'
leads-same windows zero first cpu cpu' start memory memory' leads same bytes = (same ∙ leads.0, bytes ∙ leads.1)
leads-same windows (suc n) first cpu cpu' start memory memory' leads same bytes =
    let effect = instruction leads.cpu_between (windows leads.memory_between) in
    record {
      cpu_between = leads.cpu_between;
      memory_between = leads.memory_between;
      before = leads.before;
      leads = subst (λ (c : Cpu). LeadsTo effect c (windows memory')) (sym same) (subst (LeadsTo effect cpu) (sym bytes) leads.leads);
    }
