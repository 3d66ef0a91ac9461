-- What bodies hold after an act is what holders say.
use Rattle.std.proofs.Common.{◌≡◌, ℕ, List, Option, Some, None, IfSome, refl, ap, arith}
use Rattle.std.proofs.lemmas.Bool.Decides.{nat_tests}
use Rattle.std.proofs.lemmas.Bool.{eqb-true}
use Rattle.arn_base.specs.declared.machine.Cpu.{Cpu}
use Rattle.arn_base.specs.Window.{Window}
use Rattle.acts_model.specs.Acts.{Act, Starts, Shares, acted, done_by, restored}
use Rattle.acts_model.specs.Bodies.{Bodies, View, put, remove}
use Rattle.acts_model.specs.Transfers.{Holds, holds_of, transfer}
use Rattle.acts_model.specs.Views.{with_reach, after_instr, with_cpu}
use Rattle.taint_state.specs.Steps.{Holders, fresh_holds, holders_after, with_holder}
use Rattle.taint_laws.specs.Follows.{holders_in}
use Rattle.taint_laws.proofs.Places.{put-body, remove-body}

pub put-holders : (pid : ℕ) (w : View) (b : Bodies) (p : ℕ) → holders_in (put pid w b) p ≡ with_holder pid (Some (holds_of w.body)) (holders_in b) p
put-holders pid w b p = grind (arith, nat_tests, put-body)

remove-holders : (pid : ℕ) (b : Bodies) (p : ℕ) → holders_in (remove pid b) p ≡ with_holder pid None (holders_in b) p
remove-holders pid b p = grind (arith, nat_tests, remove-body)

stays : (h : Holders) (pid p : ℕ) (holds : Holds) → h pid ≡ Some holds → with_holder pid (Some holds) h p ≡ h p
stays h pid p holds h1 = grind (arith, nat_tests, eqb-true)

-- a process that holds what it held
pub kept-holders : (pid : ℕ) (v w : View) (b : Bodies) (p : ℕ) → holders_in b pid ≡ Some (holds_of v.body) → holds_of w.body ≡ holds_of v.body → holders_in (put pid w b) p ≡ holders_in b p
kept-holders pid v w b p h1 h2 = grind (arith, nat_tests, put-holders, stays)

pub reach-body : (ws : List Window) (v : View) → (with_reach ws v).body ≡ v.body
reach-body ws v = grind (arith, nat_tests)

pub instr-holds : (cpu : Cpu) (memory : List Window) (v : View) → holds_of (after_instr cpu memory v).body ≡ holds_of v.body
instr-holds cpu memory v = ap holds_of (reach-body memory (with_cpu cpu v))

restored-holds : (o : Option Cpu) (v : View) → holds_of (restored o v).body ≡ holds_of v.body
restored-holds None v = refl
restored-holds (Some cpu) v = refl

-- what a process holds after its own act
abbrev pub act_holds : ℕ → Act → Holds → Holds
act_holds event (Starts file block block_len) h = fresh_holds event
act_holds event Shares h = record { window = h.window; segment = Some event }
act_holds event act h = h

pub acted-holds : (event : ℕ) (act : Act) (v : View) → IfSome (acted event act v) (λ (w : View). holds_of w.body ≡ act_holds event act (holds_of v.body))
acted-holds event act v = grind (arith, nat_tests, reach-body, restored-holds)

pub done-holders : (pid event : ℕ) (act : Act) (v : View) (b : Bodies) (p : ℕ) → holders_in b pid ≡ Some (holds_of v.body)
    → holders_in (done_by pid event act (Some v) b) p ≡ holders_after (transfer pid event (holds_of v.body) act) (holders_in b) p
done-holders pid event act v b p h1 = grind (arith, nat_tests, kept-holders, put-holders, reach-body, remove-holders, restored-holds)
