-- What happens at one event takes no memory that another made.
use Rattle.std.proofs.Common.{◌≡◌, ◌≢◌, ℕ, List, Option, Some, None, IfSome, subst, sym, arith}
use Rattle.std.proofs.lemmas.Bool.Decides.{nat_tests}
use Rattle.std.proofs.lemmas.Option.{same_Some}
use Rattle.arn_base.specs.Window.{Window}
use Rattle.arn_base.specs.declared.machine.Cpu.{Cpu}
use Rattle.acts_model.specs.Acts.{Act, acted, done, joined, restored}
use Rattle.acts_model.specs.Bodies.{Body, Bodies, View, become, put, remove, seen}
use Rattle.acts_model.specs.Views.{with_cpu, with_reach}
use Rattle.guest_bodies.specs.Follows.{Shows}
use Rattle.guest_bodies.specs.Fresh.{IsUnheld, OthersStayUnheld}
use Rattle.guest_bodies.specs.Shown.{Guests, IsFresh, IsUnheldBy}
use Rattle.guest_bodies.proofs.Places.{put-body, remove-body}

put-unheld : (other p : ℕ) (v : View) (b : Bodies) → IsUnheldBy other v.body → IsUnheld other b → IsUnheld other (put p v b)
put-unheld other p v b h1 h2 = grind (arith, nat_tests, put-body)

remove-unheld : (other p : ℕ) (b : Bodies) → IsUnheld other b → IsUnheld other (remove p b)
remove-unheld other p b h1 = grind (arith, nat_tests, remove-body)

-- other bytes are in the same memories
body-reach : (ws : List Window) (v : View) → (with_reach ws v).body ≡ v.body
body-reach ws v = grind (arith, nat_tests)

reach-unheld : (other : ℕ) (ws : List Window) (v : View) → IsUnheldBy other v.body → IsUnheldBy other (with_reach ws v).body
reach-unheld other ws v held = subst (λ (x : Body). IsUnheldBy other x) (sym (body-reach ws v)) held

-- and other registers
cpu-unheld : (other : ℕ) (cpu : Cpu) (v : View) → IsUnheldBy other v.body → IsUnheldBy other (with_cpu cpu v).body
cpu-unheld other cpu v held = record { window = held.window; segment = held.segment }

restored-unheld : (other : ℕ) (o : Option Cpu) (v : View) → IsUnheldBy other v.body → IsUnheldBy other (restored o v).body
restored-unheld other None v held = held
restored-unheld other (Some cpu) v held = record { window = held.window; segment = held.segment }

acted-unheld : (event other : ℕ) (act : Act) (v : View) → other ≢ event → IsUnheldBy other v.body → IfSome (acted event act v) (λ w. IsUnheldBy other w.body)
acted-unheld event other act v h1 h2 = grind (arith, nat_tests, reach-unheld, restored-unheld, same_Some)

become-unheld : (other p : ℕ) (o : Option View) (b : Bodies) → IfSome o (λ w. IsUnheldBy other w.body) → IsUnheld other b → IsUnheld other (become p o b)
become-unheld other p None b own rest = remove-unheld other p b rest
become-unheld other p (Some v) b own rest = put-unheld other p v b own rest

joined-unheld : (event other : ℕ) (act : Act) (v : View) (b : Bodies) → other ≢ event → IsUnheldBy other v.body → IsUnheld other b → IsUnheld other (joined act event v b)
joined-unheld event other act v b h1 h2 h3 = grind (arith, nat_tests, put-unheld)

-- what a process sees tells its body
seen-unheld : (other p : ℕ) (b : Bodies) (v : View) → seen b p ≡ Some v → IsUnheld other b → IsUnheldBy other v.body
seen-unheld other p b v h1 h2 = grind (arith, nat_tests, same_Some)

done-unheld : (b : Bodies) (pid event other : ℕ) (act : Act) → other ≢ event → IsUnheld other b → IsUnheld other (done pid event act b)
done-unheld b pid event other act h1 h2 = grind (arith, nat_tests, acted-unheld, become-unheld, joined-unheld, seen-unheld)

shown-fresh : (guests : Guests) (b : Bodies) (event : ℕ) → Shows guests b → IsUnheld event b → IsFresh guests event
shown-fresh guests b event h1 h2 = grind (arith, nat_tests)

pub others_stay : OthersStayUnheld
others_stay = grind (arith, nat_tests, cpu-unheld, done-unheld, put-unheld, reach-unheld, seen-unheld, shown-fresh)
