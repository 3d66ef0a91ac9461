-- What comes from outside: what it does, and when it is refused.
use Rattle.std.proofs.Common.{◌≡◌, ℕ, ◌+◌, ◌∙◌, Bool, true, false, List, Result, Ok, refl, sym, arith}
use Rattle.std.proofs.lemmas.Bool.Decides.{nat_tests}
use Rattle.arn_base.specs.declared.records.Give.{Give}
use Rattle.parts_model.specs.Files.{is_name}
use Rattle.arn_model.specs.Kernel.{Machine}
use Rattle.arn_model.specs.Run.{boot_step}
use Rattle.result_log.specs.Spelling.{IsName}
use Rattle.guest_calls.specs.Starts.{BootedFrom}
use Rattle.guest_calls.specs.State.{Becomes, State}
use Rattle.guest_machine.specs.Recorded.{IsReal}

-- a change of a real state leads to one
pub becomes-real : (old new : State) (change : Machine → Machine) → IsReal old → Becomes old change new → IsReal new
becomes-real old new change real becomes = record { machine = change real.machine; stands = becomes.stands real.machine real.stands }

-- it is one event
pub becomes-next : (old new : State) (change : Machine → Machine) → IsReal old → ((m : Machine) → (change m).events ≡ m.events + 1) → Becomes old change new → new.events ≡ old.events + 1
becomes-next old new change real one becomes = omega (arith, (becomes.stands real.machine real.stands).events, one real.machine, real.stands.events)

pub boot-real : (old new : State) (name : List ℕ) (give : Give) → IsReal old → BootedFrom name give old new → IsReal new
boot-real old new name give real booted = becomes-real old new (λ m. (boot_step m name booted.file booted.held).after) real booted.becomes

pub boot-next : (old new : State) (name : List ℕ) (give : Give) → IsReal old → BootedFrom name give old new → new.events ≡ old.events + 1
boot-next old new name give real booted = becomes-next old new (λ m. (boot_step m name booted.file booted.held).after) real (λ m. refl) booted.becomes

-- a name, by what a file's name is
pub named : (path : List ℕ) → is_name path ≡ true → IsName path
named path is = (grind (arith, nat_tests), grind (arith, nat_tests))

-- a number that wasn't unplugged before is added
clash : true ≡ false → ⊥
clash is = cc

pub is-added : {E : Type 0} (r : Result Bool E) (added was : Bool) → r ≡ Ok added → (r ≡ Ok false → was ≡ true) → was ≡ false → r ≡ Ok true
is-added r true was is before not = is
is-added r false was is before not = absurd (clash (sym (before is) ∙ not))
