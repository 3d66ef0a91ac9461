-- Instructions of which an observer is told, where what comes behind them changes nothing.
use Rattle.std.proofs.Common.{◌≡◌, ◌<◌, ◌+◌, ℕ, zero, suc, List, Result, Ok, Err, OnErr, arith}
use Rattle.arn_base.specs.Window.{Window}
use Rattle.arn_base.specs.declared.machine.Cpu.{Cpu}
use Rattle.rv64_isa.specs.declared.instruction.Instr.{Instr}
use Rattle.guest_bodies.specs.Led.{LedFails, LedMany}

module _ {M A : Type 0} (windows : M → List Window) (runs : A → ℕ → Instr → Cpu → A → Type 0) (p : ℕ) (cpu cpu' cpu'' : Cpu) (memory memory' memory'' : M) (x y : A) (e : cpu'' ≡ cpu') (f : windows memory'' ≡ windows memory') where
  led-stays : (n : ℕ) → LedMany windows runs p n cpu memory x cpu' memory' y → LedMany windows runs p n cpu memory x cpu'' memory'' y
  led-stays zero h = grind (arith, h, e, f)
  led-stays (suc n) h = grind (arith, h, e, f)

  -- and one that was counted didn't run
  pub led-fails : (n count before after : ℕ) → LedMany windows runs p n cpu memory x cpu' memory' y → n < count → after ≡ before + n + 1 → LedFails windows runs p count cpu memory x cpu'' memory'' before after
  led-fails n count before after h less counted =
      record {
        ran = n;
        observer = y;
        led = led-stays n h;
        less = less;
        counted = counted;
      }

-- what holds in any case holds after an error
pub on-err : {T E P : Type 0} (r : Result T E) → P → OnErr r P
on-err (Ok x) h = tt
on-err (Err x) h = h
