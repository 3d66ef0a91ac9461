-- What holds where a machine refuses what comes from outside.
use Rattle.std.proofs.Common.{◌≡◌, ◌≢◌, ◌⊎◌, ◌↔◌, inl, inr, Bool, true, false, Result, Ok, Err, sym, subst, ◌∙◌}
use Rattle.std.specs.Prelude.{IfErr, IsTrue}
use Rattle.guest_calls.specs.declared.outcomes.BootError.{BootError}
use Rattle.guest_calls.specs.declared.outcomes.BootError.TheVariants as boot
use Rattle.guest_machine.specs.Refusals.{as_machine_error}
use Rattle.guest_machine.specs.declared.errors.MachineError.{MachineError}
use Rattle.guest_machine.specs.declared.errors.MachineError.TheVariants as machine_error

pub not-both : (b : Bool) → b ≡ true → b ≡ false → ⊥
not-both b holds fails = clash (sym holds ∙ fails)
  where
    clash : true ≡ false → ⊥
    clash is = cc

-- why a boot was refused
module _ {T : Type 0} (r : Result T MachineError) (error : BootError) (told : r ≡ Err (as_machine_error error)) where
  pub boot-not-booted : (b : Bool) → b ≡ false → (r ≡ Err machine_error.Booted) ↔ IsTrue b
  boot-not-booted b not_yet = (λ is. absurd (never error r told is), λ holds. absurd (not-both b holds not_yet))
    where
      never : (e : BootError) (s : Result T MachineError) → s ≡ Err (as_machine_error e) → s ≡ Err machine_error.Booted → ⊥
      never boot.NoName s is same = cc
      never boot.NotImage s is same = cc
      never boot.NoMemory s is same = cc

  pub boot-no-name : r ≡ Err machine_error.NoName → error ≡ boot.NoName
  boot-no-name is = by error r told is
    where
      by : (e : BootError) (s : Result T MachineError) → s ≡ Err (as_machine_error e) → s ≡ Err machine_error.NoName → e ≡ boot.NoName
      by boot.NoName s was same = cc
      by boot.NotImage s was same = cc
      by boot.NoMemory s was same = cc

  pub boot-not-image : r ≡ Err machine_error.NotImage → error ≡ boot.NotImage
  boot-not-image is = by error r told is
    where
      by : (e : BootError) (s : Result T MachineError) → s ≡ Err (as_machine_error e) → s ≡ Err machine_error.NotImage → e ≡ boot.NotImage
      by boot.NoName s was same = cc
      by boot.NotImage s was same = cc
      by boot.NoMemory s was same = cc

  pub boot-only : IfErr r (λ e. (e ≢ machine_error.NotBooted) × (e ≢ machine_error.NoDevice))
  boot-only = subst (λ (s : Result T MachineError). IfErr s (λ e. (e ≢ machine_error.NotBooted) × (e ≢ machine_error.NoDevice))) (sym told) (only error)
    where
      only : (e : BootError) → (as_machine_error e ≢ machine_error.NotBooted) × (as_machine_error e ≢ machine_error.NoDevice)
      only boot.NoName = (λ is. cc, λ is. cc)
      only boot.NotImage = (λ is. cc, λ is. cc)
      only boot.NoMemory = (λ is. cc, λ is. cc)

-- for want of memory
module _ {T : Type 0} (r : Result T MachineError) (e : MachineError) (is_error : r ≡ Err e) (no_memory : e ≡ machine_error.NoMemory) where
  pub memory-not : (x : MachineError) → x ≢ machine_error.NoMemory → r ≡ Err x → ⊥
  memory-not x other is = other (same r e x is_error no_memory is)
    where
      same : (s : Result T MachineError) (e x : MachineError) → s ≡ Err e → e ≡ machine_error.NoMemory → s ≡ Err x → x ≡ machine_error.NoMemory
      same s e x was lost is = cc

  pub memory-not-booted : (b : Bool) → b ≡ true → (r ≡ Err machine_error.NotBooted) ↔ (b ≡ false)
  memory-not-booted b holds = (λ is. absurd (memory-not machine_error.NotBooted (λ same. cc) is), λ fails. absurd (not-both b holds fails))

  pub memory-only : IfErr r (λ x. (x ≡ machine_error.NotBooted) ⊎ (x ≡ machine_error.NoMemory))
  memory-only = subst (λ (s : Result T MachineError). IfErr s (λ x. (x ≡ machine_error.NotBooted) ⊎ (x ≡ machine_error.NoMemory))) (sym is_error) (inr no_memory)

  pub memory-unplug-only : IfErr r (λ x. (x ≡ machine_error.NotBooted) ⊎ ((x ≡ machine_error.NoDevice) ⊎ (x ≡ machine_error.NoMemory)))
  memory-unplug-only = subst (λ (s : Result T MachineError). IfErr s (λ x. (x ≡ machine_error.NotBooted) ⊎ ((x ≡ machine_error.NoDevice) ⊎ (x ≡ machine_error.NoMemory)))) (sym is_error) (inr (inr no_memory))

  pub memory-no-device : (has was : Bool) → was ≡ false → (r ≡ Err machine_error.NoDevice) ↔ (IsTrue has × IsTrue was)
  memory-no-device has was never = (λ is. absurd (memory-not machine_error.NoDevice (λ same. cc) is), λ why. absurd (not-both was why.1 never))

  pub memory-booted : (has : Bool) → has ≡ false → (r ≡ Err machine_error.Booted) ↔ IsTrue has
  memory-booted has never = (λ is. absurd (memory-not machine_error.Booted (λ same. cc) is), λ holds. absurd (not-both has holds never))

  pub memory-name : r ≡ Err machine_error.NoName → ⊥
  memory-name is = memory-not machine_error.NoName (λ same. cc) is

  pub memory-image : r ≡ Err machine_error.NotImage → ⊥
  memory-image is = memory-not machine_error.NotImage (λ same. cc) is

-- what was done wasn't refused
pub done-no-device : {T : Type 0} (r : Result T MachineError) (x : T) (has was : Bool) → r ≡ Ok x → was ≡ false → (r ≡ Err machine_error.NoDevice) ↔ (IsTrue has × IsTrue was)
done-no-device {T} r x has was done never = (λ is. absurd (clash r x done is), λ why. absurd (not-both was why.1 never))
  where
    clash : (s : Result T MachineError) (x : T) → s ≡ Ok x → s ≡ Err machine_error.NoDevice → ⊥
    clash s x was is = cc

-- a device that is there, or not
pub no-device-also : {T : Type 0} (r : Result T MachineError) (has filled was : Bool) → (r ≡ Err machine_error.NoDevice) ↔ (IsTrue has × IsTrue was) → filled ≡ true → (r ≡ Err machine_error.NoDevice) ↔ (IsTrue has × ((filled ≡ false) ⊎ IsTrue was))
no-device-also {T} r has filled was device there = (λ is. ((device.0 is).0, inr (device.0 is).1), λ why. by why.0 why.1)
  where
    by : IsTrue has → (filled ≡ false) ⊎ IsTrue was → r ≡ Err machine_error.NoDevice
    by holds (inl absent) = absurd (not-both filled there absent)
    by holds (inr gone) = device.1 (holds, gone)

pub not-booted-no-device : {T : Type 0} (r : Result T MachineError) (has : Bool) (X : Type 0) → r ≡ Err machine_error.NotBooted → has ≡ false → (r ≡ Err machine_error.NoDevice) ↔ (IsTrue has × X)
not-booted-no-device {T} r has X was fails = (λ is. absurd (clash r was is), λ why. absurd (not-both has why.0 fails))
  where
    clash : (s : Result T MachineError) → s ≡ Err machine_error.NotBooted → s ≡ Err machine_error.NoDevice → ⊥
    clash s was is = cc

pub no-device-booted : {T : Type 0} (r : Result T MachineError) (has : Bool) → r ≡ Err machine_error.NoDevice → has ≡ true → (r ≡ Err machine_error.NotBooted) ↔ (has ≡ false)
no-device-booted {T} r has was holds = (λ is. absurd (clash r was is), λ fails. absurd (not-both has holds fails))
  where
    clash : (s : Result T MachineError) → s ≡ Err machine_error.NoDevice → s ≡ Err machine_error.NotBooted → ⊥
    clash s was is = cc
