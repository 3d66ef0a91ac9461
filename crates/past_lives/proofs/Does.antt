-- What an act changes of who lives, of segments and of groups is what its record tells.
use Rattle.std.proofs.Common.{◌≡◌, ℕ, ◌==◌, if◌then◌else◌, Bool, true, false, is_some, Option, Some, None, refl, sym, subst, arith, eqb-true}
use Rattle.std.proofs.lemmas.Bool.Decides.{nat_tests}
use Rattle.std.proofs.lemmas.Option.{same_Some}
use Rattle.arn_base.specs.declared.machine.Cpu.{Cpu}
use Rattle.arn_base.specs.declared.records.Extra.{Extra}
use Rattle.arn_base.specs.declared.records.Extra.TheVariants as extra
use Rattle.arn_base.specs.declared.records.Record.{Record}
use Rattle.arn_base.specs.declared.records.Record.TheVariants as entry
use Rattle.parts_model.specs.declared.calls.TheConstants as number
use Rattle.parts_model.specs.Replies.{is_success}
use Rattle.acts_model.specs.Acts.{Act, Starts, Forks, Founds, Shares, Exits, Faults, Dies}
use Rattle.acts_model.specs.Records.{life_told, lives_after}
use Rattle.acts_model.specs.Told.{Wait, Read, Write, kind_of, call_act, delivery_act}
use Rattle.history_model.specs.Broken.{child_in, start_in}
use Rattle.history_model.specs.Groups.{Groups, groups_told}
use Rattle.history_model.specs.Moments.{changed, segments_told}

-- what an act of a process at an event changes

abbrev pub act_live : Act → ℕ → (ℕ → Bool) → ℕ → Bool
act_live (Forks child) pid live p = if child == p then true else live p
act_live (Founds child) pid live p = if child == p then true else live p
act_live Exits pid live p = if pid == p then false else live p
act_live (Faults status) pid live p = if pid == p then false else live p
act_live (Dies signal cut) pid live p = if pid == p then false else live p
act_live act pid live p = live p

abbrev pub act_held : ℕ → Act → ℕ → (ℕ → Option ℕ) → ℕ → Option ℕ
act_held event (Starts file block block_len) pid held = changed held pid None
act_held event (Forks child) pid held = changed held child (held pid)
act_held event (Founds child) pid held = changed held child None
act_held event Shares pid held = changed held pid (Some event)
act_held event act pid held = held

abbrev pub act_groups : Act → ℕ → Groups → Groups
act_groups (Forks child) pid groups = changed groups child (groups pid)
act_groups (Founds child) pid groups = changed groups child (Some child)
act_groups act pid groups = groups

-- a child that starts a group is told with how it begins
abbrev pub IsTold : Record → Act → Type 0
IsTold e (Forks child) = child_in e ≡ Some child
IsTold e (Founds child) = (child_in e ≡ Some child) × (is_some (start_in e) ≡ true)
IsTold e act = Unit {0}

pub record Does (event pid : ℕ) (e : Record) (act : Act) : Type 0 where
  pub live : (live : ℕ → Bool) (p : ℕ) → lives_after (life_told e) p (live p) ≡ act_live act pid live p
  pub held : (held : ℕ → Option ℕ) (p : ℕ) → segments_told event e held p ≡ act_held event act pid held p
  pub groups : (groups : Groups) (p : ℕ) → groups_told e groups p ≡ act_groups act pid groups p
  pub told : IsTold e act

-- acts that change nothing of these

abbrev IsPlain : Act → Type 0
IsPlain (Starts file block block_len) = ⊥
IsPlain (Forks child) = ⊥
IsPlain (Founds child) = ⊥
IsPlain Shares = ⊥
IsPlain Exits = ⊥
IsPlain (Faults status) = ⊥
IsPlain (Dies signal cut) = ⊥
IsPlain act = Unit {0}

record ChangesNothing (event : ℕ) (e : Record) : Type 0 where
  live : (live : ℕ → Bool) (p : ℕ) → lives_after (life_told e) p (live p) ≡ live p
  held : (held : ℕ → Option ℕ) (p : ℕ) → segments_told event e held p ≡ held p
  groups : (groups : Groups) (p : ℕ) → groups_told e groups p ≡ groups p

plain-does : (event pid : ℕ) (e : Record) (act : Act) → IsPlain act → ChangesNothing event e → Does event pid e act
plain-does event pid e act h1 h2 = grind (arith, nat_tests)

if-plain : (b : Bool) (x y : Act) → IsPlain x → IsPlain y → IsPlain (if b then x else y)
if-plain true x y h k = h
if-plain false x y h k = k

wait-plain : (cpu : Cpu) (result : ℕ) (more : Extra) → IsPlain (call_act Wait cpu result more)
wait-plain cpu result (extra.Give give) = tt
wait-plain cpu result more = tt

read-plain : (cpu : Cpu) (result : ℕ) (more : Extra) → IsPlain (call_act Read cpu result more)
read-plain cpu result more = grind (arith, nat_tests)

write-plain : (cpu : Cpu) (result : ℕ) (more : Extra) → IsPlain (call_act Write cpu result more)
write-plain cpu result more = grind (arith, nat_tests, if-plain)

-- calls, by number

abbrev CallDoes : ℕ → ℕ → ℕ → Extra → Cpu → ℕ → Type 0
CallDoes event pid result more cpu n = Does event pid (entry.Call pid n result more) (call_act (kind_of n) cpu result more)

module _ (event pid result : ℕ) (more : Extra) (cpu : Cpu) where
  exit-does : CallDoes event pid result more cpu number.EXIT
  exit-does = record { live = λ live p. refl; held = λ held p. refl; groups = λ groups p. refl; told = tt }

  wait-does : CallDoes event pid result more cpu number.WAIT
  wait-does = plain-does event pid (entry.Call pid number.WAIT result more) (call_act Wait cpu result more) (wait-plain cpu result more) (record { live = λ live p. refl; held = λ held p. refl; groups = λ groups p. refl })

  sigreturn-does : CallDoes event pid result more cpu number.SIGRETURN
  sigreturn-does = grind (arith, nat_tests, if-plain, plain-does)

  read-does : CallDoes event pid result more cpu number.READ
  read-does = plain-does event pid (entry.Call pid number.READ result more) (call_act Read cpu result more) (read-plain cpu result more) (record { live = λ live p. refl; held = λ held p. refl; groups = λ groups p. refl })

  write-does : CallDoes event pid result more cpu number.WRITE
  write-does = plain-does event pid (entry.Call pid number.WRITE result more) (call_act Write cpu result more) (write-plain cpu result more) (record { live = λ live p. refl; held = λ held p. refl; groups = λ groups p. refl })

  shm-does : CallDoes event pid result more cpu number.SHM
  shm-does = grind (arith, nat_tests)

exec-does : (event pid result : ℕ) (more : Extra) (cpu : Cpu) → CallDoes event pid result more cpu number.EXEC
exec-does event pid result (extra.Give give) cpu = record { live = λ live p. refl; held = λ held p. refl; groups = λ groups p. refl; told = tt }
exec-does event pid result more cpu = record { live = λ live p. refl; held = λ held p. refl; groups = λ groups p. refl; told = tt }

fork-does : (event pid result : ℕ) (more : Extra) (cpu : Cpu) (b : Bool) → is_success result ≡ b → CallDoes event pid result more cpu number.FORK
fork-does event pid result more cpu b h1 = grind (arith, nat_tests)

pub call-does : (event pid n result : ℕ) (more : Extra) (cpu : Cpu) → CallDoes event pid result more cpu n
call-does event pid n result more cpu = exit_by (n == number.EXIT) refl
  where
    other : (n == number.EXIT) ≡ false → (n == number.FORK) ≡ false → (n == number.EXEC) ≡ false → (n == number.WAIT) ≡ false → (n == number.SIGRETURN) ≡ false → (n == number.READ) ≡ false → (n == number.WRITE) ≡ false
        → (n == number.SHM) ≡ false → CallDoes event pid result more cpu n
    other h1 h2 h3 h4 h5 h6 h7 h8 = grind (arith, nat_tests)

    shm_by : (t : Bool) → (n == number.SHM) ≡ t → (n == number.EXIT) ≡ false → (n == number.FORK) ≡ false → (n == number.EXEC) ≡ false → (n == number.WAIT) ≡ false → (n == number.SIGRETURN) ≡ false
        → (n == number.READ) ≡ false → (n == number.WRITE) ≡ false → CallDoes event pid result more cpu n
    shm_by true h a b c d e f g = subst (CallDoes event pid result more cpu) (sym (eqb-true n number.SHM h)) (shm-does event pid result more cpu)
    shm_by false h a b c d e f g = other a b c d e f g h

    write_by : (t : Bool) → (n == number.WRITE) ≡ t → (n == number.EXIT) ≡ false → (n == number.FORK) ≡ false → (n == number.EXEC) ≡ false → (n == number.WAIT) ≡ false → (n == number.SIGRETURN) ≡ false
        → (n == number.READ) ≡ false → CallDoes event pid result more cpu n
    write_by true g a b c d e f = subst (CallDoes event pid result more cpu) (sym (eqb-true n number.WRITE g)) (write-does event pid result more cpu)
    write_by false g a b c d e f = shm_by (n == number.SHM) refl a b c d e f g

    read_by : (t : Bool) → (n == number.READ) ≡ t → (n == number.EXIT) ≡ false → (n == number.FORK) ≡ false → (n == number.EXEC) ≡ false → (n == number.WAIT) ≡ false → (n == number.SIGRETURN) ≡ false → CallDoes event pid result more cpu n
    read_by true f a b c d e = subst (CallDoes event pid result more cpu) (sym (eqb-true n number.READ f)) (read-does event pid result more cpu)
    read_by false f a b c d e = write_by (n == number.WRITE) refl a b c d e f

    sigreturn_by : (t : Bool) → (n == number.SIGRETURN) ≡ t → (n == number.EXIT) ≡ false → (n == number.FORK) ≡ false → (n == number.EXEC) ≡ false → (n == number.WAIT) ≡ false → CallDoes event pid result more cpu n
    sigreturn_by true e a b c d = subst (CallDoes event pid result more cpu) (sym (eqb-true n number.SIGRETURN e)) (sigreturn-does event pid result more cpu)
    sigreturn_by false e a b c d = read_by (n == number.READ) refl a b c d e

    wait_by : (t : Bool) → (n == number.WAIT) ≡ t → (n == number.EXIT) ≡ false → (n == number.FORK) ≡ false → (n == number.EXEC) ≡ false → CallDoes event pid result more cpu n
    wait_by true d a b c = subst (CallDoes event pid result more cpu) (sym (eqb-true n number.WAIT d)) (wait-does event pid result more cpu)
    wait_by false d a b c = sigreturn_by (n == number.SIGRETURN) refl a b c d

    exec_by : (t : Bool) → (n == number.EXEC) ≡ t → (n == number.EXIT) ≡ false → (n == number.FORK) ≡ false → CallDoes event pid result more cpu n
    exec_by true c a b = subst (CallDoes event pid result more cpu) (sym (eqb-true n number.EXEC c)) (exec-does event pid result more cpu)
    exec_by false c a b = wait_by (n == number.WAIT) refl a b c

    fork_by : (t : Bool) → (n == number.FORK) ≡ t → (n == number.EXIT) ≡ false → CallDoes event pid result more cpu n
    fork_by true b a = subst (CallDoes event pid result more cpu) (sym (eqb-true n number.FORK b)) (fork-does event pid result more cpu (is_success result) refl)
    fork_by false b a = exec_by (n == number.EXEC) refl a b

    exit_by : (t : Bool) → (n == number.EXIT) ≡ t → CallDoes event pid result more cpu n
    exit_by true a = subst (CallDoes event pid result more cpu) (sym (eqb-true n number.EXIT a)) (exit-does event pid result more cpu)
    exit_by false a = fork_by (n == number.FORK) refl a

pub end-does : (event pid status : ℕ) → Does event pid (entry.End pid status) (Faults status)
end-does event pid status = record { live = λ live p. refl; held = λ held p. refl; groups = λ groups p. refl; told = tt }

pub signal-does : (event pid signal : ℕ) (cut : Bool) (handler : ℕ) → Does event pid (entry.Signal pid signal cut handler) (delivery_act signal handler cut)
signal-does event pid signal cut handler = grind (arith, nat_tests)

-- a fork that starts a group

abbrev pub IsFounded : ℕ → Record → Type 0
IsFounded g e = (child_in e ≡ Some g) × (is_some (start_in e) ≡ true)

pub founds-does : (g event pid n result : ℕ) (more : Extra) → IsFounded g (entry.Call pid n result more) → Does event pid (entry.Call pid n result more) (Founds g)
founds-does g event pid n result more h1 = grind (arith, nat_tests, eqb-true, fork-does, same_Some)
