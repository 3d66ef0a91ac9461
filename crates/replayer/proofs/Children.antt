-- The child that an act makes, and the child that a record tells.
use Rattle.std.proofs.lemmas.Bool.Decides.{nat_tests}
use Rattle.std.proofs.Common.{◌≡◌, ℕ, ◌==◌, ◌&&◌, Bool, true, false, if◌then◌else◌, Some, None, option_and_then, refl, sym, ◌∙◌, arith}
use Rattle.arn_base.specs.declared.machine.Cpu.{Cpu}
use Rattle.arn_base.specs.declared.records.Extra.{Extra}
use Rattle.arn_base.specs.declared.records.Extra.TheVariants as extra
use Rattle.arn_base.specs.declared.records.Record.{Record}
use Rattle.arn_base.specs.declared.records.Record.TheVariants as entry
use Rattle.parts_model.specs.declared.calls.TheConstants as number
use Rattle.parts_model.specs.Replies.{is_success}
use Rattle.acts_model.specs.Acts.{Act, Returns, Gives, Delivers, Dies, Forks, Founds}
use Rattle.acts_model.specs.Records.{child_forked, child_number}
use Rattle.acts_model.specs.Told.{Kind, Exit, Fork, Exec, Wait, Sigreturn, Read, Write, Shm, Other, act_of, call_act, exec_act, fork_act, is_pipe_write, kind_of, read_act, wait_act, write_act}
use Rattle.history_model.specs.Broken.{child_in}
use Rattle.replay_steps.specs.Calls.{child_joined}

-- of two acts without a child
pub neither : (test : Bool) (a b : Act) → child_joined a ≡ None → child_joined b ≡ None → child_joined (if test then a else b) ≡ None
neither true a b first second = first
neither false a b first second = second

exec-none : (cpu : Cpu) (r : ℕ) (more : Extra) → child_joined (exec_act cpu r more) ≡ None
exec-none cpu r extra.Nothing = refl
exec-none cpu r _ = refl

wait-none : (cpu : Cpu) (r : ℕ) (more : Extra) → child_joined (wait_act cpu r more) ≡ None
wait-none cpu r extra.Nothing = refl
wait-none cpu r _ = refl

read-none : (cpu : Cpu) (r : ℕ) (more : Extra) → child_joined (read_act cpu r more) ≡ None
read-none cpu r extra.Nothing = refl
read-none cpu r _ = refl

write-none : (cpu : Cpu) (r : ℕ) (more : Extra) → child_joined (write_act cpu r more) ≡ None
write-none cpu r extra.Nothing = neither (is_pipe_write r) (Gives _ r r) (Returns r) refl refl
write-none cpu r _ = refl

-- a fork that succeeds makes the child of its result
if-forks : (test : Bool) (r p : ℕ) → child_joined (if test then Forks r else Returns r) ≡ Some p → (if test then Some r else None) ≡ Some p
if-forks true r p is = is
if-forks false r p is = is

fork-in : (r p : ℕ) (more : Extra) → child_joined (fork_act r more) ≡ Some p → (if is_success r then Some r else None) ≡ Some p
fork-in r p (extra.Start start) is = absurd (let none : None ≡ Some p = sym (neither (is_success r) (Founds r) (Returns r) refl refl) ∙ is in cc)
fork-in r p _ is = if-forks (is_success r) r p is

-- no other call makes one
pub call-in : (k : Kind) (cpu : Cpu) (r p : ℕ) (more : Extra) → child_joined (call_act k cpu r more) ≡ Some p → (k ≡ Fork) × ((if is_success r then Some r else None) ≡ Some p)
call-in k cpu r p more h1 = grind (arith, nat_tests, fork-in, exec-none, wait-none, neither, read-none, write-none)

only-fork : (a b c d e f g h : Bool) → (if a then Exit else if b then Fork else if c then Exec else if d then Wait else if e then Sigreturn else if f then Read else if g then Write else if h then Shm else Other) ≡ Fork → b ≡ true
only-fork a b c d e f g h h1 = grind (arith, nat_tests)

pub kind-fork : (n : ℕ) → kind_of n ≡ Fork → (n == number.FORK) ≡ true
kind-fork n is =
    only-fork (n == number.EXIT) (n == number.FORK) (n == number.EXEC) (n == number.WAIT) (n == number.SIGRETURN) (n == number.READ) (n == number.WRITE) (n == number.SHM) is

if-both : (a b : Bool) (r p : ℕ) (more : Extra) → a ≡ true → (if b then Some r else None) ≡ Some p → child_number (if a && b then Some (child_forked r more) else None) ≡ Some p
if-both true true r p more yea is = is
if-both true false r p more yea is = is
if-both false b r p more yea is = absurd (let no : false ≡ true = yea in cc)

-- the child that joins is the one that the record tells
pub joined-in : (cpu : Cpu) (e : Record) (p : ℕ) → option_and_then child_joined (act_of cpu e) ≡ Some p → child_in e ≡ Some p
joined-in cpu (entry.Call pid n r more) p is = grind (arith, nat_tests, if-both (n == number.FORK) (is_success r) r p more (kind-fork n (call-in (kind_of n) cpu r p more is).0) (call-in (kind_of n) cpu r p more is).1)
joined-in cpu (entry.Signal pid signal cut handler) p is = grind (arith, nat_tests, neither (handler == 0) (Dies signal cut) (Delivers signal handler cut) refl refl)
joined-in cpu _ p is = absurd (let none : None ≡ Some p = is in cc)
