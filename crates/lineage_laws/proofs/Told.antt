-- What the record of an event tells of its act: whether it makes a child, and whether it receives bytes.
use Rattle.std.proofs.Common.{◌≡◌, ℕ, List, [], length, refl, ap, ◌∙◌, sym, subst, Option, Some, None, option_and_then, Bool, true, false, ◌==◌, ◌&&◌, cond, arith}
use Rattle.std.proofs.lemmas.Bool.Decides.{nat_tests}
use Rattle.std.proofs.lemmas.Bool.{eq-eqb, eqb-true, and_left}
use Rattle.std.proofs.lemmas.Option.{same_Some}
use Rattle.arn_base.specs.declared.machine.Cpu.{Cpu}
use Rattle.arn_base.specs.declared.records.Extra.{Extra}
use Rattle.arn_base.specs.declared.records.Extra.TheVariants as extra
use Rattle.arn_base.specs.declared.records.Give.{Give}
use Rattle.arn_base.specs.declared.records.Record.{Record}
use Rattle.arn_base.specs.declared.records.Record.TheVariants as entry
use Rattle.arn_base.specs.declared.records.Start.{Start}
use Rattle.parts_model.specs.declared.calls.TheConstants as number
use Rattle.parts_model.specs.Replies.{is_success}
use Rattle.acts_model.specs.Acts.{Act, Returns, Receives, Gives, Starts, Forks, Founds, Shares, Leaves, Delivers, Exits, Dies}
use Rattle.acts_model.specs.Records.{Child, child_called, child_forked, child_start, process_of, event_len, give_of, start_held}
use Rattle.acts_model.specs.Told.{Kind, Exit, Fork, Exec, Wait, Sigreturn, Read, Write, Shm, Other, kind_of, fork_act, is_pipe_write, exec_act, wait_act, read_act, write_act, call_act, delivery_act, act_of}
use Rattle.acts_model.specs.Views.{argument}
use Rattle.arn_model.specs.Tells.{is_inner}
use Rattle.history_model.specs.Groups.{Groups, groups_told}
use Rattle.lineage_model.specs.Joined.{is_reply, is_source}
use Rattle.replay_laws.specs.Heard.{begin_by}

-- the number of a call of a kind
data KindIs (n : ℕ) : Kind → Type 0 where
  IsExit : n ≡ number.EXIT → KindIs n Exit
  IsFork : n ≡ number.FORK → KindIs n Fork
  IsExec : n ≡ number.EXEC → KindIs n Exec
  IsWait : n ≡ number.WAIT → KindIs n Wait
  IsSigreturn : n ≡ number.SIGRETURN → KindIs n Sigreturn
  IsRead : n ≡ number.READ → KindIs n Read
  IsWrite : n ≡ number.WRITE → KindIs n Write
  IsShm : n ≡ number.SHM → KindIs n Shm
  IsOther : (n == number.FORK) ≡ false → (n == number.READ) ≡ false → KindIs n Other

kind-is : (n : ℕ) → KindIs n (kind_of n)
kind-is n = exit (n == number.EXIT) refl
  where
    shm : (n == number.FORK) ≡ false → (n == number.READ) ≡ false → (b : Bool) → (n == number.SHM) ≡ b → KindIs n (cond b Shm Other)
    shm f r true e = IsShm (eqb-true n number.SHM e)
    shm f r false e = IsOther f r

    write : (n == number.FORK) ≡ false → (n == number.READ) ≡ false → (b : Bool) → (n == number.WRITE) ≡ b → KindIs n (cond b Write (cond (n == number.SHM) Shm Other))
    write f r true e = IsWrite (eqb-true n number.WRITE e)
    write f r false e = shm f r (n == number.SHM) refl

    read : (n == number.FORK) ≡ false → (b : Bool) → (n == number.READ) ≡ b → KindIs n (cond b Read (cond (n == number.WRITE) Write (cond (n == number.SHM) Shm Other)))
    read f true e = IsRead (eqb-true n number.READ e)
    read f false e = write f e (n == number.WRITE) refl

    sigreturn : (n == number.FORK) ≡ false → (b : Bool) → (n == number.SIGRETURN) ≡ b → KindIs n (cond b Sigreturn (cond (n == number.READ) Read (cond (n == number.WRITE) Write (cond (n == number.SHM) Shm Other))))
    sigreturn f true e = IsSigreturn (eqb-true n number.SIGRETURN e)
    sigreturn f false e = read f (n == number.READ) refl

    wait : (n == number.FORK) ≡ false → (b : Bool) → (n == number.WAIT) ≡ b → KindIs n (cond b Wait (cond (n == number.SIGRETURN) Sigreturn (cond (n == number.READ) Read (cond (n == number.WRITE) Write (cond (n == number.SHM) Shm Other)))))
    wait f true e = IsWait (eqb-true n number.WAIT e)
    wait f false e = sigreturn f (n == number.SIGRETURN) refl

    exec : (n == number.FORK) ≡ false → (b : Bool) → (n == number.EXEC) ≡ b → KindIs n (cond b Exec (cond (n == number.WAIT) Wait (cond (n == number.SIGRETURN) Sigreturn (cond (n == number.READ) Read (cond (n == number.WRITE) Write (cond (n == number.SHM) Shm Other))))))
    exec f true e = IsExec (eqb-true n number.EXEC e)
    exec f false e = wait f (n == number.WAIT) refl

    fork : (b : Bool) → (n == number.FORK) ≡ b → KindIs n (cond b Fork (cond (n == number.EXEC) Exec (cond (n == number.WAIT) Wait (cond (n == number.SIGRETURN) Sigreturn (cond (n == number.READ) Read (cond (n == number.WRITE) Write (cond (n == number.SHM) Shm Other)))))))
    fork true e = IsFork (eqb-true n number.FORK e)
    fork false e = exec e (n == number.EXEC) refl

    exit : (b : Bool) → (n == number.EXIT) ≡ b → KindIs n (cond b Exit (cond (n == number.FORK) Fork (cond (n == number.EXEC) Exec (cond (n == number.WAIT) Wait (cond (n == number.SIGRETURN) Sigreturn (cond (n == number.READ) Read (cond (n == number.WRITE) Write (cond (n == number.SHM) Shm Other))))))))
    exit true e = IsExit (eqb-true n number.EXIT e)
    exit false e = fork (n == number.FORK) refl

-- the group of a memory that an event makes: that of its process, or the one that starts
abbrev pub memory_called : Groups → ℕ → ℕ → Option Start → Option ℕ
memory_called gs pid result None = gs pid
memory_called gs pid result (Some start) = Some result

abbrev pub memory_by : Groups → Record → Option ℕ
memory_by gs (entry.Call pid n result more) = memory_called gs pid result (child_start (child_called n result more))
memory_by gs other = option_and_then gs (process_of other)

-- the act makes no child
abbrev pub IsQuiet : Act → Type 0
IsQuiet (Forks child) = ⊥
IsQuiet (Founds child) = ⊥
IsQuiet act = Unit {0}

-- there is this child
abbrev pub one_child : ℕ → Option Start → Option Child
one_child child start = Some (record { number = child; start = start })

-- a record says that a child starts a group, that one joins its parent's, or that no process is made
pub data Says (pid : ℕ) (e : Record) (act : Act) : Type 0 where
  SaysFounds : (child : ℕ) (start : Start) → e ≡ entry.Call pid number.FORK child (extra.Start start) → child_called number.FORK child (extra.Start start) ≡ one_child child (Some start) → act ≡ Founds child → Says pid e act
  SaysForks : (child : ℕ) (more : Extra) → e ≡ entry.Call pid number.FORK child more → child_called number.FORK child more ≡ one_child child None → act ≡ Forks child → Says pid e act
  SaysOther : ((groups : Groups) → groups_told e groups ≡ groups) → ((g n : ℕ) → begin_by g n e ≡ []) → ((gs : Groups) → memory_by gs e ≡ gs pid) → IsQuiet act → Says pid e act

no-child : (n result : ℕ) (more : Extra) → ((n == number.FORK) && is_success result) ≡ false → child_called n result more ≡ None
no-child n result more h = ap (λ (b : Bool). cond b (Some (child_forked result more)) None) h

other-says : (pid n result : ℕ) (more : Extra) (act : Act) → ((n == number.FORK) && is_success result) ≡ false → IsQuiet act → Says pid (entry.Call pid n result more) act
other-says pid n result more act h1 h2 = grind (arith, nat_tests, memory_called, no-child)

if-quiet : (b : Bool) (a c : Act) → IsQuiet a → IsQuiet c → IsQuiet (cond b a c)
if-quiet true a c h k = h
if-quiet false a c h k = k

exec-quiet : (cpu : Cpu) (result : ℕ) (more : Extra) → IsQuiet (exec_act cpu result more)
exec-quiet cpu result (extra.Give give) = tt
exec-quiet cpu result _ = tt

wait-quiet : (cpu : Cpu) (result : ℕ) (more : Extra) → IsQuiet (wait_act cpu result more)
wait-quiet cpu result (extra.Give give) = tt
wait-quiet cpu result _ = tt

read-quiet : (cpu : Cpu) (result : ℕ) (more : Extra) → IsQuiet (read_act cpu result more)
read-quiet cpu result more = grind (arith, nat_tests)

write-quiet : (cpu : Cpu) (result : ℕ) (more : Extra) → IsQuiet (write_act cpu result more)
write-quiet cpu result extra.Nothing = if-quiet (is_pipe_write result) (Gives (argument cpu 1) result result) (Returns result) tt tt
write-quiet cpu result _ = tt

made-child : (result : ℕ) (more : Extra) (start : Option Start) → start_held more ≡ start → is_success result ≡ true → child_called number.FORK result more ≡ one_child result start
made-child result more start h e = ap (λ (b : Bool). cond b (Some (child_forked result more)) None) e ∙ ap (one_child result) h

joins-says : (pid result : ℕ) (more : Extra) → start_held more ≡ None → (b : Bool) → is_success result ≡ b → Says pid (entry.Call pid number.FORK result more) (cond b (Forks result) (Returns result))
joins-says pid result more h true e = SaysForks result more refl (made-child result more None h e) refl
joins-says pid result more h false e = other-says pid number.FORK result more (Returns result) e tt

founds-says : (pid result : ℕ) (start : Start) → (b : Bool) → is_success result ≡ b → Says pid (entry.Call pid number.FORK result (extra.Start start)) (cond b (Founds result) (Returns result))
founds-says pid result start true e = SaysFounds result start refl (made-child result (extra.Start start) (Some start) refl e) refl
founds-says pid result start false e = other-says pid number.FORK result (extra.Start start) (Returns result) e tt

fork-says : (pid result : ℕ) (more : Extra) → Says pid (entry.Call pid number.FORK result more) (fork_act result more)
fork-says pid result (extra.Start start) = founds-says pid result start (is_success result) refl
fork-says pid result more = joins-says pid result more refl (is_success result) refl

-- a number isn't another
isnt : (n a b : ℕ) → n ≡ a → (a == b) ≡ false → (n == b) ≡ false
isnt n a b e h = ap (λ (x : ℕ). x == b) e ∙ h

call-says : (cpu : Cpu) (pid n result : ℕ) (more : Extra) (kind : Kind) → KindIs n kind → Says pid (entry.Call pid n result more) (call_act kind cpu result more)
call-says cpu pid n result more _ (IsExit e) = other-says pid n result more Exits (and_left _ _ (isnt n number.EXIT number.FORK e refl)) tt
call-says cpu pid n result more _ (IsFork e) = subst (λ (x : ℕ). Says pid (entry.Call pid x result more) (fork_act result more)) (sym e) (fork-says pid result more)
call-says cpu pid n result more _ (IsExec e) = other-says pid n result more (exec_act cpu result more) (and_left _ _ (isnt n number.EXEC number.FORK e refl)) (exec-quiet cpu result more)
call-says cpu pid n result more _ (IsWait e) = other-says pid n result more (wait_act cpu result more) (and_left _ _ (isnt n number.WAIT number.FORK e refl)) (wait-quiet cpu result more)
call-says cpu pid n result more _ (IsSigreturn e) = other-says pid n result more (cond (result == 0) Leaves (Returns result)) (and_left _ _ (isnt n number.SIGRETURN number.FORK e refl)) (if-quiet (result == 0) Leaves (Returns result) tt tt)
call-says cpu pid n result more _ (IsRead e) = other-says pid n result more (read_act cpu result more) (and_left _ _ (isnt n number.READ number.FORK e refl)) (read-quiet cpu result more)
call-says cpu pid n result more _ (IsWrite e) = other-says pid n result more (write_act cpu result more) (and_left _ _ (isnt n number.WRITE number.FORK e refl)) (write-quiet cpu result more)
call-says cpu pid n result more _ (IsShm e) = other-says pid n result more (cond (result == 0) Shares (Returns result)) (and_left _ _ (isnt n number.SHM number.FORK e refl)) (if-quiet (result == 0) Shares (Returns result) tt tt)
call-says cpu pid n result more _ (IsOther f r) = other-says pid n result more (Returns result) (and_left _ _ f) tt

delivery-quiet : (signal handler : ℕ) (cut : Bool) → IsQuiet (delivery_act signal handler cut)
delivery-quiet signal handler cut = if-quiet (handler == 0) (Dies signal cut) (Delivers signal handler cut) tt tt

pub entry-says : (cpu : Cpu) (pid : ℕ) (e : Record) (act : Act) → is_inner e ≡ true → process_of e ≡ Some pid → act_of cpu e ≡ Some act → Says pid e act
entry-says cpu pid (entry.Signal p signal cut handler) act i h k = SaysOther (λ groups. refl) (λ g n. refl) (λ gs. ap gs (same_Some p pid h)) (subst IsQuiet (same_Some _ act k) (delivery-quiet signal handler cut))
entry-says cpu pid (entry.Call p n result more) act i h k =
    subst (Says pid (entry.Call p n result more)) (same_Some _ act k)
    (subst (λ (x : ℕ). Says pid (entry.Call x n result more) (call_act (kind_of n) cpu result more)) (sym (same_Some p pid h)) (call-says cpu pid n result more (kind_of n) (kind-is n)))
entry-says cpu pid (entry.End p status) act i h k = SaysOther (λ groups. refl) (λ g n. refl) (λ gs. ap gs (same_Some p pid h)) (subst IsQuiet (same_Some _ act k) tt)
entry-says cpu pid _ act i h k = absurd (cc)

-- the act receives nothing
abbrev pub IsSilent : Act → Type 0
IsSilent (Receives at bytes result) = ⊥
IsSilent (Starts file block block_len) = ⊥
IsSilent act = Unit {0}

-- an event receives what its record has with origins, or what a device gave, or nothing
pub data Receipt (e : Record) (act : Act) : Type 0 where
  OfGive : (give : Give) → give_of e ≡ Some give → is_source e ≡ false → Receipt e act
  OfDevice : (at : ℕ) (bytes : List ℕ) (result : ℕ) → act ≡ Receives at bytes result → is_source e ≡ true → event_len e ≡ length bytes → give_of e ≡ None → Receipt e act
  OfNone : is_source e ≡ false → IsSilent act → Receipt e act

no-reply : (n : ℕ) (more : Extra) → (n == number.READ) ≡ false → is_reply n more ≡ false
no-reply n (extra.Reply device bytes) h = h
no-reply n _ h = refl

if-silent : (b : Bool) (a c : Act) → IsSilent a → IsSilent c → IsSilent (cond b a c)
if-silent true a c h k = h
if-silent false a c h k = k

fork-silent : (result : ℕ) (more : Extra) → IsSilent (fork_act result more)
fork-silent result (extra.Start start) = if-silent (is_success result) (Founds result) (Returns result) tt tt
fork-silent result _ = if-silent (is_success result) (Forks result) (Returns result) tt tt

write-silent : (cpu : Cpu) (result : ℕ) (more : Extra) → IsSilent (write_act cpu result more)
write-silent cpu result extra.Nothing = if-silent (is_pipe_write result) (Gives (argument cpu 1) result result) (Returns result) tt tt
write-silent cpu result _ = tt

exec-receipt : (cpu : Cpu) (pid n result : ℕ) (more : Extra) → (n == number.READ) ≡ false → Receipt (entry.Call pid n result more) (exec_act cpu result more)
exec-receipt cpu pid n result (extra.Give give) h = OfGive give refl refl
exec-receipt cpu pid n result (extra.Reply device bytes) h = OfNone h tt
exec-receipt cpu pid n result _ h = OfNone refl tt

wait-receipt : (cpu : Cpu) (pid n result : ℕ) (more : Extra) → (n == number.READ) ≡ false → Receipt (entry.Call pid n result more) (wait_act cpu result more)
wait-receipt cpu pid n result (extra.Give give) h = OfGive give refl refl
wait-receipt cpu pid n result (extra.Reply device bytes) h = OfNone h tt
wait-receipt cpu pid n result _ h = OfNone refl tt

read-receipt : (cpu : Cpu) (pid n result : ℕ) (more : Extra) → (n == number.READ) ≡ true → Receipt (entry.Call pid n result more) (read_act cpu result more)
read-receipt cpu pid n result (extra.Give give) h = OfGive give refl refl
read-receipt cpu pid n result (extra.Reply device bytes) h = OfDevice (argument cpu 1) bytes result refl h refl refl
read-receipt cpu pid n result _ h = OfNone refl tt

call-receipt : (cpu : Cpu) (pid n result : ℕ) (more : Extra) (kind : Kind) → KindIs n kind → Receipt (entry.Call pid n result more) (call_act kind cpu result more)
call-receipt cpu pid n result more _ (IsExit e) = OfNone (no-reply n more (isnt n number.EXIT number.READ e refl)) tt
call-receipt cpu pid n result more _ (IsFork e) = OfNone (no-reply n more (isnt n number.FORK number.READ e refl)) (fork-silent result more)
call-receipt cpu pid n result more _ (IsExec e) = exec-receipt cpu pid n result more (isnt n number.EXEC number.READ e refl)
call-receipt cpu pid n result more _ (IsWait e) = wait-receipt cpu pid n result more (isnt n number.WAIT number.READ e refl)
call-receipt cpu pid n result more _ (IsSigreturn e) = OfNone (no-reply n more (isnt n number.SIGRETURN number.READ e refl)) (if-silent (result == 0) Leaves (Returns result) tt tt)
call-receipt cpu pid n result more _ (IsRead e) = read-receipt cpu pid n result more (eq-eqb n number.READ e)
call-receipt cpu pid n result more _ (IsWrite e) = OfNone (no-reply n more (isnt n number.WRITE number.READ e refl)) (write-silent cpu result more)
call-receipt cpu pid n result more _ (IsShm e) = OfNone (no-reply n more (isnt n number.SHM number.READ e refl)) (if-silent (result == 0) Shares (Returns result) tt tt)
call-receipt cpu pid n result more _ (IsOther f r) = OfNone (no-reply n more r) tt

pub entry-receipt : (cpu : Cpu) (e : Record) (act : Act) → is_inner e ≡ true → act_of cpu e ≡ Some act → Receipt e act
entry-receipt cpu (entry.Signal p signal cut handler) act i k = OfNone refl (subst IsSilent (same_Some _ act k) (if-silent (handler == 0) (Dies signal cut) (Delivers signal handler cut) tt tt))
entry-receipt cpu (entry.Call p n result more) act i k = subst (Receipt (entry.Call p n result more)) (same_Some _ act k) (call-receipt cpu p n result more (kind_of n) (kind-is n))
entry-receipt cpu (entry.End p status) act i k = OfNone refl (subst IsSilent (same_Some _ act k) tt)
entry-receipt cpu _ act i k = absurd (cc)
