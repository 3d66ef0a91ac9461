-- How many bytes an act moves, as its event has them.
use Rattle.std.proofs.Common.{◌≡◌, ℕ, ◌==◌, ◌&&◌, nat_le, Bool, true, false, unwrap_or, refl, sym, ap, ◌∙◌, if◌then◌else◌}
use Rattle.arn_base.specs.declared.machine.Cpu.{Cpu}
use Rattle.arn_base.specs.declared.records.Extra.{Extra}
use Rattle.arn_base.specs.declared.records.Extra.TheVariants as extra
use Rattle.arn_base.specs.declared.records.Record.TheVariants as entry
use Rattle.parts_model.specs.declared.calls.TheConstants as number
use Rattle.parts_model.specs.declared.limits.TheConstants.{MOST_TRANSFER}
use Rattle.parts_model.specs.Replies.{is_success}
use Rattle.acts_model.specs.Acts.{Act, Returns, Gives, Forks, Founds, Shares, Leaves, Delivers, Dies}
use Rattle.acts_model.specs.Records.{event_len, held_len, plain_len}
use Rattle.acts_model.specs.Told.{Kind, Exit, Fork, Exec, Wait, Sigreturn, Read, Write, Shm, Other, call_act, kind_of}
use Rattle.acts_model.specs.Views.{argument}
use Rattle.taint_state.specs.Lens.{ActsHaveLen, HasLen}

abbrev len_of : ℕ → ℕ → Extra → ℕ
len_of n result more = unwrap_or (held_len more) (plain_len n result more)

either : (count : ℕ) (b : Bool) (x y : Act) → HasLen count x → HasLen count y → HasLen count (if b then x else y)
either count true x y h k = h
either count false x y h k = k

both : (a b : Bool) → (a && b) ≡ true → b ≡ true
both true b h = h
both false b h = absurd (cc)

not-write : (t : Bool) → (if t then Shm else Other) ≡ Write → ⊥
not-write true q = cc
not-write false q = cc

kind-write : (n : ℕ) → kind_of n ≡ Write → (n == number.WRITE) ≡ true
kind-write n e = by_tests (n == number.EXIT) (n == number.FORK) (n == number.EXEC) (n == number.WAIT) (n == number.SIGRETURN) (n == number.READ) (n == number.WRITE) e
  where
    by_tests : (a c d f g h b : Bool)
        → (if a then Exit else if c then Fork else if d then Exec else if f then Wait else if g then Sigreturn else if h then Read else if b then Write
        else if n == number.SHM then Shm else Other) ≡ Write → b ≡ true
    by_tests true c d f g h b k = absurd (cc)
    by_tests false true d f g h b k = absurd (cc)
    by_tests false false true f g h b k = absurd (cc)
    by_tests false false false true g h b k = absurd (cc)
    by_tests false false false false true h b k = absurd (cc)
    by_tests false false false false false true b k = absurd (cc)
    by_tests false false false false false false true k = refl
    by_tests false false false false false false false k = absurd (not-write (n == number.SHM) k)

-- a write to a pipe counts itself
counted : (n result at : ℕ) → (n == number.WRITE) ≡ true → (p : Bool) → (nat_le 1 result && nat_le result MOST_TRANSFER) ≡ p → HasLen (plain_len n result extra.Nothing) (if p then Gives at result result else Returns result)
counted n result at w true e =
    sym (ap (λ b. if b && (true && nat_le result MOST_TRANSFER) then result else if n == number.EXIT then 1 else 0) w
    ∙ ap (λ b. if b then result else if n == number.EXIT then 1 else 0) (both (nat_le 1 result) (nat_le result MOST_TRANSFER) e))
counted n result at w false e = tt

exec-len : (n : ℕ) (cpu : Cpu) (result : ℕ) (more : Extra) → HasLen (len_of n result more) (call_act Exec cpu result more)
exec-len n cpu result (extra.Give give) = refl
exec-len n cpu result more = tt

wait-len : (n : ℕ) (cpu : Cpu) (result : ℕ) (more : Extra) → HasLen (len_of n result more) (call_act Wait cpu result more)
wait-len n cpu result (extra.Give give) = refl
wait-len n cpu result more = tt

read-len : (n : ℕ) (cpu : Cpu) (result : ℕ) (more : Extra) → HasLen (len_of n result more) (call_act Read cpu result more)
read-len n cpu result (extra.Give give) = refl
read-len n cpu result (extra.Reply device bytes) = refl
read-len n cpu result more = tt

write-len : (n : ℕ) (cpu : Cpu) (result : ℕ) (more : Extra) → (n == number.WRITE) ≡ true → HasLen (len_of n result more) (call_act Write cpu result more)
write-len n cpu result (extra.Put file at bytes) w = refl
write-len n cpu result (extra.Console bytes) w = refl
write-len n cpu result (extra.Sent device bytes) w = refl
write-len n cpu result extra.Nothing w = counted n result (argument cpu 1) w (nat_le 1 result && nat_le result MOST_TRANSFER) refl
write-len n cpu result more w = tt

fork-len : (n : ℕ) (cpu : Cpu) (result : ℕ) (more : Extra) → HasLen (len_of n result more) (call_act Fork cpu result more)
fork-len n cpu result (extra.Start start) = either (len_of n result (extra.Start start)) (is_success result) (Founds result) (Returns result) tt tt
fork-len n cpu result more = either (len_of n result more) (is_success result) (Forks result) (Returns result) tt tt

call-len : (n : ℕ) (kind : Kind) (cpu : Cpu) (result : ℕ) (more : Extra) → (kind ≡ Write → (n == number.WRITE) ≡ true) → HasLen (len_of n result more) (call_act kind cpu result more)
call-len n Exit cpu result more w = tt
call-len n Fork cpu result more w = fork-len n cpu result more
call-len n Exec cpu result more w = exec-len n cpu result more
call-len n Wait cpu result more w = wait-len n cpu result more
call-len n Sigreturn cpu result more w = either (len_of n result more) (result == 0) Leaves (Returns result) tt tt
call-len n Read cpu result more w = read-len n cpu result more
call-len n Write cpu result more w = write-len n cpu result more (w refl)
call-len n Shm cpu result more w = either (len_of n result more) (result == 0) Shares (Returns result) tt tt
call-len n Other cpu result more w = tt

pub acts-have-len : ActsHaveLen
acts-have-len cpu (entry.Boot name give) = refl
acts-have-len cpu (entry.Signal pid signal cut handler) = either (event_len (entry.Signal pid signal cut handler)) (handler == 0) (Dies signal cut) (Delivers signal handler cut) tt tt
acts-have-len cpu (entry.Call pid n result more) = call-len n (kind_of n) cpu result more (kind-write n)
acts-have-len cpu (entry.End pid status) = tt
acts-have-len cpu (entry.File name bytes) = tt
acts-have-len cpu (entry.Typed bytes) = tt
acts-have-len cpu (entry.Unplug device) = tt
acts-have-len cpu (entry.Slice pid ran) = tt
