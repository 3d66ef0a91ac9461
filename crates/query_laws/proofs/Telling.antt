-- What a step of a group receives is what its record says.
use Rattle.std.proofs.Common.{◌≡◌, ◌⊎◌, inr, ℕ, ◌==◌, ◌||◌, Bool, true, false, if◌then◌else◌, Option, Some, None, IfSome, option_map, refl, ap, sym, subst, arith}
use Rattle.std.proofs.lemmas.Bool.Decides.{nat_tests}
use Rattle.std.proofs.lemmas.Option.{none-some, same_Some}
use Rattle.arn_base.specs.declared.machine.Cpu.{Cpu}
use Rattle.arn_base.specs.declared.records.Extra.{Extra}
use Rattle.arn_base.specs.declared.records.Extra.TheVariants as extra
use Rattle.arn_base.specs.declared.records.Give.{Give}
use Rattle.arn_base.specs.declared.records.Record.{Record}
use Rattle.arn_base.specs.declared.records.Record.TheVariants as entry
use Rattle.parts_model.specs.declared.calls.TheConstants.{EXIT, FORK, EXEC, WAIT, SIGRETURN, READ, WRITE, SHM}
use Rattle.parts_model.specs.Replies.{is_success}
use Rattle.acts_model.specs.Acts as act
use Rattle.acts_model.specs.Acts.{Act}
use Rattle.acts_model.specs.Moved.{Inside}
use Rattle.acts_model.specs.Records.{event_len, give_of}
use Rattle.acts_model.specs.Told.{Kind, Exit, Fork, Exec, Wait, Sigreturn, Read, Write, Shm, Other, kind_of, act_of, call_act}
use Rattle.acts_model.specs.Transfers.{Holds, transfer}
use Rattle.history_model.specs.Exchanges.{call_received, is_receiving, received}
use Rattle.lineage_model.specs.Joined.{is_source}
use Rattle.taint_laws.specs.Follows.{IsStep, Steps, Hears, Starts, with_booted}
use Rattle.taint_state.specs.Lens.{ActsHaveLen, HasLen}
use Rattle.taint_state.specs.Steps.{Holders, event_by, event_inside, event_step, instr_inside}
use Rattle.query_laws.proofs.Items.{IsOfRecord, TellsRecord}

-- an act that receives bytes
abbrev Receiving : Act → Type 0
Receiving (act.Starts file block block_len) = Unit {0}
Receiving (act.Receives at bytes result) = Unit {0}
Receiving other = ⊥

abbrev HasOrigin : Record → Type 0
HasOrigin e = (is_source e ≡ true) ⊎ (received e ≡ give_of e)

-- the calls that receive
abbrev IsKind : Kind → Bool → Bool → Bool → Type 0
IsKind Exec exec wait read = (exec || (wait || read)) ≡ true
IsKind Wait exec wait read = (exec || (wait || read)) ≡ true
IsKind Read exec wait read = ((exec || (wait || read)) ≡ true) × (read ≡ true)
IsKind kind exec wait read = Unit {0}

kind-by : (exit fork exec wait sigreturn read write shm : Bool)
    → IsKind (if exit then Exit else if fork then Fork else if exec then Exec else if wait then Wait else if sigreturn then Sigreturn else if read then Read else if write then Write else if shm then Shm else Other) exec wait read
kind-by exit fork exec wait sigreturn read write shm = grind (arith, nat_tests)

kind-is : (n : ℕ) → IsKind (kind_of n) (n == EXEC) (n == WAIT) (n == READ)
kind-is n = kind-by (n == EXIT) (n == FORK) (n == EXEC) (n == WAIT) (n == SIGRETURN) (n == READ) (n == WRITE) (n == SHM)

neither : {P : Type 0} (b : Bool) (x y : Act) → (Receiving x → ⊥) → (Receiving y → ⊥) → Receiving (if b then x else y) → P
neither true x y f g r = absurd (f r)
neither false x y f g r = absurd (g r)

given : (n : ℕ) (give : Give) → is_receiving n ≡ true → call_received n (extra.Give give) ≡ Some give
given n give is = ap (λ (b : Bool). (if b then Some give else None)) is

fork-origin : {P : Type 0} (cpu : Cpu) (result : ℕ) (more : Extra) → Receiving (call_act Fork cpu result more) → P
fork-origin cpu result (extra.Start start) r = neither (is_success result) (act.Founds result) (act.Returns result) (λ x. x) (λ x. x) r
fork-origin cpu result more r = neither (is_success result) (act.Forks result) (act.Returns result) (λ x. x) (λ x. x) r

exec-origin : (cpu : Cpu) (pid n result : ℕ) (more : Extra) → is_receiving n ≡ true → Receiving (call_act Exec cpu result more) → HasOrigin (entry.Call pid n result more)
exec-origin cpu pid n result (extra.Give give) is r = inr (given n give is)
exec-origin cpu pid n result more is r = absurd r

wait-origin : (cpu : Cpu) (pid n result : ℕ) (more : Extra) → is_receiving n ≡ true → Receiving (call_act Wait cpu result more) → HasOrigin (entry.Call pid n result more)
wait-origin cpu pid n result (extra.Give give) is r = inr (given n give is)
wait-origin cpu pid n result more is r = absurd r

read-origin : (cpu : Cpu) (pid n result : ℕ) (more : Extra) → is_receiving n ≡ true → (n == READ) ≡ true → Receiving (call_act Read cpu result more) → HasOrigin (entry.Call pid n result more)
read-origin cpu pid n result more h1 h2 h3 = grind (arith, nat_tests, given)

write-origin : {P : Type 0} (cpu : Cpu) (result : ℕ) (more : Extra) → Receiving (call_act Write cpu result more) → P
write-origin cpu result more h1 = grind (arith, nat_tests, neither)

call-origin : (cpu : Cpu) (pid n result : ℕ) (more : Extra) (kind : Kind) → IsKind kind (n == EXEC) (n == WAIT) (n == READ) → Receiving (call_act kind cpu result more) → HasOrigin (entry.Call pid n result more)
call-origin cpu pid n result more kind h1 h2 = grind (arith, nat_tests, exec-origin, fork-origin, neither, read-origin, wait-origin, write-origin)

receiving-origin : (cpu : Cpu) (e : Record) (a : Act) → act_of cpu e ≡ Some a → Receiving a → HasOrigin e
receiving-origin cpu e a h1 h2 = grind (arith, nat_tests, call-origin, kind-is, neither, none-some, same_Some)

-- how a step comes of what members hold
pub record HearsAs (h : Holders) (event : ℕ) (e : Record) (before : Cpu) (inside : Inside) : Type 0 where
  pub pid : ℕ
  pub holds : Holds
  pub happened : Act
  pub tells : act_of before e ≡ Some happened
  pub lives : h pid ≡ Some holds
  pub is : event_inside pid event e before holds happened ≡ inside

pub option_map-some : {A B P : Type 0} (f : A → B) (o : Option A) (y : B) → option_map f o ≡ Some y → ((x : A) → o ≡ Some x → f x ≡ y → P) → P
option_map-some f None y is k = absurd (none-some y is)
option_map-some f (Some x) y is k = k x refl (same_Some (f x) y is)

hears-by : (h : Holders) (event pid : ℕ) (e : Record) (before : Cpu) (inside : Inside) (o : Option Holds) → h pid ≡ o → event_by pid event e before o (act_of before e) ≡ Some inside → HearsAs h event e before inside
hears-by h event pid e before inside None lives is = absurd (none-some inside is)
hears-by h event pid e before inside (Some holds) lives is =
    option_map-some (event_inside pid event e before holds) (act_of before e) inside is (λ a tells same. record { pid = pid; holds = holds; happened = a; tells = tells; lives = lives; is = same })

pub hears-as : (h : Holders) (event : ℕ) (e : Record) (before : Cpu) (inside : Inside) → event_step h event e before ≡ Some inside → HearsAs h event e before inside
hears-as h event e before inside h1 = grind (arith, nat_tests, hears-by, none-some)

act-record : (event pid : ℕ) (e : Record) (before : Cpu) (holds : Holds) (a : Act) → act_of before e ≡ Some a → HasLen (event_len e) a → IsOfRecord (transfer pid event holds a) e
act-record event pid e before holds (act.Starts file block block_len) tells len =
    λ k low. record { inside = omega (arith, low, len); received = receiving-origin before e (act.Starts file block block_len) tells tt }
act-record event pid e before holds (act.Receives at bytes result) tells len =
    λ k low. record { inside = omega (arith, low, len); received = receiving-origin before e (act.Receives at bytes result) tells tt }
act-record event pid e before holds _ tells len = tt

pub tells-record : ActsHaveLen → (h : Holders) (i : Inside) → IsStep h i → TellsRecord i.transfer i.event
tells-record lens h i (Steps pid instr is) =
    option_map-some (instr_inside pid instr i.before) (h pid) i is (λ holds lives same. subst (λ (x : Inside). TellsRecord x.transfer x.event) same tt)
tells-record lens h i (Hears event e is) =
    let heard = hears-as (with_booted event e h) event e i.before i is in
    let len = subst (λ (o : Option Act). IfSome o (HasLen (event_len e))) heard.tells (lens i.before e) in
    subst (λ (x : Inside). TellsRecord x.transfer x.event) heard.is (act-record event heard.pid e i.before heard.holds heard.happened heard.tells len)
tells-record lens h i (Starts pid event e is) = subst (λ (x : Inside). TellsRecord x.transfer x.event) (sym is) tt
