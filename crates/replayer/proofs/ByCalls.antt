-- Who lives behind a call, and of which group.
use Rattle.std.proofs.lemmas.Bool.Decides.{nat_tests}
use Rattle.std.proofs.lemmas.Grind.{common_steps}
use Rattle.std.proofs.Common.{◌≡◌, ◌≢◌, ◌⊎◌, ℕ, ◌==◌, ◌&&◌, Bool, true, false, if◌then◌else◌, Some, None, inl, inr, refl, ap, sym, ◌∙◌, arith}
use Rattle.std.proofs.lemmas.Bool.{and_parts, eqb-true}
use Rattle.std.proofs.lemmas.Bool.Decides.{eqb_tells}
use Rattle.arn_base.specs.declared.machine.Cpu.{Cpu}
use Rattle.arn_base.specs.declared.records.Extra.{Extra}
use Rattle.arn_base.specs.declared.records.Extra.TheVariants as extra
use Rattle.arn_base.specs.declared.records.Start.{Start}
use Rattle.parts_model.specs.declared.calls.TheConstants as number
use Rattle.parts_model.specs.Replies.{is_success}
use Rattle.acts_model.specs.Acts.{Act, Forks, Returns}
use Rattle.acts_model.specs.Records.{EndsLife, child_forked, child_life, lives_after}
use Rattle.acts_model.specs.Told.{Kind, Exit, Fork, Exec, Wait, Sigreturn, Read, Write, Shm, Other, call_act, exec_act, fork_act, kind_of, read_act, wait_act, write_act}
use Rattle.history_model.specs.Groups.{Groups, group_made, is_number}
use Rattle.replayer.proofs.Bodies.{ends}
use Rattle.replayer.proofs.Own.{made-kept, same-test}
use Rattle.replayer.proofs.Passing.{no-way}

-- a fork is no exit
pub fork-not-exit : (n : ℕ) (success : Bool) → ((n == number.FORK) && success) ≡ true → (n == number.EXIT) ≡ false
fork-not-exit n success is = ap (λ (m : ℕ). m == number.EXIT) (eqb-true n number.FORK (and_parts (n == number.FORK) success is).0)

-- who lives is the child, or lived before
pub call-lives : (exits forks : Bool) (more : Extra) (pid r p : ℕ) (before : Bool) → (forks ≡ true → exits ≡ false)
    → lives_after (if exits then EndsLife pid else child_life (if forks then Some (child_forked r more) else None)) p before ≡ true
    → ((forks ≡ true) × (p ≡ r)) ⊎ ((before ≡ true) × (p ≡ pid → exits ≡ false) × (forks ≡ true → p ≢ r))
call-lives exits forks more pid r p before h1 h2 = grind (arith, common_steps, nat_tests, no-way, same-test, eqb_tells)

pub called-other : (forks : Bool) (more : Extra) (pid r p : ℕ) (groups : Groups) → (forks ≡ true → p ≢ r) → group_made pid (if forks then Some (child_forked r more) else None) groups p ≡ groups p
called-other true more pid r p groups apart = made-kept (child_forked r more) pid groups p (apart refl)
called-other false more pid r p groups apart = refl

-- a child is of the group that it starts, or of its parent's, which it joins
module _ (g pid r : ℕ) (groups : Groups) where
  joined : (more : Extra) → fork_act r more ≡ (if is_success r then Forks r else Returns r) → is_number g (if r == r then groups pid else groups r) ≡ true
      → ((start : Start) × (more ≡ extra.Start start) × (r ≡ g)) ⊎ ((is_number g (groups pid) ≡ true) × (fork_act r more ≡ (if is_success r then Forks r else Returns r)))
  joined more same is = inr (sym (ap (λ (c : Bool). is_number g (if c then groups pid else groups r)) (same-test r r refl)) ∙ is, same)

  pub forked-child : (more : Extra) → is_number g (group_made pid (Some (child_forked r more)) groups r) ≡ true
      → ((start : Start) × (more ≡ extra.Start start) × (r ≡ g)) ⊎ ((is_number g (groups pid) ≡ true) × (fork_act r more ≡ (if is_success r then Forks r else Returns r)))
  forked-child (extra.Start start) is = inl (start, refl, eqb-true r g (sym (ap (λ (c : Bool). is_number g (if c then Some r else groups r)) (same-test r r refl)) ∙ is))
  forked-child more is = joined more refl is

-- a fork that succeeds without a start makes a child that joins
pub forks-act : (n r : ℕ) (more : Extra) (cpu : Cpu) → ((n == number.FORK) && is_success r) ≡ true → fork_act r more ≡ (if is_success r then Forks r else Returns r) → call_act (kind_of n) cpu r more ≡ Forks r
forks-act n r more cpu h1 h2 = grind (arith, common_steps, nat_tests, and_parts, eqb-true)

-- only an exit ends its process
either-lives : (test : Bool) (a b : Act) → ends a ≡ false → ends b ≡ false → ends (if test then a else b) ≡ false
either-lives true a b first second = first
either-lives false a b first second = second

fork-lives : (r : ℕ) (more : Extra) → ends (fork_act r more) ≡ false
fork-lives r more = grind arith

exec-lives : (cpu : Cpu) (r : ℕ) (more : Extra) → ends (exec_act cpu r more) ≡ false
exec-lives cpu r more = grind arith

wait-lives : (cpu : Cpu) (r : ℕ) (more : Extra) → ends (wait_act cpu r more) ≡ false
wait-lives cpu r more = grind arith

read-lives : (cpu : Cpu) (r : ℕ) (more : Extra) → ends (read_act cpu r more) ≡ false
read-lives cpu r more = grind arith

write-lives : (cpu : Cpu) (r : ℕ) (more : Extra) → ends (write_act cpu r more) ≡ false
write-lives cpu r more = grind arith

-- the kind of an exit
abbrev is_exit : Kind → Bool
is_exit Exit = true
is_exit kind = false

kind-lives : (k : Kind) (cpu : Cpu) (r : ℕ) (more : Extra) → is_exit k ≡ false → ends (call_act k cpu r more) ≡ false
kind-lives k cpu r more h1 = grind (arith, common_steps, nat_tests, no-way, fork-lives, exec-lives, wait-lives, either-lives, read-lives, write-lives)

not-exit : (a b c d e f g h : Bool) → a ≡ false → is_exit (if a then Exit else if b then Fork else if c then Exec else if d then Wait else if e then Sigreturn else if f then Read else if g then Write else if h then Shm else Other) ≡ false
not-exit a b c d e f g h h1 = grind (arith, common_steps, nat_tests)

pub ends-call : (n : ℕ) (cpu : Cpu) (r : ℕ) (more : Extra) → (n == number.EXIT) ≡ false → ends (call_act (kind_of n) cpu r more) ≡ false
ends-call n cpu r more h1 = grind (arith, common_steps, nat_tests, kind-lives, not-exit)
