-- What the checks of a list of records say of one record: its process, the child that it tells of, and how a group begins.
use Rattle.std.proofs.Common.{◌≡◌, ℕ, ◌+◌, ◌≤◌, ◌==◌, ◌&&◌, not, if◌then◌else◌, max, length, Bool, true, false, List, Option, Some, None, IfSome, refl, sym, ap, subst, ◌∙◌, arith}
use Rattle.std.specs.Option.{option_map_or}
use Rattle.std.proofs.lemmas.Bool.Decides.{nat_tests}
use Rattle.std.proofs.lemmas.Bool.{eqb-true, or_parts}
use Rattle.arn_base.specs.declared.machine.Cpu.{Cpu}
use Rattle.arn_base.specs.declared.records.Extra.{Extra}
use Rattle.arn_base.specs.declared.records.Extra.TheVariants as extra
use Rattle.arn_base.specs.declared.records.Record.{Record}
use Rattle.arn_base.specs.declared.records.Record.TheVariants as entry
use Rattle.arn_base.specs.declared.records.Start.{Start}
use Rattle.parts_model.specs.declared.calls.TheConstants.{FORK}
use Rattle.parts_model.specs.declared.limits.TheConstants.{WINDOW_LEN}
use Rattle.parts_model.specs.Replies.{is_success}
use Rattle.acts_model.specs.Acts.{Act, Delivers, Dies, beginning_in}
use Rattle.acts_model.specs.Records.{child_called, child_forked, child_number, child_start, start_held}
use Rattle.acts_model.specs.Told.{Kind, Fork, Exec, Wait, Sigreturn, Read, Write, Shm, Other, kind_of, call_act, act_of}
use Rattle.history_model.specs.Alone.{Own, Made, Makes, Fails, begins, begins_by, begins_if}
use Rattle.history_model.specs.Broken.{cant_follow, child_in, greatest, greatest_after, has_blocks_wrong, lacks_slice, misnumbers, start_in}
use Rattle.window_laws.specs.Blocks.{HasWholeBlocks}
use Rattle.taint_laws.proofs.Rooms.{blocks-room, zeros-len}
use Rattle.taint_laws.proofs.States.{IsChild}

-- what holds of what was made, unless the records disagree
abbrev pub Ends : (Own → Type 0) → Made → Type 0
Ends P (Makes own) = P own
Ends P (Fails disagrees) = Unit {0}

pub un-not : (b : Bool) → not b ≡ false → b ≡ true
un-not true e = refl
un-not false e = sym e

pub record Stands (before : List Record) (e : Record) : Type 0 where
  pub slice : lacks_slice before e ≡ false
  pub blocks : has_blocks_wrong (start_in e) ≡ false
  pub numbers : misnumbers before (child_in e) ≡ false

pub can-follow : (before : List Record) (e : Record) → cant_follow before e ≡ false → Stands before e
can-follow before e h1 = grind (arith, nat_tests, or_parts)

-- a child's number

some-number : (a b : ℕ) → Some a ≡ Some b → a ≡ b
some-number a b e = cc

pub child-number : (before : List Record) (e : Record) (child : ℕ) → misnumbers before (child_in e) ≡ false → child_in e ≡ Some child → child ≡ greatest before + 1
child-number before e child m c = eqb-true child (greatest before + 1) (un-not (child == greatest before + 1) (subst (λ (o : Option ℕ). misnumbers before o ≡ false) c m))

pub more-after : (e : Record) (n : ℕ) → n ≤ greatest_after e n
more-after e n = grind (arith, nat_tests)

pub child-after : (e : Record) (n child : ℕ) → child_in e ≡ Some child → child ≤ greatest_after e n
child-after e n child h1 = grind (arith, nat_tests, some-number)

-- the child of an act

if-child : (n m : ℕ) (b : Bool) (x y : Act) → IsChild n m x → IsChild n m y → IsChild n m (if b then x else y)
if-child n m true x y h k = h
if-child n m false x y h k = k

exec-child : (n m : ℕ) (cpu : Cpu) (result : ℕ) (more : Extra) → IsChild n m (call_act Exec cpu result more)
exec-child n m cpu result (extra.Give give) = tt
exec-child n m cpu result more = tt

wait-child : (n m : ℕ) (cpu : Cpu) (result : ℕ) (more : Extra) → IsChild n m (call_act Wait cpu result more)
wait-child n m cpu result (extra.Give give) = tt
wait-child n m cpu result more = tt

read-child : (n m : ℕ) (cpu : Cpu) (result : ℕ) (more : Extra) → IsChild n m (call_act Read cpu result more)
read-child n m cpu result more = grind (arith, nat_tests)

write-child : (n m : ℕ) (cpu : Cpu) (result : ℕ) (more : Extra) → IsChild n m (call_act Write cpu result more)
write-child n m cpu result more = grind (arith, nat_tests, if-child)

kind-child : (n m : ℕ) (cpu : Cpu) (kind : Kind) (result : ℕ) (more : Extra) → (kind ≡ Fork → IsChild n m (call_act Fork cpu result more)) → IsChild n m (call_act kind cpu result more)
kind-child n m cpu kind result more h1 = grind (arith, nat_tests, exec-child, if-child, read-child, wait-child, write-child)

no-fork : (c d e f g h : Bool)
    → (if c then Exec else if d then Wait else if e then Sigreturn else if f then Read else if g then Write else if h then Shm else Other) ≡ Fork → ⊥
no-fork c d e f g h h1 = grind (arith, nat_tests)

kind-fork : (n : ℕ) → kind_of n ≡ Fork → (n == FORK) ≡ true
kind-fork n h1 = grind (arith, nat_tests, no-fork)

fork-child : (n : ℕ) (s : Bool) (cpu : Cpu) (result : ℕ) (more : Extra) → is_success result ≡ s → (s ≡ true → result ≡ n + 1) → IsChild n (if s then max n result else n) (call_act Fork cpu result more)
fork-child n s cpu result more h1 h2 = grind (arith, nat_tests)

call-child : (before : List Record) (pid number result : ℕ) (more : Extra) (cpu : Cpu) → misnumbers before (child_in (entry.Call pid number result more)) ≡ false
    → IsChild (greatest before) (greatest_after (entry.Call pid number result more) (greatest before)) (call_act (kind_of number) cpu result more)
call-child before pid number result more cpu m = by_tests (number == FORK) (is_success result) refl refl m
  where
    by_tests : (t s : Bool) → (number == FORK) ≡ t → is_success result ≡ s → misnumbers before (child_number (if t && s then Some (child_forked result more) else None)) ≡ false
        → IsChild (greatest before) (option_map_or (max (greatest before)) (child_number (if t && s then Some (child_forked result more) else None)) (greatest before)) (call_act (kind_of number) cpu result more)
    by_tests true true e f k =
        kind-child (greatest before) (max (greatest before) result) cpu (kind_of number) result more
        (λ q. fork-child (greatest before) true cpu result more f (λ r. eqb-true result (greatest before + 1) (un-not (result == greatest before + 1) k)))
    by_tests true false e f k = kind-child (greatest before) (greatest before) cpu (kind_of number) result more (λ q. fork-child (greatest before) false cpu result more f (λ r. absurd (cc)))
    by_tests false s e f k = kind-child (greatest before) (greatest before) cpu (kind_of number) result more (λ q. absurd (let is = sym e ∙ kind-fork number q in cc))

pub record-child : (before : List Record) (e : Record) → misnumbers before (child_in e) ≡ false → (cpu : Cpu) → IfSome (act_of cpu e) (IsChild (greatest before) (greatest_after e (greatest before)))
record-child before (entry.Call pid number result more) m cpu = call-child before pid number result more cpu m
record-child before (entry.Signal pid signal cut handler) m cpu = if-child (greatest before) (greatest before) (handler == 0) (Dies signal cut) (Delivers signal handler cut) tt tt
record-child before (entry.Boot name give) m cpu = tt
record-child before (entry.End pid status) m cpu = tt
record-child before (entry.File name bytes) m cpu = tt
record-child before (entry.Typed bytes) m cpu = tt
record-child before (entry.Unplug device) m cpu = tt
record-child before (entry.Slice pid ran) m cpu = tt

-- a group begins, or nothing happens

call-ends : (P : Own → Type 0) (g event pid number result : ℕ) (more : Extra) (own : Own)
    → P own → ((start : Start) → start_in (entry.Call pid number result more) ≡ Some start → child_in (entry.Call pid number result more) ≡ Some g → P (begins g event (entry.Call pid number result more) start own))
    → Ends P (begins_if g result event (entry.Call pid number result more) (child_start (child_called number result more)) own)
call-ends P g event pid number result more own here begin = by_test ((number == FORK) && is_success result) (start_held more) refl refl
  where
    by_number : (start : Start) (b : Bool) → start_held more ≡ Some start → ((number == FORK) && is_success result) ≡ true → (result == g) ≡ b
        → Ends P (if b then Makes (begins g event (entry.Call pid number result more) start own) else Makes own)
    by_number start true held made same =
        begin start held (ap (λ (b : Bool). child_number (if b then Some (child_forked result more) else None)) made ∙ ap (λ (n : ℕ). Some n) (eqb-true result g same))
    by_number start false held made same = here

    by_test : (b : Bool) (o : Option Start) → ((number == FORK) && is_success result) ≡ b → start_held more ≡ o
        → Ends P (begins_if g result event (entry.Call pid number result more) (child_start (if b then Some (record { number = result; start = o }) else None)) own)
    by_test false o made held = here
    by_test true None made held = here
    by_test true (Some start) made held = by_number start (result == g) held made refl

pub begins-ends : (P : Own → Type 0) (g event : ℕ) (e : Record) (own : Own) → P own → ((start : Start) → start_in e ≡ Some start → child_in e ≡ Some g → P (begins g event e start own)) → Ends P (begins_by g event e own)
begins-ends P g event e own h1 h2 = grind (arith, nat_tests, call-ends)

pub start-room : (e : Record) (start : Start) → has_blocks_wrong (start_in e) ≡ false → HasWholeBlocks e → start_in e ≡ Some start → length (beginning_in start).window ≤ WINDOW_LEN
start-room e start h1 h2 h3 = grind (arith, nat_tests, blocks-room, un-not, zeros-len)
