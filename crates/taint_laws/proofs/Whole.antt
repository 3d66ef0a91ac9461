-- What is read or given lies whole in one window.
use Rattle.std.proofs.Common.{◌≡◌, ℕ, ◌+◌, ◌≤◌, ◌<◌, List, [], ◌∷◌, length, refl, sym, ap, subst, Option, Some, None, IfSome, Bool, true, false, ◌==◌, not, if◌then◌else◌, arith, nat_le, nat_lt, is_some, option_map, option_and_then, inl, inr}
use Rattle.std.proofs.lemmas.Bool.Decides.{nat_tests}
use Rattle.std.proofs.lemmas.Bool.{and_from, and_left, and_right, and_cases, and_parts, le-leb, lt-ltb, le-ltb, lt-leb, leb-true, ltb-false, eqb-false}
use Rattle.arn_base.specs.declared.machine.Cpu.{Cpu}
use Rattle.arn_base.specs.declared.records.Extra.{Extra}
use Rattle.arn_base.specs.declared.records.Extra.TheVariants as extra
use Rattle.arn_base.specs.declared.records.Record.{Record}
use Rattle.arn_base.specs.Window.{Window, is_whole_in, window_bytes, bytes_at, number_of, number_at}
use Rattle.rv64_isa.specs.declared.instruction.Instr.{Instr}
use Rattle.rv64_isa.specs.declared.instruction.Instr.TheVariants.{Lui, Auipc, Jal, Jalr, Branch, Load, Store, Imm, Op, Fence, Ecall, Ebreak}
use Rattle.rv64_isa.specs.Decoded.{decoded}
use Rattle.rv64_model.specs.Instruction.{Effect, Next, Call, End, jumps, branches, loads, stores, executed, executed_if, fetched}
use Rattle.rv64_model.specs.Operands.{address, accessed, store_len}
use Rattle.rv64_model.specs.Registers.{register}
use Rattle.rv64_model.specs.Values.{immediate, sum, is_taken, load_len, load_result}
use Rattle.parts_model.specs.declared.limits.TheConstants.{WINDOW_START, WINDOW_END, WINDOW_LEN, SEGMENT_START, SEGMENT_END, SEGMENT_LEN}
use Rattle.parts_model.specs.Image.{is_image}
use Rattle.parts_model.specs.Memory.{windows, shared_window}
use Rattle.parts_model.specs.Replies.{is_success}
use Rattle.acts_model.specs.Acts.{Act, Returns, Gives, Starts, Forks, Founds}
use Rattle.acts_model.specs.Bodies.{View}
use Rattle.acts_model.specs.Disagreement.{Wrong, wrong_if, or_else, differ_from, is_outside, isnt_block, act_wrong, wrong_with}
use Rattle.acts_model.specs.Told.{Kind, Fork, Exec, Wait, Read, Write, call_act, act_of}
use Rattle.acts_model.specs.Transfers.{Holds, Place, is_private, is_shared, place_at, place_of}
use Rattle.acts_model.specs.Views.{argument, bytes_in, can_reach, reach, stands_at}
use Rattle.taint_flow.specs.Names.{loaded_len}
use Rattle.taint_state.specs.Steps.{IsWhole}
use Rattle.taint_laws.proofs.Rooms.{HasRooms}

abbrev IsRange : ℕ → ℕ → Type 0
IsRange at len = (k : ℕ) → k < len → (is_private (at + k) ≡ is_private at) × (is_shared (at + k) ≡ is_shared at)

private-at : (x : ℕ) → WINDOW_START ≤ x → x < WINDOW_END → is_private x ≡ true
private-at x a b = and_from (nat_le WINDOW_START x) (nat_lt x WINDOW_END) (le-leb WINDOW_START x a) (lt-ltb x WINDOW_END b)

not-private : (x : ℕ) → WINDOW_END ≤ x → is_private x ≡ false
not-private x h = and_right (nat_le WINDOW_START x) (nat_lt x WINDOW_END) (le-ltb x WINDOW_END h)

shared-at : (x : ℕ) → SEGMENT_START ≤ x → x < SEGMENT_END → is_shared x ≡ true
shared-at x a b = and_from (nat_le SEGMENT_START x) (nat_lt x SEGMENT_END) (le-leb SEGMENT_START x a) (lt-ltb x SEGMENT_END b)

not-shared : (x : ℕ) → x < SEGMENT_START → is_shared x ≡ false
not-shared x h = and_left (nat_le SEGMENT_START x) (nat_lt x SEGMENT_END) (lt-leb SEGMENT_START x h)

private-range : (at len : ℕ) → WINDOW_START ≤ at → at + len ≤ WINDOW_END → IsRange at len
private-range at len h1 h2 = grind (arith, nat_tests, not-shared, private-at)

shared-range : (at len : ℕ) → SEGMENT_START ≤ at → at + len ≤ SEGMENT_END → IsRange at len
shared-range at len h1 h2 = grind (arith, nat_tests, not-private, shared-at)

-- bytes that lie whole in one window
whole-from : (w : Window) (at len : ℕ) → is_whole_in w at len ≡ true → (w.from ≤ at) × (at + len ≤ w.from + length w.bytes)
whole-from w at len h1 = grind (arith, nat_tests, and_parts, leb-true)

abbrev shared_one : List ℕ → Window
shared_one segment = record { from = SEGMENT_START; bytes = segment }

abbrev private_one : List ℕ → Window
private_one space = record { from = WINDOW_START; bytes = space }

segment-range : (segment : List ℕ) (at len : ℕ) → length segment ≤ SEGMENT_LEN → is_some (bytes_at (record { from = SEGMENT_START; bytes = segment } ∷ []) at len) ≡ true → IsRange at len
segment-range segment at len h e = by_test (is_whole_in (shared_one segment) at len) refl e
  where
    by_test : (b : Bool) → is_whole_in (shared_one segment) at len ≡ b → is_some (if b then Some (window_bytes (shared_one segment) at len) else None) ≡ true → IsRange at len
    by_test true t k = let parts = whole-from (shared_one segment) at len t in let x = parts.0 in let y = parts.1 in shared-range at len (omega arith) (omega arith)
    by_test false t k = absurd (cc)

later-range : (segment : List ℕ) (o : Option ℕ) (at len : ℕ) → length segment ≤ SEGMENT_LEN → is_some (bytes_at (shared_window (option_map (λ made. segment) o)) at len) ≡ true → IsRange at len
later-range segment None at len h e = absurd (cc)
later-range segment (Some made) at len h e = segment-range segment at len h e

reached-range : (space segment : List ℕ) (o : Option ℕ) (at len : ℕ) → length space ≤ WINDOW_LEN → length segment ≤ SEGMENT_LEN
    → is_some (bytes_at (windows space (option_map (λ made. segment) o)) at len) ≡ true → IsRange at len
reached-range space segment o at len h1 h2 h3 = grind (arith, nat_tests, later-range, private-range, private_one, whole-from)

reach-range : (v : View) (at len : ℕ) → HasRooms v → can_reach v at len ≡ true → IsRange at len
reach-range v at len h e = reached-range v.window v.segment v.body.segment at len h.window h.segment e

place-whole : (holds : Holds) (at len : ℕ) → IsRange at len → IsWhole (place_at holds at) len
place-whole holds at len h1 = grind (arith, nat_tests)

un-not : (b : Bool) → not b ≡ false → b ≡ true
un-not true e = refl
un-not false e = sym e

-- what isn't outside
pub inside-whole : (holds : Holds) (v : View) (at len : ℕ) → HasRooms v → is_outside v at len ≡ false → IsWhole (place_of holds at len) len
inside-whole holds v at len h e = by_test (len == 0) refl
  where
    reached : (len == 0) ≡ false → can_reach v at len ≡ true
    reached t = elim (and_cases (nat_lt 0 len) (not (can_reach v at len)) e) [
      | inl a ↦ (let ne = eqb-false len 0 t in let le = ltb-false 0 len a in absurd (ne (omega arith)))
      | inr b ↦ un-not (can_reach v at len) b
    ]

    by_test : (b : Bool) → (len == 0) ≡ b → IsWhole (if b then None else place_at holds at) len
    by_test true t = tt
    by_test false t = place-whole holds at len (reach-range v at len h (reached t))

-- a load

abbrev Loaded : List Window → Cpu → Instr → Type 0
Loaded ws cpu (Load op rd rs1 imm) = is_some (bytes_at ws (address cpu rs1 imm) (load_len op)) ≡ true
Loaded ws cpu other = Unit {0}

abbrev LoadsIn : List Window → Cpu → Effect → Type 0
LoadsIn ws cpu (Next instr after memory) = Loaded ws cpu instr
LoadsIn ws cpu Call = Unit {0}
LoadsIn ws cpu (End status) = Unit {0}

jumps-in : (ws : List Window) (at : Cpu) (instr : Instr) (cpu : Cpu) (memory : List Window) (rd target : ℕ) → Loaded ws at instr → LoadsIn ws at (jumps instr cpu memory rd target)
jumps-in ws at instr cpu memory rd target h1 = grind (arith, nat_tests)

branches-in : (ws : List Window) (at : Cpu) (instr : Instr) (cpu : Cpu) (memory : List Window) (b : Bool) (target : ℕ) → Loaded ws at instr → LoadsIn ws at (branches instr cpu memory b target)
branches-in ws at instr cpu memory false target h = h
branches-in ws at instr cpu memory true target h = jumps-in ws at instr cpu memory 0 target h

stores-in : (ws : List Window) (at : Cpu) (instr : Instr) (cpu : Cpu) (memory : List Window) (a len value : ℕ) → Loaded ws at instr → LoadsIn ws at (stores instr cpu memory a len value)
stores-in ws at instr cpu memory a len value h1 = grind (arith, nat_tests)

executed-in : (instr : Instr) (cpu : Cpu) (ws : List Window) → LoadsIn ws cpu (executed instr cpu ws)
executed-in (Lui rd imm) cpu ws = tt
executed-in (Auipc rd imm) cpu ws = tt
executed-in (Jal rd imm) cpu ws = jumps-in ws cpu (Jal rd imm) cpu ws rd (sum cpu.pc (immediate imm)) tt
executed-in (Jalr rd rs1 imm) cpu ws = jumps-in ws cpu (Jalr rd rs1 imm) cpu ws rd _ tt
executed-in (Branch op rs1 rs2 imm) cpu ws = branches-in ws cpu (Branch op rs1 rs2 imm) cpu ws (is_taken op (register cpu rs1) (register cpu rs2)) (sum cpu.pc (immediate imm)) tt
executed-in (Load op rd rs1 imm) cpu ws = by_bytes (bytes_at ws (address cpu rs1 imm) (load_len op)) refl
  where
    by_bytes : (o : Option (List ℕ)) → bytes_at ws (address cpu rs1 imm) (load_len op) ≡ o → LoadsIn ws cpu (loads (Load op rd rs1 imm) cpu ws rd (option_map (load_result op) (option_map number_of o)))
    by_bytes None e = tt
    by_bytes (Some bytes) e = ap is_some e
executed-in (Store op rs1 rs2 imm) cpu ws = stores-in ws cpu (Store op rs1 rs2 imm) cpu ws (address cpu rs1 imm) (store_len op) (register cpu rs2) tt
executed-in (Imm op rd rs1 imm) cpu ws = tt
executed-in (Op op rd rs1 rs2) cpu ws = tt
executed-in (Fence word) cpu ws = tt
executed-in Ecall cpu ws = tt
executed-in Ebreak cpu ws = tt

executed_if-in : (o : Option Instr) (cpu : Cpu) (ws : List Window) → LoadsIn ws cpu (executed_if o cpu ws)
executed_if-in None cpu ws = tt
executed_if-in (Some instr) cpu ws = executed-in instr cpu ws

fetched-in : (o : Option ℕ) (cpu : Cpu) (ws : List Window) → LoadsIn ws cpu (fetched o cpu ws)
fetched-in None cpu ws = tt
fetched-in (Some word) cpu ws = executed_if-in (decoded word) cpu ws

nothing-whole : (o : Option Place) → IsWhole o 0
nothing-whole None = tt
nothing-whole (Some place) = λ k l. absurd (omega arith)

loaded-whole : (holds : Holds) (v : View) (instr : Instr) → HasRooms v → Loaded (reach v) v.body.cpu instr → IsWhole (option_and_then (place_at holds) (accessed instr v.body.cpu)) (loaded_len instr)
loaded-whole holds v (Load op rd rs1 imm) h l = place-whole holds (address v.body.cpu rs1 imm) (load_len op) (reach-range v (address v.body.cpu rs1 imm) (load_len op) h l)
loaded-whole holds v (Store op rs1 rs2 imm) h l = nothing-whole (place_at holds (address v.body.cpu rs1 imm))
loaded-whole holds v other h l = tt

pub instr-whole : (holds : Holds) (v : View) (instr : Instr) (cpu : Cpu) (memory : List Window) → HasRooms v → stands_at v ≡ Next instr cpu memory
    → IsWhole (option_and_then (place_at holds) (accessed instr v.body.cpu)) (loaded_len instr)
instr-whole holds v instr cpu memory h e = loaded-whole holds v instr h (subst (LoadsIn (reach v) v.body.cpu) e (fetched-in (number_at (reach v) v.body.cpu.pc 4) v.body.cpu (reach v)))

-- acts that their records' checks let pass

abbrev pub ActsWell : View → Act → Type 0
ActsWell v (Gives at len result) = is_outside v at len ≡ false
ActsWell v (Starts file block len) = isnt_block v block len ≡ false
ActsWell v act = Unit {0}

wrong_if-none : (test : Bool) (said found : ℕ) → wrong_if test said found ≡ None → test ≡ false
wrong_if-none true said found e = absurd (cc)
wrong_if-none false said found e = refl

or_else-none : (a b : Option Wrong) → or_else a b ≡ None → (a ≡ None) × (b ≡ None)
or_else-none None b e = (refl, e)
or_else-none (Some wrong) b e = absurd (cc)

agree-inside : (bytes : List ℕ) (v : View) (at : ℕ) → differ_from bytes (bytes_in v at (length bytes)) ≡ None → is_outside v at (length bytes) ≡ false
agree-inside bytes v at h1 = grind (arith, nat_tests, and_right)

if-well : (v : View) (b : Bool) (x y : Act) → ActsWell v x → ActsWell v y → ActsWell v (if b then x else y)
if-well v true x y h k = h
if-well v false x y h k = k

starts-well : (v : View) (file : List ℕ) (block len : ℕ) (more : Extra) → act_wrong v (Starts file block len) more ≡ None → ActsWell v (Starts file block len)
starts-well v file block len more e =
    wrong_if-none (isnt_block v block len) len 0 (or_else-none (wrong_if (not (is_image file)) (length file) 0) (wrong_if (isnt_block v block len) len 0) e).1

fork-well : (v : View) (result : ℕ) (more : Extra) → ActsWell v (call_act Fork v.body.cpu result more)
fork-well v result (extra.Start start) = if-well v (is_success result) (Founds result) (Returns result) tt tt
fork-well v result more = if-well v (is_success result) (Forks result) (Returns result) tt tt

exec-well : (v : View) (result : ℕ) (more : Extra) → act_wrong v (call_act Exec v.body.cpu result more) more ≡ None → ActsWell v (call_act Exec v.body.cpu result more)
exec-well v result (extra.Give give) e = starts-well v give.bytes (argument v.body.cpu 2) (argument v.body.cpu 3) (extra.Give give) e
exec-well v result more e = tt

wait-well : (v : View) (result : ℕ) (more : Extra) → ActsWell v (call_act Wait v.body.cpu result more)
wait-well v result (extra.Give give) = tt
wait-well v result more = tt

read-well : (v : View) (result : ℕ) (more : Extra) → ActsWell v (call_act Read v.body.cpu result more)
read-well v result more = grind (arith, nat_tests)

write-well : (v : View) (result : ℕ) (more : Extra) → act_wrong v (call_act Write v.body.cpu result more) more ≡ None → ActsWell v (call_act Write v.body.cpu result more)
write-well v result more h1 = grind (arith, nat_tests, agree-inside, wrong_if-none)

call-well : (v : View) (kind : Kind) (result : ℕ) (more : Extra) → act_wrong v (call_act kind v.body.cpu result more) more ≡ None → ActsWell v (call_act kind v.body.cpu result more)
call-well v kind result more h1 = grind (arith, nat_tests, exec-well, fork-well, if-well, read-well, wait-well, write-well)

pub record-well : (v : View) (effect : Effect) (e : Record) → wrong_with v effect e ≡ None → IfSome (act_of v.body.cpu e) (ActsWell v)
record-well v effect e h1 = grind (arith, nat_tests, call-well, if-well, or_else-none, starts-well)
