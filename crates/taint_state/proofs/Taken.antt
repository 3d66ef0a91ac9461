-- What the numbers of an instruction's operands show.
use Rattle.std.proofs.Common.{◌≡◌, ℕ, zero, suc, ◌+◌, ◌-◌, ◌<◌, ◌≤◌, ◌&&◌, nat_le, nat_lt, Bool, true, false, if◌then◌else◌, IsTrue, List, [], ◌∷◌, ◌++◌, slice_index, flat_map, Option, Some, None, option_map, option_and_then, refl, sym, subst, ap, ◌∙◌, arith}
use Rattle.std.proofs.lemmas.Bool.{leb-true, ltb-true}
use Rattle.arn_base.specs.declared.machine.Cpu.{Cpu}
use Rattle.rv64_isa.specs.declared.instruction.Instr.{Instr}
use Rattle.rv64_model.specs.Carries.{Operand, Left, Right, Loaded, Address, operands}
use Rattle.rv64_model.specs.Operands.{accessed, rs1_of, rs2_of}
use Rattle.parts_model.specs.declared.limits.TheConstants.{WINDOW_START, WINDOW_END, SEGMENT_START, SEGMENT_END}
use Rattle.set_store.specs.declared.item.Item.{Item}
use Rattle.taint_spans.specs.Numbered.{Numbered}
use Rattle.acts_model.specs.Transfers.{Holds, Place, is_private, is_shared, place_at}
use Rattle.lineage_model.specs.Flow.{Memory, Register, bytes_at, operand_bytes, register_bytes}
use Rattle.lineage_model.specs.Tracking.{EventByte, Tracked}
use Rattle.taint_flow.specs.Gathered.{number_of}
use Rattle.taint_flow.specs.Names.{loaded_len}
use Rattle.taint_members.specs.Access.{Memories, held_numbers, number_at, window_numbers}
use Rattle.taint_members.specs.declared.member.MemberSets.{MemberSets}
use Rattle.taint_members.specs.declared.member.Held.{Held}
use Rattle.taint_pages.specs.Rows.{byte_in}
use Rattle.taint_steps.specs.Taking.{IsRead, IsRegister, Takes}
use Rattle.taint_state.specs.Kept.{Kept, items_of, shown_member}
use Rattle.taint_state.proofs.Result.{OperandsShow}
use Rattle.taint_state.specs.RunsShow.{kept_member}
use Rattle.taint_state.specs.Shown.{AreItems, IsRegisterByte, ShowsMember}
use Rattle.taint_state.specs.Sound.{IsSound, IsSoundMember}
use Rattle.taint_state.specs.Steps.{IsWhole}
use Rattle.taint_state.proofs.Reach.{InReach, all-reach, each-contains}

pub append-none : {X : Type 0} (xs : List X) → xs ++ [] ≡ xs
append-none [] = refl
append-none (x ∷ xs) = ap (λ l. x ∷ l) (append-none xs)

pub both-true : (a b : Bool) → (a && b) ≡ true → (a ≡ true) × (b ≡ true)
both-true true true h = (refl, refl)
both-true true false h = cc
both-true false b h = cc

pub private-range : (at : ℕ) → is_private at ≡ true → (WINDOW_START ≤ at) × (at < WINDOW_END)
private-range at h =
    let p = both-true (nat_le WINDOW_START at) (nat_lt at WINDOW_END) h in (leb-true WINDOW_START at p.0, ltb-true at WINDOW_END p.1)

pub shared-range : (at : ℕ) → is_shared at ≡ true → (SEGMENT_START ≤ at) × (at < SEGMENT_END)
shared-range at h =
    let p = both-true (nat_le SEGMENT_START at) (nat_lt at SEGMENT_END) h in (leb-true SEGMENT_START at p.0, ltb-true at SEGMENT_END p.1)

pub true-is : (b : Bool) → b ≡ true → IsTrue b
true-is b e = e

pub move : (a b : List Item) (bytes : List EventByte) → a ≡ b → AreItems b bytes → AreItems a bytes
move a b bytes e h = subst (λ l. AreItems l bytes) (sym e) h

pub move-bytes : (a : List Item) (b c : List EventByte) → b ≡ c → AreItems a c → AreItems a b
move-bytes a b c e h = subst (λ l. AreItems a l) (sym e) h

none-items : AreItems [] []
none-items = λ item. (λ h. h, λ h. h)

module _ (x : Kept) (sound : IsSound x) (pid : ℕ) (m : MemberSets) (memories : Memories) (own : IsSoundMember x.sets (kept_member memories m)) (t : Tracked EventByte)
    (shows : ShowsMember pid t (shown_member x (kept_member memories m))) where
  abbrev holds : Holds
  holds = (kept_member memories m).holds

  zero-shows : (n : ℕ) → n ≡ 0 → AreItems (items_of x n) []
  zero-shows n e = move (items_of x n) [] [] (ap (items_of x) e ∙ sound.empty) none-items

  -- a byte of a register that an instruction names
  register-shows : (numbers : List ℕ) (r i : ℕ) → IsRegister m.registers r numbers → i < 8 → AreItems (items_of x (slice_index numbers i)) (flat_map t.locations (register_bytes pid r i))
  register-shows numbers zero i is b = zero-shows (slice_index numbers i) (is.bytes i b)
  register-shows numbers (suc r) i is b =
      let bytes = t.locations (Register pid (suc r) i) in
      let place : IsRegisterByte (suc r) i = record { above = omega arith; below = is.0; byte = b } in
      move-bytes (items_of x (slice_index numbers i)) (bytes ++ []) bytes (append-none bytes)
      (move (items_of x (slice_index numbers i)) (items_of x (byte_in m.registers (suc r) i)) bytes (ap (items_of x) (is.1.bytes i b)) (shows.registers (suc r) i place))

  abbrev at_place : ℕ → ℕ → Place
  at_place a made = record { made = made; at = a }

  abbrev memory_by : ℕ → Bool → Bool → Option Held → Option Place
  memory_by a b c s = option_map (at_place a) (if b then Some m.window.made else if c then option_map (λ (shared : Held). shared.made) s else None)

  abbrev number_by : ℕ → ℕ → Bool → Bool → Option Held → ℕ
  number_by a k b c s = if b then slice_index (window_numbers m memories) (a - WINDOW_START + k) else if c then slice_index (held_numbers s memories) (a - SEGMENT_START + k) else 0

  -- byte k from an address on
  memory-shows : (a len k : ℕ) → IsWhole (place_at holds a) len → k < len → AreItems (items_of x (number_at m memories a k)) (flat_map t.locations (bytes_at (place_at holds a) k))
  memory-shows a len k whole h = by_place (is_private a) (is_shared a) m.segment refl refl refl whole
    where
      one-byte : (n j : ℕ) (made : ℕ) → n ≡ j → AreItems (items_of x j) (t.locations (Memory made (a + k))) → AreItems (items_of x n) (t.locations (Memory made (a + k)) ++ [])
      one-byte n j made e s =
          move-bytes (items_of x n) (t.locations (Memory made (a + k)) ++ []) (t.locations (Memory made (a + k))) (append-none (t.locations (Memory made (a + k))))
          (move (items_of x n) (items_of x j) (t.locations (Memory made (a + k))) (ap (items_of x) e) s)

      by_place : (b c : Bool) (s : Option Held) → is_private a ≡ b → is_shared a ≡ c → m.segment ≡ s → IsWhole (memory_by a b c s) len
          → AreItems (items_of x (number_by a k b c s)) (flat_map t.locations (bytes_at (memory_by a b c s) k))
      by_place true c s p q e whole =
          let range = private-range a p in
          one-byte (slice_index (window_numbers m memories) (a - WINDOW_START + k)) (slice_index (window_numbers m memories) (a + k - WINDOW_START)) m.window.made (ap (slice_index (window_numbers m memories)) (omega arith))
          (shows.window (a + k) (true-is (is_private (a + k)) ((whole k h).0 ∙ p)))
      by_place false true None p q e whole = zero-shows (slice_index [] (a - SEGMENT_START + k)) refl
      by_place false true (Some shared) p q e whole =
          let range = shared-range a q in
          let numbers = held_numbers (Some shared) memories in
          one-byte (slice_index numbers (a - SEGMENT_START + k)) (slice_index numbers (a + k - SEGMENT_START)) shared.made (ap (slice_index numbers) (omega arith))
          (subst (λ v. AreItems (items_of x (slice_index (held_numbers v memories) (a + k - SEGMENT_START))) (t.locations (Memory shared.made (a + k)))) e
          (shows.segment shared.made (a + k) (ap (λ v. option_map (λ (u : Held). u.made) v) e) (true-is (is_shared (a + k)) ((whole k h).1 ∙ q))))
      by_place false false s p q e whole = zero-shows 0 refl

  read-shows : (acc : Option ℕ) (len k : ℕ) (raw : List ℕ) → IsRead acc len m memories raw → IsWhole (option_and_then (place_at holds) acc) len → k < len
      → AreItems (items_of x (slice_index raw k)) (flat_map t.locations (bytes_at (option_and_then (place_at holds) acc) k))
  read-shows None len k raw read whole h = zero-shows (slice_index raw k) (read.zeros k (omega arith))
  read-shows (Some a) len k raw read whole h =
      let place = place_at holds a in
      move (items_of x (slice_index raw k)) (items_of x (number_at m memories a k)) (flat_map t.locations (bytes_at place k)) (ap (items_of x) (read.bytes k h)) (memory-shows a len k whole h)

  -- what each operand's number shows
  pub operands-show : (instr : Instr) (before : Cpu) (new : Numbered) (numbers : List ℕ) (takes : Takes x.sets new x.linkage instr before m memories numbers) (i : ℕ)
      → i < 8 → IsWhole (option_and_then (place_at holds) (accessed instr before)) (loaded_len instr)
      → OperandsShow x.sets (number_of takes.first takes.second takes.loaded) t.locations pid instr (option_and_then (place_at holds) (accessed instr before)) (operands x.linkage instr i)
  operands-show instr before new numbers takes i b whole operand c =
      by_operand operand (each-contains (InReach (loaded_len instr)) (operands x.linkage instr i) operand c (all-reach x.linkage instr i b))
    where
      by_operand : (o : Operand) → InReach (loaded_len instr) o
          → AreItems (items_of x (number_of takes.first takes.second takes.loaded o)) (flat_map t.locations (operand_bytes pid instr (option_and_then (place_at holds) (accessed instr before)) o))
      by_operand (Left j) h = register-shows takes.first (rs1_of instr) j takes.of_first h
      by_operand (Right j) h = register-shows takes.second (rs2_of instr) j takes.of_second h
      by_operand (Address j) h = register-shows takes.first (rs1_of instr) j takes.of_first h
      by_operand (Loaded k) h = read-shows (accessed instr before) (loaded_len instr) k takes.loaded takes.read whole h
