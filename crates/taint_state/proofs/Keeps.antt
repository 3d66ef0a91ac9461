-- What is kept stays sound by an instruction.
use Rattle.std.proofs.Common.{◌≡◌, ℕ, ◌+◌, ◌-◌, ◌<◌, ◌==◌, ◌&&◌, nat_lt, Bool, true, false, if◌then◌else◌, List, [], length, take, slice_index, Option, Some, None, IfSome, option_map, refl, sym, subst, ap, ◌∙◌, inl, inr, ◌⊎◌, ◌≤◌, arith}
use Rattle.std.proofs.lemmas.Bool.{ltb-true, ltb-false}
use Rattle.std.proofs.lemmas.List.{get_or-take, length-take-le}
use Rattle.std.proofs.lemmas.Grind.{common_steps}
use Rattle.arn_base.specs.declared.machine.Cpu.{Cpu}
use Rattle.rv64_isa.specs.declared.instruction.Instr.{Instr}
use Rattle.rv64_model.specs.Operands.{accessed, rd_of, stored_len}
use Rattle.parts_model.specs.declared.limits.TheConstants.{WINDOW_START, SEGMENT_START}
use Rattle.taint_spans.specs.Numbered.{IsSet, Numbered, StandAsBefore}
use Rattle.acts_model.specs.Transfers.{is_private, is_shared}
use Rattle.taint_members.specs.Access.{ByTest, held_numbers}
use Rattle.taint_members.specs.declared.member.Held.{Held}
use Rattle.taint_pages.specs.Pages.{Puts}
use Rattle.taint_pages.specs.Rows.{byte_in}
use Rattle.taint_state.specs.Events.{WritesHeld}
use Rattle.taint_state.specs.Kept.{Kept, KeptHeard, KeptMember, KeptStart, heard_among}
use Rattle.taint_state.specs.RunsShow.{RunsIn, RunsKeep}
use Rattle.taint_state.specs.Sound.{AreSets, AreSetsOfRow, IsSound, IsSoundHeard, IsSoundMember, IsSoundStart}
use Rattle.taint_state.proofs.Reach.{stored-few}
use Rattle.taint_state.proofs.Runs.{after_kept, heard-same, own, seen-after, stored-segment, stored-window, was_kept}
use Rattle.taint_state.proofs.Keeping.{seen-sound}
use Rattle.taint_state.proofs.Stored.{StoresSegment, StoresWindow}

-- sets that were added to

row-grows : (old new : Numbered) (row : List ℕ) → StandAsBefore old new → AreSetsOfRow old row → AreSetsOfRow new row
row-grows old new row stand h = λ r i is. stand.there (byte_in row r i) (h r i is)

memory-grows : (old new : Numbered) (l : List ℕ) → StandAsBefore old new → AreSets old l → AreSets new l
memory-grows old new l stand h = λ k. stand.there (slice_index l k) (h k)

pub member-grows : (old new : Numbered) (m : KeptMember) → StandAsBefore old new → IsSoundMember old m → IsSoundMember new m
member-grows old new m stand h = record {
  registers = row-grows old new m.registers stand h.registers;
  slot = row-grows old new m.slot stand h.slot;
  window = memory-grows old new m.window stand h.window;
  segment = memory-grows old new m.segment stand h.segment;
  window_whole = h.window_whole;
  segment_whole = h.segment_whole;
  unheld = h.unheld;
}

start-grows : (old new : Numbered) (s : Option KeptStart) → StandAsBefore old new → IfSome s (IsSoundStart old) → IfSome s (IsSoundStart new)
start-grows old new None stand h = tt
start-grows old new (Some s) stand h = record {
  registers = row-grows old new s.registers stand h.registers;
  slot = row-grows old new s.slot stand h.slot;
  window = memory-grows old new s.window stand h.window;
}

pub heard-grows : (old new : Numbered) (o : Option KeptHeard) → StandAsBefore old new → IfSome o (IsSoundHeard old) → IfSome o (IsSoundHeard new)
heard-grows old new None stand h = tt
heard-grows old new (Some heard) stand h = record {
  numbers = memory-grows old new heard.numbers stand h.numbers;
  start = start-grows old new heard.start stand h.start;
}

module _ (sets : Numbered) (numbers : List ℕ) (len : ℕ) (eight : length numbers ≡ 8) (few : len ≤ 8) (each : (i : ℕ) → i < 8 → IsSet sets (slice_index numbers i)) (zero_set : IsSet sets 0) where
  puts-sound : (at : ℕ) (old new : List ℕ) → Puts at (take len numbers) old new → AreSets sets old → AreSets sets new
  puts-sound at old new puts h k = by_test (nat_lt k at) (nat_lt k (at + len)) (nat_lt k (length old)) refl refl refl
    where
      count : length (take len numbers) ≡ len
      count = length-take-le len numbers (omega arith)

      as-before : (k < at) ⊎ (at + length (take len numbers) ≤ k) → IsSet sets (slice_index new k)
      as-before out = subst (IsSet sets) (sym (puts.kept k out)) (h k)

      behind : length new ≤ k → slice_index new k ≡ 0
      behind out = grind (arith, common_steps)

      by_test : (a b c : Bool) → nat_lt k at ≡ a → nat_lt k (at + len) ≡ b → nat_lt k (length old) ≡ c → IsSet sets (slice_index new k)
      by_test true b c p q r = as-before (inl (ltb-true k at p))
      by_test false false c p q r = let far = ltb-false k (at + len) q in let size = count in as-before (inr (omega arith))
      by_test false true true p q r =
          let low = ltb-false k at p in
          let high = ltb-true k (at + len) q in
          let inside = ltb-true k (length old) r in
          let size = count in
          let place : at + (k - at) ≡ k = omega arith in
          subst (IsSet sets) (sym (ap (slice_index new) (sym place) ∙ puts.put (k - at) (omega arith) (omega arith) ∙ get_or-take len numbers (k - at) 0 (omega arith))) (each (k - at) (omega arith))
      by_test false true false p q r =
          let out = ltb-false k (length old) r in
          let same = puts.len in
          subst (IsSet sets) (sym (behind (omega arith))) zero_set

  window-sound : (acc : Option ℕ) (old new : List ℕ) → StoresWindow acc (take len numbers) old new → AreSets sets old → AreSets sets new × (length new ≡ length old)
  window-sound None old new s h = (subst (AreSets sets) (sym s) h, ap length s)
  window-sound (Some at) old new s h = by_test (is_private at) s
    where
      by_test : (b : Bool) → ByTest b (Puts (at - WINDOW_START) (take len numbers) old new) (new ≡ old) → AreSets sets new × (length new ≡ length old)
      by_test true s = (puts-sound (at - WINDOW_START) old new s h, s.len)
      by_test false s = (subst (AreSets sets) (sym s) h, ap length s)

  segment-sound : (acc held : Option ℕ) (old new : List ℕ) → StoresSegment acc (take len numbers) held old new → AreSets sets old → AreSets sets new × (length new ≡ length old)
  segment-sound None held old new s h = (subst (AreSets sets) (sym s) h, ap length s)
  segment-sound (Some at) held old new s h = by_test (is_shared at) held s
    where
      by_test : (b : Bool) (held : Option ℕ) → ByTest b (WritesHeld (at - SEGMENT_START) (take len numbers) held old new) (new ≡ old) → AreSets sets new × (length new ≡ length old)
      by_test true None s = (subst (AreSets sets) (sym s) h, ap length s)
      by_test true (Some made) s = (puts-sound (at - SEGMENT_START) old new s h, s.len)
      by_test false held s = (subst (AreSets sets) (sym s) h, ap length s)

module _ (pid : ℕ) (instr : Instr) (before : Cpu) (x y : Kept) (sound : IsSound x) (ran : RunsIn pid instr before x y) where
  abbrev taken : List ℕ
  taken = ran.runs.numbers

  set-at : (i : ℕ) → i < 8 → IsSet y.sets (slice_index taken i)
  set-at i b = (ran.runs.takes.results.bytes i b).there

  abbrev ours : IsSoundMember x.sets (was_kept pid instr before x y sound ran)
  ours = own pid instr before x y sound ran

  eight : length taken ≡ 8
  eight = ran.runs.takes.results.len

  registers-sound : AreSetsOfRow y.sets ran.changed.registers
  registers-sound r i is = by_test ((r == rd_of instr) && nat_lt 0 r) (byte_in ran.changed.registers r i) (ran.runs.register r i is.byte)
    where
      by_test : (b : Bool) (v : ℕ) → v ≡ (if b then slice_index taken i else byte_in ran.member.registers r i) → IsSet y.sets v
      by_test true v e = subst (IsSet y.sets) (sym e) (set-at i is.byte)
      by_test false v e = subst (IsSet y.sets) (sym e) (ran.stand.there (byte_in ran.member.registers r i) (ours.registers r i is))

  zero-set : IsSet y.sets 0
  zero-set = ran.stand.there 0 sound.zero

  abbrev was_this : KeptMember
  was_this = was_kept pid instr before x y sound ran

  abbrev after_this : KeptMember
  after_this = after_kept pid instr before x y sound ran

  window-written : AreSets y.sets after_this.window × (length after_this.window ≡ length was_this.window)
  window-written =
      window-sound y.sets taken (stored_len instr) eight (stored-few instr) set-at zero-set (accessed instr before) was_this.window after_this.window (stored-window pid instr before x y sound ran)
      (memory-grows x.sets y.sets was_this.window ran.stand ours.window)

  segment-written : AreSets y.sets after_this.segment × (length after_this.segment ≡ length was_this.segment)
  segment-written =
      segment-sound y.sets taken (stored_len instr) eight (stored-few instr) set-at zero-set (accessed instr before) was_this.holds.segment was_this.segment after_this.segment (stored-segment pid instr before x y sound ran)
      (memory-grows x.sets y.sets was_this.segment ran.stand ours.segment)

  none-held : (s : Option Held) → option_map (λ (u : Held). u.made) s ≡ None → held_numbers s ran.written ≡ []
  none-held None e = refl
  none-held (Some held) e = absurd (cc)

  runner-sound : IsSoundMember y.sets after_this
  runner-sound = record {
    registers = registers-sound;
    slot = row-grows x.sets y.sets ran.member.slot ran.stand ours.slot;
    window = window-written.0;
    segment = segment-written.0;
    window_whole = window-written.1 ∙ ours.window_whole;
    segment_whole = λ made e. segment-written.1 ∙ ours.segment_whole made e;
    unheld = λ e. none-held ran.member.segment e;
  }

  keeps : IsSound y
  keeps = record {
    zero = zero-set;
    empty = ran.stand.same 0 sound.zero ∙ sound.empty;
    members = seen-sound x y pid after_this sound ran.stand (seen-after pid instr before x y sound ran) runner-sound;
    heard = λ event.
        subst (λ l. IfSome (heard_among l event) (IsSoundHeard y.sets)) (sym (heard-same pid instr before x y sound ran)) (heard-grows x.sets y.sets (heard_among x.heard event) ran.stand (sound.heard event));
  }

pub runs-keep : RunsKeep
runs-keep = λ pid instr before x y sound ran. keeps pid instr before x y sound ran
