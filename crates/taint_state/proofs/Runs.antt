-- What is shown goes on by an instruction.
use Rattle.std.proofs.Common.{◌≡◌, ◌≢◌, ℕ, zero, suc, ◌-◌, ◌<◌, ◌==◌, ◌&&◌, nat_lt, Bool, true, false, if◌then◌else◌, List, [], ◌∷◌, ◌++◌, take, slice_index, Option, Some, None, IfSome, option_map, option_and_then, unwrap_or, refl, sym, subst, ap, ◌∙◌, arith}
use Rattle.std.proofs.lemmas.Bool.{eqb-true, eq-eqb, lt-ltb}
use Rattle.arn_base.specs.declared.machine.Cpu.{Cpu}
use Rattle.rv64_isa.specs.declared.instruction.Instr.{Instr}
use Rattle.rv64_model.specs.Carries.{Table, operands}
use Rattle.rv64_model.specs.Operands.{accessed, rd_of, stored_len}
use Rattle.parts_model.specs.declared.limits.TheConstants.{WINDOW_START, SEGMENT_START}
use Rattle.parts_model.specs.Numbered.{nth}
use Rattle.set_store.specs.declared.item.Item.{Item}
use Rattle.taint_spans.specs.Numbered.{IsSet}
use Rattle.acts_model.specs.Moved.{Inside}
use Rattle.acts_model.specs.Transfers.{Place, is_private, is_shared, place_at}
use Rattle.lineage_model.specs.Flow.{At, Byte, StartRegister, StartSlot, StartMemory, Location, Memory, Prior, Register, Slot, offset, result_bytes, when}
use Rattle.lineage_model.specs.Tracking.{EventByte, Tracked, alone_after, gather, items}
use Rattle.taint_flow.specs.Gathered.{number_of}
use Rattle.taint_flow.specs.Names.{loaded_len}
use Rattle.taint_members.specs.declared.member.MemberSets.{MemberSets}
use Rattle.taint_pages.specs.Rows.{byte_in}
use Rattle.taint_state.specs.Events.{PutsSeen, sees}
use Rattle.taint_state.specs.Goes.{AreApart, GoesBy, GoesIf, heard_after, hearing_of, hearings_of}
use Rattle.taint_state.specs.Kept.{Kept, KeptHeard, KeptMember, KeptStart, heard_among, items_of, point_items, shown, shown_heard, shown_member, start_items}
use Rattle.taint_state.specs.RunsShow.{RunsIn, RunsShow, kept_member}
use Rattle.taint_state.specs.Shown.{AreItems, IsPoint, IsRegisterByte, Shows, ShowsHeard, ShowsMember}
use Rattle.taint_state.specs.Sound.{IsSound, IsSoundHeard, IsSoundMember, IsSoundStart}
use Rattle.taint_state.specs.Steps.{IsWhole, holders_of, instr_inside}
use Rattle.taint_state.proofs.Reach.{stored-few}
use Rattle.taint_state.proofs.Results.{results-show}
use Rattle.taint_state.proofs.Seeing.{holders-still, members-seen-by, sees-shows}
use Rattle.taint_state.proofs.Stored.{StoresSegment, StoresWindow, segment-stored, window-stored}
use Rattle.taint_state.proofs.Taken.{append-none, move, move-bytes, operands-show}
use Rattle.taint_state.proofs.Written.{ByOffset, by-none, other-segment, other-window, segment-by, window-by}

pub at-some : {X : Type 0} (P : X → Type 0) (o : Option X) (x : X) → o ≡ Some x → IfSome o P → P x
at-some P o x e h = subst (λ k. IfSome k P) e h

pub if-some : {X : Type 0} (P : X → Type 0) (o : Option X) (x : X) → o ≡ Some x → P x → IfSome o P
if-some P o x e h = subst (λ k. IfSome k P) (sym e) h

tests-swap : (p b z : Bool) → p ≡ true → z ≡ true → (b && z) ≡ (p && b)
tests-swap true true true p z = refl
tests-swap true false true p z = refl
tests-swap true b false p z = absurd (cc)
tests-swap false b z p e = absurd (cc)

and-none : {X : Type 0} (p b : Bool) (x : X) → p ≡ false → when (p && b) x ≡ None
and-none true b x e = absurd (cc)
and-none false b x e = refl

module _ (pid : ℕ) (instr : Instr) (before : Cpu) (x y : Kept) (sound : IsSound x) (ran : RunsIn pid instr before x y) where
  abbrev pub was_kept : KeptMember
  was_kept = kept_member ran.memories ran.member

  abbrev pub is_kept : KeptMember
  is_kept = kept_member ran.written ran.changed

  -- the member afterwards, with what stays spelled out
  abbrev pub after_member : MemberSets
  after_member = record ran.member { registers = ran.changed.registers }

  abbrev pub after_kept : KeptMember
  after_kept = kept_member ran.written after_member

  pub kept-after : is_kept ≡ after_kept
  kept-after = ap (kept_member ran.written) ran.runs.others

  abbrev inside : Inside
  inside = instr_inside pid instr before was_kept.holds

  abbrev place : Option Place
  place = option_and_then (place_at was_kept.holds) (accessed instr before)

  abbrev numbers : List ℕ
  numbers = ran.runs.numbers

  abbrev table : Table
  table = operands x.linkage

  linkage-same : y.linkage ≡ x.linkage
  linkage-same = ap (λ (k : Kept). k.linkage) ran.rest

  pub heard-same : y.heard ≡ x.heard
  heard-same = ap (λ (k : Kept). k.heard) ran.rest

  -- a number stands for the same items as before
  items-same : (n : ℕ) → IsSet x.sets n → items_of y n ≡ items_of x n
  items-same n set = ran.stand.same n set

  pub seen-after : PutsSeen pid after_kept x.members y.members
  seen-after = subst (λ k. PutsSeen pid k x.members y.members) kept-after ran.members

  pub stored-window : StoresWindow (accessed instr before) (take (stored_len instr) numbers) was_kept.window after_kept.window
  stored-window = window-stored (accessed instr before) (take (stored_len instr) numbers) ran.member ran.memories ran.written ran.two ran.runs.memory

  pub stored-segment : StoresSegment (accessed instr before) (take (stored_len instr) numbers) was_kept.holds.segment was_kept.segment after_kept.segment
  stored-segment = segment-stored (accessed instr before) (take (stored_len instr) numbers) ran.member ran.memories ran.written ran.two ran.runs.memory

  pub own : IsSoundMember x.sets was_kept
  own = at-some (IsSoundMember x.sets) (nth x.members pid) was_kept ran.was (sound.members pid)

  module _ (lie : AreApart (holders_of (shown x))) (whole : IsWhole place (loaded_len instr)) (t : Tracked EventByte) (shows : Shows (shown x) t) where
    abbrev next : Tracked EventByte
    next = alone_after table inside t

    abbrev gathers : List Item → Location → Type 0
    gathers l location = AreItems l (next.locations location)

    mine : ShowsMember pid t (shown_member x was_kept)
    mine = at-some (λ k. ShowsMember pid t (shown_member x k)) (nth x.members pid) was_kept ran.was (of_option (nth x.members pid) (shows.members pid))
      where
        of_option : (o : Option KeptMember) → IfSome (option_map (shown_member x) o) (ShowsMember pid t) → IfSome o (λ k. ShowsMember pid t (shown_member x k))
        of_option None h = h
        of_option (Some k) h = h

    result-shows : (i : ℕ) → i < 8 → AreItems (items_of y (slice_index numbers i)) (gather (items None) t.locations (result_bytes table pid instr place i))
    result-shows i b =
        let takes = ran.runs.takes in
        results-show table pid instr place i (items None) t.locations x.sets y.sets (number_of takes.first takes.second takes.loaded) (slice_index numbers i)
        (operands-show x sound pid ran.member ran.memories own t mine instr before y.sets numbers takes i b whole) (takes.results.bytes i b)

    -- a byte that isn't written
    stays : (v u : ℕ) (location : Location) → v ≡ u → IsSet x.sets u → AreItems (items_of x u) (t.locations location) → AreItems (items_of y v) (gather (items None) t.locations (Prior location ∷ []))
    stays v u location e raw h =
        move-bytes (items_of y v) (t.locations location ++ []) (t.locations location) (append-none (t.locations location))
        (move (items_of y v) (items_of x u) (t.locations location) (ap (items_of y) e ∙ items-same u raw) h)

    taken-by : (o : Option ℕ) (v u : ℕ) (location : Location) → ByOffset numbers o v u → IsSet x.sets u → AreItems (items_of x u) (t.locations location)
        → AreItems (items_of y v) (gather (items None) t.locations (unwrap_or (option_map (result_bytes table pid instr place) o) (Prior location ∷ [])))
    taken-by None v u location e raw h = stays v u location e raw h
    taken-by (Some k) v u location e raw h = move (items_of y v) (items_of y (slice_index numbers k)) (gather (items None) t.locations (result_bytes table pid instr place k)) (ap (items_of y) e.1) (result-shows k e.0)

    register-by : (b : Bool) (v u i : ℕ) (location : Location) → i < 8 → v ≡ (if b then slice_index numbers i else u) → IsSet x.sets u → AreItems (items_of x u) (t.locations location)
        → AreItems (items_of y v) (gather (items None) t.locations (unwrap_or (when b (result_bytes table pid instr place i)) (Prior location ∷ [])))
    register-by true v u i location b e raw h = move (items_of y v) (items_of y (slice_index numbers i)) (gather (items None) t.locations (result_bytes table pid instr place i)) (ap (items_of y) e) (result-shows i b)
    register-by false v u i location b e raw h = stays v u location e raw h

    -- the window that the member holds
    window-shows : (at : ℕ) → is_private at ≡ true → gathers (items_of y (slice_index after_kept.window (at - WINDOW_START))) (Memory was_kept.holds.window at)
    window-shows at reached =
        taken-by (offset place (stored_len instr) was_kept.holds.window at) (slice_index after_kept.window (at - WINDOW_START)) (slice_index was_kept.window (at - WINDOW_START)) (Memory was_kept.holds.window at)
        (window-by numbers (stored_len instr) ran.runs.takes.results.len (stored-few instr) was_kept.holds (accessed instr before) at was_kept.window after_kept.window stored-window reached own.window_whole)
        (own.window (at - WINDOW_START)) (mine.window at reached)

    -- and its segment
    segment-shows : (made at : ℕ) → was_kept.holds.segment ≡ Some made → is_shared at ≡ true → gathers (items_of y (slice_index after_kept.segment (at - SEGMENT_START))) (Memory made at)
    segment-shows made at e reached =
        taken-by (offset place (stored_len instr) made at) (slice_index after_kept.segment (at - SEGMENT_START)) (slice_index was_kept.segment (at - SEGMENT_START)) (Memory made at)
        (segment-by numbers (stored_len instr) ran.runs.takes.results.len (stored-few instr) was_kept.holds (accessed instr before) made at was_kept.segment after_kept.segment e stored-segment reached (own.segment_whole made e))
        (own.segment (at - SEGMENT_START)) (mine.segment made at e reached)

    -- the member that ran it
    runner : ShowsMember pid next (shown_member y after_kept)
    runner = record {
      registers = registers;
      slot = λ r i is. stays (byte_in ran.member.slot r i) (byte_in ran.member.slot r i) (Slot pid r i) refl (own.slot r i is) (mine.slot r i is);
      window = window-shows;
      segment = segment-shows;
    } where
      registers : (r i : ℕ) → IsRegisterByte r i → gathers (items_of y (byte_in ran.changed.registers r i)) (Register pid r i)
      registers zero i is = let above = is.above in absurd (omega arith)
      registers (suc r) i is =
          register-by ((pid == pid) && (suc r == rd_of instr)) (byte_in ran.changed.registers (suc r) i) (byte_in ran.member.registers (suc r) i) i (Register pid (suc r) i) is.byte
          (ran.runs.register (suc r) i is.byte
          ∙ ap (λ (b : Bool). if b then slice_index numbers i else byte_in ran.member.registers (suc r) i) (tests-swap (pid == pid) (suc r == rd_of instr) (nat_lt 0 (suc r)) (eq-eqb pid pid refl) (lt-ltb 0 (suc r) (omega arith))))
          (own.registers (suc r) i is) (mine.registers (suc r) i is)

    -- any other
    module _ (q : ℕ) (apart : q ≢ pid) (other : KeptMember) (there : nth x.members q ≡ Some other) (theirs : ShowsMember q t (shown_member x other)) where
      kept-sound : IsSoundMember x.sets other
      kept-sound = at-some (IsSoundMember x.sets) (nth x.members q) other there (sound.members q)

      test-false : (q == pid) ≡ false
      test-false = by_test (q == pid) refl
        where
          by_test : (b : Bool) → (q == pid) ≡ b → b ≡ false
          by_test true e = absurd (apart (eqb-true q pid e))
          by_test false e = refl

      other-registers : (r i : ℕ) → IsRegisterByte r i → gathers (items_of y (byte_in other.registers r i)) (Register q r i)
      other-registers zero i is = let above = is.above in absurd (omega arith)
      other-registers (suc r) i is =
          let number = byte_in other.registers (suc r) i in
          subst (λ o. AreItems (items_of y number) (gather (items None) t.locations (unwrap_or o (Prior (Register q (suc r) i) ∷ []))))
          (sym (and-none (q == pid) (suc r == rd_of instr) (result_bytes table pid instr place i) test-false))
          (stays number number (Register q (suc r) i) refl (kept-sound.registers (suc r) i is) (theirs.registers (suc r) i is))

      other-slot : (r i : ℕ) → IsRegisterByte r i → gathers (items_of y (byte_in other.slot r i)) (Slot q r i)
      other-slot r i is = stays (byte_in other.slot r i) (byte_in other.slot r i) (Slot q r i) refl (kept-sound.slot r i is) (theirs.slot r i is)

      other-windows : other.holds.window ≢ was_kept.holds.window → (at : ℕ) → is_private at ≡ true → gathers (items_of y (slice_index other.window (at - WINDOW_START))) (Memory other.holds.window at)
      other-windows differ at reached =
          let number = slice_index other.window (at - WINDOW_START) in
          taken-by (offset place (stored_len instr) other.holds.window at) number number (Memory other.holds.window at)
          (by-none numbers (offset place (stored_len instr) other.holds.window at) number number
          (other-window numbers (stored_len instr) ran.runs.takes.results.len (stored-few instr) was_kept.holds (accessed instr before) other.holds.window at (λ e. differ (sym e)) reached) refl)
          (kept-sound.window (at - WINDOW_START)) (theirs.window at reached)

      other-segments : (made at : ℕ) → other.holds.segment ≡ Some made → was_kept.holds.segment ≢ Some made → is_shared at ≡ true → gathers (items_of y (slice_index other.segment (at - SEGMENT_START))) (Memory made at)
      other-segments made at held differ reached =
          let number = slice_index other.segment (at - SEGMENT_START) in
          taken-by (offset place (stored_len instr) made at) number number (Memory made at)
          (by-none numbers (offset place (stored_len instr) made at) number number
          (other-segment numbers (stored_len instr) ran.runs.takes.results.len (stored-few instr) was_kept.holds (accessed instr before) made at differ reached) refl)
          (kept-sound.segment (at - SEGMENT_START)) (theirs.segment made at held reached)

      other-member : ShowsMember q next (shown_member y (sees after_kept other))
      other-member = sees-shows y next q pid after_kept other runner other-registers other-slot other-windows other-segments

    members-show : (q : ℕ) → IfSome ((shown y).members q) (ShowsMember q next)
    members-show = members-seen-by y x next pid after_kept seen-after runner (λ q other apart there. other-member q apart other there (before-shows q other there))
      where
        before-shows : (q : ℕ) (other : KeptMember) → nth x.members q ≡ Some other → ShowsMember q t (shown_member x other)
        before-shows q other there = subst (λ o. IfSome (option_map (shown_member x) o) (ShowsMember q t)) there (shows.members q)

    heard-shows : (event : ℕ) → IfSome ((shown y).heard event) (ShowsHeard event next)
    heard-shows event =
        subst (λ l. IfSome (option_map (shown_heard y) (heard_among l event)) (ShowsHeard event next)) (sym heard-same) (by_heard (heard_among x.heard event) (shows.heard event) (sound.heard event))
      where
        by_start : (kept : KeptHeard) (s : Option KeptStart) (at : At) → IfSome s (IsSoundStart x.sets) → IsPoint (shown_heard y kept) at → start_items y s at ≡ start_items x s at
        by_start kept None at h is = refl
        by_start kept (Some start) (Byte k) h is = refl
        by_start kept (Some start) (StartRegister r i) h is = items-same (byte_in start.registers r i) (h.registers r i is.1)
        by_start kept (Some start) (StartSlot r i) h is = items-same (byte_in start.slot r i) (h.slot r i is.1)
        by_start kept (Some start) (StartMemory at) h is = items-same (slice_index start.window (at - WINDOW_START)) (h.window (at - WINDOW_START))

        by_heard : (o : Option KeptHeard) → IfSome (option_map (shown_heard x) o) (ShowsHeard event t) → IfSome o (IsSoundHeard x.sets) → IfSome (option_map (shown_heard y) o) (ShowsHeard event next)
        by_heard None h s = tt
        by_heard (Some kept) h s = by_at where
          by_at : (at : At) → IsPoint (shown_heard y kept) at → AreItems (point_items y kept at) (t.points event at)
          by_at (Byte k) is = move (items_of y (slice_index kept.numbers k)) (items_of x (slice_index kept.numbers k)) (t.points event (Byte k)) (items-same (slice_index kept.numbers k) (s.numbers k)) (h (Byte k) is)
          by_at (StartRegister r i) is =
              move (start_items y kept.start (StartRegister r i)) (start_items x kept.start (StartRegister r i)) (t.points event (StartRegister r i))
              (by_start kept kept.start (StartRegister r i) s.start is) (h (StartRegister r i) is)
          by_at (StartSlot r i) is =
              move (start_items y kept.start (StartSlot r i)) (start_items x kept.start (StartSlot r i)) (t.points event (StartSlot r i))
              (by_start kept kept.start (StartSlot r i) s.start is) (h (StartSlot r i) is)
          by_at (StartMemory at) is =
              move (start_items y kept.start (StartMemory at)) (start_items x kept.start (StartMemory at)) (t.points event (StartMemory at))
              (by_start kept kept.start (StartMemory at) s.start is) (h (StartMemory at) is)

  goes-by : GoesBy inside (shown x) (shown y)
  goes-by = record {
    linkage = linkage-same;
    holders = holders;
    heard = heard;
    shows = λ lie whole t shows. record { members = members-show lie whole t shows; heard = heard-shows lie whole t shows };
  } where
    holders : (p : ℕ) → holders_of (shown y) p ≡ holders_of (shown x) p
    holders = holders-still x y pid was_kept after_kept ran.was seen-after refl

    by_heard : (o : Option KeptHeard) → option_map hearing_of (option_map (shown_heard y) o) ≡ option_map hearing_of (option_map (shown_heard x) o)
    by_heard None = refl
    by_heard (Some kept) = refl

    heard : (event : ℕ) → hearings_of (shown y) event ≡ heard_after inside (hearings_of (shown x)) event
    heard event = ap (λ l. option_map hearing_of (option_map (shown_heard y) (heard_among l event))) heard-same ∙ by_heard (heard_among x.heard event)

pub runs-show : RunsShow
runs-show = λ pid instr before x y sound ran.
    subst (λ o. GoesIf (option_map (instr_inside pid instr before) (option_map (λ m. m.holds) (option_map (shown_member x) o))) (shown x) (shown y)) (sym ran.was)
    (goes-by pid instr before x y sound ran)
