-- What is kept stays sound.
use Rattle.std.proofs.Common.{◌≡◌, ◌≢◌, inl, inr, ℕ, zero, suc, ◌+◌, ◌-◌, ◌<◌, ◌==◌, ◌&&◌, nat_lt, cond, Bool, true, false, List, [], length, slice_index, Option, Some, None, IfSome, option_map, unwrap_or, refl, sym, ap, subst, ◌∙◌, arith}
use Rattle.std.proofs.lemmas.Bool.{eqb-true, eqb-false, ltb-true, ltb-false}
use Rattle.std.proofs.lemmas.List.{get_or_past}
use Rattle.parts_model.specs.Numbered.{nth}
use Rattle.parts_model.specs.Image.{header_len}
use Rattle.parts_model.specs.declared.limits.TheConstants.{WINDOW_START, SEGMENT_START}
use Rattle.taint_spans.specs.Numbered.{IsSet, Numbered, StandAsBefore}
use Rattle.acts_model.specs.Moved.{Inside, within}
use Rattle.acts_model.specs.Transfers.{Holds, is_private, is_shared}
use Rattle.acts_model.specs.Views.{block_at}
use Rattle.taint_events.specs.Beginning.{AreItemsFrom, AreItemsOfRow, BeginsRegisters}
use Rattle.taint_events.specs.Bytes.{AreEmpty, AreGiven, AreReceived, IsStatus}
use Rattle.taint_events.specs.Starting.{IsStarted, body_number, window_len}
use Rattle.taint_members.specs.Access.{ByTest}
use Rattle.taint_members.specs.Rows.{AreZero, ClearsResult, IsSaved}
use Rattle.taint_pages.specs.Pages.{Puts}
use Rattle.taint_pages.specs.Rows.{byte_in}
use Rattle.taint_state.specs.Events.{Becomes, BecomesShared, BecomesTwo, Begins, BeginsTo, DeliversTo, ForksTo, FoundsTo, Hears, LeavesTo, ReceivesTo, ReturnsTo, SharesTo, StartsTo, PutsSeen, WritesHeld, is_one, number_at, plain_heard, sees}
use Rattle.taint_state.specs.Goes.{GoesBy}
use Rattle.taint_state.specs.EventsShow.{Follows}
use Rattle.taint_state.specs.Kept.{Kept, KeptHeard, KeptMember, KeptStart, heard_among, shown}
use Rattle.taint_state.specs.Shown.{register_bytes}
use Rattle.taint_state.specs.Sound.{AreSets, AreSetsOfRow, IsSound, IsSoundHeard, IsSoundMember, IsSoundStart}
use Rattle.taint_state.proofs.Flows.{first-byte, one-true}

some-none : {A : Type 0} (m : ℕ) → Some m ≡ None → A
some-none m e = absurd (cc)

none-some : {A : Type 0} (m : ℕ) → None ≡ Some m → A
none-some m e = absurd (cc)

module _ (sets : Numbered) (zero_set : IsSet sets 0) where
  good-zero : (n : ℕ) → n ≡ 0 → IsSet sets n
  good-zero n e = subst (IsSet sets) (sym e) zero_set

  -- rows
  pub good-cleared : (old new : List ℕ) → ClearsResult old new → AreSetsOfRow sets old → AreSetsOfRow sets new
  good-cleared old new clears good r i is = of (r == 10) (clears r i is.byte) (good r i is)
    where
      of : (b : Bool) → byte_in new r i ≡ cond b 0 (byte_in old r i) → IsSet sets (byte_in old r i) → IsSet sets (byte_in new r i)
      of true e g = good-zero (byte_in new r i) e
      of false e g = subst (IsSet sets) (sym e) g

  pub good-saved : (cut : Bool) (old new : List ℕ) → IsSaved cut old new → AreSetsOfRow sets old → AreSetsOfRow sets new
  good-saved cut old new saved good r i is = of (cut && (r == 10)) (saved r i is.byte) (good r i is)
    where
      of : (b : Bool) → byte_in new r i ≡ cond b 0 (byte_in old r i) → IsSet sets (byte_in old r i) → IsSet sets (byte_in new r i)
      of true e g = good-zero (byte_in new r i) e
      of false e g = subst (IsSet sets) (sym e) g

  pub good-empty-row : (row : List ℕ) → AreZero row → AreSetsOfRow sets row
  good-empty-row row zeros r i is = good-zero (byte_in row r i) (zeros r i)

  pub good-items-row : (event first : ℕ) (row : List ℕ) → AreItemsOfRow sets event first row → AreSetsOfRow sets row
  good-items-row event first row items r i is = let item = items r i is.above is.below is.byte in item.there

  pub good-begun-row : (event : ℕ) (row : List ℕ) → BeginsRegisters sets event row → AreSetsOfRow sets row
  good-begun-row event row begins r i is = of (r == 10) refl
    where
      of : (b : Bool) → (r == 10) ≡ b → IsSet sets (byte_in row r i)
      of true e = good-zero (byte_in row r i) (subst (λ q. byte_in row q i ≡ 0) (sym (eqb-true r 10 e)) (begins.result i is.byte))
      of false e = let item = begins.items r i is.above is.below (eqb-false r 10 e) is.byte in item.there

  -- numbers of so many bytes, and none behind them
  good-listed : (count : ℕ) (numbers : List ℕ) → length numbers ≡ count → ((k : ℕ) → k < count → IsSet sets (slice_index numbers k)) → AreSets sets numbers
  good-listed count numbers len good k = of (nat_lt k count) refl
    where
      of : (b : Bool) → nat_lt k count ≡ b → IsSet sets (slice_index numbers k)
      of true e = good k (ltb-true k count e)
      of false e = good-zero (slice_index numbers k) (get_or_past numbers k 0 (let behind = ltb-false k count e in omega arith))

  pub good-empty : (count : ℕ) (numbers : List ℕ) → AreEmpty count numbers → AreSets sets numbers
  good-empty count numbers empty = good-listed count numbers empty.len (λ k below. good-zero (slice_index numbers k) (empty.all k below))

  pub good-received : (event count : ℕ) (numbers : List ℕ) → AreReceived sets event count numbers → AreSets sets numbers
  good-received event count numbers received = good-listed count numbers received.len (λ k below. let item = received.items k below in item.there)

  pub good-given : (count : ℕ) (number : ℕ → ℕ) (numbers : List ℕ) → ((k : ℕ) → IsSet sets (number k)) → AreGiven number count numbers → AreSets sets numbers
  good-given count number numbers good given = good-listed count numbers given.len (λ k below. subst (IsSet sets) (sym (given.same k below)) (good k))

  pub good-status : (registers : List ℕ) (count : ℕ) (numbers : List ℕ) → AreSetsOfRow sets registers → IsStatus registers count numbers → AreSets sets numbers
  good-status registers count numbers good status = good-listed count numbers status.len of
    where
      of : (k : ℕ) → k < count → IsSet sets (slice_index numbers k)
      of zero below = subst (IsSet sets) (sym (status.first below)) (good 10 0 first-byte)
      of (suc k) below = good-zero (slice_index numbers (suc k)) (status.others (suc k) (omega arith) below)

  -- memories
  pub good-put : (at : ℕ) (numbers old new : List ℕ) → Puts at numbers old new → AreSets sets numbers → AreSets sets old → AreSets sets new
  good-put at numbers old new puts good raw k = of (nat_lt k at) (nat_lt k (at + length numbers)) (nat_lt k (length old)) refl refl refl
    where
      of : (a b c : Bool) → nat_lt k at ≡ a → nat_lt k (at + length numbers) ≡ b → nat_lt k (length old) ≡ c → IsSet sets (slice_index new k)
      of true b c h i j = subst (IsSet sets) (sym (puts.kept k (inl (ltb-true k at h)))) (raw k)
      of false false c h i j = subst (IsSet sets) (sym (puts.kept k (inr (ltb-false k (at + length numbers) i)))) (raw k)
      of false true false h i j =
          let past = ltb-false k (length old) j in
          let same = puts.len in
          good-zero (slice_index new k) (get_or_past new k 0 (omega arith))
      of false true true h i j =
          let above = ltb-false k at h in
          let below = ltb-true k (at + length numbers) i in
          let inside = ltb-true k (length old) j in
          let place : at + (k - at) ≡ k = omega arith in
          let listed : k - at < length numbers = omega arith in
          let fits : at + (k - at) < length old = omega arith in
          let number = sym (ap (λ q. slice_index new q) place) ∙ puts.put (k - at) listed fits in
          subst (IsSet sets) (sym number) (good (k - at))

  pub good-started : (load : ℕ) (numbers : List ℕ) (block : ℕ → ℕ) (block_len : ℕ) (window : List ℕ) → IsStarted load numbers block block_len window → AreSets sets numbers
      → ((k : ℕ) → IsSet sets (block k)) → AreSets sets window
  good-started load numbers block block_len window is good raw =
      good-listed window_len window is.len (λ k below. subst (IsSet sets) (sym (is.bytes k below)) (of-block (WINDOW_START + k) (within (block_at block_len) block_len (WINDOW_START + k))))
    where
      of-body : (o : Option ℕ) → IsSet sets (unwrap_or (option_map (λ k. slice_index numbers (header_len + k)) o) 0)
      of-body None = good-zero 0 refl
      of-body (Some k) = good (header_len + k)

      of-block : (a : ℕ) (o : Option ℕ) → IsSet sets (unwrap_or (option_map block o) (body_number load numbers a))
      of-block a None = of-body (within load (length numbers - header_len) a)
      of-block a (Some k) = raw k

  pub good-number : (m : KeptMember) → IsSoundMember sets m → (at k : ℕ) → IsSet sets (number_at m at k)
  good-number m sound at k = of (is_private at) (is_shared at)
    where
      of : (p s : Bool) → IsSet sets (cond p (slice_index m.window (at - WINDOW_START + k)) (cond s (slice_index m.segment (at - SEGMENT_START + k)) 0))
      of true s = sound.window _
      of false true = sound.segment _
      of false false = good-zero 0 refl

  pub good-window : (event : ℕ) (window : List ℕ) → AreItemsFrom sets event window → AreSets sets window
  good-window event window each = good-listed window_len window each.len (λ k below. (each.items k below).there)

-- what was kept, after sets were added
later-row : (old new : Numbered) (row : List ℕ) → StandAsBefore old new → AreSetsOfRow old row → AreSetsOfRow new row
later-row old new row stands good r i is = stands.there _ (good r i is)

later-sets : (old new : Numbered) (numbers : List ℕ) → StandAsBefore old new → AreSets old numbers → AreSets new numbers
later-sets old new numbers stands raw k = stands.there _ (raw k)

pub later-member : (old new : Numbered) (m : KeptMember) → StandAsBefore old new → IsSoundMember old m → IsSoundMember new m
later-member old new m stands sound = record {
  registers = later-row old new m.registers stands sound.registers;
  slot = later-row old new m.slot stands sound.slot;
  window = later-sets old new m.window stands sound.window;
  segment = later-sets old new m.segment stands sound.segment;
  window_whole = sound.window_whole;
  segment_whole = sound.segment_whole;
  unheld = sound.unheld;
}

later-start : (old new : Numbered) (o : Option KeptStart) → StandAsBefore old new → IfSome o (IsSoundStart old) → IfSome o (IsSoundStart new)
later-start old new None stands sound = tt
later-start old new (Some start) stands sound = record {
  registers = later-row old new start.registers stands sound.registers;
  slot = later-row old new start.slot stands sound.slot;
  window = later-sets old new start.window stands sound.window;
}

later-heard : (old new : Numbered) (o : Option KeptHeard) → StandAsBefore old new → IfSome o (IsSoundHeard old) → IfSome o (IsSoundHeard new)
later-heard old new None stands sound = tt
later-heard old new (Some heard) stands sound = record {
  numbers = later-sets old new heard.numbers stands sound.numbers;
  start = later-start old new heard.start stands sound.start;
}

later-option : (old new : Numbered) (o : Option KeptMember) → StandAsBefore old new → IfSome o (IsSoundMember old) → IfSome o (IsSoundMember new)
later-option old new None stands sound = tt
later-option old new (Some m) stands sound = later-member old new m stands sound

pub zero-later : (x y : Kept) → IsSound x → StandAsBefore x.sets y.sets → IsSet y.sets 0
zero-later x y sound stands = stands.there 0 sound.zero

pub heard-sound : (x y : Kept) (heard : KeptHeard) → IsSound x → StandAsBefore x.sets y.sets → Hears heard x.heard y.heard → IsSoundHeard y.sets heard → (e : ℕ) → IfSome (heard_among y.heard e) (IsSoundHeard y.sets)
heard-sound x y heard sound stands hears new e = of (e == heard.event) refl
  where
    of : (b : Bool) → (e == heard.event) ≡ b → IfSome (heard_among y.heard e) (IsSoundHeard y.sets)
    of true h = subst (λ o. IfSome o (IsSoundHeard y.sets)) (sym (subst (λ q. heard_among y.heard q ≡ Some heard) (sym (eqb-true e heard.event h)) hears.found)) new
    of false h = subst (λ o. IfSome o (IsSoundHeard y.sets)) (sym (hears.others e (eqb-false e heard.event h))) (later-heard x.sets y.sets (heard_among x.heard e) stands (sound.heard e))

-- members are sound where each is
pub all-sound : (x y : Kept) → IsSound x → StandAsBefore x.sets y.sets → ((p : ℕ) → IfSome (nth y.members p) (IsSoundMember y.sets)) → ((e : ℕ) → IfSome (heard_among y.heard e) (IsSoundHeard y.sets)) → IsSound y
all-sound x y sound stands members heard = record { zero = zero-later x y sound stands; empty = stands.same 0 sound.zero ∙ sound.empty; members = members; heard = heard }

pub old-sound : (x y : Kept) (p : ℕ) (m : KeptMember) → IsSound x → StandAsBefore x.sets y.sets → nth x.members p ≡ Some m → IsSoundMember y.sets m
old-sound x y p m sound stands was = later-member x.sets y.sets m stands (subst (λ o. IfSome o (IsSoundMember x.sets)) was (sound.members p))

pub becomes-sound : (x y : Kept) (pid : ℕ) (old : KeptMember) (m : Option KeptMember) (heard : KeptHeard) → IsSound x → Becomes pid old m heard x y → IfSome m (IsSoundMember y.sets) → IsSoundHeard y.sets heard → IsSound y
becomes-sound x y pid old m heard sound b new event =
    all-sound x y sound b.stays.sets (λ p. of p (p == pid) refl) (heard-sound x y heard sound b.stays.sets b.heard event)
  where
    of : (p : ℕ) (t : Bool) → (p == pid) ≡ t → IfSome (nth y.members p) (IsSoundMember y.sets)
    of p true h = subst (λ q. IfSome (nth y.members q) (IsSoundMember y.sets)) (sym (eqb-true p pid h)) (subst (λ o. IfSome o (IsSoundMember y.sets)) (sym b.members.one) new)
    of p false h = subst (λ o. IfSome o (IsSoundMember y.sets)) (sym (b.members.others p (eqb-false p pid h))) (later-option x.sets y.sets (nth x.members p) b.stays.sets (sound.members p))

-- a call's result
pub returned-sound : (sets : Numbered) (old new : KeptMember) → IsSet sets 0 → ReturnsTo old new → IsSoundMember sets old → IsSoundMember sets new
returned-sound sets old new zero_set to sound = subst (IsSoundMember sets) (sym to.others) (record {
  registers = good-cleared sets zero_set old.registers new.registers to.result sound.registers;
  slot = sound.slot;
  window = sound.window;
  segment = sound.segment;
  window_whole = sound.window_whole;
  segment_whole = sound.segment_whole;
  unheld = sound.unheld;
})

pub plain-sound : (sets : Numbered) (event : ℕ) (numbers : List ℕ) → AreSets sets numbers → IsSoundHeard sets (plain_heard event numbers)
plain-sound sets event numbers good = record { numbers = good; start = tt }

pub delivered-sound : (sets : Numbered) (cut : Bool) (old new : KeptMember) → IsSet sets 0 → DeliversTo cut old new → IsSoundMember sets old → IsSoundMember sets new
delivered-sound sets cut old new zero_set to sound = subst (IsSoundMember sets) (sym to.others) (record {
  registers = good-cleared sets zero_set old.registers new.registers to.result sound.registers;
  slot = good-saved sets zero_set cut old.registers new.slot to.saved sound.registers;
  window = sound.window;
  segment = sound.segment;
  window_whole = sound.window_whole;
  segment_whole = sound.segment_whole;
  unheld = sound.unheld;
})

pub left-sound : (sets : Numbered) (old new : KeptMember) → IsSet sets 0 → LeavesTo old new → IsSoundMember sets old → IsSoundMember sets new
left-sound sets old new zero_set to sound = subst (IsSoundMember sets) (sym to.others) (record {
  registers = sound.slot;
  slot = good-empty-row sets zero_set new.slot to.slot;
  window = sound.window;
  segment = sound.segment;
  window_whole = sound.window_whole;
  segment_whole = sound.segment_whole;
  unheld = sound.unheld;
})

pub shared-sound : (sets : Numbered) (made : ℕ) (old new : KeptMember) → IsSet sets 0 → SharesTo made old new → IsSoundMember sets old → IsSoundMember sets new
shared-sound sets made old new zero_set to sound = subst (IsSoundMember sets) (sym to.others) (record {
  registers = good-cleared sets zero_set old.registers new.registers to.result sound.registers;
  slot = sound.slot;
  window = sound.window;
  segment = λ k. good-zero sets zero_set _ (to.zeros k);
  window_whole = sound.window_whole;
  segment_whole = λ m has. to.whole;
  unheld = λ none. some-none made none;
})

pub child-sound : (sets : Numbered) (made : ℕ) (old kid : KeptMember) → IsSet sets 0 → ForksTo made old kid → IsSoundMember sets old → IsSoundMember sets kid
child-sound sets made old kid zero_set to sound = subst (IsSoundMember sets) (sym to.others) (record {
  registers = good-cleared sets zero_set old.registers kid.registers to.result sound.registers;
  slot = sound.slot;
  window = sound.window;
  segment = sound.segment;
  window_whole = sound.window_whole;
  segment_whole = sound.segment_whole;
  unheld = sound.unheld;
})

pub start-sound : (sets : Numbered) (event : ℕ) (numbers : List ℕ) (old : KeptMember) (start : KeptStart) → IsSet sets 0 → AreSets sets numbers → FoundsTo old start → IsSoundMember sets old
    → IsSoundHeard sets (record { event = event; numbers = numbers; start = Some start })
start-sound sets event numbers old start zero_set good to sound = record {
  numbers = good;
  start = record {
    registers = good-cleared sets zero_set old.registers start.registers to.result sound.registers;
    slot = subst (AreSetsOfRow sets) (sym to.slot) sound.slot;
    window = subst (AreSets sets) (sym to.window) sound.window;
  };
}

pub started-sound : (sets : Numbered) (made load : ℕ) (numbers : List ℕ) (block block_len : ℕ) (old new : KeptMember) → IsSet sets 0 → AreSets sets numbers → StartsTo made load numbers block block_len old new
    → IsSoundMember sets old → IsSoundMember sets new
started-sound sets made load numbers block block_len old new zero_set good to sound = record {
  registers = good-empty-row sets zero_set new.registers to.registers;
  slot = good-empty-row sets zero_set new.slot to.slot;
  window = good-started sets zero_set load numbers (number_at old block) block_len new.window to.window good (good-number sets zero_set old sound block);
  segment = λ k. good-zero sets zero_set _ (ap (λ l. slice_index l k) to.segment);
  window_whole = to.window.len;
  segment_whole = λ m has. none-some m (sym (ap (λ (h : Holds). h.segment) to.holds) ∙ has);
  unheld = λ none. to.segment;
}

pub begun-sound : (y : Kept) (event : ℕ) (new : KeptMember) → IsSet y.sets 0 → BeginsTo y event new → IsSoundMember y.sets new
begun-sound y event new zero_set to = record {
  registers = good-begun-row y.sets zero_set event new.registers to.registers;
  slot = good-items-row y.sets zero_set event register_bytes new.slot to.slot;
  window = good-window y.sets zero_set event new.window to.window;
  segment = λ k. good-zero y.sets zero_set _ (ap (λ l. slice_index l k) to.segment);
  window_whole = to.window.len;
  segment_whole = λ m has. none-some m (sym (ap (λ (h : Holds). h.segment) to.holds) ∙ has);
  unheld = λ none. to.segment;
}

seen-segment : (sets : Numbered) (new m : KeptMember) (b : Bool) → is_one m.holds.segment new.holds.segment ≡ b → IsSoundMember sets new → IsSoundMember sets m
    → IsSoundMember sets (record m { segment = cond b new.segment m.segment })
seen-segment sets new m true e own sound =
    let same = one-true m.holds.segment new.holds.segment e in
    record {
      registers = sound.registers;
      slot = sound.slot;
      window = sound.window;
      segment = own.segment;
      window_whole = sound.window_whole;
      segment_whole = λ made has. own.segment_whole made (sym same ∙ has);
      unheld = λ none. own.unheld (sym same ∙ none);
    }
seen-segment sets new m false e own sound = sound

seen-window : (sets : Numbered) (new m : KeptMember) (w : Bool) → IsSoundMember sets new → IsSoundMember sets m → IsSoundMember sets (record m { window = cond w new.window m.window })
seen-window sets new m true own sound = record {
  registers = sound.registers;
  slot = sound.slot;
  window = own.window;
  segment = sound.segment;
  window_whole = own.window_whole;
  segment_whole = sound.segment_whole;
  unheld = sound.unheld;
}
seen-window sets new m false own sound = sound

-- who holds a memory of a sound member is sound with it
pub seeing-sound : (sets : Numbered) (new m : KeptMember) → IsSoundMember sets new → IsSoundMember sets m → IsSoundMember sets (sees new m)
seeing-sound sets new m own sound =
    seen-segment sets new (record m { window = cond (m.holds.window == new.holds.window) new.window m.window }) (is_one m.holds.segment new.holds.segment) refl own
    (seen-window sets new m (m.holds.window == new.holds.window) own sound)

seen-option : (x y : Kept) (new : KeptMember) → StandAsBefore x.sets y.sets → IsSoundMember y.sets new → (o : Option KeptMember) → IfSome o (IsSoundMember x.sets) → IfSome (option_map (sees new) o) (IsSoundMember y.sets)
seen-option x y new stands own None h = tt
seen-option x y new stands own (Some m) h = seeing-sound y.sets new m own (later-member x.sets y.sets m stands h)

pub seen-sound : (x y : Kept) (pid : ℕ) (new : KeptMember) → IsSound x → StandAsBefore x.sets y.sets → PutsSeen pid new x.members y.members → IsSoundMember y.sets new
    → (p : ℕ) → IfSome (nth y.members p) (IsSoundMember y.sets)
seen-sound x y pid new sound stands b own p = of (p == pid) refl
  where
    of : (t : Bool) → (p == pid) ≡ t → IfSome (nth y.members p) (IsSoundMember y.sets)
    of true h = subst (λ q. IfSome (nth y.members q) (IsSoundMember y.sets)) (sym (eqb-true p pid h)) (subst (λ o. IfSome o (IsSoundMember y.sets)) (sym b.one) own)
    of false h = subst (λ o. IfSome o (IsSoundMember y.sets)) (sym (b.others p (eqb-false p pid h))) (seen-option x y new stands own (nth x.members p) (sound.members p))

pub sharers-sound : (x y : Kept) (pid : ℕ) (old new : KeptMember) (heard : KeptHeard) → IsSound x → BecomesShared pid old new heard x y → IsSoundMember y.sets new → IsSoundHeard y.sets heard → IsSound y
sharers-sound x y pid old new heard sound b own event =
    all-sound x y sound b.stays.sets (seen-sound x y pid new sound b.stays.sets b.members own) (heard-sound x y heard sound b.stays.sets b.heard event)

pub begins-sound : (x y : Kept) (pid event : ℕ) (new : KeptMember) → IsSound x → BeginsTo y event new → Begins pid event new x y → IsSound y
begins-sound x y pid event new sound to b =
    all-sound x y sound b.sets (seen-sound x y pid new sound b.sets b.members (begun-sound y event new (zero-later x y sound b.sets) to))
    (λ e. subst (λ o. IfSome o (IsSoundHeard y.sets)) (sym (b.heard e)) (later-heard x.sets y.sets (heard_among x.heard e) b.sets (sound.heard e)))

pub two-sound : (x y : Kept) (pid child : ℕ) (old new kid : KeptMember) (heard : KeptHeard) → IsSound x → BecomesTwo pid child old new kid heard x y → IsSoundMember y.sets new → IsSoundMember y.sets kid
    → IsSoundHeard y.sets heard → IsSound y
two-sound x y pid child old new kid heard sound b own begins event =
    all-sound x y sound b.stays.sets (λ p. of p (p == child) (p == pid) refl refl) (heard-sound x y heard sound b.stays.sets b.heard event)
  where
    of : (p : ℕ) (t u : Bool) → (p == child) ≡ t → (p == pid) ≡ u → IfSome (nth y.members p) (IsSoundMember y.sets)
    of p true u h i = subst (λ q. IfSome (nth y.members q) (IsSoundMember y.sets)) (sym (eqb-true p child h)) (subst (λ o. IfSome o (IsSoundMember y.sets)) (sym b.begins) begins)
    of p false true h i =
        let same = eqb-true p pid i in
        subst (λ q. IfSome (nth y.members q) (IsSoundMember y.sets)) (sym same)
        (subst (λ o. IfSome o (IsSoundMember y.sets)) (sym (b.parent (subst (λ q. q ≢ child) same (eqb-false p child h)))) own)
    of p false false h i =
        subst (λ o. IfSome o (IsSoundMember y.sets)) (sym (b.others p (eqb-false p pid i) (eqb-false p child h))) (seen-option x y kid b.stays.sets begins (nth x.members p) (sound.members p))

pub received-sound : (sets : Numbered) (at : ℕ) (numbers : List ℕ) (old new : KeptMember) → IsSet sets 0 → AreSets sets numbers → ReceivesTo at numbers old new → IsSoundMember sets old → IsSoundMember sets new
received-sound sets at numbers old new zero_set good to sound = subst (IsSoundMember sets) (sym to.others) (record {
  registers = good-cleared sets zero_set old.registers new.registers to.result sound.registers;
  slot = sound.slot;
  window = (of-window (is_private at) to.window).0;
  segment = (of-segment (is_shared at) to.segment).0;
  window_whole = (of-window (is_private at) to.window).1 ∙ sound.window_whole;
  segment_whole = λ made has. (of-segment (is_shared at) to.segment).1 ∙ sound.segment_whole made has;
  unheld = λ none. of-none (is_shared at) none to.segment;
})
  where
    of-window : (b : Bool) → ByTest b (Puts (at - WINDOW_START) numbers old.window new.window) (new.window ≡ old.window) → AreSets sets new.window × (length new.window ≡ length old.window)
    of-window true puts = (good-put sets zero_set (at - WINDOW_START) numbers old.window new.window puts good sound.window, puts.len)
    of-window false same = (subst (AreSets sets) (sym same) sound.window, ap (λ (l : List ℕ). length l) same)

    of-held : (o : Option ℕ) → WritesHeld (at - SEGMENT_START) numbers o old.segment new.segment → AreSets sets new.segment × (length new.segment ≡ length old.segment)
    of-held None same = (subst (AreSets sets) (sym same) sound.segment, ap (λ (l : List ℕ). length l) same)
    of-held (Some made) puts = (good-put sets zero_set (at - SEGMENT_START) numbers old.segment new.segment puts good sound.segment, puts.len)

    of-segment : (b : Bool) → ByTest b (WritesHeld (at - SEGMENT_START) numbers old.holds.segment old.segment new.segment) (new.segment ≡ old.segment) → AreSets sets new.segment × (length new.segment ≡ length old.segment)
    of-segment true w = of-held old.holds.segment w
    of-segment false same = (subst (AreSets sets) (sym same) sound.segment, ap (λ (l : List ℕ). length l) same)

    of-none : (b : Bool) → old.holds.segment ≡ None → ByTest b (WritesHeld (at - SEGMENT_START) numbers old.holds.segment old.segment new.segment) (new.segment ≡ old.segment) → new.segment ≡ []
    of-none true none w = subst (λ o. WritesHeld (at - SEGMENT_START) numbers o old.segment new.segment) none w ∙ sound.unheld none
    of-none false none same = same ∙ sound.unheld none

pub follows : (inside : Inside) (x y : Kept) → IsSound y → GoesBy inside (shown x) (shown y) → Follows inside x y
follows inside x y sound goes = record { sound = sound; goes = goes }
