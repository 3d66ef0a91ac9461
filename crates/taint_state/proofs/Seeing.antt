-- Members that see of the memories of another what that one keeps.
use Rattle.std.proofs.Common.{◌≡◌, ◌≢◌, ℕ, ◌-◌, ◌==◌, cond, Bool, true, false, Option, Some, None, IfSome, IsTrue, option_map, slice_index, refl, sym, ap, subst, ◌∙◌}
use Rattle.std.proofs.lemmas.Bool.{eqb-true, eqb-false}
use Rattle.parts_model.specs.declared.limits.TheConstants.{WINDOW_START, SEGMENT_START}
use Rattle.parts_model.specs.Numbered.{nth}
use Rattle.acts_model.specs.Transfers.{Holds, is_private, is_shared}
use Rattle.lineage_model.specs.Flow.{Memory, Register, Slot}
use Rattle.lineage_model.specs.Tracking.{EventByte, Tracked}
use Rattle.taint_pages.specs.Rows.{byte_in}
use Rattle.taint_state.specs.Events.{PutsSeen, is_one, sees}
use Rattle.taint_state.specs.Kept.{Kept, KeptMember, items_of, shown, shown_member}
use Rattle.taint_state.specs.Shown.{AreItems, IsRegisterByte, ShowsMember}
use Rattle.taint_state.specs.Steps.{holders_of}
use Rattle.taint_state.proofs.Flows.{Setting, Unwritten, one-true, same-member, shown-before, sound-before, then}
use Rattle.taint_state.proofs.Goings.{holds_kept, holders-kept, self-test}

pub some-inj : (a b : ℕ) → Some a ≡ Some b → a ≡ b
some-inj a b e = cc

pub one-false : (m : ℕ) (a b : Option ℕ) → is_one a b ≡ false → a ≡ Some m → b ≡ Some m → ⊥
one-false m a b h e f =
    let same : is_one (Some m) (Some m) ≡ false = subst (λ o. is_one (Some m) o ≡ false) f (subst (λ o. is_one o b ≡ false) e h) in
    differ (sym (self-test m) ∙ same)
  where
    differ : true ≡ false → ⊥
    differ q = absurd (cc)

-- who holds a memory of a member shows of it what the member shows
pub sees-shows : (y : Kept) (next : Tracked EventByte) (p pid : ℕ) (new other : KeptMember) → ShowsMember pid next (shown_member y new)
    → ((r i : ℕ) → IsRegisterByte r i → AreItems (items_of y (byte_in other.registers r i)) (next.locations (Register p r i)))
    → ((r i : ℕ) → IsRegisterByte r i → AreItems (items_of y (byte_in other.slot r i)) (next.locations (Slot p r i)))
    → (other.holds.window ≢ new.holds.window → (a : ℕ) → IsTrue (is_private a) → AreItems (items_of y (slice_index other.window (a - WINDOW_START))) (next.locations (Memory other.holds.window a)))
    → ((made a : ℕ) → other.holds.segment ≡ Some made → new.holds.segment ≢ Some made → IsTrue (is_shared a) → AreItems (items_of y (slice_index other.segment (a - SEGMENT_START))) (next.locations (Memory made a)))
    → ShowsMember p next (shown_member y (sees new other))
sees-shows y next p pid new other own registers slot window segment = record {
  registers = registers;
  slot = slot;
  window = λ a is. by_window a is (other.holds.window == new.holds.window) refl;
  segment = λ made a has is. by_segment made a has is (is_one other.holds.segment new.holds.segment) refl;
} where
  by_window : (a : ℕ) → IsTrue (is_private a) → (b : Bool) → (other.holds.window == new.holds.window) ≡ b
      → AreItems (items_of y (slice_index (cond b new.window other.window) (a - WINDOW_START))) (next.locations (Memory other.holds.window a))
  by_window a is true e = subst (λ k. AreItems (items_of y (slice_index new.window (a - WINDOW_START))) (next.locations (Memory k a))) (sym (eqb-true other.holds.window new.holds.window e)) (own.window a is)
  by_window a is false e = window (eqb-false other.holds.window new.holds.window e) a is

  by_segment : (made a : ℕ) → other.holds.segment ≡ Some made → IsTrue (is_shared a) → (b : Bool) → is_one other.holds.segment new.holds.segment ≡ b
      → AreItems (items_of y (slice_index (cond b new.segment other.segment) (a - SEGMENT_START))) (next.locations (Memory made a))
  by_segment made a has is true e = own.segment made a (sym (one-true other.holds.segment new.holds.segment e) ∙ has) is
  by_segment made a has is false e = segment made a has (λ q. one-false made other.holds.segment new.holds.segment e has q) is

-- where none of its own bytes is written
pub unwritten-sees : (s : Setting) (p pid : ℕ) (new other : KeptMember) → ShowsMember pid (then s) (shown_member s.y new) → nth s.x.members p ≡ Some other → Unwritten s p other.holds
    → ShowsMember p (then s) (shown_member s.y (sees new other))
unwritten-sees s p pid new other own was off =
    let same = same-member s p other (sound-before s p other was) off (shown-before s p other was) in
    sees-shows s.y (then s) p pid new other own same.registers same.slot (λ ne. same.window) (λ made a has ne. same.segment made a has)

pub seen-kept : (new : KeptMember) (o : Option KeptMember) → holds_kept (option_map (sees new) o) ≡ holds_kept o
seen-kept new None = refl
seen-kept new (Some m) = refl

pub holders-seen : (x y : Kept) (pid : ℕ) (new : KeptMember) → PutsSeen pid new x.members y.members → (p : ℕ) → holders_of (shown y) p ≡ cond (p == pid) (Some new.holds) (holders_of (shown x) p)
holders-seen x y pid new b p = holders-kept y p ∙ by_test (p == pid) refl
  where
    by_test : (t : Bool) → (p == pid) ≡ t → holds_kept (nth y.members p) ≡ cond (p == pid) (Some new.holds) (holders_of (shown x) p)
    by_test true h =
        subst (λ q. holds_kept (nth y.members q) ≡ Some new.holds) (sym (eqb-true p pid h)) (ap holds_kept b.one)
        ∙ ap (λ t. cond t (Some new.holds) (holders_of (shown x) p)) (sym h)
    by_test false h =
        ap holds_kept (b.others p (eqb-false p pid h)) ∙ (seen-kept new (nth x.members p)
        ∙ (sym (holders-kept x p) ∙ ap (λ t. cond t (Some new.holds) (holders_of (shown x) p)) (sym h)))

-- a member that is put holds what it held
pub holders-still : (x y : Kept) (pid : ℕ) (old new : KeptMember) → nth x.members pid ≡ Some old → PutsSeen pid new x.members y.members → new.holds ≡ old.holds
    → (p : ℕ) → holders_of (shown y) p ≡ holders_of (shown x) p
holders-still x y pid old new was b same p = holders-seen x y pid new b p ∙ by_test (p == pid) refl
  where
    by_test : (t : Bool) → (p == pid) ≡ t → cond t (Some new.holds) (holders_of (shown x) p) ≡ holders_of (shown x) p
    by_test true h = ap (λ (k : Holds). Some k) same ∙ (sym (ap holds_kept was) ∙ (sym (holders-kept x pid) ∙ ap (holders_of (shown x)) (sym (eqb-true p pid h))))
    by_test false h = refl

-- all members, where one is put
pub members-seen-by : (y : Kept) (x : Kept) (next : Tracked EventByte) (pid : ℕ) (new : KeptMember) → PutsSeen pid new x.members y.members → ShowsMember pid next (shown_member y new)
    → ((p : ℕ) (other : KeptMember) → p ≢ pid → nth x.members p ≡ Some other → ShowsMember p next (shown_member y (sees new other)))
    → (p : ℕ) → IfSome ((shown y).members p) (ShowsMember p next)
members-seen-by y x next pid new b own others p = by_test (p == pid) refl
  where
    of_other : p ≢ pid → (o : Option KeptMember) → nth x.members p ≡ o → IfSome (option_map (shown_member y) (option_map (sees new) o)) (ShowsMember p next)
    of_other ne None e = tt
    of_other ne (Some other) e = others p other ne e

    by_test : (t : Bool) → (p == pid) ≡ t → IfSome ((shown y).members p) (ShowsMember p next)
    by_test true e =
        subst (λ q. IfSome ((shown y).members q) (ShowsMember q next)) (sym (eqb-true p pid e))
        (subst (λ o. IfSome (option_map (shown_member y) o) (ShowsMember pid next)) (sym b.one) own)
    by_test false e =
        let ne = eqb-false p pid e in
        subst (λ o. IfSome (option_map (shown_member y) o) (ShowsMember p next)) (sym (b.others p ne)) (of_other ne (nth x.members p) refl)

pub members-seen : (s : Setting) (pid : ℕ) (new : KeptMember) → PutsSeen pid new s.x.members s.y.members → ShowsMember pid (then s) (shown_member s.y new)
    → ((p : ℕ) (other : KeptMember) → p ≢ pid → nth s.x.members p ≡ Some other → Unwritten s p other.holds)
    → (p : ℕ) → IfSome ((shown s.y).members p) (ShowsMember p (then s))
members-seen s pid new b own off = members-seen-by s.y s.x (then s) pid new b own (λ p other ne was. unwritten-sees s p pid new other own was (off p other ne was))
