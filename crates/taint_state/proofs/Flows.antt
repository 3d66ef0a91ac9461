-- What bytes have after an event of a member, where they take nothing, what another byte had, or a received byte.
use Rattle.std.proofs.Common.{◌≡◌, ◌≢◌, ℕ, ◌==◌, cond, Bool, true, false, List, [], ◌∷◌, ◌++◌, Option, Some, None, IfSome, IsTrue, option_map, unwrap_or, refl, sym, ap, subst, ◌∙◌, append-nil, arith}
use Rattle.std.proofs.lemmas.Bool.{eqb-true, eqb-false}
use Rattle.rv64_model.specs.Carries.{Table}
use Rattle.parts_model.specs.Numbered.{nth}
use Rattle.taint_spans.specs.Numbered.{IsSet}
use Rattle.acts_model.specs.Moved.{Event}
use Rattle.acts_model.specs.Transfers.{Holds, Transfer, is_private, is_shared}
use Rattle.lineage_model.specs.Flow.{At, Location, Register, Slot, Memory, Dependence, Prior, Received, written}
use Rattle.lineage_model.specs.Tracking.{EventByte, Tracked, after, gather, items}
use Rattle.taint_members.specs.Rows.{ClearsResult}
use Rattle.taint_pages.specs.Rows.{byte_in}
use Rattle.taint_state.specs.Events.{PutsMember, Stays, is_one}
use Rattle.taint_state.specs.Kept.{Kept, KeptMember, items_of, shown, shown_member}
use Rattle.taint_state.specs.Shown.{AreItems, IsRegisterByte, Shows, ShowsMember, place_of}
use Rattle.taint_state.specs.Sound.{AreSetsOfRow, IsSound, IsSoundMember}

-- x10's first byte
pub first-byte : IsRegisterByte 10 0
first-byte = record { above = omega arith; below = omega arith; byte = omega arith }

-- both hold one segment
pub one-true : (a b : Option ℕ) → is_one a b ≡ true → a ≡ b
one-true (Some a) (Some b) h = ap (λ (k : ℕ). Some k) (eqb-true a b h)
one-true (Some a) None h = absurd (cc)
one-true None b h = absurd (cc)

-- a step, with a tracking by lists that what was kept shows
pub record Setting : Type 0 where
  pub x : Kept
  pub y : Kept
  pub sound : IsSound x
  pub stays : Stays x y
  pub t : Tracked EventByte
  pub shows : Shows (shown x) t
  pub table : Table
  pub tr : Transfer
  pub event : Event

abbrev pub given : Setting → At → List EventByte
given s = items (Some s.event)

abbrev pub then : Setting → Tracked EventByte
then s = after s.table (given s) (Some s.event) s.tr s.t

module _ (s : Setting) where
  pub items-same : (n : ℕ) → IsSet s.x.sets n → items_of s.y n ≡ items_of s.x n
  items-same n set = s.stays.sets.same n set

  pub items-nothing : items_of s.y 0 ≡ []
  items-nothing = s.stays.sets.same 0 s.sound.zero ∙ s.sound.empty

  -- what a location takes
  abbrev pub Takes : ℕ → Location → Type 0
  Takes n l = AreItems (items_of s.y n) ((then s).locations l)

  abbrev pub Had : ℕ → Location → Type 0
  Had n l = AreItems (items_of s.x n) (s.t.locations l)

  abbrev pub writes : Location → Option (List Dependence)
  writes l = written s.table s.tr l

  pub by-written : (n : ℕ) (l : Location) (o : Option (List Dependence)) → writes l ≡ o
      → AreItems (items_of s.y n) (gather (given s) s.t.locations (unwrap_or o (Prior l ∷ []))) → Takes n l
  by-written n l o e h = subst (λ w. AreItems (items_of s.y n) (gather (given s) s.t.locations (unwrap_or w (Prior l ∷ [])))) (sym e) h

  -- a byte that had this
  pub of-prior : (n : ℕ) (l : Location) → IsSet s.x.sets n → Had n l → AreItems (items_of s.y n) (gather (given s) s.t.locations (Prior l ∷ []))
  of-prior n l raw had =
      subst (λ its. AreItems its (s.t.locations l ++ [])) (sym (items-same n raw))
      (subst (λ bytes. AreItems (items_of s.x n) bytes) (sym (append-nil (s.t.locations l))) had)

  pub kept : (n : ℕ) (l : Location) → IsSet s.x.sets n → Had n l → writes l ≡ None → Takes n l
  kept n l raw had e = by-written n l None e (of-prior n l raw had)

  pub copied : (n : ℕ) (l from : Location) → IsSet s.x.sets n → Had n from → writes l ≡ Some (Prior from ∷ []) → Takes n l
  copied n l from raw had e = by-written n l (Some (Prior from ∷ [])) e (of-prior n from raw had)

  pub of-nothing : (n : ℕ) → n ≡ 0 → AreItems (items_of s.y n) []
  of-nothing n e = subst (λ k. AreItems (items_of s.y k) []) (sym e) (subst (λ its. AreItems its []) (sym items-nothing) (λ item. (λ h. h, λ h. h)))

  pub cleared : (n : ℕ) (l : Location) → n ≡ 0 → writes l ≡ Some [] → Takes n l
  cleared n l zero e = by-written n l (Some []) e (of-nothing n zero)

  pub of-received : (n : ℕ) (at : At) → items_of s.y n ≡ record { event = s.event.number; at = place_of at } ∷ []
      → AreItems (items_of s.y n) (gather (given s) s.t.locations (Received at ∷ []))
  of-received n at e = subst (λ its. AreItems its (record { event = s.event.number; at = at } ∷ [])) (sym e) (λ item. (λ h. h, λ h. h))

  pub taken : (n : ℕ) (l : Location) (at : At) → items_of s.y n ≡ record { event = s.event.number; at = place_of at } ∷ [] → writes l ≡ Some (Received at ∷ []) → Takes n l
  taken n l at is e = by-written n l (Some (Received at ∷ [])) e (of-received n at is)

  -- a test says whether it takes nothing
  pub cleared-where : (n old : ℕ) (l : Location) (test : Bool) (w : Bool → Option (List Dependence)) → writes l ≡ w test → w true ≡ Some [] → w false ≡ None
      → n ≡ cond test 0 old → IsSet s.x.sets old → Had old l → Takes n l
  cleared-where n old l true w e on off is raw had = cleared n l is (e ∙ on)
  cleared-where n old l false w e on off is raw had = subst (λ k. Takes k l) (sym is) (kept old l raw had (e ∙ off))

  pub copied-where : (n old : ℕ) (l from : Location) (test : Bool) → writes l ≡ Some (cond test [] (Prior from ∷ [])) → n ≡ cond test 0 old → IsSet s.x.sets old → Had old from → Takes n l
  copied-where n old l from true e is raw had = cleared n l is e
  copied-where n old l from false e is raw had = subst (λ k. Takes k l) (sym is) (copied old l from raw had e)

  -- registers of which x10 takes nothing
  pub row-cleared : (p : ℕ) (old new : List ℕ) (w : Bool → Option (List Dependence)) → w true ≡ Some [] → w false ≡ None → ((r i : ℕ) → writes (Register p r i) ≡ w (r == 10))
      → ClearsResult old new → AreSetsOfRow s.x.sets old → ((r i : ℕ) → IsRegisterByte r i → Had (byte_in old r i) (Register p r i))
      → (r i : ℕ) → IsRegisterByte r i → Takes (byte_in new r i) (Register p r i)
  row-cleared p old new w on off e clears sets had r i is =
      cleared-where (byte_in new r i) (byte_in old r i) (Register p r i) (r == 10) w (e r i) on off (clears r i is.byte) (sets r i is) (had r i is)

  -- a member of whose bytes none is written
  pub record Unwritten (p : ℕ) (h : Holds) : Type 0 where
    pub registers : (r i : ℕ) → writes (Register p r i) ≡ None
    pub slot : (r i : ℕ) → writes (Slot p r i) ≡ None
    pub window : (at : ℕ) → IsTrue (is_private at) → writes (Memory h.window at) ≡ None
    pub segment : (made at : ℕ) → h.segment ≡ Some made → IsTrue (is_shared at) → writes (Memory made at) ≡ None

  pub same-member : (p : ℕ) (m : KeptMember) → IsSoundMember s.x.sets m → Unwritten p m.holds → ShowsMember p s.t (shown_member s.x m) → ShowsMember p (then s) (shown_member s.y m)
  same-member p m sound off shows = record {
    registers = λ r i is. kept _ (Register p r i) (sound.registers r i is) (shows.registers r i is) (off.registers r i);
    slot = λ r i is. kept _ (Slot p r i) (sound.slot r i is) (shows.slot r i is) (off.slot r i);
    window = λ at is. kept _ (Memory m.holds.window at) (sound.window _) (shows.window at is) (off.window at is);
    segment = λ made at has is. kept _ (Memory made at) (sound.segment _) (shows.segment made at has is) (off.segment made at has is);
  }

  -- what a member showed
  pub shown-before : (p : ℕ) (m : KeptMember) → nth s.x.members p ≡ Some m → ShowsMember p s.t (shown_member s.x m)
  shown-before p m e = subst (λ o. IfSome (option_map (shown_member s.x) o) (ShowsMember p s.t)) e (s.shows.members p)

  pub sound-before : (p : ℕ) (m : KeptMember) → nth s.x.members p ≡ Some m → IsSoundMember s.x.sets m
  sound-before p m e = subst (λ o. IfSome o (IsSoundMember s.x.sets)) e (s.sound.members p)

  -- all members, where one is another and none of the bytes of all others is written
  pub members-show : (pid : ℕ) (m : Option KeptMember) → PutsMember pid m s.x.members s.y.members → IfSome m (λ (own : KeptMember). ShowsMember pid (then s) (shown_member s.y own))
      → ((p : ℕ) (other : KeptMember) → p ≢ pid → nth s.x.members p ≡ Some other → Unwritten p other.holds)
      → (p : ℕ) → IfSome ((shown s.y).members p) (ShowsMember p (then s))
  members-show pid m puts own off p = by_test (p == pid) refl
    where
      of_own : (o : Option KeptMember) → IfSome o (λ (own : KeptMember). ShowsMember pid (then s) (shown_member s.y own)) → IfSome (option_map (shown_member s.y) o) (ShowsMember pid (then s))
      of_own None h = tt
      of_own (Some own) h = h

      of_other : p ≢ pid → (o : Option KeptMember) → nth s.x.members p ≡ o → IfSome (option_map (shown_member s.y) o) (ShowsMember p (then s))
      of_other ne None e = tt
      of_other ne (Some other) e = same-member p other (sound-before p other e) (off p other ne e) (shown-before p other e)

      by_test : (b : Bool) → (p == pid) ≡ b → IfSome ((shown s.y).members p) (ShowsMember p (then s))
      by_test true e =
          subst (λ q. IfSome ((shown s.y).members q) (ShowsMember q (then s))) (sym (eqb-true p pid e))
          (subst (λ o. IfSome (option_map (shown_member s.y) o) (ShowsMember pid (then s))) (sym puts.one) (of_own m own))
      by_test false e =
          let ne = eqb-false p pid e in
          subst (λ o. IfSome (option_map (shown_member s.y) o) (ShowsMember p (then s))) (sym (puts.others p ne)) (of_other ne (nth s.x.members p) refl)
