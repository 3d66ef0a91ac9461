-- Children, in the group and of others.
use Rattle.std.proofs.Common.{◌≡◌, ◌≢◌, ℕ, ◌<◌, ◌-◌, ◌==◌, ◌&&◌, cond, Bool, true, false, List, [], ◌∷◌, slice_index, Option, Some, None, IfSome, option_map, refl, sym, ap, subst, ◌∙◌, ne_eqb}
use Rattle.std.proofs.lemmas.Bool.{eqb-true, eqb-false}
use Rattle.parts_model.specs.declared.limits.TheConstants.{WINDOW_START}
use Rattle.parts_model.specs.Numbered.{nth}
use Rattle.acts_model.specs.Records.{event_len}
use Rattle.acts_model.specs.Transfers.{Holds, Forks, Founds}
use Rattle.lineage_model.specs.Flow.{Register, Slot, Memory, At, Byte, StartRegister, StartSlot, StartMemory, Dependence, Prior, Received, or_else, unless_result, when}
use Rattle.lineage_model.specs.Flow as flow_of
use Rattle.lineage_model.specs.Tracking.{gather}
use Rattle.taint_events.specs.Bytes.{AreEmpty}
use Rattle.taint_pages.specs.Rows.{byte_in}
use Rattle.taint_state.specs.Events.{FoundsTo, plain_heard, sees}
use Rattle.taint_state.specs.EventsShow.{ForksShow, FoundsShow}
use Rattle.taint_state.specs.Kept.{KeptHeard, KeptMember, KeptStart, items_of, point_items, shown, shown_heard, shown_member}
use Rattle.taint_state.specs.Shown.{AreItems, IsPoint, IsRegisterByte, ShowsMember}
use Rattle.taint_state.specs.Sound.{IsSoundMember}
use Rattle.taint_state.specs.Steps.{child_holds, holders_of}
use Rattle.taint_state.proofs.Keeping.{becomes-sound, child-sound, follows, good-empty, old-sound, plain-sound, returned-sound, start-sound, two-sound, zero-later}
use Rattle.taint_state.proofs.Flows.{Setting, Unwritten, copied, copied-where, given, kept, members-show, of-nothing, of-prior, row-cleared, shown-before, sound-before, then}
use Rattle.taint_state.proofs.Goings.{PointsShow, absent-before, empty-points, goes, held-before, holds_kept, holders-kept, holders-same, self-test, setting, unheld-before}
use Rattle.taint_state.proofs.Seeing.{seen-kept, unwritten-sees}
use Rattle.taint_state.proofs.Segments.{not-made}

two : (f : Bool → Bool → Option (List Dependence)) (a b c d : Bool) → a ≡ c → b ≡ d → f a b ≡ f c d
two f a b c d e h = ap (λ k. f k b) e ∙ ap (λ k. f c k) h

-- all members, where one is another, one begins, and none of the bytes of all others is written
members-two : (s : Setting) (pid child : ℕ) (new kid : KeptMember) → nth s.y.members pid ≡ Some new → nth s.y.members child ≡ Some kid
    → ((p : ℕ) → p ≢ pid → p ≢ child → nth s.y.members p ≡ option_map (sees kid) (nth s.x.members p))
    → ShowsMember pid (then s) (shown_member s.y new) → ShowsMember child (then s) (shown_member s.y kid)
    → ((p : ℕ) (other : KeptMember) → p ≢ pid → p ≢ child → nth s.x.members p ≡ Some other → Unwritten s p other.holds)
    → (p : ℕ) → IfSome ((shown s.y).members p) (ShowsMember p (then s))
members-two s pid child new kid parent begins same own kids unwritten p = by_tests (p == pid) (p == child) refl refl
  where
    of_other : p ≢ pid → p ≢ child → (o : Option KeptMember) → nth s.x.members p ≡ o → IfSome (option_map (shown_member s.y) (option_map (sees kid) o)) (ShowsMember p (then s))
    of_other a b None e = tt
    of_other a b (Some other) e = unwritten-sees s p child kid other kids e (unwritten p other a b e)

    by_tests : (a b : Bool) → (p == pid) ≡ a → (p == child) ≡ b → IfSome ((shown s.y).members p) (ShowsMember p (then s))
    by_tests true b e h =
        subst (λ q. IfSome ((shown s.y).members q) (ShowsMember q (then s))) (sym (eqb-true p pid e))
        (subst (λ o. IfSome (option_map (shown_member s.y) o) (ShowsMember pid (then s))) (sym parent) own)
    by_tests false true e h =
        subst (λ q. IfSome ((shown s.y).members q) (ShowsMember q (then s))) (sym (eqb-true p child h))
        (subst (λ o. IfSome (option_map (shown_member s.y) o) (ShowsMember child (then s))) (sym begins) kids)
    by_tests false false e h =
        let a = eqb-false p pid e in
        let b = eqb-false p child h in
        subst (λ o. IfSome (option_map (shown_member s.y) o) (ShowsMember p (then s))) (sym (same p a b)) (of_other a b (nth s.x.members p) refl)

pub forks-show : ForksShow
forks-show x y pid number e before child old new kid numbers sound empty to forks becomes =
    let heard = plain_heard number numbers in
    let tr = Forks pid child old.holds.window number in
    let kid_holds : Some kid.holds ≡ child_holds number (holders_of (shown x) pid) = ap (λ (m : KeptMember). Some m.holds) forks.others ∙ sym (ap (child_holds number) (held-before x pid old becomes.was)) in
    let holds : new.holds ≡ old.holds = ap (λ (m : KeptMember). m.holds) to.others in
    follows _ x y
    (two-sound x y pid child old new kid heard sound becomes (returned-sound y.sets old new (zero-later x y sound becomes.stays.sets) to (old-sound x y pid old sound becomes.stays.sets becomes.was)) (child-sound y.sets number old kid (zero-later x y sound becomes.stays.sets) forks (old-sound x y pid old sound becomes.stays.sets becomes.was)) (plain-sound y.sets number numbers (good-empty y.sets (zero-later x y sound becomes.stays.sets) (event_len e) numbers empty)))
    (goes x y pid number e before tr heard sound becomes.stays becomes.heard refl empty.len refl (λ h k. refl)
    (λ p. by_tests p (p == child) (p == pid) refl refl kid_holds holds)
    (λ clear possible t shows.
    let s = setting x y pid number e before tr heard sound becomes.stays t shows in
    let had = shown-before s pid old becomes.was in
    let sets = sound-before s pid old becomes.was in
    let unheld = unheld-before x number pid old possible.0 becomes.was in
    let apart = absent-before x child pid old possible.1 becomes.was in (
      members-two s pid child new kid (becomes.parent apart) becomes.begins becomes.others
          (subst (λ m. ShowsMember pid (then s) (shown_member y m)) (sym to.others) (record {
            registers = row-cleared s pid old.registers new.registers (λ b. or_else (when b []) None) refl refl
                (λ r i. two (λ a b. or_else (when (a && (r == 10)) []) (when b (unless_result r (Prior (Register pid r i) ∷ [])))) (pid == pid) (pid == child) true false (self-test pid) (ne_eqb pid child apart))
                to.result sets.registers had.registers;
            slot = λ r i is. kept s _ (Slot pid r i) (sets.slot r i is) (had.slot r i is) (ap (λ b. when b (Prior (Slot pid r i) ∷ [])) (ne_eqb pid child apart));
            window = λ at is. kept s _ (Memory old.holds.window at) (sets.window _) (had.window at is) (ap (λ b. when b (Prior (Memory old.holds.window at) ∷ [])) (ne_eqb old.holds.window number unheld.window));
            segment = λ made at has is. kept s _ (Memory made at) (sets.segment _) (had.segment made at has is) (ap (λ b. when b (Prior (Memory old.holds.window at) ∷ [])) (ne_eqb made number (not-made number old.holds made unheld has)));
          }))
          (subst (λ m. ShowsMember child (then s) (shown_member y m)) (sym forks.others) (record {
            registers = λ r i is.
                copied-where s (byte_in kid.registers r i) (byte_in old.registers r i) (Register child r i) (Register pid r i) (r == 10)
                (two (λ a b. or_else (when (a && (r == 10)) []) (when b (unless_result r (Prior (Register pid r i) ∷ [])))) (child == pid) (child == child) false true (ne_eqb child pid (λ same. apart (sym same))) (self-test child))
                (forks.result r i is.byte) (sets.registers r i is) (had.registers r i is);
            slot = λ r i is. copied s (byte_in old.slot r i) (Slot child r i) (Slot pid r i) (sets.slot r i is) (had.slot r i is) (ap (λ b. when b (Prior (Slot pid r i) ∷ [])) (self-test child));
            window = λ at is. copied s _ (Memory number at) (Memory old.holds.window at) (sets.window _) (had.window at is) (ap (λ b. when b (Prior (Memory old.holds.window at) ∷ [])) (self-test number));
            segment = λ made at has is. kept s _ (Memory made at) (sets.segment _) (had.segment made at has is) (ap (λ b. when b (Prior (Memory old.holds.window at) ∷ [])) (ne_eqb made number (not-made number old.holds made unheld has)));
          }))
          (λ p other a b was.
          let free = unheld-before x number p other possible.0 was in
          record {
            registers = λ r i. two (λ k j. or_else (when (k && (r == 10)) []) (when j (unless_result r (Prior (Register pid r i) ∷ [])))) (p == pid) (p == child) false false (ne_eqb p pid a) (ne_eqb p child b);
            slot = λ r i. ap (λ k. when k (Prior (Slot pid r i) ∷ [])) (ne_eqb p child b);
            window = λ at is. ap (λ k. when k (Prior (Memory old.holds.window at) ∷ [])) (ne_eqb other.holds.window number free.window);
            segment = λ made at has is. ap (λ k. when k (Prior (Memory old.holds.window at) ∷ [])) (ne_eqb made number (not-made number other.holds made free has));
          }),
      empty-points s number (event_len e) numbers empty (λ k. refl),
    )))
  where
    Held : ℕ → Type 0
    Held p = holders_of (shown y) p ≡ cond (p == child) (child_holds number (holders_of (shown x) pid)) (holders_of (shown x) p)

    by_tests : (p : ℕ) (a b : Bool) → (p == child) ≡ a → (p == pid) ≡ b → Some kid.holds ≡ child_holds number (holders_of (shown x) pid) → new.holds ≡ old.holds → Held p
    by_tests p true b k j kid_holds holds =
        holders-kept y p
        ∙ (subst (λ q. holds_kept (nth y.members q) ≡ child_holds number (holders_of (shown x) pid)) (sym (eqb-true p child k)) (ap holds_kept becomes.begins ∙ kid_holds)
        ∙ ap (λ t. cond t (child_holds number (holders_of (shown x) pid)) (holders_of (shown x) p)) (sym k))
    by_tests p false true k j kid_holds holds =
        let same = eqb-true p pid j in
        let apart = subst (λ q. q ≢ child) same (eqb-false p child k) in
        holders-kept y p
        ∙ (subst (λ q. holds_kept (nth y.members q) ≡ holders_of (shown x) q) (sym same)
        (ap holds_kept (becomes.parent apart) ∙ (ap (λ (h : Holds). Some h) holds ∙ sym (held-before x pid old becomes.was)))
        ∙ ap (λ t. cond t (child_holds number (holders_of (shown x) pid)) (holders_of (shown x) p)) (sym k))
    by_tests p false false k j kid_holds holds =
        holders-kept y p
        ∙ (ap holds_kept (becomes.others p (eqb-false p pid j) (eqb-false p child k)) ∙ seen-kept kid (nth x.members p)
        ∙ (sym (holders-kept x p) ∙ ap (λ t. cond t (child_holds number (holders_of (shown x) pid)) (holders_of (shown x) p)) (sym k)))

-- what a child has that starts a group
start-points : (s : Setting) (pid child number : ℕ) (old : KeptMember) (start : KeptStart) (numbers : List ℕ) (count : ℕ) → s.tr ≡ Founds pid child old.holds.window number
    → AreEmpty count numbers → FoundsTo old start → ShowsMember pid s.t (shown_member s.x old) → IsSoundMember s.x.sets old
    → PointsShow s (record { event = number; numbers = numbers; start = Some start })
start-points s pid child number old start numbers count is empty founds had sets at point =
    subst (λ tr. AreItems (point_items s.y (record { event = number; numbers = numbers; start = Some start }) at) (gather (given s) s.t.locations (flow_of.shown tr at))) (sym is) (at_point at point)
  where
    at_register : (r i n : ℕ) (b : Bool) → IsRegisterByte r i → n ≡ cond b 0 (byte_in old.registers r i) → AreItems (items_of s.x (byte_in old.registers r i)) (s.t.locations (Register pid r i))
        → AreItems (items_of s.y n) (gather (given s) s.t.locations (cond b [] (Prior (Register pid r i) ∷ [])))
    at_register r i n true is e h = of-nothing s n e
    at_register r i n false is e h = subst (λ k. AreItems (items_of s.y k) (gather (given s) s.t.locations (Prior (Register pid r i) ∷ []))) (sym e) (of-prior s (byte_in old.registers r i) (Register pid r i) (sets.registers r i is) h)

    at_point : (a : At) → IsPoint (shown_heard s.y (record { event = number; numbers = numbers; start = Some start })) a
        → AreItems (point_items s.y (record { event = number; numbers = numbers; start = Some start }) a) (gather (given s) s.t.locations (flow_of.shown (Founds pid child old.holds.window number) a))
    at_point (Byte k) below = of-nothing s (slice_index numbers k) (empty.all k (subst (λ n. k < n) empty.len below))
    at_point (StartRegister r i) is_byte = at_register r i (byte_in start.registers r i) (r == 10) is_byte.1 (founds.result r i is_byte.1.byte) (had.registers r i is_byte.1)
    at_point (StartSlot r i) is_byte =
        subst (λ row. AreItems (items_of s.y (byte_in row r i)) (gather (given s) s.t.locations (Prior (Slot pid r i) ∷ []))) (sym founds.slot)
        (of-prior s (byte_in old.slot r i) (Slot pid r i) (sets.slot r i is_byte.1) (had.slot r i is_byte.1))
    at_point (StartMemory a) is_byte =
        subst (λ window. AreItems (items_of s.y (slice_index window (a - WINDOW_START))) (gather (given s) s.t.locations (Prior (Memory old.holds.window a) ∷ []))) (sym founds.window)
        (of-prior s (slice_index old.window (a - WINDOW_START)) (Memory old.holds.window a) (sets.window _) (had.window a is_byte.1))

pub founds-show : FoundsShow
founds-show x y pid number e before child old new start numbers sound empty to founds becomes =
    let heard : KeptHeard = record { event = number; numbers = numbers; start = Some start } in
    let tr = Founds pid child old.holds.window number in
    let holds : new.holds ≡ old.holds = ap (λ (m : KeptMember). m.holds) to.others in
    follows _ x y
    (becomes-sound x y pid old (Some new) heard sound becomes (returned-sound y.sets old new (zero-later x y sound becomes.stays.sets) to (old-sound x y pid old sound becomes.stays.sets becomes.was)) (start-sound y.sets number numbers old start (zero-later x y sound becomes.stays.sets) (good-empty y.sets (zero-later x y sound becomes.stays.sets) (event_len e) numbers empty) founds (old-sound x y pid old sound becomes.stays.sets becomes.was)))
    (goes x y pid number e before tr heard sound becomes.stays becomes.heard refl empty.len refl (λ h k. refl)
    (holders-same x y pid old new heard becomes holds)
    (λ clear possible t shows.
    let s = setting x y pid number e before tr heard sound becomes.stays t shows in
    let had = shown-before s pid old becomes.was in
    let sets = sound-before s pid old becomes.was in
    let unheld = unheld-before x number pid old possible.0 becomes.was in
    let apart = absent-before x child pid old possible.1 becomes.was in (
      members-show s pid (Some new) becomes.members
          (subst (λ m. ShowsMember pid (then s) (shown_member y m)) (sym to.others) (record {
            registers = row-cleared s pid old.registers new.registers (λ b. or_else (when b []) None) refl refl
                (λ r i. two (λ a b. or_else (when (a && (r == 10)) []) (when b (unless_result r (Received (StartRegister r i) ∷ [])))) (pid == pid) (pid == child) true false (self-test pid) (ne_eqb pid child apart))
                to.result sets.registers had.registers;
            slot = λ r i is. kept s _ (Slot pid r i) (sets.slot r i is) (had.slot r i is) (ap (λ b. when b (Received (StartSlot r i) ∷ [])) (ne_eqb pid child apart));
            window = λ at is. kept s _ (Memory old.holds.window at) (sets.window _) (had.window at is) (ap (λ b. when b (Received (StartMemory at) ∷ [])) (ne_eqb old.holds.window number unheld.window));
            segment = λ made at has is. kept s _ (Memory made at) (sets.segment _) (had.segment made at has is) (ap (λ b. when b (Received (StartMemory at) ∷ [])) (ne_eqb made number (not-made number old.holds made unheld has)));
          }))
          (λ p other ne was.
          let free = unheld-before x number p other possible.0 was in
          let away = absent-before x child p other possible.1 was in
          record {
            registers = λ r i. two (λ k j. or_else (when (k && (r == 10)) []) (when j (unless_result r (Received (StartRegister r i) ∷ [])))) (p == pid) (p == child) false false (ne_eqb p pid ne) (ne_eqb p child away);
            slot = λ r i. ap (λ k. when k (Received (StartSlot r i) ∷ [])) (ne_eqb p child away);
            window = λ at is. ap (λ k. when k (Received (StartMemory at) ∷ [])) (ne_eqb other.holds.window number free.window);
            segment = λ made at has is. ap (λ k. when k (Received (StartMemory at) ∷ [])) (ne_eqb made number (not-made number other.holds made free has));
          }),
      start-points s pid child number old start numbers (event_len e) refl empty founds had sets,
    )))
