-- A member that begins without a parent.
use Rattle.std.proofs.Common.{◌≡◌, ℕ, ◌+◌, ◌-◌, ◌*◌, ◌<◌, ◌==◌, cond, Bool, true, false, List, [], ◌∷◌, slice_index, Option, Some, None, IfSome, IsNone, option_map, refl, sym, ap, subst, ◌∙◌, ne_eqb, arith}
use Rattle.std.proofs.lemmas.Bool.{eqb-true, eqb-false}
use Rattle.rv64_model.specs.Carries.{operands}
use Rattle.parts_model.specs.declared.limits.TheConstants.{WINDOW_START}
use Rattle.acts_model.specs.Transfers.{Holds, Begins, is_private}
use Rattle.lineage_model.specs.Flow.{StartRegister, StartSlot, StartMemory, Register, Slot, Memory, Received, unless_result, when}
use Rattle.lineage_model.specs.Flow as flow_of
use Rattle.lineage_model.specs.Tracking.{gather}
use Rattle.taint_events.specs.Beginning.{BeginsRegisters}
use Rattle.taint_pages.specs.Rows.{byte_in}
use Rattle.taint_state.specs.EventsShow.{BeginsShow}
use Rattle.taint_state.specs.Goes.{hearing_of, hearings_of}
use Rattle.taint_state.specs.Kept.{KeptHeard, heard_among, point_items, shown, shown_heard}
use Rattle.taint_state.specs.Shown.{AreItems, ShowsHeard}
use Rattle.taint_state.specs.Sound.{IsSoundHeard}
use Rattle.taint_state.specs.Steps.{holders_of}
use Rattle.taint_state.proofs.Keeping.{begins-sound, follows}
use Rattle.taint_state.proofs.Flows.{Setting, Takes, cleared, given, taken, then, writes}
use Rattle.taint_state.proofs.Goings.{hearing-kept, held-before, is-point, point-same, self-test}
use Rattle.taint_state.proofs.Reading.{private-bounds}
use Rattle.taint_state.proofs.Receiving.{item-items}
use Rattle.taint_state.proofs.Received.{window-inside}
use Rattle.taint_state.proofs.Seeing.{holders-seen, members-seen}
use Rattle.taint_state.proofs.Segments.{not-made}
use Rattle.taint_state.proofs.StartingShown.{no-segment, own-before}

heard-before : (s : Setting) → ((e : ℕ) → heard_among s.y.heard e ≡ heard_among s.x.heard e) → IsNone (hearings_of (shown s.x) s.event.number) → (e : ℕ) → IfSome ((shown s.y).heard e) (ShowsHeard e (then s))
heard-before s same new e =
    subst (λ o. IfSome (option_map (shown_heard s.y) o) (ShowsHeard e (then s))) (sym (same e)) (of (heard_among s.x.heard e) refl)
  where
    none-heard : (h : KeptHeard) → IsNone (option_map hearing_of (option_map (shown_heard s.x) (Some h))) → ⊥
    none-heard h n = absurd (cc)

    other : (h : KeptHeard) → heard_among s.x.heard e ≡ Some h → (e == s.event.number) ≡ false
    other h was = ne_eqb e s.event.number (λ q.
        none-heard h (subst (λ o. IsNone (option_map hearing_of (option_map (shown_heard s.x) o))) was (subst (λ j. IsNone (hearings_of (shown s.x) j)) (sym q) new)))

    of : (o : Option KeptHeard) → heard_among s.x.heard e ≡ o → IfSome (option_map (shown_heard s.y) o) (ShowsHeard e (then s))
    of None was = tt
    of (Some h) was =
        let sound = subst (λ o. IfSome o (IsSoundHeard s.x.sets)) was (s.sound.heard e) in
        let shows = subst (λ o. IfSome (option_map (shown_heard s.x) o) (ShowsHeard e s.t)) was (s.shows.heard e) in
        λ at point.
        subst (λ b. AreItems (point_items s.y h at) (cond b (gather (given s) s.t.locations (flow_of.shown s.tr at)) (s.t.points e at))) (sym (other h was))
        (subst (λ its. AreItems its (s.t.points e at)) (sym (point-same s h sound at (is-point s h at point))) (shows at (is-point s h at point)))

begin-register : (s : Setting) (pid : ℕ) (row : List ℕ) (r i : ℕ) (test : Bool) → (r == 10) ≡ test → BeginsRegisters s.y.sets s.event.number row → 0 < r → r < 32 → i < 8
    → writes s (Register pid r i) ≡ Some (cond test [] (Received (StartRegister r i) ∷ [])) → Takes s (byte_in row r i) (Register pid r i)
begin-register s pid row r i true e begins above below byte w =
    cleared s (byte_in row r i) (Register pid r i) (subst (λ q. byte_in row q i ≡ 0) (sym (eqb-true r 10 e)) (begins.result i byte)) w
begin-register s pid row r i false e begins above below byte w =
    taken s (byte_in row r i) (Register pid r i) (StartRegister r i) (item-items s (8 * (r - 1) + i) (byte_in row r i) (begins.items r i above below (eqb-false r 10 e) byte)) w

pub begins-show : BeginsShow
begins-show x y pid number e before new sound to begins =
    follows _ x y
    (begins-sound x y pid number new sound to begins)
    (record {
      linkage = begins.linkage;
      holders = λ p. holders-seen x y pid new begins.members p ∙ ap (λ (h : Holds). cond (p == pid) (Some h) (holders_of (shown x) p)) to.holds;
      heard = λ k. ap (λ (o : Option KeptHeard). option_map hearing_of (option_map (shown_heard y) o)) (begins.heard k) ∙ hearing-kept x y (heard_among x.heard k);
      shows = λ clear possible t shows.
          let s : Setting = record {
            x = x;
            y = y;
            sound = sound;
            stays = record { linkage = begins.linkage; sets = begins.sets };
            t = t;
            shows = shows;
            table = operands x.linkage;
            tr = Begins pid number;
            event = record { number = number; entry = e };
          } in
          record {
            members =
                members-seen s pid new begins.members
                (record {
                  registers = λ r i is. begin-register s pid new.registers r i (r == 10) refl to.registers is.above is.below is.byte (ap (λ b. when b (unless_result r (Received (StartRegister r i) ∷ []))) (self-test pid));
                  slot = λ r i is. taken s _ (Slot pid r i) (StartSlot r i) (item-items s (248 + (8 * (r - 1) + i)) (byte_in new.slot r i) (to.slot r i is.above is.below is.byte)) (ap (λ b. when b (Received (StartSlot r i) ∷ [])) (self-test pid));
                  window = λ a is.
                      let back : WINDOW_START + (a - WINDOW_START) ≡ a = from-start a is in
                      taken s _ (Memory new.holds.window a) (StartMemory a)
                      (item-items s (WINDOW_START + (a - WINDOW_START)) (slice_index new.window (a - WINDOW_START)) (to.window.items (a - WINDOW_START) (window-inside a 262144 is refl)) ∙ ap (λ (k : ℕ). record { event = number; at = k } ∷ []) back)
                      (ap (λ m. when (m == number) (Received (StartMemory a) ∷ [])) (ap (λ (h : Holds). h.window) to.holds) ∙ ap (λ b. when b (Received (StartMemory a) ∷ [])) (self-test number));
                  segment = λ made a has is. no-segment number new.holds made to.holds has;
                })
                (λ p other ne was.
                let free = own-before x number pid p other possible.0 ne (held-before x p other was) in
                record {
                  registers = λ r i. ap (λ b. when b (unless_result r (Received (StartRegister r i) ∷ []))) (ne_eqb p pid ne);
                  slot = λ r i. ap (λ b. when b (Received (StartSlot r i) ∷ [])) (ne_eqb p pid ne);
                  window = λ a is. ap (λ b. when b (Received (StartMemory a) ∷ [])) (ne_eqb other.holds.window number free.window);
                  segment = λ made a has is. ap (λ b. when b (Received (StartMemory a) ∷ [])) (ne_eqb made number (not-made number other.holds made free has));
                });
            heard = heard-before s begins.heard possible.1;
          };
    })
  where
    from-start : (a : ℕ) → is_private a ≡ true → WINDOW_START + (a - WINDOW_START) ≡ a
    from-start a is = let bounds = private-bounds a is in let above = bounds.0 in omega arith
