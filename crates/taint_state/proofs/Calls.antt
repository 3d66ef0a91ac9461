-- Calls that move no bytes, deliveries, and returns from handlers.
use Rattle.std.proofs.Common.{◌≡◌, ◌==◌, ◌&&◌, [], ◌∷◌, Some, None, refl, sym, ap, subst, ne_eqb}
use Rattle.acts_model.specs.Records.{event_len}
use Rattle.acts_model.specs.Transfers.{Returns, Delivers, Leaves}
use Rattle.lineage_model.specs.Flow.{Register, Slot, Memory, Prior, or_else, saved, when}
use Rattle.taint_pages.specs.Rows.{byte_in}
use Rattle.taint_state.specs.Events.{plain_heard}
use Rattle.taint_state.specs.EventsShow.{DeliversShow, LeavesShow, ReturnsShow}
use Rattle.taint_state.specs.Kept.{KeptMember, shown_member}
use Rattle.taint_state.specs.Shown.{ShowsMember}
use Rattle.taint_state.proofs.Keeping.{becomes-sound, delivered-sound, follows, good-empty, left-sound, old-sound, plain-sound, returned-sound, zero-later}
use Rattle.taint_state.proofs.Flows.{cleared, copied, copied-where, kept, members-show, row-cleared, shown-before, sound-before, then}
use Rattle.taint_state.proofs.Goings.{empty-points, goes, holders-same, self-test, setting}

pub returns-show : ReturnsShow
returns-show x y pid number e before old new numbers sound empty to becomes =
    let holds : new.holds ≡ old.holds = ap (λ (m : KeptMember). m.holds) to.others in
    follows _ x y
    (becomes-sound x y pid old (Some new) (plain_heard number numbers) sound becomes (returned-sound y.sets old new (zero-later x y sound becomes.stays.sets) to (old-sound x y pid old sound becomes.stays.sets becomes.was)) (plain-sound y.sets number numbers (good-empty y.sets (zero-later x y sound becomes.stays.sets) (event_len e) numbers empty)))
    (goes x y pid number e before (Returns pid) (plain_heard number numbers) sound becomes.stays becomes.heard refl empty.len refl (λ h k. refl)
    (holders-same x y pid old new (plain_heard number numbers) becomes holds)
    (λ clear possible t shows.
    let s = setting x y pid number e before (Returns pid) (plain_heard number numbers) sound becomes.stays t shows in
    let had = shown-before s pid old becomes.was in
    let sets = sound-before s pid old becomes.was in (
      members-show s pid (Some new) becomes.members
          (subst (λ m. ShowsMember pid (then s) (shown_member y m)) (sym to.others) (record {
            registers = row-cleared s pid old.registers new.registers (λ b. when b []) refl refl (λ r i. ap (λ b. when (b && (r == 10)) []) (self-test pid)) to.result sets.registers had.registers;
            slot = λ r i is. kept s _ (Slot pid r i) (sets.slot r i is) (had.slot r i is) refl;
            window = λ at is. kept s _ (Memory old.holds.window at) (sets.window _) (had.window at is) refl;
            segment = λ made at has is. kept s _ (Memory made at) (sets.segment _) (had.segment made at has is) refl;
          }))
          (λ p other ne was. record {
            registers = λ r i. ap (λ b. when (b && (r == 10)) []) (ne_eqb p pid ne);
            slot = λ r i. refl;
            window = λ at is. refl;
            segment = λ made at has is. refl;
          }),
      empty-points s number (event_len e) numbers empty (λ k. refl),
    )))

pub delivers-show : DeliversShow
delivers-show x y pid number e before cut old new numbers sound empty to becomes =
    let holds : new.holds ≡ old.holds = ap (λ (m : KeptMember). m.holds) to.others in
    follows _ x y
    (becomes-sound x y pid old (Some new) (plain_heard number numbers) sound becomes (delivered-sound y.sets cut old new (zero-later x y sound becomes.stays.sets) to (old-sound x y pid old sound becomes.stays.sets becomes.was)) (plain-sound y.sets number numbers (good-empty y.sets (zero-later x y sound becomes.stays.sets) (event_len e) numbers empty)))
    (goes x y pid number e before (Delivers pid cut) (plain_heard number numbers) sound becomes.stays becomes.heard refl empty.len refl (λ h k. refl)
    (holders-same x y pid old new (plain_heard number numbers) becomes holds)
    (λ clear possible t shows.
    let s = setting x y pid number e before (Delivers pid cut) (plain_heard number numbers) sound becomes.stays t shows in
    let had = shown-before s pid old becomes.was in
    let sets = sound-before s pid old becomes.was in (
      members-show s pid (Some new) becomes.members
          (subst (λ m. ShowsMember pid (then s) (shown_member y m)) (sym to.others) (record {
            registers = row-cleared s pid old.registers new.registers (λ b. or_else (when b []) None) refl refl (λ r i. ap (λ b. or_else (when (b && (r == 10)) []) None) (self-test pid)) to.result sets.registers had.registers;
            slot = λ r i is.
                copied-where s (byte_in new.slot r i) (byte_in old.registers r i) (Slot pid r i) (Register pid r i) (cut && (r == 10)) (ap (λ b. when b (saved pid cut r i)) (self-test pid))
                (to.saved r i is.byte) (sets.registers r i is) (had.registers r i is);
            window = λ at is. kept s _ (Memory old.holds.window at) (sets.window _) (had.window at is) refl;
            segment = λ made at has is. kept s _ (Memory made at) (sets.segment _) (had.segment made at has is) refl;
          }))
          (λ p other ne was. record {
            registers = λ r i. ap (λ b. or_else (when (b && (r == 10)) []) None) (ne_eqb p pid ne);
            slot = λ r i. ap (λ b. when b (saved pid cut r i)) (ne_eqb p pid ne);
            window = λ at is. refl;
            segment = λ made at has is. refl;
          }),
      empty-points s number (event_len e) numbers empty (λ k. refl),
    )))

pub leaves-show : LeavesShow
leaves-show x y pid number e before old new numbers sound empty to becomes =
    let holds : new.holds ≡ old.holds = ap (λ (m : KeptMember). m.holds) to.others in
    follows _ x y
    (becomes-sound x y pid old (Some new) (plain_heard number numbers) sound becomes (left-sound y.sets old new (zero-later x y sound becomes.stays.sets) to (old-sound x y pid old sound becomes.stays.sets becomes.was)) (plain-sound y.sets number numbers (good-empty y.sets (zero-later x y sound becomes.stays.sets) (event_len e) numbers empty)))
    (goes x y pid number e before (Leaves pid) (plain_heard number numbers) sound becomes.stays becomes.heard refl empty.len refl (λ h k. refl)
    (holders-same x y pid old new (plain_heard number numbers) becomes holds)
    (λ clear possible t shows.
    let s = setting x y pid number e before (Leaves pid) (plain_heard number numbers) sound becomes.stays t shows in
    let had = shown-before s pid old becomes.was in
    let sets = sound-before s pid old becomes.was in (
      members-show s pid (Some new) becomes.members
          (subst (λ m. ShowsMember pid (then s) (shown_member y m)) (sym to.others) (record {
            registers = λ r i is. copied s (byte_in old.slot r i) (Register pid r i) (Slot pid r i) (sets.slot r i is) (had.slot r i is) (ap (λ b. when b (Prior (Slot pid r i) ∷ [])) (self-test pid));
            slot = λ r i is. cleared s (byte_in new.slot r i) (Slot pid r i) (to.slot r i) (ap (λ b. when b []) (self-test pid));
            window = λ at is. kept s _ (Memory old.holds.window at) (sets.window _) (had.window at is) refl;
            segment = λ made at has is. kept s _ (Memory made at) (sets.segment _) (had.segment made at has is) refl;
          }))
          (λ p other ne was. record {
            registers = λ r i. ap (λ b. when b (Prior (Slot pid r i) ∷ [])) (ne_eqb p pid ne);
            slot = λ r i. ap (λ b. when b []) (ne_eqb p pid ne);
            window = λ at is. refl;
            segment = λ made at has is. refl;
          }),
      empty-points s number (event_len e) numbers empty (λ k. refl),
    )))
