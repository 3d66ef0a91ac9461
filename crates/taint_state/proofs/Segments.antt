-- A fresh segment.
use Rattle.std.proofs.Common.{◌≡◌, ◌≢◌, ℕ, ◌==◌, ◌&&◌, cond, [], Some, None, refl, sym, ap, subst, ◌∙◌, ne_eqb}
use Rattle.std.proofs.lemmas.Bool.{eq-eqb}
use Rattle.acts_model.specs.Records.{event_len}
use Rattle.acts_model.specs.Transfers.{Holds, Shares}
use Rattle.lineage_model.specs.Flow.{Slot, Memory, or_else, when}
use Rattle.taint_state.specs.Events.{plain_heard}
use Rattle.taint_state.specs.EventsShow.{SharesShow}
use Rattle.taint_state.specs.Goes.{IsUnheldBy}
use Rattle.taint_state.specs.Kept.{KeptMember, shown, shown_member}
use Rattle.taint_state.specs.Shown.{ShowsMember}
use Rattle.taint_state.specs.Steps.{holders_of, shared_holds}
use Rattle.taint_state.proofs.Keeping.{sharers-sound, follows, good-empty, old-sound, plain-sound, shared-sound, zero-later}
use Rattle.taint_state.proofs.Flows.{cleared, kept, row-cleared, shown-before, sound-before, then}
use Rattle.taint_state.proofs.Seeing.{holders-seen, members-seen, some-inj}
use Rattle.taint_state.proofs.Goings.{empty-points, goes, held-before, self-test, setting, unheld-before}

-- another memory
pub not-made : (made : ℕ) (h : Holds) (m : ℕ) → IsUnheldBy made h → h.segment ≡ Some m → m ≢ made
not-made made h m unheld held same = unheld.segment (held ∙ ap (λ (k : ℕ). Some k) same)

pub shares-show : SharesShow
shares-show x y pid number e before old new numbers sound empty to becomes =
    let heard = plain_heard number numbers in
    let held : Some new.holds ≡ shared_holds number (holders_of (shown x) pid) = ap (λ (m : KeptMember). Some m.holds) to.others ∙ sym (ap (shared_holds number) (held-before x pid old becomes.was)) in
    follows _ x y
    (sharers-sound x y pid old new heard sound becomes (shared-sound y.sets number old new (zero-later x y sound becomes.stays.sets) to (old-sound x y pid old sound becomes.stays.sets becomes.was)) (plain-sound y.sets number numbers (good-empty y.sets (zero-later x y sound becomes.stays.sets) (event_len e) numbers empty)))
    (goes x y pid number e before (Shares pid number) heard sound becomes.stays becomes.heard refl empty.len refl (λ h k. refl)
    (λ p. holders-seen x y pid new becomes.members p ∙ ap (λ o. cond (p == pid) o (holders_of (shown x) p)) held)
    (λ clear possible t shows.
    let s = setting x y pid number e before (Shares pid number) heard sound becomes.stays t shows in
    let had = shown-before s pid old becomes.was in
    let sets = sound-before s pid old becomes.was in
    let unheld = unheld-before x number pid old possible becomes.was in (
      members-seen s pid new becomes.members
          (subst (λ m. ShowsMember pid (then s) (shown_member y m)) (sym to.others) (record {
            registers = row-cleared s pid old.registers new.registers (λ b. or_else (when b []) None) refl refl (λ r i. ap (λ b. or_else (when (b && (r == 10)) []) None) (self-test pid)) to.result sets.registers had.registers;
            slot = λ r i is. kept s _ (Slot pid r i) (sets.slot r i is) (had.slot r i is) refl;
            window = λ at is. kept s _ (Memory old.holds.window at) (sets.window _) (had.window at is) (ap (λ b. when b []) (ne_eqb old.holds.window number unheld.window));
            segment = λ made at has is. cleared s _ (Memory made at) (to.zeros _) (ap (λ b. when b []) (eq-eqb made number (sym (some-inj number made has))));
          }))
          (λ p other ne was.
          let apart = unheld-before x number p other possible was in
          record {
            registers = λ r i. ap (λ b. or_else (when (b && (r == 10)) []) None) (ne_eqb p pid ne);
            slot = λ r i. refl;
            window = λ at is. ap (λ b. when b []) (ne_eqb other.holds.window number apart.window);
            segment = λ made at has is. ap (λ b. when b []) (ne_eqb made number (not-made number other.holds made apart has));
          }),
      empty-points s number (event_len e) numbers empty (λ k. refl),
    )))
