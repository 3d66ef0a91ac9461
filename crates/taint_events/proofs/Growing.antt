-- Received bytes, as they are numbered.
use Rattle.std.proofs.Common.{◌≡◌, ℕ, ◌+◌, ◌*◌, ◌-◌, ◌<◌, ◌≤◌, List, length, slice_index, sym, subst, ◌∙◌, arith}
use Rattle.parts_model.specs.declared.limits.TheConstants.{WINDOW_START}
use Rattle.taint_spans.specs.Numbered.{AreReceivedFrom, IsItem, Numbered, StandAsBefore}
use Rattle.taint_pages.specs.Pages.{AreUnset}
use Rattle.taint_pages.specs.declared.page.Unset.TheVariants.{From}
use Rattle.taint_pages.specs.Rows.{byte_in}
use Rattle.taint_events.specs.Beginning.{AreItemsFrom, AreItemsOfRow, Counts}
use Rattle.taint_events.specs.Bytes.{AreReceived}
use Rattle.taint_events.specs.Starting.{window_len}

pub stand-trans : (old mid new : Numbered) → StandAsBefore old mid → StandAsBefore mid new → StandAsBefore old new
stand-trans old mid new a b = record { there = λ set h. b.there set (a.there set h); same = λ set h. b.same set (a.there set h) ∙ a.same set h }

pub item-stays : (old new : Numbered) (event at number : ℕ) → StandAsBefore old new → IsItem old event at number → IsItem new event at number
item-stays old new event at number s h = record { there = s.there number h.there; members = s.same number h.there ∙ h.members }

-- byte k of an event, from its first on
item-at : (sets : Numbered) (event count first k number : ℕ) → AreReceivedFrom sets event 0 count first → k < count → number ≡ first + k → IsItem sets event k number
item-at sets event count first k number received below is =
    let from_zero : 0 + k ≡ k = omega arith in
    subst (λ n. IsItem sets event k n) (sym is) (subst (λ at. IsItem sets event at (first + k)) from_zero (received.items k below))

pub received-bytes : (sets : Numbered) (event count first : ℕ) (numbers : List ℕ) → AreReceivedFrom sets event 0 count first → length numbers ≡ count
    → ((k : ℕ) → k < count → slice_index numbers k ≡ first + k) → AreReceived sets event count numbers
received-bytes sets event count first numbers received len counted = record { len = len; items = λ k below. item-at sets event count first k (slice_index numbers k) received below (counted k below) }

pub row-items : (sets : Numbered) (event count first base : ℕ) (row : List ℕ) → AreReceivedFrom sets event 0 count first → base + 248 ≤ count → Counts (first + base) row → AreItemsOfRow sets event base row
row-items sets event count first base row received few counts r i above below byte =
    let inside : base + (8 * (r - 1) + i) < count = omega arith in
    let same : first + base + (8 * (r - 1) + i) ≡ first + (base + (8 * (r - 1) + i)) = omega arith in
    item-at sets event count first (base + (8 * (r - 1) + i)) (byte_in row r i) received inside (counts r i above below byte ∙ same)

pub window-items : (sets : Numbered) (event first : ℕ) (window : List ℕ) → AreReceivedFrom sets event WINDOW_START window_len first → AreUnset (From first) window_len window → AreItemsFrom sets event window
window-items sets event first window received unset = record {
  len = unset.len;
  items = λ k below. subst (λ n. IsItem sets event (WINDOW_START + k) n) (sym (unset.all k below)) (received.items k below);
}
