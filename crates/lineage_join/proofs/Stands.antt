-- What an item stands for, by its number and its event's record.
use Rattle.std.proofs.Common.{◌≡◌, ℕ, ◌+◌, ◌-◌, ◌*◌, ◌/◌, ◌%◌, ◌<◌, ◌≤◌, ◌==◌, ◌&&◌, nat_lt, nat_le, Bool, true, false, cond, List, [], ◌∷◌, Option, Some, None, IsSome, IsTrue, option_and_then, refl, sym, ap, ap₂, subst, ◌∙◌, arith, true≢false, eqb-true}
use Rattle.std.proofs.lemmas.Bool.Decides.{nat_tests}
use Rattle.std.proofs.lemmas.Bool.{cond-true, cond-false}
use Rattle.arn_base.specs.declared.records.Extra.{Extra}
use Rattle.arn_base.specs.declared.records.Extra.TheVariants as extra
use Rattle.arn_base.specs.declared.records.Record.{Record}
use Rattle.arn_base.specs.declared.records.Record.TheVariants as entry
use Rattle.arn_base.specs.declared.records.Start.{Start}
use Rattle.parts_model.specs.declared.calls.TheConstants.{FORK}
use Rattle.parts_model.specs.Replies.{is_success}
use Rattle.acts_model.specs.Records.{Child, child_called, child_forked, child_founded, event_len, plain_len, start_held}
use Rattle.acts_model.specs.Transfers.{is_private}
use Rattle.history_model.specs.Exchanges.{founded}
use Rattle.lineage_model.specs.Flow.{At, Byte, StartRegister, StartSlot, StartMemory}
use Rattle.lineage_model.specs.Joined.{Reaching, is_source, origin_of, from_origin, from_received, from_item_at}
use Rattle.lineage_model.specs.Tracking.{EventByte}
use Rattle.taint_state.specs.Shown.{IsRegisterByte, byte_of_register, register_bytes, place_of}
use Rattle.lineage_join.specs.declared.wait.Kind.TheVariants as kind
use Rattle.lineage_join.specs.Fits.{IsThere}
use Rattle.lineage_join.specs.Places.{start_at}
use Rattle.lineage_join.specs.Waits.{from_taken, from_kind, kind_by}

-- a fork that started a group has no byte of its own
apart : (b s : Bool) (child : Child) → (b ≡ true → ⊥) → child_founded (cond (b && s) (Some child) None) ≡ None
apart true s child h = absurd (h refl)
apart false s child h = refl

-- a child whose record doesn't hold how it begins starts none
pub joins-none : (number result : ℕ) (more : Extra) → start_held more ≡ None → child_founded (child_called number result more) ≡ None
joins-none number result more h = by_test ((number == FORK) && is_success result)
  where
    by_test : (b : Bool) → child_founded (cond b (Some (child_forked result more)) None) ≡ None
    by_test true = ap (λ (o : Option Start). child_founded (Some (record { number = result; start = o }))) h
    by_test false = refl

fork-empty : (number result : ℕ) (start : Start) → 0 < plain_len number result (extra.Start start) → (number == FORK) ≡ true → ⊥
fork-empty number result start h e =
    let none : 0 < 0 = subst (λ (n : ℕ). 0 < plain_len n result (extra.Start start)) (eqb-true number FORK e) h in omega arith

pub founds-none : (e : Record) → 0 < event_len e → founded e ≡ None
founds-none (entry.Call pid number result (extra.Start start)) h = apart (number == FORK) (is_success result) (child_forked result (extra.Start start)) (fork-empty number result start h)
founds-none (entry.Call pid number result more) h = joins-none number result more refl
founds-none _ h = refl

is-below : (n m : ℕ) → n < m → nat_lt n m ≡ true
is-below n m h = grind (arith, nat_tests)

isnt-below : (n m : ℕ) → m ≤ n → nat_lt n m ≡ false
isnt-below n m h = grind (arith, nat_tests)

abbrev behind-registers : ℕ → At
behind-registers n = cond (nat_lt n 496) (StartSlot ((n - 248) / 8 + 1) ((n - 248) % 8)) (StartMemory n)

number-register : (n r i : ℕ) → 0 < r → r < 32 → i < 8 → n ≡ 8 * (r - 1) + i → (n / 8 + 1 ≡ r) × (n % 8 ≡ i)
number-register n r i a b c d = (omega arith, omega arith)

pub register-at : (r i : ℕ) → IsRegisterByte r i → start_at (byte_of_register r i) ≡ StartRegister r i
register-at r i h =
    let n = byte_of_register r i in
    let above = h.above in let below = h.below in let byte = h.byte in
    let tells = number-register n r i above below byte refl in
    cond-true (nat_lt n 248) (StartRegister (n / 8 + 1) (n % 8)) (behind-registers n) (is-below n 248 (omega arith)) ∙ ap₂ StartRegister tells.0 tells.1

pub slot-at : (r i : ℕ) → IsRegisterByte r i → start_at (register_bytes + byte_of_register r i) ≡ StartSlot r i
slot-at r i h =
    let n = 248 + byte_of_register r i in
    let above = h.above in let below = h.below in let byte = h.byte in
    let tells = number-register (n - 248) r i above below byte (omega arith) in
    cond-false (nat_lt n 248) (StartRegister (n / 8 + 1) (n % 8)) (behind-registers n) (isnt-below n 248 (omega arith))
    ∙ (cond-true (nat_lt n 496) (StartSlot ((n - 248) / 8 + 1) ((n - 248) % 8)) (StartMemory n) (is-below n 496 (omega arith)) ∙ ap₂ StartSlot tells.0 tells.1)

private-high : (n : ℕ) → IsTrue (is_private n) → 496 ≤ n
private-high n h = by_test (nat_le 65536 n) (grind (arith, nat_tests)) h
  where
    by_test : (b : Bool) → (b ≡ true → 496 ≤ n) → IsTrue (b && nat_lt n 327680) → 496 ≤ n
    by_test true k h = k refl
    by_test false k h = absurd (true≢false (sym h))

pub memory-at : (n : ℕ) → IsTrue (is_private n) → start_at n ≡ StartMemory n
memory-at n h =
    let high = private-high n h in
    cond-false (nat_lt n 248) (StartRegister (n / 8 + 1) (n % 8)) (behind-registers n) (isnt-below n 248 (omega arith))
    ∙ cond-false (nat_lt n 496) (StartSlot ((n - 248) / 8 + 1) ((n - 248) % 8)) (StartMemory n) (isnt-below n 496 (omega arith))

pub starts : (x : Option ℕ) → IsSome x → kind_by x ≡ kind.Start
starts None h = absurd (true≢false (sym h))
starts (Some child) h = refl

module _ (event_at : ℕ → Option Record) (earlier : Reaching) (n : ℕ) where
  abbrev stands : ℕ → Option Record → List EventByte
  stands at o = from_kind event_at earlier n at (kind_by (option_and_then founded o))

  taken-there : (e : Record) (k : ℕ) → k < event_len e → from_taken earlier n k (Some e) ≡ from_received earlier n k (Some e)
  taken-there e k h = by_test (is_source e) (nat_lt k (event_len e)) (is-below k (event_len e) h)
    where
      by_test : (b t : Bool) → t ≡ true → cond b (cond t (record { event = n; at = Byte k } ∷ []) []) (from_origin earlier (origin_of e k)) ≡ cond b (record { event = n; at = Byte k } ∷ []) (from_origin earlier (origin_of e k))
      by_test true true h = refl
      by_test true false h = absurd (true≢false (sym h))
      by_test false t h = refl

  received-stands : (k : ℕ) (e : Record) → event_at n ≡ Some e → k < event_len e → stands k (Some e) ≡ from_item_at event_at earlier n (Byte k)
  received-stands k e is h =
      ap (λ (x : Option ℕ). from_kind event_at earlier n k (kind_by x)) (founds-none e (omega arith))
      ∙ (ap (from_taken earlier n k) is ∙ (taken-there e k h ∙ sym (ap (from_received earlier n k) is)))

  start-stands : (at : ℕ) (b : At) (e : Record) → IsSome (founded e) → start_at at ≡ b → stands at (Some e) ≡ earlier n b
  start-stands at b e h same = ap (from_kind event_at earlier n at) (starts (founded e) h) ∙ ap (earlier n) same

  by-record : (at : At) (o : Option Record) → event_at n ≡ o → IsThere o at → stands (place_of at) o ≡ from_item_at event_at earlier n at
  by-record (Byte k) (Some e) is h = received-stands k e is h
  by-record (StartRegister r i) (Some e) is h = start-stands (byte_of_register r i) (StartRegister r i) e h.0 (register-at r i h.1)
  by-record (StartSlot r i) (Some e) is h = start-stands (register_bytes + byte_of_register r i) (StartSlot r i) e h.0 (slot-at r i h.1)
  by-record (StartMemory a) (Some e) is h = start-stands a (StartMemory a) e h.0 (memory-at a h.1)
  by-record _ None is h = absurd h

  -- an item that fits stands for what waits by its number
  pub item-stands : (at : At) → IsThere (event_at n) at → stands (place_of at) (event_at n) ≡ from_item_at event_at earlier n at
  item-stands at h = by-record at (event_at n) refl h

  -- a received byte is no start
  pub kind-of-byte : (k : ℕ) (o : Option Record) → IsThere o (Byte k) → kind_by (option_and_then founded o) ≡ kind.Received
  kind-of-byte k None h = absurd h
  kind-of-byte k (Some e) h = let low : k < event_len e = h in ap kind_by (founds-none e (omega arith))
