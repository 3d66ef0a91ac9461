-- Ranges that no event has.
use Rattle.std.proofs.Common.{◌≡◌, ℕ, zero, suc, ◌+◌, ◌≤◌, ◌<◌, ◌^◌, Bool, true, false, cond, List, [], ◌∷◌, Option, Some, None, IfSome, refl, arith, All, slice_get}
use Rattle.std.proofs.lemmas.Bool.Decides.{nat_tests}
use Rattle.std.proofs.lemmas.List.Elements.{All-head, All-tail}
use Rattle.arn_base.specs.declared.records.Record.{Record}
use Rattle.acts_model.specs.Records.{event_len, is_event}
use Rattle.history_index.specs.Indexes.{AreCountable}
use Rattle.history_model.specs.Events.{event_at, events, is_range, lies_in}

-- an event is one of the records
short-at : (entries : List Record) (n : ℕ) → All (λ e. event_len e < 2 ^ 32) entries → IfSome (slice_get (events entries) n) (λ e. event_len e < 2 ^ 32)
short-at [] n all = tt
short-at (e ∷ entries) n all =
    let P : Record → Type 0 = λ (e : Record). event_len e < 2 ^ 32 in
    by-event (is_event e) n (All-head P e entries all) (λ k. short-at entries k (All-tail P e entries all))
  where
    by-event : (b : Bool) (n : ℕ) → event_len e < 2 ^ 32 → ((k : ℕ) → IfSome (slice_get (events entries) k) (λ e. event_len e < 2 ^ 32)) → IfSome (slice_get (cond b (e ∷ events entries) (events entries)) n) (λ e. event_len e < 2 ^ 32)
    by-event true zero first rest = first
    by-event true (suc n) first rest = rest n
    by-event false n first rest = rest n

outside : (len from asked : ℕ) → len < 2 ^ 32 → 2 ^ 32 ≤ from + asked → lies_in len from asked ≡ false
outside len from asked short far = grind (arith, nat_tests)

far-in : (o : Option Record) (from asked : ℕ) → IfSome o (λ e. event_len e < 2 ^ 32) → 2 ^ 32 ≤ from + asked → is_range o from asked ≡ false
far-in None from asked short far = refl
far-in (Some e) from asked short far = outside (event_len e) from asked short far

-- no event has bytes that 32 bits don't count
pub far_away : (entries : List Record) (event from asked : ℕ) → AreCountable entries → 2 ^ 32 ≤ from + asked → is_range (event_at entries event) from asked ≡ false
far_away entries event from asked countable far = far-in (event_at entries event) from asked (short-at entries event countable.short) far
