use Rattle.std.proofs.Common.{◌≡◌, ◌↔◌, ◌++◌, Err, IsNone, IsSome, List, OnErr, ℕ, ap, drop, length, refl, take, true, ◌∙◌}
use Rattle.std.proofs.lemmas.Result.{IfOk-from_err}
use Rattle.arn_base.specs.Window.{bytes_at, bytes_of, with_bytes}
use Rattle.arn_base.specs.declared.errors.StoreError.TheVariants.{BadAddress}
use Rattle.parts_model.specs.Memory.{segment_window}
use Rattle.parts_model.specs.declared.limits.TheConstants.{SEGMENT_LEN}
use Rattle.guest_mem.proofs.Exits.{err-at-exit, is-err, none-where-not, not-memory, ok-not-err, some-where}
use Rattle.guest_mem.proofs.Lent.{lent}
use Rattle.guest_mem.proofs.segment.SegmentMemory.store.Goals as goal

stays : (c : goal.After-from_residual) (P : List ℕ → List ℕ → Type 0) → P c.as_mut_slice.result.now c.store.new.bytes → P c.args.self.now (take c.self.inside.bytes.len (c.store.new.bytes ++ drop (length c.store.new.bytes) c.self.inside.bytes.items))
stays c P =
    lent P c.as_mut_slice.result.now c.self.inside.bytes.items c.store.new.bytes c.self.inside.bytes.len c.args.self.now
    c.as_mut_slice.ensures.value c.self.view_is c.store.auto.bytes c.as_mut_slice.ensures.len

lift : (c : goal.In_ok-store) (P : List ℕ → List ℕ → Type 0) → P c.as_mut_slice.result.now c.store.new.bytes → P c.args.self.now (take c.self.inside.bytes.len (c.store.new.bytes ++ drop (length c.store.new.bytes) c.self.inside.bytes.items))
lift c P =
    lent P c.as_mut_slice.result.now c.self.inside.bytes.items c.store.new.bytes c.self.inside.bytes.len c.args.self.now
    c.as_mut_slice.ensures.value c.self.view_is c.store.auto.bytes c.as_mut_slice.ensures.len

pub store-requires-clause-length : goal.store-requires-clause-length
store-requires-clause-length c = c.requires

pub store-requires-clause-extent : goal.store-requires-clause-extent
store-requires-clause-extent c = ap (λ (l : List ℕ). length l) c.as_mut_slice.ensures.value ∙ c.self.invariant

pub invariant_of-self : goal.invariant_of-self
invariant_of-self c = stays c (λ (before after : List ℕ). length after ≡ SEGMENT_LEN) (c.store.auto.bytes ∙ ap (λ (l : List ℕ). length l) c.as_mut_slice.ensures.value ∙ c.self.invariant)

pub invariant_of-self-2 : goal.invariant_of-self-2
invariant_of-self-2 c = lift c (λ (before after : List ℕ). length after ≡ SEGMENT_LEN) (c.store.auto.bytes ∙ ap (λ (l : List ℕ). length l) c.as_mut_slice.ensures.value ∙ c.self.invariant)

pub returns-in_err-store-clause-ok : goal.returns-in_err-store-clause-ok
returns-in_err-store-clause-ok c = IfOk-from_err c.from_residual.result _ c.from_residual.ensures.0

pub returns-in_err-store-clause-whole : goal.returns-in_err-store-clause-whole
returns-in_err-store-clause-whole c = IfOk-from_err c.from_residual.result _ c.from_residual.ensures.0

pub returns-in_err-store-clause-bad_address : goal.returns-in_err-store-clause-bad_address
returns-in_err-store-clause-bad_address c =
    stays c (λ (before after : List ℕ). (c.from_residual.result ≡ Err BadAddress) ↔ IsNone (bytes_at (segment_window before) c.args.at c.args.len))
    (λ bad. none-where-not (bytes_at (segment_window c.as_mut_slice.result.now) c.args.at c.args.len) c.in_err-store.ensures.whole, λ none. is-err c.from_residual.result BadAddress c.from_residual.ensures.1)

pub returns-in_err-store-clause-no_memory : goal.returns-in_err-store-clause-no_memory
returns-in_err-store-clause-no_memory c none = absurd (not-memory c.from_residual.result c.from_residual.ensures.1 none)

pub returns-in_err-store-clause-err : goal.returns-in_err-store-clause-err
returns-in_err-store-clause-err c =
    stays c (λ (before after : List ℕ). OnErr c.from_residual.result (segment_window after ≡ segment_window before))
    (err-at-exit c.from_residual.result (ap (λ (l : List ℕ). segment_window l) c.in_err-store.ensures.err))

pub returns-clause-ok : goal.returns-clause-ok
returns-clause-ok c =
    lift c (λ (before after : List ℕ). segment_window after ≡ with_bytes (segment_window before) c.args.at (bytes_of c.args.len c.args.value)) c.in_ok-store.ensures.ok

pub returns-clause-whole : goal.returns-clause-whole
returns-clause-whole c =
    lift c (λ (before after : List ℕ). IsSome (bytes_at (segment_window before) c.args.at c.args.len)) (c.in_ok-store.ensures.whole.0 refl)

pub returns-clause-bad_address : goal.returns-clause-bad_address
returns-clause-bad_address c =
    let some : (true ≡ true) ↔ IsSome (bytes_at (segment_window c.args.self.now) c.args.at c.args.len) =
    lift c (λ (before after : List ℕ). (true ≡ true) ↔ IsSome (bytes_at (segment_window before) c.args.at c.args.len)) c.in_ok-store.ensures.whole
    in
    (λ bad. absurd (ok-not-err _ BadAddress bad), λ none. absurd (some-where (bytes_at (segment_window c.args.self.now) c.args.at c.args.len) some none))

pub returns-clause-no_memory : goal.returns-clause-no_memory
returns-clause-no_memory c none = absurd (ok-not-err _ _ none)

pub returns-clause-err : goal.returns-clause-err
returns-clause-err c = tt
