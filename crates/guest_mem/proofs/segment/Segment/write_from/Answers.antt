use Rattle.std.proofs.Common.{◌≡◌, ◌↔◌, ◌++◌, Err, IsNone, IsSome, List, OnErr, ℕ, ap, drop, length, take, true, ◌∙◌}
use Rattle.std.proofs.lemmas.Result.{IfOk-from_err}
use Rattle.arn_base.specs.Window.{bytes_at, with_bytes}
use Rattle.arn_base.specs.declared.errors.StoreError.TheVariants.{BadAddress}
use Rattle.parts_model.specs.Memory.{segment_window}
use Rattle.parts_model.specs.declared.limits.TheConstants.{SEGMENT_LEN}
use Rattle.guest_mem.proofs.Exits.{err-at-exit, is-err, none-where-not, not-memory, ok-not-err, some-where}
use Rattle.guest_mem.proofs.Lent.{lent}
use Rattle.guest_mem.proofs.segment.Segment.write_from.Goals as goal

stays : (c : goal.After-from_residual) (P : List ℕ → List ℕ → Type 0) → P c.as_mut_slice.result.now c.write_from.new.bytes → P c.args.self.now (take c.self.inside.bytes.len (c.write_from.new.bytes ++ drop (length c.write_from.new.bytes) c.self.inside.bytes.items))
stays c P =
    lent P c.as_mut_slice.result.now c.self.inside.bytes.items c.write_from.new.bytes c.self.inside.bytes.len c.args.self.now
    c.as_mut_slice.ensures.value c.self.view_is c.write_from.auto.bytes c.as_mut_slice.ensures.len

lift : (c : goal.In_ok-write_from) (P : List ℕ → List ℕ → Type 0) → P c.as_mut_slice.result.now c.write_from.new.bytes → P c.args.self.now (take c.self.inside.bytes.len (c.write_from.new.bytes ++ drop (length c.write_from.new.bytes) c.self.inside.bytes.items))
lift c P =
    lent P c.as_mut_slice.result.now c.self.inside.bytes.items c.write_from.new.bytes c.self.inside.bytes.len c.args.self.now
    c.as_mut_slice.ensures.value c.self.view_is c.write_from.auto.bytes c.as_mut_slice.ensures.len

pub write_from-requires-clause-extent : goal.write_from-requires-clause-extent
write_from-requires-clause-extent c = ap (λ (l : List ℕ). length l) c.as_mut_slice.ensures.value ∙ c.self.invariant

pub invariant_of-self : goal.invariant_of-self
invariant_of-self c = stays c (λ (before after : List ℕ). length after ≡ SEGMENT_LEN) (c.write_from.auto.bytes ∙ ap (λ (l : List ℕ). length l) c.as_mut_slice.ensures.value ∙ c.self.invariant)

pub invariant_of-self-2 : goal.invariant_of-self-2
invariant_of-self-2 c = lift c (λ (before after : List ℕ). length after ≡ SEGMENT_LEN) (c.write_from.auto.bytes ∙ ap (λ (l : List ℕ). length l) c.as_mut_slice.ensures.value ∙ c.self.invariant)

pub returns-in_err-write_from-clause-ok : goal.returns-in_err-write_from-clause-ok
returns-in_err-write_from-clause-ok c = IfOk-from_err c.from_residual.result _ c.from_residual.ensures.0

pub returns-in_err-write_from-clause-bad_address : goal.returns-in_err-write_from-clause-bad_address
returns-in_err-write_from-clause-bad_address c =
    stays c (λ (before after : List ℕ). (c.from_residual.result ≡ Err BadAddress) ↔ IsNone (bytes_at (segment_window before) c.args.at (length c.args.bytes.now)))
    (λ bad. none-where-not (bytes_at (segment_window c.as_mut_slice.result.now) c.args.at (length c.args.bytes.now)) c.in_err-write_from.ensures.whole, λ none. is-err c.from_residual.result BadAddress c.from_residual.ensures.1)

pub returns-in_err-write_from-clause-memory : goal.returns-in_err-write_from-clause-memory
returns-in_err-write_from-clause-memory c none = not-memory c.from_residual.result c.from_residual.ensures.1 none

pub returns-in_err-write_from-clause-err : goal.returns-in_err-write_from-clause-err
returns-in_err-write_from-clause-err c =
    stays c (λ (before after : List ℕ). OnErr c.from_residual.result (after ≡ before)) (err-at-exit c.from_residual.result c.in_err-write_from.ensures.err)

pub returns-in_err-write_from-clause-length : goal.returns-in_err-write_from-clause-length
returns-in_err-write_from-clause-length c = stays c (λ (before after : List ℕ). length after ≡ SEGMENT_LEN) (c.write_from.auto.bytes ∙ ap (λ (l : List ℕ). length l) c.as_mut_slice.ensures.value ∙ c.self.invariant)

pub returns-clause-ok : goal.returns-clause-ok
returns-clause-ok c =
    lift c (λ (before after : List ℕ). segment_window after ≡ with_bytes (segment_window before) c.args.at c.args.bytes.now) c.in_ok-write_from.ensures.ok

pub returns-clause-bad_address : goal.returns-clause-bad_address
returns-clause-bad_address c =
    let some : (true ≡ true) ↔ IsSome (bytes_at (segment_window c.args.self.now) c.args.at (length c.args.bytes.now)) =
    lift c (λ (before after : List ℕ). (true ≡ true) ↔ IsSome (bytes_at (segment_window before) c.args.at (length c.args.bytes.now))) c.in_ok-write_from.ensures.whole
    in
    (λ bad. absurd (ok-not-err _ BadAddress bad), λ none. absurd (some-where (bytes_at (segment_window c.args.self.now) c.args.at (length c.args.bytes.now)) some none))

pub returns-clause-memory : goal.returns-clause-memory
returns-clause-memory c none = ok-not-err _ _ none

pub returns-clause-err : goal.returns-clause-err
returns-clause-err c = tt

pub returns-clause-length : goal.returns-clause-length
returns-clause-length c = lift c (λ (before after : List ℕ). length after ≡ SEGMENT_LEN) (c.write_from.auto.bytes ∙ ap (λ (l : List ℕ). length l) c.as_mut_slice.ensures.value ∙ c.self.invariant)
