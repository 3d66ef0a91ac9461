use Rattle.std.proofs.Common.{◌+◌, ◌<◌, ◌≤◌, Bool, List, ℕ, length, refl, subst, sym, ◌∙◌}
use Rattle.std.proofs.lemmas.List.{length-map}
use Rattle.std.proofs.lemmas.Result.{IfOk-from_err}
use Rattle.guest_mem.specs.Pages.{Loses, is_own, owned}
use Rattle.guest_mem.proofs.Owned.{AreSharedBelow, loses-none, loses-one, none-before, shared-all, shared-more}
use Rattle.guest_mem.proofs.pages.share.Goals as goal

pub loop-number-init : goal.loop-number-init
loop-number-init c = record {
  bytes = refl;
  loses = loses-none (owned c.args.pages.now);
  shared = λ page below. none-before page below;
}

pub share_one-requires : goal.share_one-requires
share_one-requires c = record { inside = subst (λ (n : ℕ). c.loop-number.number < n) (sym c.loop-number.auto.pages) c.loop-number-test.true }

pub returns-in_err-share_one-clause-bytes : goal.returns-in_err-share_one-clause-bytes
returns-in_err-share_one-clause-bytes c = c.share_one.ensures.bytes ∙ c.loop-number.invariant.bytes

pub returns-in_err-share_one-clause-loses : goal.returns-in_err-share_one-clause-loses
returns-in_err-share_one-clause-loses c =
    subst (λ (o : List Bool). Loses (owned c.args.pages.now) o) (sym c.in_err-share_one.ensures.err) c.loop-number.invariant.loses

pub returns-in_err-share_one-clause-ok : goal.returns-in_err-share_one-clause-ok
returns-in_err-share_one-clause-ok c = IfOk-from_err c.from_residual.result _ c.from_residual.ensures.0

pub loop-number-preserved : goal.loop-number-preserved
loop-number-preserved c =
    let inside : c.loop-number.number < length (owned c.loop-number.pages) =
    subst (λ (n : ℕ). c.loop-number.number < n) (sym (length-map c.loop-number.pages is_own ∙ c.loop-number.auto.pages)) c.loop-number-test.true
    in
    record {
      bytes = c.share_one.ensures.bytes ∙ c.loop-number.invariant.bytes;
      loses =
          subst (λ (o : List Bool). Loses (owned c.args.pages.now) o) (sym c.in_ok-share_one.ensures.ok)
          (loses-one (owned c.args.pages.now) (owned c.loop-number.pages) c.loop-number.number c.loop-number.invariant.loses);
      shared =
          subst (λ (o : List Bool). AreSharedBelow (c.loop-number.number + 1) o) (sym c.in_ok-share_one.ensures.ok)
          (shared-more (owned c.loop-number.pages) c.loop-number.number c.loop-number.invariant.shared inside);
    }

pub returns-clause-bytes : goal.returns-clause-bytes
returns-clause-bytes c = c.loop-number.invariant.bytes

pub returns-clause-loses : goal.returns-clause-loses
returns-clause-loses c = c.loop-number.invariant.loses

pub returns-clause-ok : goal.returns-clause-ok
returns-clause-ok c =
    shared-all (owned c.loop-number.pages) c.loop-number.number c.loop-number.invariant.shared
    (subst (λ (n : ℕ). n ≤ c.loop-number.number) (sym (length-map c.loop-number.pages is_own ∙ c.loop-number.auto.pages)) c.loop-number-test.false)
