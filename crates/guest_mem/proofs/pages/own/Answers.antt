use Rattle.std.proofs.Common.{◌+◌, ◌<◌, Bool, List, ℕ, length, refl, subst, sym, ◌∙◌}
use Rattle.std.proofs.lemmas.List.{length-map}
use Rattle.std.proofs.lemmas.Result.{IfOk-from_err}
use Rattle.guest_mem.specs.Pages.{Gains, is_own, owned}
use Rattle.guest_mem.proofs.Exits.{err-at-exit}
use Rattle.guest_mem.proofs.Owned.{AreOwnBelow, below-end, below-none, gains-none, gains-one, in-table, lacked, own-more}
use Rattle.guest_mem.proofs.pages.own.Goals as goal

pub behind-number-end-requires : goal.behind-number-end-requires
behind-number-end-requires c = c.requires.whole

pub loop-number-init : goal.loop-number-init
loop-number-init c = record {
  bytes = refl;
  gains = gains-none c.args.place c.args.len (owned c.args.pages.now);
  own = λ page met below. below-none page _ (c.behind-number-end.ensures.first page met) below;
}

pub own_one-requires : goal.own_one-requires
own_one-requires c = record { inside = in-table c.loop-number.number _ _ _ _ c.loop-number-test.true c.behind-number-end.ensures.few c.requires.count c.loop-number.auto.pages }

pub returns-in_err-own_one-clause-bytes : goal.returns-in_err-own_one-clause-bytes
returns-in_err-own_one-clause-bytes c = c.own_one.ensures.bytes ∙ c.loop-number.invariant.bytes

pub returns-in_err-own_one-clause-gains : goal.returns-in_err-own_one-clause-gains
returns-in_err-own_one-clause-gains c =
    subst (λ (o : List Bool). Gains c.args.place c.args.len (owned c.args.pages.now) o) (sym (c.in_err-own_one.ensures.err)) c.loop-number.invariant.gains

pub returns-in_err-own_one-clause-ok : goal.returns-in_err-own_one-clause-ok
returns-in_err-own_one-clause-ok c = IfOk-from_err c.from_residual.result _ c.from_residual.ensures.0

pub returns-in_err-own_one-clause-err : goal.returns-in_err-own_one-clause-err
returns-in_err-own_one-clause-err c =
    let inside : c.loop-number.number < length (owned c.loop-number.pages) =
    subst (λ (n : ℕ). c.loop-number.number < n) (sym (length-map c.loop-number.pages is_own)) (in-table c.loop-number.number _ _ _ _ c.loop-number-test.true c.behind-number-end.ensures.few c.requires.count c.loop-number.auto.pages)
    in
    err-at-exit c.from_residual.result (lacked c.args.place c.args.len (owned c.args.pages.now) (owned c.loop-number.pages) c.loop-number.number c.loop-number.invariant.gains inside (c.behind-number-end.ensures.met c.loop-number.number c.loop-number.auto.number c.loop-number-test.true) c.in_err-own_one.ensures.lacked)

pub loop-number-preserved : goal.loop-number-preserved
loop-number-preserved c =
    let inside : c.loop-number.number < length (owned c.loop-number.pages) =
    subst (λ (n : ℕ). c.loop-number.number < n) (sym (length-map c.loop-number.pages is_own)) (in-table c.loop-number.number _ _ _ _ c.loop-number-test.true c.behind-number-end.ensures.few c.requires.count c.loop-number.auto.pages)
    in
    record {
      bytes = c.own_one.ensures.bytes ∙ c.loop-number.invariant.bytes;
      gains = subst (λ (o : List Bool). Gains c.args.place c.args.len (owned c.args.pages.now) o) (sym c.in_ok-own_one.ensures.ok) (gains-one c.args.place c.args.len (owned c.args.pages.now) (owned c.loop-number.pages) c.loop-number.number c.loop-number.invariant.gains (c.behind-number-end.ensures.met c.loop-number.number c.loop-number.auto.number c.loop-number-test.true));
      own = subst (λ (o : List Bool). AreOwnBelow c.args.place c.args.len (c.loop-number.number + 1) o) (sym c.in_ok-own_one.ensures.ok) (own-more c.args.place c.args.len (owned c.loop-number.pages) c.loop-number.number c.loop-number.invariant.own inside);
    }

pub returns-clause-bytes : goal.returns-clause-bytes
returns-clause-bytes c = c.loop-number.invariant.bytes

pub returns-clause-gains : goal.returns-clause-gains
returns-clause-gains c = c.loop-number.invariant.gains

pub returns-clause-ok : goal.returns-clause-ok
returns-clause-ok c page met = c.loop-number.invariant.own page met (below-end page _ _ (c.behind-number-end.ensures.last page met) c.loop-number-test.false)

pub returns-clause-err : goal.returns-clause-err
returns-clause-err c = tt
