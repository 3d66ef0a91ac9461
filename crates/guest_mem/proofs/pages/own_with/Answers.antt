use Rattle.std.proofs.Common.{◌+◌, ◌<◌, Bool, List, ℕ, length, refl, subst, sym, ◌∙◌}
use Rattle.std.proofs.lemmas.List.{length-map}
use Rattle.guest_mem.specs.Pages.{Gains, is_own, owned}
use Rattle.guest_mem.proofs.Owned.{AreOwnBelow, below-end, below-none, enough-first, enough-more, gains-none, gains-one, in-table, own-more, some-left}
use Rattle.guest_mem.proofs.pages.own_with.Goals as goal

pub behind-number-end-requires : goal.behind-number-end-requires
behind-number-end-requires c = c.requires.whole

pub loop-number-init : goal.loop-number-init
loop-number-init c = record {
  bytes = refl;
  gains = gains-none c.args.place c.args.len (owned c.args.pages.now);
  own = λ page met below. below-none page _ (c.behind-number-end.ensures.first page met) below;
  spare = enough-first c.behind-number-end.result _ _ (length c.args.spare.items) c.behind-number-end.ensures.count c.requires.enough;
}

pub own_one_with-requires-clause-inside : goal.own_one_with-requires-clause-inside
own_one_with-requires-clause-inside c =
    in-table c.loop-number.number _ _ _ _ c.loop-number-test.true c.behind-number-end.ensures.few c.requires.count c.loop-number.auto.pages

pub own_one_with-requires-clause-some : goal.own_one_with-requires-clause-some
own_one_with-requires-clause-some c =
    some-left c.loop-number.number c.behind-number-end.result (length c.loop-number.spare.items) c.loop-number-test.true c.loop-number.invariant.spare

pub loop-number-preserved : goal.loop-number-preserved
loop-number-preserved c =
    let inside : c.loop-number.number < length (owned c.loop-number.pages) =
    subst (λ (n : ℕ). c.loop-number.number < n) (sym (length-map c.loop-number.pages is_own)) (in-table c.loop-number.number _ _ _ _ c.loop-number-test.true c.behind-number-end.ensures.few c.requires.count c.loop-number.auto.pages)
    in
    record {
      bytes = c.own_one_with.ensures.bytes ∙ c.loop-number.invariant.bytes;
      gains =
          subst (λ (o : List Bool). Gains c.args.place c.args.len (owned c.args.pages.now) o) (sym c.own_one_with.ensures.own)
          (gains-one c.args.place c.args.len (owned c.args.pages.now) (owned c.loop-number.pages) c.loop-number.number c.loop-number.invariant.gains (c.behind-number-end.ensures.met c.loop-number.number c.loop-number.auto.number c.loop-number-test.true));
      own =
          subst (λ (o : List Bool). AreOwnBelow c.args.place c.args.len (c.loop-number.number + 1) o) (sym c.own_one_with.ensures.own)
          (own-more c.args.place c.args.len (owned c.loop-number.pages) c.loop-number.number c.loop-number.invariant.own inside);
      spare = enough-more c.behind-number-end.result c.loop-number.number _ _ c.loop-number.invariant.spare c.own_one_with.ensures.spare;
    }

pub returns-clause-bytes : goal.returns-clause-bytes
returns-clause-bytes c = c.loop-number.invariant.bytes

pub returns-clause-gains : goal.returns-clause-gains
returns-clause-gains c = c.loop-number.invariant.gains

pub returns-clause-own : goal.returns-clause-own
returns-clause-own c page met = c.loop-number.invariant.own page met (below-end page _ _ (c.behind-number-end.ensures.last page met) c.loop-number-test.false)
