use Rattle.std.proofs.Common.{◌≡◌, ℕ, ◌+◌, ◌<◌, List, [], ◌∷◌, ◌++◌, length, get_or, ap, subst, sym, ◌∙◌, arith}
use borrow.Author.Count.{below_more}
use Rattle.std.proofs.lemmas.List.{get_or_append_left, get_or_push, length_push}
use Rattle.taint_pages.specs.declared.page.Unset.{Unset}
use Rattle.taint_pages.specs.Pages.{unset_number}
use Rattle.taint_pages.proofs.page.unset_page.Goals as goal

-- one more number of a byte that wasn't set
module _ (u : Unset) (base at number : ℕ) (items new : List ℕ) (is : new ≡ items ++ number ∷ []) (one : number ≡ unset_number u (base + at)) (len : length items ≡ at) where
  more-len : length new ≡ at + 1
  more-len = ap (λ l. length l) is ∙ (length_push items number ∙ ap (λ n. n + 1) len)

  more-all : ((k : ℕ) → k < at → get_or items k 0 ≡ unset_number u (base + k)) → (k : ℕ) → k < at + 1 → get_or new k 0 ≡ unset_number u (base + k)
  more-all all =
      below_more (λ k. get_or new k 0 ≡ unset_number u (base + k)) at
      (λ k below. ap (λ l. get_or l k 0) is ∙ (get_or_append_left items (number ∷ []) 0 k (subst (λ n. k < n) (sym len) below) ∙ all k below))
      (ap (λ l. get_or l at 0) is ∙ (get_or_push items number 0 at len ∙ one))

pub loop-at-init : goal.loop-at-init
loop-at-init c = record { len = ap (λ l. length l) c.new-numbers.ensures.items; all = λ k below. absurd (omega arith) }

pub unset_at-requires-clause-fits : goal.unset_at-requires-clause-fits
unset_at-requires-clause-fits c = c.requires.fits

pub unset_at-requires-clause-inside : goal.unset_at-requires-clause-inside
unset_at-requires-clause-inside c = c.loop-at-test.true

pub loop-at-preserved : goal.loop-at-preserved
loop-at-preserved c =
    let so = c.loop-at.invariant in
    record {
      len = more-len c.args.unset c.args.base c.loop-at.at c.unset_at.result c.loop-at.numbers.items c.push.new.self.items c.in_ok-push.ensures.items c.unset_at.ensures so.len;
      all = more-all c.args.unset c.args.base c.loop-at.at c.unset_at.result c.loop-at.numbers.items c.push.new.self.items c.in_ok-push.ensures.items c.unset_at.ensures so.len so.all;
    }

pub returns-clause-len : goal.returns-clause-len
returns-clause-len c = omega (arith, c.loop-at.invariant.len, c.loop-at.auto.at-end, c.loop-at-test.false)

pub returns-clause-unset : goal.returns-clause-unset
returns-clause-unset c = λ k below. c.loop-at.invariant.all k (omega (arith, below, c.loop-at-test.false))
