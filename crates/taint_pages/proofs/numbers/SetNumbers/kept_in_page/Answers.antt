use Rattle.std.proofs.Common.{◌≡◌, ◌<◌, ◌/◌, ◌%◌, ◌+◌, ◌*◌, ℕ, List, Option, None, Some, IfSome, length, slice_index, sym, subst, ◌∙◌, arith}
use Rattle.taint_pages.specs.Pages.{IsPage, content, contents, number_in, numbers_from, page_len}
use Rattle.taint_pages.proofs.Flat.{page-byte, page-inside, place-inside, read-page}
use Rattle.taint_pages.proofs.numbers.SetNumbers.kept_in_page.Goals as goal

-- numbers that are others' too
each : {X : Type 0} (o : Option X) (view : X → List ℕ) (len : ℕ) (f g : ℕ → ℕ) → ((i : ℕ) → i < len → f i ≡ g i) → IfSome o (λ x. (i : ℕ) → i < len → slice_index (view x) i ≡ f i) → IfSome o (λ x. (i : ℕ) → i < len → slice_index (view x) i ≡ g i)
each None view len f g same is = tt
each (Some x) view len f g same is = λ i below. is i below ∙ same i below

pub index-requires : goal.index-requires
index-requires c =
    let inside = place-inside c.self.inside.unset c.self.inside.pages.items c.self.invariant c.args.at (subst (λ l. c.args.at < length l) (sym c.self.view_is) c.requires.there) in
    omega (arith, inside, c.self.inside.pages.ok)

pub kept_in-requires-clause-page : goal.kept_in-requires-clause-page
kept_in-requires-clause-page c =
    let inside = page-inside c.self.inside.unset (contents c.self.inside.pages.items) c.self.invariant.whole c.args.at (subst (λ l. c.args.at < length l) (sym c.self.view_is) c.requires.there) in
    subst (λ p. IsPage p) (sym (read-page c.self.inside.pages.items (c.args.at / page_len) c.index.result.now inside c.index.ensures)) (c.self.invariant.whole (c.args.at / page_len))

pub returns-clause-numbers : goal.returns-clause-numbers
returns-clause-numbers c =
    let u = c.self.inside.unset in
    let pages = c.self.inside.pages.items in
    let inside = page-inside u (contents pages) c.self.invariant.whole c.args.at (subst (λ l. c.args.at < length l) (sym c.self.view_is) c.requires.there) in
    subst (λ (l : List ℕ). IfSome c.kept_in.result (λ numbers. (i : ℕ) → i < c.args.len → slice_index numbers.now i ≡ slice_index l (c.args.at + i))) c.self.view_is
    (each c.kept_in.result (λ numbers. numbers.now) c.args.len (λ i. number_in u (c.args.at / page_len * page_len) (content c.index.result.now) (c.args.at % page_len + i)) (λ i. slice_index (numbers_from u 0 (contents pages)) (c.args.at + i))
    (λ i below. page-byte u (contents pages) c.self.invariant.whole c.args.at i (content c.index.result.now) inside (read-page pages (c.args.at / page_len) c.index.result.now inside c.index.ensures) (omega (arith, below, c.requires.inside)))
    (c.kept_in.ensures.numbers u (c.args.at / page_len * page_len)))
