-- What was left is what was copied, and the rest.
use Rattle.std.proofs.Common.{◌≡◌, ◌+◌, ◌-◌, ◌<◌, ◌≤◌, ◌++◌, [], ℕ, List, length, drop, min, take, ap, refl, subst, sym, arith, ◌∙◌}
use Rattle.std.proofs.lemmas.Bool.{false≢true}
use Rattle.std.specs.Prelude.{Contains}
use Rattle.std.proofs.lemmas.List.{take-append-drop, drop-drop, drop_all, length-drop, take_rest}
use Rattle.arn_base.specs.Faults.{NeverFalls, Rose, greatest}
use Rattle.arn_base.proofs.sources.SliceSourceSource.take.Goals as goal

left_copied : (bytes slice buf : List ℕ) (at n : ℕ) → slice ≡ bytes → take n buf ≡ take n (take (length slice - at) (drop at slice)) → drop at bytes ≡ take n buf ++ drop (at + n) bytes
left_copied bytes slice buf at n same copied =
    sym (take-append-drop n (drop at bytes)) ∙ ap (λ (x : List ℕ). take n (drop at x) ++ drop n (drop at bytes)) (sym same) ∙ ap (λ (x : List ℕ). x ++ drop n (drop at bytes)) (sym (copied ∙ ap (λ (x : List ℕ). take n x) (take_rest slice at))) ∙ ap (λ (x : List ℕ). take n buf ++ x) (drop-drop n at bytes)

none_left : (bytes : List ℕ) (at most count room : ℕ) → at ≤ length bytes → 0 < most → count ≡ min most (min (length bytes - at) room) → count ≡ 0 → 0 < room → drop at bytes ≡ []
none_left bytes at most count room inside some same none free = drop_all at bytes (omega arith)

in_range : (all at most count room : ℕ) → at ≤ all → count ≡ min most (min (all - at) room) → at + count ≤ all
in_range all at most count room inside same = omega arith

in_room : (most count rest room : ℕ) → count ≡ min most (min rest room) → count ≤ room
in_room most count rest room same = omega arith

rest_length : (bytes slice : List ℕ) (at : ℕ) → slice ≡ bytes → length (take (length slice - at) (drop at slice)) ≡ length bytes - at
rest_length bytes slice at same = ap (λ (x : List ℕ). length x) (take_rest slice at) ∙ length-drop at slice ∙ ap (λ (x : List ℕ). length x - at) same

counted : (c : goal.After-self-1) → c.copy_front-count.result ≡ min c.self.inside.most (min (length c.self.inside.bytes - c.self.inside.at) (length c.args.buf.now))
counted c = c.copy_front-count.ensures.count ∙ ap (λ (n : ℕ). min c.self.inside.most (min n (length c.args.buf.now))) (rest_length c.self.inside.bytes c.as_slice.result.now c.self.inside.at c.as_slice.ensures)

pub invariant_of-self : goal.invariant_of-self
invariant_of-self c = c.self.invariant

pub returns-then-blows-clause-within : goal.returns-then-blows-clause-within
returns-then-blows-clause-within c = tt

pub returns-then-blows-clause-bytes : goal.returns-then-blows-clause-bytes
returns-then-blows-clause-bytes c = tt

pub returns-then-blows-clause-end : goal.returns-then-blows-clause-end
returns-then-blows-clause-end c = tt

pub returns-then-blows-clause-err : goal.returns-then-blows-clause-err
returns-then-blows-clause-err c = ap (λ s. s.left) c.self.view_is

pub returns-then-blows-clause-most : goal.returns-then-blows-clause-most
returns-then-blows-clause-most c = ap (λ s. s.most) c.self.view_is

pub returns-then-blows-clause-counts : goal.returns-then-blows-clause-counts
returns-then-blows-clause-counts c = record {
  listed = (λ _. subst (λ s. Contains s.fails s.calls) c.self.view_is (c.blows.ensures.fails.0 c.if-blows.true), λ _. refl);
  same = c.blows.ensures.same ∙ ap (λ s. s.fails) c.self.view_is;
  counted = c.blows.ensures.calls ∙ ap (λ s. min (s.calls + 1) greatest) c.self.view_is;
}

pub returns-then-blows-clause-cause : goal.returns-then-blows-clause-cause
returns-then-blows-clause-cause c = subst (λ s. Rose s.faults c.blows.new.self.faults) c.self.view_is (c.blows.ensures.cause c.if-blows.true)

pub returns-then-blows-clause-faults : goal.returns-then-blows-clause-faults
returns-then-blows-clause-faults c = subst (λ s. NeverFalls s.faults c.blows.new.self.faults) c.self.view_is c.blows.ensures.faults

pub slice_bounds-copy_front-count : goal.slice_bounds-copy_front-count
slice_bounds-copy_front-count c = subst (λ (x : List ℕ). c.self.inside.at ≤ length x) (sym c.as_slice.ensures) c.self.invariant.in_range

pub invariant_of-self-2 : goal.invariant_of-self-2
invariant_of-self-2 c = record {
  in_range = in_range (length c.self.inside.bytes) c.self.inside.at c.self.inside.most c.copy_front-count.result (length c.args.buf.now) c.self.invariant.in_range (counted c);
  some = c.self.invariant.some;
}

pub returns-clause-within : goal.returns-clause-within
returns-clause-within c = in_room c.self.inside.most c.copy_front-count.result _ (length c.args.buf.now) (counted c)

pub returns-clause-bytes : goal.returns-clause-bytes
returns-clause-bytes c =
    ap (λ s. s.left) (sym c.self.view_is) ∙ left_copied c.self.inside.bytes c.as_slice.result.now _ c.self.inside.at c.copy_front-count.result c.as_slice.ensures c.copy_front-count.ensures.bytes

pub returns-clause-end : goal.returns-clause-end
returns-clause-end c =
    λ none free. ap (λ s. s.left) (sym c.self.view_is) ∙ none_left c.self.inside.bytes c.self.inside.at c.self.inside.most c.copy_front-count.result (length c.args.buf.now) c.self.invariant.in_range c.self.invariant.some (counted c) none free

pub returns-clause-err : goal.returns-clause-err
returns-clause-err c = tt

pub returns-clause-most : goal.returns-clause-most
returns-clause-most c = ap (λ s. s.most) c.self.view_is

pub returns-clause-counts : goal.returns-clause-counts
returns-clause-counts c = record {
  listed = (λ e. absurd (false≢true e), λ h. sym c.if-blows.false ∙ c.blows.ensures.fails.1 (subst (λ s. Contains s.fails s.calls) (sym c.self.view_is) h));
  same = c.blows.ensures.same ∙ ap (λ s. s.fails) c.self.view_is;
  counted = c.blows.ensures.calls ∙ ap (λ s. min (s.calls + 1) greatest) c.self.view_is;
}

pub returns-clause-cause : goal.returns-clause-cause
returns-clause-cause c = tt

pub returns-clause-faults : goal.returns-clause-faults
returns-clause-faults c = subst (λ s. NeverFalls s.faults c.blows.new.self.faults) c.self.view_is c.blows.ensures.faults
