use Rattle.std.proofs.Common.{◌≡◌, ◌≤◌, ℕ, List, length, take, ap, sym, subst, ◌∙◌, arith}
use Rattle.std.proofs.lemmas.List.{take_all}
use Rattle.taint_pages.specs.Rows.{PutsBytes}
use Rattle.taint_pages.proofs.row.Row.put_first.Goals as goal

all : (n : ℕ) (numbers : List ℕ) → length numbers ≡ n → take n numbers ≡ numbers
all n numbers is = take_all n numbers (omega arith)

long : (n : ℕ) (numbers : List ℕ) → length numbers ≡ n → n ≡ length (take n numbers)
long n numbers is = sym (ap (λ l. length l) (all n numbers is) ∙ is)

few : (n : ℕ) (numbers : List ℕ) → length numbers ≡ n → length numbers ≤ 8 → length (take n numbers) ≤ 8
few n numbers is h = subst (λ l. length l ≤ 8) (sym (all n numbers is)) h

pub slice_bounds-put_few-end : goal.slice_bounds-put_few-end
slice_bounds-put_few-end c = long 1 c.args.numbers.now c.in-1.is

pub put_few-requires-clause-above : goal.put_few-requires-clause-above
put_few-requires-clause-above c = c.requires.above

pub put_few-requires-clause-few : goal.put_few-requires-clause-few
put_few-requires-clause-few c = few 1 c.args.numbers.now c.in-1.is c.requires.few

pub returns-in-1 : goal.returns-in-1
returns-in-1 c = subst (λ l. PutsBytes c.args.reg l c.args.self.now c.put_few.new.self) (all 1 c.args.numbers.now c.in-1.is) c.put_few.ensures

pub slice_bounds-put_few-end-in-2 : goal.slice_bounds-put_few-end-in-2
slice_bounds-put_few-end-in-2 c = long 2 c.args.numbers.now c.in-2.is

pub put_few-requires-in-2-clause-above : goal.put_few-requires-in-2-clause-above
put_few-requires-in-2-clause-above c = c.requires.above

pub put_few-requires-in-2-clause-few : goal.put_few-requires-in-2-clause-few
put_few-requires-in-2-clause-few c = few 2 c.args.numbers.now c.in-2.is c.requires.few

pub returns-in-2 : goal.returns-in-2
returns-in-2 c = subst (λ l. PutsBytes c.args.reg l c.args.self.now c.put_few-in-2.new.self) (all 2 c.args.numbers.now c.in-2.is) c.put_few-in-2.ensures

pub slice_bounds-put_few-end-in-4 : goal.slice_bounds-put_few-end-in-4
slice_bounds-put_few-end-in-4 c = long 4 c.args.numbers.now c.in-4.is

pub put_few-requires-in-4-clause-above : goal.put_few-requires-in-4-clause-above
put_few-requires-in-4-clause-above c = c.requires.above

pub put_few-requires-in-4-clause-few : goal.put_few-requires-in-4-clause-few
put_few-requires-in-4-clause-few c = few 4 c.args.numbers.now c.in-4.is c.requires.few

pub returns-in-4 : goal.returns-in-4
returns-in-4 c = subst (λ l. PutsBytes c.args.reg l c.args.self.now c.put_few-in-4.new.self) (all 4 c.args.numbers.now c.in-4.is) c.put_few-in-4.ensures

pub slice_bounds-put_few-end-in-8 : goal.slice_bounds-put_few-end-in-8
slice_bounds-put_few-end-in-8 c = long 8 c.args.numbers.now c.in-8.is

pub put_few-requires-in-8-clause-above : goal.put_few-requires-in-8-clause-above
put_few-requires-in-8-clause-above c = c.requires.above

pub put_few-requires-in-8-clause-few : goal.put_few-requires-in-8-clause-few
put_few-requires-in-8-clause-few c = few 8 c.args.numbers.now c.in-8.is c.requires.few

pub returns-in-8 : goal.returns-in-8
returns-in-8 c = subst (λ l. PutsBytes c.args.reg l c.args.self.now c.put_few-in-8.new.self) (all 8 c.args.numbers.now c.in-8.is) c.put_few-in-8.ensures

pub put_few-requires-in_default-clause-above : goal.put_few-requires-in_default-clause-above
put_few-requires-in_default-clause-above c = c.requires.above

pub put_few-requires-in_default-clause-few : goal.put_few-requires-in_default-clause-few
put_few-requires-in_default-clause-few c = c.requires.few

pub returns-in_default : goal.returns-in_default
returns-in_default c = c.put_few-in_default.ensures
