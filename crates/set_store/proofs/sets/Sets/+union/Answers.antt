use Rattle.std.proofs.Common.{◌≡◌, inl, inr, ℕ, ◌++◌, List, Result, Ok, Err, IfOk, Contains, length, refl, ap, sym, subst, ◌∙◌, arith}
use Rattle.std.proofs.lemmas.Result.{IfOk-weaker}
use Rattle.arn_base.specs.declared.errors.NoMemory.{NoMemory}
use Rattle.set_store.specs.declared.item.Item.{Item}
use Rattle.set_store.specs.Sets.{IsSet, IsUnionOf, members_of}
use Rattle.set_store.specs.Tries.{items_of}
use Rattle.set_store.proofs.Growth.{pair-ordered, right-made, stand-same, stand-twice, union-first, union-ordered, union-second}
use Rattle.set_store.proofs.Halves.{left-smaller, right-smaller, united-in}
use Rattle.set_store.proofs.Rising.{none_in}
use Rattle.set_store.proofs.sets.Sets.+union.Goals as goal
use Rattle.set_store.proofs.sets.Sets.+union.Goals.{union-then-a-b-via-then-a-b, union-then-a-b-via-else-a-b+then-b-empty}

pub parted-parting-bit-requires-clause-some : goal.parted-parting-bit-requires-clause-some
parted-parting-bit-requires-clause-some t c = c.requires.some

pub parted-parting-bit-requires-clause-other : goal.parted-parting-bit-requires-clause-other
parted-parting-bit-requires-clause-other t c = c.requires.other

pub parted-parting-bit-requires-clause-x : goal.parted-parting-bit-requires-clause-x
parted-parting-bit-requires-clause-x t c = c.requires.x

pub parted-parting-bit-requires-clause-y : goal.parted-parting-bit-requires-clause-y
parted-parting-bit-requires-clause-y t c = c.requires.y

pub parted-parting-bit-requires-clause-apart : goal.parted-parting-bit-requires-clause-apart
parted-parting-bit-requires-clause-apart t c = c.requires.apart

pub parted-halves-a-requires-clause-there : goal.parted-halves-a-requires-clause-there
parted-halves-a-requires-clause-there t c = c.requires.first

pub parted-halves-a-requires-clause-some : goal.parted-halves-a-requires-clause-some
parted-halves-a-requires-clause-some t c = c.requires.some

pub parted-halves-a-requires-clause-node : goal.parted-halves-a-requires-clause-node
parted-halves-a-requires-clause-node t c = c.requires.x

pub parted-halves-a-requires-clause-bit : goal.parted-halves-a-requires-clause-bit
parted-halves-a-requires-clause-bit t c = c.parting-bit.ensures.below

pub parted-halves-a-requires-clause-alike : goal.parted-halves-a-requires-clause-alike
parted-halves-a-requires-clause-alike t c = λ item other one two. c.parting-bit.ensures.parted.alike item other (inl one) (inl two)

pub parted-halves-b-requires-clause-there : goal.parted-halves-b-requires-clause-there
parted-halves-b-requires-clause-there t c = c.requires.second

pub parted-halves-b-requires-clause-some : goal.parted-halves-b-requires-clause-some
parted-halves-b-requires-clause-some t c = c.requires.other

pub parted-halves-b-requires-clause-node : goal.parted-halves-b-requires-clause-node
parted-halves-b-requires-clause-node t c = c.requires.y

pub parted-halves-b-requires-clause-bit : goal.parted-halves-b-requires-clause-bit
parted-halves-b-requires-clause-bit t c = c.parting-bit.ensures.below

pub parted-halves-b-requires-clause-alike : goal.parted-halves-b-requires-clause-alike
parted-halves-b-requires-clause-alike t c = λ item other one two. c.parting-bit.ensures.parted.alike item other (inr one) (inr two)

pub parted-forked-requires-clause-bit : goal.parted-forked-requires-clause-bit
parted-forked-requires-clause-bit t c = c.parting-bit.ensures.below

pub parted-forked-requires-clause-right : goal.parted-forked-requires-clause-right
parted-forked-requires-clause-right t c = c.in_ok-right.ensures.set

pub made-joined-requires-clause-some : goal.made-joined-requires-clause-some
made-joined-requires-clause-some t c = c.requires.some

pub made-joined-requires-clause-other : goal.made-joined-requires-clause-other
made-joined-requires-clause-other t c = c.requires.other

pub made-joined-requires-clause-x : goal.made-joined-requires-clause-x
made-joined-requires-clause-x t c = c.node-x.ensures.node

pub made-joined-requires-clause-y : goal.made-joined-requires-clause-y
made-joined-requires-clause-y t c = c.node-y.ensures.node

pub parted-union-requires : goal.parted-union-requires
parted-union-requires t c =
    let less = left-smaller c.args.self.now c.args.pair.0 c.args.pair.1 c.parting-bit.result c.halves-a.result.0 c.halves-a.result.1 c.halves-b.result.0 c.halves-b.result.1 c.parting-bit.ensures.parted c.halves-a.ensures c.halves-b.ensures in
    let d = c.decreases in
    (omega arith, (c.halves-a.ensures.left_there, c.halves-b.ensures.left_there))

pub parted-union-requires-2 : goal.parted-union-requires-2
parted-union-requires-2 t c =
    let less = right-smaller c.args.self.now c.args.pair.0 c.args.pair.1 c.parting-bit.result c.halves-a.result.0 c.halves-a.result.1 c.halves-b.result.0 c.halves-b.result.1 c.parting-bit.ensures.parted c.halves-a.ensures c.halves-b.ensures in
    let d = c.decreases in
    let s = c.in_ok-left.ensures.before in
    (omega arith, (s.there c.halves-a.result.1 c.halves-a.ensures.right_there, s.there c.halves-b.result.1 c.halves-b.ensures.right_there))

pub parted-returns-in_err-right-clause-before : goal.parted-returns-in_err-right-clause-before
parted-returns-in_err-right-clause-before t c = stand-twice c.args.self.now c.union.new.self c.union-2.new.self c.in_ok-left.ensures.before c.in_err-right.ensures.before

pub parted-forked-requires-clause-left : goal.parted-forked-requires-clause-left
parted-forked-requires-clause-left t c = c.in_ok-right.ensures.before.there c.in_ok-left.left c.in_ok-left.ensures.set

pub parted-forked-requires-clause-halves : goal.parted-forked-requires-clause-halves
parted-forked-requires-clause-halves t c = let u = united-in c.args.self.now c.union.new.self c.union-2.new.self c.parting-bit.result c.args.pair.0 c.args.pair.1 c.halves-a.result.0 c.halves-a.result.1 c.halves-b.result.0 c.halves-b.result.1 c.in_ok-left.left c.in_ok-right.right c.parting-bit.ensures.parted c.halves-a.ensures c.halves-b.ensures c.in_ok-left.ensures.before c.in_ok-left.ensures.set c.in_ok-left.ensures.members c.in_ok-right.ensures.before c.in_ok-right.ensures.members in u.halves

if-united : (r : Result ℕ NoMemory) (sets : ℕ → List Item) (list first second : List Item) → IfOk r (λ set. sets set ≡ list) → IsUnionOf list first second → IfOk r (λ set. IsUnionOf (sets set) first second)
if-united (Ok set) sets list first second e u = subst (λ l. IsUnionOf l first second) (sym e) u
if-united (Err x) sets list first second e u = e

pub parted-returns-clause-members : goal.parted-returns-clause-members
parted-returns-clause-members t c =
    let u = united-in c.args.self.now c.union.new.self c.union-2.new.self c.parting-bit.result c.args.pair.0 c.args.pair.1 c.halves-a.result.0 c.halves-a.result.1 c.halves-b.result.0 c.halves-b.result.1 c.in_ok-left.left c.in_ok-right.right c.parting-bit.ensures.parted c.halves-a.ensures c.halves-b.ensures c.in_ok-left.ensures.before c.in_ok-left.ensures.set c.in_ok-left.ensures.members c.in_ok-right.ensures.before c.in_ok-right.ensures.members in
    if-united c.forked.result (λ set. members_of c.forked.new.self set) (members_of c.union-2.new.self c.in_ok-left.left ++ members_of c.union-2.new.self c.in_ok-right.right) (members_of c.args.self.now c.args.pair.0) (members_of c.args.self.now c.args.pair.1)
    c.forked.ensures.members u.members

pub parted-returns-clause-before : goal.parted-returns-clause-before
parted-returns-clause-before t c = stand-twice c.args.self.now c.union-2.new.self c.forked.new.self (stand-twice c.args.self.now c.union.new.self c.union-2.new.self c.in_ok-left.ensures.before c.in_ok-right.ensures.before) c.forked.ensures.before

pub union-returns-clause-members : goal.union-returns-clause-members
union-returns-clause-members t c =
    let sets = c.args.self.now in
    IfOk-weaker c.united.result (λ set. IsUnionOf (members_of c.united.new.self set) (members_of sets c.min.result) (members_of sets c.max.result)) (λ set. IsUnionOf (members_of c.united.new.self set) (members_of sets c.args.a) (members_of sets c.args.b))
    (λ set is. union-ordered sets (members_of c.united.new.self set) c.args.a c.args.b c.min.result c.max.result c.min.ensures c.max.ensures is) c.united.ensures.members

pub found-returns-in-Some-clause-members : goal.found-returns-in-Some-clause-members
found-returns-in-Some-clause-members t c =
    subst (λ sets. IsUnionOf (members_of c.recalled.new.self c.in-Some.set) (members_of sets c.args.pair.0) (members_of sets c.args.pair.1)) c.in-Some.ensures.same c.in-Some.ensures.found.members

pub found-remember-requires : goal.found-remember-requires
found-remember-requires t c =
    let r = c.in_ok-set.ensures in
    let still = stand-same c.args.self.now c.recalled.new.self c.recalled.ensures.same in
    right-made c.recalled.new.self c.made.new.self c.args.pair c.in_ok-set.set r.before (still.there c.args.pair.0 c.requires.first) (still.there c.args.pair.1 c.requires.second) r.set r.members

pub found-returns-clause-members : goal.found-returns-clause-members
found-returns-clause-members t c =
    let union = members_of c.remember.new.self c.in_ok-set.set in
    subst (λ sets. IsUnionOf union (members_of sets c.args.pair.0) (members_of sets c.args.pair.1)) c.recalled.ensures.same
    (subst (λ sets. IsUnionOf (members_of sets c.in_ok-set.set) (members_of c.recalled.new.self c.args.pair.0) (members_of c.recalled.new.self c.args.pair.1)) (sym c.remember.ensures.same) c.in_ok-set.ensures.members)

pub made-returns-in-Some-clause-members : goal.made-returns-in-Some-clause-members
made-returns-in-Some-clause-members t c =
    if-united c.kept.result (λ set. members_of c.kept.new.self set) (items_of c.in-Some.row) (members_of c.args.self.now c.args.pair.0) (members_of c.args.self.now c.args.pair.1)
    c.kept.ensures.members c.in-Some.ensures.row.1

pub union-returns-then-a-b-clause-members : goal.union-returns-then-a-b-clause-members
union-returns-then-a-b-clause-members t c =
    let sets = c.args.self.now in
    let first = members_of sets c.args.a in
    union-first first (members_of sets c.args.b) (λ item h. elim c.then-a-b.branch [
      | union-then-a-b-via-then-a-b w ↦ subst (λ set. Contains (members_of sets set) item) (sym w.if-a-b.true) h
      | union-then-a-b-via-else-a-b+then-b-empty w ↦ absurd (none_in item (subst (λ list. Contains list item) (ap (λ set. members_of sets set) w.if-b-empty.true ∙ c.empty-empty.ensures.empty) h))
    ])

pub union-returns-then-a-b-clause-before : goal.union-returns-then-a-b-clause-before
union-returns-then-a-b-clause-before t c = stand-same c.args.self.now c.args.self.now refl

pub union-returns-then-a-b-clause-interned : goal.union-returns-then-a-b-clause-interned
union-returns-then-a-b-clause-interned t c = c.empty-empty.ensures.interned

pub union-returns-then-a-empty-clause-members : goal.union-returns-then-a-empty-clause-members
union-returns-then-a-empty-clause-members t c =
    let sets = c.args.self.now in
    let none = ap (λ set. members_of sets set) c.if-a-empty.true ∙ c.empty-empty.ensures.empty in
    union-second (members_of sets c.args.a) (members_of sets c.args.b) (λ item h. absurd (none_in item (subst (λ list. Contains list item) none h)))

pub union-returns-then-a-empty-clause-before : goal.union-returns-then-a-empty-clause-before
union-returns-then-a-empty-clause-before t c = stand-same c.args.self.now c.args.self.now refl

pub union-returns-then-a-empty-clause-interned : goal.union-returns-then-a-empty-clause-interned
union-returns-then-a-empty-clause-interned t c = c.empty-empty.ensures.interned

pub union-united-requires : goal.union-united-requires
union-united-requires t c =
    let zero = c.empty-empty.ensures.zero in
    let fits = pair-ordered (length c.args.self.now) c.args.a c.args.b c.min.result c.max.result c.min.ensures c.max.ensures c.requires.first c.requires.second (λ e. c.if-a-empty.false (e ∙ sym zero)) (λ e. c.if-b-empty.false (e ∙ sym zero)) in
    let d = c.decreases in
    let sum = fits.0 in
    (omega arith, (fits.1, (fits.2, (fits.3, fits.4))))

pub union-returns-clause-set : goal.union-returns-clause-set
union-returns-clause-set t c = c.united.ensures.set

pub union-returns-clause-before : goal.union-returns-clause-before
union-returns-clause-before t c = c.united.ensures.before

pub union-returns-clause-interned : goal.union-returns-clause-interned
union-returns-clause-interned t c = c.united.ensures.interned

pub united-found-requires : goal.united-found-requires
united-found-requires t c = let d = c.decreases in (omega arith, (c.requires.first, (c.requires.second, (c.requires.some, c.requires.other))))

pub united-returns-in-Some-clause-set : goal.united-returns-in-Some-clause-set
united-returns-in-Some-clause-set t c = c.in-Some.ensures.found.there

pub united-returns-in-Some-clause-members : goal.united-returns-in-Some-clause-members
united-returns-in-Some-clause-members t c = c.in-Some.ensures.found.members

pub united-returns-in-Some-clause-before : goal.united-returns-in-Some-clause-before
united-returns-in-Some-clause-before t c = stand-same c.args.self.now c.args.self.now refl

pub united-returns-in-Some-clause-interned : goal.united-returns-in-Some-clause-interned
united-returns-in-Some-clause-interned t c = c.recent.ensures.interned

pub united-returns-in-None-clause-set : goal.united-returns-in-None-clause-set
united-returns-in-None-clause-set t c = c.found.ensures.set

pub united-returns-in-None-clause-members : goal.united-returns-in-None-clause-members
united-returns-in-None-clause-members t c = c.found.ensures.members

pub united-returns-in-None-clause-before : goal.united-returns-in-None-clause-before
united-returns-in-None-clause-before t c = c.found.ensures.before

pub united-returns-in-None-clause-interned : goal.united-returns-in-None-clause-interned
united-returns-in-None-clause-interned t c = c.found.ensures.interned

pub found-returns-in-Some-clause-set : goal.found-returns-in-Some-clause-set
found-returns-in-Some-clause-set t c = c.in-Some.ensures.found.there

pub found-returns-in-Some-clause-before : goal.found-returns-in-Some-clause-before
found-returns-in-Some-clause-before t c = stand-same c.args.self.now c.recalled.new.self c.recalled.ensures.same

pub found-returns-in-Some-clause-interned : goal.found-returns-in-Some-clause-interned
found-returns-in-Some-clause-interned t c = c.recalled.ensures.interned

pub found-made-requires : goal.found-made-requires
found-made-requires t c =
    let still = stand-same c.args.self.now c.recalled.new.self c.recalled.ensures.same in
    let d = c.decreases in
    (omega arith, (still.there c.args.pair.0 c.requires.first, (still.there c.args.pair.1 c.requires.second, (c.requires.some, c.requires.other))))

pub found-returns-in_err-set-clause-before : goal.found-returns-in_err-set-clause-before
found-returns-in_err-set-clause-before t c = stand-twice c.args.self.now c.recalled.new.self c.made.new.self (stand-same c.args.self.now c.recalled.new.self c.recalled.ensures.same) c.made.ensures.before

pub found-returns-in_err-set-clause-interned : goal.found-returns-in_err-set-clause-interned
found-returns-in_err-set-clause-interned t c = c.made.ensures.interned

pub found-returns-clause-set : goal.found-returns-clause-set
found-returns-clause-set t c = subst (λ sets. IsSet sets c.in_ok-set.set) (sym c.remember.ensures.same) c.in_ok-set.ensures.set

pub found-returns-clause-before : goal.found-returns-clause-before
found-returns-clause-before t c =
    stand-twice c.args.self.now c.made.new.self c.remember.new.self (stand-twice c.args.self.now c.recalled.new.self c.made.new.self (stand-same c.args.self.now c.recalled.new.self c.recalled.ensures.same) c.made.ensures.before)
    (stand-same c.made.new.self c.remember.new.self c.remember.ensures.same)

pub found-returns-clause-interned : goal.found-returns-clause-interned
found-returns-clause-interned t c = c.remember.ensures.interned

pub made-kept-requires : goal.made-kept-requires
made-kept-requires t c = c.in-Some.ensures.row.0

pub made-parted-requires : goal.made-parted-requires
made-parted-requires t c = let d = c.decreases in (omega arith, (c.requires.first, (c.requires.second, (c.requires.some, (c.requires.other, (c.node-x.ensures.node, (c.node-y.ensures.node, c.joined.ensures.apart c.in-None.is)))))))

pub made-returns-in-Some-clause-set : goal.made-returns-in-Some-clause-set
made-returns-in-Some-clause-set t c = c.kept.ensures.set

pub made-returns-in-Some-clause-before : goal.made-returns-in-Some-clause-before
made-returns-in-Some-clause-before t c = c.kept.ensures.before

pub made-returns-in-Some-clause-interned : goal.made-returns-in-Some-clause-interned
made-returns-in-Some-clause-interned t c = c.kept.ensures.interned

pub made-returns-in-None-clause-set : goal.made-returns-in-None-clause-set
made-returns-in-None-clause-set t c = c.parted.ensures.set

pub made-returns-in-None-clause-members : goal.made-returns-in-None-clause-members
made-returns-in-None-clause-members t c = c.parted.ensures.members

pub made-returns-in-None-clause-before : goal.made-returns-in-None-clause-before
made-returns-in-None-clause-before t c = c.parted.ensures.before

pub made-returns-in-None-clause-interned : goal.made-returns-in-None-clause-interned
made-returns-in-None-clause-interned t c = c.parted.ensures.interned

pub parted-returns-in_err-left-clause-before : goal.parted-returns-in_err-left-clause-before
parted-returns-in_err-left-clause-before t c = c.union.ensures.before

pub parted-returns-in_err-left-clause-interned : goal.parted-returns-in_err-left-clause-interned
parted-returns-in_err-left-clause-interned t c = c.union.ensures.interned

pub parted-returns-in_err-right-clause-interned : goal.parted-returns-in_err-right-clause-interned
parted-returns-in_err-right-clause-interned t c = c.union-2.ensures.interned

pub parted-returns-clause-set : goal.parted-returns-clause-set
parted-returns-clause-set t c = c.forked.ensures.set

pub parted-returns-clause-interned : goal.parted-returns-clause-interned
parted-returns-clause-interned t c = c.forked.ensures.interned
