use Rattle.std.proofs.Common.{◌≡◌, ◌≤◌, ◌+◌, sum_by, take, drop, get_or, arith}
use Rattle.std.proofs.lemmas.List.Sums.{sum_by-drop_more, sum_by-take-drop}
use Rattle.history_model.specs.Groups.{count_of}
use Rattle.history_model.specs.Moments.{total}
use Rattle.followed_pairs.proofs.Counts.{counts-most}
use Rattle.followed_pairs.proofs.count.count_all.Goals as goal

pub overflow_add-sum : goal.overflow_add-sum
overflow_add-sum c =
    let entries = c.args._entries.now in
    let xs = c.args.groups.now in
    let i = c.loop-group.group-index in
    let split : sum_by (count_of entries) (take i xs) + sum_by (count_of entries) (drop i xs) ≡ sum_by (count_of entries) xs = sum_by-take-drop (count_of entries) xs i in
    let next : sum_by (count_of entries) (drop i xs) ≡ count_of entries (get_or xs i 0) + sum_by (count_of entries) (drop (i + 1) xs) = sum_by-drop_more (count_of entries) xs i 0 c.loop-group-test.true in
    let most : sum_by (count_of entries) xs ≤ total entries = counts-most entries xs c.requires.rises in
    let count : c.count-sum.result ≡ count_of entries (get_or xs i 0) = c.count-sum.ensures entries c.requires.indexed in
    let so_far : c.loop-group.sum ≡ sum_by (count_of entries) (take i xs) = c.loop-group.invariant in
    let all : c.total-total.result ≡ total entries = c.total-total.ensures entries c.requires.indexed in
    let fits = c.total-total.type_inv in
    omega (arith, fits)
