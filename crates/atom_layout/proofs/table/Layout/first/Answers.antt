use Rattle.std.proofs.Common.{ℕ, ◌+◌, ◌≤◌, List, ◌≡◌, sum, take, get_or, ap, arith}
use Rattle.atom_layout.proofs.Narrow.{row_narrow, sum_on, sum_front}
use Rattle.atom_layout.proofs.table.Layout.first.Goals as goal

pub overflow_add-bit : goal.overflow_add-bit
overflow_add-bit c =
    let whole : List ℕ = c.deref.result.now in
    let xs : List ℕ = take c.args.member whole in
    let few : sum c.index.result.now.items ≤ 71 = row_narrow c.self.inside.classes.items c.args.class c.index.result.now c.args.self.now c.self.invariant c.self.view_is c.requires.class c.index.ensures in
    let same : sum whole ≡ sum c.index.result.now.items = ap sum c.deref.ensures.value in
    let front : sum xs ≤ sum whole = sum_front whole c.args.member in
    let more : sum (take c.loop-width.width-index xs) + get_or xs c.loop-width.width-index 0 ≤ sum xs = sum_on xs c.loop-width.width-index c.loop-width-test.true in
    omega (arith, few, same, front, more, c.loop-width.invariant)
