use Rattle.std.proofs.Common.{ℕ, ◌+◌, ◌≤◌, List, ◌≡◌, sum, take, get_or, ap, arith}
use Rattle.atom_layout.proofs.Narrow.{row_narrow, sum_on}
use Rattle.atom_layout.proofs.table.Layout.bits.Goals as goal

pub overflow_add-bits : goal.overflow_add-bits
overflow_add-bits c =
    let xs : List ℕ = c.deref-width-items.result.now in
    let few : sum c.index.result.now.items ≤ 71 = row_narrow c.self.inside.classes.items c.args.class c.index.result.now c.args.self.now c.self.invariant c.self.view_is c.requires c.index.ensures in
    let same : sum xs ≡ sum c.index.result.now.items = ap sum c.deref-width-items.ensures.value in
    let more : sum (take c.loop-width.width-index xs) + get_or xs c.loop-width.width-index 0 ≤ sum xs = sum_on xs c.loop-width.width-index c.loop-width-test.true in
    omega (arith, few, same, more, c.loop-width.invariant)
