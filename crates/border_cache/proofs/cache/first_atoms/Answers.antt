use Rattle.std.proofs.Common.{◌≡◌, ◌+◌, ◌-◌, ◌++◌, length, sym, ap, subst, arith}
use Rattle.std.specs.List.{slice_range}
use Rattle.border_cache.specs.Copies.{patch}
use Rattle.border_cache.proofs.FirstAtoms.{AreRowsIn, IsRowOf, all_rows, no_rows, row_added}
use Rattle.border_cache.proofs.cache.first_atoms.Goals as goal

pub loop-y-init : goal.loop-y-init
loop-y-init c =
    no_rows c.args.start.now (patch c.args.left c.args.top c.args.width c.args.height) (c.args.top - c.args.top) c.in_ok-atoms.atoms.items (omega arith) (ap length c.in_ok-atoms.ensures.items)

pub loop-y-preserved : goal.loop-y-preserved
loop-y-preserved c =
    let g = c.args.start.now in
    let p = patch c.args.left c.args.top c.args.width c.args.height in
    let y = c.loop-y.y in
    let n = y - c.args.top in
    let row = c.row.result.now in
    let old = c.loop-y.atoms.items in
    let at : y ≡ c.args.top + n = omega (arith, c.loop-y.auto.y) in
    let more : n + 1 ≡ y + 1 - c.args.top = omega (arith, c.loop-y.auto.y) in
    let is = subst (λ k. IsRowOf g k row) at (record { count = c.row.ensures.count; each = c.row.ensures.atoms }) in
    subst (AreRowsIn g p (y + 1 - c.args.top)) (sym c.in_ok-extend_from_slice.ensures.items)
    (subst (λ k. AreRowsIn g p k (old ++ slice_range row c.args.left (c.args.left + c.args.width))) more (row_added g p n row is c.requires.columns old c.loop-y.invariant))

pub returns : goal.returns
returns c =
    let last : c.loop-y.y - c.args.top ≡ c.args.height = omega (arith, c.loop-y-test.false, c.loop-y.auto.y, c.loop-y.auto.y-end) in
    all_rows c.args.start.now (patch c.args.left c.args.top c.args.width c.args.height) (c.loop-y.y - c.args.top) c.loop-y.atoms.items last c.loop-y.invariant
