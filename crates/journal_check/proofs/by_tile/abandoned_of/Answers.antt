use Rattle.std.proofs.Common.{arith}
use Rattle.journal_check.proofs.OwnEntries.{own_part}
use Rattle.journal_check.proofs.by_tile.abandoned_of.Goals as goal

pub slice_bounds-result-count : goal.slice_bounds-result-count
slice_bounds-result-count c =
    let start = c.below_tile-start.ensures in
    let end = c.below_tile-end.ensures in
    let part = own_part c.args.tile c.from-first.result c.below_tile-start.result c.below_tile-end.result c.args.abandoned.now c.from-first.ensures
    (record { before = start.before; from = start.from; up_to = end.before; after = end.from }) start.bound in
    omega (arith, part.0)

pub slice_bounds-result-start : goal.slice_bounds-result-start
slice_bounds-result-start c =
    let start = c.below_tile-start.ensures in
    let end = c.below_tile-end.ensures in
    let part = own_part c.args.tile c.from-first.result c.below_tile-start.result c.below_tile-end.result c.args.abandoned.now c.from-first.ensures
    (record { before = start.before; from = start.from; up_to = end.before; after = end.from }) start.bound in
    omega (arith, part.0)

pub returns : goal.returns
returns c =
    let start = c.below_tile-start.ensures in
    let end = c.below_tile-end.ensures in
    let part = own_part c.args.tile c.from-first.result c.below_tile-start.result c.below_tile-end.result c.args.abandoned.now c.from-first.ensures
    (record { before = start.before; from = start.from; up_to = end.before; after = end.from }) start.bound in
    part.1
