use Rattle.std.proofs.Common.{◌+◌, ◌*◌, ap, sym, subst, arith, ◌∙◌, length}
use Rattle.tile_map.specs.Edges.{pairs_of}
use Rattle.journal_check.specs.Marks.{AreRising}
use Rattle.journal_check.proofs.Marking.{lane_in}
use Rattle.journal_check.proofs.marks.marks_at.Goals as goal

pub returns-clause-rising : goal.returns-clause-rising
returns-clause-rising c =
    let many = length (pairs_of c.args.map.now) in
    let n = c.tiles-tiles.result in
    let lt = lane_in many n c.args.tile c.args.edge (length c.args.table.now) c.requires.edge (omega (arith, c.tiles-tiles.ensures.count, c.requires.tile)) (c.requires.many ∙ ap (λ q. many * q) (sym c.tiles-tiles.ensures.count)) in
    subst AreRising (sym c.as_slice.ensures) (subst AreRising (sym c.index-table-edge.is) (c.requires.rising (c.args.edge * n + c.args.tile) c.index-table-edge.result lt))
