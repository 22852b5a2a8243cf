use Rattle.std.proofs.Common.{◌+◌, ◌∙◌, ap, sym, subst, arith, drop, get_or, length}
use Rattle.tile_map.specs.Plane.{site}
use Rattle.tile_map.specs.Edges.{needs_of}
use Rattle.tile_map.proofs.Spans.{held_parts}
use Rattle.border_cache.specs.Cells.{cell_value, newer, newest}
use Rattle.serial_order.specs.Scene.{registers_at}
use Rattle.serial_order.specs.Settled.{edge_cells}
use Rattle.serial_order.specs.Words.{AreEdgeWords, WordsValue, cell_on}
use Rattle.serial_order.proofs.NeededCells.{held_inside, last_newest, needed_cells, needed_low, next_newest}
use Rattle.serial_order.proofs.newest.newest_of.Goals as goal

pub newer_on_edge-best-requires-clause-words : goal.newer_on_edge-best-requires-clause-words
newer_on_edge-best-requires-clause-words g c = subst (AreEdgeWords c.args.map.now) (sym c.loop-i.invariant.same) c.requires.words

pub needs-needs-requires-clause-tile : goal.needs-needs-requires-clause-tile
needs-needs-requires-clause-tile g c = (held_inside c.args.map.now c.args.tile c.args.x c.args.y c.requires.held).0

pub needs-needs-requires-clause-x : goal.needs-needs-requires-clause-x
needs-needs-requires-clause-x g c = (held_inside c.args.map.now c.args.tile c.args.x c.args.y c.requires.held).1

pub needs-needs-requires-clause-y : goal.needs-needs-requires-clause-y
needs-needs-requires-clause-y g c = (held_inside c.args.map.now c.args.tile c.args.x c.args.y c.requires.held).2

pub newer_on_edge-best-requires-clause-known : goal.newer_on_edge-best-requires-clause-known
newer_on_edge-best-requires-clause-known g c =
    let m = c.args.map.now in
    let lt = needed_low m c.args.tile (site c.args.x c.args.y) c.loop-i.i (omega (arith, c.loop-i-test.true, c.len-i-end.ensures.count, ap length c.needs-needs.ensures)) in
    let is = c.edge.ensures ∙ ap (λ es. get_or es c.loop-i.i 0) c.needs-needs.ensures in
    omega (arith, lt, is)

pub loop-i-preserved : goal.loop-i-preserved
loop-i-preserved g c =
    let v = c.loop-i.invariant in
    let m = c.args.map.now in
    let s = site c.args.x c.args.y in
    let words = (g.E.EdgeWords.words c.args.words.now).histories in
    let best = cell_value c.loop-i.best.0 c.loop-i.best.1 in
    let needs = needs_of m c.args.tile s in
    let e = c.edge.result in
    let own = newest (cell_value c.args.own.0 c.args.own.1) (edge_cells m (registers_at words) needs s) in
    let cell = c.newer_on_edge-best.ensures.cell ∙ ap (λ (w : WordsValue). newer best (cell_on m w.histories e s)) v.same in
    let is = c.edge.ensures ∙ ap (λ es. get_or es c.loop-i.i 0) c.needs-needs.ensures in
    record {
      done = ap (λ b. newest b (edge_cells m (registers_at words) (drop (c.loop-i.i + 1) needs) s)) cell
          ∙ next_newest m (registers_at words) s needs c.loop-i.i e best own (omega (arith, c.loop-i-test.true, c.len-i-end.ensures.count, ap length c.needs-needs.ensures)) is v.done;
      same = c.newer_on_edge-best.ensures.same ∙ v.same;
    }

pub returns-clause-cell : goal.returns-clause-cell
returns-clause-cell g c =
    let m = c.args.map.now in
    let s = site c.args.x c.args.y in
    let words = (g.E.EdgeWords.words c.args.words.now).histories in
    let live = (held_parts m c.args.tile s c.requires.held).live in
    let end = last_newest m (registers_at words) s (needs_of m c.args.tile s) c.loop-i.i (cell_value c.loop-i.best.0 c.loop-i.best.1) (omega (arith, c.loop-i-test.false, c.len-i-end.ensures.count, ap length c.needs-needs.ensures)) in
    sym end ∙ c.loop-i.invariant.done ∙ ap (newest (cell_value c.args.own.0 c.args.own.1)) (needed_cells m (registers_at words) c.args.tile s live)

pub returns-clause-same : goal.returns-clause-same
returns-clause-same g c = c.loop-i.invariant.same
