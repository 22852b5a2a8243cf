use Rattle.std.proofs.Common.{sym, subst, ◌∙◌}
use Rattle.serial_order.specs.Scene.{registers_at}
use Rattle.serial_order.specs.Settled.{IsSettled}
use Rattle.serial_order.specs.Outcomes.{AreTilesOf, values_of}
use Rattle.serial_order.proofs.Outcomes.{tiles_are, own_made, are_logs, settlement}
use Rattle.serial_order.proofs.outcome.settle.Goals as goal

pub settle_sites-requires-clause-tiles : goal.settle_sites-requires-clause-tiles
settle_sites-requires-clause-tiles g c =
    subst (λ ts. AreTilesOf c.args.map.now (values_of ts)) (sym c.as_slice.ensures.value) (tiles_are c.args.map.now c.args.tiles.items (g.E.EdgeWords.words c.args.words.now).histories c.requires.made c.requires.over)

pub logs-requires : goal.logs-requires
logs-requires g c = own_made c.args.map.now c.args.tiles.items c.requires.made

pub of_logs-requires : goal.of_logs-requires
of_logs-requires g c = are_logs c.args.map.now (values_of c.args.tiles.items) (g.E.EdgeWords.words c.args.words.now).histories c.in_ok-logs.logs.items c.requires.over c.in_ok-logs.ensures

pub returns-clause-settled : goal.returns-clause-settled
returns-clause-settled g c =
    let words = (g.E.EdgeWords.words c.args.words.now).histories in
    settlement c.args.map.now (values_of c.args.tiles.items) words (record { grid = c.settle_sites.new.grid; journal = c.of_logs.result })
    (subst (λ ts. IsSettled c.args.map.now (values_of ts) (registers_at words) c.settle_sites.new.grid) c.as_slice.ensures.value c.settle_sites.ensures.grid) (c.of_logs.ensures ∙ c.in_ok-logs.ensures)
