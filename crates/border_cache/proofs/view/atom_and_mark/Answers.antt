use Rattle.std.proofs.Common.{arith, ap, sym, ◌∙◌}
use Rattle.tile_map.specs.Plane.{site}
use Rattle.tile_map.specs.Edges.{window_site}
use Rattle.border_cache.specs.Borders.{site_of}
use Rattle.border_cache.proofs.view.atom_and_mark.Goals as goal

pub cell-requires : goal.cell-requires
cell-requires c = c.requires.centre.holds c.args.n (site c.in-Some.u c.in-Some.v) (omega (arith, c.requires.n)) (ap (λ m. window_site m (site_of c.args.centre) c.args.n) (sym c.requires.centre.map) ∙ c.in-Some.ensures)
