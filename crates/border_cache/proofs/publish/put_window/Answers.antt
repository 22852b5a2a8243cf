use Rattle.std.proofs.Common.{Some, sym, subst}
use Rattle.tile_map.specs.Tables.{IsSharedArea}
use Rattle.border_cache.specs.Borders.{IsBorderOf, IsCentreOf, site_of}
use Rattle.border_cache.specs.News.{AreMasks}
use Rattle.border_cache.specs.Windows.{place_in}
use Rattle.border_cache.proofs.publish.put_window.Goals as goal

pub put_rows-requires-clause-centre : goal.put_rows-requires-clause-centre
put_rows-requires-clause-centre g c = subst (λ m. IsCentreOf m c.args.cache.now c.args.centre) c.requires.centre.map c.requires.centre

pub put_rows-requires-clause-area : goal.put_rows-requires-clause-area
put_rows-requires-clause-area g c = record {
  border = subst (λ m. IsBorderOf m c.args.border) c.requires.centre.map c.requires.border;
  shared = subst (λ m. IsSharedArea m c.args.border.edge (Some c.in-Some.area)) c.requires.centre.map c.in-Some.ensures;
}

pub returns-in-Some-clause-masks : goal.returns-in-Some-clause-masks
returns-in-Some-clause-masks g c = subst (λ m. AreMasks (place_in m (site_of c.args.centre) c.args.border.edge) 41 c.put_rows.result) (sym c.requires.centre.map) c.put_rows.ensures.masks
