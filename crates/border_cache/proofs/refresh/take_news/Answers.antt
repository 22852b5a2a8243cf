use Rattle.std.proofs.Common.{Some, subst}
use Rattle.tile_map.specs.Tables.{IsSharedArea}
use Rattle.border_cache.specs.Borders.{IsBorderOf, IsCentreOf}
use Rattle.border_cache.proofs.refresh.take_news.Goals as goal

pub refresh_rows-requires-clause-centre : goal.refresh_rows-requires-clause-centre
refresh_rows-requires-clause-centre g c = subst (λ m. IsCentreOf m c.args.cache.now c.args.centre) c.requires.centre.map c.requires.centre

pub refresh_rows-requires-clause-area : goal.refresh_rows-requires-clause-area
refresh_rows-requires-clause-area g c = record {
  border = subst (λ m. IsBorderOf m c.args.news.now.border) c.requires.centre.map c.requires.border;
  shared = subst (λ m. IsSharedArea m c.args.news.now.border.edge (Some c.in-Some.area)) c.requires.centre.map c.in-Some.ensures;
}
