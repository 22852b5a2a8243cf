use Rattle.std.proofs.Common.{rules, sym, ◌∙◌, subst}
use Rattle.std.specs.Prelude.{All}
use Rattle.std.proofs.lemmas.List.{nil_from_length}
use Rattle.tile_map.specs.Plane.{site}
use Rattle.tile_map.specs.Laws.{IsPlane}
use Rattle.border_cache.specs.Windows.{IsEdgeFor}
use Rattle.border_cache.specs.Copies.{Refreshed, copy_at}
use Rattle.border_cache.proofs.Stored.{centre_holds, needs_ready, refreshed_none}
use Rattle.border_cache.proofs.cache.Cache.refresh.Goals as goal

pub refresh_needs-requires-clause-centre : goal.refresh_needs-requires-clause-centre
refresh_needs-requires-clause-centre g c = record {
  map = c.requires.map;
  plane = record { valid = search rules; x = search rules; y = search rules };
  holds = centre_holds c.args.self.now.map (subst IsPlane c.requires.map c.laws.ensures.plane) c.args.self.now.tile (site c.args.x c.args.y) c.requires.centre;
}

pub refresh_needs-requires-clause-needs : goal.refresh_needs-requires-clause-needs
refresh_needs-requires-clause-needs g c =
    let v = c.args.self.now in
    let s = site c.args.x c.args.y in
    let end = g.D.Board.end c.args.board.now in
    subst (λ m. All (IsEdgeFor m end.registers end.lists) c.args.needs.now) (sym c.requires.map)
    (needs_ready v.map (subst IsPlane c.requires.map c.laws.ensures.plane) v.tile s end c.requires.board c.args.needs.now c.requires.needs c.requires.held)

pub returns-then-len-eq0-clause-refreshed : goal.returns-then-len-eq0-clause-refreshed
returns-then-len-eq0-clause-refreshed g c =
    let v = c.args.self.now in
    let s = site c.args.x c.args.y in
    let a = (g.D.Board.end c.args.board.now).lists in
    subst (λ es. Refreshed s es (copy_at v a) (copy_at v a)) (sym (nil_from_length c.args.needs.now (sym c.len.ensures.count ∙ c.if-len-eq0.true))) (refreshed_none s v a)
