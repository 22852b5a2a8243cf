use Rattle.std.proofs.Common.{rules, sym, ◌∙◌, subst}
use Rattle.std.specs.Prelude.{All}
use Rattle.std.proofs.lemmas.List.{nil_from_length}
use Rattle.tile_map.specs.Plane.{site}
use Rattle.tile_map.specs.Laws.{IsPlane}
use Rattle.border_cache.specs.Copies.{window_cells}
use Rattle.border_cache.specs.Windows.{IsEdgeFor, PublishesAll, centre_of}
use Rattle.border_cache.proofs.Needs.{publishes_all_begin}
use Rattle.border_cache.proofs.Stored.{centre_holds, needs_ready}
use Rattle.border_cache.proofs.cache.Cache.publish.Goals as goal

pub publish_needs-requires-clause-centre : goal.publish_needs-requires-clause-centre
publish_needs-requires-clause-centre g c = record {
  map = c.requires.map;
  plane = record { valid = search rules; x = search rules; y = search rules };
  holds = centre_holds c.args.self.now.map (subst IsPlane c.requires.map c.laws.ensures.plane) c.args.self.now.tile (site c.args.x c.args.y) c.requires.centre;
}

pub publish_needs-requires-clause-needs : goal.publish_needs-requires-clause-needs
publish_needs-requires-clause-needs g c =
    let v = c.args.self.now in
    let s = site c.args.x c.args.y in
    let end = g.D.Board.end c.args.board.now in
    subst (λ m. All (IsEdgeFor m end.registers end.lists) c.args.needs.now) (sym c.requires.map)
    (needs_ready v.map (subst IsPlane c.requires.map c.laws.ensures.plane) v.tile s end c.requires.board c.args.needs.now c.requires.needs c.requires.held)

pub returns-then-len-eq0-clause-published : goal.returns-then-len-eq0-clause-published
returns-then-len-eq0-clause-published g c =
    let v = c.args.self.now in
    let s = site c.args.x c.args.y in
    let a = (g.D.Board.end c.args.board.now).lists in
    subst (λ es. PublishesAll (centre_of v.map v.tile s) es (window_cells v s) a a) (sym (nil_from_length c.args.needs.now (sym c.len.ensures.count ∙ c.if-len-eq0.true))) (publishes_all_begin v.map v.tile s (window_cells v s) a)
