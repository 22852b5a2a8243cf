use Rattle.std.proofs.Common.{ℕ, ap, ◌∙◌, Vec, Global}
use Rattle.tile_map.specs.Plane.{is_on}
use Rattle.tile_map.proofs.Growing.{near_next}
use Rattle.list_laws.proofs.Filters.{grown, kept}
use Rattle.tile_map.proofs.edges.push_pairs.Goals as goal
use Rattle.tile_map.proofs.edges.push_pairs.Goals.{then-are_neighbours+in_ok-push, else-are_neighbours}

pub loop-higher-preserved : goal.loop-higher-preserved
loop-higher-preserved c =
    near_next (is_on c.args.plane.now) c.args.plane.now.tx c.args.lower c.loop-higher.higher c.are_neighbours.result c.args.pairs.now.items c.loop-higher.pairs.items c.if-are_neighbours.pairs.items c.are_neighbours.ensures c.loop-higher.invariant
    (elim c.if-are_neighbours.branch [
      | then-are_neighbours+in_ok-push w ↦ ap (λ (v : Vec (ℕ × ℕ) Global). v.items) w.pairs-is ∙ w.in_ok-push.ensures.items ∙ grown c.loop-higher.pairs.items (c.args.lower, c.loop-higher.higher) c.are_neighbours.result w.if-are_neighbours.true
      | else-are_neighbours w ↦ ap (λ (v : Vec (ℕ × ℕ) Global). v.items) w.pairs-is ∙ kept c.loop-higher.pairs.items (c.args.lower, c.loop-higher.higher) c.are_neighbours.result w.if-are_neighbours.false
    ])
