use Rattle.std.proofs.Common.{ℕ, Bool, length, arith, ap}
use Rattle.tile_map.specs.Plane.{site}
use Rattle.tile_map.specs.Edges.{other_end, reaches}
use Rattle.list_laws.proofs.Filters.{filter_take}
use Rattle.tile_map.proofs.PlaneLaws.{edges_low}
use Rattle.tile_map.proofs.map.Map.needs_among.Goals as goal

pub other_end-requires : goal.other_end-requires
other_end-requires c = edges_low c.args.self.now c.args.tile c.args.edges.now c.requires.edges c.loop-edge.edge-index 0 c.loop-edge-test.true

pub push-requires : goal.push-requires
push-requires c =
    let q : ℕ → Bool = λ e. reaches c.args.self.now (site c.args.x c.args.y) (other_end c.args.self.now c.args.tile e) in
    omega (arith, ap length c.loop-edge.invariant, filter_take q c.args.edges.now c.loop-edge.edge-index, c.loop-edge-test.true, c.requires.few)
