use Rattle.std.proofs.Common.{arith, ◌∙◌}
use Rattle.tile_map.proofs.PlaneLaws.{around_long, around_read, around_few}
use Rattle.tile_map.proofs.map.Map.edges_of.Goals as goal

pub index-requires : goal.index-requires
index-requires c = omega (arith, c.self.inside.around.ok.0, around_long c.args.self.now _ c.self.inside.around.items c.args.tile c.self.view_is c.self.invariant.0.lists c.requires)

pub returns-clause-edges : goal.returns-clause-edges
returns-clause-edges c = c.as_slice.ensures ∙ around_read c.args.self.now _ c.self.inside.around.items c.args.tile c.index.result.now c.self.view_is c.self.invariant.0.lists c.requires c.index.ensures

pub returns-clause-few : goal.returns-clause-few
returns-clause-few c =
    let same = c.as_slice.ensures ∙ around_read c.args.self.now _ c.self.inside.around.items c.args.tile c.index.result.now c.self.view_is c.self.invariant.0.lists c.requires c.index.ensures in
    around_few c.args.self.now _ c.args.tile c.as_slice.result.now c.self.view_is c.self.invariant.0.valid c.requires same
