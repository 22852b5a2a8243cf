use Rattle.std.proofs.Common.{sym, subst, ◌∙◌}
use Rattle.plane_grid.specs.PlaneGrids.{IsPlaneGrid}
use Rattle.cases_order.proofs.Starts.{with_atom}
use Rattle.cases_order.proofs.runs.put.Goals as goal

pub returns : goal.returns
returns c = subst (IsPlaneGrid c.args.map.now) (sym c.set.ensures) (with_atom c.args.map.now c.laws.ensures.plane c.args.grid.now c.requires c.args.x c.args.y (sym c.is_live.ensures ∙ c.if-not-is_live.false) _)
