use Rattle.std.proofs.Common.{sym, ap, ◌∙◌}
use Rattle.tile_map.specs.Plane.{site, is_on}
use Rattle.tile_map.proofs.PlaneLaws.{whole_on}
use Rattle.tile_map.proofs.Spans.{plane_test}
use Rattle.tile_map.proofs.plane.Plane.is_owner_on.Goals as goal

pub returns-then-is_whole : goal.returns-then-is_whole
returns-then-is_whole c =
    let m = c.args.self.now in
    c.if-is_whole.true ∙ sym (whole_on m c.is_whole.ensures.valid (sym c.is_whole.ensures.test ∙ c.if-is_whole.true) (site c.args.x c.args.y) (plane_test m c.args.x c.args.y c.requires.x c.requires.y))

pub returns-else-is_whole : goal.returns-else-is_whole
returns-else-is_whole c = c.is_on.ensures ∙ ap (is_on c.args.self.now) c.owner.ensures.value
