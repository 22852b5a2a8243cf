use Rattle.std.proofs.Common.{ℕ, ap, ◌∙◌}
use Rattle.tile_map.specs.Plane.{is_on}
use Rattle.tile_map.proofs.PlaneLaws.{edges}
use Rattle.tile_map.proofs.map.Map.other_end.Goals as goal

pub returns-then-lower-tile-clause-on : goal.returns-then-lower-tile-clause-on
returns-then-lower-tile-clause-on c =
    let m = c.args.self.now in
    ap (λ (p : ℕ × ℕ). is_on m p.1) c.ends-lower.ensures.pair ∙ ((edges m c.ends-lower.ensures.valid).on c.args.edge c.requires).1

pub returns-else-lower-tile-clause-on : goal.returns-else-lower-tile-clause-on
returns-else-lower-tile-clause-on c =
    let m = c.args.self.now in
    ap (λ (p : ℕ × ℕ). is_on m p.0) c.ends-lower.ensures.pair ∙ ((edges m c.ends-lower.ensures.valid).on c.args.edge c.requires).0
