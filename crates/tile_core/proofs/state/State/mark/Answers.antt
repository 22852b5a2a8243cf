use Rattle.std.proofs.Common.{sym, subst}
use Rattle.std.specs.Prelude.{if◌then◌else◌}
use Rattle.tile_map.specs.Plane.{site}
use Rattle.border_cache.specs.Copies.{Marked}
use Rattle.tile_core.specs.Kept.{window_seen}
use Rattle.tile_core.proofs.Idle.{stamped_seen}
use Rattle.tile_core.proofs.state.State.mark.Goals as goal

pub returns-then-self-clause-marked : goal.returns-then-self-clause-marked
returns-then-self-clause-marked c =
    let s = c.args.self.now in
    let p = site s.x s.y in
    subst (λ b. Marked p (if b then window_seen s.cache p else s.window) s.event_stamp s.cache c.stamp.new.self) (sym c.if-self.true) (stamped_seen p s.event_stamp s.cache c.stamp.new.self c.stamp.ensures)
