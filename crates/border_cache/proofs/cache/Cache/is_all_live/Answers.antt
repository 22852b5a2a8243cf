use Rattle.std.proofs.Common.{ap, ◌∙◌}
use Rattle.tile_map.specs.Plane.{site}
use Rattle.border_cache.specs.Windows.{has_corners}
use Rattle.border_cache.proofs.cache.Cache.is_all_live.Goals as goal

pub returns-else-has_own_window-clause-found : goal.returns-else-has_own_window-clause-found
returns-else-has_own_window-clause-found c corners =
    let s = site c.args.x c.args.y in
    c.is_whole.ensures.corners ∙ (ap (λ m. has_corners m s) c.requires.map ∙ corners)
