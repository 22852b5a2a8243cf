use Rattle.std.proofs.Common.{arith, sym, ◌∙◌}
use Rattle.list_laws.proofs.Tests.{both}
use Rattle.border_cache.specs.Borders.{site_of}
use Rattle.border_cache.proofs.Whole.{corners_whole}
use Rattle.border_cache.proofs.places.is_whole.Goals as goal

pub returns-then-are_live-clause-whole : goal.returns-then-are_live-clause-whole
returns-then-are_live-clause-whole c high =
    let low = both _ _ (sym c.are_live.ensures ∙ c.if-are_live.true) in
    let far = both _ _ (sym c.are_live-then-are_live.ensures ∙ high) in
    corners_whole c.args.map.now c.requires.plane.valid (site_of c.args.centre)
    (record { west = omega (arith, c.if-x-lt4.false); north = omega (arith, c.if-y-lt4.false); low_left = low.0; low_right = low.1; high_left = far.0; high_right = far.1 })
