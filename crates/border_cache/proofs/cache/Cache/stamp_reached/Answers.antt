use Rattle.std.proofs.Common.{arith, sym, ap, ◌∙◌, subst}
use Rattle.tile_map.specs.Plane.{IsMap, is_whole}
use Rattle.border_cache.specs.Borders.{site_of}
use Rattle.border_cache.specs.BorderRows.{StampsRows}
use Rattle.border_cache.proofs.BorderRows.{rows_none, rows_next, rows_stamped}
use Rattle.border_cache.proofs.cache.Cache.stamp_reached.Goals as goal

pub loop-j-init : goal.loop-j-init
loop-j-init c = rows_none (site_of c.args.centre) c.args.stamp c.args.self.now

pub loop-j-preserved : goal.loop-j-preserved
loop-j-preserved c = rows_next (site_of c.args.centre) c.loop-j.j c.args.stamp c.args.self.now c.loop-j.self c.stamp_row.new.self c.loop-j.invariant c.stamp_row.ensures

pub returns : goal.returns
returns c =
    let s = site_of c.args.centre in
    let old = c.args.self.now in
    let all = subst (λ j. StampsRows s j c.args.stamp old c.loop-j.self) (omega (arith, c.loop-j-test.false, c.loop-j.auto.j-end)) c.loop-j.invariant in
    rows_stamped s c.args.stamp old c.loop-j.self (subst IsMap c.requires.centre.map c.requires.centre.plane.valid) (sym (ap is_whole c.requires.centre.map) ∙ c.requires.whole) c.requires.centre.holds all
