use Rattle.std.proofs.Common.{◌+◌, arith, ap, ◌∙◌, subst}
use Rattle.tile_map.specs.Plane.{is_whole}
use Rattle.border_cache.specs.Borders.{site_of}
use Rattle.border_cache.specs.Windows.{AreRowsOf}
use Rattle.border_cache.specs.Reached.{event_cells, IsAboveRow, IsInRowAt}
use Rattle.border_cache.proofs.Open.{centre_stays}
use Rattle.border_cache.proofs.ReachedWindows.{gives_none, gives_then, gives_all, above_next, none_above, all_above}
use Rattle.border_cache.proofs.reached.mark_reached.Goals as goal

pub loop-j-init : goal.loop-j-init
loop-j-init c =
    let s = site_of c.args.centre in
    let v = c.args.cache.now in
    let rows = c.rows_of-first.result in
    gives_none (IsAboveRow s rows.0) s (event_cells c.args.window.now c.args.stamp) v (none_above v s c.requires.centre.holds rows.0 rows.1 (subst (λ a. AreRowsOf a s rows.0 rows.1) c.reach.ensures.value c.rows_of-first.ensures))

pub mark_row-requires-clause-j : goal.mark_row-requires-clause-j
mark_row-requires-clause-j c = let few = c.rows_of-first.ensures.few in omega (arith, c.loop-j-test.true, few)

pub mark_row-requires-clause-centre : goal.mark_row-requires-clause-centre
mark_row-requires-clause-centre c =
    let i = c.loop-j.invariant in
    centre_stays c.args.cache.now c.loop-j.cache c.args.centre i.map i.tile c.requires.centre

pub mark_row-requires-clause-whole : goal.mark_row-requires-clause-whole
mark_row-requires-clause-whole c = ap is_whole c.loop-j.invariant.map ∙ c.requires.whole

pub loop-j-preserved : goal.loop-j-preserved
loop-j-preserved c =
    let s = site_of c.args.centre in
    let j = c.loop-j.j in
    gives_then (IsAboveRow s j) (IsInRowAt s j) (IsAboveRow s (j + 1)) s (event_cells c.args.window.now c.args.stamp) c.args.cache.now c.loop-j.cache c.mark_row.new.cache c.requires.centre.holds (above_next s j) c.loop-j.invariant c.mark_row.ensures

pub returns : goal.returns
returns c =
    let s = site_of c.args.centre in
    let v = c.args.cache.now in
    let rows = c.rows_of-first.result in
    let here = subst (λ a. AreRowsOf a s rows.0 rows.1) c.reach.ensures.value c.rows_of-first.ensures in
    gives_all (IsAboveRow s c.loop-j.j) s (event_cells c.args.window.now c.args.stamp) v c.loop-j.cache (all_above v s c.requires.centre.holds rows.0 rows.1 c.loop-j.j here (omega (arith, c.loop-j-test.false))) c.loop-j.invariant
