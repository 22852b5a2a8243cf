use Rattle.std.proofs.Common.{sym, arith, subst}
use Rattle.border_cache.specs.Borders.{site_of}
use Rattle.border_cache.specs.Copies.{window_cells}
use Rattle.border_cache.specs.Reached.{window_of, IsAboveRow}
use Rattle.border_cache.specs.Windows.{AreRowsOf, IsView}
use Rattle.border_cache.proofs.ReachedWindows.{shows_none, shows_valid, shows_view, none_above, all_above}
use Rattle.border_cache.proofs.reached.view_reached.Goals as goal

pub loop-j-init : goal.loop-j-init
loop-j-init c =
    let s = site_of c.args.centre in
    let v = c.args.cache.now in
    let rows = c.rows_of-first.result in
    shows_none (IsAboveRow s rows.0) v s c.new.result c.new.ensures (none_above v s c.requires.centre.holds rows.0 rows.1 (subst (λ a. AreRowsOf a s rows.0 rows.1) c.reach.ensures.value c.rows_of-first.ensures))

pub show_row-requires-clause-j : goal.show_row-requires-clause-j
show_row-requires-clause-j c = let few = c.rows_of-first.ensures.few in omega (arith, c.loop-j-test.true, few)

pub new-requires-2 : goal.new-requires-2
new-requires-2 c =
    let s = site_of c.args.centre in
    let v = c.args.cache.now in
    let rows = c.rows_of-first.result in
    let here = subst (λ a. AreRowsOf a s rows.0 rows.1) c.reach.ensures.value c.rows_of-first.ensures in
    shows_valid (IsAboveRow s c.loop-j.j) v s (window_of c.loop-j.shown) (all_above v s c.requires.centre.holds rows.0 rows.1 c.loop-j.j here (omega (arith, c.loop-j-test.false))) c.loop-j.invariant c.requires.live

pub returns : goal.returns
returns c =
    let s = site_of c.args.centre in
    let v = c.args.cache.now in
    let rows = c.rows_of-first.result in
    let here = subst (λ a. AreRowsOf a s rows.0 rows.1) c.reach.ensures.value c.rows_of-first.ensures in
    subst (IsView v.map s (window_cells v s)) (sym c.new-2.ensures) (shows_view (IsAboveRow s c.loop-j.j) v s (window_of c.loop-j.shown) (all_above v s c.requires.centre.holds rows.0 rows.1 c.loop-j.j here (omega (arith, c.loop-j-test.false))) c.loop-j.invariant c.requires.live)
