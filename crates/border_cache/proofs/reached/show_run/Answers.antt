use Rattle.std.proofs.Common.{◌≡◌, ◌+◌, true, sym, ap, ◌∙◌, subst, arith}
use Rattle.std.specs.Prelude.{slice_set}
use Rattle.tile_map.specs.Plane.{site}
use Rattle.border_cache.specs.Borders.{site_of}
use Rattle.border_cache.specs.Cells.{CellValue}
use Rattle.border_cache.specs.Reached.{window_of, IsAboveRow, ShowsAt}
use Rattle.border_cache.proofs.ReachedWindows.{IsShownTo, shows_more, shows_same, shown_or, shown_begins, shown_all, in_column, run_held, run_site, centre_low}
use Rattle.border_cache.proofs.reached.show_run.Goals as goal

pub loop-x-init : goal.loop-x-init
loop-x-init c =
    let s = site_of c.args.centre in
    let v = c.args.cache.now in
    shows_same (IsAboveRow s c.args.j) (IsShownTo s c.args.j c.args.run.west) v s (window_of c.args.shown.now) (shown_begins v s c.args.j c.args.run c.requires.run c.requires.centre.holds) c.requires.shown

pub overflow_add-x : goal.overflow_add-x
overflow_add-x c =
    let q = in_column c.args.cache.now (site_of c.args.centre) c.args.j c.args.run c.requires.run c.loop-x.x c.loop-x.auto.x c.loop-x-test.true in
    let low = centre_low c.args.cache.now.map c.args.centre c.requires.centre.plane in
    omega (arith, q.to, low.0)

pub overflow_sub-x : goal.overflow_sub-x
overflow_sub-x c = (in_column c.args.cache.now (site_of c.args.centre) c.args.j c.args.run c.requires.run c.loop-x.x c.loop-x.auto.x c.loop-x-test.true).from

pub number_at-n-requires : goal.number_at-n-requires
number_at-n-requires c = (in_column c.args.cache.now (site_of c.args.centre) c.args.j c.args.run c.requires.run c.loop-x.x c.loop-x.auto.x c.loop-x-test.true).close

pub at-requires : goal.at-requires
at-requires c = run_held c.args.cache.now (site_of c.args.centre) c.args.j c.args.run c.requires.run c.requires.centre.holds c.requires.centre.plane.valid c.requires.whole c.loop-x.x c.loop-x.auto.x c.loop-x-test.true

pub loop-x-preserved : goal.loop-x-preserved
loop-x-preserved c =
    let s = site_of c.args.centre in
    let v = c.args.cache.now in
    let j = c.args.j in
    let r = c.args.run in
    let x = c.loop-x.x in
    let u = site x r.row in
    let n = c.number_at-n.result in
    let w = window_of c.loop-x.shown in
    let is = run_site v s j r c.requires.run c.requires.centre.holds c.requires.centre.plane.valid c.requires.whole x n c.loop-x.auto.x c.loop-x-test.true c.number_at-n.ensures in
    let atom = c.atom.ensures ∙ ap (λ (cell : CellValue). cell.atom) c.at.ensures in
    let more = shows_more (IsShownTo s j x) (IsShownTo s j (x + 1)) v s u n w (let small = c.number_at-n.ensures.small in omega (arith, small)) is (λ q h. shown_or s j x r.row q c.requires.run.row h) c.loop-x.invariant in
    subst (λ a. ShowsAt (IsShownTo s j (x + 1)) v s (record { atoms = slice_set w.atoms n a; live = slice_set w.live n true })) (sym atom) more

pub returns : goal.returns
returns c =
    let s = site_of c.args.centre in
    let v = c.args.cache.now in
    let j = c.args.j in
    let r = c.args.run in
    let w = window_of c.loop-x.shown in
    let some = c.requires.run.some in
    let all : c.loop-x.x ≡ r.east = omega (arith, c.loop-x-test.false, c.loop-x.auto.x-end, some) in
    shows_same (IsShownTo s j r.east) (IsAboveRow s (j + 1)) v s w (shown_all v s j r c.requires.run c.requires.centre.holds) (subst (λ x. ShowsAt (IsShownTo s j x) v s w) all c.loop-x.invariant)
