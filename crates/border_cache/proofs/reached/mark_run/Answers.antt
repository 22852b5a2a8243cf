use Rattle.std.proofs.Common.{◌≡◌, ◌+◌, ap, ◌∙◌, subst, arith}
use Rattle.tile_map.specs.Plane.{site, is_held}
use Rattle.tile_map.specs.Edges.{window_site}
use Rattle.border_cache.specs.Borders.{site_of}
use Rattle.border_cache.specs.Cells.{cell_value}
use Rattle.border_cache.specs.Copies.{Puts}
use Rattle.border_cache.specs.Reached.{event_cells, GivesAt, IsInRowAt}
use Rattle.border_cache.proofs.ReachedWindows.{IsBefore, gives_none, gives_one, gives_then, gives_same, before_or, in_column, none_before, all_before, run_held, run_site, centre_low}
use Rattle.border_cache.proofs.reached.mark_run.Goals as goal

pub loop-x-init : goal.loop-x-init
loop-x-init c =
    let s = site_of c.args.centre in
    let v = c.args.cache.now in
    gives_none (IsBefore s c.args.j c.args.run.west) s (event_cells c.args.window.now c.args.stamp) v (none_before v s c.args.j c.args.run c.requires.run c.requires.centre.holds)

pub overflow_add-x : goal.overflow_add-x
overflow_add-x c =
    let q = in_column c.args.cache.now (site_of c.args.centre) c.args.j c.args.run c.requires.run c.loop-x.x c.loop-x.auto.x c.loop-x-test.true in
    let low = centre_low c.args.cache.now.map c.args.centre c.requires.centre.plane in
    omega (arith, q.to, low.0)

pub overflow_sub-x : goal.overflow_sub-x
overflow_sub-x c = (in_column c.args.cache.now (site_of c.args.centre) c.args.j c.args.run c.requires.run c.loop-x.x c.loop-x.auto.x c.loop-x-test.true).from

pub number_at-n-requires : goal.number_at-n-requires
number_at-n-requires c = (in_column c.args.cache.now (site_of c.args.centre) c.args.j c.args.run c.requires.run c.loop-x.x c.loop-x.auto.x c.loop-x-test.true).close

pub put-requires : goal.put-requires
put-requires c =
    let v = c.args.cache.now in
    let i = c.loop-x.invariant in
    (λ z. is_held (i.map z) (i.tile z) (site c.loop-x.x c.args.run.row)) ∙ run_held v (site_of c.args.centre) c.args.j c.args.run c.requires.run c.requires.centre.holds c.requires.centre.plane.valid c.requires.whole c.loop-x.x c.loop-x.auto.x c.loop-x-test.true

pub loop-x-preserved : goal.loop-x-preserved
loop-x-preserved c =
    let s = site_of c.args.centre in
    let v = c.args.cache.now in
    let mid = c.loop-x.cache in
    let new = c.put.new.self in
    let j = c.args.j in
    let r = c.args.run in
    let x = c.loop-x.x in
    let u = site x r.row in
    let n = c.number_at-n.result in
    let i = c.loop-x.invariant in
    let cells = event_cells c.args.window.now c.args.stamp in
    let cell = c.new.ensures ∙ ap (cell_value c.args.stamp) c.get.ensures in
    let is = run_site v s j r c.requires.run c.requires.centre.holds c.requires.centre.plane.valid c.requires.whole x n c.loop-x.auto.x c.loop-x-test.true c.number_at-n.ensures in
    let one = gives_one u s cells n mid new (let small = c.number_at-n.ensures.small in omega (arith, small)) (ap (λ m. window_site m s n) i.map ∙ is) (subst (λ y. Puts u y mid new) cell c.put.ensures) in
    gives_then (IsBefore s j x) (λ q. q ≡ u) (IsBefore s j (x + 1)) s cells v mid new c.requires.centre.holds (λ q h. before_or s j x r.row q c.requires.run.row h) i one

pub returns : goal.returns
returns c =
    let s = site_of c.args.centre in
    let v = c.args.cache.now in
    let j = c.args.j in
    let r = c.args.run in
    let cells = event_cells c.args.window.now c.args.stamp in
    let some = c.requires.run.some in
    let all : c.loop-x.x ≡ r.east = omega (arith, c.loop-x-test.false, c.loop-x.auto.x-end, some) in
    gives_same (IsBefore s j r.east) (IsInRowAt s j) s cells v c.loop-x.cache (all_before v s j r c.requires.run c.requires.centre.holds) (subst (λ x. GivesAt (IsBefore s j x) s cells v c.loop-x.cache) all c.loop-x.invariant)
