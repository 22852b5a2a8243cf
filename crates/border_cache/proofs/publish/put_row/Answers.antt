use Rattle.std.proofs.Common.{[], arith}
use Rattle.tile_map.proofs.PlaneLaws.{plane}
use Rattle.tile_map.proofs.Numbers.{size_low}
use Rattle.border_cache.specs.Borders.{site_of}
use Rattle.border_cache.specs.Shared.{IsInRow, IsInRun, shared_cell}
use Rattle.border_cache.proofs.Runs.{adds_none}
use Rattle.border_cache.proofs.Written.{puts_none, puts_same}
use Rattle.border_cache.proofs.SharedRuns.{run_shared, in_row, in_run, no_row}
use Rattle.border_cache.proofs.publish.put_row.Goals as goal

pub put_run-requires-clause-run : goal.put_run-requires-clause-run
put_run-requires-clause-run g c =
    let v = c.args.cache.now in
    run_shared v (plane v.map c.requires.centre.plane.valid) c.args.area (site_of c.args.centre) c.args.border.edge c.requires.area.shared.0 c.requires.centre.holds c.args.j c.in_ok-run.run' c.in_ok-run.ensures

pub returns-clause-put : goal.returns-clause-put
returns-clause-put g c =
    let p = c.put_run.ensures.put in
    let a = c.args.area in
    let s = site_of c.args.centre in
    let j = c.args.j in
    let r = c.in_ok-run.run' in
    (p.0, p.1, puts_same (IsInRun r r.east) (IsInRow a s j) (shared_cell c.args.cache.now c.args.border.edge) p.0 (in_row a s j r c.in_ok-run.ensures) (in_run a s j r c.in_ok-run.ensures) p.2)

pub returns-in_err-run-clause-put : goal.returns-in_err-run-clause-put
returns-in_err-run-clause-put g c =
    let a = c.args.area in
    let s = site_of c.args.centre in
    ([], adds_none (g.D.Board.end c.args.board.now).lists c.args.border.edge, puts_none (IsInRow a s c.args.j) (shared_cell c.args.cache.now c.args.border.edge) (λ k. no_row a s c.args.j k c.in_err-run.ensures))

pub run_of-requires-clause-x : goal.run_of-requires-clause-x
run_of-requires-clause-x g c =
    let m = c.args.cache.now.map in
    let s = c.requires.centre.plane.valid.sizes in
    let wide = size_low m.tx m.w s.tx_high s.w_high in
    omega (arith, c.requires.centre.plane.x, wide)

pub run_of-requires-clause-y : goal.run_of-requires-clause-y
run_of-requires-clause-y g c =
    let m = c.args.cache.now.map in
    let s = c.requires.centre.plane.valid.sizes in
    let high = size_low m.ty m.h s.ty_high s.h_high in
    omega (arith, c.requires.centre.plane.y, high)
