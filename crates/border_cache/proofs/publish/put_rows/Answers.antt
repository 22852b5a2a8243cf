use Rattle.std.proofs.Common.{rules, arith, ap, length, subst, ◌≤◌, ◌+◌, ◌⊎◌, [], ◌++◌, replicate, refl, sym}
use Rattle.tile_map.proofs.Numbers.{size_low}
use Rattle.tile_map.proofs.PlaneLaws.{plane}
use Rattle.border_cache.specs.Borders.{site_of}
use Rattle.border_cache.specs.Shared.{IsInRow, IsInWindowOf, shared_cell}
use Rattle.border_cache.proofs.Open.{open_adds}
use Rattle.border_cache.proofs.Runs.{adds_none, adds_then}
use Rattle.border_cache.proofs.Written.{puts_none, puts_both, puts_same}
use Rattle.border_cache.specs.Windows.{IsRowRun, SetsRow, place_at, place_in}
use Rattle.border_cache.proofs.Bits.{masks_by}
use Rattle.border_cache.proofs.Covered.{whole_place}
use Rattle.border_cache.proofs.RowPlaces.{no_bits, row_none, rows_begin, rows_more, rows_all, run_fits, run_row}
use Rattle.border_cache.proofs.SharedRuns.{IsAbove, above_none, above_or, or_above, above_all, all_above}
use Rattle.edge_lock.proofs.BoardLaws.{same_end, same_end_here}
use Rattle.border_cache.proofs.publish.put_rows.Goals as goal
use Rattle.border_cache.proofs.publish.put_rows.Goals.{in-Some, in_default}

pub loop-j-init : goal.loop-j-init
loop-j-init g c =
    let a = c.args.area in
    let s = site_of c.args.centre in
    record {
      marks = rows_begin a s c.rows_of-first.result.0 c.rows_of-first.result.1 (replicate 9 0) c.rows_of-first.ensures refl (λ k. no_bits 9 k 0 refl);
      put = ([], adds_none (g.D.Board.end c.args.board.now).lists c.args.border.edge, puts_none (IsAbove a s c.rows_of-first.result.0) (shared_cell c.args.cache.now c.args.border.edge) (λ k. above_none a s c.rows_of-first.result.0 c.rows_of-first.result.1 k c.rows_of-first.ensures));
      same = same_end_here (g.D.Board.end c.args.board.now);
      moved = search rules;
    }

pub put_row-requires-clause-j : goal.put_row-requires-clause-j
put_row-requires-clause-j g c = let few = c.rows_of-first.ensures.few in omega (arith, c.loop-j-test.true, few)

pub put_row-requires-clause-hold : goal.put_row-requires-clause-hold
put_row-requires-clause-hold g c =
    let r = c.loop-j.invariant.put in
    open_adds (g.D.Board.end c.args.board.now) (g.D.Board.end c.loop-j.board) c.args.border r.0 c.requires.hold c.loop-j.invariant.same r.1

pub overflow_sub-run : goal.overflow_sub-run
overflow_sub-run g c =
    let run = subst (IsRowRun c.args.area (site_of c.args.centre) c.loop-j.j) c.in-Some.is c.put_row.ensures.run in
    let some = run.some in
    omega (arith, some)

pub overflow_add-run : goal.overflow_add-run
overflow_add-run g c =
    let run = subst (IsRowRun c.args.area (site_of c.args.centre) c.loop-j.j) c.in-Some.is c.put_row.ensures.run in
    let fits = run_fits c.args.area (site_of c.args.centre) c.loop-j.j c.in-Some.run' run in
    let same = ap length c.requires.area.shared.0 in
    omega (arith, fits, same, c.requires.area.border.sites, c.requires.hold.few)

pub set_run-requires-clause-few : goal.set_run-requires-clause-few
set_run-requires-clause-few g c =
    let run = subst (IsRowRun c.args.area (site_of c.args.centre) c.loop-j.j) c.in-Some.is c.put_row.ensures.run in
    let fits = run_fits c.args.area (site_of c.args.centre) c.loop-j.j c.in-Some.run' run in
    let same = ap length c.requires.area.shared.0 in
    omega (arith, fits, same, c.requires.area.border.sites, c.requires.hold.few)

pub set_run-requires-clause-some : goal.set_run-requires-clause-some
set_run-requires-clause-some g c =
    let run = subst (IsRowRun c.args.area (site_of c.args.centre) c.loop-j.j) c.in-Some.is c.put_row.ensures.run in
    let some = run.some in
    omega (arith, some)

pub set_run-requires-clause-short : goal.set_run-requires-clause-short
set_run-requires-clause-short g c =
    let run = subst (IsRowRun c.args.area (site_of c.args.centre) c.loop-j.j) c.in-Some.is c.put_row.ensures.run in
    let few = run.few in
    omega (arith, few)

pub loop-j-preserved : goal.loop-j-preserved
loop-j-preserved g c =
    let i = c.loop-j.invariant in
    let p = i.put in
    let q = c.put_row.ensures.put in
    let b = (g.D.Board.end c.loop-j.board).lists in
    let d = (g.D.Board.end c.put_row.new.board).lists in
    let a = c.args.area in
    let s = site_of c.args.centre in
    let j = c.loop-j.j in
    let cell = shared_cell c.args.cache.now c.args.border.edge in
    let old = c.loop-j.masks in
    let new = c.match-put_row.masks in
    record {
      marks = rows_more a s j old new i.marks
          (elim c.match-put_row.branch [
            | in-Some w ↦ subst (SetsRow a s j old) (sym w.masks-is) (run_row a s j w.in-Some.run' (subst (IsRowRun a s j) w.in-Some.is c.put_row.ensures.run) old w.set_run.new.masks w.set_run.ensures)
            | in_default w ↦ subst (SetsRow a s j old) (sym w.masks-is) (row_none a s j old (subst (IsRowRun a s j) w.in_default.is c.put_row.ensures.run))
          ]);
      put = (
        p.0 ++ q.0,
        adds_then (g.D.Board.end c.args.board.now).lists b d c.args.border.edge p.0 q.0 c.requires.hold.held p.1 q.1,
        puts_same (λ k. IsAbove a s j k ⊎ IsInRow a s j k) (IsAbove a s (j + 1)) cell (p.0 ++ q.0) (or_above a s j) (above_or a s j) (puts_both (IsAbove a s j) (IsInRow a s j) cell p.0 q.0 p.2 q.2),
      );
      same = same_end (g.D.Board.end c.args.board.now) (g.D.Board.end c.loop-j.board) (g.D.Board.end c.put_row.new.board) i.same c.put_row.ensures.same;
      moved = search rules;
    }

pub returns-clause-put : goal.returns-clause-put
returns-clause-put g c =
    let p = c.loop-j.invariant.put in
    let v = c.args.cache.now in
    let a = c.args.area in
    let s = site_of c.args.centre in
    let j = c.loop-j.j in
    let rows = c.rows_of-first in
    let all : rows.result.1 ≤ j = omega (arith, c.loop-j-test.false) in
    let laws = plane v.map c.requires.centre.plane.valid in
    (p.0, p.1, puts_same (IsAbove a s j) (IsInWindowOf v.map s c.args.border.edge) (shared_cell v c.args.border.edge) p.0 (all_above v laws a s c.args.border.edge c.requires.area.shared.0 c.requires.centre.holds j) (λ k. above_all v laws a s c.args.border.edge c.requires.area.shared.0 c.requires.centre.holds rows.result.0 rows.result.1 j k rows.ensures all) p.2)

pub returns-clause-masks : goal.returns-clause-masks
returns-clause-masks g c =
    let v = c.args.cache.now in
    let a = c.args.area in
    let s = site_of c.args.centre in
    let laws = plane v.map c.requires.centre.plane.valid in
    masks_by (place_at a s) (place_in v.map s c.args.border.edge) 41 c.loop-j.masks (λ n lt. whole_place v.map laws a s c.args.border.edge n c.requires.area.shared.0) (rows_all a s c.rows_of-first.result.0 c.rows_of-first.result.1 c.loop-j.j c.loop-j.masks c.rows_of-first.ensures (omega (arith, c.loop-j-test.false)) c.loop-j.invariant.marks)

pub rows_of-first-requires-clause-y : goal.rows_of-first-requires-clause-y
rows_of-first-requires-clause-y g c =
    let m = c.args.cache.now.map in
    let s = c.requires.centre.plane.valid.sizes in
    let high = size_low m.ty m.h s.ty_high s.h_high in
    omega (arith, c.requires.centre.plane.y, high)
