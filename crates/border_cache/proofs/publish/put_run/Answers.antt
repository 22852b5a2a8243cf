use Rattle.std.proofs.Common.{rules, arith, ◌≡◌, ◌+◌, ◌-◌, ◌⊎◌, ℕ, [], ◌++◌, subst, ◌∙◌}
use Rattle.border_cache.specs.Published.{IsCellPut, PutsAt}
use Rattle.border_cache.specs.Shared.{IsInRun, shared_cell}
use Rattle.border_cache.proofs.Open.{open_adds}
use Rattle.border_cache.proofs.Runs.{adds_none, adds_then}
use Rattle.border_cache.proofs.Written.{puts_none, puts_one, puts_both, puts_same}
use Rattle.border_cache.proofs.SharedRuns.{run_begins, run_or, or_run, run_cell, run_place}
use Rattle.edge_lock.proofs.BoardLaws.{same_end, same_end_here}
use Rattle.border_cache.proofs.publish.put_run.Goals as goal

pub loop-x-init : goal.loop-x-init
loop-x-init g c = record {
  put = ([], adds_none (g.D.Board.end c.args.board.now).lists c.args.border.edge, puts_none (IsInRun c.args.run c.args.run.west) (shared_cell c.args.cache.now c.args.border.edge) (run_begins c.args.run));
  same = same_end_here (g.D.Board.end c.args.board.now);
  moved = search rules;
}

pub overflow_add-place : goal.overflow_add-place
overflow_add-place g c =
    let r = c.args.run in
    let lt = run_place c.args.cache.now c.args.border.edge r c.loop-x.x c.requires.run c.loop-x.auto.x c.loop-x-test.true in
    omega (arith, lt, c.requires.border.sites, c.requires.hold.few)

pub put_cell-requires-clause-place : goal.put_cell-requires-clause-place
put_cell-requires-clause-place g c =
    let r = c.args.run in
    let lt = run_place c.args.cache.now c.args.border.edge r c.loop-x.x c.requires.run c.loop-x.auto.x c.loop-x-test.true in
    omega (arith, lt, c.requires.border.sites)

pub put_cell-requires-clause-hold : goal.put_cell-requires-clause-hold
put_cell-requires-clause-hold g c =
    let r = c.loop-x.invariant.put in
    open_adds (g.D.Board.end c.args.board.now) (g.D.Board.end c.loop-x.board) c.args.border r.0 c.requires.hold c.loop-x.invariant.same r.1

pub at-requires : goal.at-requires
at-requires g c = c.requires.run.held c.loop-x.x c.loop-x.auto.x c.loop-x-test.true

pub loop-x-preserved : goal.loop-x-preserved
loop-x-preserved g c =
    let i = c.loop-x.invariant in
    let p = i.put in
    let q = c.put_cell.ensures.put in
    let a = (g.D.Board.end c.args.board.now).lists in
    let b = (g.D.Board.end c.loop-x.board).lists in
    let d = (g.D.Board.end c.put_cell.new.board).lists in
    let e = c.args.border.edge in
    let v = c.args.cache.now in
    let r = c.args.run in
    let x = c.loop-x.x in
    let k : ℕ = r.start + (x - r.west) in
    let low = c.loop-x.auto.x in
    let cell = shared_cell v e in
    let own = subst (λ y. IsCellPut y k q.0) (c.at.ensures ∙ run_cell v e r x c.requires.run low c.loop-x-test.true) q.2 in
    record {
      put = (
        p.0 ++ q.0,
        adds_then a b d e p.0 q.0 c.requires.hold.held p.1 q.1,
        puts_same (λ j. IsInRun r x j ⊎ (j ≡ k)) (IsInRun r (x + 1)) cell (p.0 ++ q.0) (or_run r x low) (run_or r x low) (puts_both (IsInRun r x) (λ j. j ≡ k) cell p.0 q.0 p.2 (puts_one cell k q.0 own)),
      );
      same = same_end (g.D.Board.end c.args.board.now) (g.D.Board.end c.loop-x.board) (g.D.Board.end c.put_cell.new.board) i.same c.put_cell.ensures.same;
      moved = search rules;
    }

pub returns-clause-put : goal.returns-clause-put
returns-clause-put g c =
    let p = c.loop-x.invariant.put in
    let some = c.requires.run.some in
    let all : c.loop-x.x ≡ c.args.run.east = omega (arith, c.loop-x-test.false, c.loop-x.auto.x-end, some) in
    (p.0, p.1, subst (λ x. PutsAt (IsInRun c.args.run x) (shared_cell c.args.cache.now c.args.border.edge) p.0) all p.2)
