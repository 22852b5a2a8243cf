use Rattle.std.proofs.Common.{◌≡◌, ℕ, true, sym, ◌∙◌, subst}
use Rattle.tile_map.specs.Plane.{MapValue}
use Rattle.tile_map.specs.Edges.{has_end}
use Rattle.edge_lock.specs.PlainBoard.{lists_on}
use Rattle.cell_grid.specs.Tried.{after_turn}
use Rattle.cases_tile.proofs.Plane.{first_grid, no_end, nothing_yet}
use Rattle.cases_tile.proofs.alone.lonely.Goals as goal

pub new-requires-4-clause-start : goal.new-requires-4-clause-start
new-requires-4-clause-start c = first_grid c.args.map.now c.in_ok-start.start c.set.new.self _ c.requires.map c.in_ok-start.ensures c.set.ensures

pub returns : goal.returns
returns c =
    let m = c.args.map.now in
    let b = c.args.board.now in
    let r = c.requires in
    let f = c.in_ok-tile.ensures.fresh in
    let t = c.in_ok-tile.tile.core in
    let none : (e : ℕ) → has_end m t.number e ≡ true → ⊥ = λ e h. no_end e (subst (λ (x : MapValue × ℕ). has_end x.0 x.1 e ≡ true) (λ j. (r.map j, f.number j)) h) in
    record {
      map = f.map;
      end = record { tile_is = r.acting ∙ sym f.number; registers_are = λ e h. absurd (none e h); end_is = λ e h. absurd (none e h) };
      underway = (_, _, f.underway after_turn (lists_on b) (λ e own. nothing_yet b r.acting r.edges e));
    }
