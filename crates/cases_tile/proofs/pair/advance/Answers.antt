use Rattle.std.proofs.Common.{◌≡◌, ◌<◌, ℕ, ap, sym, ◌∙◌, subst}
use Rattle.edge_lock.specs.EndLists.{EndLists}
use Rattle.edge_lock.specs.PlainBoard.{lists_on, lists_of_tile, acting_end}
use Rattle.edge_lock.proofs.PlainKept.{acting_stays}
use Rattle.cell_grid.specs.Tried.{after_turn}
use Rattle.tile_map.specs.Plane.{MapValue, tiles_of}
use Rattle.border_cache.specs.Copies.{IsEndOf}
use Rattle.tile_core.specs.Underway.{tile_at, GoesOn, IsSome}
use Rattle.tile_core.proofs.Boards.{board_end, board_moved, board_turned, lists_turned, others_stay}
use Rattle.cases_tile.proofs.pair.advance.Goals as goal

pub advance-requires-clause-board : goal.advance-requires-clause-board
advance-requires-clause-board c =
    let m = c.args.map.now in
    let t = c.args.tile.now.core in
    let b = c.turn_to.new.self in
    let acting : b.acting ≡ t.number = c.turn_to.ensures.acting ∙ c.number.ensures in
    let lt : b.acting < tiles_of m = subst (λ n. n < tiles_of m) (sym acting) c.requires.tile.underway.2.can.inside in
    let end = board_end m b (board_turned m c.args.board.now.board b c.turn_to.ensures.edges c.requires.board) lt in
    subst (λ (x : MapValue × ℕ). IsEndOf x.0 x.1 (acting_end b)) (λ i. (sym c.requires.tile.map i, acting i)) end

pub advance-requires-clause-underway : goal.advance-requires-clause-underway
advance-requires-clause-underway c =
    let t = c.args.tile.now.core in
    let b = c.turn_to.new.self in
    let acting : b.acting ≡ t.number = c.turn_to.ensures.acting ∙ c.number.ensures in
    let lists : lists_of_tile c.args.board.now.board t.number ≡ lists_on b = sym (lists_turned c.args.board.now.board b t.number c.turn_to.ensures.edges) ∙ ap (lists_of_tile b) (sym acting) in
    subst (λ (x : MapValue × (ℕ → EndLists)). IsSome x.0 after_turn t x.1) (λ i. (sym c.requires.tile.map i, lists i)) c.requires.tile.underway

pub returns-clause-board : goal.returns-clause-board
returns-clause-board c =
    let m = c.args.map.now in
    let b = c.turn_to.new.self in
    board_moved m b c.advance.new.board.board c.advance.ensures.moved (board_turned m c.args.board.now.board b c.turn_to.ensures.edges c.requires.board)

pub returns-clause-tile : goal.returns-clause-tile
returns-clause-tile c =
    let m = c.args.map.now in
    let t = c.args.tile.now.core in
    let new = c.advance.new.self.core in
    let b = c.turn_to.new.self in
    let d = c.advance.new.board.board in
    let e = c.advance.ensures in
    let acting : b.acting ≡ t.number = c.turn_to.ensures.acting ∙ c.number.ensures in
    let lists : lists_of_tile c.args.board.now.board t.number ≡ lists_on b = sym (lists_turned c.args.board.now.board b t.number c.turn_to.ensures.edges) ∙ ap (lists_of_tile b) (sym acting) in
    let u = subst (λ l. IsSome m after_turn t l) lists c.requires.tile.underway in
    let on = subst (λ k. GoesOn k after_turn (tile_at t (lists_on b)) (tile_at new (lists_on d))) c.requires.tile.map e.on in
    let own : d.acting ≡ new.number = acting_stays b d e.moved ∙ (acting ∙ sym e.number) in
    record {
      map = e.map ∙ c.requires.tile.map;
      underway = subst (λ n. IsSome m after_turn new (lists_of_tile d n)) own (u.0, u.1, (on u.0 u.1 u.2).0);
    }

pub returns-clause-others : goal.returns-clause-others
returns-clause-others c = λ other apart on.
    let m = c.args.map.now in
    let old = c.args.board.now.board in
    let b = c.turn_to.new.self in
    let d = c.advance.new.board.board in
    let u = on.underway in
    let acting : b.acting ≡ c.args.tile.now.core.number = c.turn_to.ensures.acting ∙ c.number.ensures in
    let turned = subst (λ l. IsSome m after_turn other l) (sym (lists_turned old b other.number c.turn_to.ensures.edges)) u in
    let k = board_turned m old b c.turn_to.ensures.edges c.requires.board in
    record {
      map = on.map;
      underway = (turned.0, turned.1, (others_stay m after_turn turned.0 turned.1 other b d k c.advance.ensures.moved (λ same. apart (same ∙ acting)) turned.2).0);
    }
