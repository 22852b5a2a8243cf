use Rattle.std.proofs.Common.{◌≡◌, ℕ, false, sym, ap, ◌∙◌, subst}
use Rattle.window_sites.specs.Window.{WindowValue}
use Rattle.tile_map.specs.Plane.{MapValue}
use Rattle.border_cache.specs.Copies.{IsEndOf}
use Rattle.border_cache.proofs.Stored.{end_stays}
use Rattle.tile_core.specs.Turns.{common}
use Rattle.tile_core.specs.Underway.{IsUnderway, GoesOn, tile_at}
use Rattle.tile_core.specs.Steps.{StepsIn, is_over, rules_of}
use Rattle.tile_core.proofs.Advance.{same_taken}
use Rattle.tile_core.proofs.Falls.{steps_fall}
use Rattle.edge_lock.proofs.BoardLaws.{same_end}
use Rattle.tile_core.proofs.tile.Tile.attempt_whole.Goals as goal

pub loop-phase-init : goal.loop-phase-init
loop-phase-init g c =
    let e = c.attempt-phase.ensures in
    record {
      far = e.far;
      taken = e.taken;
      phase = e.phase;
      number = e.number;
      map = e.map;
      meaning = e.meaning;
      same = e.same;
      moved = e.moved;
    }

pub loop-phase-smaller : goal.loop-phase-smaller
loop-phase-smaller g c =
    let v = c.args.self.now in
    let x = c.loop-phase.self in
    let y = c.advance-phase.new.self in
    let i = c.loop-phase.invariant in
    let b = (g.D.Board.end c.loop-phase.board).lists in
    let d = (g.D.Board.end c.advance-phase.new.board).lists in
    let end_of = (g.D.Board.end c.loop-phase.board).end_of in
    let q = c.requires.underway in
    let s = subst (λ (p : MapValue × (WindowValue → ℕ → WindowValue)). StepsIn (rules_of p.0 p.1 end_of) (tile_at x.core b) (tile_at y.core d) x.core.phase) (λ j. (i.map j, i.meaning j)) c.advance-phase.ensures.step in
    let on : is_over x.core.phase ≡ false = ap is_over (sym i.phase) ∙ (sym c.is_over.ensures ∙ c.loop-phase-test.true) in
    steps_fall v.core.cache.map (g.B.Behave.after v.behave) q.0 q.1 x.core b (i.far q.0 q.1 q.2) end_of y.core d on s

pub loop-phase-preserved : goal.loop-phase-preserved
loop-phase-preserved g c =
    let x = c.loop-phase.self in
    let y = c.advance-phase.new.self in
    let i = c.loop-phase.invariant in
    let b = (g.D.Board.end c.loop-phase.board).lists in
    let d = (g.D.Board.end c.advance-phase.new.board).lists in
    let e = c.advance-phase.ensures in
    let goes = subst (λ (p : MapValue × (WindowValue → ℕ → WindowValue)). GoesOn p.0 p.1 (tile_at x.core b) (tile_at y.core d)) (λ j. (i.map j, i.meaning j)) e.on in
    let on : is_over x.core.phase ≡ false = ap is_over (sym i.phase) ∙ (sym c.is_over.ensures ∙ c.loop-phase-test.true) in
    record {
      far = λ start attempts u. (goes start attempts (i.far start attempts u)).0;
      taken = same_taken x.core.cache.map (g.B.Behave.after x.behave) (g.D.Board.end c.loop-phase.board).end_of x.core y.core b d x.core.phase on e.step ∙ i.taken;
      phase = e.phase;
      number = e.number ∙ i.number;
      map = e.map ∙ i.map;
      meaning = e.meaning ∙ i.meaning;
      same = same_end (g.D.Board.end c.args.board.now) (g.D.Board.end c.loop-phase.board) (g.D.Board.end c.advance-phase.new.board) i.same e.same;
      moved = g.met.D.Board.moved_on c.args.board.now c.loop-phase.board c.advance-phase.new.board i.moved e.moved;
    }

pub advance-phase-requires-clause-underway : goal.advance-phase-requires-clause-underway
advance-phase-requires-clause-underway g c =
    let x = c.loop-phase.self in
    let i = c.loop-phase.invariant in
    let q = c.requires.underway in
    (q.0, q.1, subst (λ (p : MapValue × (WindowValue → ℕ → WindowValue)). IsUnderway (common p.0 p.1 q.0) q.1 x.core (g.D.Board.end c.loop-phase.board).lists) (λ j. (sym i.map j, sym i.meaning j)) (i.far q.0 q.1 q.2))

pub advance-phase-requires-clause-board : goal.advance-phase-requires-clause-board
advance-phase-requires-clause-board g c =
    let v = c.args.self.now.core in
    let x = c.loop-phase.self.core in
    let i = c.loop-phase.invariant in
    let end = g.D.Board.end c.loop-phase.board in
    subst (λ m. IsEndOf m x.number end) (sym i.map) (end_stays v.cache.map v.number x.number (g.D.Board.end c.args.board.now) end i.number i.same c.requires.board)
