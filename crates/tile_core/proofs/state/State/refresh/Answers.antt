use Rattle.std.proofs.Common.{refl, sym, ap, subst, inl, inr, arith}
use Rattle.border_cache.specs.Copies.{IsEndOf}
use Rattle.border_cache.proofs.Stored.{end_stays}
use Rattle.tile_core.specs.Kept.{left_window, until_written, value_of}
use Rattle.tile_core.specs.declared.phase.Phase.TheVariants.{Worn}
use Rattle.tile_core.specs.Steps.{tile_after_refresh}
use Rattle.std.proofs.Common.{◌++◌}
use Rattle.tile_core.specs.Clocks.{ReadsClocks}
use Rattle.tile_core.specs.Underway.{no_access}
use Rattle.tile_core.proofs.Refreshing.{refreshing, after_clocks, open_held}
use Rattle.tile_core.proofs.Ready.{had_all}
use Rattle.tile_core.proofs.state.State.refresh.Goals as goal

pub read_clocks-greatest-requires-clause-had : goal.read_clocks-greatest-requires-clause-had
read_clocks-greatest-requires-clause-had g c =
    let q = c.requires.phase in
    let t = value_of c.args.self.now in
    let m = c.args.map.now in
    let a = (g.D.Board.end c.args.board.now).lists in
    had_all m t.number (g.D.Board.end c.args.board.now) c.requires.board t.needs q.4.needs.ends t refl q.4.turns no_access a (refreshing m q.0 q.1 q.2 t a q.4 q.3).1

pub refresh-requires-clause-held : goal.refresh-requires-clause-held
refresh-requires-clause-held g c =
    let q = c.requires.phase in
    let t = value_of c.args.self.now in
    let m = c.args.map.now in
    let a = (g.D.Board.end c.args.board.now).lists in
    let b = (g.D.Board.end c.read_clocks-greatest.new.board).lists in
    let r = subst (λ n. ReadsClocks t.needs n c.read_clocks-greatest.result a b) c.from.ensures c.read_clocks-greatest.ensures.read in
    open_held m t q.4.turns t.needs (λ e. no_access e ++ r.more e) b q.4.needs.ends (after_clocks m q.0 q.1 q.2 t a q.4 q.3 b c.read_clocks-greatest.result r)

pub returns-clause-refreshes : goal.returns-clause-refreshes
returns-clause-refreshes g c =
    let s = c.args.self.now in
    let t = value_of s in
    let window = ap (λ p. until_written p (left_window s)) c.requires.phase.3 in
    let a = (g.D.Board.end c.args.board.now).lists in
    let b = (g.D.Board.end c.read_clocks-greatest.new.board).lists in
    record {
      top = c.read_clocks-greatest.result;
      between = b;
      clocks = subst (λ n. ReadsClocks t.needs n c.read_clocks-greatest.result a b) c.from.ensures c.read_clocks-greatest.ensures.read;
      step = inr (record { low = c.if-greatest-ge-LAST_STAMP.false; cells = c.refresh.ensures.refreshed; is = λ i. record (tile_after_refresh t c.read_clocks-greatest.result c.refresh.new.self) { window = sym window i } });
    }

pub refresh-requires-clause-board : goal.refresh-requires-clause-board
refresh-requires-clause-board g c =
    let t = value_of c.args.self.now in
    let u = c.requires.phase.4 in
    let end = g.D.Board.end c.read_clocks-greatest.new.board in
    subst (λ m. IsEndOf m t.cache.tile end) (sym u.map) (end_stays c.args.map.now t.number t.cache.tile (g.D.Board.end c.args.board.now) end u.owner c.read_clocks-greatest.ensures.same c.requires.board)

pub read_clocks-greatest-requires-clause-rising : goal.read_clocks-greatest-requires-clause-rising
read_clocks-greatest-requires-clause-rising g c = c.requires.phase.4.needs.rising

pub returns-then-greatest-ge-LAST_STAMP-clause-refreshes : goal.returns-then-greatest-ge-LAST_STAMP-clause-refreshes
returns-then-greatest-ge-LAST_STAMP-clause-refreshes g c =
    let s = c.args.self.now in
    let t = value_of s in
    let window = ap (λ p. until_written p (left_window s)) c.requires.phase.3 in
    let a = (g.D.Board.end c.args.board.now).lists in
    let b = (g.D.Board.end c.read_clocks-greatest.new.board).lists in
    record {
      top = c.read_clocks-greatest.result;
      between = b;
      clocks = subst (λ n. ReadsClocks t.needs n c.read_clocks-greatest.result a b) c.from.ensures c.read_clocks-greatest.ensures.read;
      step = inl (record { high = c.if-greatest-ge-LAST_STAMP.true; lists_are = refl; is = λ i. record t { phase = Worn; window = sym window i } });
    }

pub overflow_add-self : goal.overflow_add-self
overflow_add-self g c = record { fits = omega (arith, c.if-greatest-ge-LAST_STAMP.false) }
