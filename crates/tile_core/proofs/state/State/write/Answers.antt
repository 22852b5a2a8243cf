use Rattle.std.proofs.Common.{ℕ, ◌≡◌, List, true, refl, sym, ap, ◌∙◌, subst}
use Rattle.edge_lock.specs.EndLists.{IsHeld}
use Rattle.std.specs.List.Sorted.{IsStrictlyIncreasing}
use Rattle.tile_map.specs.Plane.{MapValue, site}
use Rattle.edge_lock.proofs.BoardLaws.{same_end}
use Rattle.border_cache.specs.Copies.{IsEndOf, Marked, window_cells}
use Rattle.border_cache.specs.Windows.{has, centre_of, AddsAll, PublishesAll}
use Rattle.tile_core.specs.declared.state.State.{State}
use Rattle.tile_core.specs.Kept.{at, left_window, until_written, value_of}
use Rattle.tile_core.specs.Steps.{Writes, tile_after_event}
use Rattle.tile_core.specs.Underway.{tile_at}
use Rattle.std.proofs.Common.{◌++◌}
use Rattle.std.specs.Prelude.{All}
use Rattle.tile_core.specs.Clocks.{IsHad, WritesClocks}
use Rattle.tile_core.proofs.Lists.{open_more}
use Rattle.tile_core.proofs.Refreshing.{open_held}
use Rattle.tile_core.proofs.Writes.{writing}
use Rattle.tile_core.proofs.Ready.{had_all}
use Rattle.tile_core.proofs.state.State.write.Goals as goal

pub publish-requires-clause-held : goal.publish-requires-clause-held
publish-requires-clause-held g c =
    let q = c.requires.phase in
    let t = value_of c.args.self.now in
    let m = c.args.map.now in
    let a = (g.D.Board.end c.args.board.now).lists in
    let p = writing m q.0 q.1 q.2 t a q.4 q.3 in
    let needs = ap (λ (s : State). s.needs) c.mark.ensures.rest in
    subst (λ es. (e : ℕ) → has e es ≡ true → IsHeld (a e)) (sym needs) (open_held m t q.4.turns t.needs p.1.0 a q.4.needs.ends p.1.1)

pub write_clocks-requires-clause-had : goal.write_clocks-requires-clause-had
write_clocks-requires-clause-had g c =
    let q = c.requires.phase in
    let t = value_of c.args.self.now in
    let m = c.args.map.now in
    let a = (g.D.Board.end c.args.board.now).lists in
    let b = (g.D.Board.end c.publish.new.board).lists in
    let p = writing m q.0 q.1 q.2 t a q.4 q.3 in
    let r = c.publish.ensures.published in
    let needs = ap (λ (s : State). s.needs) c.mark.ensures.rest in
    let adds = subst (λ es. AddsAll a b es r.more) needs r.adds in
    subst (λ es. All (IsHad (g.D.Board.end c.publish.new.board).registers b) es) (sym needs) (subst (λ f. All (IsHad f b) t.needs) (sym c.publish.ensures.same.1)
    (had_all m t.number (g.D.Board.end c.args.board.now) c.requires.board t.needs q.4.needs.ends t refl q.4.turns (λ e. p.1.0 e ++ r.more e) b
    (open_more m t q.4.turns t.needs p.1.0 r.more a b p.1.1 adds)))

pub returns-clause-writes : goal.returns-clause-writes
returns-clause-writes g c =
    let q = c.requires.phase in
    let m = c.args.map.now in
    let s = c.args.self.now in
    let k = c.mark.new.self in
    let rest = c.mark.ensures.rest in
    let marked = c.mark.ensures.marked in
    let a = (g.D.Board.end c.args.board.now).lists in
    let b = (g.D.Board.end c.publish.new.board).lists in
    let d = (g.D.Board.end c.write_clocks.new.board).lists in
    let plane : k.cache.map ≡ m = marked.differs.map ∙ q.4.map in
    let owner : k.cache.tile ≡ s.number = marked.differs.tile ∙ q.4.owner in
    let column = ap (λ (t : State). t.x) rest in
    let row = ap (λ (t : State). t.y) rest in
    let needs = ap (λ (t : State). t.needs) rest in
    let stamp = ap (λ (t : State). t.event_stamp) rest in
    subst (λ t. Writes m (at s (g.D.Board.end c.args.board.now)) (tile_at t d)) (sym (c.note_event.ensures.noted ∙ ap (λ (t : State). tile_after_event (value_of t)) rest)) (record {
      between = b;
      marks = subst (λ p. Marked (site s.x s.y) (until_written p (left_window s)) s.event_stamp s.cache k.cache) (sym q.3) marked;
      publishes = subst (λ (z : MapValue × ℕ × ℕ × ℕ × List ℕ). PublishesAll (centre_of z.0 z.1 (site z.2 z.3)) z.4 (window_cells k.cache (site z.2 z.3)) a b) (λ i. (plane i, owner i, column i, row i, needs i)) c.publish.ensures.published;
      stamps = subst (λ (z : List ℕ × ℕ). WritesClocks z.0 z.1 b d) (λ i. (needs i, (c.from.ensures ∙ stamp) i)) c.write_clocks.ensures.written;
      is = refl;
    })

pub publish-requires-clause-board : goal.publish-requires-clause-board
publish-requires-clause-board g c =
    let u = c.requires.phase.4 in
    let differs = c.mark.ensures.marked.differs in
    subst (λ (z : MapValue × ℕ). IsEndOf z.0 z.1 (g.D.Board.end c.args.board.now)) (λ i. (sym (differs.map ∙ u.map) i, sym (differs.tile ∙ u.owner) i)) c.requires.board

pub write_clocks-requires-clause-rising : goal.write_clocks-requires-clause-rising
write_clocks-requires-clause-rising g c = subst IsStrictlyIncreasing (sym (ap (λ (s : State). s.needs) c.mark.ensures.rest)) c.requires.phase.4.needs.rising

pub returns-clause-moved : goal.returns-clause-moved
returns-clause-moved g c = g.met.D.Board.moved_on c.args.board.now c.publish.new.board c.write_clocks.new.board c.publish.ensures.moved c.write_clocks.ensures.moved

pub returns-clause-same : goal.returns-clause-same
returns-clause-same g c = same_end (g.D.Board.end c.args.board.now) (g.D.Board.end c.publish.new.board) (g.D.Board.end c.write_clocks.new.board) c.publish.ensures.same c.write_clocks.ensures.same
