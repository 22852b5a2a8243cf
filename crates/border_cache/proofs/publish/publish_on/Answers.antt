use Rattle.std.proofs.Common.{ℕ, ◌≡◌, ◌<◌, ◌++◌, sym, ap, ◌∙◌, subst}
use Rattle.edge_lock.specs.Edges.{registers_of}
use Rattle.tile_map.specs.Laws.{IsPlane}
use Rattle.edge_lock.proofs.BoardLaws.{same_end}
use Rattle.border_cache.specs.Borders.{site_of}
use Rattle.border_cache.specs.News.{AreMasks, Covers, border}
use Rattle.border_cache.specs.Published.{IsPublish}
use Rattle.border_cache.specs.Windows.{end_at, place_in, sites_on}
use Rattle.border_cache.specs.Copies.{window_cells}
use Rattle.border_cache.specs.Shared.{shared_cell}
use Rattle.border_cache.proofs.Runs.{adds_then, held_adds}
use Rattle.border_cache.proofs.Covered.{covered_few}
use Rattle.border_cache.proofs.Puts.{publish_whole}
use Rattle.border_cache.proofs.SharedRuns.{own_cell}
use Rattle.border_cache.proofs.publish.publish_on.Goals as goal

pub put_window-masks-requires-clause-border : goal.put_window-masks-requires-clause-border
put_window-masks-requires-clause-border g c = record { edge = c.requires.edge.known; sites = c.shared-sites.ensures.count }

pub put_window-masks-requires-clause-hold : goal.put_window-masks-requires-clause-hold
put_window-masks-requires-clause-hold g c = record {
  few = c.shared-sites.ensures.few;
  two = c.end_of-end.ensures.small;
  registers = c.requires.edge.registers_on ∙ ap registers_of (sym c.shared-sites.ensures.count);
  held = c.requires.edge.held;
}

pub put_bits-requires-clause-hold : goal.put_bits-requires-clause-hold
put_bits-requires-clause-hold g c =
    let p = c.put_window-masks.ensures.put in
    record {
      few = c.shared-sites.ensures.few;
      two = c.end_of-end.ensures.small;
      registers = ap (λ f. f c.args.edge) c.put_window-masks.ensures.same.1 ∙ (c.requires.edge.registers_on ∙ ap registers_of (sym c.shared-sites.ensures.count));
      held = held_adds (g.D.Board.end c.args.board.now).lists (g.D.Board.end c.put_window-masks.new.board).lists c.args.edge p.0 c.requires.edge.held p.1;
    }

pub returns-clause-published : goal.returns-clause-published
returns-clause-published g c =
    let p = c.put_window-masks.ensures.put in
    let q = c.put_bits.ensures.put in
    let a = (g.D.Board.end c.args.board.now).lists in
    let b = (g.D.Board.end c.put_window-masks.new.board).lists in
    let d = (g.D.Board.end c.put_bits.new.board).lists in
    let e = c.args.edge in
    let v = c.args.cache.now in
    let s = site_of c.args.centre in
    let plane = subst IsPlane c.requires.centre.map c.laws.ensures.plane in
    let places = place_in v.map s e in
    let masks : AreMasks places 41 c.put_window-masks.result = subst (λ m. AreMasks (place_in m s e) 41 c.put_window-masks.result) c.requires.centre.map c.put_window-masks.ensures.masks in
    let count : c.shared-sites.result ≡ sites_on v.map e = subst (λ m. c.shared-sites.result ≡ sites_on m e) c.requires.centre.map c.shared-sites.ensures.count in
    let low : (k : ℕ) → Covers places 41 k → k < c.shared-sites.result = λ k cov. subst (λ n. k < n) (sym count) (covered_few v.map plane s e k cov) in
    let end : c.end_of-end.result ≡ end_at v.map v.tile e = subst (λ m. c.end_of-end.result ≡ end_at m v.tile e) c.requires.centre.map (subst (λ t. c.end_of-end.result ≡ end_at c.args.map.now t e) c.tile.ensures c.end_of-end.ensures.end) in
    let whole = publish_whole c.shared-sites.result c.end_of-end.result 41 (shared_cell v e) (window_cells v s) places p.0 q.0 low (λ j k lt at. own_cell v s e j k at) p.2 (q.2 places 41 masks low) in (
      p.0 ++ q.0,
      adds_then a b d e p.0 q.0 c.requires.edge.held p.1 q.1,
      subst (λ (x : ℕ × ℕ). IsPublish (border x.0 x.1 places 41) (window_cells v s) (p.0 ++ q.0)) (λ i. (count i, end i)) whole,
    )

pub returns-clause-same : goal.returns-clause-same
returns-clause-same g c = same_end (g.D.Board.end c.args.board.now) (g.D.Board.end c.put_window-masks.new.board) (g.D.Board.end c.put_bits.new.board) c.put_window-masks.ensures.same c.put_bits.ensures.same

pub returns-clause-moved : goal.returns-clause-moved
returns-clause-moved g c = g.met.D.Board.moved_on c.args.board.now c.put_window-masks.new.board c.put_bits.new.board c.put_window-masks.ensures.moved c.put_bits.ensures.moved
