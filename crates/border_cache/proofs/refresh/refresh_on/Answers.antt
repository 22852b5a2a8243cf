use Rattle.std.proofs.Common.{List, ℕ, ◌≡◌, ◌<◌, [], sym, ap, ◌∙◌, subst, arith}
use Rattle.std.proofs.lemmas.List.{append-nil}
use Rattle.edge_lock.specs.Edges.{registers_of}
use Rattle.edge_lock.proofs.BoardLaws.{same_end}
use Rattle.edge_lock.specs.declared.history.Access.{Access}
use Rattle.edge_lock.specs.EndValues.{EndValue}
use Rattle.tile_map.specs.Plane.{Site}
use Rattle.tile_map.specs.Laws.{IsPlane}
use Rattle.border_cache.specs.declared.border.Border.{Border}
use Rattle.border_cache.specs.Borders.{IsBorderOf, IsOpen, site_of}
use Rattle.border_cache.specs.Accesses.{Adds, AddsSome}
use Rattle.border_cache.specs.News.{AreMasks, AreNewsRead, IsNewsRead, NewsIn, border}
use Rattle.border_cache.specs.Windows.{border_at, end_at, place_in, sites_on}
use Rattle.border_cache.specs.Copies.{CacheValue}
use Rattle.border_cache.specs.Shared.{IsInWindowOf, TakesNews}
use Rattle.border_cache.proofs.Runs.{held_adds, adds_then}
use Rattle.border_cache.proofs.Covered.{covered_few}
use Rattle.border_cache.proofs.Refreshes.{clear_bits}
use Rattle.border_cache.proofs.Taken.{refreshes_edge, takes_none}
use Rattle.border_cache.proofs.refresh.refresh_on.Goals as goal

-- the reads of the news words, for the window's places
news_read : (v : CacheValue) (c : Site) (e n end : ℕ) (masks news : List ℕ) (xs : List Access) → IsPlane v.map → n ≡ sites_on v.map e → end ≡ end_at v.map v.tile e → AreMasks (place_in v.map c e) 41 masks → AreNewsRead n end masks news xs
    → IsNewsRead (border_at v.map v.tile c e) news xs
news_read v c e n end masks news xs plane count is m r =
    subst (λ (x : ℕ × ℕ). IsNewsRead (border x.0 x.1 (place_in v.map c e) 41) news xs) (λ i. (count i, is i)) (r (place_in v.map c e) 41 m (λ k cov. subst (λ q. k < q) (sym count) (covered_few v.map plane c e k cov)))

-- what was taken of the news for one end was taken of those for the same end
taken : (v : CacheValue) (c : Site) (words : List ℕ) (new : CacheValue) (a b : EndValue) (x y : Border) → x ≡ y → AddsSome x.edge (TakesNews (record { border = x; words = words }) (IsInWindowOf v.map c x.edge) v new) a b → AddsSome y.edge (TakesNews (record { border = y; words = words }) (IsInWindowOf v.map c y.edge) v new) a b
taken v c words new a b x y is = subst (λ z. AddsSome z.edge (TakesNews (record { border = z; words = words }) (IsInWindowOf v.map c z.edge) v new) a b) is

pub read_news-news-requires-clause-hold : goal.read_news-news-requires-clause-hold
read_news-news-requires-clause-hold g c = record {
  few = c.shared-sites.ensures.few;
  two = c.end_of-end.ensures.small;
  registers = c.requires.edge.registers_on ∙ ap registers_of (sym c.shared-sites.ensures.count);
  held = c.requires.edge.held;
}

pub take_news-requires-clause-border : goal.take_news-requires-clause-border
take_news-requires-clause-border g c = subst (IsBorderOf c.args.map.now) (sym c.read_news-news.ensures.border) (record { edge = c.requires.edge.known; sites = c.shared-sites.ensures.count })

pub take_news-requires-clause-hold : goal.take_news-requires-clause-hold
take_news-requires-clause-hold g c =
    let q = c.read_news-news.ensures.read in
    subst (IsOpen (g.D.Board.end c.read_news-news.new.board)) (sym c.read_news-news.ensures.border) (record {
      few = c.shared-sites.ensures.few;
      two = c.end_of-end.ensures.small;
      registers = ap (λ f. f c.args.edge) c.read_news-news.ensures.same.1 ∙ (c.requires.edge.registers_on ∙ ap registers_of (sym c.shared-sites.ensures.count));
      held = held_adds (g.D.Board.end c.args.board.now).lists (g.D.Board.end c.read_news-news.new.board).lists c.args.edge q.0 c.requires.edge.held q.1;
    })

pub returns-clause-refreshes : goal.returns-clause-refreshes
returns-clause-refreshes g c =
    let v = c.args.cache.now in
    let s = site_of c.args.centre in
    let e = c.args.edge in
    let p = c.read_news-news.ensures.read in
    let news = c.read_news-news.result.words in
    let q = taken v s news c.take_news.new.cache (g.D.Board.end c.read_news-news.new.board) (g.D.Board.end c.take_news.new.board) c.read_news-news.result.border _ c.read_news-news.ensures.border c.take_news.ensures.read in
    let a = (g.D.Board.end c.args.board.now).lists in
    let b = (g.D.Board.end c.read_news-news.new.board).lists in
    let d = (g.D.Board.end c.take_news.new.board).lists in
    let plane = subst IsPlane c.requires.centre.map c.laws.ensures.plane in
    let masks = subst (λ m. AreMasks (place_in m s e) 41 c.masks_of-masks.result) c.requires.centre.map c.masks_of-masks.ensures.masks in
    let count = subst (λ m. c.shared-sites.result ≡ sites_on m e) c.requires.centre.map c.shared-sites.ensures.count in
    let end = subst (λ m. c.end_of-end.result ≡ end_at m v.tile e) c.requires.centre.map (subst (λ t. c.end_of-end.result ≡ end_at c.args.map.now t e) c.tile.ensures c.end_of-end.ensures.end) in
    let read = news_read v s e c.shared-sites.result c.end_of-end.result c.masks_of-masks.result news p.0 plane count end masks p.2 in
    refreshes_edge s e news v c.take_news.new.cache p.0 q.0 plane c.requires.centre.holds read q.2 a d (adds_then a b d e p.0 q.0 c.requires.edge.held p.1 q.1)

pub returns-then-are_clear-clause-refreshes : goal.returns-then-are_clear-clause-refreshes
returns-then-are_clear-clause-refreshes g c =
    let v = c.args.cache.now in
    let s = site_of c.args.centre in
    let e = c.args.edge in
    let p = c.read_news-news.ensures.read in
    let news = c.read_news-news.result.words in
    let a = (g.D.Board.end c.args.board.now).lists in
    let b = (g.D.Board.end c.read_news-news.new.board).lists in
    let plane = subst IsPlane c.requires.centre.map c.laws.ensures.plane in
    let masks = subst (λ m. AreMasks (place_in m s e) 41 c.masks_of-masks.result) c.requires.centre.map c.masks_of-masks.ensures.masks in
    let count = subst (λ m. c.shared-sites.result ≡ sites_on m e) c.requires.centre.map c.shared-sites.ensures.count in
    let end = subst (λ m. c.end_of-end.result ≡ end_at m v.tile e) c.requires.centre.map (subst (λ t. c.end_of-end.result ≡ end_at c.args.map.now t e) c.tile.ensures c.end_of-end.ensures.end) in
    let read = news_read v s e c.shared-sites.result c.end_of-end.result c.masks_of-masks.result news p.0 plane count end masks p.2 in
    let clear = clear_bits news (sym c.are_clear.ensures ∙ c.if-are_clear.true) in
    let none = takes_none e (NewsIn news (IsInWindowOf v.map s e)) v (λ k h. let zero = clear k in omega (arith, zero, h.1)) in
    refreshes_edge s e news v v p.0 [] plane c.requires.centre.holds read none a b (subst (Adds a b e) (sym (append-nil p.0)) p.1)

pub returns-clause-same : goal.returns-clause-same
returns-clause-same g c = same_end (g.D.Board.end c.args.board.now) (g.D.Board.end c.read_news-news.new.board) (g.D.Board.end c.take_news.new.board) c.read_news-news.ensures.same c.take_news.ensures.same

pub returns-clause-moved : goal.returns-clause-moved
returns-clause-moved g c = g.met.D.Board.moved_on c.args.board.now c.read_news-news.new.board c.take_news.new.board c.read_news-news.ensures.moved c.take_news.ensures.moved
