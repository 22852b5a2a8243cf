-- The news bits of one edge at any moment, by its own history and its two ends alone.
use Rattle.std.proofs.Common.{ℕ, ◌≡◌, ◌<◌, ◌+◌, ◌*◌, ◌%◌, List, [], refl, sym, ap, subst, arith, inl, inr, Bool, true, false, Some, ◌∙◌, ◌==◌}
use Rattle.std.specs.Prelude.{slice_get}
use Rattle.std.specs.Int.{bit_at}
use Rattle.std.proofs.lemmas.Bool.Decides.{nat_tests}
use Rattle.tile_map.specs.Plane.{Site, is_held}
use Rattle.tile_map.specs.Edges.{low_end, high_end, shared_of, has_end}
use Rattle.tile_map.specs.Laws.{IsPlane}
use Rattle.tile_map.proofs.PlaneLaws.{plane}
use Rattle.edge_lock.specs.History.{own, register_value}
use Rattle.edge_lock.specs.EndLists.{EndLists}
use Rattle.border_cache.specs.Cells.{CellValue, cell_of}
use Rattle.border_cache.specs.News.{word_of}
use Rattle.border_cache.specs.Windows.{end_at, sites_on}
use Rattle.tile_core.specs.Values.{TileValue}
use Rattle.tile_core.specs.Turns.{Common, Turn, cells_of, AreTurns}
use Rattle.serial_order.specs.Scene.{EdgeHistory}
use Rattle.serial_order.specs.OneEdge.{HasPlayedOn, EndsHavePlayed, KnowsNewest, NewsHoldsAtAnyMoment}
use Rattle.serial_order.proofs.Lists.{back, snocs}
use Rattle.serial_order.proofs.Ground.{IsEnd, apart}
use Rattle.serial_order.proofs.Histories.{values, values_back, history_back, ends_back, own_back}
use Rattle.serial_order.proofs.Tile.{Played, are_played}
use Rattle.serial_order.proofs.World.{IsRunOn, holds_of, holds_back}
use Rattle.serial_order.proofs.OneEdge.{no_news_on}
use Rattle.serial_order.proofs.Whole.{has_low, has_high, low_is, high_is}

module _ (c : Common) (e : ℕ) (h : EdgeHistory) (lower higher : TileValue) (p : EndsHavePlayed c e h lower higher) where
  laws : IsPlane c.map
  laws = plane c.map p.valid

  rises : low_end c.map e < high_end c.map e
  rises = apart c.map laws e

  -- the turns of the two ends; no other tile matters
  pick : Bool → Bool → List Turn
  pick true b = p.low_played.played.turns
  pick false true = p.high_played.played.turns
  pick false false = []

  turns : ℕ → List Turn
  turns t = pick (low_end c.map e == t) (high_end c.map e == t)

  turns_low : turns (low_end c.map e) ≡ p.low_played.played.turns
  unfolding pick turns
  turns_low =
      let q : (low_end c.map e == low_end c.map e) ≡ true = grind (arith, nat_tests) in
      ap (λ b. pick b (high_end c.map e == low_end c.map e)) q

  turns_high : turns (high_end c.map e) ≡ p.high_played.played.turns
  unfolding pick turns
  turns_high =
      let q : (low_end c.map e == high_end c.map e) ≡ false = grind (arith, nat_tests, rises) in
      let r : (high_end c.map e == high_end c.map e) ≡ true = grind (arith, nat_tests) in
      λ i. pick (q i) (r i)

  played : (t : ℕ) → Played c.map c.meaning c.start t (turns t)
  unfolding pick turns
  played t = go (low_end c.map e == t) (high_end c.map e == t) refl refl
    where
      go : (a b : Bool) → (low_end c.map e == t) ≡ a → (high_end c.map e == t) ≡ b → Played c.map c.meaning c.start t (pick a b)
      go true b is other =
          let same : lower.number ≡ t = p.low_tile ∙ grind (arith, nat_tests, is) in
          are_played c.map c.meaning c.start t p.low_played.played.turns (subst (λ u. AreTurns c u p.low_played.played.turns) same p.low_played.played.each)
      go false true is other =
          let same : higher.number ≡ t = p.high_tile ∙ grind (arith, nat_tests, other) in
          are_played c.map c.meaning c.start t p.high_played.played.turns (subst (λ u. AreTurns c u p.high_played.played.turns) same p.high_played.played.each)
      go false false is other = tt

  -- the holds of an end are those of its tile's turns
  holds_told : (tile : TileValue) (q : HasPlayedOn c e h.holds tile) → has_end c.map tile.number e ≡ true → own (end_at c.map tile.number e) (back h.holds) ≡ holds_of c.map tile.number e q.played.turns
  holds_told tile q end =
      own_back (end_at c.map tile.number e) h.holds
      ∙ (ap back q.here ∙ (ap (λ (l : EndLists). back l.holds) (q.played.lists_are e end) ∙ holds_back c.map tile.number e q.played.turns))

  run : IsRunOn c.map c.meaning c.start turns e (back h.holds)
  run = record {
    plane = laws;
    played = played;
    history = history_back h.holds h.low h.high p.history;
    ends = ends_back h.holds p.history.holds;
    lower =
        let here = holds_told lower p.low_played (subst (λ t. has_end c.map t e ≡ true) (sym p.low_tile) (has_low c.map e)) in
        let end : end_at c.map lower.number e ≡ 0 = ap (λ t. end_at c.map t e) p.low_tile ∙ low_is c.map e in
        ap (λ b. own b (back h.holds)) (sym end) ∙ here ∙ (λ i. holds_of c.map (p.low_tile i) e (sym turns_low i));
    higher =
        let here = holds_told higher p.high_played (subst (λ t. has_end c.map t e ≡ true) (sym p.high_tile) (has_high c.map e)) in
        let end : end_at c.map higher.number e ≡ 1 = ap (λ t. end_at c.map t e) p.high_tile ∙ high_is c.map e rises in
        ap (λ b. own b (back h.holds)) (sym end) ∙ here ∙ (λ i. holds_of c.map (p.high_tile i) e (sym turns_high i));
  }

  registers_same : (r : ℕ) → register_value h.holds r ≡ values (back h.holds) r
  registers_same r = sym (values_back h.holds (snocs h.holds) r)

  -- one end
  knows : (tile : TileValue) (q : HasPlayedOn c e h.holds tile) → IsEnd c.map tile.number e → turns tile.number ≡ q.played.turns
      → ((s : Site) (k : ℕ) → slice_get (shared_of c.map e) k ≡ Some s → is_held c.map tile.number s ≡ true) → KnowsNewest c.map e h.holds tile
  knows tile q end same holds k u at clear =
      let down : (bit_at (values (back h.holds) (word_of (sites_on c.map e) (end_at c.map tile.number e) k)) (k % 64) == 1) ≡ false =
      (λ i. bit_at (sym (registers_same (word_of (sites_on c.map e) (end_at c.map tile.number e) k)) i) (k % 64) == 1) ∙ ap (λ z. z == 1) clear in
      let low = no_news_on c.map c.meaning c.start turns e (back h.holds) run tile.number k u end at down in
      let a : (cell_of (register_value h.holds (1 + 2 * k)) (register_value h.holds (2 + 2 * k))).stamp ≡ (cell_of (values (back h.holds) (1 + 2 * k)) (values (back h.holds) (2 + 2 * k))).stamp =
      λ i. (cell_of (registers_same (1 + 2 * k) i) (registers_same (2 + 2 * k) i)).stamp in
      let b = ap (λ (c : CellValue). c.stamp) (q.cells u (holds u k at)) in
      let d = ap (λ ts. (cells_of c.map c.start ts u).stamp) same in
      omega (arith, low, a, b, d)

  pub both_know : KnowsNewest c.map e h.holds lower × KnowsNewest c.map e h.holds higher
  both_know = (
    knows lower p.low_played (inl (sym p.low_tile)) (ap turns p.low_tile ∙ turns_low) (λ s k at. subst (λ t. is_held c.map t s ≡ true) (sym p.low_tile) (laws.edges.held e k s at).0),
    knows higher p.high_played (inr (sym p.high_tile)) (ap turns p.high_tile ∙ turns_high) (λ s k at. subst (λ t. is_held c.map t s ≡ true) (sym p.high_tile) (laws.edges.held e k s at).1),
  )

pub news_at_any_moment : NewsHoldsAtAnyMoment
news_at_any_moment c e h lower higher p = both_know c e h lower higher p
