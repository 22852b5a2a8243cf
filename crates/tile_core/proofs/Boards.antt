-- Tiles whose ends act in turn on the board of one thread.
use Rattle.std.proofs.Common.{◌≡◌, ◌≢◌, ℕ, zero, suc, ◌+◌, ◌<◌, ◌≤◌, eqb, Bool, true, false, cond, true≢false, List, [], ◌∷◌, length, get_or, map, refl, sym, ap, ◌∙◌, subst, arith, length-set}
use Rattle.std.specs.Prelude.{◌||◌, nat_lt, All}
use Rattle.std.proofs.lemmas.Bool.Decides.{nat_tests}
use Rattle.std.proofs.lemmas.List.{get_or-map, get_or_past, get_or_default, length-map}
use mathlib.Core.Logic.{dite}
use native.Mathlib.Decide.{ℕ_discrete}
use Rattle.bit_field.specs.Atom.{AtomValue}
use Rattle.window_sites.specs.Window.{WindowValue}
use Rattle.edge_lock.specs.Edges.{EdgeSize, registers_of, pair_size, sizes_of}
use Rattle.tile_map.specs.Plane.{Site, MapValue, tiles_of}
use Rattle.tile_map.specs.Edges.{pairs_of, pair_at, has_end, is_in_pair}
use Rattle.draw_stream.specs.declared.attempt.Attempt.{Attempt}
use Rattle.edge_lock.specs.EndLists.{EndLists, end_lists}
use Rattle.edge_lock.specs.PlainEdges.{PlainEdgeValue, own_lists}
use Rattle.edge_lock.specs.PlainBoard.{PlainBoardValue, no_edge, edge_at, is_end, end_of, acting_end, end_on, lists_of_tile, untouched_edge, Call, MayCall, effect_of, IsCall, Moved, stays, goes, IsKeptEdge}
use Rattle.edge_lock.proofs.PlainLaws.{end_small, sees, effect_ends}
use Rattle.edge_lock.proofs.PlainKept.{kept_effect, other_tiles_keep}
use Rattle.edge_lock.proofs.PlainRules.{kept_none}
use Rattle.border_cache.specs.Windows.{end_at, sites_on}
use Rattle.border_cache.specs.Copies.{IsEndOf}
use Rattle.tile_core.specs.declared.phase.Phase.{Phase}
use Rattle.tile_core.specs.declared.phase.Phase.TheVariants.{Draw, Lock, Refresh, Behave, Write, Give, Back, Finished, Worn}
use Rattle.tile_core.specs.Values.{TileValue}
use Rattle.tile_core.specs.Turns.{Turn, AgreeOnEdges, common}
use Rattle.tile_core.specs.Underway.{IsUnderway, InPhase, IsGiving, IsFreshTile, tile_at}
use Rattle.tile_core.specs.Boards.{IsEdgeOf, IsBoardOf}

-- an edge of a tile of the plane is one of the plane's edges
pub end_known : (m : MapValue) (t e : ℕ) → t < tiles_of m → has_end m t e ≡ true → e < length (pairs_of m)
end_known m t e lt h = go (nat_lt e (length (pairs_of m))) refl
  where
    go : (b : Bool) → nat_lt e (length (pairs_of m)) ≡ b → e < length (pairs_of m)
    go true is = grind (arith, nat_tests, is)
    go false is =
        let past : length (pairs_of m) ≤ e = grind (arith, nat_tests, is) in
        let low : eqb (tiles_of m) t ≡ false = grind (arith, nat_tests, lt) in
        let high : eqb (tiles_of m + 1) t ≡ false = grind (arith, nat_tests, lt) in
        absurd (true≢false (sym h ∙ (ap (is_in_pair t) (get_or_past (pairs_of m) e (tiles_of m, tiles_of m + 1) past) ∙ (λ i. low i || high i))))

-- an edge of the plane on the board
module _ (m : MapValue) (e : ℕ) (x : PlainEdgeValue) (k : IsEdgeOf m e x) (t : ℕ) where
  pub edge_is_end : has_end m t e ≡ true → is_end x t ≡ true
  edge_is_end h = (λ i. eqb (k.lower i) t || eqb (k.higher i) t) ∙ h

  pub edge_end : end_of x t ≡ end_at m t e
  edge_end = ap (λ l. cond {A = ℕ} (eqb l t) 0 1) k.lower

-- a call of the acting tile's end leaves the board one of the plane
module _ (m : MapValue) (b d : PlainBoardValue) (n : ℕ) (call : Call) (w : IsCall b n call d) (k : IsBoardOf m b) where
  edge_called : (e : ℕ) → e < length (pairs_of m) → IsEdgeOf m e (edge_at d e)
  edge_called e lt =
      let s = sees b d n call w e in
      let x = edge_at b e in
      let was = k.each e lt in
      let y = effect_of (end_on b e) call x in
      let ends = effect_ends (end_on b e) call x in
      dite (ℕ_discrete n e)
      (λ is. subst (IsEdgeOf m e) (sym (s.edge is)) (record {
        lower = ends.lower ∙ was.lower;
        higher = ends.higher ∙ was.higher;
        registers = ends.registers ∙ was.registers;
        kept = kept_effect (end_on b e) call x (end_small x b.acting) was.kept (subst (λ j. MayCall (end_on b j) call (edge_at b j)) is w.can);
      }))
      (λ apart. subst (IsEdgeOf m e) (sym (s.there apart).1) was)

  board_called : IsBoardOf m d
  board_called = record {
    count = ap (λ (v : PlainBoardValue). length v.edges) w.is ∙ (length-set b.edges n (effect_of (end_on b n) call (edge_at b n)) ∙ k.count);
    each = edge_called;
  }

-- the histories of all edges of the board
pub board_kept : (m : MapValue) (b : PlainBoardValue) → IsBoardOf m b → All IsKeptEdge b.edges
board_kept m b k e d lt = let n = k.count in subst IsKeptEdge (sym (get_or_default b.edges e d no_edge lt)) (k.each e (omega (arith, lt, n))).kept

-- so does any number of calls
pub board_moved : (m : MapValue) (b c : PlainBoardValue) → Moved b c → IsBoardOf m b → IsBoardOf m c
board_moved m b c (stays _) k = k
board_moved m b c (goes _ d _ n call w rest) k = board_moved m d c rest (board_called m b d n call w k)

-- a board is one of the plane whichever tile's end acts
pub board_turned : (m : MapValue) (b c : PlainBoardValue) → c.edges ≡ b.edges → IsBoardOf m b → IsBoardOf m c
board_turned m b c same k = record { count = ap (λ xs. length xs) same ∙ k.count; each = λ e lt. subst (IsEdgeOf m e) (sym (ap (λ xs. get_or xs e no_edge) same)) (k.each e lt) }

pub lists_turned : (b c : PlainBoardValue) (t : ℕ) → c.edges ≡ b.edges → lists_of_tile c t ≡ lists_of_tile b t
lists_turned b c t same = λ i e. own_lists (end_of (get_or (same i) e no_edge) t) (get_or (same i) e no_edge)

-- the board is the end of the acting tile
pub board_end : (m : MapValue) (b : PlainBoardValue) → IsBoardOf m b → b.acting < tiles_of m → IsEndOf m b.acting (acting_end b)
board_end m b k lt = record {
  tile_is = refl;
  registers_are = λ e h. let x = k.each e (end_known m b.acting e lt h) in ap (λ c. cond c (edge_at b e).registers 0) (edge_is_end m e (edge_at b e) x b.acting h) ∙ x.registers;
  end_is = λ e h. edge_end m e (edge_at b e) (k.each e (end_known m b.acting e lt h)) b.acting;
}

-- the lists of a tile's edges stay where another tile's end acts
pub lists_stay : (m : MapValue) (b c : PlainBoardValue) → IsBoardOf m b → Moved b c → (t : ℕ) → t < tiles_of m → t ≢ b.acting → AgreeOnEdges m t (lists_of_tile c t) (lists_of_tile b t)
lists_stay m b c k moved t lt apart e own =
    let x = k.each e (end_known m t e lt own) in
    other_tiles_keep b c moved t e apart (edge_is_end m e (edge_at b e) x t own) x.kept

-- a tile is underway by the lists of its own edges alone
module _ (m : MapValue) (meaning : WindowValue → ℕ → WindowValue) (start : Site → AtomValue) (attempts : List Attempt) (tile : TileValue) (a b : ℕ → EndLists) (same : AgreeOnEdges m tile.number b a) where
  giving_agrees : (turns : List Turn) (edges : List ℕ) → IsGiving m turns (tile_at tile a) edges → IsGiving m turns (tile_at tile b) edges
  giving_agrees [] edges g = g
  giving_agrees (x ∷ older) edges g = (g.0, λ e own. same e own ∙ g.1 e own)

  hand_agrees : (turns : List Turn) (p : Phase) → InPhase (common m meaning start) attempts turns (tile_at tile a) p → InPhase (common m meaning start) attempts turns (tile_at tile b) p
  hand_agrees turns Draw h = (h.0, h.1, λ e own. same e own ∙ h.2 e own)
  hand_agrees turns Finished h = (h.0, h.1, λ e own. same e own ∙ h.2 e own)
  hand_agrees turns Lock h = (h.0, h.1, λ e own. same e own ∙ h.2 e own)
  hand_agrees turns Refresh h = (h.0, λ e own. same e own ∙ h.1 e own)
  hand_agrees turns Behave h = (h.0, (h.1.0, (λ e own. same e own ∙ h.1.1 e own), h.1.2, h.1.3))
  hand_agrees turns Write h = (h.0, (h.1.0, (λ e own. same e own ∙ h.1.1 e own), h.1.2, h.1.3))
  hand_agrees turns Give h = (h.0, h.1, giving_agrees turns _ h.2)
  hand_agrees turns Back h = (h.0, h.1, h.2, h.3, giving_agrees turns _ h.4)
  hand_agrees turns Worn h = (h.0, (h.1.0, (λ e own. same e own ∙ h.1.1 e own), h.1.2))

  pub underway_agrees : (u : IsUnderway (common m meaning start) attempts tile a) → (v : IsUnderway (common m meaning start) attempts tile b) × (v.turns ≡ u.turns)
  underway_agrees u = (
    record {
      turns = u.turns;
      each = u.each;
      made = u.made;
      records = u.records;
      abandoned = u.abandoned;
      stamp = u.stamp;
      unworn = u.unworn;
      needs = u.needs;
      map = u.map;
      owner = u.owner;
      can = u.can;
      left = u.left;
      cells = u.cells;
      hand = hand_agrees u.turns tile.phase u.hand;
    },
    refl,
  )

-- another tile's steps leave a tile underway
pub others_stay : (m : MapValue) (meaning : WindowValue → ℕ → WindowValue) (start : Site → AtomValue) (attempts : List Attempt) (tile : TileValue) (b c : PlainBoardValue) → IsBoardOf m b → Moved b c → tile.number ≢ b.acting
    → (u : IsUnderway (common m meaning start) attempts tile (lists_of_tile b tile.number)) → (v : IsUnderway (common m meaning start) attempts tile (lists_of_tile c tile.number)) × (v.turns ≡ u.turns)
others_stay m meaning start attempts tile b c k moved apart u =
    underway_agrees m meaning start attempts tile (lists_of_tile b tile.number) (lists_of_tile c tile.number) (lists_stay m b c k moved tile.number u.can.inside apart) u

-- an edge on which nothing happened, or none
pub record IsStill (x : PlainEdgeValue) : Type 0 where
  pub holds : x.holds ≡ []
  pub low : x.low ≡ []
  pub high : x.high ≡ []

still_at : (zs : List EdgeSize) (e : ℕ) → IsStill (get_or (map untouched_edge zs) e no_edge)
still_at [] e = record { holds = refl; low = refl; high = refl }
still_at (z ∷ zs) zero = record { holds = refl; low = refl; high = refl }
still_at (z ∷ zs) (suc e) = still_at zs e

still_lists : (end : ℕ) (x : PlainEdgeValue) → IsStill x → own_lists end x ≡ end_lists [] []
still_lists end x s = (λ i. own_lists end (record { lower = x.lower; higher = x.higher; registers = x.registers; holds = s.holds i; low = s.low i; high = s.high i })) ∙ pick (eqb end 0)
  where
    pick : (b : Bool) → end_lists [] (cond b [] []) ≡ end_lists [] []
    pick true = refl
    pick false = refl

-- a board that was only made
module _ (m : MapValue) (b : PlainBoardValue) (made : b.edges ≡ map untouched_edge (sizes_of m)) where
  new_edge : (e : ℕ) → e < length (pairs_of m) → edge_at b e ≡ untouched_edge (pair_size m (pair_at m e))
  new_edge e lt =
      ap (λ xs. get_or xs e no_edge) made
      ∙ (get_or-map untouched_edge (sizes_of m) e (pair_size m (pair_at m e)) no_edge (let n : length (sizes_of m) ≡ length (pairs_of m) = length-map (pairs_of m) (pair_size m) in omega (arith, lt, n))
      ∙ ap untouched_edge (get_or-map (pair_size m) (pairs_of m) e (tiles_of m, tiles_of m + 1) (pair_size m (pair_at m e)) lt))

  pub board_new : IsBoardOf m b
  board_new = record {
    count = ap (λ xs. length xs) made ∙ (length-map (sizes_of m) untouched_edge ∙ length-map (pairs_of m) (pair_size m));
    each = λ e lt. subst (IsEdgeOf m e) (sym (new_edge e lt)) (record { lower = refl; higher = refl; registers = refl; kept = kept_none (registers_of (sites_on m e)) });
  }

  pub nothing_happened : (t e : ℕ) → lists_of_tile b t e ≡ end_lists [] []
  nothing_happened t e = ap (λ xs. own_lists (end_of (get_or xs e no_edge) t) (get_or xs e no_edge)) made ∙ still_lists (end_of (get_or (map untouched_edge (sizes_of m)) e no_edge) t) (get_or (map untouched_edge (sizes_of m)) e no_edge) (still_at (sizes_of m) e)

  -- a tile that was only made is underway there
  pub fresh_there : (meaning : WindowValue → ℕ → WindowValue) (t : ℕ) (start : Site → AtomValue) (attempts : List Attempt) (tile : TileValue) → IsFreshTile m t start attempts tile → IsUnderway (common m meaning start) attempts tile (lists_of_tile b tile.number)
  fresh_there meaning t start attempts tile f = f.underway meaning (lists_of_tile b tile.number) (λ e own. nothing_happened tile.number e)
