-- From tiles that are over to a run: their turns, and the edges' histories turned round.
use Rattle.std.proofs.Common.{ℕ, zero, suc, ◌≡◌, ◌≤◌, ◌<◌, ◌+◌, List, [], ◌∷◌, ◌++◌, refl, sym, ap, subst, arith, ◌⊎◌, inl, inr, ⊎_elim, Bool, true, false, Option, Some, None, ◌∙◌, ◌==◌, length}
use Rattle.std.specs.Prelude.{slice_get, if◌then◌else◌, nat_lt}
use Rattle.std.proofs.lemmas.Bool.Decides.{nat_tests}
use Rattle.bit_field.specs.Atom.{AtomValue}
use Rattle.window_sites.specs.Window.{WindowValue}
use Rattle.tile_map.specs.Plane.{Site, MapValue, tiles_of, is_held}
use Rattle.tile_map.specs.Edges.{pairs_of, low_end, high_end, has_end, other_end, needs_of}
use Rattle.tile_map.specs.Laws.{IsPlane, Joins}
use Rattle.tile_map.proofs.PlaneLaws.{plane}
use Rattle.draw_stream.specs.declared.attempt.Attempt.{Attempt}
use Rattle.draw_stream.specs.Plans.{attempts}
use Rattle.edge_lock.specs.declared.history.Hold.{Hold}
use Rattle.edge_lock.specs.declared.history.Refusal.{Refusal}
use Rattle.edge_lock.specs.History.{own, keys, IsEdgeHistory}
use Rattle.edge_lock.specs.History as edge
use Rattle.edge_lock.specs.EndLists.{EndLists, end_lists, refusal_of}
use Rattle.std.proofs.lemmas.List.Elements.{All-contains}
use Rattle.list_laws.proofs.Members.{In, in_left, in_right, in_contains}
use Rattle.border_cache.specs.Windows.{end_at, sites_on}
use Rattle.border_cache.specs.Copies.{held_cell}
use Rattle.tile_core.specs.Values.{atoms_of, TileValue, given_up_site}
use Rattle.tile_core.specs.Turns.{common, Lost, Turn, Wins, Loses, Wears, IsLost, AreTurns, AreAttempts, IsAttemptOf, IsAttemptAt, records_in_turns, abandoned_in_turns, refusals_at, AgreeOnEdges, lists_of, cells_of}
use Rattle.serial_order.specs.Scene.{Scene, IsOver, HasEnded, EdgeHistory, no_history, history_at, lists_at, end_lists_of, IsStopped}
use Rattle.serial_order.proofs.Lists.{back, past_end, none_past}
use Rattle.serial_order.proofs.Histories.{IsHistory, IsPlaced, history_back, ends_back, own_back, placed_back}
use Rattle.serial_order.proofs.Ground.{IsEnd, apart, has_in, ends_of}
use Rattle.serial_order.proofs.Tile.{are_played}
use Rattle.serial_order.proofs.World.{IsRun, holds_of, holds_back}
use Rattle.serial_order.proofs.Excuses.{AreRefused}

-- what the turns of a tile that is over say
pub record IsTold (m : MapValue) (meaning : WindowValue → ℕ → WindowValue) (start : Site → AtomValue) (given : List Attempt) (lists : ℕ → EndLists) (t : ℕ) (tile : TileValue) (turns : List Turn) : Type 0 where
  pub rest : List Attempt
  pub count : length given ≡ length turns + length rest
  pub each : AreTurns (common m meaning start) t turns
  pub made : AreAttempts m t given turns
  pub records : tile.records ≡ records_in_turns turns
  pub abandoned : tile.abandoned ≡ abandoned_in_turns turns
  pub lists_are : AgreeOnEdges m t lists (lists_of m t turns)
  pub ends : IsStopped tile.phase rest turns
  pub cells : (s : Site) → is_held m t s ≡ true → held_cell tile.cache s ≡ cells_of m start turns s

get_first : {A : Type 0} (xs ys : List A) (k : ℕ) (a : A) → slice_get xs k ≡ Some a → slice_get (xs ++ ys) k ≡ Some a
get_first [] ys k a e = absurd (cc (e))
get_first (x ∷ xs) ys zero a e = e
get_first (x ∷ xs) ys (suc k) a e = get_first xs ys k a e

more_attempts : (m : MapValue) (t : ℕ) (made rest given : List Attempt) (n : ℕ) (s : Site) (seed : ℕ) → given ≡ made ++ rest → IsAttemptAt m t (slice_get made n) s seed → IsAttemptAt m t (slice_get given n) s seed
more_attempts m t made rest given n s seed e a = record { attempt = a.attempt; is = ap (λ xs. slice_get xs n) e ∙ get_first made rest n a.attempt a.is; site_is = a.site_is; seed_is = a.seed_is }

made_of : (m : MapValue) (t : ℕ) (made rest given : List Attempt) (xs : List Turn) → given ≡ made ++ rest → AreAttempts m t made xs → AreAttempts m t given xs
made_of m t made rest given [] e a = tt
made_of m t made rest given (x ∷ xs) e a = (one x a.0, made_of m t made rest given xs e a.1)
  where
    one : (y : Turn) → IsAttemptOf m t made (length xs) y → IsAttemptOf m t given (length xs) y
    one (Wins w) b = more_attempts m t made rest given (length xs) _ _ e b
    one (Loses l) b = (b.0, more_attempts m t made rest given (length xs) _ b.0 e b.1)
    one (Wears w) b = (b.0, more_attempts m t made rest given (length xs) _ b.0 e b.1)

length_append : {A : Type 0} (xs ys : List A) → length (xs ++ ys) ≡ length xs + length ys
length_append [] ys = omega arith
length_append (x ∷ xs) ys = omega (arith, length_append xs ys)

told : (m : MapValue) (meaning : WindowValue → ℕ → WindowValue) (start : Site → AtomValue) (given : List Attempt) (lists : ℕ → EndLists) (t : ℕ) (tile : TileValue) → tile.number ≡ t → (h : HasEnded (common m meaning start) given lists tile) → IsTold m meaning start given lists t tile h.played.turns
told m meaning start given lists t tile e h = record {
  rest = h.rest;
  count = ap length h.all ∙ (length_append h.made h.rest ∙ ap (λ n. n + length h.rest) h.played.all);
  each = subst (λ u. AreTurns (common m meaning start) u h.played.turns) e h.played.each;
  made = subst (λ u. AreAttempts m u given h.played.turns) e (made_of m tile.number h.made h.rest given h.played.turns h.all h.played.made);
  records = h.played.records_are;
  abandoned = h.played.abandoned_are;
  lists_are = λ d own. h.played.lists_are d (subst (λ u. has_end m u d ≡ true) (sym e) own) ∙ ap (λ u. lists_of m u h.played.turns d) e;
  ends = h.ends;
  cells = λ s held. h.cells s (subst (λ u. is_held m u s ≡ true) (sym e) held);
}

refusal_in : (m : MapValue) (t : ℕ) (l : Lost) (xs : List Turn) → In (Loses l) xs → In (refusal_of l.gone.attempt l.gone.holder_attempt) (lists_of m t xs l.gone.edge).refusals
refusal_in m t l [] i = absurd i
refusal_in m t l (x ∷ xs) i = ⊎_elim (λ e. in_right (lists_of m t xs l.gone.edge).refusals (refusals_at x l.gone.edge) _ (subst (λ y. In (refusal_of l.gone.attempt l.gone.holder_attempt) (refusals_at y l.gone.edge)) e here)) (λ j. in_left (lists_of m t xs l.gone.edge).refusals (refusals_at x l.gone.edge) _ (refusal_in m t l xs j)) i
  where
    here : In (refusal_of l.gone.attempt l.gone.holder_attempt) (refusals_at (Loses l) l.gone.edge)
    here = let same : (l.gone.edge == l.gone.edge) ≡ true = grind (arith, nat_tests) in rw same (inl refl)

pub has_low : (m : MapValue) (e : ℕ) → has_end m (low_end m e) e ≡ true
has_low m e = grind (arith, nat_tests)

pub has_high : (m : MapValue) (e : ℕ) → has_end m (high_end m e) e ≡ true
has_high m e = grind (arith, nat_tests)

pub low_is : (m : MapValue) (e : ℕ) → end_at m (low_end m e) e ≡ 0
low_is m e = grind (arith, nat_tests)

pub high_is : (m : MapValue) (e : ℕ) → low_end m e < high_end m e → end_at m (high_end m e) e ≡ 1
high_is m e lt = grind (arith, nat_tests, lt)

joins_other : (m : MapValue) (t e u : ℕ) → u ≡ other_end m t e → IsEnd m t e → low_end m e < high_end m e → Joins m e t u
joins_other m t e u is (inl a) lt = inl (a, sym (is ∙ (let q : (low_end m e == t) ≡ true = grind (arith, nat_tests, a) in rw q refl)))
joins_other m t e u is (inr a) lt = inr (sym (is ∙ (let q : (low_end m e == t) ≡ false = grind (arith, nat_tests, a, lt) in rw q refl)), a)

end_one : (m : MapValue) (t e : ℕ) → (end_at m t e ≡ 0) ⊎ (end_at m t e ≡ 1)
end_one m t e = go (low_end m e == t)
  where
    go : (b : Bool) → (◌≡◌ {A = ℕ} (if b then 0 else 1) 0) ⊎ (◌≡◌ {A = ℕ} (if b then 0 else 1) 1)
    go true = inl refl
    go false = inr refl

module _ (s : Scene) (o : IsOver s) where
  abbrev pub first : Site → AtomValue
  first = atoms_of s.start

  pub laws : IsPlane s.map
  laws = plane s.map o.valid

  -- what there is to say of the turns of the tile at a number
  abbrev pub Told : ℕ → Option TileValue → List Turn → Type 0
  Told t None turns = turns ≡ []
  Told t (Some tile) turns = IsTold s.map s.meaning (atoms_of s.start) (attempts s.plan t) (lists_at s.map s.edges t) t tile turns

  choose : (t : ℕ) (tile : Option TileValue) → slice_get s.tiles t ≡ tile → (turns : List Turn) × Told t tile turns
  choose t None is = ([], refl)
  choose t (Some tile) is = let h = o.ended t tile is in (h.played.turns, told s.map s.meaning (atoms_of s.start) (attempts s.plan t) (lists_at s.map s.edges t) t tile (o.numbers t tile is) h)

  pub turns : ℕ → List Turn
  turns t = (choose t (slice_get s.tiles t) refl).0

  pub turns_told : (t : ℕ) → Told t (slice_get s.tiles t) (turns t)
  unfolding turns
  turns_told t = (choose t (slice_get s.tiles t) refl).1

  pub tile_told : (t : ℕ) (tile : TileValue) → slice_get s.tiles t ≡ Some tile → IsTold s.map s.meaning (atoms_of s.start) (attempts s.plan t) (lists_at s.map s.edges t) t tile (turns t)
  tile_told t tile is = subst (λ p. Told t p (turns t)) is (turns_told t)

  -- past the last tile there are no turns
  pub no_turns : (t : ℕ) → slice_get s.tiles t ≡ None → turns t ≡ []
  no_turns t is = subst (λ p. Told t p (turns t)) is (turns_told t)

  -- a tile with a turn is there
  pub tile_of : (t : ℕ) (x : Turn) → In x (turns t) → (tile : TileValue) × (slice_get s.tiles t ≡ Some tile)
  tile_of t x i = go (slice_get s.tiles t) refl
    where
      go : (p : Option TileValue) → slice_get s.tiles t ≡ p → (tile : TileValue) × (slice_get s.tiles t ≡ Some tile)
      go None is = absurd (subst (In x) (no_turns t is) i)
      go (Some tile) is = (tile, is)

  abbrev pub hist : ℕ → List Hold
  hist e = back (history_at s.edges e).holds

  pub each : (t : ℕ) → AreTurns (common s.map s.meaning (atoms_of s.start)) t (turns t)
  each t = go (slice_get s.tiles t) refl
    where
      go : (p : Option TileValue) → slice_get s.tiles t ≡ p → AreTurns (common s.map s.meaning (atoms_of s.start)) t (turns t)
      go None is = subst (AreTurns (common s.map s.meaning (atoms_of s.start)) t) (sym (no_turns t is)) tt
      go (Some tile) is = (tile_told t tile is).each

  past_edges : (e : ℕ) → length s.edges ≤ e → history_at s.edges e ≡ no_history
  past_edges e le = past_end s.edges e no_history le

  -- the history of any edge
  kept : (e : ℕ) → IsHistory (hist e)
  kept e = go (nat_lt e (length s.edges)) refl
    where
      go : (b : Bool) → nat_lt e (length s.edges) ≡ b → IsHistory (hist e)
      go true is = history_back (history_at s.edges e).holds (history_at s.edges e).low (history_at s.edges e).high (o.histories e (grind (arith, nat_tests, is)))
      go false is = subst (λ (h : EdgeHistory). IsHistory (back h.holds)) (sym (past_edges e (grind (arith, nat_tests, is)))) tt

  two_ends : (e : ℕ) (h : Hold) → In h (hist e) → (h.end ≡ 0) ⊎ (h.end ≡ 1)
  two_ends e h i = go (nat_lt e (length s.edges)) refl
    where
      go : (b : Bool) → nat_lt e (length s.edges) ≡ b → (h.end ≡ 0) ⊎ (h.end ≡ 1)
      go true is = ends_back (history_at s.edges e).holds (o.histories e (grind (arith, nat_tests, is))).holds h i
      go false is = absurd (subst (λ (k : EdgeHistory). In h (back k.holds)) (past_edges e (grind (arith, nat_tests, is))) i)

  -- what a tile's end did on an edge of its own is what its turns tell
  lists_told : (t e : ℕ) → has_end s.map t e ≡ true → lists_at s.map s.edges t e ≡ lists_of s.map t (turns t) e
  lists_told t e end = go (slice_get s.tiles t) refl
    where
      go : (p : Option TileValue) → slice_get s.tiles t ≡ p → lists_at s.map s.edges t e ≡ lists_of s.map t (turns t) e
      go (Some tile) is = (tile_told t tile is).lists_are e end
      go None is = (λ i. if end i then end_lists_of (end_at s.map t e) (past i) else end_lists [] []) ∙ (empty (end_at s.map t e) ∙ sym (ap (λ xs. lists_of s.map t xs e) (no_turns t is)))
        where
          empty : (b : ℕ) → end_lists_of b no_history ≡ end_lists [] []
          empty b = pick (b == 0)
            where
              pick : (c : Bool) → end_lists [] (if c then [] else []) ≡ end_lists [] []
              pick true = refl
              pick false = refl

          high : tiles_of s.map ≤ t
          high = omega (arith, none_past s.tiles t is, o.count)

          far : length (pairs_of s.map) ≤ e
          far = inside (nat_lt e (length (pairs_of s.map))) refl
            where
              inside : (b : Bool) → nat_lt e (length (pairs_of s.map)) ≡ b → length (pairs_of s.map) ≤ e
              inside false q = grind (arith, nat_tests, q)
              inside true q = let r = laws.edges.ends e (grind (arith, nat_tests, q)) in absurd (grind (arith, nat_tests, end, r.0, r.1, high))

          past : history_at s.edges e ≡ no_history
          past = past_edges e (omega (arith, far, o.known))

  holds_told : (t e : ℕ) → has_end s.map t e ≡ true → own (end_at s.map t e) (hist e) ≡ holds_of s.map t e (turns t)
  holds_told t e end =
      let is : end_lists_of (end_at s.map t e) (history_at s.edges e) ≡ lists_of s.map t (turns t) e = (λ i. if sym end i then end_lists_of (end_at s.map t e) (history_at s.edges e) else end_lists [] []) ∙ lists_told t e end in
      own_back (end_at s.map t e) (history_at s.edges e).holds ∙ (ap (λ (l : EndLists). back l.holds) is ∙ holds_back s.map t e (turns t))

  pub run : IsRun s.map s.meaning (atoms_of s.start) turns hist
  run = record {
    plane = laws;
    played = λ t. are_played s.map s.meaning (atoms_of s.start) t (turns t) (each t);
    histories = kept;
    ends = two_ends;
    lower = λ e. ap (λ b. own b (hist e)) (sym (low_is s.map e)) ∙ holds_told (low_end s.map e) e (has_low s.map e);
    higher = λ e. ap (λ b. own b (hist e)) (sym (high_is s.map e (apart s.map laws e))) ∙ holds_told (high_end s.map e) e (has_high s.map e);
  }

  lost_was : (t : ℕ) (l : Lost) (xs : List Turn) → AreTurns (common s.map s.meaning (atoms_of s.start)) t xs → In (Loses l) xs → (before : List Turn) × IsLost s.map t before l
  lost_was t l [] a i = absurd i
  lost_was t l (Wins w ∷ xs) a i = ⊎_elim (λ e. absurd (cc (e))) (λ j. lost_was t l xs a.2 j) i
  lost_was t l (Loses k ∷ xs) a i = ⊎_elim (λ e. let same : l ≡ k = cc (e) in (xs, subst (IsLost s.map t xs) (sym same) a.0)) (λ j. lost_was t l xs a.2 j) i
  lost_was t l (Wears x ∷ xs) a i = ⊎_elim (λ e. absurd (cc (e))) (λ j. lost_was t l xs a.2 j) i

  end_lost : (t : ℕ) (l : Lost) → In (Loses l) (turns t) → IsEnd s.map t l.gone.edge
  end_lost t l i = let k = (lost_was t l (turns t) (each t) i).1 in ends_of s.map laws t (given_up_site l.gone) l.gone.edge (has_in l.gone.edge (needs_of s.map t (given_up_site l.gone)) k.needed)

  has_it : (t e : ℕ) → IsEnd s.map t e → has_end s.map t e ≡ true
  has_it t e (inl a) = grind (arith, nat_tests, a)
  has_it t e (inr a) = grind (arith, nat_tests, a)

  placed_at : (t e : ℕ) (r : Refusal) → has_end s.map t e ≡ true → In r (lists_of s.map t (turns t) e).refusals → IsPlaced (hist e) (end_at s.map t e) r.attempt r.holder
  placed_at t e r end i = go (nat_lt e (length s.edges)) refl
    where
      h : EdgeHistory
      h = history_at s.edges e

      is : end_lists_of (end_at s.map t e) (history_at s.edges e) ≡ lists_of s.map t (turns t) e
      is = (λ i. if sym end i then end_lists_of (end_at s.map t e) (history_at s.edges e) else end_lists [] []) ∙ lists_told t e end

      inside : In r (end_lists_of (end_at s.map t e) (history_at s.edges e)).refusals
      inside = subst (λ (l : EndLists). In r l.refusals) (sym is) i

      by : (b : ℕ) → IsEdgeHistory (sites_on s.map e) (history_at s.edges e).holds (history_at s.edges e).low (history_at s.edges e).high → (b ≡ 0) ⊎ (b ≡ 1) → In r (end_lists_of b (history_at s.edges e)).refusals → edge.NamesHold (keys (history_at s.edges e).holds) b r
      by b k (inl z) j = subst (λ n. edge.NamesHold (keys (history_at s.edges e).holds) n r) (sym z) (All-contains (edge.NamesHold (keys (history_at s.edges e).holds) 0) (history_at s.edges e).low r k.lower.fits (in_contains (history_at s.edges e).low r (subst (λ n. In r (end_lists_of n (history_at s.edges e)).refusals) z j)))
      by b k (inr z) j = subst (λ n. edge.NamesHold (keys (history_at s.edges e).holds) n r) (sym z) (All-contains (edge.NamesHold (keys (history_at s.edges e).holds) 1) (history_at s.edges e).high r k.higher.fits (in_contains (history_at s.edges e).high r (subst (λ n. In r (end_lists_of n (history_at s.edges e)).refusals) z j)))

      none : (b : ℕ) → In r (end_lists_of b no_history).refusals → ⊥
      none b j = pick (b == 0) j
        where
          pick : (c : Bool) → In r (if c then [] else []) → ⊥
          pick true q = absurd q
          pick false q = absurd q

      go : (b : Bool) → nat_lt e (length s.edges) ≡ b → IsPlaced (hist e) (end_at s.map t e) r.attempt r.holder
      go true q = placed_back (history_at s.edges e).holds (end_at s.map t e) r (end_one s.map t e) (by (end_at s.map t e) (o.histories e (grind (arith, nat_tests, q))) (end_one s.map t e) inside)
      go false q = absurd (none (end_at s.map t e) (subst (λ (k : EdgeHistory). In r (end_lists_of (end_at s.map t e) k).refusals) (past_edges e (grind (arith, nat_tests, q))) inside))

  pub refused : AreRefused s.map turns hist
  refused = record {
    holder = λ t l i. joins_other s.map t l.gone.edge l.gone.holder (lost_was t l (turns t) (each t) i).1.holder (end_lost t l i) (apart s.map laws l.gone.edge);
    placed = λ t l i. placed_at t l.gone.edge (refusal_of l.gone.attempt l.gone.holder_attempt) (has_it t l.gone.edge (end_lost t l i)) (refusal_in s.map t l (turns t) i);
  }
