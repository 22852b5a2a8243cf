-- The step Refresh keeps a tile underway.
use Rattle.std.proofs.Common.{inl, ◌≡◌, ℕ, ◌+◌, ◌*◌, ◌<◌, ◌≤◌, eqb, true, false, true≢false, cond, List, [], ◌∷◌, ◌++◌, length, get_or, refl, sym, ap, ◌∙◌, subst, arith, ⊎_elim, Option, Some, None}
use Rattle.std.specs.Prelude.{All}
use Rattle.bit_field.specs.Atom.{AtomValue}
use Rattle.window_sites.specs.Window.{WindowValue}
use Rattle.tile_map.specs.Plane.{Site, MapValue, in_window}
use Rattle.tile_map.specs.Edges.{window_site, needs_of, has_end}
use Rattle.tile_map.specs.Laws.{IsPlane}
use Rattle.draw_stream.specs.declared.attempt.Attempt.{Attempt}
use Rattle.edge_lock.specs.declared.history.Access.{Access}
use Rattle.edge_lock.specs.declared.history.Access.TheVariants.{Read}
use Rattle.edge_lock.specs.History.{found_value}
use Rattle.edge_lock.specs.EndLists.{EndLists, IsHeld, hold_of, known_value}
use Rattle.border_cache.specs.Cells.{newest}
use Rattle.border_cache.specs.Accesses.{IsHonest}
use Rattle.border_cache.specs.News.{found_cell, has_bit, word_of, cell_in}
use Rattle.border_cache.specs.Windows.{has, place_in, end_at, sites_on, seen_on}
use Rattle.border_cache.specs.Copies.{CacheValue, held_cell}
use Rattle.border_cache.proofs.Runs.{known_after, known_all, honest_append}
use Rattle.border_cache.proofs.Stored.{centre_holds, has_get}
use Rattle.tile_core.specs.declared.phase.Phase.TheVariants.{Refresh, Worn}
use Rattle.tile_core.specs.Values.{TileValue, centre}
use Rattle.tile_core.specs.Turns.{Turn, lists_of, with_more, one_if, own_cell, newest_at, clock_in, greatest, stamp_of, cells_of, common}
use Rattle.tile_core.specs.Clocks.{ReadsClocks}
use Rattle.tile_core.specs.Underway.{Onward, IsUnderway, InPhase, HasOpen, no_access, is_refreshed, tile_at}
use Rattle.tile_core.specs.Steps.{Refreshes, WearsOut, Renews, tile_after_refresh}
use Rattle.tile_core.proofs.Lists.{open_more, held_more}
use Rattle.tile_core.proofs.Clocking.{greatest_same}
use Rattle.tile_core.proofs.Writes.{known_open, seen_same_on}
use Rattle.tile_core.proofs.Copies.{Renewed, renewed}

-- a read of the clock before shows nothing of the cells
pub seen_clock : (sites end c : ℕ) (xs : List Access) (o : Option ℕ) → found_cell sites end (Read 0 c ∷ xs) o ≡ found_cell sites end xs o
seen_clock sites end c xs None = refl
seen_clock sites end c xs (Some k) =
    let skip : (q : ℕ) → 0 < q → found_value (Read 0 c ∷ xs) q ≡ found_value xs q = λ q big. (let e : eqb q 0 ≡ false = grind (arith, big) in ap (λ b. cond b (Some c) (found_value xs q)) e) in
    (λ j. cond (has_bit (skip (word_of sites end k) (omega arith) j) k) (cell_in (skip (1 + 2 * k) (omega arith) j) (skip (2 + 2 * k) (omega arith) j)) None)

-- what holds of each edge holds of those of the list
pub all_had : (P : ℕ → Type 0) (xs : List ℕ) → ((e : ℕ) → has e xs ≡ true → P e) → All P xs
all_had P xs f = λ k d lt. f (get_or xs k d) (has_get xs k d lt)

-- the open hold of a needed edge
pub open_held : (m : MapValue) (tile : TileValue) (turns : List Turn) (needs : List ℕ) (accesses : ℕ → List Access) (a : ℕ → EndLists) → ((e : ℕ) → has e needs ≡ true → has_end m tile.number e ≡ true) → HasOpen m turns (tile_at tile a) needs accesses
    → (e : ℕ) → has e needs ≡ true → IsHeld (a e)
open_held m tile turns needs accesses a ends had e h =
    let t = tile.number in let i = length turns in
    subst IsHeld (sym (had e (ends e h) ∙ ap (λ x. with_more (one_if x (hold_of (end_at m t e) i (accesses e) true)) [] (lists_of m t turns e)) h)) (held_more (hold_of (end_at m t e) i (accesses e) true) [] (lists_of m t turns e) refl)

module _ (m : MapValue) (meaning : WindowValue → ℕ → WindowValue) (start : Site → AtomValue) (attempts : List Attempt) (tile : TileValue) (a : ℕ → EndLists) (u : IsUnderway (common m meaning start) attempts tile a) (is : tile.phase ≡ Refresh) where
  abbrev t : ℕ
  t = tile.number

  abbrev i : ℕ
  i = length u.turns

  abbrev c : Site
  c = centre tile

  pub refreshing : InPhase (common m meaning start) attempts u.turns (tile_at tile a) Refresh
  refreshing = subst (InPhase (common m meaning start) attempts u.turns (tile_at tile a)) is u.hand

  module _ (b : ℕ → EndLists) (top : ℕ) (r : ReadsClocks tile.needs tile.stamp top a b) where
    pub after_clocks : HasOpen m u.turns (tile_at tile b) tile.needs (λ e. no_access e ++ r.more e)
    after_clocks = open_more m tile u.turns tile.needs no_access r.more a b refreshing.1 r.adds

    top_is : (f : ℕ → List Access) → ((e : ℕ) → has e tile.needs ≡ true → clock_in (r.more e) ≡ clock_in (f e)) → top ≡ greatest (stamp_of u.turns) (λ e. clock_in (f e)) tile.needs
    top_is f same = r.top ∙ (ap (λ n. greatest n (λ e. clock_in (r.more e)) tile.needs) u.stamp ∙ greatest_same (stamp_of u.turns) (λ e. clock_in (r.more e)) (λ e. clock_in (f e)) tile.needs same)

    worn_on : 4294967295 ≤ top → Onward (common m meaning start) attempts u.turns (tile_at (record tile { phase = Worn }) b)
    worn_on high = (
      record {
        turns = u.turns;
        each = u.each;
        made = u.made;
        records = u.records;
        abandoned = u.abandoned;
        stamp = u.stamp;
        unworn = u.unworn;
        needs = u.needs;
        map = u.map;
        owner = u.owner;
        can = u.can;
        left = u.left;
        cells = λ s h q. u.cells s h (inl (ap is_refreshed is));
        hand = let k = refreshing.0 in (
          record { taken = k.taken; made = k.made; centre_is = k.centre_is; needs = k.needs },
          ((λ e. r.more e), after_clocks, record { clock = r.clock; is = r.is; high = subst (λ n. 4294967295 ≤ n) (top_is (λ e. r.more e) (λ e h. refl)) high }),
        );
      },
      inl refl,
    )

    module _ (plane : IsPlane m) (d : ℕ → EndLists) (copy : CacheValue) (f : Renewed m t c tile.needs tile.cache copy b d) where
      now_open : HasOpen m u.turns (tile_at tile d) tile.needs (λ e. (no_access e ++ r.more e) ++ f.more e)
      now_open = open_more m tile u.turns tile.needs (λ e. no_access e ++ r.more e) f.more b d after_clocks f.adds

      reads_is : (e : ℕ) → has e tile.needs ≡ true → r.more e ++ f.more e ≡ Read 0 (r.clock e) ∷ f.more e
      reads_is e h = ap (λ xs. xs ++ f.more e) (r.is e h)

      here : (e : ℕ) → has e tile.needs ≡ true → a e ≡ with_more (hold_of (end_at m t e) i [] true ∷ []) [] (lists_of m t u.turns e)
      here e h = refreshing.1 e (u.needs.ends e h) ∙ ap (λ x. with_more (one_if x (hold_of (end_at m t e) i [] true)) [] (lists_of m t u.turns e)) h

      known_a : (e : ℕ) → has e tile.needs ≡ true → known_value (a e) ≡ (λ q. None)
      known_a e h = ap known_value (here e h) ∙ known_open (end_at m t e) i [] (lists_of m t u.turns e)

      known_b : (e : ℕ) → has e tile.needs ≡ true → known_value (b e) ≡ known_after (λ q. None) (r.more e)
      known_b e h =
          let held : IsHeld (a e) = open_held m tile u.turns tile.needs no_access a u.needs.ends refreshing.1 e h in
          ap known_value (r.adds.lists e) ∙ (known_all (r.more e) (a e) held ∙ ap (λ k. known_after k (r.more e)) (known_a e h))

      honest : (e : ℕ) → has e tile.needs ≡ true → IsHonest (λ q. None) (r.more e ++ f.more e)
      honest e h = honest_append (λ q. None) (r.more e) (f.more e) (subst (λ k. IsHonest k (r.more e)) (known_a e h) (r.adds.honest e)) (subst (λ k. IsHonest k (f.more e)) (known_b e h) (f.adds.honest e))

      cells : (n : ℕ) (s : Site) → n < 41 → window_site m c n ≡ Some s → held_cell copy s ≡ newest_at m t (cells_of m start u.turns) c (λ e. r.more e ++ f.more e) n
      cells n s lt at =
          let own = cells_of m start u.turns s in
          let held = centre_holds m plane t c refreshing.0.centre_is n s lt at in
          f.cells n s lt at ∙ (ap (λ x. newest x (seen_on m t c f.more n tile.needs)) (u.cells s held (inl (ap is_refreshed is)))
          ∙ (ap (newest own) (seen_same_on m t c f.more (λ e. r.more e ++ f.more e) n tile.needs
          (λ e h. sym (ap (λ xs. found_cell (sites_on m e) (end_at m t e) xs (place_in m c e n)) (reads_is e h) ∙ seen_clock (sites_on m e) (end_at m t e) (r.clock e) (f.more e) (place_in m c e n))))
          ∙ (ap (λ es. newest own (seen_on m t c (λ e. r.more e ++ f.more e) n es)) refreshing.0.needs
          ∙ ap (λ o. newest (own_cell o (cells_of m start u.turns)) (seen_on m t c (λ e. r.more e ++ f.more e) n (needs_of m t c))) (sym at))))

      clock_same : (e : ℕ) → has e tile.needs ≡ true → clock_in (r.more e) ≡ clock_in (r.more e ++ f.more e)
      clock_same e h = ap clock_in (r.is e h) ∙ sym (ap clock_in (reads_is e h))

      renewed_on : top < 4294967295 → Onward (common m meaning start) attempts u.turns (tile_at (tile_after_refresh tile top copy) d)
      renewed_on low = (
        record {
          turns = u.turns;
          each = u.each;
          made = u.made;
          records = u.records;
          abandoned = u.abandoned;
          stamp = u.stamp;
          unworn = u.unworn;
          needs = u.needs;
          map = f.keeps.map;
          owner = f.keeps.tile;
          can = u.can;
          left = u.left;
          cells = λ s h q. ⊎_elim (λ (x : true ≡ false). absurd (true≢false x)) (λ (x : in_window m c s ≡ false). f.keeps.others s h x ∙ u.cells s h (inl (ap is_refreshed is))) q;
          hand = let k = refreshing.0 in (
            record { taken = k.taken; made = k.made; centre_is = k.centre_is; needs = k.needs },
            (
              (λ e. r.more e ++ f.more e),
              now_open,
              record { clock = r.clock; reads = f.more; is = reads_is; refresh = f.reads; honest = honest },
              record { stamp = (let q = top_is (λ e. r.more e ++ f.more e) clock_same in omega (arith, q)); small = omega (arith, low); cells = cells },
            ),
          );
        },
        inl refl,
      )

  pub refreshes_on : IsPlane m → (new : TileValue) (d : ℕ → EndLists) → Refreshes (tile_at tile a) (tile_at new d) → Onward (common m meaning start) attempts u.turns (tile_at new d)
  refreshes_on plane new d r = ⊎_elim
      (λ (w : WearsOut tile new r.top r.between d). subst (λ (x : TileValue × (ℕ → EndLists)). Onward (common m meaning start) attempts u.turns (tile_at x.0 x.1)) (λ j. (sym w.is j, sym w.lists_are j)) (worn_on r.between r.top r.clocks w.high))
      (λ (w : Renews tile new r.top r.between d). subst (λ x. Onward (common m meaning start) attempts u.turns (tile_at x d)) (sym w.is)
      (renewed_on r.between r.top r.clocks plane d new.cache (renewed m t c tile.needs tile.cache new.cache r.between d u.map u.owner w.cells) w.low))
      r.step
