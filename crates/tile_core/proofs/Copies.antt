-- What a refresh, a mark and a view say of a tile's copy, by the map and the tile's number.
use Rattle.std.proofs.Common.{◌≡◌, ℕ, ◌<◌, true, false, List, refl, ap, ◌∙◌, subst, Option, Some, None}
use Rattle.std.specs.Prelude.{is_some}
use Rattle.window_sites.specs.Window.{WindowValue, atom_at}
use Rattle.tile_map.specs.Plane.{Site, MapValue, is_held, in_window}
use Rattle.tile_map.specs.Edges.{window_site}
use Rattle.edge_lock.specs.declared.history.Access.{Access}
use Rattle.edge_lock.specs.EndLists.{EndLists}
use Rattle.border_cache.specs.Cells.{cell_value, newest}
use Rattle.border_cache.specs.News.{IsRefresh}
use Rattle.border_cache.specs.Windows.{has, AddsAll, seen_on, is_shown, border_at}
use Rattle.border_cache.specs.Copies.{CacheValue, held_cell, cell_for, window_cells, Refreshed, Marked, copy_at}

-- the sites of the window have these cells, and all others that the tile holds are as they were
pub record Keeps (m : MapValue) (t : ℕ) (c : Site) (old new : CacheValue) : Type 0 where
  pub map : new.map ≡ m
  pub tile : new.tile ≡ t
  pub others : (s : Site) → is_held m t s ≡ true → in_window m c s ≡ false → held_cell new s ≡ held_cell old s

pub record Renewed (m : MapValue) (t : ℕ) (c : Site) (edges : List ℕ) (old new : CacheValue) (a b : ℕ → EndLists) : Type 0 where
  pub more : ℕ → List Access
  pub adds : AddsAll a b edges more
  pub reads : (e : ℕ) → has e edges ≡ true → IsRefresh (border_at m t c e) (more e)
  pub keeps : Keeps m t c old new
  pub cells : (n : ℕ) (s : Site) → n < 41 → window_site m c n ≡ Some s → held_cell new s ≡ newest (held_cell old s) (seen_on m t c more n edges)

pub renewed : (m : MapValue) (t : ℕ) (c : Site) (edges : List ℕ) (old new : CacheValue) (a b : ℕ → EndLists) → old.map ≡ m → old.tile ≡ t → Refreshed c edges (copy_at old a) (copy_at new b) → Renewed m t c edges old new a b
renewed m t c edges old new a b map tile r = subst (λ (x : MapValue × ℕ). Renewed x.0 x.1 c edges old new a b) (λ i. (map i, tile i)) (record {
  more = r.more;
  adds = r.adds;
  reads = r.reads;
  keeps = record { map = r.stores.differs.map; tile = r.stores.differs.tile; others = r.stores.differs.others };
  cells = λ n s lt at. r.stores.done n s lt at ∙ ap (λ o. newest (cell_for old o) (seen_on old.map old.tile c r.more n edges)) at;
})

pub record MarkedBy (m : MapValue) (t : ℕ) (c : Site) (window : WindowValue) (stamp : ℕ) (old new : CacheValue) : Type 0 where
  pub keeps : Keeps m t c old new
  pub cells : (n : ℕ) (s : Site) → n < 41 → window_site m c n ≡ Some s → held_cell new s ≡ cell_value stamp (atom_at window n)

pub marked : (m : MapValue) (t : ℕ) (c : Site) (window : WindowValue) (stamp : ℕ) (old new : CacheValue) → old.map ≡ m → old.tile ≡ t → Marked c window stamp old new → MarkedBy m t c window stamp old new
marked m t c window stamp old new map tile r = subst (λ (x : MapValue × ℕ). MarkedBy x.0 x.1 c window stamp old new) (λ i. (map i, tile i)) (record {
  keeps = record { map = r.differs.map; tile = r.differs.tile; others = r.differs.others };
  cells = r.done;
})

-- the cell of a live site of the window
pub window_cell : (m : MapValue) (c s : Site) (n : ℕ) (v : CacheValue) → v.map ≡ m → window_site m c n ≡ Some s → window_cells v c n ≡ held_cell v s
window_cell m c s n v map at = ap (cell_for v) (ap (λ k. window_site k c n) map ∙ at)

-- a site of a window that is shown is a live one
pub shown_site : (m : MapValue) (c : Site) (n : ℕ) → is_shown m c n ≡ true → (s : Site) × (window_site m c n ≡ Some s)
shown_site m c n h = go (window_site m c n) refl h
  where
    go : (o : Option Site) → window_site m c n ≡ o → is_some o ≡ true → (s : Site) × (window_site m c n ≡ Some s)
    go None at h = absurd (cc h)
    go (Some s) at h = (s, at)
