-- A hold that is open stays open.
use Rattle.std.proofs.Common.{◌≡◌, ℕ, ap, sym, subst, ◌∙◌, List}
use Rattle.edge_lock.specs.declared.history.Access.{Access}
use Rattle.edge_lock.specs.EndValues.{EndValue, SameEnd}
use Rattle.tile_map.specs.Plane.{MapValue}
use Rattle.border_cache.specs.declared.border.Border.{Border}
use Rattle.border_cache.specs.declared.border.Centre.{Centre}
use Rattle.border_cache.specs.Accesses.{Adds}
use Rattle.border_cache.specs.Borders.{IsCentreOf, IsOpen, site_of}
use Rattle.border_cache.specs.Copies.{CacheValue, HoldsWindow}
use Rattle.border_cache.proofs.Runs.{held_adds}

pub open_adds : (a b : EndValue) (x : Border) (xs : List Access) → IsOpen a x → SameEnd a b → Adds a.lists b.lists x.edge xs → IsOpen b x
open_adds a b x xs o same adds = record {
  few = o.few;
  two = o.two;
  registers = ap (λ f. f x.edge) same.1 ∙ o.registers;
  held = held_adds a.lists b.lists x.edge xs o.held adds;
}

-- a centre of a copy is one of another copy of this tile
pub centre_kept : (m : MapValue) (v w : CacheValue) (c : Centre) → w.map ≡ v.map → w.tile ≡ v.tile → IsCentreOf m v c → IsCentreOf m w c
centre_kept m v w c map tile h = record {
  map = h.map ∙ sym map;
  plane = h.plane;
  holds = subst (λ (p : MapValue × ℕ). HoldsWindow p.0 p.1 (site_of c)) (λ i. (sym map i, sym tile i)) h.holds;
}

pub centre_stays : (v w : CacheValue) (c : Centre) → w.map ≡ v.map → w.tile ≡ v.tile → IsCentreOf v.map v c → IsCentreOf w.map w c
centre_stays v w c map tile h = subst (λ m. IsCentreOf m w c) (sym map) (centre_kept v.map v w c map tile h)
