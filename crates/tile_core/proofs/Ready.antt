-- What the calls of a step ask, from what is underway.
use Rattle.std.proofs.Common.{◌≡◌, ℕ, ◌-◌, ◌*◌, ◌<◌, true, List, ◌∷◌, length, sym, ◌∙◌, subst, arith}
use Rattle.std.specs.Prelude.{All, drop}
use Rattle.std.specs.List.{range_with_len}
use Rattle.std.proofs.lemmas.Option.{slice_get_within}
use Rattle.tile_map.specs.Plane.{Site, MapValue}
use Rattle.tile_map.specs.Edges.{pairs_of, needs_of, is_needed, has_end}
use Rattle.list_laws.proofs.Members.{In, in_get, filter_in, range_in}
use Rattle.draw_stream.specs.declared.attempt.Attempt.{Attempt}
use Rattle.edge_lock.specs.EndLists.{EndLists}
use Rattle.edge_lock.specs.declared.history.Access.{Access}
use Rattle.border_cache.specs.Windows.{has}
use Rattle.border_cache.specs.Copies.{IsEndOf, IsCentre, CacheValue}
use Rattle.tile_core.specs.Values.{TileValue}
use Rattle.tile_core.specs.Turns.{Turn}
use Rattle.tile_core.specs.Clocks.{IsHad}
use Rattle.tile_core.specs.Underway.{HasOpen, IsDrawn, CanAttempt, tile_at}
use Rattle.tile_core.proofs.Giving.{has_place}
use Rattle.tile_core.proofs.Laws.{drop_first}
use Rattle.tile_core.proofs.Refreshing.{all_had, open_held}
use Rattle.edge_lock.specs.EndValues.{EndValue}

module _ (m : MapValue) (t : ℕ) (end : EndValue) (board : IsEndOf m t end) (needs : List ℕ) (ends : (e : ℕ) → has e needs ≡ true → has_end m t e ≡ true) where
  pub some_registers : (e : ℕ) → has e needs ≡ true → 0 < end.registers e
  some_registers e h = let r = board.registers_are e (ends e h) in omega (arith, r)

  pub had_all : (tile : TileValue) → tile.number ≡ t → (turns : List Turn) (accesses : ℕ → List Access) (a : ℕ → EndLists) → HasOpen m turns (tile_at tile a) needs accesses → All (IsHad end.registers a) needs
  had_all tile is turns accesses a had = all_had (IsHad end.registers a) needs (λ e h. record { some_registers = some_registers e h; held = open_held m tile turns needs accesses a (λ d k. subst (λ n. has_end m n d ≡ true) (sym is) (ends d k)) had e h })

-- a needed edge is one of the plane's
pub needs_known : (m : MapValue) (t : ℕ) (c : Site) (e : ℕ) → has e (needs_of m t c) ≡ true → e < length (pairs_of m)
needs_known m t c e h =
    let p = has_place e (needs_of m t c) h in
    let member = subst (λ x. In x (needs_of m t c)) p.2 (in_get (needs_of m t c) p.0 e p.1) in
    let parts = filter_in (is_needed m t c) (range_with_len 0 (length (pairs_of m))) e member in
    omega (arith, (range_in 0 (length (pairs_of m)) e parts.0).1)

-- the attempt in hand is one of the first 1,000,000
pub taken_few : (m : MapValue) (attempts : List Attempt) (turns : List Turn) (tile : TileValue) → IsDrawn m attempts turns tile → CanAttempt m tile.number attempts → tile.taken - 1 < 1000000
taken_few m attempts turns tile d can = let lt = slice_get_within attempts (length turns) d.made.attempt d.made.is in let k = d.taken in let few = can.few in omega (arith, lt, k, few)

pub next_centre : (m : MapValue) (t taken : ℕ) (attempts left rest : List Attempt) (a : Attempt) → CanAttempt m t attempts → left ≡ drop taken attempts → left ≡ a ∷ rest → (a.centre < m.w * m.h) × (taken < 1000000)
next_centre m t taken attempts left rest a can is first =
    let q = drop_first taken attempts rest a (sym first ∙ is) in
    let lt = slice_get_within attempts taken a q.0 in
    let few = can.few in
    (can.centres taken a q.0, omega (arith, lt, few))

-- the copy is that of the map and the tile
pub centre_of_copy : (m : MapValue) (t : ℕ) (c : Site) (v : CacheValue) → v.map ≡ m → v.tile ≡ t → IsCentre m t c → IsCentre v.map v.tile c
centre_of_copy m t c v map tile q = subst (λ (x : MapValue × ℕ). IsCentre x.0 x.1 c) (λ i. (sym map i, sym tile i)) q

pub needs_of_copy : (m : MapValue) (t : ℕ) (c : Site) (v : CacheValue) (needs : List ℕ) → v.map ≡ m → v.tile ≡ t → needs ≡ needs_of m t c → needs ≡ needs_of v.map v.tile c
needs_of_copy m t c v needs map tile q = q ∙ (λ i. needs_of (sym map i) (sym tile i) c)

pub board_of_copy : (m : MapValue) (t : ℕ) (v : CacheValue) (end : EndValue) → v.map ≡ m → v.tile ≡ t → IsEndOf m t end → IsEndOf v.map v.tile end
board_of_copy m t v end map owner q = subst (λ (x : MapValue × ℕ). IsEndOf x.0 x.1 end) (λ i. (sym map i, sym owner i)) q
