-- The numbers of acts that are in their ranges are small.
use Rattle.std.proofs.Common.{ℕ, ◌≡◌, ◌+◌, ◌*◌, ◌≤◌, ◌^◌, true, false, ◌&&◌, nat_le, nat_lt, arith}
use Rattle.list_laws.proofs.Tests.{both}
use Rattle.draw_stream.specs.Plans.{tiles_on}
use Rattle.tile_map.specs.Plane.{MapValue, IsMap}
use Rattle.tile_map.proofs.Spans.{test_le}
use Rattle.world_text.proofs.Drafts.{count_fits, few_at}
use Rattle.world_text.specs.Drafts.{between, too_many as world_too_many}
use Rattle.chain_text.specs.Drafts.{ChainDraft, IsChainDraft, IsSmall, IsSmallAct, act_in_range, area_in_range, in_range, asks_too_many}
use Rattle.chain_text.specs.Line.{Area, ActLine, IsFormedAct, IsRepeated, every, act, clear, put, erase, flip, attempts}

-- the sides of an area in its range
pub area_is : (m : MapValue) (a : Area) → area_in_range m a ≡ true → (1 ≤ a.w) × (1 ≤ a.h) × (a.x + a.w ≤ m.tx * m.w) × (a.y + a.h ≤ m.ty * m.h)
area_is m a h =
    let p = both (nat_le 1 a.w && nat_le 1 a.h) (nat_le (a.x + a.w) (m.tx * m.w) && nat_le (a.y + a.h) (m.ty * m.h)) h in
    let q = both (nat_le 1 a.w) (nat_le 1 a.h) p.0 in
    let r = both (nat_le (a.x + a.w) (m.tx * m.w)) (nat_le (a.y + a.h) (m.ty * m.h)) p.1 in
    (test_le 1 a.w q.0, test_le 1 a.h q.1, test_le (a.x + a.w) (m.tx * m.w) r.0, test_le (a.y + a.h) (m.ty * m.h) r.1)

-- a plane is at most 512 sites wide and high
pub sides : (m : MapValue) → IsMap m → (m.tx * m.w ≤ 512) × (m.ty * m.h ≤ 512)
sides m k = let s = k.sizes in (grind arith, grind arith)

area_small : (m : MapValue) (a : Area) → IsMap m → area_in_range m a ≡ true → IsSmall a
area_small m a k h = let p = area_is m a h in let q = sides m k in record { columns = omega (arith, p.2, q.0); rows = omega (arith, p.3, q.1) }

-- the numbers of an act in their ranges
act_small : (m : MapValue) (a : ActLine) → IsMap m → IsFormedAct a → IsRepeated a → act_in_range m a ≡ true → IsSmallAct a
act_small m (clear a) k f r h = area_small m a k h
act_small m (put a name s) k f r h = area_small m a k (both (area_in_range m a) (nat_lt s (2 ^ 71)) h).0
act_small m (erase p a) k f r h = (area_small m a k h, f)
act_small m (flip p a) k f r h = (area_small m a k h, f)
act_small m (attempts n) k f r h = absurd r

pub small_every : (d : ChainDraft) (k : ℕ) (a : ActLine) → IsChainDraft d → IsFormedAct a → IsRepeated a → in_range d (every k a) ≡ true → IsSmallAct a
unfolding in_range
small_every d k a shape formed repeated range = act_small d.world.plane a shape.world.map formed repeated (both (between 1 4294967295 k) (act_in_range d.world.plane a) range).1

pub small_once : (d : ChainDraft) (k : ℕ) (a : ActLine) → IsChainDraft d → IsFormedAct a → in_range d (act k a) ≡ true → asks_too_many d (act k a) ≡ false → IsSmallAct a
unfolding in_range world_too_many
small_once d k (attempts n) shape formed range few = count_fits n (tiles_on d.world.plane.off) shape.world.on (few_at n (tiles_on d.world.plane.off) few)
small_once d k (clear a) shape formed range few = act_small d.world.plane (clear a) shape.world.map formed tt (both (between d.leg 4294967295 k) (act_in_range d.world.plane (clear a)) range).1
small_once d k (put a name s) shape formed range few = act_small d.world.plane (put a name s) shape.world.map formed tt (both (between d.leg 4294967295 k) (act_in_range d.world.plane (put a name s)) range).1
small_once d k (erase p a) shape formed range few = act_small d.world.plane (erase p a) shape.world.map formed tt (both (between d.leg 4294967295 k) (act_in_range d.world.plane (erase p a)) range).1
small_once d k (flip p a) shape formed range few = act_small d.world.plane (flip p a) shape.world.map formed tt (both (between d.leg 4294967295 k) (act_in_range d.world.plane (flip p a)) range).1
