-- The numbers of a chain's legs, and their worlds.
use Rattle.std.specs.Prelude.{ℕ, ◌+◌, ◌-◌, ◌*◌, ◌%◌, ◌^◌, ◌==◌, fold, map, if◌then◌else◌}
use Rattle.cell_grid.specs.Grid.{GridValue}
use Rattle.draw_stream.specs.Plans.{PlanValue, seeded}
use Rattle.plane_acts.specs.declared.act.Act.{Act}
use Rattle.plane_acts.specs.declared.schedule.Once.{Once}
use Rattle.plane_acts.specs.declared.act.Act.TheVariants.{Attempts}
use Rattle.report_text.specs.Report.{Shown, shown_atoms}
use Rattle.tile_map.specs.Plane.{tiles_of}
use Rattle.world_text.specs.Named.{WorldValue, drawn}
use Rattle.world_text.specs.declared.world.Placed.{Placed}
use Rattle.chain_text.specs.Chain.{ChainValue}

-- the seed of leg k. The seeds of a leg are its own, one for each tile, one for the order, and one for its acts; tiles that are off
-- are counted, and legs are counted from 1 whatever the first one is
abbrev pub leg_seed : ChainValue → ℕ → ℕ
leg_seed c k = (c.seed + (k - 1) * (tiles_of c.plane + 2)) % 2 ^ 64

-- the seed of the order of a stepped leg
abbrev pub order_seed : ChainValue → ℕ → ℕ
order_seed c k = (leg_seed c k + tiles_of c.plane) % 2 ^ 64

-- the seed of the acts before a leg
abbrev pub act_seed : ChainValue → ℕ → ℕ
act_seed c k = (leg_seed c k + tiles_of c.plane + 1) % 2 ^ 64

-- how many attempts each tile draws after an act, if it was this many before
abbrev pub count_after : ℕ → Act → ℕ
count_after count (Attempts k) = k
count_after count a = count

-- how many attempts each tile draws after an act that is done once, if it was this many before: an act of another leg changes nothing
abbrev pub count_by : ℕ → ℕ → Once → ℕ
count_by k count o = if o.leg == k then count_after count o.act else count

-- how many attempts each tile draws in leg k: those of the last act of that leg that says so, or else the chain's
abbrev pub leg_attempts : ChainValue → ℕ → ℕ
leg_attempts c k = fold (count_by k) c.attempts c.schedule.once

-- the attempts of leg k
abbrev pub leg_plan : ChainValue → ℕ → PlanValue
leg_plan c k = seeded (leg_seed c k) (leg_attempts c k) c.plane.off (c.plane.w * c.plane.h)

-- a shown atom, as a world places it
abbrev pub placed : Shown → Placed
placed s = record { x = s.x; y = s.y; atom = s.atom }

-- the world of leg k over a grid: the plane of the chain, the leg's seeds and attempts, and the grid's atoms that are not empty,
-- in row order
abbrev pub leg_world : ChainValue → ℕ → GridValue → WorldValue
leg_world c k g = record {
  plane = c.plane;
  plan = leg_plan c k;
  atoms = map placed (shown_atoms g);
  order = drawn (order_seed c k);
}
