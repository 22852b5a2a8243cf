-- What the fields of a plan, and of the attempts of a tile, represent.
use Rattle.std.specs.Prelude.{ℕ, ◌≤◌, List, length, drop}
use Rattle.draw_stream.specs.declared.attempt.Attempt.{Attempt}
use Rattle.draw_stream.specs.declared.plan.Plan.{Plan}
use Rattle.draw_stream.specs.declared.plan.Plan.TheVariants.{Seeded, Scripted}
use Rattle.draw_stream.specs.declared.attempts.Rest.{Rest}
use Rattle.draw_stream.specs.declared.attempts.Rest.TheVariants.{Drawn, Listed}
use Rattle.draw_stream.specs.Attempts.{next_attempts}
use Rattle.draw_stream.specs.Plans.{PlanValue, IsPlan, seeded, scripted}
use Rattle.feast_base.specs.declared.limits.TheConstants.{MOST_SITES}

-- a tile may have this many sites
pub record IsSites (sites : ℕ) : Type 0 where
  pub some : 1 ≤ sites
  pub most : sites ≤ MOST_SITES

abbrev pub plan_of : Plan → PlanValue
plan_of (Seeded o) = seeded o.seed o.count o.off.items o.sites
plan_of (Scripted scripts) = scripted scripts.items

-- the attempts of a plan can be given
abbrev pub CanGive : Plan → Type 0
CanGive (Seeded o) = IsSites o.sites × IsPlan (seeded o.seed o.count o.off.items o.sites)
CanGive (Scripted scripts) = IsPlan (scripted scripts.items)

-- the attempts that are left
abbrev pub rest_of : Rest → List Attempt
rest_of (Drawn stream sites left) = next_attempts stream sites left
rest_of (Listed list next) = drop next list.items

-- the attempts that are left can be given
abbrev pub CanTake : Rest → Type 0
CanTake (Drawn stream sites left) = IsSites sites
CanTake (Listed list next) = next ≤ length list.items
