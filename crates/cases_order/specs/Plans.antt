-- Plans of few attempts.
use Rattle.std.specs.Prelude.{ℕ, ◌≡◌, ◌≤◌, ◌<◌, List, All, length}
use Rattle.draw_stream.specs.declared.attempt.Attempt.{Attempt}
use Rattle.draw_stream.specs.Plans.{PlanValue, IsPlan}

abbrev pub IsWithin : ℕ → Attempt → Type 0
IsWithin sites a = a.centre < sites

-- at most 100 attempts within a tile of this many sites
pub record IsScript (sites : ℕ) (list : List Attempt) : Type 0 where
  pub few : length list ≤ 100
  pub within : All (IsWithin sites) list

-- such attempts for each of this many tiles
pub record IsPlanFor (tiles sites : ℕ) (plan : PlanValue) : Type 0 where
  pub count : length plan.lists ≡ tiles
  pub scripts : All (IsScript sites) plan.lists
  pub plan_is : IsPlan plan
