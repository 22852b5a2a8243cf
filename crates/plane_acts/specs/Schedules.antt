-- Which acts are done before which leg, and what they make of a plane.
use Rattle.std.specs.Prelude.{ℕ, ◌+◌, ◌%◌, ◌≤◌, Bool, ◌==◌, List, [], ◌∷◌, ◌++◌, map, filter, All}
use Rattle.std.specs.List.Sorted.{IsNonDecreasingBy}
use Rattle.cell_grid.specs.Grid.{GridValue}
use Rattle.plane_acts.specs.Acts.{Act, IsActOn, after_act, words_drawn}
pub use Rattle.plane_acts.specs.declared.schedule.Every.{Every}
pub use Rattle.plane_acts.specs.declared.schedule.Once.{Once}

-- the acts that are done again and again, and those that are done once
pub record ScheduleValue : Type 0 where
  pub every : List Every
  pub once : List Once

-- periods are from 1, and the acts that are done once stand in the order of their legs
pub record IsSchedule (s : ScheduleValue) : Type 0 where
  pub periods : All (λ e. 1 ≤ e.period) s.every
  pub ordered : IsNonDecreasingBy (λ o. o.leg) s.once

-- the area of each act, if it has one, is one of a plane of this size
abbrev pub AreActsOn : ℕ → ℕ → ScheduleValue → Type 0
AreActsOn width height s = All (λ e. IsActOn width height e.act) s.every × All (λ o. IsActOn width height o.act) s.once

-- whether an act is due before a leg: its period divides the leg's number
abbrev pub is_due : ℕ → Every → Bool
is_due leg e = leg % e.period == 0

-- whether an act that is done once is done before this leg
abbrev pub is_of : ℕ → Once → Bool
is_of leg o = o.leg == leg

-- the acts before a leg, in the order in which they are done
abbrev pub acts_before : ScheduleValue → ℕ → List Act
acts_before s leg = map (λ e. e.act) (filter (is_due leg) s.every) ++ map (λ o. o.act) (filter (is_of leg) s.once)

-- the grid after acts, one after another: the words of the first are those of the stream of a seed from word n on, and those of each other one follow on those of the act before it
unfoldable pub after_acts : ℕ → ℕ → List Act → GridValue → GridValue
after_acts seed n [] g = g
after_acts seed n (act ∷ more) g = after_acts seed (n + words_drawn act) more (after_act seed n act g)

-- the grid after all acts before a leg, whose words are those of the stream of a seed from its first word on
abbrev pub acts : ScheduleValue → ℕ → ℕ → GridValue → GridValue
acts s leg seed g = after_acts seed 0 (acts_before s leg) g
