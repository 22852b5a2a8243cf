use Rattle.std.proofs.Common.{◌≡◌, ◌≤◌}
use Rattle.ulam_parse.specs.Nesting.{outside, depth}
use Rattle.ulam_parse.specs.Nests.{nest_of}
use Rattle.ulam_parse.specs.Sentences.{deep_from}
use Rattle.ulam_parse.specs.Views.{from}
use Rattle.ulam_parse.proofs.deep.first_deep.Given as goal

pub record Deep (small same : Type 0) : Type 0 where
  pub few : small
  pub goes : same

abbrev pub invariant-loop-at : goal.invariant-loop-at
invariant-loop-at l = Deep (depth (nest_of l.nest) ≤ 64) (deep_from 0 outside (from l.tape 0) ≡ deep_from l.at (nest_of l.nest) (from l.tape l.at))
