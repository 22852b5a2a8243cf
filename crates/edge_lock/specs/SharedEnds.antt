-- What contracts see of one tile's end of its shared edges.
use Rattle.std.specs.Prelude.{◌≡◌, ℕ, ◌==◌, suc, List, [], ◌∷◌, map, slice_get, Some, if◌then◌else◌}
use Rattle.edge_lock.specs.EndLists.{EndLists, end_lists}
use Rattle.edge_lock.specs.EndValues.{EndValue, end_value}
use Rattle.edge_lock.specs.Passes.{EdgeValue, PassValue}

pub record SharedEndValue : Type 0 where
  pub tile : ℕ
  pub passes : List PassValue

abbrev pub shared_end_value : ℕ → List PassValue → SharedEndValue
shared_end_value tile passes = record { tile = tile; passes = passes }

-- the pass was made with the edge at its number
abbrev pub IsPassOf : List EdgeValue → PassValue → Type 0
IsPassOf edges pass = slice_get edges pass.of.number ≡ Some pass.of

-- by an edge's number: how many registers it has, or 0 if there is no pass for it
abbrev pub pass_registers : List PassValue → ℕ → ℕ
pass_registers [] edge = 0
pass_registers (pass ∷ passes) edge = if pass.of.number == edge then pass.of.registers else pass_registers passes edge

-- which end the pass of an edge is
abbrev pub pass_end : List PassValue → ℕ → ℕ
pass_end [] edge = 0
pass_end (pass ∷ passes) edge = if pass.of.number == edge then pass.end else pass_end passes edge

-- what the pass of an edge did
abbrev pub pass_lists : List PassValue → ℕ → EndLists
pass_lists [] edge = end_lists [] []
pass_lists (pass ∷ passes) edge = if pass.of.number == edge then pass.lists else pass_lists passes edge

-- the tile's end of its edges
abbrev pub shared_end : SharedEndValue → EndValue
shared_end end = end_value end.tile (pass_registers end.passes) (pass_end end.passes) (pass_lists end.passes)

-- the position of the pass of an edge
abbrev pub pass_position : List PassValue → ℕ → ℕ
pass_position [] edge = 0
pass_position (pass ∷ passes) edge = if pass.of.number == edge then 0 else suc (pass_position passes edge)

-- the edge and the end that a pass belongs to
pub record EdgeAndEnd : Type 0 where
  pub of : EdgeValue
  pub end : ℕ

abbrev pub edge_and_end : PassValue → EdgeAndEnd
edge_and_end pass = record { of = pass.of; end = pass.end }

-- the passes are of the same edges and the same ends, in the same order
pub record SamePasses (old new : SharedEndValue) : Type 0 where
  pub tile : new.tile ≡ old.tile
  pub passes : map edge_and_end new.passes ≡ map edge_and_end old.passes
