-- The runs of small worlds, computed.
use Rattle.std.proofs.Common.{[], ◌∷◌, ◌++◌, refl}
use Rattle.std.specs.Prelude.{replicate}
use Rattle.tile_map.specs.Edges.{reaches}
use Rattle.window_sites.specs.Sites.{sites}
use Rattle.cell_grid.specs.Grid.{window_of, put_window}
use Rattle.stepped_world.specs.Rows.{at_the_border, near_and_far, at_the_corner, CrossesTheBorder, IsRefusedAtTheBorder, NeedsNoEdgeAfar, GoesRound, IsRefusedInARow, AreComputed}

crosses : CrossesTheBorder (at_the_border (0 ∷ 0 ∷ 0 ∷ 0 ∷ 0 ∷ 0 ∷ 1 ∷ []))
unfolding reaches sites window_of put_window
crosses = record { notes = record { records_are = refl; abandoned_are = refl }; left = refl; there = refl }

refused : IsRefusedAtTheBorder (at_the_border (0 ∷ 0 ∷ 1 ∷ 1 ∷ []))
unfolding reaches sites window_of put_window
refused = record { notes = record { records_are = refl; abandoned_are = refl }; there = refl }

afar : NeedsNoEdgeAfar (near_and_far (1 ∷ 1 ∷ 0 ∷ 0 ∷ 0 ∷ 0 ∷ 0 ∷ 0 ∷ []))
unfolding reaches sites window_of put_window
afar = record { notes = record { records_are = refl; abandoned_are = refl }; there = refl }

round : GoesRound (at_the_corner (replicate 10 0 ++ replicate 10 1 ++ replicate 10 3 ++ replicate 10 2))
unfolding reaches sites
round = record { records_are = refl; abandoned_are = refl }

row : IsRefusedInARow (at_the_corner (3 ∷ 3 ∷ 3 ∷ 1 ∷ 1 ∷ 0 ∷ 0 ∷ 1 ∷ 1 ∷ []))
unfolding reaches sites
row = record { records_are = refl; abandoned_are = refl }

pub computed : AreComputed
computed = record { crosses = crosses; refused = refused; afar = afar; round = round; row = row }
