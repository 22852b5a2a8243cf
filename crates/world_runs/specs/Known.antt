-- A world whose types have names.
use Rattle.std.specs.Prelude.{ℕ, ◌≤◌, All, List}
use Rattle.window_sites.specs.Window.{WindowValue}
use Rattle.cell_grid.specs.Grid.{GridValue}
use Rattle.cell_grid.specs.Known.{BringsNone, IsKnown}
use Rattle.world_text.specs.declared.world.Placed.{Placed}

-- the atoms of a world are of the first n types
abbrev pub ArePlacedKnown : ℕ → List Placed → Type 0
ArePlacedKnown n atoms = All (λ (p : Placed). (1 ≤ p.atom.kind) × (p.atom.kind ≤ n)) atoms

-- If the atoms of a world are of the first n types, and no event brings an atom of another type into a window, the grid has none
-- either.
abbrev pub KeepsKnown : List Placed → (WindowValue → ℕ → WindowValue) → GridValue → Type 0
KeepsKnown atoms after g = (n : ℕ) → ArePlacedKnown n atoms → BringsNone n after → All (IsKnown n) g.atoms
