-- Atoms whose types have names.
use Rattle.std.specs.Prelude.{ℕ, ◌≡◌, ◌≤◌, ◌⊎◌}
use Rattle.bit_field.specs.Atom.{AtomValue, empty_atom}
use Rattle.window_sites.specs.Window.{WindowValue, atom_at}

-- an atom that is empty, or of one of the first n types
abbrev pub IsKnown : ℕ → AtomValue → Type 0
IsKnown n a = (a ≡ empty_atom) ⊎ ((1 ≤ a.kind) × (a.kind ≤ n))

-- each atom of a window is empty, or of one of the first n types
abbrev pub ShowsKnown : ℕ → WindowValue → Type 0
ShowsKnown n w = (k : ℕ) → IsKnown n (atom_at w k)

-- events that bring no other atoms into a window
abbrev pub BringsNone : ℕ → (WindowValue → ℕ → WindowValue) → Type 0
BringsNone n after = (w : WindowValue) (seed : ℕ) → ShowsKnown n w → ShowsKnown n (after w seed)
