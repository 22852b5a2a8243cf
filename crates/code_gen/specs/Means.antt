-- What the code of an element must do.
use Rattle.std.specs.Prelude.{◌≡◌, ℕ, Some}
use Rattle.window_sites.specs.Window.{WindowValue, atom_at}
use Rattle.stack_code.specs.Machine.{CodeValue, runs}
use Rattle.ulam_meaning.specs.Programs.{Program}
use Rattle.ulam_meaning.specs.Events.{behaves, failure, event_of, after}

-- On each window whose centre has the code's type, and each seed, the code of the element that is
-- class c leaves the window that the element leaves, and fails if the element fails, with its
-- number.
abbrev pub Means : Program → ℕ → CodeValue → Type 0
Means g c code = (w : WindowValue) (seed : ℕ) → (atom_at w 0).kind ≡ code.kind → (runs code w seed).over ≡ Some (after g w seed, failure (behaves (event_of w seed) g c w))
