-- What codes do to a window.
use Rattle.std.specs.Prelude.{ℕ, zero, suc, ◌≡◌, List, Option, Some, None, slice_get}
use Rattle.bit_field.specs.Atom.{empty_atom}
use Rattle.window_sites.specs.Window.{WindowValue, atom_at}
use Rattle.stack_code.specs.Machine.{CodeValue, runs}

-- the code of the element of a type number, if there is one
abbrev pub code_of : List CodeValue → ℕ → Option CodeValue
code_of codes zero = None
code_of codes (suc k) = slice_get codes k

-- the window of a run that came to its end or failed
abbrev pub left_by : WindowValue → Option (WindowValue × Option ℕ) → WindowValue
left_by w None = w
left_by w (Some over) = over.0

-- the window after an event of a code; without a code it stays as it is
abbrev pub after_by : WindowValue → ℕ → Option CodeValue → WindowValue
after_by w seed None = w
after_by w seed (Some code) = left_by w (runs code w seed).over

-- The window after an event of the code whose type number the atom at the centre has. If its run
-- fails, this is the old window with an empty centre. If no code has the number, it is the old window.
unfoldable pub after : List CodeValue → WindowValue → ℕ → WindowValue
after codes w seed = after_by w seed (code_of codes (atom_at w 0).kind)

-- an empty centre leaves the window as it is
pub idle-after : (codes : List CodeValue) (w : WindowValue) (seed : ℕ) → atom_at w 0 ≡ empty_atom → after codes w seed ≡ w
unfolding after
idle-after codes w seed h = λ i. after_by w seed (code_of codes (h i).kind)
