-- The act that goes round: it counts its events, and each time goes to the next side.
use Rattle.std.specs.Prelude.{ℕ, ◌≡◌, ◌+◌, ◌==◌, nat_lt, if◌then◌else◌, refl}
use Rattle.bit_field.specs.Atom.{AtomValue, empty_atom}
use Rattle.window_sites.specs.Window.{WindowValue, atom_at, put_at, swap_at}
use Rattle.cell_grid.specs.Tried.{is_vacant}

-- one event more, up to three
abbrev pub counted : AtomValue → AtomValue
counted a = if nat_lt a.state 3 then record { kind = a.kind; state = a.state + 1 } else a

-- east, south, west and north, by the number of events before
abbrev pub next_site : ℕ → ℕ
next_site n = if n == 0 then 4 else (if n == 1 then 3 else (if n == 2 then 1 else 2))

abbrev pub after_round : WindowValue → ℕ → WindowValue
after_round w seed = if is_vacant (atom_at w 0) then w else swap_at (put_at w 0 (counted (atom_at w 0))) 0 (next_site (atom_at w 0).state)

-- a window whose centre is empty stays
pub idle-round : (w : WindowValue) (seed : ℕ) → atom_at w 0 ≡ empty_atom → after_round w seed ≡ w
idle-round w seed h = rw h refl
