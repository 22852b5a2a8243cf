-- A write at a site that is live, and the sites that are not.
use Rattle.std.proofs.Common.{◌≡◌, ◌≢◌, ℕ, List, ap, false, true}
use Rattle.std.specs.Prelude.{slice_index_or, slice_set}
use Rattle.std.proofs.lemmas.List.{get_or-set_other}
use Rattle.bit_field.specs.Atom.{AtomValue, empty_atom}
use Rattle.window_sites.specs.Window.{WindowValue, live_at}

live_apart : (w : WindowValue) (n p : ℕ) → live_at w p ≡ true → live_at w n ≡ false → n ≢ p
live_apart w n p a b e = let s : live_at w n ≡ live_at w p = ap (live_at w) e in absurd (cc)

-- the atom of a site that is not live stays
pub set_apart : (w : WindowValue) (xs : List AtomValue) (p n : ℕ) (a : AtomValue) → live_at w p ≡ true → live_at w n ≡ false → slice_index_or (slice_set xs p a) n empty_atom ≡ slice_index_or xs n empty_atom
set_apart w xs p n a live dead = get_or-set_other xs p n a empty_atom (live_apart w n p live dead)
