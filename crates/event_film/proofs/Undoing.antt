-- A window that is put back where an event was.
use Rattle.std.proofs.Common.{ℕ, ◌≡◌, ◌<◌, true, List, [], ◌∷◌, length, get_or, map, refl, ap, sym, subst, ◌∙◌, arith, Option, Some, None, inl}
use Rattle.std.specs.List.{range_with_len}
use Rattle.std.proofs.lemmas.Bool.Decides.{nat_tests}
use Rattle.std.proofs.lemmas.List.FromFn.{get_or-map-range_with_len, length-map-range_with_len}
use Rattle.std.proofs.lemmas.List.{same_lists, get_or_default}
use Rattle.cell_grid.proofs.Windows.{seen-at}
use Rattle.bit_field.specs.Atom.{empty_atom}
use Rattle.window_sites.specs.Inner.{site_numbers}
use Rattle.window_sites.specs.Window.{WindowValue}
use Rattle.list_laws.proofs.Members.{In, filter_in, range_in}
use Rattle.cell_grid.specs.Grid.{GridValue, atom_left, event, is_place, place_of, put_window, atom_at_place, sites_at, window_of}
use Rattle.event_film.specs.Films.{kept_of, restore, UndoesAll}

-- a place that a site lies at
placed_at : (p : Option ℕ) (i : ℕ) → is_place p i ≡ true → p ≡ Some i
placed_at None i h = cc
placed_at (Some j) i h = let same : j ≡ i = grind (arith, nat_tests) in ap Some same

-- the sites at a place are the same once a window is written
sites_same : (g : GridValue) (x y i : ℕ) (w : WindowValue) (ns : List ℕ) → sites_at (put_window g x y w) x y i ns ≡ sites_at g x y i ns
unfolding put_window
sites_same g x y i w ns = refl

number_small : (n : ℕ) → In n site_numbers → n < 41
number_small n h = let r = range_in 0 41 n h in omega (arith, r.1)

-- the atom that a window of a grid leaves at a place of another grid is that of the first, if it is where no site of the window lies
left_at : (h g : GridValue) (x y i : ℕ) → (sites_at g x y i site_numbers ≡ [] → get_or h.atoms i empty_atom ≡ get_or g.atoms i empty_atom) → atom_left h (window_of g x y) i (sites_at g x y i site_numbers) ≡ get_or g.atoms i empty_atom
left_at h g x y i untouched = go (sites_at g x y i site_numbers) refl
  where
    numbers : (n : ℕ) → In n (sites_at g x y i site_numbers) → n < 41
    numbers n m = number_small n (filter_in (λ k. is_place (place_of g x y k) i) site_numbers n m).0

    here : (n : ℕ) → In n (sites_at g x y i site_numbers) → is_place (place_of g x y n) i ≡ true
    here n m = (filter_in (λ k. is_place (place_of g x y k) i) site_numbers n m).1

    go : (ns : List ℕ) → sites_at g x y i site_numbers ≡ ns → atom_left h (window_of g x y) i ns ≡ get_or g.atoms i empty_atom
    go [] is = untouched is
    go (n ∷ ns) is =
        let mine : In n (sites_at g x y i site_numbers) = subst (In n) (sym is) (inl refl) in
        seen-at g x y n (numbers n mine) ∙ ap (atom_at_place g) (placed_at (place_of g x y n) i (here n mine))

-- the atom of a place that was written and written back
back_at : (g : GridValue) (x y : ℕ) (w : WindowValue) (i : ℕ) → i < length g.atoms →
    atom_left (put_window g x y w) (window_of g x y) i (sites_at g x y i site_numbers) ≡ get_or g.atoms i empty_atom
unfolding put_window
back_at g x y w i lt =
    left_at (put_window g x y w) g x y i (λ none.
    get_or-map-range_with_len (λ k. atom_left g w k (sites_at g x y k site_numbers)) 0 (length g.atoms) i i empty_atom lt (omega arith)
    ∙ ap (atom_left g w i) none)

-- a window that is written, and then the one before it, leave the grid as it was
pub put_twice : (g : GridValue) (x y : ℕ) (w : WindowValue) → put_window (put_window g x y w) x y (window_of g x y) ≡ g
unfolding put_window
put_twice g x y w =
    let h = put_window g x y w in
    let long : length h.atoms ≡ length g.atoms = length-map-range_with_len (λ k. atom_left g w k (sites_at g x y k site_numbers)) 0 (length g.atoms) in
    let new = map (λ i. atom_left h (window_of g x y) i (sites_at g x y i site_numbers)) (range_with_len 0 (length h.atoms)) in
    let size : length new ≡ length g.atoms = length-map-range_with_len (λ i. atom_left h (window_of g x y) i (sites_at g x y i site_numbers)) 0 (length h.atoms) ∙ long in
    let atoms : new ≡ g.atoms =
    same_lists new g.atoms size (λ k d lt.
    get_or_default new k d empty_atom lt
    ∙ get_or-map-range_with_len (λ i. atom_left h (window_of g x y) i (sites_at g x y i site_numbers)) 0 (length h.atoms) k k empty_atom (omega (arith, lt, size, long)) (omega arith)
    ∙ back_at g x y w k (omega (arith, lt, size))
    ∙ get_or_default g.atoms k empty_atom d (omega (arith, lt, size))) in
    λ i. record { width = g.width; height = g.height; atoms = atoms i; live = g.live }

pub undone_all : UndoesAll
undone_all after g [] = refl
undone_all after g (r ∷ rs) =
    let next = event after g r.x r.y r.seed in
    ap (λ h. restore h (kept_of g r)) (undone_all after next rs) ∙ put_twice g r.x r.y (after (window_of g r.x r.y) r.seed)
