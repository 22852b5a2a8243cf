-- How a window is read from a grid, and how it is written, site by site.
use Rattle.std.proofs.Common.{ℕ, suc, ◌≡◌, ◌+◌, ◌<◌, Bool, true, false, List, ◌∷◌, length, get_or, set, drop, is_some, map, cond, zero, [], ◌*◌, ◌≤◌, Option, Some, None, refl, ap, sym, subst, ◌∙◌, arith, inl, inr}
use Rattle.std.proofs.Math.ListN.{length-set}
use Rattle.std.proofs.Math.Seq.{drop-cons}
use Rattle.std.proofs.lemmas.Bool.{cases_lt, lt-ltb}
use Rattle.std.proofs.lemmas.Bool.Decides.{eqb_tells}
use Rattle.std.proofs.lemmas.List.{get_or-set_other, get_or-set_same}
use Rattle.std.proofs.lemmas.List.FromFn.{fill_by_all, get_or-range_with_len, get_or-map-range_with_len, length-map-range_with_len}
use Rattle.std.proofs.lemmas.List.Edits.{fill_by_more}
use Rattle.std.specs.List.{range_with_len}
use Rattle.bit_field.specs.Atom.{AtomValue, empty_atom}
use Rattle.window_sites.specs.Sites.{sites}
use Rattle.window_sites.specs.Window.{WindowValue, IsWindow, atom_at}
use Rattle.cell_grid.specs.Grid.{GridValue, ArePlanesAlike, IsGrid, IsLive, live_place, place_of, atom_at_place, window_of, sites_at, is_place, atom_left, put_window}
use Rattle.window_sites.specs.Inner.{site_numbers}
use Rattle.cell_grid.specs.Steps.{IsLivePlace, AreLivePlaces, ArePlacesOf, with_atom}

seen-hidden : (g : GridValue) (p : Option ℕ) → is_some p ≡ false → atom_at_place g p ≡ empty_atom
seen-hidden g None h = refl
seen-hidden g (Some i) h = cc

-- the centre is live
pub centre-place : (g : GridValue) (x y : ℕ) → IsLive g x y → place_of g x y 0 ≡ Some (y * g.width + x)
unfolding sites
centre-place g x y h =
    let u : x + 0 ≡ x = omega arith in
    let v : y + 0 ≡ y = omega arith in
    rw (u, v, lt-ltb x g.width h.column, lt-ltb y g.height h.row, h.marked) refl

-- the centre has a place
pub centre_found : (g : GridValue) (x y : ℕ) (places : List (Option ℕ)) → IsLive g x y → ArePlacesOf g x y places → is_some (get_or places 0 None) ≡ true
centre_found g x y places h p = ap is_some (p 0 (omega arith) ∙ centre-place g x y h)

-- the places of the first n sites were found
pub record AreFound (g : GridValue) (x y n : ℕ) (places : List (Option ℕ)) : Type 0 where
  pub all : length places ≡ 41
  pub place : (k : ℕ) → k < n → get_or places k None ≡ place_of g x y k
  pub live : (k : ℕ) → k < n → IsLivePlace g (place_of g x y k)

pub AreFound-more : (g : GridValue) (x y n : ℕ) (places : List (Option ℕ)) (p : Option ℕ) → n < 41 → p ≡ place_of g x y n → IsLivePlace g p →
    AreFound g x y n places → AreFound g x y (n + 1) (set places n p)
AreFound-more g x y n places p small e live h = record {
  all = length-set places n p ∙ h.all;
  place = rw e (fill_by_more (λ k. place_of g x y k) places n None (omega (arith, h.all)) h.place);
  live = λ k lt. elim (cases_lt k n) [
    | inl before ↦ h.live k before
    | inr since ↦ let last : n ≡ k = omega (arith, since, lt) in subst (λ (v : ℕ). IsLivePlace g (place_of g x y v)) last (subst (IsLivePlace g) e live)
  ];
}

pub AreLivePlaces-found : (g : GridValue) (x y : ℕ) (places : List (Option ℕ)) → AreFound g x y 41 places → AreLivePlaces g places
AreLivePlaces-found g x y places h = λ n lt. subst (IsLivePlace g) (sym (h.place n lt)) (h.live n lt)

-- the first n sites were read
pub record IsRead (g : GridValue) (places : List (Option ℕ)) (n : ℕ) (atoms : List AtomValue) (live : List Bool) : Type 0 where
  pub all_atoms : length atoms ≡ 41
  pub all_live : length live ≡ 41
  pub atom : (k : ℕ) → k < n → get_or atoms k empty_atom ≡ atom_at_place g (get_or places k None)
  pub mark : (k : ℕ) → k < n → get_or live k false ≡ is_some (get_or places k None)

pub IsRead-more : (g : GridValue) (places : List (Option ℕ)) (n : ℕ) (atoms : List AtomValue) (live : List Bool) (a : AtomValue) (b : Bool) → n < 41 →
    a ≡ atom_at_place g (get_or places n None) → b ≡ is_some (get_or places n None) →
    IsRead g places n atoms live → IsRead g places (n + 1) (set atoms n a) (set live n b)
IsRead-more g places n atoms live a b small e f h =
    let p : n < length atoms = omega (arith, h.all_atoms) in
    let q : n < length live = omega (arith, h.all_live) in
    record {
      all_atoms = length-set atoms n a ∙ h.all_atoms;
      all_live = length-set live n b ∙ h.all_live;
      atom = rw e (fill_by_more (λ k. atom_at_place g (get_or places k None)) atoms n empty_atom p h.atom);
      mark = rw f (fill_by_more (λ k. is_some (get_or places k None)) live n false q h.mark);
    }

pub window_of-read : (g : GridValue) (x y : ℕ) (places : List (Option ℕ)) (atoms : List AtomValue) (live : List Bool) → ArePlacesOf g x y places → IsRead g places 41 atoms live →
    record { atoms = atoms; live = live } ≡ window_of g x y
unfolding window_of
window_of-read g x y places atoms live p h =
    let a = fill_by_all (λ n. atom_at_place g (place_of g x y n)) atoms 41 empty_atom h.all_atoms (λ k lt. h.atom k lt ∙ ap (atom_at_place g) (p k lt)) in
    let b = fill_by_all (λ n. is_some (place_of g x y n)) live 41 false h.all_live (λ k lt. h.mark k lt ∙ ap is_some (p k lt)) in
    rw (a, b) refl

pub IsWindow-read : (g : GridValue) (places : List (Option ℕ)) (atoms : List AtomValue) (live : List Bool) → is_some (get_or places 0 None) ≡ true → IsRead g places 41 atoms live →
    IsWindow (record { atoms = atoms; live = live })
IsWindow-read g places atoms live centre h = record {
  atoms = h.all_atoms;
  live = h.all_live;
  hidden = λ n small dark. h.atom n small ∙ seen-hidden g (get_or places n None) (sym (h.mark n small) ∙ dark);
  centre = h.mark 0 (omega arith) ∙ centre;
}

-- the sites from n on were written
pub record IsPut (g : GridValue) (x y : ℕ) (w : WindowValue) (n : ℕ) (h : GridValue) : Type 0 where
  pub width : h.width ≡ g.width
  pub height : h.height ≡ g.height
  pub live : h.live ≡ g.live
  pub whole : length h.atoms ≡ length g.atoms
  pub atom : (i : ℕ) → i < length g.atoms → get_or h.atoms i empty_atom ≡ atom_left g w i (sites_at g x y i (drop n site_numbers))

pub IsPut-none : (g : GridValue) (x y : ℕ) (w : WindowValue) → IsPut g x y w 41 g
IsPut-none g x y w = record { width = refl; height = refl; live = refl; whole = refl; atom = λ i lt. refl }

-- the number of a site stands at its own place
numbers-from : (n : ℕ) → n < 41 → drop n site_numbers ≡ n ∷ drop (n + 1) site_numbers
numbers-from n lt =
    let long : n < length site_numbers = lt in
    let next : suc n ≡ n + 1 = omega arith in
    let plain : 0 + n ≡ n = omega arith in
    let value : get_or site_numbers n 0 ≡ n = get_or-range_with_len 0 41 n 0 lt ∙ plain in
    drop-cons site_numbers n 0 long ∙ ap (λ v. v ∷ drop (suc n) site_numbers) value ∙ ap (λ k. n ∷ drop k site_numbers) next

-- one site more
put-site : (g h : GridValue) (x y : ℕ) (w : WindowValue) (n : ℕ) (ns : List ℕ) (p : Option ℕ) → p ≡ place_of g x y n → length h.atoms ≡ length g.atoms →
    ((i : ℕ) → i < length g.atoms → get_or h.atoms i empty_atom ≡ atom_left g w i (sites_at g x y i ns)) →
    (i : ℕ) → i < length g.atoms → get_or (with_atom h p (atom_at w n)).atoms i empty_atom ≡ atom_left g w i (sites_at g x y i (n ∷ ns))
put-site g h x y w n ns None is whole old = λ i lt. rw (← is) (old i lt)
put-site g h x y w n ns (Some j) is whole old = λ i lt.
    elim (eqb_tells j i) [
      | inl same ↦ rw (← is, same.0, same.1) (get_or-set_same h.atoms i (atom_at w n) empty_atom (omega arith))
      | inr other ↦ rw (← is, other.0) (get_or-set_other h.atoms j i (atom_at w n) empty_atom (λ e. other.1 (sym e)) ∙ old i lt)
    ]

with_atom-width : (g : GridValue) (p : Option ℕ) (a : AtomValue) → ((with_atom g p a).width ≡ g.width) × ((with_atom g p a).height ≡ g.height) × ((with_atom g p a).live ≡ g.live) × (length (with_atom g p a).atoms ≡ length g.atoms)
with_atom-width g None a = (refl, refl, refl, refl)
with_atom-width g (Some i) a = (refl, refl, refl, length-set g.atoms i a)

pub IsPut-more : (g h : GridValue) (x y : ℕ) (w : WindowValue) (n m : ℕ) (p : Option ℕ) → m ≡ n + 1 → n < 41 → p ≡ place_of g x y n → IsPut g x y w m h → IsPut g x y w n (with_atom h p (atom_at w n))
IsPut-more g h x y w n m p next lt is put =
    let size = with_atom-width h p (atom_at w n) in
    record {
      width = size.0 ∙ put.width;
      height = size.1 ∙ put.height;
      live = size.2 ∙ put.live;
      whole = size.3 ∙ put.whole;
      atom = rw (numbers-from n lt) (put-site g h x y w n (drop (n + 1) site_numbers) p is put.whole (rw next at put.atom));
    }

-- the sites from n on were written, whose places are known
pub record IsPutAt (g : GridValue) (places : List (Option ℕ)) (w : WindowValue) (n : ℕ) (h : GridValue) : Type 0 where
  pub width : h.width ≡ g.width
  pub height : h.height ≡ g.height
  pub live : h.live ≡ g.live
  pub whole : length h.atoms ≡ length g.atoms
  pub put : (x y : ℕ) → ArePlacesOf g x y places → IsPut g x y w n h

pub IsPutAt-none : (g : GridValue) (places : List (Option ℕ)) (w : WindowValue) → IsPutAt g places w 41 g
IsPutAt-none g places w = record { width = refl; height = refl; live = refl; whole = refl; put = λ x y p. IsPut-none g x y w }

pub IsPutAt-more : (g h : GridValue) (places : List (Option ℕ)) (w : WindowValue) (n m : ℕ) → m ≡ n + 1 → n < 41 → IsPutAt g places w m h → IsPutAt g places w n (with_atom h (get_or places n None) (atom_at w n))
IsPutAt-more g h places w n m next lt put =
    let size = with_atom-width h (get_or places n None) (atom_at w n) in
    record {
      width = size.0 ∙ put.width;
      height = size.1 ∙ put.height;
      live = size.2 ∙ put.live;
      whole = size.3 ∙ put.whole;
      put = λ x y p. IsPut-more g h x y w n m (get_or places n None) next lt (p n lt) (put.put x y p);
    }

-- the place of a live site is that in the grid with other atoms too
pub IsLivePlace-same : (g h : GridValue) (p : Option ℕ) → h.live ≡ g.live → length h.atoms ≡ length g.atoms → IsLivePlace g p → IsLivePlace h p
IsLivePlace-same g h None live whole k = k
IsLivePlace-same g h (Some i) live whole k = (omega (arith, whole, k.0), ap (λ marks. get_or marks i false) live ∙ k.1)

abbrev put-atoms : GridValue → ℕ → ℕ → WindowValue → List AtomValue
put-atoms g x y w = map (λ i. atom_left g w i (sites_at g x y i site_numbers)) (range_with_len 0 (length g.atoms))

pub put_window-done : (g h : GridValue) (x y : ℕ) (w : WindowValue) (n : ℕ) → n ≡ 0 → IsPut g x y w n h → h ≡ put_window g x y w
unfolding put_window
put_window-done g h x y w n none put =
    let all = rw none at put.atom in
    let atoms = fill_by_all (λ i. atom_left g w i (sites_at g x y i site_numbers)) h.atoms (length g.atoms) empty_atom put.whole all in
    ap (λ v. record { width = v; height = h.height; atoms = h.atoms; live = h.live }) put.width ∙ ap (λ v. record { width = g.width; height = v; atoms = h.atoms; live = h.live }) put.height
    ∙ ap (λ v. record { width = g.width; height = g.height; atoms = v; live = h.live }) atoms ∙ ap (λ v. record { width = g.width; height = g.height; atoms = put-atoms g x y w; live = v }) put.live

-- a place that a site has is live
live_place-live : (live : List Bool) (p : Option ℕ) (i : ℕ) → is_place (live_place live p) i ≡ true → get_or live i false ≡ true
live_place-live live None i h = cc
live_place-live live (Some j) i h = go (get_or live j false) refl h
  where
    go : (b : Bool) → get_or live j false ≡ b → is_place (cond b (Some j) None) i ≡ true → get_or live i false ≡ true
    go true is e = elim (eqb_tells j i) [
      | inl same ↦ rw (← same.1) is
      | inr other ↦ absurd (cc (e, other.0))
    ]
    go false is e = cc

-- what is written at a place that is not live is the old atom
pub atom_left-dead : (g : GridValue) (x y i : ℕ) (w : WindowValue) (ns : List ℕ) → get_or g.live i false ≡ false → atom_left g w i (sites_at g x y i ns) ≡ get_or g.atoms i empty_atom
atom_left-dead g x y i w [] dead = refl
atom_left-dead g x y i w (n ∷ ns) dead = go (is_place (place_of g x y n) i) refl (atom_left-dead g x y i w ns dead)
  where
    go : (b : Bool) → is_place (place_of g x y n) i ≡ b → atom_left g w i (sites_at g x y i ns) ≡ get_or g.atoms i empty_atom →
        atom_left g w i (cond b (n ∷ sites_at g x y i ns) (sites_at g x y i ns)) ≡ get_or g.atoms i empty_atom
    go true is rest = let live = live_place-live g.live _ i is in absurd (cc (live, dead))
    go false is rest = rest

pub put-plane : (g : GridValue) (x y : ℕ) (w : WindowValue) → ArePlanesAlike g (put_window g x y w)
unfolding put_window
put-plane g x y w = (refl, refl, refl)

-- what is written can be stored
pub IsGrid-put : (g : GridValue) (x y : ℕ) (w : WindowValue) → IsGrid g → IsGrid (put_window g x y w)
unfolding put_window
IsGrid-put g x y w h = record {
  wide = h.wide;
  not_wider = h.not_wider;
  high = h.high;
  not_higher = h.not_higher;
  whole = length-map-range_with_len _ 0 (length g.atoms) ∙ h.whole;
  marked = h.marked;
  hidden = λ i lt dead.
      get_or-map-range_with_len (λ i. atom_left g w i (sites_at g x y i site_numbers)) 0 (length g.atoms) i i empty_atom (omega (arith, lt, h.whole, h.marked)) (omega arith)
      ∙ atom_left-dead g x y i w site_numbers dead ∙ h.hidden i lt dead;
}

-- the atom of a site of the window
pub seen-at : (g : GridValue) (x y n : ℕ) → n < 41 → atom_at (window_of g x y) n ≡ atom_at_place g (place_of g x y n)
unfolding window_of
seen-at g x y n lt = get_or-map-range_with_len (λ n. atom_at_place g (place_of g x y n)) 0 41 n n empty_atom lt (omega arith)

pub centre-atom : (g : GridValue) (x y : ℕ) → IsLive g x y → atom_at (window_of g x y) 0 ≡ get_or g.atoms (y * g.width + x) empty_atom
centre-atom g x y h = seen-at g x y 0 (omega arith) ∙ ap (atom_at_place g) (centre-place g x y h)

seen-here : (g : GridValue) (p : Option ℕ) (i : ℕ) → is_place p i ≡ true → atom_at_place g p ≡ get_or g.atoms i empty_atom
seen-here g None i h = cc
seen-here g (Some j) i h = elim (eqb_tells j i) [
  | inl same ↦ rw same.1 refl
  | inr other ↦ absurd (cc (h, other.0))
]

atom_left-back : (g : GridValue) (x y i a k : ℕ) → a + k ≤ 41 → atom_left g (window_of g x y) i (sites_at g x y i (range_with_len a k)) ≡ get_or g.atoms i empty_atom
atom_left-back g x y i a zero le = refl
atom_left-back g x y i a (suc k) le = go (is_place (place_of g x y a) i) refl (atom_left-back g x y i (a + 1) k (omega (arith, le)))
  where
    go : (b : Bool) → is_place (place_of g x y a) i ≡ b → atom_left g (window_of g x y) i (sites_at g x y i (range_with_len (a + 1) k)) ≡ get_or g.atoms i empty_atom →
        atom_left g (window_of g x y) i (cond b (a ∷ sites_at g x y i (range_with_len (a + 1) k)) (sites_at g x y i (range_with_len (a + 1) k))) ≡ get_or g.atoms i empty_atom
    go true is rest = seen-at g x y a (omega (arith, le)) ∙ seen-here g (place_of g x y a) i is
    go false is rest = rest

-- a window that is written back as it was read changes nothing
pub put-back : (g : GridValue) (x y : ℕ) → put_window g x y (window_of g x y) ≡ g
unfolding put_window
put-back g x y =
    ap (λ (v : List AtomValue). record g { atoms = v })
    (sym (fill_by_all (λ i. atom_left g (window_of g x y) i (sites_at g x y i site_numbers)) g.atoms (length g.atoms) empty_atom refl (λ i lt. sym (atom_left-back g x y i 0 41 (omega arith)))))
