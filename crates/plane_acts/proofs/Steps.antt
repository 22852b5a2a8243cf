-- One site more of an act's area.
use Rattle.std.proofs.Common.{ℕ, ◌≡◌, ◌+◌, ◌*◌, ◌/◌, ◌%◌, ◌≤◌, ◌<◌, Bool, true, false, ◌&&◌, List, length, get_or, set, map, cond, refl, sym, subst, ap, ◌∙◌, arith, inl, inr}
use Rattle.std.specs.Prelude.{nat_lt}
use Rattle.std.specs.List.{range_with_len}
use Rattle.std.proofs.Math.Bool.{and-false, and-true}
use Rattle.std.proofs.Math.ListN.{length-set}
use Rattle.std.proofs.Math.Nat.{mod-add-div'}
use Rattle.std.proofs.lemmas.Bool.{cases_eq, cases_lt, lt-ltb, le-ltb}
use Rattle.std.proofs.lemmas.List.{get_or-set_other, get_or-set_same}
use Rattle.std.proofs.lemmas.List.FromFn.{fill_by_all, get_or-map-range_with_len, length-map-range_with_len}
use Rattle.std.proofs.lemmas.Nat.{mod-mul-add, div-mul-add}
use Rattle.bit_field.specs.Atom.{AtomValue, empty_atom}
use Rattle.cell_grid.specs.Grid.{GridValue, ArePlanesAlike, site_atom, with_site}
use Rattle.cell_grid.specs.Shut.{is_inside}
use Rattle.cell_grid.specs.declared.marks.Rectangle.{Rectangle}
use Rattle.draw_stream.specs.Words.{tile_state, tile_word}
use Rattle.plane_acts.specs.Acts.{Act, after_act, area_of, atom_after, atom_at_site, atom_left_at, is_reached, site_count, sites_before, words_per_site}
use Rattle.plane_acts.specs.Steps.{Start, IsUpTo, atom_so_far, grid_so_far, is_reached_by, sites_above}
use Rattle.plane_acts.proofs.Sites.{Lies, above_top, above_bottom, lies-inside, before_few, one_column, one_row}

-- a test of a choice, one way and the other
chosen : {A : Type 0} (b c : Bool) (x y : A) → b ≡ c → cond b x y ≡ cond c x y
chosen b c x y e = ap (λ t. cond t x y) e

-- the plane of a grid stays
pub alike-so_far : (act : Act) (s : Start) (count : ℕ) → ArePlanesAlike s.grid (grid_so_far act s count)
unfolding grid_so_far
alike-so_far act s count = (refl, refl, refl)

pub alike-after_act : (seed n : ℕ) (act : Act) (g : GridValue) → ArePlanesAlike g (after_act seed n act g)
unfolding after_act
alike-after_act seed n act g = (refl, refl, refl)

-- before the first site
pub so_far-none : (act : Act) (s : Start) → grid_so_far act s 0 ≡ s.grid
unfolding grid_so_far
so_far-none act s =
    let old = s.grid in
    let at : (k : ℕ) → k < length old.atoms → get_or old.atoms k empty_atom ≡ atom_so_far act s 0 k = λ k lt.
    let a = get_or old.atoms k empty_atom in
    let r = is_reached old (area_of act) k in
    let no = ap (λ t. r && t) (le-ltb (sites_before (area_of act) (k % old.width) (k / old.width)) 0 (omega arith)) ∙ and-false r in
    sym (chosen _ false (atom_at_site s.seed s.first act (k % old.width) (k / old.width) a) a no) in
    ap (λ atoms. record old { atoms = atoms }) (sym (fill_by_all (atom_so_far act s 0) old.atoms (length old.atoms) empty_atom refl at))

second : (a b : Bool) → (a && b) ≡ true → b ≡ true
second true b h = h
second false b h = cc

pub lies-reached : (g : GridValue) (area : Rectangle) (k : ℕ) → is_reached g area k ≡ true → Lies area (k % g.width) (k / g.width)
lies-reached g area k e = lies-inside area _ _ (second _ _ e)

-- behind the last site
pub so_far-all : (act : Act) (s : Start) → grid_so_far act s (site_count (area_of act)) ≡ after_act s.seed s.first act s.grid
unfolding grid_so_far after_act
so_far-all act s =
    let old = s.grid in
    let all = site_count (area_of act) in
    let many = length old.atoms in
    let same : (k : ℕ) → is_reached_by old (area_of act) all k ≡ is_reached old (area_of act) k = λ k. whole k (is_reached old (area_of act) k) refl in
    let at : (k : ℕ) → k < many → get_or (map (atom_so_far act s all) (range_with_len 0 many)) k empty_atom ≡ atom_left_at s.seed s.first act old k = λ k lt.
    let a = get_or old.atoms k empty_atom in
    get_or-map-range_with_len (atom_so_far act s all) 0 many k k empty_atom lt (omega arith)
    ∙ chosen _ _ (atom_at_site s.seed s.first act (k % old.width) (k / old.width) a) a (same k) in
    ap (λ atoms. record old { atoms = atoms }) (fill_by_all (atom_left_at s.seed s.first act old) _ many empty_atom (length-map-range_with_len (atom_so_far act s all) 0 many) at)
  where
    whole : (k : ℕ) (b : Bool) → is_reached s.grid (area_of act) k ≡ b → (b && nat_lt (sites_before (area_of act) (k % s.grid.width) (k / s.grid.width)) (site_count (area_of act))) ≡ b
    whole k false e = refl
    whole k true e = lt-ltb _ _ (before_few (area_of act) _ _ (lies-reached s.grid (area_of act) k e))

length-so_far : (act : Act) (s : Start) (count : ℕ) → length (grid_so_far act s count).atoms ≡ length s.grid.atoms
unfolding grid_so_far
length-so_far act s count = length-map-range_with_len (atom_so_far act s count) 0 (length s.grid.atoms)

so_far-at : (act : Act) (s : Start) (count k : ℕ) → k < length s.grid.atoms → get_or (grid_so_far act s count).atoms k empty_atom ≡ atom_so_far act s count k
unfolding grid_so_far
so_far-at act s count k lt = get_or-map-range_with_len (atom_so_far act s count) 0 (length s.grid.atoms) k k empty_atom lt (omega arith)

-- a grid on the plane of the start that has the atoms of a step
so_far-is : (act : Act) (s : Start) (count : ℕ) (atoms : List AtomValue) → length atoms ≡ length s.grid.atoms →
    ((k : ℕ) → k < length s.grid.atoms → get_or atoms k empty_atom ≡ atom_so_far act s count k) → record s.grid { atoms = atoms } ≡ grid_so_far act s count
unfolding grid_so_far
so_far-is act s count atoms long at =
    ap (λ l. record s.grid { atoms = l }) (fill_by_all (atom_so_far act s count) atoms (length s.grid.atoms) empty_atom long at)

-- a step less is the same for all sites but one
less_more : (a c : ℕ) → (a ≡ c → ⊥) → nat_lt a c ≡ nat_lt a (c + 1)
less_more a c ne = elim (cases_lt a c) [
  | inl less ↦ lt-ltb a c less ∙ sym (lt-ltb a (c + 1) (omega (arith, less)))
  | inr not ↦
      let far : c + 1 ≤ a = grind (arith, ne, not) in
      le-ltb a c not ∙ sym (le-ltb a (c + 1) far)
]

elsewhere : (g : GridValue) (area : Rectangle) (x y k : ℕ) → Lies area x y → (k ≡ y * g.width + x → ⊥) →
    is_reached_by g area (sites_before area x y) k ≡ is_reached_by g area (sites_before area x y + 1) k
elsewhere g area x y k here ne = go (is_reached g area k) refl
  where
    u : ℕ
    u = k % g.width

    v : ℕ
    v = k / g.width

    go : (b : Bool) → is_reached g area k ≡ b → (b && nat_lt (sites_before area u v) (sites_before area x y)) ≡ (b && nat_lt (sites_before area u v) (sites_before area x y + 1))
    go false e = refl
    go true e =
        let there = lies-reached g area k e in
        less_more (sites_before area u v) (sites_before area x y)
        (λ same.
        let column = one_column area u v x y there here same in
        let row = one_row area u v x y there here same in
        let place = mod-add-div' k g.width in
        let f = ap (λ n. n * g.width) row in
        ne (omega (arith, place, column, f)))

-- the site at which the act is next
here-test : (g : GridValue) (area : Rectangle) (x y count : ℕ) → x < g.width → is_inside area x y ≡ true →
    is_reached_by g area count (y * g.width + x) ≡ (get_or g.live (y * g.width + x) false && nat_lt (sites_before area x y) count)
here-test g area x y count within inside =
    let w : ℕ = g.width in
    let live = get_or g.live (y * w + x) false in
    let column = mod-mul-add y w x within in
    let row = div-mul-add y w x within in
    let test : ℕ → ℕ → Bool = λ u v. (live && is_inside area u v) && nat_lt (sites_before area u v) count in
    ap (λ u. test u ((y * w + x) / w)) column
    ∙ ap (λ v. test x v) row
    ∙ ap (λ b. (live && b) && nat_lt (sites_before area x y) count) inside
    ∙ ap (λ b. b && nat_lt (sites_before area x y) count) (and-true live)

here-after : (act : Act) (s : Start) (x y : ℕ) → x < s.grid.width → is_inside (area_of act) x y ≡ true → get_or s.grid.live (y * s.grid.width + x) false ≡ true →
    atom_so_far act s (sites_before (area_of act) x y + 1) (y * s.grid.width + x) ≡ atom_at_site s.seed s.first act x y (get_or s.grid.atoms (y * s.grid.width + x) empty_atom)
here-after act s x y within inside live =
    let w : ℕ = s.grid.width in
    let p : ℕ = y * w + x in
    let a = get_or s.grid.atoms p empty_atom in
    let k : ℕ = sites_before (area_of act) x y in
    let test : is_reached_by s.grid (area_of act) (k + 1) p ≡ true =
    here-test s.grid (area_of act) x y (k + 1) within inside ∙ ap (λ b. b && nat_lt k (k + 1)) live ∙ lt-ltb k (k + 1) (omega arith) in
    let made : ℕ → ℕ → AtomValue = λ u v. atom_at_site s.seed s.first act u v a in
    chosen _ true (made (p % w) (p / w)) a test
    ∙ ap (λ u. made u (p / w)) (mod-mul-add y w x within)
    ∙ ap (λ v. made x v) (div-mul-add y w x within)

here-before : (act : Act) (s : Start) (x y : ℕ) → x < s.grid.width → is_inside (area_of act) x y ≡ true →
    atom_so_far act s (sites_before (area_of act) x y) (y * s.grid.width + x) ≡ get_or s.grid.atoms (y * s.grid.width + x) empty_atom
here-before act s x y within inside =
    let w : ℕ = s.grid.width in
    let p : ℕ = y * w + x in
    let a = get_or s.grid.atoms p empty_atom in
    let k : ℕ = sites_before (area_of act) x y in
    let live = get_or s.grid.live p false in
    let test : is_reached_by s.grid (area_of act) k p ≡ false =
    here-test s.grid (area_of act) x y k within inside ∙ ap (λ b. live && b) (le-ltb k k (omega arith)) ∙ and-false live in
    chosen _ false (atom_at_site s.seed s.first act (p % w) (p / w) a) a test

-- at a site that is not live nothing changes
pub step-dead : (act : Act) (s : Start) (x y : ℕ) → x < s.grid.width → is_inside (area_of act) x y ≡ true → get_or s.grid.live (y * s.grid.width + x) false ≡ false →
    grid_so_far act s (sites_before (area_of act) x y) ≡ grid_so_far act s (sites_before (area_of act) x y + 1)
unfolding grid_so_far
step-dead act s x y within inside dead =
    let g = s.grid in
    let area = area_of act in
    let p : ℕ = y * g.width + x in
    let k : ℕ = sites_before area x y in
    let tests : (i : ℕ) → is_reached_by g area k i ≡ is_reached_by g area (k + 1) i = λ i. elim (cases_eq i p) [
      | inl same ↦
          let at : (count : ℕ) → is_reached_by g area count p ≡ false = λ count. here-test g area x y count within inside ∙ ap (λ b. b && nat_lt k count) dead in
          ap (is_reached_by g area k) same ∙ at k ∙ sym (at (k + 1)) ∙ sym (ap (is_reached_by g area (k + 1)) same)
      | inr other ↦ elsewhere g area x y i (lies-inside area x y inside) other
    ] in
    so_far-is act s (k + 1) (grid_so_far act s k).atoms (length-so_far act s k)
    (λ i lt. let a = get_or g.atoms i empty_atom in so_far-at act s k i lt ∙ chosen _ _ (atom_at_site s.seed s.first act (i % g.width) (i / g.width) a) a (tests i))

-- a live site gets its atom
pub step-live : (act : Act) (s : Start) (x y : ℕ) (atom : AtomValue) → x < s.grid.width → is_inside (area_of act) x y ≡ true → get_or s.grid.live (y * s.grid.width + x) false ≡ true →
    atom ≡ atom_at_site s.seed s.first act x y (site_atom (grid_so_far act s (sites_before (area_of act) x y)) x y) →
    with_site (grid_so_far act s (sites_before (area_of act) x y)) x y atom ≡ grid_so_far act s (sites_before (area_of act) x y + 1)
unfolding grid_so_far
step-live act s x y atom within inside live is =
    let g = s.grid in
    let area = area_of act in
    let p : ℕ = y * g.width + x in
    let k : ℕ = sites_before area x y in
    let old = (grid_so_far act s k).atoms in
    let at : (i : ℕ) → i < length g.atoms → get_or (set old p atom) i empty_atom ≡ atom_so_far act s (k + 1) i = λ i lt. elim (cases_eq i p) [
      | inl same ↦
          let long = length-so_far act s k in
          let in_old : p < length old = omega (arith, long, same, lt) in
          let in_new : p < length g.atoms = omega (arith, same, lt) in
          let was = so_far-at act s k p in_new ∙ here-before act s x y within inside in
          ap (λ j. get_or (set old p atom) j empty_atom) same
          ∙ get_or-set_same old p atom empty_atom in_old
          ∙ is
          ∙ ap (atom_at_site s.seed s.first act x y) was
          ∙ sym (here-after act s x y within inside live)
          ∙ sym (ap (atom_so_far act s (k + 1)) same)
      | inr other ↦
          let a = get_or g.atoms i empty_atom in
          get_or-set_other old p i atom empty_atom other
          ∙ so_far-at act s k i lt
          ∙ chosen _ _ (atom_at_site s.seed s.first act (i % g.width) (i / g.width) a) a (elsewhere g area x y i (lies-inside area x y inside) other)
    ] in
    so_far-is act s (k + 1) (set old p atom) (length-set old p atom ∙ length-so_far act s k) at

-- the state of the stream after one site more
pub words-more : (act : Act) (s : Start) (k : ℕ) (words : List ℕ) → words ≡ tile_state s.seed (s.first + words_per_site act * k + words_per_site act) → words ≡ tile_state s.seed (s.first + words_per_site act * (k + 1))
words-more act s k words at =
    let n : ℕ = words_per_site act in
    let e : n * (k + 1) ≡ n * k + n = grind arith in
    at ∙ ap (tile_state s.seed) (omega (arith, e))

-- one site more, live or not
pub site-live : (act : Act) (s : Start) (x y : ℕ) (w0 w1 : List ℕ) (g h : GridValue) (atom : AtomValue) → IsUpTo act s (sites_before (area_of act) x y) w0 g → x < g.width → is_inside (area_of act) x y ≡ true → get_or g.live (y * g.width + x) false ≡ true →
    ((seed n : ℕ) → w0 ≡ tile_state seed n → atom ≡ atom_after act (tile_word seed n) (tile_word seed (n + 1)) (site_atom g x y)) → ((seed n : ℕ) → w0 ≡ tile_state seed n → w1 ≡ tile_state seed (n + words_per_site act)) →
    h ≡ with_site g x y atom → IsUpTo act s (sites_before (area_of act) x y + 1) w1 h
unfolding grid_so_far
site-live act s x y w0 w1 g h atom up within inside live made words is =
    let k : ℕ = sites_before (area_of act) x y in
    let n : ℕ = s.first + words_per_site act * k in
    let P : GridValue → Type 0 = λ q. x < q.width → get_or q.live (y * q.width + x) false ≡ true → atom ≡ atom_at_site s.seed s.first act x y (site_atom q x y) → h ≡ with_site q x y atom → h ≡ grid_so_far act s (k + 1) in
    let at_so : P (grid_so_far act s k) = λ a b c d. d ∙ step-live act s x y atom a inside b c in
    record {
      words_at = words-more act s k w1 (words s.seed n up.words_at);
      grid_at = subst P (sym up.grid_at) at_so within live (made s.seed n up.words_at) is;
    }

pub site-dead : (act : Act) (s : Start) (x y : ℕ) (w0 w1 : List ℕ) (g : GridValue) → IsUpTo act s (sites_before (area_of act) x y) w0 g → x < g.width → is_inside (area_of act) x y ≡ true → get_or g.live (y * g.width + x) false ≡ false →
    ((seed n : ℕ) → w0 ≡ tile_state seed n → w1 ≡ tile_state seed (n + words_per_site act)) → IsUpTo act s (sites_before (area_of act) x y + 1) w1 g
unfolding grid_so_far
site-dead act s x y w0 w1 g up within inside dead words =
    let k : ℕ = sites_before (area_of act) x y in
    let n : ℕ = s.first + words_per_site act * k in
    let P : GridValue → Type 0 = λ q. x < q.width → get_or q.live (y * q.width + x) false ≡ false → grid_so_far act s k ≡ grid_so_far act s (k + 1) in
    let at_so : P (grid_so_far act s k) = λ a b. step-dead act s x y a inside b in
    record {
      words_at = words-more act s k w1 (words s.seed n up.words_at);
      grid_at = up.grid_at ∙ subst P (sym up.grid_at) at_so within dead;
    }

-- an act from its first site to its last
pub act-begun : (act : Act) (seed n : ℕ) (words : List ℕ) (g : GridValue) → words ≡ tile_state seed n → IsUpTo act (record { seed = seed; first = n; grid = g }) (sites_above (area_of act) (area_of act).top) words g
act-begun act seed n words g at =
    let s : Start = record { seed = seed; first = n; grid = g } in
    let P : ℕ → Type 0 = λ k. IsUpTo act s k words g in
    let none : n ≡ n + words_per_site act * 0 = grind arith in
    subst P (sym (above_top (area_of act))) (record { words_at = at ∙ ap (tile_state seed) none; grid_at = sym (so_far-none act s) })

pub act-ended : (act : Act) (s : Start) (words : List ℕ) (g : GridValue) → IsUpTo act s (sites_above (area_of act) (area_of act).bottom) words g → IsUpTo act s (site_count (area_of act)) words g
act-ended act s words g up = let P : ℕ → Type 0 = λ k. IsUpTo act s k words g in subst P (above_bottom (area_of act)) up

pub act-left : (act : Act) (s : Start) (words : List ℕ) (g : GridValue) → IsUpTo act s (sites_above (area_of act) (area_of act).bottom) words g → g ≡ after_act s.seed s.first act s.grid
act-left act s words g up = (act-ended act s words g up).grid_at ∙ so_far-all act s
