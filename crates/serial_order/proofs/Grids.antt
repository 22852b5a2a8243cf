-- One event on a flat grid, by the live sites of its window.
use Rattle.std.proofs.Common.{ℕ, ◌≡◌, ◌≤◌, ◌<◌, ◌+◌, ◌*◌, List, [], ◌∷◌, refl, sym, ap, subst, arith, inl, Bool, true, false, Option, Some, None, ◌∙◌, length, get_or, is_some}
use Rattle.std.specs.Prelude.{nat_lt, slice_index_or, if◌then◌else◌}
use Rattle.std.specs.Option.{option_map}
use Rattle.std.proofs.lemmas.Bool.Decides.{nat_tests}
use Rattle.std.proofs.lemmas.List.FromFn.{fill_by_all, get_or-map-range_with_len}
use Rattle.std.proofs.lemmas.Nat.{mul-add-lt}
use Rattle.list_laws.proofs.Members.{In, in_filter, filter_in, in_range, range_in}
use Rattle.list_laws.proofs.Ranges.{filter_none}
use Rattle.list_laws.proofs.Tests.{both}
use Rattle.bit_field.specs.Atom.{empty_atom}
use Rattle.window_sites.specs.Sites.{offset_of, shift}
use Rattle.window_sites.specs.Inner.{site_numbers}
use Rattle.window_sites.specs.Window.{WindowValue, atom_at}
use Rattle.tile_map.specs.Plane.{Site, MapValue, site, in_plane, is_on, is_live, owner_of, in_window}
use Rattle.tile_map.specs.Edges.{window_site, live_site}
use Rattle.tile_map.specs.Laws.{IsPlane}
use Rattle.cell_grid.specs.Grid.{GridValue, IsGrid, site_atom, place_by, live_place, place_of, atom_at_place, is_place, sites_at, window_of, atom_left, put_window, below}
use Rattle.cell_grid.proofs.Windows.{put-plane}
use Rattle.border_cache.specs.Cells.{CellValue}
use Rattle.plane_grid.specs.PlaneGrids.{IsGridOf}
use Rattle.border_cache.specs.Windows.{IsView}

-- the place of a site in row order
abbrev pub index : GridValue → Site → ℕ
index g s = s.y * g.width + s.x

not_true : (b : Bool) → b ≡ false → b ≡ true → ⊥
not_true true p q = cc
not_true false p q = cc

times_more : (a b w : ℕ) → a < b → a * w + w ≤ b * w
times_more a b w lt = grind arith

pub same_index : (x y u v w : ℕ) → x < w → u < w → y * w + x ≡ v * w + u → (x ≡ u) × (y ≡ v)
same_index x y u v w a b e = go (nat_lt y v) (nat_lt v y) refl refl
  where
    go : (s t : Bool) → nat_lt y v ≡ s → nat_lt v y ≡ t → (x ≡ u) × (y ≡ v)
    go true t p q = let lt : y < v = grind (arith, nat_tests, p) in let m = times_more y v w lt in absurd (omega (arith, m, e, a, b))
    go false true p q = let lt : v < y = grind (arith, nat_tests, q) in let m = times_more v y w lt in absurd (omega (arith, m, e, a, b))
    go false false p q =
        let same : y ≡ v = grind (arith, nat_tests, p, q) in
        let rows : y * w ≡ v * w = ap (λ z. z * w) same in
        (omega (arith, rows, e), same)

module _ (m : MapValue) (plane : IsPlane m) where
  pub in_columns : (s : Site) → is_live m s ≡ true → (s.x < m.tx * m.w) × (s.y < m.ty * m.h)
  in_columns s live =
      let p = both (in_plane m s) (is_on m (owner_of m s)) live in
      let q = both (nat_lt s.x (m.tx * m.w)) (nat_lt s.y (m.ty * m.h)) p.0 in
      (grind (arith, nat_tests, q.0), grind (arith, nat_tests, q.1))

  pub live_of : (c s : Site) → in_window m c s ≡ true → is_live m s ≡ true
  live_of c s h = (both (is_live m s) _ h).0

  -- a window's place on a grid of the plane is that of its live site
  pub place_is : (g : GridValue) → IsGridOf m g → (c : Site) (n : ℕ) → place_of g c.x c.y n ≡ option_map (index g) (window_site m c n)
  place_is g of c n = go (shift c.x (offset_of n).0) (shift c.y (offset_of n).1)
    where
      marked : (u v : ℕ) (a b : Bool) → nat_lt u g.width ≡ a → nat_lt v g.height ≡ b
          → live_place g.live (place_by g.width (if a then Some u else None) (if b then Some v else None)) ≡ option_map (index g) (if is_live m (site u v) then Some (site u v) else None)
      marked u v true true p q =
          let x : u < g.width = grind (arith, nat_tests, p) in
          let y : v < g.height = grind (arith, nat_tests, q) in
          let mark = of.live u v x y in
          ap (λ b. if b then Some (v * g.width + u) else None) mark ∙ pick (is_live m (site u v))
        where
          pick : (b : Bool) → (if b then Some (v * g.width + u) else None) ≡ option_map (index g) (if b then Some (site u v) else None)
          pick true = refl
          pick false = refl
      marked u v true false p q = sym (ap (λ b. option_map (index g) (if b then Some (site u v) else None)) (dead (is_live m (site u v)) refl))
        where
          dead : (b : Bool) → is_live m (site u v) ≡ b → is_live m (site u v) ≡ false
          dead true is = let r = in_columns (site u v) is in absurd (grind (arith, nat_tests, r.1, of.high, q))
          dead false is = is
      marked u v false b p q = none b ∙ sym (ap (λ b. option_map (index g) (if b then Some (site u v) else None)) (dead (is_live m (site u v)) refl))
        where
          none : (b : Bool) → live_place g.live (place_by g.width None (if b then Some v else None)) ≡ None
          none true = refl
          none false = refl

          dead : (b : Bool) → is_live m (site u v) ≡ b → is_live m (site u v) ≡ false
          dead true is = let r = in_columns (site u v) is in absurd (grind (arith, nat_tests, r.0, of.wide, p))
          dead false is = is

      half : (u : ℕ) (a : Bool) → live_place g.live (place_by g.width (if a then Some u else None) None) ≡ None
      half u true = refl
      half u false = refl

      go : (o q : Option ℕ) → live_place g.live (place_by g.width (below g.width o) (below g.height q)) ≡ option_map (index g) (live_site m o q)
      go None q = refl
      go (Some u) None = half u (nat_lt u g.width)
      go (Some u) (Some v) = marked u v (nat_lt u g.width) (nat_lt v g.height) refl refl

  -- a live site is one of the grid's
  pub index_live : (g : GridValue) → IsGridOf m g → IsGrid g → (s : Site) → is_live m s ≡ true → index g s < length g.atoms
  index_live g of good s live = let r = in_columns s live in let a = mul-add-lt s.y g.width s.x g.height (omega (arith, r.1, of.high)) (omega (arith, r.0, of.wide)) in omega (arith, a, good.whole)

  pub one_site : (g : GridValue) → IsGridOf m g → (s q : Site) → is_live m s ≡ true → is_live m q ≡ true → index g q ≡ index g s → q ≡ s
  one_site g of s q a b e =
      let x = in_columns s a in
      let y = in_columns q b in
      let r = same_index q.x q.y s.x s.y g.width (omega (arith, y.0, of.wide)) (omega (arith, x.0, of.wide)) e in
      λ i. record { x = r.0 i; y = r.1 i }

  -- the site that a number of a window names, where its place is this one
  named : (g : GridValue) → IsGridOf m g → (c s : Site) (n : ℕ) → n ≤ 40 → is_live m s ≡ true → is_place (place_of g c.x c.y n) (index g s) ≡ true → window_site m c n ≡ Some s
  named g of c s n le live h = go (window_site m c n) refl (sym (ap (λ o. is_place o (index g s)) (place_is g of c n)) ∙ h)
    where
      go : (o : Option Site) → window_site m c n ≡ o → is_place (option_map (index g) o) (index g s) ≡ true → window_site m c n ≡ Some s
      go None is q = absurd (cc (q))
      go (Some q) is e = is ∙ ap Some (one_site g of s q live (live_of c q (plane.windows.site c q n le is)) (grind (arith, nat_tests, e)))

  atom_is : (g : GridValue) → IsGridOf m g → IsGrid g → (c s : Site) (w : WindowValue) → is_live m s ≡ true → site_atom (put_window g c.x c.y w) s.x s.y ≡ atom_left g w (index g s) (sites_at g c.x c.y (index g s) site_numbers)
  unfolding put_window
  atom_is g of good c s w live =
      get_or-map-range_with_len (λ i. atom_left g w i (sites_at g c.x c.y i site_numbers)) 0 (length g.atoms) (index g s) (index g s) empty_atom (index_live g of good s live) (omega arith)

  -- a site of the window has the window's atom
  pub event_in : (g : GridValue) → IsGridOf m g → IsGrid g → (c s : Site) (w : WindowValue) → in_window m c s ≡ true → (n : ℕ) × (n < 41) × (window_site m c n ≡ Some s) × (site_atom (put_window g c.x c.y w) s.x s.y ≡ atom_at w n)
  event_in g of good c s w h = go (sites_at g c.x c.y (index g s) site_numbers) refl
    where
      live : is_live m s ≡ true
      live = live_of c s h

      k : (n : ℕ) × (n ≤ 40) × (window_site m c n ≡ Some s)
      k = plane.windows.number c s h

      here : is_place (place_of g c.x c.y k.0) (index g s) ≡ true
      here = ap (λ o. is_place o (index g s)) (place_is g of c k.0 ∙ ap (option_map (index g)) k.2) ∙ (grind (arith, nat_tests))

      inside : In k.0 (sites_at g c.x c.y (index g s) site_numbers)
      inside = in_filter (λ n. is_place (place_of g c.x c.y n) (index g s)) site_numbers k.0 (in_range 0 41 k.0 (omega arith) (omega (arith, k.1))) here

      go : (ns : List ℕ) → sites_at g c.x c.y (index g s) site_numbers ≡ ns → (n : ℕ) × (n < 41) × (window_site m c n ≡ Some s) × (site_atom (put_window g c.x c.y w) s.x s.y ≡ atom_at w n)
      go [] is = absurd (subst (In k.0) is inside)
      go (n ∷ ns) is =
          let r = filter_in (λ n. is_place (place_of g c.x c.y n) (index g s)) site_numbers n (subst (In n) (sym is) (inl refl)) in
          let lt : n < 41 = let q = range_in 0 41 n r.0 in omega (arith, q.1) in
          (n, lt, named g of c s n (omega (arith, lt)) live r.1, atom_is g of good c s w live ∙ ap (atom_left g w (index g s)) is)

  -- and any other site stays
  pub event_out : (g : GridValue) → IsGridOf m g → IsGrid g → (c s : Site) (w : WindowValue) → is_live m s ≡ true → in_window m c s ≡ false → site_atom (put_window g c.x c.y w) s.x s.y ≡ site_atom g s.x s.y
  event_out g of good c s w live h = atom_is g of good c s w live ∙ ap (atom_left g w (index g s)) (filter_none (λ n. is_place (place_of g c.x c.y n) (index g s)) 0 41 (λ n low high. no (is_place (place_of g c.x c.y n) (index g s)) n (omega (arith, high)) refl))
    where
      no : (b : Bool) (n : ℕ) → n ≤ 40 → is_place (place_of g c.x c.y n) (index g s) ≡ b → is_place (place_of g c.x c.y n) (index g s) ≡ false
      no true n le is = absurd (not_true (in_window m c s) h (plane.windows.site c s n le (named g of c s n le live is)))
      no false n le is = is

  pub grid_stays : (g : GridValue) → IsGridOf m g → (c : Site) (w : WindowValue) → IsGridOf m (put_window g c.x c.y w)
  grid_stays g of c w =
      let p = put-plane g c.x c.y w in
      record {
        wide = p.0 ∙ of.wide;
        high = p.1 ∙ of.high;
        live = λ x y a b. (λ i. slice_index_or (p.2 i) (y * p.0 i + x) false) ∙ of.live x y (omega (arith, a, p.0)) (omega (arith, b, p.1));
      }

  -- a view of cells whose atoms are those of the grid is the grid's window
  pub view_is : (g : GridValue) → IsGridOf m g → (c : Site) (cells : ℕ → CellValue) (view : WindowValue) → IsView m c cells view → ((n : ℕ) (s : Site) → n < 41 → window_site m c n ≡ Some s → (cells n).atom ≡ site_atom g s.x s.y) → view ≡ window_of g c.x c.y
  unfolding window_of
  view_is g of c cells view v same =
      let a = fill_by_all (λ n. atom_at_place g (place_of g c.x c.y n)) view.atoms 41 empty_atom v.valid.atoms (λ n lt. atom n lt (window_site m c n) refl) in
      let b = fill_by_all (λ n. is_some (place_of g c.x c.y n)) view.live 41 false v.valid.live (λ n lt. v.live n lt ∙ mark n (window_site m c n) refl) in
      λ i. record { atoms = a i; live = b i }
    where
      mark : (n : ℕ) (o : Option Site) → window_site m c n ≡ o → is_some (window_site m c n) ≡ is_some (place_of g c.x c.y n)
      mark n None is = ap is_some is ∙ sym (ap is_some (place_is g of c n ∙ ap (option_map (index g)) is))
      mark n (Some s) is = ap is_some is ∙ sym (ap is_some (place_is g of c n ∙ ap (option_map (index g)) is))

      atom : (n : ℕ) → n < 41 → (o : Option Site) → window_site m c n ≡ o → get_or view.atoms n empty_atom ≡ atom_at_place g (place_of g c.x c.y n)
      atom n lt None is = v.valid.hidden n lt (v.live n lt ∙ ap is_some is) ∙ sym (ap (atom_at_place g) (place_is g of c n ∙ ap (option_map (index g)) is))
      atom n lt (Some s) is = v.atoms n lt (ap is_some is) ∙ (same n s lt is ∙ sym (ap (atom_at_place g) (place_is g of c n ∙ ap (option_map (index g)) is)))
