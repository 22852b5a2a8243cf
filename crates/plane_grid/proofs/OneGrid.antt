-- A grid of a plane is known by the atoms of its live sites.
use Rattle.std.proofs.Common.{ℕ, ◌≡◌, ◌<◌, ◌+◌, ◌*◌, ◌/◌, ◌%◌, refl, sym, ap, arith, Bool, true, false, ◌∙◌, length, get_or, mod-lt, div-add-mod'}
use Rattle.std.proofs.lemmas.List.FromFn.{fill_by_all}
use Rattle.list_laws.proofs.Numbers.{div_lt}
use Rattle.bit_field.specs.Atom.{empty_atom}
use Rattle.tile_map.specs.Plane.{Site, MapValue, site, is_live}
use Rattle.cell_grid.specs.Grid.{GridValue, IsGrid, site_atom}
use Rattle.plane_grid.specs.PlaneGrids.{IsGridOf}

-- two grids of a plane with the same atoms at its live sites are one grid
pub one_grid : (m : MapValue) (g h : GridValue) → IsGrid g → IsGrid h → IsGridOf m g → IsGridOf m h → ((s : Site) → is_live m s ≡ true → site_atom g s.x s.y ≡ site_atom h s.x s.y) → g ≡ h
one_grid m g h good fine of fits same = λ i. record { width = wide i; height = high i; atoms = atoms i; live = live i }
  where
    wide : g.width ≡ h.width
    wide = of.wide ∙ sym fits.wide

    high : g.height ≡ h.height
    high = of.high ∙ sym fits.high

    some : 0 < g.width
    some = omega (arith, good.wide)

    count : length h.live ≡ length g.live
    count = fine.marked ∙ ((λ i. sym wide i * sym high i) ∙ sym good.marked)

    mark : (i : ℕ) → i < length g.live → get_or g.live i false ≡ get_or h.live i false
    mark i lt =
        let x = i % g.width in
        let y = i / g.width in
        let lx = mod-lt i some in
        let ly = div_lt i g.width g.height some (omega (arith, lt, good.marked)) in
        let at : y * g.width + x ≡ i = div-add-mod' i g.width in
        let at' : y * h.width + x ≡ i = ap (λ w. y * w + x) (sym wide) ∙ at in
        ap (λ n. get_or g.live n false) (sym at) ∙ (of.live x y lx ly ∙ (sym (fits.live x y (omega (arith, lx, wide)) (omega (arith, ly, high))) ∙ ap (λ n. get_or h.live n false) at'))

    live : g.live ≡ h.live
    live = fill_by_all (λ i. get_or h.live i false) g.live (length g.live) false refl mark ∙ sym (fill_by_all (λ i. get_or h.live i false) h.live (length g.live) false count (λ i lt. refl))

    atom : (i : ℕ) → i < length g.atoms → get_or g.atoms i empty_atom ≡ get_or h.atoms i empty_atom
    atom i lt = go (get_or g.live i false) refl
      where
        inside' : i < length g.live
        inside' = omega (arith, lt, good.whole, good.marked)

        go : (b : Bool) → get_or g.live i false ≡ b → get_or g.atoms i empty_atom ≡ get_or h.atoms i empty_atom
        go false is = good.hidden i inside' is ∙ sym (fine.hidden i (omega (arith, inside', count)) (sym (mark i inside') ∙ is))
        go true is =
            let x = i % g.width in
            let y = i / g.width in
            let lx = mod-lt i some in
            let ly = div_lt i g.width g.height some (omega (arith, inside', good.marked)) in
            let at : y * g.width + x ≡ i = div-add-mod' i g.width in
            let at' : y * h.width + x ≡ i = ap (λ w. y * w + x) (sym wide) ∙ at in
            let l : is_live m (site x y) ≡ true = sym (of.live x y lx ly) ∙ (ap (λ n. get_or g.live n false) at ∙ is) in
            ap (λ n. get_or g.atoms n empty_atom) (sym at) ∙ (same (site x y) l ∙ ap (λ n. get_or h.atoms n empty_atom) at')

    atoms : g.atoms ≡ h.atoms
    atoms = fill_by_all (λ i. get_or h.atoms i empty_atom) g.atoms (length g.atoms) empty_atom refl atom ∙ sym (fill_by_all (λ i. get_or h.atoms i empty_atom) h.atoms (length g.atoms) empty_atom (fine.whole ∙ ((λ i. sym wide i * sym high i) ∙ sym good.whole)) (λ i lt. refl))
