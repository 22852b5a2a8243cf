-- The sites of an area, counted row by row.
use Rattle.std.proofs.Common.{ℕ, ◌≡◌, ◌+◌, ◌-◌, ◌*◌, ◌/◌, ◌%◌, ◌≤◌, ◌<◌, true, sym, subst, ap, ◌∙◌, arith}
use Rattle.std.proofs.Math.Nat.{mul_comm}
use Rattle.std.proofs.lemmas.Nat.{mod-mul-add, div-mul-add, mul-add-lt}
use Rattle.std.proofs.lemmas.Bool.Decides.{nat_tests}
use Rattle.cell_grid.specs.Shut.{is_inside}
use Rattle.cell_grid.specs.declared.marks.Rectangle.{Rectangle}
use Rattle.plane_acts.specs.Acts.{Act, IsActOn, IsAreaOf, area_of, site_count, sites_before}
use Rattle.plane_acts.specs.declared.act.Act.TheVariants.{Clear, Put, Erase, Flip, Attempts}
use Rattle.plane_acts.specs.Steps.{sites_above}

-- the columns and rows of a site that lies in an area
pub record Lies (area : Rectangle) (x y : ℕ) : Type 0 where
  pub left : area.left ≤ x
  pub right : x < area.right
  pub top : area.top ≤ y
  pub bottom : y < area.bottom

pub lies-inside : (area : Rectangle) (x y : ℕ) → is_inside area x y ≡ true → Lies area x y
lies-inside area x y h =
    let p : (area.left ≤ x) × (x < area.right) × (area.top ≤ y) × (y < area.bottom) = grind (arith, nat_tests, h) in
    record { left = p.0; right = p.1; top = p.2; bottom = p.3 }

pub inside-lies : (area : Rectangle) (x y : ℕ) → area.left ≤ x → x < area.right → area.top ≤ y → y < area.bottom → is_inside area x y ≡ true
inside-lies area x y a b c d = grind (arith, nat_tests, a, b, c, d)

-- an area lies in the plane
pub record Fits (width height : ℕ) (area : Rectangle) : Type 0 where
  pub left : area.left ≤ area.right
  pub right : area.right ≤ width
  pub top : area.top ≤ area.bottom
  pub bottom : area.bottom ≤ height

of_area : (width height : ℕ) (area : Rectangle) → IsAreaOf width height area → Fits width height area
of_area width height area h = record {
  left = let q = h.columns.0 in omega (arith, q);
  right = h.columns.1;
  top = let q = h.rows.0 in omega (arith, q);
  bottom = h.rows.1;
}

pub fits-act : (width height : ℕ) (act : Act) → IsActOn width height act → Fits width height (area_of act)
fits-act width height (Clear area) h = of_area width height area h
fits-act width height (Put area atom) h = of_area width height area h
fits-act width height (Erase chance area) h = of_area width height area h
fits-act width height (Flip chance area) h = of_area width height area h
fits-act width height (Attempts count) h = record { left = omega arith; right = omega arith; top = omega arith; bottom = omega arith }

-- as many sites come before one site of an area as before one other: the two are one
pub one_column : (area : Rectangle) (x y u v : ℕ) → Lies area x y → Lies area u v → sites_before area x y ≡ sites_before area u v → x ≡ u
one_column area x y u v p q same =
    let w : ℕ = area.right - area.left in
    let pl = p.left in
    let pr = p.right in
    let ql = q.left in
    let qr = q.right in
    let a = mod-mul-add (y - area.top) w (x - area.left) (omega (arith, pl, pr)) in
    let b = mod-mul-add (v - area.top) w (u - area.left) (omega (arith, ql, qr)) in
    let e : x - area.left ≡ u - area.left = sym a ∙ ap (λ k. k % w) same ∙ b in
    omega (arith, e, pl, ql)

pub one_row : (area : Rectangle) (x y u v : ℕ) → Lies area x y → Lies area u v → sites_before area x y ≡ sites_before area u v → y ≡ v
one_row area x y u v p q same =
    let w : ℕ = area.right - area.left in
    let pl = p.left in
    let pr = p.right in
    let ql = q.left in
    let qr = q.right in
    let pt = p.top in
    let qt = q.top in
    let a = div-mul-add (y - area.top) w (x - area.left) (omega (arith, pl, pr)) in
    let b = div-mul-add (v - area.top) w (u - area.left) (omega (arith, ql, qr)) in
    let e : y - area.top ≡ v - area.top = sym a ∙ ap (λ k. k / w) same ∙ b in
    omega (arith, e, pt, qt)

-- fewer sites come before a site of an area than it has
pub before_few : (area : Rectangle) (x y : ℕ) → Lies area x y → sites_before area x y < site_count area
before_few area x y p =
    let pl = p.left in
    let pr = p.right in
    let pt = p.top in
    let pb = p.bottom in
    mul-add-lt (y - area.top) (area.right - area.left) (x - area.left) (area.bottom - area.top) (omega (arith, pt, pb)) (omega (arith, pl, pr))

-- the first site of a row, the site after the last of it, and the site after the last of all
pub before_first : (area : Rectangle) (y : ℕ) → sites_before area area.left y ≡ sites_above area y
before_first area y = omega arith

pub before_next : (area : Rectangle) (x y : ℕ) → area.left ≤ x → sites_before area (x + 1) y ≡ sites_before area x y + 1
before_next area x y h = omega (arith, h)

pub before_end : (area : Rectangle) (y : ℕ) → area.top ≤ y → area.left ≤ area.right → sites_before area area.right y ≡ sites_above area (y + 1)
before_end area y h k =
    let e : y + 1 - area.top ≡ y - area.top + 1 = omega (arith, h) in
    let f = ap (λ n. n * (area.right - area.left)) e in
    let g : (y - area.top + 1) * (area.right - area.left) ≡ (y - area.top) * (area.right - area.left) + (area.right - area.left) = grind arith in
    sym (f ∙ g)

pub above_top : (area : Rectangle) → sites_above area area.top ≡ 0
above_top area = let e : area.top - area.top ≡ 0 = omega arith in ap (λ n. n * (area.right - area.left)) e ∙ (let z : 0 * (area.right - area.left) ≡ 0 = grind arith in z)

pub above_bottom : (area : Rectangle) → sites_above area area.bottom ≡ site_count area
above_bottom area = mul_comm (area.bottom - area.top) (area.right - area.left)

-- where a loop over the rows of an area ends
pub row_end : (area r : Rectangle) (y : ℕ) → r ≡ area → area.top ≤ area.bottom → r.bottom ≤ y → (r.top ≤ r.bottom → y ≤ r.bottom) → y ≡ area.bottom
row_end area r y same some low high =
    let P : Rectangle → Type 0 = λ q. q.bottom ≤ y → (q.top ≤ q.bottom → y ≤ q.bottom) → y ≡ area.bottom in
    subst P (sym same) (λ a b. let c = b some in omega (arith, a, c)) low high
