-- Marks of a rectangle cleared one after another.
use Rattle.std.proofs.Common.{ℕ, ◌≡◌, ◌+◌, ◌-◌, ◌*◌, ◌/◌, ◌%◌, ◌≤◌, ◌<◌, Bool, true, false, ◌&&◌, not, List, length, get_or, refl, sym, subst, ◌∙◌, arith, inl, inr, ◌⊎◌}
use Rattle.std.specs.Prelude.{nat_lt, if◌then◌else◌}
use Rattle.std.proofs.lemmas.List.FromFn.{fill_by_all, get_or-map-range_with_len, length-map-range_with_len}
use Rattle.std.proofs.Math.Nat.{mod-lt, mul_comm, mod-add-div', div-lt_iff_lt-mul}
use Rattle.std.proofs.lemmas.Nat.{mod-mul-add, div-mul-add, mul-add-lt}
use Rattle.std.proofs.lemmas.Bool.{and_left}
use Rattle.std.proofs.lemmas.Bool.Decides.{nat_tests}
use Rattle.bit_field.specs.Atom.{empty_atom}
use Rattle.cell_grid.specs.Grid.{GridValue, IsGrid}
use Rattle.cell_grid.specs.Calm.{AreCalm, HasDeadNear}
use Rattle.cell_grid.specs.Shut.{Rectangle, is_inside, marks_outside, widen, shut, IsEmptyIn}

abbrev kept : List Bool → ℕ → Rectangle → ℕ → Bool
kept marks width r i = get_or marks i false && not (is_inside r (i % width) (i / width))

-- the first n marks were seen to
pub record IsClearing (old : List Bool) (width : ℕ) (r : Rectangle) (n : ℕ) (marks : List Bool) : Type 0 where
  pub size : length marks ≡ length old
  pub done : (k : ℕ) → k < n → get_or marks k false ≡ kept old width r k
  pub rest : (k : ℕ) → n ≤ k → get_or marks k false ≡ get_or old k false

pub IsClearing-done : (old : List Bool) (width : ℕ) (r : Rectangle) (n : ℕ) (marks : List Bool) → n ≡ length old → IsClearing old width r n marks → marks ≡ marks_outside old width r
unfolding marks_outside
IsClearing-done old width r n marks e h = fill_by_all (kept old width r) marks (length old) false h.size (rw e at h.done)

pub length-cleared : (marks : List Bool) (width : ℕ) (r : Rectangle) → length (marks_outside marks width r) ≡ length marks
unfolding marks_outside
length-cleared marks width r = length-map-range_with_len {X = Bool} (kept marks width r) 0 (length marks)

get-cleared : (marks : List Bool) (width : ℕ) (r : Rectangle) (i : ℕ) → i < length marks → get_or (marks_outside marks width r) i false ≡ kept marks width r i
unfolding marks_outside
get-cleared marks width r i lt = get_or-map-range_with_len (kept marks width r) 0 (length marks) i i false lt (omega arith)

-- a mark that is gone was gone, or lies in the rectangle
gone : (a b : Bool) → (a && not b) ≡ false → (a ≡ false) ⊎ (b ≡ true)
gone true true h = inr refl
gone true false h = cc
gone false b h = inl refl

stays : (a b : Bool) → (a && not b) ≡ true → (a ≡ true) × (b ≡ false)
stays true true h = cc
stays true false h = (refl, refl)
stays false b h = cc

-- a grid with an empty rectangle made not live can be stored
pub IsGrid-shut : (g : GridValue) (r : Rectangle) → IsGrid g → IsEmptyIn g r → IsGrid (shut g r)
IsGrid-shut g r h empty = record {
  wide = h.wide;
  not_wider = h.not_wider;
  high = h.high;
  not_higher = h.not_higher;
  whole = h.whole;
  marked = length-cleared g.live g.width r ∙ h.marked;
  hidden = λ i lt dead.
      let long = length-cleared g.live g.width r in
      let in_live : i < length g.live = omega (arith, lt, long) in
      let some : 0 < g.width = omega (arith, h.wide) in
      let column = mod-lt i some in
      let c = mul_comm g.width g.height in
      let row = (div-lt_iff_lt-mul {k = g.width} {x = i} {y = g.height} some).1 (omega (arith, in_live, h.marked, c)) in
      let place : i / g.width * g.width + i % g.width ≡ i = let e = mod-add-div' i g.width in omega (arith, e) in
      elim (gone _ _ (sym (get-cleared g.live g.width r i in_live) ∙ dead)) [
        | inl was ↦ h.hidden i in_live was
        | inr inside ↦ subst (λ p. get_or g.atoms p empty_atom ≡ empty_atom) place (empty (i % g.width) (i / g.width) column row inside)
      ];
}

outside_all : (r : Rectangle) (u v : ℕ) → (nat_lt r.left r.right && nat_lt r.top r.bottom) ≡ false → is_inside r u v ≡ false
outside_all r u v none = grind (arith, nat_tests, none)

-- what is near no site of the rectangle
near-inside : (r : Rectangle) (x y u v : ℕ) → u ≤ x + 4 → x ≤ u + 4 → v ≤ y + 4 → y ≤ v + 4 → is_inside (widen r) x y ≡ false → is_inside r u v ≡ false
near-inside r x y u v b c d e far = go (nat_lt r.left r.right && nat_lt r.top r.bottom) refl far
  where
    go : (k : Bool) → (nat_lt r.left r.right && nat_lt r.top r.bottom) ≡ k → is_inside (if k then record { left = r.left - 4; top = r.top - 4; right = r.right + 4; bottom = r.bottom + 4 } else r) x y ≡ false → is_inside r u v ≡ false
    go true is out = grind (arith, nat_tests, out)
    go false is out = outside_all r u v is

-- the nearest of some columns, or rows
clamp : (a b x : ℕ) → a < b → a - 4 ≤ x → x < b + 4 → (u : ℕ) × (a ≤ u) × (u < b) × (u ≤ x + 4) × (x ≤ u + 4)
clamp a b x some low high = go (order x a) (order x b)
  where
    order : (p q : ℕ) → (p < q) ⊎ (q ≤ p)
    order p q = grind arith

    go : (x < a) ⊎ (a ≤ x) → (x < b) ⊎ (b ≤ x) → (u : ℕ) × (a ≤ u) × (u < b) × (u ≤ x + 4) × (x ≤ u + 4)
    go (inl h) k = (a, omega arith, some, omega (arith, low), omega (arith, h))
    go (inr h) (inl k) = (x, h, k, omega arith, omega arith)
    go (inr h) (inr k) = (b - 1, omega (arith, some), omega (arith, some), omega (arith, k), omega (arith, high, some))

-- a site of the rectangle that is near
record Reached (r : Rectangle) (x y : ℕ) : Type 0 where
  pub u : ℕ
  pub v : ℕ
  pub inside : is_inside r u v ≡ true
  pub right : u < r.right
  pub bottom : v < r.bottom
  pub columns : (u ≤ x + 4) × (x ≤ u + 4)
  pub rows : (v ≤ y + 4) × (y ≤ v + 4)

reached : (r : Rectangle) (x y : ℕ) → is_inside (widen r) x y ≡ true → Reached r x y
reached r x y near = go (nat_lt r.left r.right && nat_lt r.top r.bottom) refl near
  where
    go : (k : Bool) → (nat_lt r.left r.right && nat_lt r.top r.bottom) ≡ k → is_inside (if k then record { left = r.left - 4; top = r.top - 4; right = r.right + 4; bottom = r.bottom + 4 } else r) x y ≡ true → Reached r x y
    go true is within =
        let p : (r.left < r.right) × (r.top < r.bottom) = grind (arith, nat_tests, is) in
        let q : (r.left - 4 ≤ x) × (x < r.right + 4) × (r.top - 4 ≤ y) × (y < r.bottom + 4) = grind (arith, nat_tests, within) in
        let a = clamp r.left r.right x p.0 q.0 q.1 in
        let b = clamp r.top r.bottom y p.1 q.2 q.3 in
        record {
          u = a.0;
          v = b.0;
          inside = grind (arith, nat_tests, a.1, a.2, b.1, b.2);
          right = a.2;
          bottom = b.2;
          columns = (a.3, a.4);
          rows = (b.3, b.4);
        }
    go false is within = absurd (cc (outside_all r x y is, within))

true_goes : (a b : Bool) → b ≡ true → (a && not b) ≡ false
true_goes true true h = refl
true_goes true false h = absurd (cc h)
true_goes false b h = refl

pub AreCalm-shut : (width height : ℕ) (live calm : List Bool) (r : Rectangle) → length live ≡ width * height → r.right ≤ width → r.bottom ≤ height → AreCalm width height live calm →
    AreCalm width height (marks_outside live width r) (marks_outside calm width (widen r))
AreCalm-shut width height live calm r whole right bottom h = record {
  size = length-cleared calm width (widen r) ∙ h.size ∙ sym (length-cleared live width r);
  near = λ x y u v x_in y_in u_in v_in b c d e mark.
      let i = place x y x_in y_in in
      let j = place u v u_in v_in in
      let m = stays _ _ (sym (get-cleared calm width (widen r) (y * width + x) (omega (arith, i, h.size))) ∙ mark) in
      let far : is_inside (widen r) x y ≡ false = rw (mod-mul-add y width x x_in, div-mul-add y width x x_in) at m.1 in
      let l = h.near x y u v x_in y_in u_in v_in b c d e m.0 in
      let out = near-inside r x y u v b c d e far in
      get-cleared live width r (v * width + u) j ∙ rw (l, mod-mul-add v width u u_in, div-mul-add v width u u_in, out) refl;
  unmarked = λ x y x_in y_in mark.
      let i = place x y x_in y_in in
      elim (gone _ _ (sym (get-cleared calm width (widen r) (y * width + x) (omega (arith, i, h.size))) ∙ mark)) [
        | inl was ↦ old x y (h.unmarked x y x_in y_in was)
        | inr inside ↦ new x y (reached r x y (rw (mod-mul-add y width x x_in, div-mul-add y width x x_in) at inside))
      ];
}
  where
    place : (u v : ℕ) → u < width → v < height → v * width + u < length live
    place u v u_in v_in = let q = mul-add-lt v width u height v_in u_in in omega (arith, q, whole)

    old : (x y : ℕ) → HasDeadNear width height live x y → HasDeadNear width height (marks_outside live width r) x y
    old x y d = record {
      u = d.u;
      v = d.v;
      column = d.column;
      row = d.row;
      columns = d.columns;
      rows = d.rows;
      dead = get-cleared live width r (d.v * width + d.u) (place d.u d.v d.column d.row) ∙ and_left _ _ d.dead;
    }

    new : (x y : ℕ) → Reached r x y → HasDeadNear width height (marks_outside live width r) x y
    new x y d =
        let column : d.u < width = omega (arith, d.right, right) in
        let row : d.v < height = omega (arith, d.bottom, bottom) in
        record {
          u = d.u;
          v = d.v;
          column = column;
          row = row;
          columns = d.columns;
          rows = d.rows;
          dead = get-cleared live width r (d.v * width + d.u) (place d.u d.v column row)
              ∙ true_goes _ _ (rw (mod-mul-add d.v width d.u column, div-mul-add d.v width d.u column) d.inside);
        }
