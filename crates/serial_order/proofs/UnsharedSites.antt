-- The sites of a tile that no other tile holds.
use Rattle.std.proofs.Common.{ℕ, ◌≡◌, ◌<◌, ◌≤◌, ◌+◌, ◌-◌, ◌*◌, ◌/◌, ◌%◌, Bool, true, false, ◌==◌, refl, sym, ap, arith, ◌∙◌, ltb-true, leb-true, div-add-mod'}
use Rattle.std.specs.Prelude.{min, nat_lt, if◌then◌else◌}
use Rattle.std.proofs.lemmas.Bool.Decides.{nat_tests}
use Rattle.list_laws.proofs.Tests.{both}
use Rattle.tile_map.specs.Plane.{MapValue, IsMap, site, tiles_of, is_around}
use Rattle.tile_map.specs.Spans.{low, high, left_of, right_of, top_of, bottom_of}
use Rattle.tile_map.proofs.Near.{div_is}
use Rattle.tile_map.proofs.Sharing.{column_low, row_low}
use Rattle.tile_map.proofs.Spans.{held_parts, on_low, times_more}
use Rattle.serial_order.specs.Outcomes.{IsUnshared, IsStretch}
use Rattle.serial_order.specs.declared.unshared.Unshared.{Unshared}

-- the part below reaches no place that is 4 or more above the border
not_below : (p q from x : ℕ) → 8 ≤ p → q ≤ p → from ≡ (if p - 4 == 0 then 0 else p - 4 + 8) → from ≤ x → x < q + 4 → ⊥
not_below p q from x big le is low lt = go (p - 4 == 0) refl is
  where
    go : (b : Bool) → (p - 4 == 0) ≡ b → from ≡ (if b then 0 else p - 4 + 8) → ⊥
    go true t is' = absurd (grind (arith, nat_tests, t, big))
    go false t is' = absurd (omega (arith, is', big, le, low, lt))

-- the part above reaches no place that is more than 4 below the border
not_above : (p q n end to x : ℕ) → 8 ≤ p → p + 8 ≤ n → p ≤ q → end ≡ min (p + 4) n → to ≡ (if end == n then end else end - 8) → x < to → q ≤ x + 4 → ⊥
not_above p q n end to x big room le is to_is lt near = go (end == n) refl to_is
  where
    end_is : end ≡ p + 4
    end_is = grind (arith, is, room)

    go : (b : Bool) → (end == n) ≡ b → to ≡ (if b then end else end - 8) → ⊥
    go true t to' = absurd (grind (arith, nat_tests, t, end_is, room))
    go false t to' = absurd (omega (arith, to', end_is, big, le, lt, near))

-- a line is cut into k parts of one size: of what part a reaches, only a reaches this
pub unshared_place : (k size a b from to x : ℕ) → 8 ≤ size → a < k → b < k
    → from ≡ (if low size a == 0 then 0 else low size a + 8) → to ≡ (if high (k * size) size a == k * size then high (k * size) size a else high (k * size) size a - 8)
    → from ≤ x → x < to → is_around size b x ≡ true → b ≡ a
unshared_place k size a b from to x big a_lt b_lt from_is to_is low_x lt_x around = go (nat_lt b a) (nat_lt a b) refl refl
  where
    parts : (b * size ≤ x + 4) × (x < (b + 1) * size + 4)
    parts = let p = both _ _ around in (leb-true _ _ p.0, ltb-true _ _ p.1)

    go : (c d : Bool) → nat_lt b a ≡ c → nat_lt a b ≡ d → b ≡ a
    go true d p q =
        let lt : b + 1 ≤ a = let l = ltb-true b a p in omega (arith, l) in
        let one = times_more 1 a size (omega (arith, lt)) in
        absurd (not_below (a * size) ((b + 1) * size) from x (omega (arith, one, big)) (times_more (b + 1) a size lt) from_is low_x parts.1)
    go false true p q =
        let lt : a + 1 ≤ b = let l = ltb-true a b q in omega (arith, l) in
        let one = times_more 1 (a + 1) size (omega arith) in
        let most = times_more (a + 2) k size (omega (arith, lt, b_lt)) in
        absurd (not_above ((a + 1) * size) (b * size) (k * size) (high (k * size) size a) to x (omega (arith, one, big)) (omega (arith, most, big)) (times_more (a + 1) b size lt) refl to_is lt_x parts.0)
    go false false p q = grind (arith, nat_tests, p, q)

pub unshared_is : (m : MapValue) → IsMap m → (i : Unshared) → i.tile < tiles_of m
    → i.left ≡ (if left_of m i.tile == 0 then 0 else left_of m i.tile + 8)
    → i.right ≡ (if right_of m i.tile == m.tx * m.w then right_of m i.tile else right_of m i.tile - 8)
    → i.top ≡ (if top_of m i.tile == 0 then 0 else top_of m i.tile + 8)
    → i.bottom ≡ (if bottom_of m i.tile == m.ty * m.h then bottom_of m i.tile else bottom_of m i.tile - 8)
    → IsUnshared m i
unshared_is m valid i tile left right top bottom = record {
  tile = tile;
  alone = λ u x y within held.
      let p = held_parts m u (site x y) held in
      let inside = on_low m u p.on in
      let near = both _ _ p.reached in
      let within' = both _ _ within in
      let columns = both _ _ within'.0 in
      let rows = both _ _ within'.1 in
      let column = unshared_place m.tx m.w (i.tile % m.tx) (u % m.tx) i.left i.right x valid.sizes.w_low (column_low m valid i.tile tile) (column_low m valid u inside) left right (leb-true _ _ columns.0) (ltb-true _ _ columns.1) near.0 in
      let row = unshared_place m.ty m.h (i.tile / m.tx) (u / m.tx) i.top i.bottom y valid.sizes.h_low (row_low m valid i.tile tile) (row_low m valid u inside) top bottom (leb-true _ _ rows.0) (ltb-true _ _ rows.1) near.1 in
      sym (div-add-mod' u m.tx) ∙ (λ j. row j * m.tx + column j) ∙ div-add-mod' i.tile m.tx;
}

-- a row of a tile
pub stretch_is : (m : MapValue) → IsMap m → (part y : ℕ) → part < m.tx → y < m.ty * m.h → IsStretch m (part * m.w) m.w y
stretch_is m valid part y lt row = record {
  some = omega (arith, valid.sizes.w_low);
  inside = let most = times_more (part + 1) m.tx m.w (omega (arith, lt)) in omega (arith, most);
  row = row;
  owner = λ x ge less.
      let a = div_is m.w part x ge (omega (arith, less)) in
      let b = div_is m.w part (part * m.w) (omega arith) (omega (arith, valid.sizes.w_low)) in
      ap (λ k. y / m.h * m.tx + k) (a ∙ sym b);
}
