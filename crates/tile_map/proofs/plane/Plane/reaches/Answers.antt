use Rattle.std.proofs.Common.{◌≡◌, ◌+◌, ◌<◌, ◌&&◌, arith, sym, ◌∙◌}
use Rattle.std.specs.Prelude.{nat_le}
use Rattle.tile_map.specs.Plane.{site}
use Rattle.tile_map.specs.Spans.{left_of, right_of, top_of, bottom_of, gap}
use Rattle.tile_map.proofs.Near.{reaches-gap}
use Rattle.tile_map.proofs.plane.Plane.reaches.Goals as goal

pub returns-then-is_on : goal.returns-then-is_on
returns-then-is_on c =
    let m = c.args.self.now in
    let t = c.args.tile in
    let wide : left_of m t < right_of m t = omega (arith, c.columns.ensures.some, c.columns.ensures.first, c.columns.ensures.end) in
    let tall : top_of m t < bottom_of m t = omega (arith, c.rows.ensures.some, c.rows.ensures.first, c.rows.ensures.end) in
    let x : c.gap.result ≡ gap (left_of m t) (right_of m t) c.args.x = c.gap.ensures.value ∙ λ i. gap (c.columns.ensures.first i) (c.columns.ensures.end i) c.args.x in
    let y : c.gap-2.result ≡ gap (top_of m t) (bottom_of m t) c.args.y = c.gap-2.ensures.value ∙ λ i. gap (c.rows.ensures.first i) (c.rows.ensures.end i) c.args.y in
    let on = sym c.is_on.ensures ∙ c.if-is_on.true in
    (λ i. nat_le (x i + y i) 4)
    ∙ (λ i. sym on i && nat_le (gap (left_of m t) (right_of m t) c.args.x + gap (top_of m t) (bottom_of m t) c.args.y) 4)
    ∙ sym (reaches-gap m c.columns.ensures.valid (site c.args.x c.args.y) t (sym c.is_live.ensures ∙ c.if-is_live.true) wide tall)

pub returns-else-is_on : goal.returns-else-is_on
returns-else-is_on c =
    let m = c.args.self.now in
    let t = c.args.tile in
    let wide : left_of m t < right_of m t = omega (arith, c.columns.ensures.some, c.columns.ensures.first, c.columns.ensures.end) in
    let tall : top_of m t < bottom_of m t = omega (arith, c.rows.ensures.some, c.rows.ensures.first, c.rows.ensures.end) in
    let off = sym c.is_on.ensures ∙ c.if-is_on.false in
    c.if-is_on.false
    ∙ (λ i. sym off i && nat_le (gap (left_of m t) (right_of m t) c.args.x + gap (top_of m t) (bottom_of m t) c.args.y) 4)
    ∙ sym (reaches-gap m c.columns.ensures.valid (site c.args.x c.args.y) t (sym c.is_live.ensures ∙ c.if-is_live.true) wide tall)
