use Rattle.std.proofs.Common.{◌≡◌, ℕ, ◌+◌, ◌-◌, ◌*◌, ◌<◌, ◌≤◌, length, true≢false, refl, sym, ap, ◌∙◌, subst, arith}
use Rattle.std.proofs.lemmas.Nat.{rows}
use Rattle.tile_map.specs.Plane.{Site, site}
use Rattle.tile_map.specs.Spans.{left_of, right_of, top_of, bottom_of}
use Rattle.tile_map.specs.Laws.{IsPlane}
use Rattle.border_cache.specs.Windows.{IsWhole}
use Rattle.border_cache.specs.Copies.{CacheValue, columns_of, rows_of, IsCentre, IsCorner}
use Rattle.border_cache.proofs.Stored.{centre_holds, centre_held}
use Rattle.border_cache.proofs.Corners.{IsInReach, corner_is, whole_in_reach}
use Rattle.border_cache.proofs.cache.Cache.corner.Goals as goal

-- nine columns and rows around a centre with a whole window are reached
reach : (v : CacheValue) (c : Site) → IsPlane v.map → IsCentre v.map v.tile c → IsWhole v.map c → IsInReach v.map v.tile c.x c.y
reach v c plane centre whole = whole_in_reach v.map v.tile c (centre_holds v.map plane v.tile c centre) whole

pub is_all_live-requires-clause-held : goal.is_all_live-requires-clause-held
is_all_live-requires-clause-held c = centre_held c.args.self.now.map (subst IsPlane c.requires.map c.laws.ensures.plane) c.args.self.now.tile (site c.args.x c.args.y) c.requires.centre

pub overflow_sub-result : goal.overflow_sub-result
overflow_sub-result c =
    let h = reach c.args.self.now (site c.args.x c.args.y) (subst IsPlane c.requires.map c.laws.ensures.plane) c.requires.centre (c.is_all_live.ensures.whole c.if-is_all_live.true) in
    let n = h.north in
    omega (arith, n)

pub overflow_sub-result-then-is_all_live : goal.overflow_sub-result-then-is_all_live
overflow_sub-result-then-is_all_live c =
    let v = c.args.self.now in
    let h = reach v (site c.args.x c.args.y) (subst IsPlane c.requires.map c.laws.ensures.plane) c.requires.centre (c.is_all_live.ensures.whole c.if-is_all_live.true) in
    let n = h.north in
    let t : c.self.inside.top ≡ top_of v.map v.tile = c.self.invariant.top_is ∙ ap (λ w. top_of w.map w.tile) c.self.view_is in
    omega (arith, n, t)

pub overflow_sub-result-then-is_all_live-2 : goal.overflow_sub-result-then-is_all_live-2
overflow_sub-result-then-is_all_live-2 c =
    let h = reach c.args.self.now (site c.args.x c.args.y) (subst IsPlane c.requires.map c.laws.ensures.plane) c.requires.centre (c.is_all_live.ensures.whole c.if-is_all_live.true) in
    let w = h.west in
    omega (arith, w)

pub overflow_sub-result-then-is_all_live-3 : goal.overflow_sub-result-then-is_all_live-3
overflow_sub-result-then-is_all_live-3 c =
    let v = c.args.self.now in
    let h = reach v (site c.args.x c.args.y) (subst IsPlane c.requires.map c.laws.ensures.plane) c.requires.centre (c.is_all_live.ensures.whole c.if-is_all_live.true) in
    let w = h.west in
    let l : c.self.inside.left ≡ left_of v.map v.tile = c.self.invariant.left_is ∙ ap (λ w. left_of w.map w.tile) c.self.view_is in
    omega (arith, w, l)

-- a place in the first of some rows of 72 at most
row_sum : (row width column : ℕ) → row < 72 → column < width → row * width + column < 72 * width
row_sum row width column a b = grind (arith, rows)

pub overflow_add-result : goal.overflow_add-result
overflow_add-result c =
    let v = c.args.self.now in
    let i = c.self.invariant in
    let h = reach v (site c.args.x c.args.y) (subst IsPlane c.requires.map c.laws.ensures.plane) c.requires.centre (c.is_all_live.ensures.whole c.if-is_all_live.true) in
    let t : c.self.inside.top ≡ top_of v.map v.tile = i.top_is ∙ ap (λ w. top_of w.map w.tile) c.self.view_is in
    let l : c.self.inside.left ≡ left_of v.map v.tile = i.left_is ∙ ap (λ w. left_of w.map w.tile) c.self.view_is in
    let w : c.self.inside.width ≡ right_of v.map v.tile - left_of v.map v.tile = i.width_is ∙ ap (λ w. columns_of w.map w.tile) c.self.view_is in
    let narrow : right_of v.map v.tile - left_of v.map v.tile ≤ 72 = subst (λ w. columns_of w.map w.tile ≤ 72) c.self.view_is i.narrow in
    let short : bottom_of v.map v.tile - top_of v.map v.tile ≤ 72 = subst (λ w. rows_of w.map w.tile ≤ 72) c.self.view_is i.short in
    let south = h.south in
    let east = h.east in
    let row : c.args.y - 4 - c.self.inside.top < 72 = omega (arith, south, short, t) in
    let column : c.args.x - 4 - c.self.inside.left < c.self.inside.width = omega (arith, east, w, l) in
    let sum = row_sum (c.args.y - 4 - c.self.inside.top) c.self.inside.width (c.args.x - 4 - c.self.inside.left) row column in
    omega (arith, sum, narrow, w)

pub returns-then-is_all_live-clause-low : goal.returns-then-is_all_live-clause-low
returns-then-is_all_live-clause-low c =
    let v = c.args.self.now in
    let i = c.self.invariant in
    let s = site c.args.x c.args.y in
    let holds = centre_holds v.map (subst IsPlane c.requires.map c.laws.ensures.plane) v.tile s c.requires.centre in
    let count : length v.cells ≡ columns_of v.map v.tile * rows_of v.map v.tile = subst (λ w. length w.cells ≡ columns_of w.map w.tile * rows_of w.map w.tile) c.self.view_is i.count in
    let t : c.self.inside.top ≡ top_of v.map v.tile = i.top_is ∙ ap (λ w. top_of w.map w.tile) c.self.view_is in
    let l : c.self.inside.left ≡ left_of v.map v.tile = i.left_is ∙ ap (λ w. left_of w.map w.tile) c.self.view_is in
    let w : c.self.inside.width ≡ columns_of v.map v.tile = i.width_is ∙ ap (λ w. columns_of w.map w.tile) c.self.view_is in
    subst (IsCorner v s) (λ j. (c.args.y - 4 - sym t j) * sym w j + (c.args.x - 4 - sym l j)) (corner_is v s count holds (c.is_all_live.ensures.whole c.if-is_all_live.true))

pub returns-else-is_all_live-clause-found : goal.returns-else-is_all_live-clause-found
returns-else-is_all_live-clause-found c corners = absurd (true≢false (sym (c.is_all_live.ensures.found corners) ∙ c.if-is_all_live.false))

pub returns-then-is_all_live-clause-found : goal.returns-then-is_all_live-clause-found
returns-then-is_all_live-clause-found c = λ corners. refl
