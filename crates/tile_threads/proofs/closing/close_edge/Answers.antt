use Rattle.std.proofs.Common.{◌≡◌, ℕ, ◌<◌, length, sym, ap, ◌∙◌, subst, rules, arith, length-set, vec_len}
use Rattle.tile_map.specs.Plane.{tiles_of}
use Rattle.tile_threads.specs.Passes.{TakesFirst, passes_of}
use Rattle.tile_threads.proofs.NewEdges.{low_is, high_is, low_has}
use Rattle.tile_threads.proofs.Shutting.{some_first, some_second, low_first, high_first, low_free, high_free, closed_is, left_after}
use Rattle.tile_threads.proofs.closing.close_edge.Goals as goal

pub ends-lower-requires : goal.ends-lower-requires
ends-lower-requires c = let whole = c.requires.left.3.whole in omega (arith, whole)

pub take_pass-low-requires-clause-tile : goal.take_pass-low-requires-clause-tile
take_pass-low-requires-clause-tile c =
    let long : length c.args.passes.now.items ≡ vec_len c.args.passes.now = search rules in
    let tiles = c.requires.left.3.tiles in
    omega (arith, long, tiles, c.ends-lower.ensures.rising, c.ends-lower.ensures.tile)

pub take_pass-low-requires-clause-some : goal.take_pass-low-requires-clause-some
take_pass-low-requires-clause-some c =
    let m = c.args.map.now in
    let ps = c.args.passes.now.items in
    let pair = c.ends-lower.ensures.pair in
    let inside : c.ends-lower.result.0 < tiles_of m = omega (arith, c.ends-lower.ensures.rising, c.ends-lower.ensures.tile) in
    let low = subst (λ (z : ℕ × ℕ). z.0 < tiles_of m) pair inside in
    let r = c.requires.left in
    subst (λ (z : ℕ × ℕ). 0 < length (passes_of ps z.0)) (sym pair) (some_first m r.0.edges r.0.lists c.args.number r.1 ps r.3 _ low (low_has m c.args.number))

pub take_pass-high-requires-clause-tile : goal.take_pass-high-requires-clause-tile
take_pass-high-requires-clause-tile c =
    let one = c.take_pass-low.new.passes in
    let long : length one.items ≡ vec_len one = search rules in
    let left = c.take_pass-low.ensures in
    let same = ap (λ l. length l) left.is ∙ length-set c.args.passes.now.items c.ends-lower.result.0 left.rest in
    let tiles = c.requires.left.3.tiles in
    omega (arith, long, same, tiles, c.ends-lower.ensures.tile)

pub take_pass-high-requires-clause-some : goal.take_pass-high-requires-clause-some
take_pass-high-requires-clause-some c =
    let m = c.args.map.now in
    let ps = c.args.passes.now.items in
    let one = c.take_pass-low.new.passes.items in
    let p = c.take_pass-low.result in
    let pair = c.ends-lower.ensures.pair in
    let rises = subst (λ (z : ℕ × ℕ). z.0 < z.1) pair c.ends-lower.ensures.rising in
    let inside = subst (λ (z : ℕ × ℕ). z.1 < tiles_of m) pair c.ends-lower.ensures.tile in
    let a = subst (λ (z : ℕ × ℕ). TakesFirst ps one z.0 p) pair c.take_pass-low.ensures in
    let r = c.requires.left in
    subst (λ (z : ℕ × ℕ). 0 < length (passes_of one z.1)) (sym pair) (some_second m r.0.edges r.0.lists c.args.number r.1 ps r.3 rises inside one one p p a)

pub close-requires-clause-lower : goal.close-requires-clause-lower
close-requires-clause-lower c =
    let m = c.args.map.now in
    let ps = c.args.passes.now.items in
    let one = c.take_pass-low.new.passes.items in
    let two = c.take_pass-high.new.passes.items in
    let p = c.take_pass-low.result in
    let q = c.take_pass-high.result in
    let pair = c.ends-lower.ensures.pair in
    let rises = subst (λ (z : ℕ × ℕ). z.0 < z.1) pair c.ends-lower.ensures.rising in
    let inside = subst (λ (z : ℕ × ℕ). z.1 < tiles_of m) pair c.ends-lower.ensures.tile in
    let a = subst (λ (z : ℕ × ℕ). TakesFirst ps one z.0 p) pair c.take_pass-low.ensures in
    let b = subst (λ (z : ℕ × ℕ). TakesFirst one two z.1 q) pair c.take_pass-high.ensures in
    let r = c.requires.left in
    let f = low_first m r.0.edges r.0.lists c.args.number r.1 ps r.3 rises inside one two p q a in
    (f.of ∙ sym r.2, f.end ∙ low_is m c.args.number, low_free m r.0.edges r.0.lists c.args.number r.1 ps r.3 rises inside one two p q a b)

pub close-requires-clause-higher : goal.close-requires-clause-higher
close-requires-clause-higher c =
    let m = c.args.map.now in
    let ps = c.args.passes.now.items in
    let one = c.take_pass-low.new.passes.items in
    let two = c.take_pass-high.new.passes.items in
    let p = c.take_pass-low.result in
    let q = c.take_pass-high.result in
    let pair = c.ends-lower.ensures.pair in
    let rises = subst (λ (z : ℕ × ℕ). z.0 < z.1) pair c.ends-lower.ensures.rising in
    let inside = subst (λ (z : ℕ × ℕ). z.1 < tiles_of m) pair c.ends-lower.ensures.tile in
    let a = subst (λ (z : ℕ × ℕ). TakesFirst ps one z.0 p) pair c.take_pass-low.ensures in
    let b = subst (λ (z : ℕ × ℕ). TakesFirst one two z.1 q) pair c.take_pass-high.ensures in
    let r = c.requires.left in
    let f = high_first m r.0.edges r.0.lists c.args.number r.1 ps r.3 rises inside one two p q a b in
    (f.of ∙ sym r.2, f.end ∙ high_is m c.args.number rises, high_free m r.0.edges r.0.lists c.args.number r.1 ps r.3 rises inside one two p q a b)

pub returns-clause-closed : goal.returns-clause-closed
returns-clause-closed c s n is k =
    let m = c.args.map.now in
    let ps = c.args.passes.now.items in
    let one = c.take_pass-low.new.passes.items in
    let two = c.take_pass-high.new.passes.items in
    let p = c.take_pass-low.result in
    let q = c.take_pass-high.result in
    let pair = c.ends-lower.ensures.pair in
    let rises = subst (λ (z : ℕ × ℕ). z.0 < z.1) pair c.ends-lower.ensures.rising in
    let inside = subst (λ (z : ℕ × ℕ). z.1 < tiles_of m) pair c.ends-lower.ensures.tile in
    let a = subst (λ (z : ℕ × ℕ). TakesFirst ps one z.0 p) pair c.take_pass-low.ensures in
    let b = subst (λ (z : ℕ × ℕ). TakesFirst one two z.1 q) pair c.take_pass-high.ensures in
    closed_is m s.edges s.lists c.args.number n ps k rises inside one two p q a b c.args.edge c.close.result is c.close.ensures.registers c.close.ensures.history

pub returns-clause-left : goal.returns-clause-left
returns-clause-left c s n is k =
    let m = c.args.map.now in
    let ps = c.args.passes.now.items in
    let one = c.take_pass-low.new.passes.items in
    let two = c.take_pass-high.new.passes.items in
    let p = c.take_pass-low.result in
    let q = c.take_pass-high.result in
    let pair = c.ends-lower.ensures.pair in
    let rises = subst (λ (z : ℕ × ℕ). z.0 < z.1) pair c.ends-lower.ensures.rising in
    let inside = subst (λ (z : ℕ × ℕ). z.1 < tiles_of m) pair c.ends-lower.ensures.tile in
    let a = subst (λ (z : ℕ × ℕ). TakesFirst ps one z.0 p) pair c.take_pass-low.ensures in
    let b = subst (λ (z : ℕ × ℕ). TakesFirst one two z.1 q) pair c.take_pass-high.ensures in
    left_after m s.edges s.lists c.args.number n ps k rises inside one two p q a b
