use Rattle.std.proofs.Common.{◌≡◌, ℕ, ◌+◌, ◌<◌, List, [], ◌∷◌, ◌++◌, set, sym, ap, ◌∙◌, subst}
use Rattle.edge_lock.specs.Edges.{registers_of}
use Rattle.tile_map.specs.Plane.{tiles_of}
use Rattle.tile_map.specs.Edges.{high_end}
use Rattle.edge_lock.specs.Passes.{EdgeValue, PassValue}
use Rattle.tile_threads.specs.Passes.{AreEdgesMade, passes_of}
use Rattle.tile_threads.proofs.NewEdges.{made_more}
use Rattle.tile_threads.proofs.edges.make_edge.Goals as goal

pub returns : goal.returns
returns c =
    let m = c.args.map.now in
    let n = c.args.edge in
    let ps = c.args.passes.now.items in
    let one = c.give_pass.new.passes.items in
    let two = c.give_pass-2.new.passes.items in
    let p = c.in_ok-made.low in
    let q = c.in_ok-made.high in
    let pair = c.ends-lower.ensures.pair in
    let rises = subst (λ (z : ℕ × ℕ). z.0 < z.1) pair c.ends-lower.ensures.rising in
    let inside = subst (λ (z : ℕ × ℕ). z.1 < tiles_of m) pair c.ends-lower.ensures.tile in
    let first = subst (λ (z : ℕ × ℕ). one ≡ set ps z.0 (passes_of ps z.0 ++ p ∷ [])) pair c.in_ok-give_pass.ensures in
    let second = subst (λ (z : ℕ × ℕ). two ≡ set one z.1 (passes_of one z.1 ++ q ∷ [])) pair c.in_ok-give_pass-2.ensures in
    let all = second ∙ ap (λ (l : List (List PassValue)). set l (high_end m n) (passes_of l (high_end m n) ++ q ∷ [])) first in
    let items = c.in_ok-push.ensures.items in
    subst (λ (y : List EdgeValue × List (List PassValue)). AreEdgesMade m (n + 1) y.0 y.1) (λ i. (sym items i, sym all i))
    (made_more m n c.args.edges.now.items ps c.requires.made rises inside c.in_ok-made.made c.in_ok-made.ensures.edge.0 (c.in_ok-made.ensures.edge.1 ∙ ap registers_of c.shared.ensures.count) p q c.in_ok-made.ensures.passes.0 c.in_ok-made.ensures.passes.1)
