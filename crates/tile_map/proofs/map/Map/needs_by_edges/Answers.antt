use Rattle.std.proofs.Common.{ℕ, Bool, ap, length, ◌∙◌}
use Rattle.std.specs.Prelude.{filter}
use Rattle.std.specs.List.{range_with_len}
use Rattle.tile_map.specs.Plane.{site}
use Rattle.tile_map.specs.Edges.{pairs_of, has_end, other_end, reaches}
use Rattle.list_laws.proofs.Filters.{filter_twice}
use Rattle.tile_map.proofs.map.Map.needs_by_edges.Goals as goal

pub returns-then-owns : goal.returns-then-owns
returns-then-owns c =
    let m = c.args.self.now in
    let t = c.args.tile in
    let q : ℕ → Bool = λ e. reaches m (site c.args.x c.args.y) (other_end m t e) in
    c.needed_near.ensures ∙ ap (filter q) c.edges_of-edges.ensures.edges ∙ filter_twice (has_end m t) q (range_with_len 0 (length (pairs_of m)))

pub returns-else-owns : goal.returns-else-owns
returns-else-owns c =
    let m = c.args.self.now in
    let t = c.args.tile in
    let q : ℕ → Bool = λ e. reaches m (site c.args.x c.args.y) (other_end m t e) in
    c.needs_among.ensures ∙ ap (filter q) c.edges_of-edges.ensures.edges ∙ filter_twice (has_end m t) q (range_with_len 0 (length (pairs_of m)))
