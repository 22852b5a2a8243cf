use Rattle.std.proofs.Common.{◌≡◌, ◌+◌, ap, ◌∙◌, arith}
use Rattle.tile_map.specs.Spans.{right_of, bottom_of}
use Rattle.border_cache.specs.BorderRows.{reach}
use Rattle.border_cache.proofs.BorderRows.{reach_ends}
use Rattle.border_cache.proofs.cache.Cache.reach.Goals as goal

pub returns-clause-value : goal.returns-clause-value
returns-clause-value c =
    let f = c.self.inside in
    let ends = reach_ends f.plane f.tile c.self.invariant.valid c.self.invariant.inside in
    let x : f.left + f.width ≡ right_of f.plane f.tile = (λ i. c.self.invariant.left_is i + c.self.invariant.width_is i) ∙ ends.columns in
    let y : f.top + f.height ≡ bottom_of f.plane f.tile = (λ i. c.self.invariant.top_is i + c.self.invariant.height_is i) ∙ ends.rows in
    (λ i. record { columns = record { first = c.self.invariant.left_is i; end = x i }; rows = record { first = c.self.invariant.top_is i; end = y i } }) ∙ ap reach c.self.view_is

pub returns-clause-small : goal.returns-clause-small
returns-clause-small c =
    let f = c.self.inside in
    let ends = reach_ends f.plane f.tile c.self.invariant.valid c.self.invariant.inside in
    record {
      columns = omega (arith, c.self.invariant.left_is, c.self.invariant.width_is, ends.columns, ends.right);
      rows = omega (arith, c.self.invariant.top_is, c.self.invariant.height_is, ends.rows, ends.bottom);
    }
