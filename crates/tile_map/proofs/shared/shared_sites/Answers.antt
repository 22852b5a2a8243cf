use Rattle.std.proofs.Common.{◌≡◌, ◌≤◌, [], ◌∷◌, ◌++◌, get_or, length, map, take, sym, ap, ◌∙◌, arith}
use Rattle.std.proofs.lemmas.List.{map-append, take_all, take_more}
use Rattle.tile_map.specs.Tables.{shared_both, shared_value}
use Rattle.tile_map.proofs.Pairs.{pair_low}
use Rattle.tile_map.proofs.shared.shared_sites.Goals as goal

pub common-requires-clause-lower : goal.common-requires-clause-lower
common-requires-clause-lower c = (pair_low c.args.plane.now c.args.ends.now c.loop-pair.pair-index (0, 0) c.requires c.loop-pair-test.true).0

pub common-requires-clause-higher : goal.common-requires-clause-higher
common-requires-clause-higher c = (pair_low c.args.plane.now c.args.ends.now c.loop-pair.pair-index (0, 0) c.requires c.loop-pair-test.true).1

pub loop-pair-preserved : goal.loop-pair-preserved
loop-pair-preserved c =
    let ends = c.args.ends.now in
    let both = shared_both c.args.plane.now in
    let i = c.loop-pair.pair-index in
    let sites = c.in_ok-sites.ensures ∙ ap (shared_value c.args.plane.now) c.common.ensures.value in
    let more = ap (map both) (take_more ends i (0, 0) c.loop-pair-test.true) ∙ map-append both (take i ends) (get_or ends i (0, 0) ∷ []) in
    c.in_ok-push.ensures.items ∙ ((λ j. c.loop-pair.invariant j ++ sites j ∷ []) ∙ sym more)

pub returns : goal.returns
returns c =
    let ends = c.args.ends.now in
    let i = c.loop-pair.pair-index in
    let past : length ends ≤ i = omega arith in
    c.loop-pair.invariant ∙ ap (map (shared_both c.args.plane.now)) (take_all i ends past ∙ c.requires)
