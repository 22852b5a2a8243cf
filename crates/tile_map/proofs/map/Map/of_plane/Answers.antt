use Rattle.std.proofs.Common.{ℕ, ◌≤◌, List, length, map, arith, ap, sym, subst, ◌∙◌}
use Rattle.std.specs.List.{range_with_len}
use Rattle.tile_map.specs.Edges.{edges_among}
use Rattle.tile_map.specs.Zones.{zone_needs}
use Rattle.tile_map.proofs.Pairs.{pairs_near, pairs_bounded, edges_at-few}
use Rattle.tile_map.proofs.map.Map.of_plane.Goals as goal

pub by_tile-requires-clause-small : goal.by_tile-requires-clause-small
by_tile-requires-clause-small c =
    let m = c.args.plane in
    let valid = c.tiles.ensures.valid in
    let same = c.as_slice.ensures.value ∙ c.in_ok-ends.ensures ∙ sym (pairs_near m valid) in
    omega (arith, ap length same, pairs_bounded m valid)

pub by_tile-requires-clause-few : goal.by_tile-requires-clause-few
by_tile-requires-clause-few c = λ t lt.
    let m = c.args.plane in
    let valid = c.tiles.ensures.valid in
    let same = c.as_slice.ensures.value ∙ c.in_ok-ends.ensures ∙ sym (pairs_near m valid) in
    let count = c.tiles.ensures.count in
    subst (λ (x : List (ℕ × ℕ) × ℕ). length (edges_among x.0 x.1 t) ≤ 8) (λ i. (sym same i, sym count i)) (edges_at-few m valid t (omega (arith, lt, count)))

pub shared_sites-requires : goal.shared_sites-requires
shared_sites-requires c = c.as_slice-2.ensures.value ∙ c.in_ok-ends.ensures ∙ sym (pairs_near c.args.plane c.tiles.ensures.valid)

pub invariant_of-map : goal.invariant_of-map
invariant_of-map c =
    let m = c.args.plane in
    let valid = c.tiles.ensures.valid in
    let ends = c.in_ok-ends.ensures ∙ sym (pairs_near m valid) in
    let same = c.as_slice.ensures.value ∙ ends in
    let count = c.tiles.ensures.count in (
      record {
        valid = valid;
        pairs = ends;
        lists = c.in_ok-around.ensures ∙ (λ i. map (edges_among (same i) (count i)) (range_with_len 0 (count i)));
        areas_are = c.in_ok-areas.ensures;
        shared = c.in_ok-shared.ensures;
      },
      c.new.ensures.items ∙ ap (λ (ns : List (List ℕ)). map (zone_needs m) (range_with_len 0 (length ns))) (sym c.new.ensures.items),
    )
