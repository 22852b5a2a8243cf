use Rattle.std.proofs.Common.{◌+◌, ℕ, Bool, arith, ap, length, sym, ◌∙◌}
use Rattle.std.specs.Prelude.{slice_index_or}
use Rattle.std.proofs.lemmas.List.{get_or_default}
use Rattle.tile_map.specs.Edges.{is_in_pair}
use Rattle.list_laws.proofs.Filters.{filter_room, filter_next, grown, kept}
use Rattle.tile_map.proofs.edges.edges_of.Goals as goal
use Rattle.tile_map.proofs.edges.edges_of.Goals.{then-has_end, else-has_end}

pub push-requires : goal.push-requires
push-requires c =
    let p : ℕ → Bool = λ e. is_in_pair c.args.tile (slice_index_or c.args.ends.now e (c.args.tiles, c.args.tiles + 1)) in
    let passes = ap (is_in_pair c.args.tile) (get_or_default c.args.ends.now c.loop-edge.edge (c.args.tiles, c.args.tiles + 1) (0, 0) c.loop-edge-test.true) ∙ sym c.has_end.ensures ∙ c.if-has_end.true in
    omega (arith, ap length c.loop-edge.invariant, filter_room p c.loop-edge.edge (length c.args.ends.now) c.loop-edge-test.true passes, c.requires.few)

pub loop-edge-preserved : goal.loop-edge-preserved
loop-edge-preserved c =
    let p : ℕ → Bool = λ e. is_in_pair c.args.tile (slice_index_or c.args.ends.now e (c.args.tiles, c.args.tiles + 1)) in
    let test = ap (is_in_pair c.args.tile) (get_or_default c.args.ends.now c.loop-edge.edge (c.args.tiles, c.args.tiles + 1) (0, 0) c.loop-edge-test.true) ∙ sym c.has_end.ensures in
    filter_next p c.loop-edge.edge c.has_end.result c.loop-edge.edges c.if-has_end.edges test c.loop-edge.invariant
    (elim c.if-has_end.branch [ then-has_end w ↦ w.edges-is ∙ w.push.ensures ∙ grown c.loop-edge.edges c.loop-edge.edge c.has_end.result w.if-has_end.true | else-has_end w ↦ w.edges-is ∙ kept c.loop-edge.edges c.loop-edge.edge c.has_end.result w.if-has_end.false ])
