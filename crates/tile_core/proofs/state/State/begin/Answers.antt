use Rattle.std.proofs.Common.{◌≡◌, sym, ◌∙◌, arith}
use Rattle.tile_map.specs.Plane.{site}
use Rattle.tile_map.specs.Edges.{needs_of}
use Rattle.tile_map.proofs.Spans.{plane_test}
use Rattle.tile_core.specs.Steps.{first_phase}
use Rattle.tile_core.proofs.Kept.{begun_value, begun_none, begun_some}
use Rattle.tile_core.proofs.state.State.begin.Goals as goal
use Rattle.tile_core.proofs.state.State.begin.Goals.{then-len-eq0, else-len-eq0}

pub returns-clause-begins : goal.returns-clause-begins
returns-clause-begins c =
    let s = c.args.self.now in
    let m = c.args.map.now in
    let x = c.site_of-x.result.0 in
    let y = c.site_of-x.result.1 in
    let needs = c.needs-self.result in
    let phase : c.if-len-eq0.self ≡ first_phase needs = elim c.if-len-eq0.branch [
      | then-len-eq0 w ↦ w.self-is ∙ sym (begun_none needs (omega (arith, c.len.ensures.count, w.if-len-eq0.true)))
      | else-len-eq0 w ↦ w.self-is ∙ sym (begun_some needs (omega (arith, c.len.ensures.count, w.if-len-eq0.false)))
    ] in
    record {
      site_is = c.site_of-x.ensures.value;
      owned = c.site_of-x.ensures.owned;
      inside = plane_test m x y c.site_of-x.ensures.x c.site_of-x.ensures.y;
      is = begun_value s x y c.args.attempt.seed needs (needs_of m s.number (site x y)) c.if-len-eq0.self c.requires.phase c.needs-self.ensures phase;
    }
