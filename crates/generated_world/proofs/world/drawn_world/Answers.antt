use Rattle.std.proofs.Common.{◌∙◌, ap}
use Rattle.draw_stream.specs.Attempts.{stream_seed}
use Rattle.draw_stream.specs.Plans.{seeded}
use Rattle.tile_map.specs.Plane.{plane_of}
use Rattle.generated_world.proofs.world.drawn_world.Goals as goal
use Rattle.world_text.specs.Named.{drawn}

pub returns : goal.returns
returns c =
    let off = c.in_ok-off.ensures.items_if_clones_equal (λ y h. h) in
    let plan = c.in_ok-plan.ensures.value ∙ ap (λ marks. seeded c.args.number 500 marks 256) (c.as_slice.ensures.value ∙ off) in
    let map = c.in_ok-map.ensures ∙ ap (plane_of 4 4 16 16) (c.as_slice-2.ensures.value ∙ off) in
    (λ i. record {
      plane = map i;
      plan = plan i;
      atoms = c.in_ok-atoms.ensures i;
      order = drawn (stream_seed c.args.number 1);
    })
