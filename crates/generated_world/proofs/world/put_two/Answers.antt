use Rattle.std.proofs.Common.{◌+◌, ◌++◌, ap, append_assoc, ◌∙◌}
use Rattle.generated_world.specs.Generated.{put_by}
use Rattle.generated_world.proofs.world.put_two.Goals as goal

pub returns : goal.returns
returns c =
    let one = put_by c.args.place c.args.one in
    let other = put_by (c.args.place + 1) c.args.other in
    c.in_ok-put-2.ensures ∙ ap (λ z. z ++ other) c.in_ok-put.ensures ∙ append_assoc c.args.atoms.now.items one other
