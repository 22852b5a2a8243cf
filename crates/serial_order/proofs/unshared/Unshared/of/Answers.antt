use Rattle.std.proofs.Common.{◌+◌, ◌-◌, ◌==◌, ◌∙◌, ap}
use Rattle.std.specs.Prelude.{if◌then◌else◌}
use Rattle.serial_order.proofs.UnsharedSites.{unshared_is}
use Rattle.serial_order.proofs.unshared.Unshared.of.Goals as goal

pub returns-clause-unshared : goal.returns-clause-unshared
returns-clause-unshared c =
    let x = c.columns-first.ensures in
    let y = c.rows-first.ensures in
    unshared_is c.args.map.now c.width.ensures.valid
    (record {
      tile = c.args.tile;
      left = c.unshared_places-left.result.0;
      right = c.unshared_places-left.result.1;
      top = c.unshared_places-top.result.0;
      bottom = c.unshared_places-top.result.1;
    })
    c.requires
    (c.unshared_places-left.ensures.from ∙ ap (λ n. if n == 0 then 0 else n + 8) x.first)
    (c.unshared_places-left.ensures.to ∙ (λ i. if x.end i == c.width.ensures.value i then x.end i else x.end i - 8))
    (c.unshared_places-top.ensures.from ∙ ap (λ n. if n == 0 then 0 else n + 8) y.first)
    (c.unshared_places-top.ensures.to ∙ (λ i. if y.end i == c.height.ensures.value i then y.end i else y.end i - 8))
