use Rattle.std.proofs.Common.{◌<◌, ◌∷◌, length, sym, ap, ◌∙◌, subst}
use Rattle.tile_threads.proofs.Firsts.{first_removed}
use Rattle.tile_threads.proofs.tile_passes.TilePasses.take_first.Goals as goal

pub returns : goal.returns
returns c =
    let passes = c.self.inside.passes.items in
    let view = c.self.view_is in
    let some = subst (λ ps. 0 < length ps) (sym view) c.requires in
    sym view ∙ first_removed passes c.remove.result some c.remove.ensures.value
    ∙ ap (λ ps. c.remove.result ∷ ps) (sym c.remove.ensures.items)
