use Rattle.std.proofs.Common.{length, subst, sym}
use Rattle.cell_grid.specs.Known.{BringsNone}
use Rattle.chain_run.proofs.rewinding.Place.past.Goals as goal

pub returns-clause-place : goal.returns-clause-place
returns-clause-place g c = λ names place.
    let known = place.known c.requires.some in
    let between = c.replay.ensures.between names known in
    record {
      named = between.named;
      known = λ some. record { chain = known.chain; brings = subst (BringsNone (length names)) (sym c.replay.ensures.meaning) known.brings; between = between };
    }
