use Rattle.std.proofs.Common.{◌<◌, ◌∙◌, sym, length, arith}
use Rattle.ulam_heirs.specs.Ranks.{rank}
use Rattle.ulam_heirs.specs.Views.{heirs_of}
use Rattle.ulam_heirs.proofs.Ranking.{not_own}
use Rattle.ulam_heirs.proofs.Walks.{own_is}
use Rattle.ulam_heirs.proofs.check.is_on_ring.Goals as goal

pub returns-then-rank-top : goal.returns-then-rank-top
returns-then-rank-top c =
    let lt : rank c.args.ranks.now c.args.class < c.args.top = omega (arith, c.rank.ensures, c.if-rank-top.true) in
    sym (not_own c.args.bases.now c.args.ranks.now c.args.top c.requires.ranks (length c.args.bases.now) c.args.class lt)
    ∙ own_is (heirs_of c.args.heirs.now) c.args.bases.now c.requires.bases c.args.class
