use Rattle.std.proofs.Common.{◌≤◌, arith, sym, subst}
use Rattle.ulam_parse.specs.Nests.{nest_of}
use Rattle.ulam_parse.specs.Nesting.{Nest, depth}
use Rattle.ulam_parse.proofs.Nests.{closed_small}
use Rattle.ulam_parse.proofs.nest.step.Goals as goal

pub returns-in-Closes-clause-small : goal.returns-in-Closes-clause-small
returns-in-Closes-clause-small c =
    let small = closed_small (nest_of c.args.nest).outer c.count_at-count.result c.args.symbol (omega (arith, c.requires, c.count_at-count.ensures.small)) in
    let F : Nest → Type 0 = λ m. depth m ≤ 66 in
    subst F (sym c.close_bracket.ensures) small
