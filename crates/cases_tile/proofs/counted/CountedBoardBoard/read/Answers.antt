use Rattle.std.proofs.Common.{subst}
use Rattle.edge_lock.specs.History.{IsAllowed, site_count}
use Rattle.edge_lock.specs.EndLists.{Shows, known_value}
use Rattle.edge_lock.specs.PlainBoard.{registers_on, lists_on}
use Rattle.cases_tile.proofs.counted.CountedBoardBoard.read.Goals as goal

pub returns-clause-value : goal.returns-clause-value
returns-clause-value c =
    let e = c.args.edge in let r = c.args.register in let v = c.read.result in
    subst (λ b. Shows (known_value (lists_on b e) r) v) c.count.ensures.same c.read.ensures.value

pub returns-clause-allowed : goal.returns-clause-allowed
returns-clause-allowed c =
    let e = c.args.edge in let r = c.args.register in let v = c.read.result in
    subst (λ b. IsAllowed (site_count (registers_on b e)) r v) c.count.ensures.same c.read.ensures.allowed
