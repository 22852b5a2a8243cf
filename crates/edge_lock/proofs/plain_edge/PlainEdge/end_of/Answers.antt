use Rattle.std.proofs.Common.{◌≡◌, true, false, sym, ap, arith}
use Rattle.std.specs.Prelude.{◌==◌, if◌then◌else◌}
use Rattle.edge_lock.proofs.plain_edge.PlainEdge.end_of.Goals as goal

pub returns-then-self-tile-clause-end : goal.returns-then-self-tile-clause-end
returns-then-self-tile-clause-end c =
    let same : (c.args.self.now.lower == c.args.tile) ≡ true = grind (arith, c.if-self-tile.true) in
    sym (ap (λ b. if b then 0 else 1) same)

pub returns-else-self-tile-clause-end : goal.returns-else-self-tile-clause-end
returns-else-self-tile-clause-end c =
    let other : (c.args.self.now.lower == c.args.tile) ≡ false = grind (arith, c.if-self-tile.false) in
    sym (ap (λ b. if b then 0 else 1) other)
