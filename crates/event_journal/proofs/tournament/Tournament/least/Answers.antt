use Rattle.std.proofs.Common.{◌≤◌, drop, sym, subst, arith}
use Rattle.std.proofs.lemmas.List.{get_or_read}
use Rattle.event_journal.specs.Tournaments.{IsLeast}
use Rattle.event_journal.proofs.Tournaments.{root_is}
use Rattle.event_journal.proofs.tournament.Tournament.least.Goals as goal

pub returns-else-self-eq0 : goal.returns-else-self-eq0
returns-else-self-eq0 c =
    let n = c.self.inside.leaves in
    let nodes = c.self.inside.nodes.items in
    let some : 1 ≤ n = grind (arith, c.if-self-eq0.false) in
    let root = get_or_read nodes 1 _ (omega (arith, c.self.invariant.size, some)) c.index.ensures 0 in
    subst (IsLeast c.index.result.now) c.self.view_is (subst (λ k. IsLeast k (drop n nodes)) (sym root) (root_is n nodes c.self.invariant some))
