use Rattle.std.proofs.Common.{rules, tests, arith}
use Rattle.std.proofs.lemmas.Grind.{elements}
use Rattle.window_sites.proofs.window.Window.swap.Goals as goal

pub invariant_of-self : goal.invariant_of-self
invariant_of-self c =
    let first = c.if-is_live.ensures in
    let second = c.if-is_live-2.ensures in
    grind (arith, elements)

pub returns-then-is_live-2 : goal.returns-then-is_live-2
returns-then-is_live-2 c =
    let first = c.if-is_live.ensures in
    let second = c.if-is_live-2.ensures in
    search (tests, rules)
