use Rattle.std.proofs.Common.{rules, tests, arith}
use Rattle.std.proofs.lemmas.Grind.{elements}
use Rattle.std.proofs.lemmas.List.{get_or_read}
use Rattle.window_sites.proofs.window.Window.put.Goals as goal

pub invariant_of-self : goal.invariant_of-self
invariant_of-self c =
    let live = c.if-is_live.ensures in
    grind (arith, elements)

pub returns-then-is_live : goal.returns-then-is_live
returns-then-is_live c =
    let live = c.if-is_live.ensures in
    search (tests, rules, get_or_read)
