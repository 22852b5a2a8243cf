use Rattle.std.proofs.Common.{◌≡◌, ◌<◌, true, sym, ap, subst, arith}
use Rattle.std.proofs.lemmas.Bool.Decides.{nat_tests}
use Rattle.std.specs.Prelude.{if◌then◌else◌, nat_lt}
use Rattle.border_cache.specs.Cells.{CellValue}
use Rattle.border_cache.proofs.cell.Cell.newer_of.Goals as goal

pub returns-then-self-other : goal.returns-then-self-other
returns-then-self-other c =
    let own = c.args.self in
    let other = c.args.other in
    let older : own.stamp < other.stamp = subst (λ (p : CellValue × CellValue). p.0.stamp < p.1.stamp) (λ i. (c.self.view_is i, c.other.view_is i)) c.if-self-other.true in
    let test : nat_lt own.stamp other.stamp ≡ true = grind (arith, nat_tests, older) in
    sym (ap (λ b. if b then other else own) test)
