use Rattle.std.proofs.Common.{rules, refl, sym, ap, subst, ◌≡◌, [], replicate}
use Rattle.edge_lock.specs.PlainEdges.{plain_view, IsKept}
use Rattle.edge_lock.specs.RegistersNow.{AreNow}
use Rattle.edge_lock.proofs.PlainRules as keeps
use Rattle.edge_lock.proofs.PlainRules.{M}
use Rattle.edge_lock.proofs.RegistersNow.{now_none}
use Rattle.edge_lock.proofs.plain_edge.PlainEdge.new.Goals as goal

pub of_words-requires : goal.of_words-requires
of_words-requires c = keeps.opens c.args.registers _ refl

pub invariant_of-result : goal.invariant_of-result
invariant_of-result c =
    let n = c.args.registers in let items = c.in_ok-zeros.zeros.items in
    let me : c.in_ok-table.seat.me ≡ (plain_view n [] [] [], []) = search rules in
    let zeros : items ≡ replicate n 0 = search rules in (
      search rules,
      search rules,
      ap (λ (m : M). m.1) me,
      subst (λ (m : M). AreNow m.0.registers m.0.holds items) (sym me) (now_none n items zeros),
      subst (λ (m : M). IsKept m.0) (sym me) (keeps.kept_none n),
    )
