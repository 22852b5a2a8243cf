use Rattle.std.proofs.Common.{◌∙◌, sym, ap, ℕ, ◌+◌, ◌-◌, List, Option, length}
use Rattle.ulam_tree.specs.Ways.{leads}
use Rattle.ulam_heirs.proofs.Walks.{above, turn_more, turn_none, leads_zero, leads_none, leads_here, leads_on}
use Rattle.ulam_heirs.proofs.line.leads_back.Goals as goal

pub returns-in-None : goal.returns-in-None
returns-in-None c =
    let bases : List (Option ℕ) = c.args.bases.now in
    let left : ℕ = length bases - (c.turns._turn + 1) in
    sym (
    c.turns.invariant
    ∙ ap (λ n. leads (above bases) n c.turns.at c.args.class) (turn_more (length bases) c.turns._turn c.turns-test.true)
    ∙ leads_none bases left c.turns.at c.args.class c.in-None.ensures
    )

pub returns-then-base-class : goal.returns-then-base-class
returns-then-base-class c =
    let bases : List (Option ℕ) = c.args.bases.now in
    let left : ℕ = length bases - (c.turns._turn + 1) in
    sym (
    c.turns.invariant
    ∙ ap (λ n. leads (above bases) n c.turns.at c.args.class) (turn_more (length bases) c.turns._turn c.turns-test.true)
    ∙ leads_here bases left c.turns.at c.in-Some.base c.args.class c.in-Some.ensures c.if-base-class.true
    )

pub turns-preserved : goal.turns-preserved
turns-preserved c =
    let bases : List (Option ℕ) = c.args.bases.now in
    let left : ℕ = length bases - (c.turns._turn + 1) in
    c.turns.invariant
    ∙ ap (λ n. leads (above bases) n c.turns.at c.args.class) (turn_more (length bases) c.turns._turn c.turns-test.true)
    ∙ leads_on bases left c.turns.at c.in-Some.base c.args.class c.in-Some.ensures c.if-base-class.false

pub returns : goal.returns
returns c =
    sym (
    c.turns.invariant
    ∙ ap (λ n. leads (above c.args.bases.now) n c.turns.at c.args.class) (turn_none (length c.args.bases.now) c.turns._turn c.turns-test.false)
    ∙ leads_zero c.args.bases.now c.turns.at c.args.class
    )
