use Rattle.std.proofs.Common.{◌∙◌, sym, ap, ℕ, suc, ◌+◌, ◌-◌, List, [], ◌∷◌, ◌++◌, Option, length, append_assoc}
use Rattle.std.proofs.lemmas.List.{append-nil}
use Rattle.ulam_heirs.specs.Views.{base_in, upward_from}
use Rattle.ulam_heirs.proofs.Walks.{turn_more, turn_none, up_zero, up_next}
use Rattle.ulam_heirs.proofs.line.upward.Goals as goal

pub turns-preserved : goal.turns-preserved
turns-preserved c =
    let bases : List (Option ℕ) = c.args.bases.now in
    let found : List ℕ = c.turns.found.items in
    let left : ℕ = length bases - (c.turns._turn + 1) in
    let rest : List ℕ = upward_from left (base_in bases) c.base_in-next.result in
    c.turns.invariant
    ∙ ap (λ n. found ++ upward_from n (base_in bases) c.turns.next) (turn_more (length bases) c.turns._turn c.turns-test.true)
    ∙ ap (λ o. found ++ upward_from (suc left) (base_in bases) o) c.in-Some.is
    ∙ ap (λ xs. found ++ xs) (up_next left c.in-Some.at (base_in bases) c.base_in-next.result c.base_in-next.ensures)
    ∙ sym (append_assoc found (c.in-Some.at ∷ []) rest)
    ∙ ap (λ zs. zs ++ rest) (sym c.in_ok-push-in-Some.ensures.items)

pub returns : goal.returns
returns c =
    let bases : List (Option ℕ) = c.args.bases.now in
    let found : List ℕ = c.turns.found.items in
    sym (
    c.turns.invariant
    ∙ ap (λ n. found ++ upward_from n (base_in bases) c.turns.next) (turn_none (length bases) c.turns._turn c.turns-test.false)
    ∙ ap (λ xs. found ++ xs) (up_zero (base_in bases) c.turns.next)
    ∙ append-nil found
    )
