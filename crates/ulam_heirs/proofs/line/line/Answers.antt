use Rattle.std.proofs.Common.{◌≡◌, ◌∙◌, ℕ, List, ap, subst}
use Rattle.std.specs.Prelude.{reverse, IfOk}
use Rattle.ulam_heirs.specs.Lines.{Heir, classes_at}
use Rattle.ulam_heirs.specs.Views.{heirs_of}
use Rattle.ulam_heirs.proofs.Walks.{numbers_are}
use Rattle.ulam_heirs.proofs.line.line.Goals as goal

pub returns : goal.returns
returns c =
    let hs : List Heir = heirs_of c.args.heirs.now in
    let upward : List ℕ = c.in_ok-numbers.numbers.items in
    let turned : c.as_slice.result.now ≡ reverse upward = c.as_slice.ensures.value ∙ c.reverse.ensures.items in
    subst (λ (line : List Heir). IfOk c.classes_at.result (λ v. heirs_of v.items ≡ line))
    (ap (classes_at hs) (turned ∙ ap reverse c.in_ok-numbers.ensures ∙ numbers_are hs c.args.bases.now c.requires c.args.class)) c.classes_at.ensures
