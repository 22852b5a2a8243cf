use Rattle.std.proofs.Common.{◌∙◌, sym, ap, ◌+◌, List, ◌∷◌, drop, map, Ok}
use Rattle.std.proofs.lemmas.List.{at_drop_more, at_drop_all}
use Rattle.ulam_tree.specs.Found.{with_front}
use Rattle.ulam_tree.specs.RawViews.{word_of}
use Rattle.ulam_tree.specs.declared.raw.Word.{Word}
use Rattle.ulam_tree.specs.declared.resolved.Step.{Step}
use Rattle.ulam_names.specs.Scopes as scope
use Rattle.ulam_names.specs.Walk as walk
use Rattle.ulam_names.specs.Shown.{head_of}
use Rattle.ulam_names.proofs.Faults.{no_room}
use Rattle.ulam_names.proofs.Paths.{path_done, path_ends, path_on}
use Rattle.ulam_names.proofs.path.push_steps.Goals as goal

pub returns-in_err-push-in-Some : goal.returns-in_err-push-in-Some
returns-in_err-push-in-Some c = no_room _ _ _ c.from_residual.ensures

pub returns-in-None : goal.returns-in-None
returns-in-None c =
    let heads : List scope.Head = map head_of c.args.heads.now in
    let rest : List Word = drop (c.loop-word.word-index + 1) c.args.words.now in
    c.loop-word.invariant
    ∙ at_drop_more (λ (zs : List Word). with_front c.loop-word.steps.items (walk.steps_after heads c.loop-word.inside (map word_of zs))) c.args.words.now c.loop-word.word-index
    c.word-item.result c.loop-word-test.true
    ∙ ap (λ (x : Word). with_front c.loop-word.steps.items (walk.steps_after heads c.loop-word.inside (word_of x ∷ map word_of rest))) (sym c.word-item.is)
    ∙ path_ends heads c.loop-word.inside c.loop-word.steps.items (word_of c.word-item.result) (map word_of rest)
    (ap (scope.next_name heads c.loop-word.inside) (sym c.bytes.ensures) ∙ sym c.next_name.ensures ∙ c.in-None.is)

pub loop-word-preserved : goal.loop-word-preserved
loop-word-preserved c =
    let heads : List scope.Head = map head_of c.args.heads.now in
    let rest : List Word = drop (c.loop-word.word-index + 1) c.args.words.now in
    c.loop-word.invariant
    ∙ at_drop_more (λ (zs : List Word). with_front c.loop-word.steps.items (walk.steps_after heads c.loop-word.inside (map word_of zs))) c.args.words.now c.loop-word.word-index
    c.word-item.result c.loop-word-test.true
    ∙ ap (λ (x : Word). with_front c.loop-word.steps.items (walk.steps_after heads c.loop-word.inside (word_of x ∷ map word_of rest))) (sym c.word-item.is)
    ∙ path_on heads c.loop-word.inside c.in-Some.next c.loop-word.steps.items c.in-Some.step (word_of c.word-item.result) (map word_of rest)
    (ap (scope.next_name heads c.loop-word.inside) (sym c.bytes.ensures) ∙ sym c.next_name.ensures ∙ c.in-Some.is)
    ∙ ap (λ (zs : List Step). with_front zs (walk.steps_after heads c.in-Some.next (map word_of rest))) (sym c.in_ok-push-in-Some.ensures.items)

pub returns : goal.returns
returns c =
    let heads : List scope.Head = map head_of c.args.heads.now in
    c.loop-word.invariant
    ∙ at_drop_all (λ (zs : List Word). with_front c.loop-word.steps.items (walk.steps_after heads c.loop-word.inside (map word_of zs))) c.args.words.now c.loop-word.word-index
    c.loop-word-test.false
    ∙ ap Ok (path_done c.loop-word.steps.items)
