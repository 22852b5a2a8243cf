use Rattle.std.proofs.Common.{◌≡◌, ◌∷◌, [], All, ap, length, length-append, subst, sym, arith}
use Rattle.std.proofs.lemmas.List.Elements.{All-append, All-cons}
use Rattle.feast_run.specs.Acting.{acts}
use Rattle.feast_run.specs.Values.{elements_value}
use Rattle.feast_run.specs.declared.elements.ElementActor.{ElementActor}
use Rattle.feast_run.proofs.acting.actors.Goals as goal

pub loop-tile-preserved : goal.loop-tile-preserved
loop-tile-preserved c =
    let done = c.loop-tile.actors.items in
    let actor = c.in_ok-actor.actor in
    let more = c.in_ok-push.ensures.items in
    let P = λ (a : ElementActor). acts a ≡ (elements_value c.args.elements.now).meaning in
    record {
      many = omega (arith, ap length more, length-append done (actor ∷ []), c.loop-tile.invariant.many);
      acts = subst (All P) (sym more) (All-append P done (actor ∷ []) c.loop-tile.invariant.acts (All-cons P actor [] c.in_ok-actor.ensures (λ k d lt. absurd (omega (arith, lt)))));
    }
