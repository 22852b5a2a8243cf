use Rattle.std.proofs.Common.{◌≡◌, List, ℕ, ◌∙◌, arith}
use Rattle.std.specs.Prelude.{IfOk, Result, Ok, Err}
use Rattle.event_journal.specs.Keys.{AreKeys, lists_behind}
use Rattle.event_journal.proofs.Keys.{keys_of_all}
use Rattle.event_journal.proofs.merge.tournament.Goals as goal

pub returns : goal.returns
returns c = go c.new.result c.new.ensures
  where
    go : {E : Type 0} (r : Result (List ℕ) E) → IfOk r (λ t. t ≡ c.as_slice.result.now) → IfOk r (λ t. AreKeys (lists_behind c.args.lefts.now) t)
    go (Ok t) is =
        keys_of_all c.args.lefts.now t c.loop-k.keys.items c.loop-k.k (is ∙ c.as_slice.ensures.value) c.loop-k.invariant.count (omega (arith, c.loop-k-test.false)) (omega (arith, c.loop-k.auto.k-end)) c.loop-k.invariant.each
    go (Err e) is = tt
