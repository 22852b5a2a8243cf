use Rattle.std.proofs.Common.{◌≡◌, ◌+◌, [], ◌∷◌, ◌++◌, ◌∙◌, drop, sym, ap, arith}
use Rattle.std.proofs.lemmas.List.{append_assoc, drop_more}
use Rattle.event_machine.proofs.operands.append.Goals as goal

pub loop-x-preserved : goal.loop-x-preserved
loop-x-preserved c =
    let i = c.loop-x.invariant in
    let room = i.room in
    let push = c.push_reserved.ensures in
    let from = c.args.from.now in
    let to = c.loop-x.to.items in
    let x = c.x-item.result in
    let rest = drop (c.loop-x.x-index + 1) from in
    let next : drop c.loop-x.x-index from ≡ x ∷ rest = drop_more from c.loop-x.x-index x c.loop-x-test.true
    ∙ ap (λ y. y ∷ rest) (sym c.x-item.is) in
    record {
      rest = ap (λ l. l ++ rest) push.items ∙ append_assoc to (x ∷ []) rest ∙ ap (λ l. to ++ l) (sym next)
          ∙ i.rest;
      room = omega (arith, room, push.len, push.capacity, c.loop-x-test.true);
      same = push.capacity ∙ i.same;
    }
