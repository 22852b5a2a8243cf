use Rattle.std.proofs.Common.{◌≡◌, ◌-◌, ◌≤◌, length, drop, take, ◌++◌, ap, ◌∙◌, rules, sym, arith}
use Rattle.std.specs.Prelude.{reverse}
use Rattle.std.proofs.lemmas.List.{length-reverse}
use Rattle.std.proofs.lemmas.Grind.{common_steps}
use Rattle.event_machine.proofs.OperandStacks.{handed, left}
use Rattle.event_machine.proofs.operands.OperandStack.hand_over.Goals as goal

pub returns-clause-given : goal.returns-clause-given
returns-clause-given c =
    let xs = c.self.inside.items.items in
    let v : c.args.self.now ≡ reverse xs = search rules in
    let n : c.args.count ≤ length xs = omega (arith, c.requires.some, ap length v, length-reverse xs) in
    let e : c.append.new.to.items ≡ c.args.to.now.items ++ drop (length xs - c.args.count) xs = grind (arith, common_steps) in
    e ∙ ap (λ l. c.args.to.now.items ++ l) (handed xs c.args.count n) ∙ ap (λ l. c.args.to.now.items ++ reverse (take c.args.count l)) (sym v)

pub returns-clause-left : goal.returns-clause-left
returns-clause-left c =
    let xs = c.self.inside.items.items in
    let v : c.args.self.now ≡ reverse xs = search rules in
    let n : c.args.count ≤ length xs = omega (arith, c.requires.some, ap length v, length-reverse xs) in
    let e : c.truncate.new.self.items ≡ take (length xs - c.args.count) xs = grind (arith, common_steps) in
    ap reverse e ∙ left xs c.args.count n ∙ ap (drop c.args.count) (sym v)
