use Rattle.std.proofs.Common.{◌≡◌, ◌≤◌, ℕ, Option, length, ap, ◌∙◌, subst, rules}
use Rattle.stack_code.specs.Valid.{Kinds, map_answer}
use Rattle.stack_code.specs.KindLists.{list_at, maybe, Leaves, takes}
use Rattle.stack_code.proofs.Arguments.{after_call_is}
use Rattle.stack_code.proofs.exits.call.Goals as goal

pub returns-clause-list : goal.returns-clause-list
returns-clause-list c =
    let g = c.args.callee.now in
    let ks = list_at c.args.lists.now.nodes c.args.id in
    let h : g.params ≤ length g.slots = search rules in
    let a : c.answer.result ≡ g.answer = search rules in
    let b : takes c.params-2.result c.slots-2.result.now ks ≡ takes g.params g.slots ks = ap (λ (n : ℕ). takes n c.slots-2.result.now ks) c.params-2.ensures ∙ ap (λ (s : Kinds). takes g.params s ks) c.slots-2.ensures in
    let e = ap (λ r. map_answer r (maybe c.args.lists.now.nodes c.takes-below.result)) a ∙ ap (map_answer g.answer) (c.takes-below.ensures.list ∙ b) ∙ after_call_is g ks h in
    subst (λ (o : Option Kinds). Leaves c.args.lists.now.nodes c.with_answer.new.lists.nodes o c.with_answer.result) e c.with_answer.ensures.list
