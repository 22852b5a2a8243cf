use Rattle.std.proofs.Common.{◌≡◌, ◌-◌, ◌≤◌, ℕ, List, length, get_or, ap, sym, subst, arith}
use Rattle.std.specs.Prelude.{reverse}
use Rattle.std.proofs.lemmas.List.{length-reverse}
use Rattle.stack_code.specs.declared.kind_lists.Node.{Node}
use Rattle.stack_code.specs.KindLists.{Lists, IsTree}
use Rattle.stack_code.proofs.KindLists.{NodeIs, node_is}
use Rattle.stack_code.proofs.kind_lists.KindLists.node.Goals as goal

fact : (xs now : List Node) (id : ℕ) (r : Node) → reverse xs ≡ now → IsTree (reverse xs) → 1 ≤ id → id ≤ length now → r ≡ get_or xs (id - 1) r → NodeIs now id r
fact xs now id r v t some fits a =
    let n = node_is xs id r t some (omega (arith, fits, ap length v, length-reverse xs)) in
    subst (λ l. NodeIs l id r) v (subst (NodeIs (reverse xs) id) (sym a) n)

pub returns-clause-list : goal.returns-clause-list
returns-clause-list c = (fact c.self.inside.nodes.items c.args.self.now.nodes c.args.id c.index.result.now (ap (λ (l : Lists). l.nodes) c.self.view_is) c.self.invariant.0 c.requires.some c.requires.fits c.index.ensures).list

pub returns-clause-below : goal.returns-clause-below
returns-clause-below c = (fact c.self.inside.nodes.items c.args.self.now.nodes c.args.id c.index.result.now (ap (λ (l : Lists). l.nodes) c.self.view_is) c.self.invariant.0 c.requires.some c.requires.fits c.index.ensures).below

pub returns-clause-depth : goal.returns-clause-depth
returns-clause-depth c = (fact c.self.inside.nodes.items c.args.self.now.nodes c.args.id c.index.result.now (ap (λ (l : Lists). l.nodes) c.self.view_is) c.self.invariant.0 c.requires.some c.requires.fits c.index.ensures).depth
