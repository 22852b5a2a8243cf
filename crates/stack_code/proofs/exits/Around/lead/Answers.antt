use Rattle.std.proofs.Common.{◌≡◌, Some}
use Rattle.std.specs.Prelude.{slice_get}
use Rattle.stack_code.specs.Valid.{after_call}
use Rattle.stack_code.specs.KindLists.{list_at}
use Rattle.stack_code.proofs.Arguments.{get_some}
use Rattle.stack_code.proofs.exits.Around.lead.Goals as goal

pub returns-in-Some-clause-exit : goal.returns-in-Some-clause-exit
returns-in-Some-clause-exit c =
    let a = c.in-Some.ensures.lookup in
    let e : slice_get c.args.self.now.code.now.functions c.in-Enter.f ≡ Some c.in-Some.callee.now = get_some c.functions.result.now c.args.self.now.code.now.functions c.in-Enter.f c.in-Some.callee.now c.functions.ensures a.3.0 a.3.1 in
    rw (c.in-Enter.is, e) (c.falls.ensures c.args.lists.now.nodes c.call.new.lists.nodes (after_call (Some c.in-Some.callee.now) (list_at c.args.lists.now.nodes c.args.id)) c.call.ensures.list)
