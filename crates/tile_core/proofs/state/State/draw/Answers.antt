use Rattle.std.proofs.Common.{subst}
use Rattle.draw_stream.proofs.Plans.{taken_first}
use Rattle.tile_core.specs.Kept.{value_of}
use Rattle.draw_stream.specs.Plans.{TakesNext}
use Rattle.tile_core.proofs.Ready.{next_centre}
use Rattle.tile_core.proofs.state.State.draw.Goals as goal

pub begin-requires-clause-centre : goal.begin-requires-clause-centre
begin-requires-clause-centre c =
    let q = c.requires.phase.1 in
    let t = value_of c.args.self.now in
    let first = taken_first t.left c.next.new.self c.in-Some.attempt (subst (λ o. TakesNext t.left o c.next.new.self) c.in-Some.is c.next.ensures) in
    (next_centre c.args.map.now t.number t.taken q.2 t.left c.next.new.self c.in-Some.attempt q.4.can q.4.left first).0

pub begin-requires-clause-taken : goal.begin-requires-clause-taken
begin-requires-clause-taken c =
    let q = c.requires.phase.1 in
    let t = value_of c.args.self.now in
    let first = taken_first t.left c.next.new.self c.in-Some.attempt (subst (λ o. TakesNext t.left o c.next.new.self) c.in-Some.is c.next.ensures) in
    (next_centre c.args.map.now t.number t.taken q.2 t.left c.next.new.self c.in-Some.attempt q.4.can q.4.left first).1
