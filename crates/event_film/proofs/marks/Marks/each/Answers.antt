use Rattle.std.proofs.Common.{◌≡◌, arith, refl}
use Rattle.event_film.proofs.Marking.{marks_begun, marks_ended, marks_taken}
use Rattle.event_film.proofs.marks.Marks.each.Goals as goal

pub loop-n-init : goal.loop-n-init
loop-n-init c = marks_begun c.args.self.now _ c.self.inside.bits refl c.self.view_is

pub loop-n-preserved : goal.loop-n-preserved
loop-n-preserved c = marks_taken c.args.self.now c.loop-n.sites c.loop-n.n c.loop-n.left c.loop-n-test.true c.loop-n.invariant

pub returns : goal.returns
returns c =
    let end : c.loop-n.n ≡ 41 = omega arith in
    marks_ended c.args.self.now c.loop-n.sites c.loop-n.left (rw end at c.loop-n.invariant)
