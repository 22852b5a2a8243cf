use Rattle.feast_run.proofs.Puts.{legs_with, text_with}
use Rattle.feast_run.specs.Changes.{change}
use Rattle.feast_run.specs.Outputs.{output_text}
use Rattle.feast_run.proofs.top.put.Goals as goal

pub returns-in-Write : goal.returns-in-Write
returns-in-Write g c =
    rw c.in-Write.is (text_with c.args.reply.now.status c.status_after.result (output_text c.in-Write.output) (change g.K.Sink.state c.args.sink.now c.write.new.sink) c.write.result c.write.ensures c.status_after.ensures)

pub returns-in-Legs : goal.returns-in-Legs
returns-in-Legs g c =
    rw c.in-Legs.is (legs_with c.args.reply.now.status c.status_after-in-Legs.result c.in-Legs.legs (change g.K.Sink.state c.args.sink.now c.put_legs.new.sink) c.put_legs.result c.put_legs.ensures c.status_after-in-Legs.ensures)
