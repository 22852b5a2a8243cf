use Rattle.std.proofs.Common.{ap, arith, length}
use Rattle.chain_text.specs.Values.{chain_value}
use Rattle.chain_run.proofs.Numbered.{events_few}
use Rattle.chain_run.specs.Reader.{text_bytes}
use Rattle.chain_run.proofs.leg_read.LegRead.events.Goals as goal

pub returns-clause-few : goal.returns-clause-few
returns-clause-few c =
    let f = c.self.inside in
    let few = events_few (chain_value f.leg.chain.now).plane f.plan c.self.invariant.runs.map (text_bytes f.text) f.journal c.self.invariant.says in
    let is = c.records.ensures in
    omega (arith, few, ap length is)
