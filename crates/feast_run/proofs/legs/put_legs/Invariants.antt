use Rattle.std.proofs.Common.{◌≡◌}
use Rattle.chain_run.specs.Between.{IsBetween}
use Rattle.chain_run.specs.Reports.{AreCountsOf}
use Rattle.chain_text.specs.Values.{chain_value}
use Rattle.feast_run.specs.Changes.{change}
use Rattle.feast_run.specs.Values.{elements_value, ready_chain_value}
use Rattle.feast_run.proofs.LegsPut.{ArePut}
use Rattle.feast_run.proofs.legs.put_legs.Given as goal

abbrev pub invariant-loop-made : goal.invariant-loop-made
invariant-loop-made g l = record {
  put : ArePut l.fn.legs.stepped (ready_chain_value l.fn.legs.ready) l.made l.grid l.writer.counts (change g.K.Sink.state l.fn.sink l.sink);
  names : l.writer.names ≡ (elements_value l.fn.legs.ready.elements).names;
  between : IsBetween (elements_value l.fn.legs.ready.elements).names (chain_value l.fn.legs.ready.chain) l.grid;
  few : AreCountsOf l.made l.writer.counts;
}
