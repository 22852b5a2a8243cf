use Rattle.world_text.proofs.Prints.{named_of, valid_of}
use Rattle.world_text.proofs.named.name.Goals as goal

pub returns-clause-named : goal.returns-clause-named
returns-clause-named c = named_of c.args.names.now _ c.world.result c.laws.ensures c.world.ensures

pub returns-clause-valid : goal.returns-clause-valid
returns-clause-valid c = valid_of c.args.names.now _ c.world.result c.laws.ensures c.world.ensures
