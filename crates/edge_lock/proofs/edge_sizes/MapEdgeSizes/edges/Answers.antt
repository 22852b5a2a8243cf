use Rattle.edge_lock.proofs.Sizes.{sizes_ordered}
use Rattle.edge_lock.proofs.edge_sizes.MapEdgeSizes.edges.Goals as goal

pub returns-clause-ordered : goal.returns-clause-ordered
returns-clause-ordered c = sizes_ordered c.args.self.now
