use Rattle.std.proofs.Common.{◌≡◌, ap, arith}
use Rattle.std.proofs.lemmas.Grind.{common_steps}
use Rattle.edge_lock.specs.Edges.{registers_of, size_at, sizes_of}
use Rattle.edge_lock.proofs.edge_sizes.MapEdgeSizes.registers.Goals as goal

pub returns : goal.returns
returns c =
    let sites : c.shared-sites.result ≡ (size_at (sizes_of c.args.self.now) c.args.edge).sites = grind (arith, common_steps) in
    ap registers_of sites
