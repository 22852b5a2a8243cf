-- The number of shared sites of an edge, from its number of registers.
use Rattle.std.proofs.Common.{◌≡◌, ℕ, arith}
use Rattle.edge_lock.specs.Edges.{registers_of}
use Rattle.edge_lock.specs.History.{site_count}

pub sites_back : (n : ℕ) → site_count (registers_of n) ≡ n
unfolding site_count
sites_back n = grind arith
