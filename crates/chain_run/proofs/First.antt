-- The grid of a chain's atoms is one between its legs.
use Rattle.std.proofs.Common.{ℕ, List, length}
use Rattle.chain_text.specs.Chain.{ChainValue, IsChain}
use Rattle.world_runs.proofs.KnownAtoms.{start_known}
use Rattle.world_runs.specs.Known.{ArePlacedKnown}
use Rattle.chain_run.proofs.Stored.{first_stored, start_fits}
use Rattle.chain_run.specs.Between.{IsBetween}
use Rattle.chain_run.specs.Chains.{first_grid}

pub atoms_known : (names : List (List ℕ)) (c : ChainValue) → IsChain names c → ArePlacedKnown (length names) c.atoms
atoms_known names c is = λ i d lt. let atom = (is.atoms i d lt).known in (atom.0, atom.1)

pub first_between : (names : List (List ℕ)) (c : ChainValue) → IsChain names c → IsBetween names c (first_grid c)
first_between names c is = record {
  stored = first_stored names c is;
  grid = start_fits c.plane c.atoms;
  named = start_known (length names) c.plane c.atoms (atoms_known names c is);
}
