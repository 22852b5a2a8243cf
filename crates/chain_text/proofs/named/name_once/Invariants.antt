use Rattle.std.proofs.Common.{ℕ, ◌≡◌, ◌++◌, List, drop, map}
use Rattle.world_text.specs.Named.{AreKinds}
use Rattle.chain_text.specs.Named.{acts_fault, once_of}
use Rattle.chain_text.proofs.named.name_once.Given as goal

abbrev pub invariant-loop-raw : goal.invariant-loop-raw
invariant-loop-raw l = (names : List (List ℕ)) → AreKinds names l.kinds →
    (acts_fault names (drop l.raw-index l.acts) ≡ acts_fault names l.acts) × (l.named.items ++ map (once_of names) (drop l.raw-index l.acts) ≡ map (once_of names) l.acts)
