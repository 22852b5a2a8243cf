use Rattle.std.proofs.Common.{ℕ, ◌≡◌, ◌++◌, List, drop, map}
use Rattle.world_text.specs.Named.{AreKinds}
use Rattle.chain_text.specs.Named.{acts_fault, every_of}
use Rattle.chain_text.proofs.named.name_every.Given as goal

abbrev pub invariant-loop-raw : goal.invariant-loop-raw
invariant-loop-raw l = (names : List (List ℕ)) → AreKinds names l.kinds →
    (acts_fault names (drop l.raw-index l.acts) ≡ acts_fault names l.acts) × (l.named.items ++ map (every_of names) (drop l.raw-index l.acts) ≡ map (every_of names) l.acts)
