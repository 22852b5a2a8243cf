use Rattle.std.proofs.Common.{ℕ, ◌≡◌, ◌++◌, List, drop, map}
use Rattle.world_text.specs.Named.{AreKinds, type_of}
use Rattle.world_text.proofs.named.types_of.Given as goal

abbrev pub invariant-loop-name : goal.invariant-loop-name
invariant-loop-name l = (names : List (List ℕ)) → AreKinds names l.kinds → l.types.items ++ map (type_of names) (drop l.name-index l.kept) ≡ map (type_of names) l.kept
