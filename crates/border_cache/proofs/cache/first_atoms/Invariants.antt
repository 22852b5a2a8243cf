use Rattle.std.proofs.Common.{◌-◌}
use Rattle.border_cache.specs.Copies.{patch}
use Rattle.border_cache.proofs.FirstAtoms.{AreRowsIn}
use Rattle.border_cache.proofs.cache.first_atoms.Given as goal

abbrev pub invariant-loop-y : goal.invariant-loop-y
invariant-loop-y l = AreRowsIn l.start (patch l.left l.top l.width l.height) (l.y - l.top) l.atoms.items
