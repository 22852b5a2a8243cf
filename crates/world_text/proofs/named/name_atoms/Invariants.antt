use Rattle.std.proofs.Common.{◌≡◌, ◌*◌, drop, take, map, length, []}
use Rattle.world_text.specs.Atoms.{raw_atoms}
use Rattle.world_text.specs.Named.{name_fault, atom_place, placed_atom, AreMarked}
use Rattle.world_text.proofs.named.name_atoms.Given as goal

abbrev pub invariant-loop-raw : goal.invariant-loop-raw
invariant-loop-raw l = record {
  rest : name_fault l.names l.width (map (atom_place l.width) (take l.raw-index (raw_atoms l.atoms))) (drop l.raw-index (raw_atoms l.atoms)) ≡ name_fault l.names l.width [] (raw_atoms l.atoms);
  found : l.found.items ≡ map (placed_atom l.names) (take l.raw-index (raw_atoms l.atoms));
  marked : AreMarked l.marks.items (map (atom_place l.width) (take l.raw-index (raw_atoms l.atoms)));
  size : length l.marks.items ≡ l.width * l.height;
}
