-- The atoms that lines place.
use Rattle.std.specs.Prelude.{ℕ, List, map, slice_index_or, []}
use Rattle.world_text.specs.declared.atoms.NumberedAtom.{NumberedAtom}

-- an atom that a line places, and that line's number
pub record RawAtom : Type 0 where
  pub line : ℕ
  pub x : ℕ
  pub y : ℕ
  pub name : List ℕ
  pub state : ℕ

-- names, and atoms that have the numbers of their names, from 0
pub record AtomsValue : Type 0 where
  pub names : List (List ℕ)
  pub atoms : List NumberedAtom

-- an atom with the name that its number says
abbrev pub named_atom : List (List ℕ) → NumberedAtom → RawAtom
named_atom names a = record { line = a.line; x = a.x; y = a.y; name = slice_index_or names a.name []; state = a.state }

-- the atoms with their names
abbrev pub raw_atoms : AtomsValue → List RawAtom
raw_atoms v = map (named_atom v.names) v.atoms
