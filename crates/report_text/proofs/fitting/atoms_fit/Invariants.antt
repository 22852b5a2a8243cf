use Rattle.std.proofs.Common.{All, take}
use Rattle.bit_field.specs.Atom.{IsAtom}
use Rattle.report_text.proofs.fitting.atoms_fit.Given as goal

abbrev pub invariant-loop-atom : goal.invariant-loop-atom
invariant-loop-atom l = All IsAtom (take l.atom-index l.atoms)
