use Rattle.std.proofs.Common.{All, subst}
use Rattle.std.proofs.lemmas.List.{take_all}
use Rattle.std.proofs.lemmas.List.Elements.{All-more}
use Rattle.bit_field.specs.Atom.{IsAtom}
use Rattle.report_text.proofs.fitting.atoms_fit.Goals as goal

pub loop-atom-preserved : goal.loop-atom-preserved
loop-atom-preserved c = All-more IsAtom c.args.atoms.now c.loop-atom.atom-index c.atom-item.result c.loop-atom-test.true c.loop-atom.invariant (subst IsAtom c.atom-item.is c.atom_fits.ensures)

pub returns : goal.returns
returns c = subst (λ xs. All IsAtom xs) (take_all c.loop-atom.atom-index c.args.atoms.now c.loop-atom-test.false) c.loop-atom.invariant
