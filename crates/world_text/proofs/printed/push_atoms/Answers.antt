use Rattle.feast_base.proofs.Appending.{Appends-at_exit, more_after}
use Rattle.world_text.specs.Printed.{atom_line}
use Rattle.world_text.proofs.Prints.{lines_more}
use Rattle.world_text.proofs.printed.push_atoms.Goals as goal

pub returns-in_err-push_atom : goal.returns-in_err-push_atom
returns-in_err-push_atom c =
    Appends-at_exit _ c.args.out.now.items c.loop-placed.out.items _ _ c.from_residual.result c.from_residual.ensures.1 c.loop-placed.invariant.kept c.in_err-push_atom.ensures

pub loop-placed-preserved : goal.loop-placed-preserved
loop-placed-preserved c = record {
  done = lines_more (atom_line c.args.names.now) c.loop-placed.placed-index c.args.atoms.now
      c.loop-placed.out.items c.push_atom.new.out.items _ c.placed-item.result c.loop-placed-test.true
      c.placed-item.is c.in_ok-push_atom.ensures c.loop-placed.invariant.done;
  kept = more_after _ _ _ c.loop-placed.invariant.kept (_, c.in_ok-push_atom.ensures);
}
