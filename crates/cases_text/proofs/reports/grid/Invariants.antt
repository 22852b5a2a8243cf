use Rattle.report_text.specs.Report.{AreNamed}
use Rattle.cases_text.proofs.reports.grid.Given as goal

abbrev pub invariant-loop-placed : goal.invariant-loop-placed
invariant-loop-placed l = AreNamed l.names l.grid.atoms
