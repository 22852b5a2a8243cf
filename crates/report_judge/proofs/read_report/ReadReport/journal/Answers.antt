use Rattle.std.proofs.Common.{Ok, subst}
use Rattle.report_judge.specs.Judging.{ReadValue}
use Rattle.report_text.proofs.OnLines.{read_on_lines}
use Rattle.report_text.specs.EntryLines.{AreOnLines}
use Rattle.report_judge.proofs.read_report.ReadReport.journal.Goals as goal

pub returns-clause-lines : goal.returns-clause-lines
returns-clause-lines c =
    let inside = c.self.inside in
    subst (λ (v : ReadValue). AreOnLines v.bytes v.entries) c.self.view_is
    (read_on_lines inside.map.now inside.plan.now c.laws.ensures.valid inside.bytes.now (Ok inside.journal.now) c.self.invariant)
