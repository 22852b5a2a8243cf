use Rattle.std.proofs.Common.{drop, map}
use Rattle.text_lines.specs.Lines.{text_of}
use Rattle.report_text.specs.Report.{atom_fields, shown_from}
use Rattle.report_text.proofs.Putting.{IsUnderway}
use Rattle.report_text.proofs.streamed.put_atoms.Given as goal

abbrev pub invariant-loop-place : goal.invariant-loop-place
invariant-loop-place g l =
    IsUnderway (g.K.Sink.state l.fn.sink) (g.K.Sink.state l.sink) l.fn.page l.page
    (text_of (map (atom_fields l.names) (shown_from l.width l.place (drop l.place l.atoms))))
    (text_of (map (atom_fields l.names) (shown_from l.width 0 l.atoms)))
