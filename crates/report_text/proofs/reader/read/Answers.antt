use Rattle.report_text.proofs.OnLines.{read_on_lines}
use Rattle.report_text.proofs.reader.read.Goals as goal

pub returns-clause-lines : goal.returns-clause-lines
returns-clause-lines c = read_on_lines c.args.map.now c.args.plan.now c.tiles.ensures.valid c.args.bytes.now c.read_lines.result (c.read_lines.ensures c.args.plan.now.lists c.in_ok-cursors.ensures.serve)
