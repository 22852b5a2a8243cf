use Rattle.ulam_parse.specs.Marks.{tok_at}
use Rattle.ulam_parse.proofs.Laws.{parts}
use Rattle.ulam_parse.proofs.judge.front.Goals as goal

pub returns-clause-split : goal.returns-clause-split
returns-clause-split c = parts (tok_at c.args.tape.now.bytes.now) c.args.len c.args.tape.now.marks.now
