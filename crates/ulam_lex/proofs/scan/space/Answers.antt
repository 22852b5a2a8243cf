use Rattle.ulam_lex.proofs.Words.{space_start}
use Rattle.ulam_lex.proofs.scan.space.Goals as goal

pub returns : goal.returns
returns c = rw c.space_len.ensures (space_start c.args.bytes.now c.requires.some c.requires.class)
