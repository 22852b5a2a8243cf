use Rattle.std.proofs.Common.{rules}
use Rattle.ulam_lex.proofs.lexer.add.Goals as goal

pub returns-in-Ok : goal.returns-in-Ok
returns-in-Ok c = search rules
