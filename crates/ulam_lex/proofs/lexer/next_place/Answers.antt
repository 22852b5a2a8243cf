use Rattle.std.proofs.Common.{rules}
use Rattle.ulam_lex.proofs.lexer.next_place.Goals as goal

pub returns-then-byte-eq10 : goal.returns-then-byte-eq10
returns-then-byte-eq10 c = search rules
