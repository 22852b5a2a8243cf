use Rattle.std.proofs.Common.{◌-◌, length}
use Rattle.ulam_lex.specs.Steps.{IsRead}
use Rattle.ulam_lex.proofs.lexer.read.Given as goal

abbrev pub invariant-loop-at : goal.invariant-loop-at
invariant-loop-at l = IsRead l.fn.file l.bytes l.at l.tokens.items l.place

abbrev pub decreases-loop-at : goal.decreases-loop-at
decreases-loop-at l = length l.bytes - l.at
