use Rattle.std.proofs.Common.{◌+◌}
use Rattle.ulam_lex.specs.declared.lexer.TheConstants.{MOST_TOKENS}
use Rattle.ulam_lex.proofs.Spans.{ordered}
use Rattle.ulam_lex.proofs.OneReading.{only_tokens, only_fault}
use Rattle.ulam_lex.proofs.lexer.lex.Goals as goal

pub returns-clause-only_tokens : goal.returns-clause-only_tokens
returns-clause-only_tokens c = only_tokens (λ v. v.items) c.args.file c.args.bytes.now c.read.result c.read.ensures.tokens c.read.ensures.fault

pub returns-clause-only_fault : goal.returns-clause-only_fault
returns-clause-only_fault c = only_fault (λ v. v.items) c.args.file c.args.bytes.now c.read.result c.read.ensures.tokens c.read.ensures.fault

pub returns-clause-order : goal.returns-clause-order
returns-clause-order c = ordered (λ v. v.items) c.args.file c.args.bytes.now (MOST_TOKENS + 1) c.read.result c.read.ensures.tokens
