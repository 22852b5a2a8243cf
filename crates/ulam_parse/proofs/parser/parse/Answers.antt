use Rattle.ulam_tree.specs.RawViews.{file_of}
use Rattle.ulam_parse.specs.Tokens.{toks}
use Rattle.ulam_parse.proofs.Verdicts.{only_tree, only_fault}
use Rattle.ulam_parse.proofs.parser.parse.Goals as goal

pub returns-clause-only_tree : goal.returns-clause-only_tree
returns-clause-only_tree c = only_tree (λ f. file_of f) (toks c.args.bytes.now c.args.tokens.now) c.read.result c.read.ensures.tree c.read.ensures.fault

pub returns-clause-only_fault : goal.returns-clause-only_fault
returns-clause-only_fault c = only_fault (λ f. file_of f) (toks c.args.bytes.now c.args.tokens.now) c.read.result c.read.ensures.tree c.read.ensures.fault
