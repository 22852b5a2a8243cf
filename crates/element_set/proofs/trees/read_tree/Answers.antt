use Rattle.element_set.specs.declared.trees.Tree.{Tree}
use Rattle.element_set.specs.Faults.{lex_fault}
use Rattle.element_set.specs.Stages as stage
use Rattle.element_set.specs.Told.{tree_value}
use Rattle.element_set.proofs.Telling.{tells_exit, tells_then, lex_told}
use Rattle.element_set.proofs.trees.read_tree.Goals as goal

pub returns-in_err-tokens : goal.returns-in_err-tokens
returns-in_err-tokens c =
    let file = c.args.file in
    let bytes = c.args.bytes.now in
    let fault = c.in_err-tokens.field-0.0 in
    tells_exit tree_value (stage.tree_of file bytes) (lex_fault fault) c.from_residual.result c.from_residual.ensures.1 (lex_told Tree tree_value file bytes (stage.parse_stage bytes) fault c.in_err-tokens.ensures.fault)

pub returns : goal.returns
returns c =
    let bytes = c.args.bytes.now in
    tells_then tree_value (stage.lex_stage c.args.file bytes) (stage.parse_stage bytes) c.in_ok-tokens.tokens.items c.parse_tokens.result c.in_ok-tokens.ensures.tokens c.parse_tokens.ensures
