use Rattle.std.proofs.Common.{arith, ap, ◌∙◌, drop}
use Rattle.std.specs.List.{prefix_len}
use Rattle.std.proofs.lemmas.List.{length-drop}
use Rattle.std.proofs.lemmas.List.Sums.{prefix_len-le-length}
use Rattle.ulam_lex.specs.Pieces.{is_in_line}
use Rattle.ulam_lex.proofs.Marks.{line_start}
use Rattle.ulam_lex.proofs.scan.line_comment.Goals as goal

pub overflow_add-result : goal.overflow_add-result
overflow_add-result c =
    let bytes = c.args.bytes.now in
    omega (arith, c.line_len.ensures, ap (prefix_len is_in_line) c.split_at.ensures.back, prefix_len-le-length is_in_line (drop 2 bytes), length-drop 2 bytes)

pub returns : goal.returns
returns c = rw (c.line_len.ensures ∙ ap (prefix_len is_in_line) c.split_at.ensures.back) (line_start c.args.bytes.now c.requires)
