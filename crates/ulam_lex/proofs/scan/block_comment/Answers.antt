use Rattle.std.proofs.Common.{drop}
use Rattle.ulam_lex.proofs.Marks.{not_held, block_at}
use Rattle.ulam_lex.proofs.scan.block_comment.Goals as goal

pub returns-in-Some : goal.returns-in-Some
returns-in-Some c =
    let bytes = c.args.bytes.now in
    let found = rw c.split_at.ensures.back at c.in-Some.ensures in
    block_at bytes c.in-Some.length c.requires found.within found.found.0 found.found.1 found.first

pub returns-in-None : goal.returns-in-None
returns-in-None c =
    let bytes = c.args.bytes.now in
    let found = rw c.split_at.ensures.back at c.in-None.ensures in
    (drop 2 bytes, c.requires, not_held (drop 2 bytes) found.none)
