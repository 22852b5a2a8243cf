use Rattle.std.proofs.Common.{take}
use Rattle.feast_base.proofs.Appending.{Appends-at_exit}
use Rattle.code_file.specs.Form.{element, elements}
use Rattle.code_file.proofs.Sets.{next_element, written_more}
use Rattle.code_file.proofs.writing.push_elements.Goals as goal

pub returns-in_err-push_element : goal.returns-in_err-push_element
returns-in_err-push_element c =
    Appends-at_exit _ c.args.out.now.items c.loop-k.out.items _ _ c.from_residual.result c.from_residual.ensures.1 (_, c.loop-k.invariant) c.in_err-push_element.ensures

pub loop-k-preserved : goal.loop-k-preserved
loop-k-preserved c =
    let ns = c.args.names.now in
    let cs = c.args.codes.now in
    let n = c.index-names-k.result in
    let d = c.index-codes-k.result in
    written_more c.args.out.now.items c.loop-k.out.items _ (elements (take c.loop-k.k ns) (take c.loop-k.k cs)) _ (element n d) c.loop-k.invariant c.in_ok-push_element.ensures
    (next_element ns cs c.loop-k.k n d c.requires c.loop-k-test.true c.index-names-k.is c.index-codes-k.is)
