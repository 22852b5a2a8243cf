use Rattle.std.proofs.Common.{◌≡◌, length, true, rules}
use Rattle.stack_code.specs.Valid.{first_fits, length_fits}
use Rattle.stack_code.proofs.Verdict.{begun}
use Rattle.stack_code.proofs.verifier.is_valid.Goals as goal

pub returns : goal.returns
returns c =
    let e : length_fits (length c.args.raw.now.instrs) ≡ true = search rules in
    let f : first_fits c.args.raw.now.functions ≡ true = search rules in
    begun c.args.raw.now c.in_ok-lists.lists.nodes c.in_ok-notes.notes.items c.pass_all.result e f c.in_ok-lists.ensures.empty (search rules) c.pass_all.ensures
