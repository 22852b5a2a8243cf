use Rattle.std.proofs.Common.{◌-◌, ◌∙◌, [], arith}
use Rattle.std.proofs.lemmas.List.{get_or_read}
use Rattle.report_text.proofs.shown.name_of.Goals as goal

pub returns : goal.returns
returns c =
    c.bytes.ensures ∙ get_or_read c.args.names.now (c.args.kind - 1) c.index-names-kind.result (omega (arith, c.requires.0, c.requires.1)) c.index-names-kind.is []
