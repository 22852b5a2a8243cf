use Rattle.std.proofs.Common.{◌∙◌, sym}
use Rattle.ulam_heirs.proofs.Firsts.{name_added}
use Rattle.ulam_heirs.proofs.line.add_name.Goals as goal

pub returns : goal.returns
returns c = name_added c.args.numbers.now c.args.name c.args.number c.insert.new.self.entries (sym c.contains_key.ensures ∙ c.if-contains_key.false) c.in_ok-insert.ensures.entries
