use Rattle.text_lines.proofs.Cuts.{fields_ended, fields_whole}
use Rattle.text_lines.proofs.cut.first_field.Goals as goal

pub returns-in-Some-clause-fields : goal.returns-in-Some-clause-fields
returns-in-Some-clause-fields c = fields_ended c.in-Some.first.now c.in-Some.rest.now c.args.text.now c.in-Some.ensures.0 c.in-Some.ensures.1

pub returns-in-None-clause-fields : goal.returns-in-None-clause-fields
returns-in-None-clause-fields c = fields_whole c.args.text.now c.in-None.ensures
