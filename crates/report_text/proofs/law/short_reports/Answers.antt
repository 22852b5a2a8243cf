use Rattle.report_text.proofs.ShortOne.{is_the_short_one}
use Rattle.report_text.proofs.ShortRead.{are_short_reports}
use Rattle.report_text.proofs.ShortWhole.{stands_for_whole}
use Rattle.report_text.proofs.law.short_reports.Goals as goal

pub returns-clause-whole : goal.returns-clause-whole
returns-clause-whole c = stands_for_whole c.args.names.now c.args.map.now c.args.plan.now c.requires.names c.requires.plan

pub returns-clause-short : goal.returns-clause-short
returns-clause-short c = is_the_short_one c.args.names.now c.args.map.now c.args.plan.now c.requires.names c.requires.plan

pub returns-clause-read : goal.returns-clause-read
returns-clause-read c = are_short_reports c.args.map.now c.args.plan.now c.requires.plan
