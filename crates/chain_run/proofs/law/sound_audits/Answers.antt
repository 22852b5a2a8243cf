use Rattle.chain_run.proofs.Audits.{report_if_yes, yes_if_report}
use Rattle.chain_run.proofs.law.sound_audits.Goals as goal

pub returns : goal.returns
returns c = record { report = report_if_yes; yes = yes_if_report }
