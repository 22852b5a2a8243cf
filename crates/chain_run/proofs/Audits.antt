-- Yes is said of the report of legs, and of no other bytes.
use Rattle.std.proofs.Common.{ℕ, List}
use Rattle.window_sites.specs.Window.{WindowValue}
use Rattle.chain_text.specs.Chain.{ChainValue}
use Rattle.chain_text.specs.Legs.{leg_plan}
use Rattle.report_text.proofs.ShortOne.{is_the_short_one}
use Rattle.chain_run.proofs.ReadAgain.{yes_of}
use Rattle.chain_run.proofs.Wholes.{leg_drawable}
use Rattle.chain_run.proofs.Yes.{found_if_yes}
use Rattle.chain_run.specs.Audits.{IsAuditable, IsReportIfYes, IsYesIfReport}

pub report_if_yes : (names : List (List ℕ)) (c : ChainValue) (meaning : WindowValue → ℕ → WindowValue) → IsAuditable names c meaning → IsReportIfYes names c meaning
report_if_yes names c meaning can = found_if_yes names c meaning can (λ k. is_the_short_one names c.plane (leg_plan c k) can.formed (leg_drawable names c k can.chain))

pub yes_if_report : (names : List (List ℕ)) (c : ChainValue) (meaning : WindowValue → ℕ → WindowValue) → IsAuditable names c meaning → IsYesIfReport names c meaning
yes_if_report names c meaning can = yes_of names c meaning can
