use Rattle.std.proofs.Common.{List, length, subst, sym, ℕ, ◌<◌, ◌^◌}
use Rattle.chain_text.specs.Values.{chain_value}
use Rattle.chain_run.proofs.Numbered.{fault_numbers}
use Rattle.report_text.specs.Cursors.{ReadsJournal}
use Rattle.chain_run.proofs.leg_read.LegRead.read.Goals as goal

pub fault_in_file-requires : goal.fault_in_file-requires
fault_in_file-requires c =
    let m = (chain_value c.args.leg.chain.now).plane in
    let lists = c.in_ok-plan.plan.lists in
    let bytes = c.as_bytes.result.now in
    let short = subst (λ (b : List ℕ). length b < 2 ^ 63) (sym c.as_bytes.ensures) c.in_ok-text.ensures.short in
    fault_numbers m lists bytes c.args.before c.in-Err.fault c.requires.low short (subst (ReadsJournal m lists bytes) c.in-Err.is c.read.ensures.journal)
