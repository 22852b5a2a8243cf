use Rattle.std.proofs.Common.{◌≡◌, ap, subst}
use Rattle.std.proofs.lemmas.Result.{IfOk-weaker}
use Rattle.chain_run.proofs.LegReads.{acted_on}
use Rattle.chain_run.specs.Chains.{making}
use Rattle.chain_run.specs.Reader.{LegValue}
use Rattle.chain_run.proofs.leg_read.LegRead.judge.Goals as goal

pub judge_from-requires : goal.judge_from-requires
judge_from-requires g c =
    let same = ap (λ (v : LegValue). v.chain) c.self.view_is in
    record { between = acted_on _ _ same _ _ c.act.ensures.between _ _ c.requires.between }

pub returns-clause-judged : goal.returns-clause-judged
returns-clause-judged g c =
    let after = g.B.Behave.after c.args.behave.now in
    let begins = subst (λ (v : LegValue). c.act.new.grid ≡ (making v.chain after).acts v.number c.args.grid) c.self.view_is c.act.ensures.grid in
    IfOk-weaker c.judge_from.result _ _ (λ s is. is c.args.grid begins) c.judge_from.ensures.judged
