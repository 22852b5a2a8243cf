use Rattle.std.proofs.Common.{All, ◌∙◌, ap, subst, sym}
use Rattle.cell_grid.specs.Grid.{IsLive}
use Rattle.cell_grid.specs.declared.record.Record.{Record}
use Rattle.chain_run.proofs.Left.{replay_between}
use Rattle.chain_run.proofs.LegReads.{acted_on, leg_live, live_on}
use Rattle.chain_run.specs.Reader.{IsReadLeg, LegValue}
use Rattle.chain_run.proofs.leg_read.LegRead.replay.Goals as goal

pub replay-requires : goal.replay-requires
replay-requires g c =
    let l = c.args.self.now in
    let same = ap (λ (v : LegValue). v.chain) c.self.view_is in
    let known = acted_on _ _ same _ _ c.act.ensures.between c.requires.between.0 _ c.requires.between.1 in
    let records = c.records.ensures ∙ ap (λ (v : LegValue). v.entries.records) c.self.view_is in
    subst (All (λ (r : Record). IsLive c.act.new.grid r.x r.y)) (sym records) (live_on l.chain.plane c.act.new.grid l.entries.records known.between.grid (leg_live l (subst IsReadLeg c.self.view_is c.self.invariant)))

pub returns-clause-between : goal.returns-clause-between
returns-clause-between g c = λ names k.
    let l = c.args.self.now in
    let after = g.B.Behave.after c.args.behave.now in
    let same = ap (λ (v : LegValue). v.chain) c.self.view_is in
    let known = acted_on _ _ same _ _ c.act.ensures.between names _ k in
    replay_between names l.chain after c.act.new.grid c.replay.new.self c.records.result.now known.brings known.between c.replay.ensures.grid
