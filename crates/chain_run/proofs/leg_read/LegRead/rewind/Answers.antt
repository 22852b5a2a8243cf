use Rattle.std.proofs.Common.{All, ◌∙◌, ap, length, subst, sym, take}
use Rattle.std.proofs.lemmas.Result.{IfOk-weaker}
use Rattle.cell_grid.specs.Grid.{GridValue, IsLive}
use Rattle.cell_grid.specs.declared.record.Record.{Record}
use Rattle.report_text.specs.Report.{AreNamed}
use Rattle.world_runs.proofs.KnownAtoms.{replay_known}
use Rattle.chain_run.proofs.LegReads.{acted_on, leg_live, live_on}
use Rattle.chain_run.specs.Reader.{IsReadLeg, LegValue}
use Rattle.chain_run.proofs.leg_read.LegRead.rewind.Goals as goal

pub rewind-requires-clause-live : goal.rewind-requires-clause-live
rewind-requires-clause-live g c =
    let l = c.args.self.now in
    let same = ap (λ (v : LegValue). v.chain) c.self.view_is in
    let known = acted_on _ _ same _ _ c.act.ensures.between c.requires.between.0 _ c.requires.between.1 in
    let records = c.records.ensures ∙ ap (λ (v : LegValue). v.entries.records) c.self.view_is in
    subst (All (λ (r : Record). IsLive c.act.new.grid r.x r.y)) (sym records) (live_on l.chain.plane c.act.new.grid l.entries.records known.between.grid (leg_live l (subst IsReadLeg c.self.view_is c.self.invariant)))

pub returns-clause-named : goal.returns-clause-named
returns-clause-named g c =
    let after = g.B.Behave.after c.args.behave.now in
    let same = ap (λ (v : LegValue). v.chain) c.self.view_is in
    IfOk-weaker c.rewind.result _ _ (λ h is names k.
    let known = acted_on _ _ same _ _ c.act.ensures.between names _ k in
    subst (λ (x : GridValue). AreNamed names x.atoms) (sym is) (replay_known (length names) after c.act.new.grid (take c.args.count c.records.result.now) known.brings known.between.named)) c.rewind.ensures
