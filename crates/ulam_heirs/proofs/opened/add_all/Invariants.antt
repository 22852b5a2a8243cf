use Rattle.std.proofs.Common.{◌≡◌, drop}
use Rattle.ulam_heirs.specs.Opened.{with_members, LeadsTo}
use Rattle.ulam_heirs.specs.OpenedViews.{pointed_members, state_of}
use Rattle.ulam_heirs.proofs.opened.add_all.Given as goal

abbrev pub invariant-loop-member : goal.invariant-loop-member
invariant-loop-member l = record {
  table : with_members (state_of l.initial.opened).table (pointed_members l.members) ≡ with_members (state_of l.opened).table (pointed_members (drop l.member-index l.members));
  leads : LeadsTo (state_of l.initial.opened) (state_of l.opened);
}
