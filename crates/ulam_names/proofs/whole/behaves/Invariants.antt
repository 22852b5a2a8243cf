use Rattle.std.proofs.Common.{◌≡◌, map, drop}
use Rattle.std.specs.List.{list_any}
use Rattle.ulam_names.specs.Classes.{is_behave}
use Rattle.ulam_names.specs.Shown.{half_of}
use Rattle.ulam_names.proofs.whole.behaves.Given as goal

abbrev pub invariant-loop-member : goal.invariant-loop-member
invariant-loop-member l = list_any is_behave (map half_of l.class.members.items) ≡ list_any is_behave (map half_of (drop l.member-index l.class.members.items))
