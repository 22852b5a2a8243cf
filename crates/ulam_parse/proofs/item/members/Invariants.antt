use Rattle.std.proofs.Common.{◌≡◌, ◌-◌, map}
use Rattle.ulam_tree.specs.RawViews.{shared_member}
use Rattle.ulam_parse.specs.Views.{from}
use Rattle.ulam_parse.specs.Reading.{with_front}
use Rattle.ulam_parse.specs.Files as spec
use Rattle.ulam_parse.proofs.item.members.Given as goal

abbrev pub invariant-turns : goal.invariant-turns
invariant-turns l =
    with_front (map shared_member l.initial.found.items) (spec.all_members (from l.tape l.at)) ≡ with_front (map shared_member l.found.items) (spec.members (l._turn-end - l._turn) (from l.tape l.next))
