use Rattle.std.proofs.Common.{◌≡◌, ◌-◌, map}
use Rattle.ulam_tree.specs.RawViews.{param_of}
use Rattle.ulam_parse.specs.Views.{from}
use Rattle.ulam_parse.specs.Reading.{with_front}
use Rattle.ulam_parse.specs.Files as spec
use Rattle.ulam_parse.proofs.member.more_params.Given as goal

abbrev pub invariant-turns : goal.invariant-turns
invariant-turns l =
    with_front (map param_of l.initial.found.items) (spec.later_params (from l.tape l.at)) ≡ with_front (map param_of l.found.items) (spec.more_params (l._turn-end - l._turn) (from l.tape l.next))
