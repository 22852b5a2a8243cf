use Rattle.std.proofs.Common.{◌≡◌, ◌-◌, map}
use Rattle.ulam_tree.specs.RawViews.{item_of}
use Rattle.ulam_parse.specs.Views.{from}
use Rattle.ulam_parse.specs.Reading.{with_front}
use Rattle.ulam_parse.specs.Files as spec
use Rattle.ulam_parse.proofs.item.items.Given as goal

abbrev pub invariant-turns : goal.invariant-turns
invariant-turns l =
    with_front (map item_of l.initial.found.items) (spec.whole_file (from l.tape l.at)) ≡ with_front (map item_of l.found.items) (spec.items (l._turn-end - l._turn) (from l.tape l.next))
