use Rattle.std.proofs.Common.{◌≡◌, ◌-◌, map}
use Rattle.ulam_tree.specs.RawViews.{word_of}
use Rattle.ulam_parse.specs.Views.{from}
use Rattle.ulam_parse.specs.Reading as spec
use Rattle.ulam_parse.proofs.types.words_after.Given as goal

abbrev pub invariant-turns : goal.invariant-turns
invariant-turns l = spec.with_front (map word_of l.initial.words.items) (spec.words_after (from l.tape l.at)) ≡ spec.with_front (map word_of l.words.items) (spec.names_after_dots (l._turn-end - l._turn) (from l.tape l.next))
