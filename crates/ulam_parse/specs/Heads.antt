-- The head of a `for` as a plain one.
use Rattle.std.specs.Prelude.{option_map}
use Rattle.ulam_tree.specs.RawViews.{expr_of, part_alone}
use Rattle.ulam_parse.specs.Statements.{ForHead}
use Rattle.ulam_parse.specs.declared.for_parts.ForParts.{ForParts}

abbrev pub head_of : ForParts → ForHead
head_of h = record { first = part_alone h.first; cond = option_map expr_of h.cond; step = part_alone h.step }
