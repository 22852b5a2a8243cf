use Rattle.std.proofs.Common.{◌≡◌, ◌++◌, drop, map, decimal}
use Rattle.text_lines.specs.Values.{field_text}
use Rattle.world_text.specs.Line.{order}
use Rattle.world_text.specs.Printed.{line_fields}
use Rattle.world_text.proofs.printed.order_fields.Given as goal

abbrev pub invariant-loop-tile : goal.invariant-loop-tile
invariant-loop-tile l = map field_text l.fields.items ++ map decimal (drop l.tile-index l.turns) ≡ line_fields (order l.turns)
