use Rattle.std.proofs.Common.{◌≡◌, drop}
use Rattle.std.specs.List.{list_any}
use Rattle.ulam_names.specs.Rounds.{open_by, field_parts}
use Rattle.ulam_names.proofs.ways.fields_open.Given as goal

abbrev pub invariant-loop-number : goal.invariant-loop-number
invariant-loop-number l = list_any (open_by l.row) (field_parts l.fields) ≡ list_any (open_by l.row) (field_parts (drop l.number l.fields))
