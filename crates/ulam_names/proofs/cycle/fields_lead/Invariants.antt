use Rattle.std.proofs.Common.{◌≡◌, drop}
use Rattle.std.specs.List.{list_any}
use Rattle.ulam_names.specs.Rounds.{leads_by, field_parts}
use Rattle.ulam_names.proofs.cycle.fields_lead.Given as goal

abbrev pub invariant-loop-number : goal.invariant-loop-number
invariant-loop-number l = list_any (leads_by l.row l.goal) (field_parts l.fields) ≡ list_any (leads_by l.row l.goal) (field_parts (drop l.number l.fields))
