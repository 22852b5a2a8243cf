use Rattle.std.proofs.Common.{◌≡◌, drop}
use Rattle.std.specs.List.{list_any}
use Rattle.ulam_names.specs.Scopes.{is_named}
use Rattle.ulam_names.specs.Shown.{entries_of}
use Rattle.ulam_names.proofs.parts.has.Given as goal

abbrev pub invariant-loop-entry : goal.invariant-loop-entry
invariant-loop-entry l = list_any (is_named l.name) (entries_of l.entries) ≡ list_any (is_named l.name) (entries_of (drop l.entry-index l.entries))
