use Rattle.std.proofs.Common.{◌≡◌, ◌++◌, map, drop}
use Rattle.ulam_names.specs.Classes as walk
use Rattle.ulam_names.specs.Shown.{head_of, param_of, entries_of}
use Rattle.ulam_names.proofs.whole.param_entries.Given as goal

abbrev pub invariant-loop-param : goal.invariant-loop-param
invariant-loop-param l = record {
  entries : walk.param_entries (map head_of l.heads) 0 (map param_of l.params) ≡ entries_of l.entries.items ++ walk.param_entries (map head_of l.heads) l.slot (map param_of (drop l.param-index l.params));
  slot : l.slot ≡ l.param-index;
}
