use Rattle.std.proofs.Common.{◌≡◌, drop}
use Rattle.ulam_tree.specs.Completes.{all_complete}
use Rattle.ulam_tree.specs.ResolvedViews.{resolved_body}
use Rattle.ulam_types.proofs.ends.+completes.Given as goal

abbrev pub invariant-all_complete-loop-one : goal.invariant-all_complete-loop-one
invariant-all_complete-loop-one l = all_complete (resolved_body (drop l.one-index l.raw)) ≡ all_complete (resolved_body l.raw)
