use Rattle.std.proofs.Common.{◌≡◌, ◌<◌, ℕ, [], length, get_or}
use Rattle.event_journal.specs.Keys.{IsKey, lists_behind}
use Rattle.event_journal.proofs.merge.tournament.Given as goal

abbrev pub invariant-loop-k : goal.invariant-loop-k
invariant-loop-k l = record {
  count : length l.keys.items ≡ l.k;
  each : (j : ℕ) → j < l.k → IsKey j (get_or (lists_behind l.lefts) j []) (get_or l.keys.items j 0);
}
