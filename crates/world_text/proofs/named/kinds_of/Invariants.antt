use Rattle.std.proofs.Common.{ℕ, ◌≡◌, ◌+◌, List, bytes_eq, drop}
use Rattle.std.specs.HashMap.{get_by}
use Rattle.world_text.specs.Named.{type_from}
use Rattle.world_text.proofs.named.kinds_of.Given as goal

abbrev pub invariant-loop-place : goal.invariant-loop-place
invariant-loop-place l = (name : List ℕ) → get_by (λ k. bytes_eq name k.now) l.kinds ≡ type_from (l.place + 1) (drop l.place l.names) name
