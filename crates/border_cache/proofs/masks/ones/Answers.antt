use Rattle.std.proofs.Common.{ap, ◌-◌}
use Rattle.std.proofs.lemmas.Nat.{one_shl}
use Rattle.border_cache.proofs.masks.ones.Goals as goal

pub returns : goal.returns
returns c = ap (λ n. n - 1) (one_shl c.args.count 64 c.requires)
