use Rattle.pack_laws.proofs.Accepted.{again, codes, names, only, right, same, sayable}
use Rattle.pack_laws.proofs.law.packed_laws.Goals as goal

pub returns : goal.returns
returns c = record { sayable = sayable; right = right; names = names; codes = codes; again = again; only = only; same = same }
