use Rattle.std.proofs.Common.{refl}
use Rattle.std.proofs.lemmas.Bool.{le-leb}
use Rattle.ulam_types.proofs.rows.wide.Goals as goal

pub returns-then-n-le32 : goal.returns-then-n-le32
returns-then-n-le32 c = rw (le-leb c.args.m 32 c.if-m-le32.true, le-leb c.args.n 32 c.if-n-le32.true) refl
