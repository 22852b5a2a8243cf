use Rattle.std.proofs.Common.{rules}
use Rattle.ulam_parse.specs.Files.{const_in}
use Rattle.ulam_parse.proofs.member.const_in.Goals as goal

pub returns : goal.returns
unfolding const_in
returns c = search rules
