use Rattle.code_gen.proofs.Lows.{depth_gives, gives_depth}
use Rattle.code_gen.proofs.law.depths.Goals as goal

pub returns : goal.returns
returns c = record {
  count = λ n q ks f d h. (depth_gives n q ks d f h).0;
  low = λ n q ks f d h. (depth_gives n q ks d f h).1;
  shallow = gives_depth;
}
