use Rattle.std.proofs.Common.{rules}
use Rattle.tile_threads.proofs.worker.is_drawing.Goals as goal

pub returns-in-Draw : goal.returns-in-Draw
returns-in-Draw g c = search rules
