use Rattle.std.proofs.Common.{sym, subst}
use Rattle.event_journal.specs.Logs.{IsLog, log_of}
use Rattle.tile_core.proofs.Played.{is_log}
use Rattle.tile_core.proofs.tile.Tile.into_log.Goals as goal

pub new-requires : goal.new-requires
new-requires g c =
    let t = c.args.self.core in
    let q = c.requires in
    subst (λ x. IsLog (log_of x.core.number x.core.records x.core.abandoned)) (sym c.self.view_is) (is_log t.cache.map q.0 q.2.0 q.2.1 t q.1 q.2.2)
