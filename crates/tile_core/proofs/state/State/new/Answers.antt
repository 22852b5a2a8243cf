use Rattle.std.proofs.Common.{refl, false}
use Rattle.tile_core.specs.Kept.{value_of}
use Rattle.tile_core.proofs.Advance.{fresh_tile}
use Rattle.tile_core.proofs.state.State.new.Goals as goal

pub returns-clause-fresh : goal.returns-clause-fresh
returns-clause-fresh c =
    fresh_tile c.args.map.now c.laws.ensures.plane c.args.start.now c.args.attempts
    (value_of (record { number = c.args.tile; cache = c.in_ok-cache.cache; attempts = c.args.attempts; taken = 0; stamp = 0; x = c.site_of-x.result.0; y = c.site_of-x.result.1; seed = 0; needs = c.needs-needs.result; next = 0; count = 0; event_stamp = 0; idle = false; window = c.empty.result; records = c.in_ok-records.records; abandoned = c.in_ok-abandoned.abandoned; phase = c.over-phase.result }))
    c.requires.attempts c.in_ok-cache.ensures refl refl refl c.in_ok-records.ensures.items c.in_ok-abandoned.ensures.items c.needs-needs.ensures c.over-phase.ensures.phase
