use Rattle.std.proofs.Common.{rules, tests}
use Rattle.std.proofs.lemmas.Result.{IfOk-at_ok}
use Rattle.std.proofs.lemmas.Iterator.{YieldsList-from_slice, YieldsList-from_map, items_from_collect}
use Rattle.feast_base.specs.Held.{stop_at}
use Rattle.feast_base.proofs.mem_sink.stops_at.Goals as goal

pub returns : goal.returns
returns c =
    IfOk-at_ok _ c.in_ok-collect.was (items_from_collect _ c.collect.ensures.ran (YieldsList-from_map _ stop_at (YieldsList-from_slice c.args.calls.now cc) c.map.ensures.closure (λ x r q k. search (rules, tests))))
