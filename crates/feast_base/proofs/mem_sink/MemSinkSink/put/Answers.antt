use Rattle.std.proofs.Common.{rules, sym, take, drop}
use Rattle.std.proofs.lemmas.List.{take-append-drop}
use Rattle.feast_base.proofs.mem_sink.MemSinkSink.put.Goals as goal

pub returns-in-Some-clause-puts : goal.returns-in-Some-clause-puts
returns-in-Some-clause-puts c =
    let n = c.min.result in
    (take n c.args.bytes.now, drop n c.args.bytes.now, sym (take-append-drop n c.args.bytes.now), search rules, search rules)
