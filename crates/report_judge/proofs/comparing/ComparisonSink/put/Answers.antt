use Rattle.std.proofs.Common.{[], ◌∷◌, ◌++◌, ◌+◌, ◌<◌, arith, drop, get_or, length, sym, take, ◌∙◌}
use Rattle.report_judge.proofs.Differing.{all_put, next_same, one_split, some_put}
use Rattle.report_judge.proofs.comparing.ComparisonSink.put.Goals as goal

pub returns-then-len-bytes-clause-puts : goal.returns-then-len-bytes-clause-puts
returns-then-len-bytes-clause-puts c =
    let d = c.self.inside in
    let common = c.common_len-len in
    all_put d.bytes.now c.args.bytes.now d.same common.result d.faults d.other c.args.self.now (sym c.is_some.ensures ∙ c.if-is_some.false) c.self.view_is (next_same d.bytes.now c.args.bytes.now d.same common.result common.ensures.same) c.if-len-bytes.true

pub returns-clause-puts : goal.returns-clause-puts
returns-clause-puts c =
    let d = c.self.inside in
    let common = c.common_len-len in
    let bytes = c.args.bytes.now in
    let len = common.result in
    let within = common.ensures.within in
    let other = c.if-len-bytes.false in
    let less : len < length bytes = omega (arith, within, other) in
    let put = some_put d.bytes.now bytes d.same len d.faults d.other c.args.self.now (sym c.is_some.ensures ∙ c.if-is_some.false) c.self.view_is (next_same d.bytes.now bytes d.same len common.ensures.same) in
    (take len bytes ++ get_or bytes len 0 ∷ [], drop (len + 1) bytes, one_split bytes len less, put.0, put.1)
