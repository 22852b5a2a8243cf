use Rattle.std.proofs.Common.{sym, ◌∙◌}
use Rattle.draw_stream.proofs.Powers.{rest_by_mask}
use Rattle.draw_stream.proofs.remainders.remainder.Goals as goal

pub returns-then-is_power_of_two : goal.returns-then-is_power_of_two
returns-then-is_power_of_two c = rest_by_mask c.args.word c.args.modulus (sym c.is_power_of_two.ensures ∙ c.if-is_power_of_two.true)
