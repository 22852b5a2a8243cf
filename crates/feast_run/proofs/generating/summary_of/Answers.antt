use Rattle.std.proofs.Common.{ℕ, Vec}
use Rattle.std.specs.Global.{Global}
use Rattle.feast_run.proofs.Generated.{is_generated_run, known, order_drawn, shown, summary_is}
use Rattle.feast_run.specs.Values.{elements_value}
use Rattle.world_text.specs.Values.{world_value}
use Rattle.feast_run.proofs.generating.summary_of.Goals as goal

pub outcome-requires-clause-order : goal.outcome-requires-clause-order
outcome-requires-clause-order c = order_drawn c.args.number (world_value c.in_ok-world.world) c.in_ok-world.ensures.value

pub returns-clause-run : goal.returns-clause-run
returns-clause-run c = known c.summary.result (is_generated_run c.args.number (world_value c.in_ok-world.world) (elements_value c.args.elements.now) c.in_ok-outcome.outcome c.in_ok-world.ensures.value c.in_ok-outcome.ensures)

pub returns-clause-text : goal.returns-clause-text
returns-clause-text c =
    shown c.summary.result (λ (v : Vec ℕ Global). v.items) _ _ (summary_is c.args.number (world_value c.in_ok-world.world) (elements_value c.args.elements.now) c.in_ok-outcome.outcome c.in_ok-world.ensures.value c.in_ok-outcome.ensures) c.summary.ensures
