use Rattle.cases_order.proofs.running.run.Goals as goal

pub run_shared-requires-after_bounds : goal.run_shared-requires-after_bounds
run_shared-requires-after_bounds g c = λ lives bounds. c.in_ok-fresh.ensures

pub settle-requires-clause-made : goal.settle-requires-clause-made
settle-requires-clause-made g c = (c.in_ok-played.ensures c.in_ok-fresh.ensures.0 c.in_ok-fresh.ensures.1).made

pub settle-requires-clause-words : goal.settle-requires-clause-words
settle-requires-clause-words g c = (c.in_ok-played.ensures c.in_ok-fresh.ensures.0 c.in_ok-fresh.ensures.1).words

pub settle-requires-clause-over : goal.settle-requires-clause-over
settle-requires-clause-over g c = (c.in_ok-fresh.ensures.0, (c.in_ok-played.ensures c.in_ok-fresh.ensures.0 c.in_ok-fresh.ensures.1).over)
