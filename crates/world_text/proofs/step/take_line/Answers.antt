use Rattle.std.proofs.Common.{refl, sym, ◌∙◌}
use Rattle.world_text.specs.Reading.{line_step}
use Rattle.world_text.proofs.step.take_line.Goals as goal

pub returns-then-is_skipped : goal.returns-then-is_skipped
unfolding line_step
returns-then-is_skipped c = rw (sym c.is_skipped.ensures ∙ c.if-is_skipped.true) refl
