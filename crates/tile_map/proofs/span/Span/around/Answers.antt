use Rattle.tile_map.proofs.span.Span.around.Goals as goal

pub returns-clause-first : goal.returns-clause-first
returns-clause-first c = c.saturating_sub-first.ensures
