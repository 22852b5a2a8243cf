use Rattle.std.proofs.Common.{[], ◌∷◌, Err, ap, ◌∙◌}
use Rattle.feast_base.specs.Outside.{File}
use Rattle.feast_run.proofs.GeneratedSource.Accepted.{is_set, not_refused, short}
use Rattle.feast_run.proofs.generated_elements.elements.Goals as goal

pub build-requires-clause-short : goal.build-requires-clause-short
build-requires-clause-short c = short (c.in_ok-source.field-0 ∷ []) (ap (λ (f : File). f ∷ []) c.in_ok-source.ensures)

pub returns-in-Ok : goal.returns-in-Ok
returns-in-Ok c = is_set (c.in_ok-source.field-0 ∷ []) c.build.result c.in-Ok.set (ap (λ (f : File). f ∷ []) c.in_ok-source.ensures) c.build.ensures c.in-Ok.is

pub unreachable-requires : goal.unreachable-requires
unreachable-requires c = not_refused (c.in_ok-source.field-0 ∷ []) c.build.result c.in-Err-Refused.field-0-0 (ap (λ (f : File). f ∷ []) c.in_ok-source.ensures) c.build.ensures (c.in-Err-Refused.is ∙ ap Err c.in-Err-Refused.field-0-is)
