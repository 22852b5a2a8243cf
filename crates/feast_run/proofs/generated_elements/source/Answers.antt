use Rattle.std.proofs.Common.{◌≡◌, ℕ, List, IfOk, codes, subst}
use Rattle.feast_base.specs.Outside.{File}
use Rattle.feast_run.specs.GeneratedElements.{source_text}
use Rattle.feast_run.proofs.generated_elements.source.Goals as goal

pub returns : goal.returns
unfolding source_text
returns c = subst (λ (l : List ℕ). IfOk c.new.result (λ (s : File). s ≡ (codes "generated", l))) c.in_ok-bytes.ensures.items c.new.ensures
