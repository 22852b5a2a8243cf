use Rattle.code_gen.proofs.ElementMeans.{element_means}
use Rattle.code_gen.proofs.law.same_meaning.Goals as goal

pub returns : goal.returns
returns c = λ g k e. element_means g k e.class e.stands e.acts
