use Rattle.std.proofs.Common.{refl, ◌∙◌}
use Rattle.std.proofs.lemmas.List.{get_or-replicate}
use Rattle.cases_grid.proofs.windows.without_site_1.Goals as goal

pub new-requires : goal.new-requires
new-requires c = record { atoms = refl; live = refl; hidden = λ n lt dead. get_or-replicate 41 n _ _ lt ∙ c.new-empty.ensures; centre = refl }
