-- What the names of the source mean, and where data members lie.
use Rattle.std.proofs.Common.{◌≡◌, true, List, None, refl, subst}
use Rattle.std.specs.Prelude.{is_ok}
use Rattle.atom_layout.specs.Layouts.{bits_within, first_wide}
use Rattle.ulam_tree.proofs.Means.{Means}
use Rattle.ulam_names.proofs.ClassMeans.{program_means}
use Rattle.ulam_names.specs.ClassRelation.{IsResolved}
use Rattle.ulam_names.specs.Classes.{program}
use Rattle.ulam_names.specs.Scopes.{built_in, of_window, of_random}
use Rattle.ulam_tree.specs.Resolved as r
use Rattle.ulam_tree.specs.Ways.{leads}
use Rattle.feast_run.proofs.GeneratedSource.Found.{found, is_found}
use Rattle.feast_run.proofs.GeneratedSource.Trees.{tree}

unfoldable pub classes : List r.Class
classes = found (program tree)

names_found : is_ok (program tree) ≡ true
unfolding tree built_in of_window of_random leads
names_found = refl

pub are_classes : IsResolved tree classes
unfolding classes
are_classes = subst (Means (IsResolved tree)) (is_found (program tree) names_found) (program_means tree)

pub not_wide : first_wide classes ≡ None
unfolding classes tree built_in of_window of_random leads bits_within
not_wide = refl
