-- The types of the source.
use Rattle.std.proofs.Common.{◌≡◌, true, List, refl, subst}
use Rattle.std.specs.Prelude.{is_ok}
use Rattle.ulam_names.specs.Scopes.{built_in, of_window, of_random}
use Rattle.ulam_tree.specs.Locals.{all_locals}
use Rattle.ulam_tree.specs.Typed as t
use Rattle.ulam_tree.specs.Ways.{leads}
use Rattle.ulam_types.proofs.Classes.{program_means}
use Rattle.ulam_tree.proofs.Means.{Means}
use Rattle.type_rules.specs.Bodies.{body}
use Rattle.type_rules.specs.ProgramTyping.{IsTypedProgram}
use Rattle.type_rules.specs.Programs.{program}
use Rattle.type_rules.specs.Walk.{expr}
use Rattle.feast_run.proofs.GeneratedSource.Found.{found, is_found}
use Rattle.feast_run.proofs.GeneratedSource.Naming.{classes}
use Rattle.feast_run.proofs.GeneratedSource.Trees.{tree}

unfoldable pub typed : List t.Class
typed = found (program classes)

types_found : is_ok (program classes) ≡ true
unfolding classes tree built_in of_window of_random leads all_locals body expr
types_found = refl

pub are_typed : IsTypedProgram classes typed
unfolding typed
are_typed = subst (Means (IsTypedProgram classes)) (is_found (program classes) types_found) (program_means classes)
