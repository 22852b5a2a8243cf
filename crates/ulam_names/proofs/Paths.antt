-- The steps of a path, one after another.
use Rattle.std.proofs.Common.{◌≡◌, refl, List, [], ◌∷◌, ◌++◌, Err, Some, None}
use Rattle.std.proofs.lemmas.List.{append-nil}
use Rattle.ulam_tree.specs.Found.{with_front}
use Rattle.ulam_tree.specs.Raw as t
use Rattle.ulam_tree.specs.declared.resolved.Ty.{Ty}
use Rattle.ulam_tree.specs.declared.resolved.Step.{Step}
use Rattle.ulam_tree.proofs.Means.{front_on}
use Rattle.ulam_names.specs.Faults.{unknown_name}
use Rattle.ulam_names.specs.Scopes.{Head, next_name}
use Rattle.ulam_names.specs.Walk.{steps_after}

pub path_done : (front : List Step) → front ++ [] ≡ front
path_done front = append-nil front

-- a name that is not known
pub path_ends : (heads : List Head) (ty : Ty) (front : List Step) (w : t.Word) (ws : List t.Word) → next_name heads ty w.name ≡ None → with_front front (steps_after heads ty (w ∷ ws)) ≡ Err (unknown_name w.place)
path_ends heads ty front w ws h = rw h refl

-- one more step
pub path_on : (heads : List Head) (ty next : Ty) (front : List Step) (one : Step) (w : t.Word) (ws : List t.Word) → next_name heads ty w.name ≡ Some (one, next) →
    with_front front (steps_after heads ty (w ∷ ws)) ≡ with_front (front ++ (one ∷ [])) (steps_after heads next ws)
path_on heads ty next front one w ws h = rw h (front_on front one (steps_after heads next ws))
