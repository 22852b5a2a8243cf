use Rattle.std.proofs.Common.{◌≡◌, ℕ, zero, suc, List, [], ◌∷◌, ◌++◌, Option, Some, None, ap, sym, ◌∙◌}
use Rattle.std.specs.Prelude.{slice_get}
use Rattle.ulam_heirs.specs.declared.fault.HeirsFault.{HeirsFault}
use Rattle.ulam_heirs.proofs.walk.start.Goals as goal

-- nothing is found of one class more
none_found : (xs : List (Option (Option HeirsFault))) (k : ℕ) (fault : Option HeirsFault) → ((j : ℕ) (other : Option HeirsFault) → slice_get xs j ≡ Some (Some other) → ⊥) → slice_get (xs ++ None ∷ []) k ≡ Some (Some fault) → ⊥
none_found [] zero fault none e = absurd cc
none_found [] (suc zero) fault none e = absurd cc
none_found [] (suc (suc k)) fault none e = absurd cc
none_found (x ∷ xs) zero fault none e = none 0 fault e
none_found (x ∷ xs) (suc k) fault none e = none_found xs k fault (λ j. none (suc j)) e

pub loop-heir-preserved : goal.loop-heir-preserved
loop-heir-preserved c = λ k fault e. none_found c.loop-heir.found.items k fault c.loop-heir.invariant (ap (λ (xs : List (Option (Option HeirsFault))). slice_get xs k) (sym c.in_ok-push.ensures.items) ∙ e)
