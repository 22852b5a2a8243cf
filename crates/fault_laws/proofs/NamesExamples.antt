-- Each example has its fault first.
use Rattle.std.proofs.Common.{refl}
use Rattle.ulam_tree.specs.Ways.{leads}
use Rattle.ulam_names.specs.Scopes.{built_in, of_window, of_random}
use Rattle.fault_laws.specs.NamesExamples.{EachIsFound}

pub each_is_found : EachIsFound
unfolding built_in of_window of_random leads
each_is_found = record { doubled = refl; unknown = refl; cyclic = refl; behave = refl; constant = refl; many = refl; width = refl }
