-- The limits let the code of the source's elements through.
use Rattle.std.proofs.Common.{◌≡◌, ℕ, zero, suc, ◌∷◌, [], Some, refl, arith, codes}
use Rattle.std.specs.Prelude.{slice_get}
use Rattle.atom_layout.specs.Layouts.{bits_within, layout_of}
use Rattle.code_gen.specs.Compiling.{AreShort, HasShort}
use Rattle.code_gen.specs.Drafts.{keys, reach}
use Rattle.element_set.specs.Sets.{SetValue, element_names, program_of}
use Rattle.ulam_meaning.specs.Programs.{behave_of, field_at, function_at, number_of}
use Rattle.ulam_names.specs.Scopes.{built_in, of_window, of_random}
use Rattle.ulam_tree.specs.Locals.{all_locals}
use Rattle.ulam_tree.specs.Typed as t
use Rattle.ulam_tree.specs.Ways.{leads}
use Rattle.type_rules.specs.Bodies.{body}
use Rattle.type_rules.specs.Walk.{expr}
use Rattle.feast_run.proofs.GeneratedSource.Naming.{classes}
use Rattle.feast_run.proofs.GeneratedSource.Trees.{tree}
use Rattle.feast_run.proofs.GeneratedSource.Typing.{typed}

abbrev pub own_set : SetValue
own_set = record { classes = typed; layout = layout_of classes }

wander_short : HasShort (program_of own_set) 0
unfolding typed classes tree built_in of_window of_random leads all_locals body expr bits_within keys reach field_at function_at behave_of number_of
wander_short = record { few = omega arith; low = refl }

stone_short : HasShort (program_of own_set) 1
unfolding typed classes tree built_in of_window of_random leads all_locals body expr bits_within keys reach field_at function_at behave_of number_of
stone_short = record { few = omega arith; low = refl }

-- there are two classes
no_more : (c : ℕ) (e : t.Class) → slice_get typed (suc (suc c)) ≡ Some e → ⊥
unfolding typed classes tree built_in of_window of_random leads all_locals body expr
no_more c e at = cc

pub are_short : AreShort (program_of own_set)
are_short zero e at acts = wander_short
are_short (suc zero) e at acts = stone_short
are_short (suc (suc c)) e at acts = absurd (no_more c e at)

pub two_names_of : element_names own_set ≡ codes "Wander" ∷ codes "Stone" ∷ []
unfolding typed classes tree built_in of_window of_random leads all_locals body expr
two_names_of = refl
