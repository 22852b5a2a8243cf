-- What a set keeps beside its classes and their layout.
use Rattle.std.specs.Prelude.{ℕ, ◌≡◌, ◌≤◌, List, length, map}
use Rattle.ulam_tree.specs.Typed as t
use Rattle.ulam_tree.specs.TypedViews.{typed_class, typed_program}
use Rattle.ulam_tree.specs.declared.typed.Class.{Class}
use Rattle.ulam_tree.specs.declared.typed.Typed.{Typed}
use Rattle.ulam_names.specs.declared.limits.TheConstants.{MOST_CLASSES}
use Rattle.element_set.specs.Names.{names_in, counts, AreSlim}
use Rattle.element_set.specs.Value.{SetValue, program_of}
use Rattle.code_gen.specs.Compiling.{IsCompilable, AreShort}

abbrev pub set_view : Typed → List (List ℕ) → SetValue
set_view typed layout = record { classes = typed_program typed; layout = layout }

abbrev pub set_of_lists : List Class → List (List ℕ) → SetValue
set_of_lists classes layout = record { classes = map typed_class classes; layout = layout }

-- a layout has a number of bits for each data member of each class, and no class has too many data members
pub record Fits (cs : List t.Class) (ls : List (List ℕ)) : Type 0 where
  pub rows : map length ls ≡ counts cs
  pub slim : AreSlim cs

-- a set keeps the names of its elements twice, as a list and by number, and its layout fits
pub record IsKept (s : SetValue) (names numbers : List (List ℕ)) : Type 0 where
  pub names_is : names ≡ names_in s.classes
  pub numbers_is : numbers ≡ names_in s.classes
  pub few : length s.classes ≤ MOST_CLASSES
  pub fits : Fits s.classes s.layout

-- a set's program is what the compiler needs, and the limits let the code of each element through
pub record IsCompiled (s : SetValue) : Type 0 where
  pub compilable : IsCompilable (program_of s)
  pub short : AreShort (program_of s)
