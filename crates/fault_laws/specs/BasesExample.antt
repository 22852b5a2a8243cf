-- Classes for each fault of bases.
use Rattle.std.specs.Prelude.{ℕ, Bool, ◌≡◌, List, [], ◌∷◌, Option, Some, None, true, false, codes}
use Rattle.feast_base.specs.declared.place.Place.{Place}
use Rattle.ulam_tree.specs.Raw.{Word, TypeRef, no_more, Member, function}
use Rattle.ulam_heirs.specs.declared.fault.HeirsFault.TheVariants as f
use Rattle.ulam_heirs.specs.Lines.{Heir}
use Rattle.ulam_heirs.specs.Faults.{first_fault}

-- a place in the one line of a file
abbrev pub at : (column : ℕ) → Place
at column = record { file = 0; line = 1; column = column }

abbrev pub word : (name : List ℕ) (column : ℕ) → Word
word name column = record { name = name; place = at column }

-- a function `f` without parameters, whose type stands at a column
abbrev pub function_f : List ℕ → ℕ → ℕ → Member
function_f result column name = function (record { word = word result column; width = None }) (word (codes "f") name) [] no_more

-- element A : B { }
abbrev pub without_base : List Heir
without_base =
    record {
      class = record { quark = false; word = word (codes "A") 9; members = [] };
      base = Some (word (codes "B") 13);
      virtuals = [];
    }
    ∷ []

-- quark A : A { }
abbrev pub of_itself : List Heir
of_itself =
    record {
      class = record { quark = true; word = word (codes "A") 7; members = [] };
      base = Some (word (codes "A") 11);
      virtuals = [];
    }
    ∷ []

-- quark B { virtual Void f() { } } quark A : B { Int f() { } }
abbrev pub with_other_result : List Heir
with_other_result =
    record {
      class = record { quark = true; word = word (codes "B") 7; members = function_f (codes "Void") 19 24 ∷ [] };
      base = None;
      virtuals = at 19 ∷ [];
    }
    ∷ record {
      class = record { quark = true; word = word (codes "A") 40; members = function_f (codes "Int") 48 52 ∷ [] };
      base = Some (word (codes "B") 44);
      virtuals = at 19 ∷ [];
    }
    ∷ []

-- each fault is the first one of some classes
pub record HasBaseExamples : Type 0 where
  pub no_quark : first_fault without_base ≡ Some (f.NotQuark (at 13))
  pub own_base : first_fault of_itself ≡ Some (f.OwnBase (at 7))
  pub no_match : first_fault with_other_result ≡ Some (f.BadOverride (at 52))
