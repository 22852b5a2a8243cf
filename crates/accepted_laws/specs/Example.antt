-- Trees that meet what the laws ask.
--     ulam 5;
--     quark Base { Bool full; virtual Void go() { } Void turn() { go(); } }
--     element Heir : Base { Void go() { } Void behave() { turn(); } }
use Rattle.std.specs.Prelude.{ℕ, ◌≡◌, List, [], ◌∷◌, None, true, false, codes}
use Rattle.feast_base.specs.declared.place.Place.{Place}
use Rattle.ulam_tree.specs.Raw.{Word, TypeRef, Body, does, no_args, no_more, then_so, Member, field, function, Item, ulam, class}
use Rattle.ulam_heirs.specs.Heads.{Heads}
use Rattle.ulam_heirs.specs.Laws.{HasBase}
use Rattle.accepted_laws.specs.Accepted.{AcceptedTrees, heirs}
use Rattle.accepted_laws.specs.Calls.{IsVirtualIn}

-- places in the lines of the two classes
abbrev pub in_base : ℕ → Place
in_base column = record { file = 0; line = 2; column = column }

abbrev pub in_heir : ℕ → Place
in_heir column = record { file = 0; line = 3; column = column }

abbrev pub word : List ℕ → Place → Word
word name place = record { name = name; place = place }

abbrev pub type_at : List ℕ → Place → TypeRef
type_at name place = record { word = word name place; width = None }

-- a body that calls a function of the class
abbrev pub calls : Word → Body
calls w = then_so (does (record { own = None; words = w ∷ [] }) no_args) no_more

abbrev pub base_members : List Member
base_members =
    field (type_at (codes "Bool") (in_base 14)) (word (codes "full") (in_base 19)) None
    ∷ function (type_at (codes "Void") (in_base 33)) (word (codes "go") (in_base 38)) [] no_more
    ∷ function (type_at (codes "Void") (in_base 47)) (word (codes "turn") (in_base 52)) [] (calls (word (codes "go") (in_base 61)))
    ∷ []

abbrev pub heir_members : List Member
heir_members =
    function (type_at (codes "Void") (in_heir 23)) (word (codes "go") (in_heir 28)) [] no_more
    ∷ function (type_at (codes "Void") (in_heir 37)) (word (codes "behave") (in_heir 42)) [] (calls (word (codes "turn") (in_heir 53)))
    ∷ []

abbrev pub example_items : List Item
example_items =
    ulam 5
    ∷ class (record { quark = true; word = word (codes "Base") (in_base 7); members = base_members })
    ∷ class (record { quark = false; word = word (codes "Heir") (in_heir 9); members = heir_members })
    ∷ []

abbrev pub example_heads : Heads
example_heads = record { bases = record { class = in_heir 9; base = word (codes "Base") (in_heir 16) } ∷ []; virtuals = in_base 33 ∷ [] }

-- These trees are accepted. Class 1 has the base 0, and `go`, which the body of `turn` calls, is virtual in it.
pub record IsExample (x : AcceptedTrees) : Type 0 where
  pub files : x.files ≡ example_items ∷ []
  pub heads : x.heads ≡ example_heads ∷ []
  pub base : HasBase (heirs x) 1 0
  pub virtual : IsVirtualIn x 1 (codes "go")

abbrev pub HasExample : Type 0
HasExample = (x : AcceptedTrees) × IsExample x
