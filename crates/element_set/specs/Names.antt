-- The elements among classes, their names, and what the stage of names says of classes.
use Rattle.std.specs.Prelude.{ℕ, suc, ◌≡◌, ◌≤◌, false, List, [], ◌∷◌, ◌++◌, Vec, length, map, flat_map, get_or, if◌then◌else◌}
use Rattle.std.specs.declared.alloc.Global.{Global}
use Rattle.ulam_tree.specs.Statements.{Class, Member, field, function}
use Rattle.ulam_tree.specs.Raw.{Item}
use Rattle.ulam_tree.specs.Resolved as r
use Rattle.ulam_names.specs.ClassRelation.{IsResolved}
use Rattle.ulam_names.specs.Scopes.{is_among}
use Rattle.ulam_names.specs.declared.limits.TheConstants.{MOST_CLASSES, MOST_MEMBERS}

-- the name that a key of a set of names is
abbrev pub key_name : Vec ℕ Global → List ℕ
key_name key = key.items

-- the name of a class that is an element
abbrev pub element_name : {E A : Type 0} → Class E A → List (List ℕ)
element_name c = if c.quark then [] else c.word.name ∷ []

-- the names of the elements among classes, in order
abbrev pub names_in : {E A : Type 0} → List (Class E A) → List (List ℕ)
names_in cs = flat_map element_name cs

-- the names of all classes
abbrev pub class_names : {E A : Type 0} → List (Class E A) → List (List ℕ)
class_names {E = E} {A = A} cs = map (λ (c : Class E A). c.word.name) cs

-- each of these names is new: it is not among those before it, nor among those that are done
abbrev pub AreNew : List (List ℕ) → List (List ℕ) → Type 0
AreNew done [] = Unit {0}
AreNew done (n ∷ ns) = (is_among n done ≡ false) × AreNew (done ++ n ∷ []) ns

-- how many data members there are
abbrev pub field_count : {E A : Type 0} → List (Member E A) → ℕ
field_count [] = 0
field_count (field of w n ∷ ms) = suc (field_count ms)
field_count (function of w ps b ∷ ms) = field_count ms

-- how many data members each class has
abbrev pub counts : {E A : Type 0} → List (Class E A) → List ℕ
counts {E = E} {A = A} cs = map (λ (c : Class E A). field_count c.members) cs

-- no class has more data members than it may have
abbrev pub AreSlim : {E A : Type 0} → List (Class E A) → Type 0
AreSlim cs = (k : ℕ) → get_or (counts cs) k 0 ≤ MOST_MEMBERS

-- No more classes than there may be, each with a name of its own, and no more data members in each than there may be.
pub record AreNamed {E A : Type 0} (cs : List (Class E A)) : Type 0 where
  pub few : length cs ≤ MOST_CLASSES
  pub new : AreNew [] (class_names cs)
  pub slim : AreSlim cs

-- classes to which the items of some files are resolved
pub record IsResolution (cs : List r.Class) : Type 0 where
  pub items : List Item
  pub is : IsResolved items cs
