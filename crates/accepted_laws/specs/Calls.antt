-- Where a virtual name leads in the bodies of a class.
use Rattle.std.specs.Prelude.{ℕ, ◌≡◌, List, [], ◌∷◌, map, slice_get, Some, None, IsTrue, Contains}
use Rattle.std.specs.List.{filter}
use Rattle.std.specs.Option.{option_map_or}
use Rattle.ulam_tree.specs.declared.resolved.Step.{Step}
use Rattle.ulam_tree.specs.declared.resolved.Step.TheVariants.{Function as in_class}
use Rattle.ulam_tree.specs.Raw as raw
use Rattle.ulam_tree.specs.Resolved as r
use Rattle.ulam_tree.specs.Statements.{Member, field, function}
use Rattle.ulam_tree.specs.Typed as t
use Rattle.ulam_heirs.specs.Lines.{line}
use Rattle.ulam_heirs.specs.Flat.{member_word, is_function, is_named, is_virtual_name, flat_members, nearest}
use Rattle.ulam_names.specs.Scopes.{Context, Entry, slot_named}
use Rattle.ulam_names.specs.Walk.{one_word}
use Rattle.ulam_names.specs.Classes.{HalfClass, Pending, half_function, head_of, context_of}
use Rattle.ulam_names.specs.Relation.{IsPath}
use Rattle.accepted_laws.specs.Accepted.{AcceptedTrees, heirs}

-- the name is virtual in class k: the class or one of its bases declares it as a virtual function
abbrev pub IsVirtualIn : AcceptedTrees → ℕ → List ℕ → Type 0
IsVirtualIn x k name = IsTrue (is_virtual_name (line (heirs x) k) name)

-- the names of the functions of a class, in order
abbrev pub function_words : {E A : Type 0} → List (Member E A) → List raw.Word
function_words [] = []
function_words (field n w len ∷ ms) = function_words ms
function_words (function n w ps b ∷ ms) = w ∷ function_words ms

-- those of class k
abbrev pub functions_of : List t.Class → ℕ → List raw.Word
functions_of cs k = option_map_or (λ (c : t.Class). function_words c.members) (slice_get cs k) []

-- Of all members of class k and of its bases that stay in class k, one has the name: a function, the declaration in the last
-- class of the line that has one. Function number `number` of the class in the typed tree is this one, by its name and place.
pub record IsNearest (x : AcceptedTrees) (k : ℕ) (name : List ℕ) (number : ℕ) : Type 0 where
  pub declaration : raw.Member
  pub near : nearest (line (heirs x) k) name ≡ Some declaration
  pub callable : IsTrue (is_function declaration)
  pub once : filter (is_named name) (flat_members (heirs x) k) ≡ declaration ∷ []
  pub stands : slice_get (functions_of x.tree k) number ≡ Some (member_word declaration)

-- a place in a body of class k: one of its functions, its own or inherited, and the locals that are seen at the place
pub record Spot (x : AcceptedTrees) (k : ℕ) : Type 0 where
  pub own : HalfClass
  pub body : Pending
  pub locals : List Entry
  pub of_class : slice_get x.resolved.halves k ≡ Some own
  pub of_body : Contains own.members (half_function body)

-- what names are looked up in there, besides the locals
abbrev pub context_at : (x : AcceptedTrees) (k : ℕ) → Spot x k → Context
context_at x k spot = context_of x.resolved.known (map head_of x.resolved.halves) k spot.own.names spot.body

-- a path of this name alone leads to the step, unless a local has the name
abbrev pub LeadsTo : (x : AcceptedTrees) (k : ℕ) → Spot x k → List ℕ → Step → Type 0
LeadsTo x k spot name step =
    (w : raw.Word) (q : r.Path) → w.name ≡ name → slot_named name spot.locals ≡ None →
    IsPath (context_at x k spot) spot.locals (one_word w) q → q.steps ≡ step ∷ []

-- the name has one function in the class, the nearest, and leads to it at each place of each body
pub record CallsNearest (x : AcceptedTrees) (k : ℕ) (name : List ℕ) : Type 0 where
  pub number : ℕ
  pub is : IsNearest x k name number
  pub leads : (spot : Spot x k) → LeadsTo x k spot name (in_class k number)
