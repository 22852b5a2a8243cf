-- What a path names, and which function it calls. These are definitions by themselves, since the
-- compiler has to agree with them.
use Rattle.std.specs.Prelude.{ℕ, ◌+◌, ℤ, List, [], ◌∷◌, slice_index_or}
use Rattle.sat_math.specs.declared.NumType.{NumType}
use Rattle.ulam_tree.specs.declared.resolved.Ty.{Ty}
use Rattle.ulam_tree.specs.declared.resolved.Ty.TheVariants as y
use Rattle.ulam_tree.specs.declared.resolved.Step.{Step}
use Rattle.ulam_tree.specs.declared.resolved.Step.TheVariants.{Own, Local, Member, Function as AFunction, Constant, Built as ABuilt}
use Rattle.ulam_tree.specs.declared.resolved.Built.{Built}
use Rattle.atom_layout.specs.Layouts.{first_bit}
use Rattle.ulam_meaning.specs.Programs.{Program, Function, field_at, function_at, slot_types}

-- numbers in an atom's state: the first bit, the type of each, and how many there are, which is 0
-- if it is not an array
pub record Span : Type 0 where
  pub first : ℕ
  pub num : NumType
  pub length : ℕ

-- what a path names
pub data Spot : Type 0 where
  -- `self`
  itself : Spot
  -- a local or parameter, by its slot
  local : (slot : ℕ) → Spot
  -- a number, or an array of numbers, of the acting element
  member : (span : Span) → Spot
  -- the same of the atom in a local
  part : (slot : ℕ) → (span : Span) → Spot
  -- the event's window
  window : Spot
  -- a constant, by its value
  constant : (v : ℤ) → Spot
  -- nothing that has a value or that square brackets may follow
  nothing : Spot

-- a data member that begins at a bit, if `numbers` says whose bits they are
abbrev pub field_spot : (Span → Spot) → ℕ → ℕ → Ty → Spot
field_spot numbers first n (y.Num num) = numbers (record { first = first; num = num; length = n })
field_spot numbers first n y.Window = window
field_spot numbers first n ty = nothing

-- a function by its class and its number there, on the bits of its class from `base` on
pub record Key : Type 0 where
  pub class : ℕ
  pub function : ℕ
  pub base : ℕ

-- what a path calls
pub data Callee : Type 0 where
  called : (f : Key) → Callee
  built_in : (b : Built) → Callee
  no_callee : Callee

-- the surroundings of a statement: the program, the first bit of the class whose function this is,
-- the types of its locals by their slots, and that of its result
pub record Scene : Type 0 where
  pub program : Program
  pub base : ℕ
  pub slots : List Ty
  pub result : Ty

module _ (g : Program) where
  -- the first bit of a data member of a class whose own first bit is `base`
  abbrev pub bit_of : ℕ → ℕ → ℕ → ℕ
  bit_of base c m = base + first_bit g.layout c m

  -- what data members of data members name, from a class on whose first bit is `base`
  abbrev pub through : (Span → Spot) → ℕ → List Step → Spot
  through numbers base (Member c m ∷ []) = field_spot numbers (bit_of base c m) (field_at g c m).length (field_at g c m).ty
  through numbers base (Member c m ∷ s ∷ steps) = through numbers (bit_of base c m) (s ∷ steps)
  through numbers base steps = nothing

  -- What a path names in a function that works on the bits of its class from `base` on. The atom in a local begins at bit 0.
  abbrev pub spot : ℕ → List Step → Spot
  spot base (Own ∷ []) = itself
  spot base (Own ∷ s ∷ steps) = through member base (s ∷ steps)
  spot base (Local i ∷ []) = local i
  spot base (Local i ∷ s ∷ steps) = through (part i) 0 (s ∷ steps)
  spot base (Constant num v ∷ steps) = constant v
  spot base steps = through member base steps

  -- the function of a key
  abbrev pub function_of : Key → Function
  function_of f = function_at g f.class f.function

  -- What a path calls in a function that works on the bits of its class from `base` on. A function of a data member works on that member's bits; one of the same class keeps the base.
  abbrev pub callee : ℕ → List Step → Callee
  callee base (Own ∷ steps) = callee base steps
  callee base (Member c m ∷ steps) = callee (bit_of base c m) steps
  callee base (AFunction c f ∷ steps) = called (record { class = c; function = f; base = base })
  callee base (ABuilt b ∷ steps) = built_in b
  callee base steps = no_callee

  -- the scene of a function's body
  abbrev pub scene_of : Key → Scene
  scene_of f = record { program = g; base = f.base; slots = slot_types (function_of f); result = (function_of f).result }

-- the type of what is assigned to
abbrev pub spot_type : Scene → Spot → Ty
spot_type z (local i) = slice_index_or z.slots i y.Nothing
spot_type z (member p) = y.Num p.num
spot_type z (part i p) = y.Num p.num
spot_type z spot = y.Nothing
