-- The data members that a class has of a base.
use Rattle.std.specs.Prelude.{ℕ, ◌<◌, ◌≡◌, List, [], ◌∷◌, get_or, length, slice_get}
use Rattle.std.specs.Option.{option_map_or}
use Rattle.ulam_tree.specs.declared.resolved.Named.{Named}
use Rattle.ulam_tree.specs.Raw.{Word}
use Rattle.ulam_tree.specs.Statements.{Member, field, function}
use Rattle.ulam_tree.specs.Typed as t
use Rattle.atom_layout.specs.Layouts.{class_at, first_bit, layout_of}
use Rattle.accepted_laws.specs.Accepted.{AcceptedTrees}

-- a data member: its type, its name and its length, which is 0 if it is not an array
pub record DataMember : Type 0 where
  pub of : Named
  pub word : Word
  pub length : ℕ

abbrev pub data_member : Named → Word → ℕ → DataMember
data_member n w len = record { of = n; word = w; length = len }

-- the data members of a class, in order
abbrev pub data_members : {E A : Type 0} → List (Member E A) → List DataMember
data_members [] = []
data_members (field n w len ∷ ms) = data_member n w len ∷ data_members ms
data_members (function n w ps b ∷ ms) = data_members ms

-- those of class k
abbrev pub data_of : List t.Class → ℕ → List DataMember
data_of cs k = option_map_or (λ (c : t.Class). data_members c.members) (slice_get cs k) []

-- Data member n of the heir is data member n of the base: it has the same name, type and length, the same first bit by the
-- layout, and as many bits.
pub record IsSameMember (x : AcceptedTrees) (heir base n : ℕ) : Type 0 where
  pub same : slice_get (data_of x.tree heir) n ≡ slice_get (data_of x.tree base) n
  pub first : first_bit (layout_of x.classes) heir n ≡ first_bit (layout_of x.classes) base n
  pub bits : get_or (class_at (layout_of x.classes) heir) n 0 ≡ get_or (class_at (layout_of x.classes) base) n 0

-- so is each data member of the base
abbrev pub HasMembersOf : AcceptedTrees → ℕ → ℕ → Type 0
HasMembersOf x heir base = (n : ℕ) → n < length (data_of x.tree base) → IsSameMember x heir base n
