-- What holds at the place of the first fault of bases: for each fault, in the words of its rule.
use Rattle.std.specs.Prelude.{ℕ, ◌<◌, ◌≡◌, ◌≢◌, ◌⊎◌, List, [], ◌∷◌, Contains, slice_get, Option, Some, None, false, IsTrue}
use Rattle.feast_base.specs.declared.place.Place.{Place}
use Rattle.ulam_tree.specs.Raw.{Word, Width, wide, wide_as, TypeRef, Param, Member, function}
use Rattle.ulam_heirs.specs.declared.fault.HeirsFault.{HeirsFault}
use Rattle.ulam_heirs.specs.declared.fault.HeirsFault.TheVariants as f
use Rattle.ulam_heirs.specs.Lines.{Heir}
use Rattle.ulam_heirs.specs.Faults.{first_fault}
use Rattle.ulam_heirs.specs.Flat.{member_word, member_type, is_field, is_function}

-- Bases

-- a name means class k: the first of all classes that has it
pub record Means (heirs : List Heir) (name : List ℕ) (k : ℕ) : Type 0 where
  pub heir : Heir
  pub is : slice_get heirs k ≡ Some heir
  pub named : heir.class.word.name ≡ name
  pub first : (j : ℕ) (other : Heir) → j < k → slice_get heirs j ≡ Some other → other.class.word.name ≢ name

-- the base of class k is class j
pub record IsBase (heirs : List Heir) (k j : ℕ) : Type 0 where
  pub heir : Heir
  pub base : Word
  pub is : slice_get heirs k ≡ Some heir
  pub says : heir.base ≡ Some base
  pub means : Means heirs base.name j

-- class j is the base of class k, or of a class to which the bases of class k lead
pub data LeadsTo (heirs : List Heir) : ℕ → ℕ → Type 0 where
  straight : (k j : ℕ) → IsBase heirs k j → LeadsTo heirs k j
  through : (k i j : ℕ) → IsBase heirs k i → LeadsTo heirs i j → LeadsTo heirs k j

-- Base is not a quark: a class names its base there, and no quark is what the name means.
pub record IsNoQuark (heirs : List Heir) (place : Place) : Type 0 where
  pub heir : Heir
  pub base : Word
  pub stands : Contains heirs heir
  pub says : heir.base ≡ Some base
  pub at : base.place ≡ place
  pub none : (k : ℕ) (m : Means heirs base.name k) → m.heir.class.quark ≡ false

-- Class is its own base: a class has its name there, and its bases lead back to it.
pub record IsOwnBase (heirs : List Heir) (place : Place) : Type 0 where
  pub number : ℕ
  pub heir : Heir
  pub is : slice_get heirs number ≡ Some heir
  pub at : heir.class.word.place ≡ place
  pub back : LeadsTo heirs number number

-- Virtual functions

-- the word `virtual` stands before a member of a class
abbrev pub HasWord : Heir → Member → Type 0
HasWord h m = Contains h.virtuals (member_type m).word.place

-- class k has a function of a name after the word `virtual`
pub record SaysVirtual (heirs : List Heir) (k : ℕ) (name : List ℕ) : Type 0 where
  pub heir : Heir
  pub own : Member
  pub is : slice_get heirs k ≡ Some heir
  pub declares : Contains heir.class.members own
  pub callable : IsTrue (is_function own)
  pub named : (member_word own).name ≡ name
  pub word : HasWord heir own

-- a function m of class k is virtual: by the word, or by the word before a function of its name in a base
abbrev pub IsVirtual : List Heir → ℕ → Heir → Member → Type 0
IsVirtual heirs k h m = HasWord h m ⊎ ((j : ℕ) × LeadsTo heirs k j × SaysVirtual heirs j (member_word m).name)

-- two widths, types and lists of parameters are written alike, wherever they stand
abbrev pub SameWidth : Width → Width → Type 0
SameWidth (wide m) (wide n) = m ≡ n
SameWidth (wide_as v) (wide_as w) = v.name ≡ w.name
SameWidth _ _ = ⊥

abbrev pub SameSize : Option Width → Option Width → Type 0
SameSize None None = Unit {0}
SameSize (Some a) (Some b) = SameWidth a b
SameSize _ _ = ⊥

abbrev pub SameType : TypeRef → TypeRef → Type 0
SameType a b = (a.word.name ≡ b.word.name) × SameSize a.width b.width

abbrev pub SameParams : List Param → List Param → Type 0
SameParams [] [] = Unit {0}
SameParams (p ∷ ps) (q ∷ qs) = SameType p.of q.of × SameParams ps qs
SameParams _ _ = ⊥

-- two functions with another result or other parameters
abbrev pub Differ : Member → Member → Type 0
Differ (function ty w ps b) (function uy v qs c) = SameType ty uy → SameParams ps qs → ⊥
Differ _ _ = ⊥

-- a base of class k has a virtual function of the name of m, and m is a function with another result or other parameters
pub record OverridesOther (heirs : List Heir) (k : ℕ) (m : Member) : Type 0 where
  pub base : ℕ
  pub heir : Heir
  pub own : Member
  pub leads : LeadsTo heirs k base
  pub is : slice_get heirs base ≡ Some heir
  pub declares : Contains heir.class.members own
  pub named : (member_word own).name ≡ (member_word m).name
  pub virtual : IsVirtual heirs base heir own
  pub differ : Differ own m

-- Override does not match: a member has its name there. It is a data member after the word `virtual`, or a function that
-- overrides one with another result or other parameters.
pub record DoesNotMatch (heirs : List Heir) (place : Place) : Type 0 where
  pub number : ℕ
  pub heir : Heir
  pub member : Member
  pub is : slice_get heirs number ≡ Some heir
  pub declares : Contains heir.class.members member
  pub at : (member_word member).place ≡ place
  pub wrong : (IsTrue (is_field member) × HasWord heir member) ⊎ OverridesOther heirs number member

-- what a fault says of its place
abbrev pub HoldsAt : List Heir → HeirsFault → Type 0
HoldsAt heirs (f.NotQuark place) = IsNoQuark heirs place
HoldsAt heirs (f.OwnBase place) = IsOwnBase heirs place
HoldsAt heirs (f.BadOverride place) = DoesNotMatch heirs place
HoldsAt heirs f.NoMemory = ⊥

-- wherever classes are refused for a fault, this holds at the place
abbrev pub HoldsWhere : (Place → HeirsFault) → (List Heir → Place → Type 0) → Type 0
HoldsWhere fault Holds = (heirs : List Heir) (place : Place) → first_fault heirs ≡ Some (fault place) → Holds heirs place
