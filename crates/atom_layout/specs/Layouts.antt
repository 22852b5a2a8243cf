-- How many bits data members take, and where they lie.
use Rattle.std.specs.Prelude.{ℕ, zero, suc, ◌*◌, ◌-◌, ◌^◌, ◌≡◌, List, [], ◌∷◌, length, map, flat_map, get_or, take, sum, slice_get, min, Option, Some, None, if◌then◌else◌, nat_lt}
use Rattle.std.specs.Option.{option_map_or, option_or}
use Rattle.ulam_tree.specs.declared.resolved.Ty.{Ty}
use Rattle.ulam_tree.specs.declared.resolved.Ty.TheVariants as y
use Rattle.ulam_tree.specs.Resolved.{Class, Member, field, function}
use Rattle.atom_layout.specs.declared.fault.LayoutFault.{LayoutFault}
use Rattle.atom_layout.specs.declared.fault.LayoutFault.TheVariants as f
use Rattle.bit_field.specs.declared.TheConstants.{STATE_BITS}

-- the bits of a type, where `quark` has the bits of each class
abbrev pub type_bits : (ℕ → ℕ) → Ty → ℕ
type_bits quark (y.Num t) = t.width
type_bits quark (y.Class k) = quark k
type_bits quark ty = 0

-- how many values of its type a data member has: the length of an array, and otherwise one
abbrev pub times : ℕ → ℕ
times zero = 1
times (suc n) = suc n

-- the bits of a data member by its type and its length
abbrev pub member_bits : (ℕ → ℕ) → Ty → ℕ → ℕ
member_bits quark ty len = type_bits quark ty * times len

abbrev pub field_bits : (ℕ → ℕ) → Member → List ℕ
field_bits quark (field n w len) = member_bits quark n.ty len ∷ []
field_bits quark (function n w ps b) = []

-- the bits of the data members of a class, in order
abbrev pub widths : (ℕ → ℕ) → List Member → List ℕ
widths quark ms = flat_map (field_bits quark) ms

-- the bits of class k, if classes are looked into this many levels deep
unfoldable pub bits_within : ℕ → List Class → ℕ → ℕ
bits_within zero cs k = 0
bits_within (suc m) cs k = option_map_or (λ (c : Class). sum (widths (bits_within m cs) c.members)) (slice_get cs k) 0

-- The bits of a class. If no class contains itself, as many levels as there are classes are enough.
abbrev pub class_bits : List Class → ℕ → ℕ
class_bits cs k = bits_within (length cs) cs k

-- the sum of the bits of the data members of a class
abbrev pub total : List Class → Class → ℕ
total cs c = sum (widths (class_bits cs) c.members)

-- the bits of each class are the sum of those of its data members
abbrev pub BitsAddUp : List Class → Type 0
BitsAddUp cs = (k : ℕ) (c : Class) → slice_get cs k ≡ Some c → class_bits cs k ≡ total cs c

-- The bits of the data members of each class. A member begins where the one before it ends.
abbrev pub layout_of : List Class → List (List ℕ)
layout_of cs = map (λ (c : Class). widths (class_bits cs) c.members) cs

abbrev pub class_at : List (List ℕ) → ℕ → List ℕ
class_at l k = get_or l k []

abbrev pub first_bit : List (List ℕ) → ℕ → ℕ → ℕ
first_bit l k i = sum (take i (class_at l k))

-- the number of bits that a fault tells
abbrev pub capped_bits : ℕ → ℕ
capped_bits n = min n (2 ^ 64 - 1)

-- the fault of a class of n bits, if these are too many
abbrev pub fault_by : ℕ → Class → Option LayoutFault
fault_by n c =
    if c.quark
    then (if nat_lt 32 n then Some (f.QuarkTooWide c.word.place (capped_bits n)) else None)
    else (if nat_lt STATE_BITS n then Some (f.ElementTooWide c.word.place (capped_bits n)) else None)

abbrev pub fault_in : List Class → Class → Option LayoutFault
fault_in cs c = fault_by (total cs c) c

abbrev pub first_of : (Class → Option LayoutFault) → List Class → Option LayoutFault
first_of fault [] = None
first_of fault (c ∷ cs) = option_or (fault c) (first_of fault cs)

-- the fault of the first class that takes too many bits
abbrev pub first_wide : List Class → Option LayoutFault
first_wide cs = first_of (fault_in cs) cs
