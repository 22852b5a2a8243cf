-- The table of types, row by row.
use Rattle.std.specs.Prelude.{ℕ, ◌^◌, max, Bool, true, false, ◌&&◌, ◌||◌, nat_eq, nat_lt, nat_le, if◌then◌else◌, List, [], ◌∷◌, Option, Some, None}
use Rattle.feast_base.specs.declared.place.Place.{Place}
use Rattle.sat_math.specs.declared.Kind.{Kind}
use Rattle.sat_math.specs.declared.Kind.TheVariants as k
use Rattle.ulam_tree.specs.declared.resolved.Ty.{Ty}
use Rattle.ulam_tree.specs.declared.resolved.Ty.TheVariants.{Num, Atom, Empty, Nothing, Class}
use Rattle.ulam_tree.specs.declared.op.PrefixOp.{PrefixOp}
use Rattle.ulam_tree.specs.declared.op.PrefixOp.TheVariants as pre
use Rattle.ulam_tree.specs.declared.op.PairOp.{PairOp}
use Rattle.ulam_tree.specs.declared.op.PairOp.TheVariants as op
use Rattle.ulam_tree.specs.declared.resolved.Built.{Built}
use Rattle.ulam_tree.specs.declared.resolved.Built.TheVariants.{Swap, IsLive, IsEmpty, Create, OneIn}
use Rattle.ulam_tree.specs.Typed as t
use Rattle.type_rules.specs.declared.scope.NumClass.{NumClass}
use Rattle.type_rules.specs.declared.scope.NumClass.TheVariants.{Int, Unsigned, Bits, Bool as Truth, Other}
use Rattle.type_rules.specs.declared.scope.Want.{Want}
use Rattle.type_rules.specs.declared.scope.Want.TheVariants.{Value, Site, Bound}
use Rattle.ulam_tree.specs.Found.{value_or_fault}
use Rattle.type_rules.specs.Faults.{Fault, wrong_type, mixed_signs, not_assignable, Found}
use Rattle.type_rules.specs.Scopes.{Scope, is_element, Callee, function, built}

abbrev pub int : ℕ → Ty
int w = Num (record { kind = k.Int; width = w })

abbrev pub unsigned_type : ℕ → Ty
unsigned_type w = Num (record { kind = k.Unsigned; width = w })

abbrev pub bits : ℕ → Ty
bits w = Num (record { kind = k.Bits; width = w })

abbrev pub bool : Ty
bool = Num (record { kind = k.Bool; width = 1 })

abbrev pub class_by : Kind → ℕ → NumClass
class_by k.Int w = Int w
class_by k.Unsigned w = Unsigned w
class_by k.Unary w = Unsigned w
class_by k.Bits w = Bits w
class_by k.Bool w = Truth

-- the class of a type
abbrev pub class_of : Ty → NumClass
class_of (Num t) = class_by t.kind t.width
class_of ty = Other

-- Plain numbers

abbrev pub taken_by : NumClass → Kind
taken_by (Unsigned w) = k.Unsigned
taken_by (Bits w) = k.Bits
taken_by c = k.Int

-- the kind that a plain number takes from the type beside it, or from the type that it is for
abbrev pub kind_from : Ty → Kind
kind_from ty = taken_by (class_of ty)

-- the kind that one operand takes if it is plain: Int beside another plain number
abbrev pub beside : Bool → Ty → Kind
beside true ty = k.Int
beside false ty = kind_from ty

abbrev pub plain_type : Kind → Ty
plain_type kind = Num (record { kind = kind; width = 32 })

-- a number of this kind may have this value: it lies in 32 bits
abbrev pub plain_fits : Kind → ℕ → Bool
plain_fits k.Int v = nat_lt v (2 ^ 31)
plain_fits kind v = nat_lt v (2 ^ 32)

-- Operators between operands

-- the width of a result, by those of the operands
abbrev pub wide : ℕ → ℕ → ℕ
wide m n = if nat_le m 32 && nat_le n 32 then 32 else 64

-- + - * / %
abbrev pub arith_type : NumClass → NumClass → Option Ty
arith_type (Int m) (Int n) = Some (int (wide m n))
arith_type (Unsigned m) (Unsigned n) = Some (unsigned_type (wide m n))
arith_type a b = None

-- < <= > >=
abbrev pub order_type : NumClass → NumClass → Option Ty
order_type (Int m) (Int n) = Some bool
order_type (Unsigned m) (Unsigned n) = Some bool
order_type a b = None

-- == !=
abbrev pub equal_type : NumClass → NumClass → Option Ty
equal_type (Int m) (Int n) = Some bool
equal_type (Unsigned m) (Unsigned n) = Some bool
equal_type (Bits m) (Bits n) = Some bool
equal_type Truth Truth = Some bool
equal_type a b = None

-- & | ^
abbrev pub bits_type : NumClass → NumClass → Option Ty
bits_type (Bits m) (Bits n) = Some (bits (max m n))
bits_type a b = None

-- << >>, where the right side may be plain
abbrev pub shift_type : Bool → NumClass → NumClass → Option Ty
shift_type plain (Bits m) (Unsigned n) = Some (bits m)
shift_type true (Bits m) b = Some (bits m)
shift_type plain a b = None

-- && ||
abbrev pub truth_type : NumClass → NumClass → Option Ty
truth_type Truth Truth = Some bool
truth_type a b = None

abbrev pub pair_classes : PairOp → Bool → NumClass → NumClass → Option Ty
pair_classes op.Add plain = arith_type
pair_classes op.Sub plain = arith_type
pair_classes op.Mul plain = arith_type
pair_classes op.Div plain = arith_type
pair_classes op.Rem plain = arith_type
pair_classes op.And plain = bits_type
pair_classes op.Or plain = bits_type
pair_classes op.Xor plain = bits_type
pair_classes op.Shl plain = shift_type plain
pair_classes op.Shr plain = shift_type plain
pair_classes op.Both plain = truth_type
pair_classes op.Either plain = truth_type
pair_classes op.Eq plain = equal_type
pair_classes op.Ne plain = equal_type
pair_classes op.Lt plain = order_type
pair_classes op.Le plain = order_type
pair_classes op.Gt plain = order_type
pair_classes op.Ge plain = order_type

-- The type of two operands. Whether the right one is plain counts for shifts alone.
abbrev pub pair_type : PairOp → Bool → Ty → Ty → Option Ty
pair_type op plain a b = pair_classes op plain (class_of a) (class_of b)

-- one signed, one unsigned
abbrev pub are_mixed : NumClass → NumClass → Bool
are_mixed (Int m) (Unsigned n) = true
are_mixed (Unsigned m) (Int n) = true
are_mixed a b = false

-- operators for signed and for unsigned numbers
abbrev pub takes_signs : PairOp → Bool
takes_signs op.And = false
takes_signs op.Or = false
takes_signs op.Xor = false
takes_signs op.Shl = false
takes_signs op.Shr = false
takes_signs op.Both = false
takes_signs op.Either = false
takes_signs op = true

-- what is wrong with two operands that have no type
abbrev pub pair_fault : Place → PairOp → Ty → Ty → Fault
pair_fault p op a b = if takes_signs op && are_mixed (class_of a) (class_of b) then mixed_signs p else wrong_type p

-- the type of two operands, or what is wrong with them
abbrev pub pair_found : Place → PairOp → Bool → Ty → Ty → Found Ty
pair_found p op plain a b = value_or_fault (pair_type op plain a b) (pair_fault p op a b)

-- Other forms

abbrev pub prefix_by : PrefixOp → NumClass → Option Ty
prefix_by pre.Minus (Int m) = Some (int (wide m m))
prefix_by pre.Not Truth = Some bool
prefix_by pre.Flip (Bits m) = Some (bits m)
prefix_by op c = None

abbrev pub prefix_type : PrefixOp → Ty → Option Ty
prefix_type op a = prefix_by op (class_of a)

-- a number or truth value, turned into a number type
abbrev pub cast_type : Ty → Ty → Option Ty
cast_type (Num t) (Num s) = Some (Num t)
cast_type to a = None

-- `Atom`, or an element
abbrev pub is_atom : Scope → Ty → Bool
is_atom g Atom = true
is_atom g (Class c) = is_element g c
is_atom g ty = false

-- an element, or `Empty`
abbrev pub is_species : Scope → Ty → Bool
is_species g Empty = true
is_species g (Class c) = is_element g c
is_species g ty = false

-- the type of `T.instanceof`
abbrev pub instance_type : Ty → Ty
instance_type Empty = Atom
instance_type ty = ty

abbrev pub is_index_class : NumClass → Bool
is_index_class (Int w) = true
is_index_class (Unsigned w) = true
is_index_class c = false

-- the number of a site, or of one of an array
abbrev pub is_index : Ty → Bool
is_index ty = is_index_class (class_of ty)

abbrev pub is_truth_class : NumClass → Bool
is_truth_class Truth = true
is_truth_class c = false

-- the type of a condition
abbrev pub is_truth : Ty → Bool
is_truth ty = is_truth_class (class_of ty)

abbrev pub is_void : Ty → Bool
is_void Nothing = true
is_void ty = false

-- Assigning

abbrev pub fits_number : Kind → NumClass → Bool
fits_number k.Int (Int w) = true
fits_number k.Unsigned (Unsigned w) = true
fits_number k.Unary (Unsigned w) = true
fits_number k.Bits (Bits w) = true
fits_number k.Bool Truth = true
fits_number kind c = false

abbrev pub same_class : Ty → ℕ → Bool
same_class (Class d) c = nat_eq d c
same_class ty c = false

-- a value of the second type can be assigned to the first
abbrev pub assignable : Scope → Ty → Ty → Bool
assignable g (Num t) a = fits_number t.kind (class_of a)
assignable g Atom a = is_atom g a
assignable g (Class c) a = is_element g c && same_class a c
assignable g to a = false

-- Calls

-- the kind that a plain argument takes
abbrev pub taken_want : Want → Kind
taken_want (Value ty) = kind_from ty
taken_want Site = k.Int
taken_want Bound = k.Int

abbrev pub is_unsigned_class : NumClass → Bool
is_unsigned_class (Unsigned w) = true
is_unsigned_class c = false

abbrev pub is_unsigned : Ty → Bool
is_unsigned ty = is_unsigned_class (class_of ty)

abbrev pub suits : Scope → Want → t.Expr → Bool
suits g (Value ty) e = assignable g ty (t.ty_of e)
suits g Site e = is_index (t.ty_of e)
suits g Bound e = t.plain e || is_unsigned (t.ty_of e)

-- each argument is what is wanted of it
abbrev pub all_suit : Scope → List Want → t.Args → Bool
all_suit g [] es = true
all_suit g (w ∷ ws) t.no_args = true
all_suit g (w ∷ ws) (t.arg e es) = suits g w e && all_suit g ws es

abbrev pub is_built : Callee → Bool
is_built (function f) = false
is_built (built b) = true

-- what is wrong with an argument that does not suit
abbrev pub misfit : Bool → Place → Fault
misfit true p = wrong_type p
misfit false p = not_assignable p

abbrev pub width_by : NumClass → ℕ
width_by (Int w) = w
width_by (Unsigned w) = w
width_by (Bits w) = w
width_by c = 1

abbrev pub width_of : Ty → ℕ
width_of ty = width_by (class_of ty)

abbrev pub built_result : Built → t.Args → Ty
built_result Swap es = Nothing
built_result IsLive es = bool
built_result IsEmpty es = bool
built_result OneIn es = bool
built_result Create t.no_args = unsigned_type 32
built_result Create (t.arg e es) = unsigned_type (wide (width_of (t.ty_of e)) 0)

abbrev pub result_of : Callee → t.Args → Ty
result_of (function f) es = f.result
result_of (built b) es = built_result b es
