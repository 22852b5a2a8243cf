-- Values: what operators and casts make of numbers, and numbers in the state of an atom.
use Rattle.std.specs.Prelude.{ℕ, nat_le, nat_eq, Bool, true, false, ◌&&◌, ℤ, pos, ◌+ℤ◌, ◌-ℤ◌, ◌*ℤ◌, neg_ℤ, int_div, int_rem, bit_and, bit_or, bit_xor, Option, Some, None, if◌then◌else◌}
use Rattle.bit_field.specs.Atom.{AtomValue, new_atom}
use Rattle.bit_field.specs.Words.{with_field}
use Rattle.sat_math.specs.declared.Kind.{Kind}
use Rattle.sat_math.specs.declared.Kind.TheVariants as k
use Rattle.sat_math.specs.declared.NumType.{NumType}
use Rattle.sat_math.specs.declared.Arith.{Arith}
use Rattle.sat_math.specs.declared.Arith.TheVariants.{Int32, Unsigned32, Int64, Unsigned64}
use Rattle.sat_math.specs.declared.CompareOp.TheVariants as c
use Rattle.sat_math.specs.Numbers.{cast, bits}
use Rattle.sat_math.specs.Operations.{saturate, complement, of_bool, is_zero, low64, shifted_up, shifted_down, comparison}
use Rattle.datum.specs.declared.Datum.{Datum}
use Rattle.datum.specs.declared.Datum.TheVariants.{Number, Atom}
use Rattle.ulam_tree.specs.declared.resolved.Ty.{Ty}
use Rattle.ulam_tree.specs.declared.resolved.Ty.TheVariants as y
use Rattle.ulam_tree.specs.declared.op.PrefixOp.{PrefixOp}
use Rattle.ulam_tree.specs.declared.op.PrefixOp.TheVariants as pre
use Rattle.ulam_tree.specs.declared.op.PairOp.{PairOp}
use Rattle.ulam_tree.specs.declared.op.PairOp.TheVariants as op
use Rattle.ulam_meaning.specs.Programs.{Program, type_number}

-- the type of numbers that a type is, if it is one
abbrev pub number_type : Ty → Option NumType
number_type (y.Num num) = Some num
number_type ty = None

-- the width of a type of numbers
abbrev pub width_of : Ty → ℕ
width_of (y.Num num) = num.width
width_of ty = 1

-- Operators

-- how arithmetic is done: signed or not, at 32 bits or at 64
abbrev pub arith_by : Kind → Bool → Arith
arith_by k.Int true = Int32
arith_by k.Int false = Int64
arith_by kind true = Unsigned32
arith_by kind false = Unsigned64

-- the arithmetic whose result has a type
abbrev pub arith_of : Ty → Arith
arith_of (y.Num num) = arith_by num.kind (nat_le num.width 32)
arith_of ty = Int32

-- the arithmetic of `p op= e`, by the type of p and the width of e: at 32 bits if both have at most
-- 32
abbrev pub arith_with : Ty → ℕ → Arith
arith_with (y.Num num) w = arith_by num.kind (nat_le num.width 32 && nat_le w 32)
arith_with ty w = Int32

-- the exact number, clamped to the range of the result
abbrev pub exact : Arith → ℤ → Option ℤ
exact how v = Some (saturate how v)

-- there is no quotient and no remainder by 0
abbrev pub unless_zero : ℤ → Option ℤ → Option ℤ
unless_zero b r = if is_zero b then None else r

-- What an operator gives, or None if it divides by 0: by its arithmetic and, for a shift, the width
-- of its left side. The right side of `&&` and `||` may not run, so they are with the expressions.
abbrev pub operator : PairOp → Arith → ℕ → ℤ → ℤ → Option ℤ
operator op.Add how w a b = exact how (a +ℤ b)
operator op.Sub how w a b = exact how (a -ℤ b)
operator op.Mul how w a b = exact how (a *ℤ b)
operator op.Div how w a b = unless_zero b (exact how (int_div a b))
operator op.Rem how w a b = unless_zero b (exact how (int_rem a b))
operator op.And how w a b = Some (pos (bit_and (low64 a) (low64 b)))
operator op.Or how w a b = Some (pos (bit_or (low64 a) (low64 b)))
operator op.Xor how w a b = Some (pos (bit_xor (low64 a) (low64 b)))
operator op.Shl how w a b = shifted_up w a b
operator op.Shr how w a b = shifted_down a b
operator op.Both how w a b = Some (pos (bit_and (low64 a) (low64 b)))
operator op.Either how w a b = Some (pos (bit_or (low64 a) (low64 b)))
operator op.Eq how w a b = comparison c.Eq a b
operator op.Ne how w a b = comparison c.Ne a b
operator op.Lt how w a b = comparison c.Lt a b
operator op.Le how w a b = comparison c.Le a b
operator op.Gt how w a b = comparison c.Gt a b
operator op.Ge how w a b = comparison c.Ge a b

-- `-`, `!` and `~`, with the type of the result
abbrev pub apply_prefix : PrefixOp → Ty → ℤ → ℤ
apply_prefix pre.Minus ty v = saturate (arith_by k.Int (nat_le (width_of ty) 32)) (neg_ℤ v)
apply_prefix pre.Not ty v = of_bool (is_zero v)
apply_prefix pre.Flip ty v = pos (complement (width_of ty) (low64 v))

-- Atoms

-- what a declaration without a value gives: 0, Empty, or the element's atom with state 0
abbrev pub default_of : Program → Ty → Datum
default_of g (y.Num num) = Number (pos 0)
default_of g ty = Atom (new_atom (type_number g ty))

-- the atom with a number in its state, cast to the type
abbrev pub with_number : AtomValue → ℕ → NumType → ℤ → AtomValue
with_number a first num v = with_field a first num.width (bits num (cast num v))

-- the same, unless it is Empty, which has no members
abbrev pub with_part : AtomValue → ℕ → NumType → ℤ → AtomValue
with_part a first num v = if nat_eq a.kind 0 then a else with_number a first num v
