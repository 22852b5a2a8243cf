-- The sort of each shape: a shape is a sort whose operators have names.
use Rattle.std.specs.Prelude.{◌≡◌, ℤ, pos, true, Option, int_div, int_rem, bit_and, bit_or, bit_xor}
use Rattle.bit_field.specs.Atom.{new_atom}
use Rattle.window_sites.specs.Window.{live_at, is_empty_at}
use Rattle.sat_math.specs.declared.Kind.TheVariants.{Bits}
use Rattle.sat_math.specs.Numbers.{cast}
use Rattle.sat_math.specs.Operations.{IsSigned, shifted_up, shifted_down, comparison, one_in}
use Rattle.datum.specs.declared.Datum.TheVariants.{Number as ANumber, Atom as AnAtom}
use Rattle.stack_code.specs.Sorts.{Sort, Give, One, Two, Load, Store, Drop, Field, SetField, Part, SetPart, Own, Site, SetSite, Exchange, Ask, Same, Draw, Double, FieldAt, SetFieldAt, PartAt, SetPartAt, Goto, GotoFalse, Take, Enter, GiveBack, Leave, num_type, exact, divide, sum, difference, product, negate, on_bits, flip, not_bool}
use Rattle.stack_code.specs.Valid.{type_fits}
use Rattle.stack_code.specs.declared.operators.UnaryOp.{UnaryOp}
use Rattle.stack_code.specs.declared.operators.UnaryOp.TheVariants as unary
use Rattle.stack_code.specs.declared.operators.BinaryOp.{BinaryOp}
use Rattle.stack_code.specs.declared.operators.BinaryOp.TheVariants as binary
use Rattle.stack_code.specs.declared.shapes.Shape.{Shape}
use Rattle.stack_code.specs.declared.shapes.Shape.TheVariants as shape

-- the operators as functions
abbrev pub unary_of : UnaryOp → ℤ → ℤ
unary_of (unary.Neg how) = negate how
unary_of (unary.Flip w) = flip w
unary_of (unary.Fit t) = cast t
unary_of unary.Not = not_bool

abbrev pub binary_of : BinaryOp → ℤ → ℤ → Option ℤ
binary_of (binary.Add how) = exact how sum
binary_of (binary.Sub how) = exact how difference
binary_of (binary.Mul how) = exact how product
binary_of (binary.Div how) = divide how int_div
binary_of (binary.Rem how) = divide how int_rem
binary_of binary.And = on_bits bit_and
binary_of binary.Or = on_bits bit_or
binary_of binary.Xor = on_bits bit_xor
binary_of (binary.Shl w) = shifted_up w
binary_of binary.Shr = shifted_down
binary_of (binary.Test op) = comparison op

-- the sort of a shape
abbrev pub sort_of : Shape → Sort
sort_of (shape.GiveNumber v) = Give (ANumber v)
sort_of (shape.GiveAtom k) = Give (AnAtom (new_atom k))
sort_of (shape.One op) = One (unary_of op)
sort_of (shape.Two op) = Two (binary_of op)
sort_of (shape.Load s) = Load s
sort_of (shape.Store s) = Store s
sort_of shape.Drop = Drop
sort_of (shape.Field f t) = Field f t
sort_of (shape.SetField f t) = SetField f t
sort_of (shape.Part s f t) = Part s f t
sort_of (shape.SetPart s f t) = SetPart s f t
sort_of shape.Own = Own
sort_of shape.Site = Site
sort_of shape.SetSite = SetSite
sort_of shape.Exchange = Exchange
sort_of shape.AskLive = Ask live_at
sort_of shape.AskEmpty = Ask is_empty_at
sort_of shape.Draw = Draw pos
sort_of shape.DrawOneIn = Draw one_in
sort_of (shape.Same k) = Same k
sort_of shape.Double = Double
sort_of (shape.FieldAt f t n) = FieldAt f t n
sort_of (shape.SetFieldAt f t n) = SetFieldAt f t n
sort_of (shape.PartAt s f t n) = PartAt s f t n
sort_of (shape.SetPartAt s f t n) = SetPartAt s f t n
sort_of (shape.Goto p) = Goto p
sort_of (shape.GotoFalse p) = GotoFalse p
sort_of shape.Take = Take
sort_of (shape.Enter f) = Enter f
sort_of shape.GiveBack = GiveBack
sort_of shape.Leave = Leave

-- the widths of an operator are allowed, and a number is negated as an Int
abbrev pub UnaryFits : UnaryOp → Type 0
UnaryFits (unary.Neg how) = IsSigned how
UnaryFits (unary.Flip w) = type_fits (num_type Bits w) ≡ true
UnaryFits (unary.Fit t) = type_fits t ≡ true
UnaryFits op = Unit {0}

abbrev pub BinaryFits : BinaryOp → Type 0
BinaryFits (binary.Shl w) = type_fits (num_type Bits w) ≡ true
BinaryFits op = Unit {0}
