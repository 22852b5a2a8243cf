-- What each symbol may begin or join.
use Rattle.std.specs.Prelude.{ℕ, Some, None, true, false}
use Rattle.ulam_tree.specs.declared.op.PrefixOp.TheVariants as p
use Rattle.ulam_tree.specs.declared.op.PairOp.{PairOp}
use Rattle.ulam_tree.specs.declared.op.PairOp.TheVariants as o
use Rattle.ulam_parse.specs.declared.symbol.Symbol.{Symbol}
use Rattle.ulam_parse.specs.declared.symbol.Symbol.TheVariants as s
use Rattle.ulam_parse.specs.declared.symbol.Infix.{Infix}
use Rattle.ulam_parse.specs.declared.symbol.Infix.TheVariants as i
use Rattle.ulam_parse.specs.declared.symbol.Opening.{Opening}
use Rattle.ulam_parse.specs.declared.symbol.Opening.TheVariants as b
use Rattle.ulam_parse.specs.declared.symbol.Assigning.{Assigning}
use Rattle.ulam_parse.specs.declared.symbol.Assigning.TheVariants as a
use Rattle.ulam_parse.specs.declared.symbol.Starting.{Starting}
use Rattle.ulam_parse.specs.declared.symbol.Starting.TheVariants as t

-- what a symbol does with an expression that stands before it
abbrev pub infix_of : Symbol → Infix
infix_of s.BarBar = i.Joins o.Either
infix_of s.AmpAmp = i.Joins o.Both
infix_of s.Bar = i.Joins o.Or
infix_of s.Caret = i.Joins o.Xor
infix_of s.Amp = i.Joins o.And
infix_of s.Eq = i.Joins o.Eq
infix_of s.Ne = i.Joins o.Ne
infix_of s.Lt = i.Joins o.Lt
infix_of s.Le = i.Joins o.Le
infix_of s.Gt = i.Joins o.Gt
infix_of s.Ge = i.Joins o.Ge
infix_of s.ShiftLeft = i.Joins o.Shl
infix_of s.ShiftRight = i.Joins o.Shr
infix_of s.Plus = i.Joins o.Add
infix_of s.Minus = i.Joins o.Sub
infix_of s.Star = i.Joins o.Mul
infix_of s.Slash = i.Joins o.Div
infix_of s.Percent = i.Joins o.Rem
infix_of s.Is = i.Tests
infix_of s.Dot = i.Opens
infix_of s.OpenParen = i.Opens
infix_of s.OpenBracket = i.Opens
infix_of _ = i.Ends

-- the level of an operator: the greater, the tighter. `is` has level 8, and an operand 12
abbrev pub level : PairOp → ℕ
level o.Either = 1
level o.Both = 2
level o.Or = 3
level o.Xor = 4
level o.And = 5
level o.Eq = 6
level o.Ne = 6
level o.Lt = 7
level o.Le = 7
level o.Gt = 7
level o.Ge = 7
level o.Shl = 9
level o.Shr = 9
level o.Add = 10
level o.Sub = 10
level o.Mul = 11
level o.Div = 11
level o.Rem = 11

-- what a symbol begins where an operand is wanted
abbrev pub opening_of : Symbol → Opening
opening_of s.Minus = b.Signs p.Minus
opening_of s.Bang = b.Signs p.Not
opening_of s.Tilde = b.Signs p.Flip
opening_of s.OpenParen = b.Parens
opening_of s.Number = b.Counts
opening_of s.True = b.Says true
opening_of s.False = b.Says false
opening_of s.TypeName = b.Classes
opening_of s.Name = b.Names
opening_of s.Own = b.Owns
opening_of _ = b.Nothing

-- what a symbol does with a place on its left
abbrev pub assigning_of : Symbol → Assigning
assigning_of s.Set = a.Assigns None
assigning_of s.SetPlus = a.Assigns (Some o.Add)
assigning_of s.SetMinus = a.Assigns (Some o.Sub)
assigning_of s.SetStar = a.Assigns (Some o.Mul)
assigning_of s.SetSlash = a.Assigns (Some o.Div)
assigning_of s.SetPercent = a.Assigns (Some o.Rem)
assigning_of s.SetAmp = a.Assigns (Some o.And)
assigning_of s.SetBar = a.Assigns (Some o.Or)
assigning_of s.SetCaret = a.Assigns (Some o.Xor)
assigning_of s.SetShiftLeft = a.Assigns (Some o.Shl)
assigning_of s.SetShiftRight = a.Assigns (Some o.Shr)
assigning_of s.PlusPlus = a.Counts true
assigning_of s.MinusMinus = a.Counts false
assigning_of _ = a.Nothing

-- what a symbol begins where a statement is wanted
abbrev pub starting_of : Symbol → Starting
starting_of s.OpenBrace = t.Block
starting_of s.Semi = t.Empty
starting_of s.If = t.If
starting_of s.While = t.While
starting_of s.For = t.For
starting_of s.Return = t.Return
starting_of s.Break = t.Break
starting_of s.Continue = t.Continue
starting_of s.TypeName = t.Declare
starting_of s.Name = t.Simple
starting_of s.Own = t.Simple
starting_of s.PlusPlus = t.Simple
starting_of s.MinusMinus = t.Simple
starting_of _ = t.Nothing
