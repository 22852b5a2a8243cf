-- The grammar: which tokens are which tree.
use Rattle.std.specs.Prelude.{ℕ, ◌+◌, ◌≤◌, ◌≡◌, ◌⊎◌, List, [], ◌∷◌, ◌++◌, Option, Some, None, Bool, true, false}
use Rattle.feast_base.specs.declared.place.Place.{Place}
use Rattle.ulam_tree.specs.declared.op.PrefixOp.{PrefixOp}
use Rattle.ulam_tree.specs.declared.op.PairOp.{PairOp}
use Rattle.ulam_tree.specs.Raw.{Word, Width, wide, wide_as, TypeRef, Path, Expr, number, truth, reads, calls, index, instance, group, cast, prefix, pair, is, Args, no_args, arg, Cond, seen, test, Left, Statement, block, empty, if_so, while_so, for_all, returns, breaks, continues, declares, assigns, counts, does, Part, no_part, part, Body, no_more, then_so, Param, Const, const_number, const_truth, const_named, Member, typedef, constant, field, function, Class, Item, ulam, uses, class}
use Rattle.ulam_parse.specs.declared.symbol.Symbol.{Symbol}
use Rattle.ulam_parse.specs.declared.symbol.Symbol.TheVariants as s
use Rattle.ulam_parse.specs.declared.symbol.Infix.TheVariants as i
use Rattle.ulam_parse.specs.declared.symbol.Opening.TheVariants as b
use Rattle.ulam_parse.specs.declared.symbol.Assigning.TheVariants as a
use Rattle.ulam_parse.specs.Tokens.{Text, Tok, tok, value_of, unsigned_of}
use Rattle.ulam_parse.specs.Tables.{infix_of, level, opening_of, assigning_of}

-- A form that tokens may have, as a relation of two lists of tokens: the second is what is left of the first after tokens of that form.
abbrev pub Span : Type 1
Span = List Tok → List Tok → Type 0

infixr 5 ◌⟫◌
-- the one, and directly after it the other
abbrev pub ◌⟫◌ : Span → Span → Span
P ⟫ Q = λ us rest. (mid : List Tok) × P us mid × Q mid rest

-- no token
abbrev pub Here : Span
Here us rest = us ≡ rest

-- no tokens have this form
abbrev pub Never : Span
Never us rest = ⊥

-- one token of this symbol, with this text, at this place
abbrev pub TakesWord : Symbol → Word → Span
TakesWord k w us rest = us ≡ tok k w.name w.place ∷ rest

-- one token of this symbol
abbrev pub Takes : Symbol → Span
Takes k us rest = (w : Word) × TakesWord k w us rest

-- one token of this symbol, at this place
abbrev pub TakesAt : Symbol → Place → Span
TakesAt k p us rest = (w : Text) × (us ≡ tok k w p ∷ rest)

-- a number, and whether `u` follows it
abbrev pub TakesNumber : ℕ → Bool → Place → Span
TakesNumber v u p us rest = (w : Text) × (us ≡ tok s.Number w p ∷ rest) × (value_of w ≡ v) × (unsigned_of w ≡ u)

-- `true` or `false`
abbrev pub TakesTruth : Bool → Place → Span
TakesTruth v p us rest = (k : Symbol) × TakesAt k p us rest × (opening_of k ≡ b.Says v)

-- an operator before its operand
abbrev pub TakesPrefix : PrefixOp → Place → Span
TakesPrefix op p us rest = (k : Symbol) × TakesAt k p us rest × (opening_of k ≡ b.Signs op)

-- an operator between its operands
abbrev pub TakesPair : PairOp → Place → Span
TakesPair op p us rest = (k : Symbol) × TakesAt k p us rest × (infix_of k ≡ i.Joins op)

-- `=`, or an operator and `=`
abbrev pub TakesAssign : Option PairOp → Span
TakesAssign op us rest = (k : Symbol) × Takes k us rest × (assigning_of k ≡ a.Assigns op)

-- `++` or `--`
abbrev pub TakesCount : Bool → Span
TakesCount up us rest = (k : Symbol) × Takes k us rest × (assigning_of k ≡ a.Counts up)

-- a width is a number, with `u` or without, or a name
abbrev pub IsWidth : Width → Span
IsWidth (wide n) = λ us rest. (u : Bool) × (p : Place) × TakesNumber n u p us rest
IsWidth (wide_as w) = TakesWord s.Name w

-- a width in round brackets, or nothing
abbrev pub IsSize : Option Width → Span
IsSize None = Here
IsSize (Some d) = Takes s.OpenParen ⟫ IsWidth d ⟫ Takes s.CloseParen

abbrev pub IsType : TypeRef → Span
IsType ty = TakesWord s.TypeName ty.word ⟫ IsSize ty.width

-- names, with a dot before each
abbrev pub AreDotted : List Word → Span
AreDotted [] = Here
AreDotted (w ∷ ws) = Takes s.Dot ⟫ TakesWord s.Name w ⟫ AreDotted ws

-- `self` or a name, and then names with a dot before each
abbrev pub IsPathOf : Option Place → List Word → Span
IsPathOf (Some p) ws = TakesAt s.Own p ⟫ AreDotted ws
IsPathOf None [] = Never
IsPathOf None (w ∷ ws) = TakesWord s.Name w ⟫ AreDotted ws

abbrev pub IsPath : Path → Span
IsPath x = IsPathOf x.own x.words

-- the form, if its level m is n or tighter
abbrev pub Within : ℕ → ℕ → Span → Span
Within n m P us rest = (n ≤ m) × P us rest

abbrev mutual
  -- An expression whose operators, brackets aside, are of this level or a tighter one. Operators of one level group from the left: the right operand is of a tighter level
  pub IsExpr : ℕ → Expr → Span
  IsExpr n (number v u p) = TakesNumber v u p
  IsExpr n (truth v p) = TakesTruth v p
  IsExpr n (reads x) = IsPath x
  IsExpr n (calls x es) = IsPath x ⟫ Takes s.OpenParen ⟫ AreArgs es
  IsExpr n (index x e) = IsPath x ⟫ Takes s.OpenBracket ⟫ IsExpr 1 e ⟫ Takes s.CloseBracket
  IsExpr n (instance w) = TakesWord s.TypeName w ⟫ Takes s.Dot ⟫ Takes s.Instanceof
  IsExpr n (group e p) = TakesAt s.OpenParen p ⟫ IsExpr 1 e ⟫ Takes s.CloseParen
  IsExpr n (cast ty e p) = TakesAt s.OpenParen p ⟫ IsType ty ⟫ Takes s.CloseParen ⟫ IsExpr 12 e
  IsExpr n (prefix op e p) = TakesPrefix op p ⟫ IsExpr 12 e
  IsExpr n (pair op l r p) = Within n (level op) (IsExpr (level op) l ⟫ TakesPair op p ⟫ IsExpr (level op + 1) r)
  IsExpr n (is e w p) = Within n 8 (IsExpr 9 e ⟫ TakesAt s.Is p ⟫ TakesWord s.TypeName w)

  -- arguments and the closing bracket
  pub AreArgs : Args → Span
  AreArgs no_args = Takes s.CloseParen
  AreArgs (arg e es) = IsExpr 1 e ⟫ AreMoreArgs es

  pub AreMoreArgs : Args → Span
  AreMoreArgs no_args = Takes s.CloseParen
  AreMoreArgs (arg e es) = Takes s.Comma ⟫ IsExpr 1 e ⟫ AreMoreArgs es

abbrev pub IsCond : Cond → Span
IsCond (seen w c) = TakesWord s.Name w ⟫ Takes s.As ⟫ TakesWord s.TypeName c
IsCond (test e) = IsExpr 1 e

-- an index in square brackets, or nothing
abbrev pub IsIndex : Option Expr → Span
IsIndex None = Here
IsIndex (Some e) = Takes s.OpenBracket ⟫ IsExpr 1 e ⟫ Takes s.CloseBracket

-- what is assigned to
abbrev pub IsLeftSide : Left → Span
IsLeftSide l = IsPath l.path ⟫ IsIndex l.index

-- an expression, or nothing
abbrev pub IsMaybe : Option Expr → Span
IsMaybe None = Here
IsMaybe (Some e) = IsExpr 1 e

-- `=` and an expression, or nothing
abbrev pub IsStart : Option Expr → Span
IsStart None = Here
IsStart (Some e) = Takes s.Set ⟫ IsExpr 1 e

-- an assignment, a count or a call, without `;`
abbrev pub IsSimple : Statement → Span
IsSimple (assigns l op e) = IsLeftSide l ⟫ TakesAssign op ⟫ IsExpr 1 e
IsSimple (counts l up) = λ us rest. (IsLeftSide l ⟫ TakesCount up) us rest ⊎ (TakesCount up ⟫ IsLeftSide l) us rest
IsSimple (does x es) = IsPath x ⟫ Takes s.OpenParen ⟫ AreArgs es
IsSimple _ = Never

-- the declaration of a local, without `;`
abbrev pub IsDeclare : Statement → Span
IsDeclare (declares ty w e) = IsType ty ⟫ TakesWord s.Name w ⟫ IsStart e
IsDeclare _ = Never

-- what a `for` does first
abbrev pub IsFirst : Part → Span
IsFirst no_part = Here
IsFirst (part x) = λ us rest. IsDeclare x us rest ⊎ IsSimple x us rest

-- what a `for` does after each turn
abbrev pub IsStep : Part → Span
IsStep no_part = Here
IsStep (part x) = IsSimple x

abbrev mutual
  -- it ends in an `if` without `else`
  pub ends_open : Statement → Bool
  ends_open (if_so c x y) = part_open y
  ends_open (while_so e x) = ends_open x
  ends_open (for_all f e g x) = ends_open x
  ends_open _ = false

  -- an `if` ends so if it has no `else`, or if the statement after its `else` ends so
  pub part_open : Part → Bool
  part_open no_part = true
  part_open (part x) = ends_open x

abbrev mutual
  pub IsStatement : Statement → Span
  IsStatement (block b) = Takes s.OpenBrace ⟫ IsBody b
  IsStatement empty = Takes s.Semi
  IsStatement (if_so c x y) = Takes s.If ⟫ Takes s.OpenParen ⟫ IsCond c ⟫ Takes s.CloseParen ⟫ IsStatement x ⟫ IsElse (ends_open x) y
  IsStatement (while_so e x) = Takes s.While ⟫ Takes s.OpenParen ⟫ IsExpr 1 e ⟫ Takes s.CloseParen ⟫ IsStatement x
  IsStatement (for_all f e g x) =
      Takes s.For ⟫ Takes s.OpenParen ⟫ IsFirst f ⟫ Takes s.Semi ⟫ IsMaybe e ⟫ Takes s.Semi ⟫ IsStep g ⟫ Takes s.CloseParen ⟫ IsStatement x
  IsStatement (returns p e) = TakesAt s.Return p ⟫ IsMaybe e ⟫ Takes s.Semi
  IsStatement (breaks p) = TakesAt s.Break p ⟫ Takes s.Semi
  IsStatement (continues p) = TakesAt s.Continue p ⟫ Takes s.Semi
  IsStatement (declares ty w e) = IsDeclare (declares ty w e) ⟫ Takes s.Semi
  IsStatement (assigns l op e) = IsSimple (assigns l op e) ⟫ Takes s.Semi
  IsStatement (counts l up) = IsSimple (counts l up) ⟫ Takes s.Semi
  IsStatement (does x es) = IsSimple (does x es) ⟫ Takes s.Semi

  -- `else` and a statement may follow a statement that does not end in an `if` without `else`
  pub IsElse : Bool → Part → Span
  IsElse o no_part = Here
  IsElse o (part y) = λ us rest. (o ≡ false) × (Takes s.Else ⟫ IsStatement y) us rest

  -- statements and the closing brace
  pub IsBody : Body → Span
  IsBody no_more = Takes s.CloseBrace
  IsBody (then_so x b) = IsStatement x ⟫ IsBody b

abbrev pub IsParam : Param → Span
IsParam x = IsType x.of ⟫ TakesWord s.Name x.word

abbrev pub AreMoreParams : List Param → Span
AreMoreParams [] = Takes s.CloseParen
AreMoreParams (x ∷ xs) = Takes s.Comma ⟫ IsParam x ⟫ AreMoreParams xs

-- parameters and the closing bracket
abbrev pub AreParams : List Param → Span
AreParams [] = Takes s.CloseParen
AreParams (x ∷ xs) = IsParam x ⟫ AreMoreParams xs

abbrev pub IsConst : Const → Span
IsConst (const_number true v u) = Takes s.Minus ⟫ (λ us rest. (p : Place) × TakesNumber v u p us rest)
IsConst (const_number false v u) = λ us rest. (p : Place) × TakesNumber v u p us rest
IsConst (const_truth v) = λ us rest. (p : Place) × TakesTruth v p us rest
IsConst (const_named w) = TakesWord s.Name w

-- the length of an array in square brackets, or nothing
abbrev pub IsLength : Option Width → Span
IsLength None = Here
IsLength (Some d) = Takes s.OpenBracket ⟫ IsWidth d ⟫ Takes s.CloseBracket

abbrev pub IsMember : Member → Span
IsMember (typedef ty w) = Takes s.Typedef ⟫ IsType ty ⟫ TakesWord s.TypeName w ⟫ Takes s.Semi
IsMember (constant ty w v) = Takes s.Constant ⟫ IsType ty ⟫ TakesWord s.Name w ⟫ Takes s.Set ⟫ IsConst v ⟫ Takes s.Semi
IsMember (field ty w l) = IsType ty ⟫ TakesWord s.Name w ⟫ IsLength l ⟫ Takes s.Semi
IsMember (function ty w ps body) = IsType ty ⟫ TakesWord s.Name w ⟫ Takes s.OpenParen ⟫ AreParams ps ⟫ Takes s.OpenBrace ⟫ IsBody body

-- members and the closing brace
abbrev pub AreMembers : List Member → Span
AreMembers [] = Takes s.CloseBrace
AreMembers (x ∷ xs) = IsMember x ⟫ AreMembers xs

abbrev pub class_symbol : Bool → Symbol
class_symbol true = s.Quark
class_symbol false = s.Element

abbrev pub IsClass : Class → Span
IsClass x = Takes (class_symbol x.quark) ⟫ TakesWord s.TypeName x.word ⟫ Takes s.OpenBrace ⟫ AreMembers x.members

abbrev pub IsItem : Item → Span
IsItem (ulam n) = Takes s.Ulam ⟫ (λ us rest. (u : Bool) × (p : Place) × TakesNumber n u p us rest) ⟫ Takes s.Semi
IsItem (uses w) = Takes s.Use ⟫ TakesWord s.TypeName w ⟫ Takes s.Semi
IsItem (class x) = IsClass x

abbrev pub AreItems : List Item → Span
AreItems [] = Here
AreItems (x ∷ xs) = IsItem x ⟫ AreItems xs

-- These tokens are a file of these items: the items, and `End`.
abbrev pub IsFile : List Item → List Tok → Type 0
IsFile xs us = (AreItems xs ⟫ Takes s.End) us []

-- These tokens are a prefix of a file.
abbrev pub Begins : List Tok → Type 0
Begins front = (xs : List Item) × (more : List Tok) × IsFile xs (front ++ more)
