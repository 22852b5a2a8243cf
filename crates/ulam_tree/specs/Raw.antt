-- The trees that the parser gives, as plain ones: lists, and no boxes. A list of trees inside a tree is a type of its own.
use Rattle.std.specs.Prelude.{ℕ, List, Option, Bool}
use Rattle.feast_base.specs.declared.place.Place.{Place}
use Rattle.ulam_tree.specs.declared.op.PrefixOp.{PrefixOp}
use Rattle.ulam_tree.specs.declared.op.PairOp.{PairOp}

-- a name and where it stands
pub record Word : Type 0 where
  pub name : List ℕ
  pub place : Place

-- a number of bits, or the length of an array: a number, or a constant
pub data Width : Type 0 where
  wide : ℕ → Width
  wide_as : Word → Width

-- a type by its name, and the width in brackets after it
pub record TypeRef : Type 0 where
  pub word : Word
  pub width : Option Width

-- the place of `self` where the path begins with it, and its names
pub record Path : Type 0 where
  pub own : Option Place
  pub words : List Word

mutual
  -- an expression. A place is that of the operator, and where there is none that of the first token
  pub data Expr : Type 0 where
    number : ℕ → Bool → Place → Expr
    truth : Bool → Place → Expr
    reads : Path → Expr
    calls : Path → Args → Expr
    index : Path → Expr → Expr
    instance : Word → Expr
    group : Expr → Place → Expr
    cast : TypeRef → Expr → Place → Expr
    prefix : PrefixOp → Expr → Place → Expr
    pair : PairOp → Expr → Expr → Place → Expr
    is : Expr → Word → Place → Expr

  -- arguments
  pub data Args : Type 0 where
    no_args : Args
    arg : Expr → Args → Args

-- what an `if` asks: a name `as` a class, or an expression
pub data Cond : Type 0 where
  seen : Word → Word → Cond
  test : Expr → Cond

-- what is assigned to, with its index
pub record Left : Type 0 where
  pub path : Path
  pub index : Option Expr

mutual
  -- A statement. `counts` is true for `++`; `assigns` has no operator for `=`; `for_all` has its first statement, its condition, its step and its body
  pub data Statement : Type 0 where
    block : Body → Statement
    empty : Statement
    if_so : Cond → Statement → Part → Statement
    while_so : Expr → Statement → Statement
    for_all : Part → Option Expr → Part → Statement → Statement
    returns : Place → Option Expr → Statement
    breaks : Place → Statement
    continues : Place → Statement
    declares : TypeRef → Word → Option Expr → Statement
    assigns : Left → Option PairOp → Expr → Statement
    counts : Left → Bool → Statement
    does : Path → Args → Statement

  -- an optional statement
  pub data Part : Type 0 where
    no_part : Part
    part : Statement → Part

  -- statements
  pub data Body : Type 0 where
    no_more : Body
    then_so : Statement → Body → Body

-- a parameter
pub record Param : Type 0 where
  pub of : TypeRef
  pub word : Word

-- what a constant is declared to be. A number has its sign, true for `-`, its value, and whether `u` follows
pub data Const : Type 0 where
  const_number : Bool → ℕ → Bool → Const
  const_truth : Bool → Const
  const_named : Word → Const

-- a declaration in a class. A field has the length of its array
pub data Member : Type 0 where
  typedef : TypeRef → Word → Member
  constant : TypeRef → Word → Const → Member
  field : TypeRef → Word → Option Width → Member
  function : TypeRef → Word → List Param → Body → Member

-- an element or a quark
pub record Class : Type 0 where
  pub quark : Bool
  pub word : Word
  pub members : List Member

-- a part of a file
pub data Item : Type 0 where
  ulam : ℕ → Item
  uses : Word → Item
  class : Class → Item
