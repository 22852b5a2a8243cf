-- Statements, members and classes over expressions E and lists of arguments A: trees whose names are looked up, before and after types are known, differ in these alone. A list of trees inside a tree is a type of its own.
use Rattle.std.specs.Prelude.{ℕ, List, Option, Bool}
use Rattle.feast_base.specs.declared.place.Place.{Place}
use Rattle.ulam_tree.specs.declared.op.PairOp.{PairOp}
use Rattle.ulam_tree.specs.declared.resolved.Named.{Named}
use Rattle.ulam_tree.specs.declared.resolved.Step.{Step}
use Rattle.ulam_tree.specs.Raw.{Word}

-- what names with dots between mean, and where the first one stands
pub record Path : Type 0 where
  pub place : Place
  pub steps : List Step

-- what is assigned to, with its index
pub record Left (E : Type 0) : Type 0 where
  pub path : Path
  pub index : Option E

-- what an `if` asks: a name `as` a class, or an expression
pub data Cond (E : Type 0) : Type 0 where
  seen : Path → Named → Cond E
  test : E → Cond E

mutual
  -- A statement. `declares` has the slot of its local and the place of its name; `counts` is true for `++`; `assigns` has no operator for `=`; `for_all` has its first statement, its condition, its step and its body
  pub data Statement (E A : Type 0) : Type 0 where
    block : Body E A → Statement E A
    empty : Statement E A
    if_so : Cond E → Statement E A → Part E A → Statement E A
    while_so : E → Statement E A → Statement E A
    for_all : Part E A → Option E → Part E A → Statement E A → Statement E A
    returns : Place → Option E → Statement E A
    breaks : Place → Statement E A
    continues : Place → Statement E A
    declares : Named → ℕ → Place → Option E → Statement E A
    assigns : Left E → Option PairOp → E → Statement E A
    counts : Left E → Bool → Statement E A
    does : Path → A → Statement E A

  -- an optional statement
  pub data Part (E A : Type 0) : Type 0 where
    no_part : Part E A
    part : Statement E A → Part E A

  -- statements
  pub data Body (E A : Type 0) : Type 0 where
    no_more : Body E A
    then_so : Statement E A → Body E A → Body E A

-- a parameter
pub record Param : Type 0 where
  pub of : Named
  pub word : Word

-- A data member or a function. A field has the length of its array, 0 where it is none
pub data Member (E A : Type 0) : Type 0 where
  field : Named → Word → ℕ → Member E A
  function : Named → Word → List Param → Body E A → Member E A

-- an element or a quark
pub record Class (E A : Type 0) : Type 0 where
  pub quark : Bool
  pub word : Word
  pub members : List (Member E A)
