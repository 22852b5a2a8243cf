-- The trees whose names are looked up, as plain ones.
use Rattle.std.specs.Prelude.{ℕ, Bool}
use Rattle.feast_base.specs.declared.place.Place.{Place}
use Rattle.ulam_tree.specs.declared.op.PrefixOp.{PrefixOp}
use Rattle.ulam_tree.specs.declared.op.PairOp.{PairOp}
use Rattle.ulam_tree.specs.declared.resolved.Named.{Named}
use Rattle.ulam_tree.specs.Statements as s
pub use Rattle.ulam_tree.specs.Statements.{Path, Param, seen, test, block, empty, if_so, while_so, for_all, returns, breaks, continues, declares, assigns, counts, does, no_part, part, no_more, then_so, field, function}

mutual
  -- an expression. A place is that of the operator, and where there is none that of the first token
  pub data Expr : Type 0 where
    number : ℕ → Bool → Place → Expr
    truth : Bool → Place → Expr
    reads : Path → Expr
    calls : Path → Args → Expr
    index : Path → Expr → Expr
    instance : Named → Expr
    group : Expr → Place → Expr
    cast : Named → Expr → Place → Expr
    prefix : PrefixOp → Expr → Place → Expr
    pair : PairOp → Expr → Expr → Place → Expr
    is : Expr → Named → Place → Expr

  -- arguments
  pub data Args : Type 0 where
    no_args : Args
    arg : Expr → Args → Args

abbrev pub Left : Type 0
Left = s.Left Expr

abbrev pub Cond : Type 0
Cond = s.Cond Expr

abbrev pub Statement : Type 0
Statement = s.Statement Expr Args

abbrev pub Part : Type 0
Part = s.Part Expr Args

abbrev pub Body : Type 0
Body = s.Body Expr Args

abbrev pub Member : Type 0
Member = s.Member Expr Args

abbrev pub Class : Type 0
Class = s.Class Expr Args
