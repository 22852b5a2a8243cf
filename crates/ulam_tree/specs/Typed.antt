-- The trees whose types are known, as plain ones.
use Rattle.std.specs.Prelude.{ℕ, Bool, not}
use Rattle.feast_base.specs.declared.place.Place.{Place}
use Rattle.ulam_tree.specs.declared.op.PrefixOp.{PrefixOp}
use Rattle.ulam_tree.specs.declared.op.PairOp.{PairOp}
use Rattle.ulam_tree.specs.declared.resolved.Named.{Named}
use Rattle.ulam_tree.specs.declared.resolved.Ty.{Ty}
use Rattle.ulam_tree.specs.Statements as s
pub use Rattle.ulam_tree.specs.Statements.{Path, Param, seen, test, block, empty, if_so, while_so, for_all, returns, breaks, continues, declares, assigns, counts, does, no_part, part, no_more, then_so, field, function}

mutual
  -- an expression: what it consists of, and its type
  pub data Expr : Type 0 where
    typed : Form → Ty → Expr

  -- A place is that of the operator, and where there is none that of the first token
  pub data Form : Type 0 where
    number : ℕ → Bool → Place → Form
    truth : Bool → Place → Form
    reads : Path → Form
    calls : Path → Args → Form
    index : Path → Expr → Form
    instance : Named → Form
    group : Expr → Place → Form
    cast : Named → Expr → Place → Form
    prefix : PrefixOp → Expr → Place → Form
    pair : PairOp → Expr → Expr → Place → Form
    is : Expr → Named → Place → Form

  -- arguments
  pub data Args : Type 0 where
    no_args : Args
    arg : Expr → Args → Args

abbrev pub ty_of : Expr → Ty
ty_of (typed f ty) = ty

-- a number without `u`, in any number of brackets
abbrev mutual
  pub plain_form : Form → Bool
  plain_form (number v u p) = not u
  plain_form (group e p) = plain e
  plain_form f = Bool.false

  pub plain : Expr → Bool
  plain (typed f ty) = plain_form f

abbrev pub Left : Type 0
Left = s.Left Expr

abbrev pub Cond : Type 0
Cond = s.Cond Expr

abbrev pub Statement : Type 0
Statement = s.Statement Expr Args

abbrev pub Part : Type 0
Part = s.Part Expr Args

abbrev pub Body : Type 0
Body = s.Body Expr Args

abbrev pub Member : Type 0
Member = s.Member Expr Args

abbrev pub Class : Type 0
Class = s.Class Expr Args
