-- The results of functions, as trees, and whether they are what the walk finds.
use Rattle.std.specs.Prelude.{List, map, Option, option_map, Result}
use Rattle.std.specs.Global.{Box, Vec}
use Rattle.sat_math.specs.declared.Kind.{Kind}
use Rattle.ulam_tree.specs.declared.resolved.Ty.{Ty}
use Rattle.ulam_tree.specs.declared.resolved.Expr.{Expr as RawExpr}
use Rattle.ulam_tree.specs.declared.resolved.Call.{Call as RawCall}
use Rattle.ulam_tree.specs.declared.typed.Expr.{Expr}
use Rattle.ulam_tree.specs.declared.typed.Left.{Left}
use Rattle.ulam_tree.specs.declared.typed.Cond.{Cond}
use Rattle.ulam_tree.specs.declared.typed.Statement.{Statement}
use Rattle.ulam_tree.specs.declared.typed.Member.{Member}
use Rattle.ulam_tree.specs.declared.typed.Class.{Class}
use Rattle.ulam_tree.specs.Resolved as r
use Rattle.ulam_tree.specs.Typed as t
use Rattle.ulam_tree.specs.ResolvedViews.{resolved_path, resolved_expr, resolved_args}
use Rattle.ulam_tree.specs.TypedViews.{typed_expr, boxed_expr, typed_args, typed_left, typed_cond, typed_statement, boxed_statement, typed_body, typed_member, typed_class}
use Rattle.ulam_types.specs.declared.fault.TypeFault.{TypeFault}
use Rattle.ulam_types.specs.declared.scope.Scope.{Scope}
use Rattle.type_rules.specs.Walk.{expr}
use Rattle.type_rules.specs.Bodies.{branch, statement}
use Rattle.ulam_types.specs.Shown.{here, Gives}

-- What the code has, as trees

-- a resolved expression, if there is one
abbrev pub resolved_maybe : Option RawExpr → Option r.Expr
resolved_maybe e = option_map resolved_expr e

-- a resolved call as a statement
abbrev pub resolved_does : RawCall → r.Statement
resolved_does c = r.does (resolved_path c.path) (resolved_args c.args.items)

-- a typed expression, if there is one
abbrev pub maybe_view : Option Expr → Option t.Expr
maybe_view e = option_map typed_expr e

abbrev pub args_view : Vec Expr → t.Args
args_view es = typed_args es.items

-- the arguments of a call, and the type of the call
abbrev pub call_view : Vec Expr × Ty → t.Args × Ty
call_view c = (args_view c.0, c.1)

-- an index in square brackets, and the type of what stands at it
abbrev pub item_view : Box Expr × Ty → t.Expr × Ty
item_view i = (boxed_expr i.0, i.1)

-- a left side, and its type
abbrev pub left_view : Left × Ty → t.Left × Ty
left_view l = (typed_left l.0, l.1)

-- the condition of an `if`, and its first branch
abbrev pub branch_view : Cond × Box Statement → t.Cond × t.Statement
branch_view b = (typed_cond b.0, boxed_statement b.1)

abbrev pub body_view : Vec Statement → t.Body
body_view xs = typed_body xs.items

abbrev pub members_view : Vec Member → List t.Member
members_view ms = map typed_member ms.items

abbrev pub classes_view : Vec Class → List t.Class
classes_view cs = map typed_class cs.items

-- What the walk finds

-- a function gives what the walk finds here for an expression, where a plain number takes the kind `want`
abbrev pub GivesExpr : Result Expr TypeFault → Scope → Kind → r.Expr → Type 0
GivesExpr result scope want raw = Gives typed_expr result (expr (here scope) want raw)

-- a function gives what the walk finds here for a statement
abbrev pub GivesStatement : Result Statement TypeFault → Scope → r.Statement → Type 0
GivesStatement result scope raw = Gives typed_statement result (statement (here scope) raw)

-- a function gives what the walk finds here for the condition of an `if` and its first branch
abbrev pub GivesBranch : Result (Cond × Box Statement) TypeFault → Scope → r.Cond → r.Statement → Type 0
GivesBranch result scope cond first = Gives branch_view result (branch (here scope) cond (λ h. statement h first))
