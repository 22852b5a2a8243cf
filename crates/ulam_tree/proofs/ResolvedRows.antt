-- What the constructors of trees whose names are looked up give, by the vectors and boxes that they take.
use Rattle.std.proofs.Common.{◌≡◌, refl, ap, ◌∙◌, Vec, Global}
use Rattle.std.specs.Prelude.{Option, Some, None, option_map}
use Rattle.std.specs.Global.{Box}
use Rattle.std.specs.Box.{box_value}
use Rattle.ulam_tree.specs.Resolved.{arg, calls, then_so, block, if_so, for_all}
use Rattle.ulam_tree.specs.ResolvedViews as v
use Rattle.ulam_tree.specs.declared.resolved.Path.{Path}
use Rattle.ulam_tree.specs.declared.resolved.Cond.{Cond}
use Rattle.ulam_tree.specs.declared.resolved.Expr.{Expr, Call', Row_of-Expr, end_of-Expr, more_of-Expr, items-the_row-Expr, items_hidden-the_row-Expr-0}
use Rattle.ulam_tree.specs.declared.resolved.Expr.TheVariants.{Call}
use Rattle.ulam_tree.specs.declared.resolved.Statement.{Statement, Block', Row_of-Statement, end_of-Statement, more_of-Statement, items-the_row-Statement, items_hidden-the_row-Statement-0}
use Rattle.ulam_tree.specs.declared.resolved.Statement.TheVariants.{Block, If, For}

args_row_is : (n : _) (row : Row_of-Expr n) → v.args_row row ≡ v.resolved_args (items-the_row-Expr n row)
args_row_is n end_of-Expr = refl
args_row_is n (more_of-Expr e rest) = ap (arg (v.resolved_expr e)) (args_row_is _ rest)

-- the row of arguments in a call
abbrev args_in : Expr → (n : _) × Row_of-Expr n
args_in (Call' p shape es) = (_, es)
args_in _ = (_, end_of-Expr)

pub resolved_call_is : (p : Path) (es : Vec Expr Global) → v.resolved_expr (Call (record { path = p; args = es })) ≡ calls (v.resolved_path p) (v.resolved_args es.items)
resolved_call_is p es =
    let row = args_in (Call (record { path = p; args = es })) in
    ap (calls (v.resolved_path p)) (args_row_is row.0 row.1 ∙ ap v.resolved_args (items_hidden-the_row-Expr-0 es))

body_row_is : (n : _) (row : Row_of-Statement n) → v.body_row row ≡ v.resolved_body (items-the_row-Statement n row)
body_row_is n end_of-Statement = refl
body_row_is n (more_of-Statement x rest) = ap (then_so (v.resolved_statement x)) (body_row_is _ rest)

-- the row of statements in a block
abbrev body_in : Statement → (n : _) × Row_of-Statement n
body_in (Block' shape xs) = (_, xs)
body_in _ = (_, end_of-Statement)

pub resolved_block_is : (xs : Vec Statement Global) → v.resolved_statement (Block xs) ≡ block (v.resolved_body xs.items)
resolved_block_is xs =
    let row = body_in (Block xs) in
    ap block (body_row_is row.0 row.1 ∙ ap v.resolved_body (items_hidden-the_row-Statement-0 xs))

pub resolved_if_is : (c : Cond) (x : Box Statement) (y : Option (Box Statement)) → v.resolved_statement (If c x y) ≡ if_so (v.resolved_cond c) (v.resolved_statement (box_value x)) (v.resolved_part y)
resolved_if_is c x None = refl
resolved_if_is c x (Some y) = refl

pub resolved_for_is : (f : Option (Box Statement)) (c : Option Expr) (g : Option (Box Statement)) (x : Box Statement) →
    v.resolved_statement (For f c g x) ≡ for_all (v.resolved_part f) (option_map v.resolved_expr c) (v.resolved_part g) (v.resolved_statement (box_value x))
resolved_for_is None c None x = refl
resolved_for_is None c (Some g) x = refl
resolved_for_is (Some f) c None x = refl
resolved_for_is (Some f) c (Some g) x = refl
