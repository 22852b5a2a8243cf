-- What the constructors of trees give, by the vectors and boxes that they take.
use Rattle.std.proofs.Common.{◌≡◌, refl, ap, ◌∙◌, Vec, Global}
use Rattle.std.specs.Prelude.{Option, Some, None, option_map}
use Rattle.std.specs.Global.{Box}
use Rattle.std.specs.Box.{box_value}
use Rattle.ulam_tree.specs.Raw.{arg, calls, then_so, block, if_so, for_all}
use Rattle.ulam_tree.specs.RawViews.{path_of, expr_of, args_of, args_list, cond_of, statement_of, body_of, body_list, part_alone}
use Rattle.ulam_tree.specs.declared.raw.Path.{Path}
use Rattle.ulam_tree.specs.declared.raw.Cond.{Cond}
use Rattle.ulam_tree.specs.declared.raw.Expr.{Expr, Call', Row_of-Expr, end_of-Expr, more_of-Expr, items-the_row-Expr, items_hidden-the_row-Expr-0}
use Rattle.ulam_tree.specs.declared.raw.Expr.TheVariants.{Call}
use Rattle.ulam_tree.specs.declared.raw.Statement.{Statement, Block', Row_of-Statement, end_of-Statement, more_of-Statement, items-the_row-Statement, items_hidden-the_row-Statement-0}
use Rattle.ulam_tree.specs.declared.raw.Statement.TheVariants.{Block, If, For}

args_row : (n : _) (row : Row_of-Expr n) → args_of row ≡ args_list (items-the_row-Expr n row)
args_row n end_of-Expr = refl
args_row n (more_of-Expr e rest) = ap (arg (expr_of e)) (args_row _ rest)

-- the row of arguments in a call
abbrev args_in : Expr → (n : _) × Row_of-Expr n
args_in (Call' p shape es) = (_, es)
args_in _ = (_, end_of-Expr)

pub call_is : (p : Path) (es : Vec Expr Global) → expr_of (Call (record { path = p; args = es })) ≡ calls (path_of p) (args_list es.items)
call_is p es =
    let row = args_in (Call (record { path = p; args = es })) in
    ap (calls (path_of p)) (args_row row.0 row.1 ∙ ap args_list (items_hidden-the_row-Expr-0 es))

body_row : (n : _) (row : Row_of-Statement n) → body_of row ≡ body_list (items-the_row-Statement n row)
body_row n end_of-Statement = refl
body_row n (more_of-Statement x rest) = ap (then_so (statement_of x)) (body_row _ rest)

-- the row of statements in a block
abbrev body_in : Statement → (n : _) × Row_of-Statement n
body_in (Block' shape xs) = (_, xs)
body_in _ = (_, end_of-Statement)

pub block_is : (xs : Vec Statement Global) → statement_of (Block xs) ≡ block (body_list xs.items)
block_is xs =
    let row = body_in (Block xs) in
    ap block (body_row row.0 row.1 ∙ ap body_list (items_hidden-the_row-Statement-0 xs))

pub if_is : (c : Cond) (x : Box Statement) (y : Option (Box Statement)) → statement_of (If c x y) ≡ if_so (cond_of c) (statement_of (box_value x)) (part_alone y)
if_is c x None = refl
if_is c x (Some y) = refl

pub for_is : (f : Option (Box Statement)) (c : Option Expr) (g : Option (Box Statement)) (x : Box Statement) →
    statement_of (For f c g x) ≡ for_all (part_alone f) (option_map expr_of c) (part_alone g) (statement_of (box_value x))
for_is None c None x = refl
for_is None c (Some g) x = refl
for_is (Some f) c None x = refl
for_is (Some f) c (Some g) x = refl
