-- What the constructors of trees whose types are known give, by the vectors and boxes that they take.
use Rattle.std.proofs.Common.{◌≡◌, refl, ap, ◌∙◌, Vec, Global}
use Rattle.std.specs.Prelude.{Option, Some, None, option_map}
use Rattle.std.specs.Global.{Box}
use Rattle.std.specs.Box.{box_value}
use Rattle.ulam_tree.specs.Typed.{typed, arg, calls, does, then_so, block, if_so, for_all}
use Rattle.ulam_tree.specs.ResolvedViews.{resolved_path}
use Rattle.ulam_tree.specs.TypedViews as v
use Rattle.ulam_tree.specs.declared.resolved.Path.{Path}
use Rattle.ulam_tree.specs.declared.typed.Cond.{Cond}
use Rattle.ulam_tree.specs.declared.typed.Expr.{Expr}
use Rattle.ulam_tree.specs.declared.typed.Call as c
use Rattle.ulam_tree.specs.declared.typed.Form.TheViews.{roll-Call}
use Rattle.ulam_tree.specs.declared.typed.Statement.{Statement, Block', Row_of-Statement, end_of-Statement, more_of-Statement, items-the_row-Statement, items_hidden-the_row-Statement-0}
use Rattle.ulam_tree.specs.declared.typed.Statement.TheVariants.{Block, If, For}

args_row_is : (n : _) (row : c.Row_of-Expr n) → v.args_row row ≡ v.typed_args (c.items-the_row-Expr n row)
args_row_is n c.end_of-Expr = refl
args_row_is n (c.more_of-Expr f ty rest) = ap (arg (typed (v.typed_form f) ty)) (args_row_is _ rest)

-- the row of arguments in a call
abbrev args_in : c.Call → (n : _) × c.Row_of-Expr n
args_in (c.Call' p shape es) = (_, es)

pub typed_call_is : (p : Path) (es : Vec Expr Global) → v.typed_call (roll-Call (record { path = p; args = es })) ≡ calls (resolved_path p) (v.typed_args es.items)
unfolding Rattle.ulam_tree.specs.declared.typed.Form.TheBlock.hidden-the_row-Expr-0 c.roll-Call denote.Hole.Carrier.roll
typed_call_is p es =
    let row = args_in (roll-Call (record { path = p; args = es })) in
    ap (calls (resolved_path p)) (args_row_is row.0 row.1 ∙ ap v.typed_args (c.items_hidden-the_row-Expr-0 es))

pub typed_does_is : (p : Path) (es : Vec Expr Global) → v.typed_does (roll-Call (record { path = p; args = es })) ≡ does (resolved_path p) (v.typed_args es.items)
unfolding Rattle.ulam_tree.specs.declared.typed.Form.TheBlock.hidden-the_row-Expr-0 c.roll-Call denote.Hole.Carrier.roll
typed_does_is p es =
    let row = args_in (roll-Call (record { path = p; args = es })) in
    ap (does (resolved_path p)) (args_row_is row.0 row.1 ∙ ap v.typed_args (c.items_hidden-the_row-Expr-0 es))

body_row_is : (n : _) (row : Row_of-Statement n) → v.body_row row ≡ v.typed_body (items-the_row-Statement n row)
body_row_is n end_of-Statement = refl
body_row_is n (more_of-Statement x rest) = ap (then_so (v.typed_statement x)) (body_row_is _ rest)

-- the row of statements in a block
abbrev body_in : Statement → (n : _) × Row_of-Statement n
body_in (Block' shape xs) = (_, xs)
body_in _ = (_, end_of-Statement)

pub typed_block_is : (xs : Vec Statement Global) → v.typed_statement (Block xs) ≡ block (v.typed_body xs.items)
typed_block_is xs =
    let row = body_in (Block xs) in
    ap block (body_row_is row.0 row.1 ∙ ap v.typed_body (items_hidden-the_row-Statement-0 xs))

pub typed_if_is : (c : Cond) (x : Box Statement) (y : Option (Box Statement)) → v.typed_statement (If c x y) ≡ if_so (v.typed_cond c) (v.typed_statement (box_value x)) (v.typed_part y)
typed_if_is c x None = refl
typed_if_is c x (Some y) = refl

pub typed_for_is : (f : Option (Box Statement)) (c : Option Expr) (g : Option (Box Statement)) (x : Box Statement) →
    v.typed_statement (For f c g x) ≡ for_all (v.typed_part f) (option_map v.typed_expr c) (v.typed_part g) (v.typed_statement (box_value x))
typed_for_is None c None x = refl
typed_for_is None c (Some g) x = refl
typed_for_is (Some f) c None x = refl
typed_for_is (Some f) c (Some g) x = refl
