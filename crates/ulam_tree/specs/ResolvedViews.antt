-- The code's trees whose names are looked up, as plain ones.
use Rattle.std.specs.Prelude.{List, [], ◌∷◌, map, Option, Some, None, option_map}
use Rattle.std.specs.Global.{Box}
use Rattle.std.specs.Box.{box_value}
use Rattle.ulam_tree.specs.Resolved as t
use Rattle.ulam_tree.specs.RawViews.{word_of}
use Rattle.ulam_tree.specs.declared.resolved.Path.{Path}
use Rattle.ulam_tree.specs.declared.resolved.Param.{Param}
use Rattle.ulam_tree.specs.declared.resolved.Cond.{Cond}
use Rattle.ulam_tree.specs.declared.resolved.Cond.TheVariants as c
use Rattle.ulam_tree.specs.declared.resolved.Left.{Left}
use Rattle.ulam_tree.specs.declared.resolved.Member.{Member}
use Rattle.ulam_tree.specs.declared.resolved.Member.TheVariants as m
use Rattle.ulam_tree.specs.declared.resolved.Class.{Class}
use Rattle.ulam_tree.specs.declared.resolved.Program.{Program}
use Rattle.ulam_tree.specs.declared.resolved.Expr.{Expr, Number, Truth, Call', Index', Instance, Group', Cast', Prefix', Pair', Is', Row_of-Expr, end_of-Expr, more_of-Expr}
use Rattle.ulam_tree.specs.declared.resolved.Expr.TheVariants as e
use Rattle.ulam_tree.specs.declared.resolved.Statement.{Statement, Block', Nothing, If', While', For', Row_of-Statement, end_of-Statement, more_of-Statement, Held-Statement-If-2, None', Some'}
use Rattle.ulam_tree.specs.declared.resolved.Statement.TheVariants as s

abbrev pub resolved_path : Path → t.Path
resolved_path x = record { place = x.place; steps = x.steps.items }

abbrev mutual
  pub resolved_expr : Expr → t.Expr
  resolved_expr (Number n u p) = t.number n u p
  resolved_expr (Truth b p) = t.truth b p
  resolved_expr (e.Path x) = t.reads (resolved_path x)
  resolved_expr (Call' x shape es) = t.calls (resolved_path x) (args_row es)
  resolved_expr (Index' x b e) = t.index (resolved_path x) (resolved_expr e)
  resolved_expr (Instance w) = t.instance w
  resolved_expr (Group' b e p) = t.group (resolved_expr e) p
  resolved_expr (Cast' x b e p) = t.cast x (resolved_expr e) p
  resolved_expr (Prefix' op b e p) = t.prefix op (resolved_expr e) p
  resolved_expr (Pair' op b l c r p) = t.pair op (resolved_expr l) (resolved_expr r) p
  resolved_expr (Is' b e w p) = t.is (resolved_expr e) w p

  pub args_row : {m : _} → Row_of-Expr m → t.Args
  args_row end_of-Expr = t.no_args
  args_row (more_of-Expr e es) = t.arg (resolved_expr e) (args_row es)

-- the same of a vector that stands alone
abbrev pub resolved_args : List Expr → t.Args
resolved_args [] = t.no_args
resolved_args (e ∷ es) = t.arg (resolved_expr e) (resolved_args es)

-- the expression in a box
abbrev pub boxed_expr : Box Expr → t.Expr
boxed_expr = λ b. resolved_expr (box_value b)

abbrev pub resolved_cond : Cond → t.Cond
resolved_cond (c.Seen w d) = t.seen (resolved_path w) d
resolved_cond (c.Test e) = t.test (resolved_expr e)

abbrev pub resolved_left : Left → t.Left
resolved_left l = record { path = resolved_path l.path; index = option_map boxed_expr l.index }

abbrev mutual
  pub resolved_statement : Statement → t.Statement
  resolved_statement (Block' shape b) = t.block (body_row b)
  resolved_statement Nothing = t.empty
  resolved_statement (If' k b x z) = t.if_so (resolved_cond k) (resolved_statement x) (part_held z)
  resolved_statement (While' k b x) = t.while_so (resolved_expr k) (resolved_statement x)
  resolved_statement (For' f k g b x) = t.for_all (part_held f) (option_map resolved_expr k) (part_held g) (resolved_statement x)
  resolved_statement (s.Return p e) = t.returns p (option_map resolved_expr e)
  resolved_statement (s.Break p) = t.breaks p
  resolved_statement (s.Continue p) = t.continues p
  resolved_statement (s.Declare ty n p e) = t.declares ty n p (option_map resolved_expr e)
  resolved_statement (s.Assign l op e) = t.assigns (resolved_left l) op (resolved_expr e)
  resolved_statement (s.Count l up) = t.counts (resolved_left l) up
  resolved_statement (s.Call x) = t.does (resolved_path x.path) (resolved_args x.args.items)

  pub part_held : Held-Statement-If-2 → t.Part
  part_held None' = t.no_part
  part_held (Some' b x) = t.part (resolved_statement x)

  pub body_row : {m : _} → Row_of-Statement m → t.Body
  body_row end_of-Statement = t.no_more
  body_row (more_of-Statement x rest) = t.then_so (resolved_statement x) (body_row rest)

-- the statement in a box
abbrev pub boxed_statement : Box Statement → t.Statement
boxed_statement = λ b. resolved_statement (box_value b)

abbrev pub resolved_body : List Statement → t.Body
resolved_body [] = t.no_more
resolved_body (x ∷ xs) = t.then_so (resolved_statement x) (resolved_body xs)

-- an optional statement that stands alone
abbrev pub resolved_part : Option (Box Statement) → t.Part
resolved_part None = t.no_part
resolved_part (Some b) = t.part (boxed_statement b)

abbrev pub resolved_param : Param → t.Param
resolved_param p = record { of = p.of; word = word_of p.word }

abbrev pub resolved_member : Member → t.Member
resolved_member (m.Field ty w l) = t.field ty (word_of w) l
resolved_member (m.Function ty w ps b) = t.function ty (word_of w) (map resolved_param ps.items) (resolved_body b.items)

abbrev pub resolved_class : Class → t.Class
resolved_class x = record { quark = x.quark; word = word_of x.word; members = map resolved_member x.members.items }

abbrev pub resolved_program : Program → List t.Class
resolved_program p = map resolved_class p.classes.items
