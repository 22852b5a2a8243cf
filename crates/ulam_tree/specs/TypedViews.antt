-- The code's trees whose types are known, as plain ones.
use Rattle.std.specs.Prelude.{List, [], ◌∷◌, map, Option, Some, None, option_map}
use Rattle.std.specs.Global.{Box}
use Rattle.std.specs.Box.{box_value}
use Rattle.ulam_tree.specs.Typed as t
use Rattle.ulam_tree.specs.RawViews.{word_of}
use Rattle.ulam_tree.specs.ResolvedViews.{resolved_path, resolved_param}
use Rattle.ulam_tree.specs.declared.typed.Cond.{Cond}
use Rattle.ulam_tree.specs.declared.typed.Cond.TheVariants as c
use Rattle.ulam_tree.specs.declared.typed.Left.{Left}
use Rattle.ulam_tree.specs.declared.typed.Member.{Member}
use Rattle.ulam_tree.specs.declared.typed.Member.TheVariants as m
use Rattle.ulam_tree.specs.declared.typed.Class.{Class}
use Rattle.ulam_tree.specs.declared.typed.Typed.{Typed}
use Rattle.ulam_tree.specs.declared.typed.Call.{Call, Call', Row_of-Expr, end_of-Expr, more_of-Expr}
use Rattle.ulam_tree.specs.declared.typed.Expr.{Expr}
use Rattle.ulam_tree.specs.declared.typed.Form as f
use Rattle.ulam_tree.specs.declared.typed.Statement.{Statement, Block', Nothing, If', While', For', Row_of-Statement, end_of-Statement, more_of-Statement, Held-Statement-If-2, None', Some'}
use Rattle.ulam_tree.specs.declared.typed.Statement.TheVariants as s

abbrev mutual
  pub typed_form : f.Form → t.Form
  typed_form (f.Number n u p) = t.number n u p
  typed_form (f.Truth b p) = t.truth b p
  typed_form (f.Path x) = t.reads (resolved_path x)
  typed_form (f.Call x) = typed_call x
  typed_form (f.Index' x b e ty) = t.index (resolved_path x) (t.typed (typed_form e) ty)
  typed_form (f.Instance w) = t.instance w
  typed_form (f.Group' b e ty p) = t.group (t.typed (typed_form e) ty) p
  typed_form (f.Cast' x b e ty p) = t.cast x (t.typed (typed_form e) ty) p
  typed_form (f.Prefix' op b e ty p) = t.prefix op (t.typed (typed_form e) ty) p
  typed_form (f.Pair' op b l ty c r u p) = t.pair op (t.typed (typed_form l) ty) (t.typed (typed_form r) u) p
  typed_form (f.Is' b e ty w p) = t.is (t.typed (typed_form e) ty) w p

  pub typed_call : Call → t.Form
  typed_call (Call' x shape es) = t.calls (resolved_path x) (args_row es)

  pub args_row : {m : _} → Row_of-Expr m → t.Args
  args_row end_of-Expr = t.no_args
  args_row (more_of-Expr e ty es) = t.arg (t.typed (typed_form e) ty) (args_row es)

abbrev pub typed_expr : Expr → t.Expr
typed_expr e = t.typed (typed_form e.form) e.ty

-- the same of a vector that stands alone
abbrev pub typed_args : List Expr → t.Args
typed_args [] = t.no_args
typed_args (e ∷ es) = t.arg (typed_expr e) (typed_args es)

-- the expression in a box
abbrev pub boxed_expr : Box Expr → t.Expr
boxed_expr = λ b. typed_expr (box_value b)

abbrev pub typed_cond : Cond → t.Cond
typed_cond (c.Seen w d) = t.seen (resolved_path w) d
typed_cond (c.Test e) = t.test (typed_expr e)

abbrev pub typed_left : Left → t.Left
typed_left l = record { path = resolved_path l.path; index = option_map boxed_expr l.index }

-- a call as a statement
abbrev pub typed_does : Call → t.Statement
typed_does (Call' x shape es) = t.does (resolved_path x) (args_row es)

abbrev mutual
  pub typed_statement : Statement → t.Statement
  typed_statement (Block' shape b) = t.block (body_row b)
  typed_statement Nothing = t.empty
  typed_statement (If' k b x z) = t.if_so (typed_cond k) (typed_statement x) (part_held z)
  typed_statement (While' k b x) = t.while_so (typed_expr k) (typed_statement x)
  typed_statement (For' f k g b x) = t.for_all (part_held f) (option_map typed_expr k) (part_held g) (typed_statement x)
  typed_statement (s.Return p e) = t.returns p (option_map typed_expr e)
  typed_statement (s.Break p) = t.breaks p
  typed_statement (s.Continue p) = t.continues p
  typed_statement (s.Declare ty n p e) = t.declares ty n p (option_map typed_expr e)
  typed_statement (s.Assign l op e) = t.assigns (typed_left l) op (typed_expr e)
  typed_statement (s.Count l up) = t.counts (typed_left l) up
  typed_statement (s.Call x) = typed_does x

  pub part_held : Held-Statement-If-2 → t.Part
  part_held None' = t.no_part
  part_held (Some' b x) = t.part (typed_statement x)

  pub body_row : {m : _} → Row_of-Statement m → t.Body
  body_row end_of-Statement = t.no_more
  body_row (more_of-Statement x rest) = t.then_so (typed_statement x) (body_row rest)

-- the statement in a box
abbrev pub boxed_statement : Box Statement → t.Statement
boxed_statement = λ b. typed_statement (box_value b)

abbrev pub typed_body : List Statement → t.Body
typed_body [] = t.no_more
typed_body (x ∷ xs) = t.then_so (typed_statement x) (typed_body xs)

-- an optional statement that stands alone
abbrev pub typed_part : Option (Box Statement) → t.Part
typed_part None = t.no_part
typed_part (Some b) = t.part (boxed_statement b)

abbrev pub typed_member : Member → t.Member
typed_member (m.Field ty w l) = t.field ty (word_of w) l
typed_member (m.Function ty w ps b) = t.function ty (word_of w) (map resolved_param ps.items) (typed_body b.items)

abbrev pub typed_class : Class → t.Class
typed_class x = record { quark = x.quark; word = word_of x.word; members = map typed_member x.members.items }

abbrev pub typed_program : Typed → List t.Class
typed_program p = map typed_class p.classes.items
