-- The code's trees as plain ones.
use Rattle.std.specs.Prelude.{List, [], ◌∷◌, map, Option, Some, None, option_map}
use Rattle.std.specs.Global.{Vec, Box}
use Rattle.std.specs.Box.{box_value}
use Rattle.std.specs.Rc.{rc_value}
use Rattle.ulam_tree.specs.Raw as t
use Rattle.ulam_tree.specs.declared.raw.Word.{Word}
use Rattle.ulam_tree.specs.declared.type_ref.Width.{Width}
use Rattle.ulam_tree.specs.declared.type_ref.Width.TheVariants as w
use Rattle.ulam_tree.specs.declared.type_ref.TypeRef.{TypeRef}
use Rattle.ulam_tree.specs.declared.raw.Path.{Path}
use Rattle.ulam_tree.specs.declared.raw.Const.{Const}
use Rattle.ulam_tree.specs.declared.raw.Const.TheVariants as k
use Rattle.ulam_tree.specs.declared.raw.Param.{Param}
use Rattle.ulam_tree.specs.declared.raw.Cond.{Cond}
use Rattle.ulam_tree.specs.declared.raw.Cond.TheVariants as c
use Rattle.ulam_tree.specs.declared.raw.Left.{Left}
use Rattle.ulam_tree.specs.declared.raw.Member.{Member}
use Rattle.ulam_tree.specs.declared.raw.Member.TheVariants as m
use Rattle.ulam_tree.specs.declared.raw.Class.{Class}
use Rattle.ulam_tree.specs.declared.raw.File.{File}
use Rattle.ulam_tree.specs.declared.raw.Item.{Item}
use Rattle.ulam_tree.specs.declared.raw.Item.TheVariants as i
use Rattle.ulam_tree.specs.declared.raw.Expr.{Expr, Number, Truth, Call', Index', Instance, Group', Cast', Prefix', Pair', Is', Row_of-Expr, end_of-Expr, more_of-Expr}
use Rattle.ulam_tree.specs.declared.raw.Expr.TheVariants as e
use Rattle.ulam_tree.specs.declared.raw.Statement.{Statement, Block', Nothing, If', While', For', Row_of-Statement, end_of-Statement, more_of-Statement, Held-Statement-If-2, None', Some'}
use Rattle.ulam_tree.specs.declared.raw.Statement.TheVariants as s

abbrev pub word_of : Word → t.Word
word_of w = record { name = w.name; place = w.place }

abbrev pub width_of : Width → t.Width
width_of (w.Number n) = t.wide n
width_of (w.Named x) = t.wide_as (word_of x)

abbrev pub type_of : TypeRef → t.TypeRef
type_of x = record { word = word_of x.word; width = option_map width_of x.width }

abbrev pub path_of : Path → t.Path
path_of x = record { own = x.own; words = map word_of x.words.items }

abbrev mutual
  pub expr_of : Expr → t.Expr
  expr_of (Number n u p) = t.number n u p
  expr_of (Truth b p) = t.truth b p
  expr_of (e.Path x) = t.reads (path_of x)
  expr_of (Call' x shape es) = t.calls (path_of x) (args_of es)
  expr_of (Index' x b e) = t.index (path_of x) (expr_of e)
  expr_of (Instance w) = t.instance (word_of w)
  expr_of (Group' b e p) = t.group (expr_of e) p
  expr_of (Cast' x b e p) = t.cast (type_of x) (expr_of e) p
  expr_of (Prefix' op b e p) = t.prefix op (expr_of e) p
  expr_of (Pair' op b l c r p) = t.pair op (expr_of l) (expr_of r) p
  expr_of (Is' b e w p) = t.is (expr_of e) (word_of w) p

  pub args_of : {m : _} → Row_of-Expr m → t.Args
  args_of end_of-Expr = t.no_args
  args_of (more_of-Expr e es) = t.arg (expr_of e) (args_of es)

-- the same of a vector that stands alone
abbrev pub args_list : List Expr → t.Args
args_list [] = t.no_args
args_list (e ∷ es) = t.arg (expr_of e) (args_list es)

-- the expression in a box
abbrev pub boxed_expr : Box Expr → t.Expr
boxed_expr = λ b. expr_of (box_value b)

abbrev pub cond_of : Cond → t.Cond
cond_of (c.Seen w d) = t.seen (word_of w) (word_of d)
cond_of (c.Test e) = t.test (expr_of e)

abbrev pub left_of : Left → t.Left
left_of l = record { path = path_of l.path; index = option_map boxed_expr l.index }

abbrev mutual
  pub statement_of : Statement → t.Statement
  statement_of (Block' shape b) = t.block (body_of b)
  statement_of Nothing = t.empty
  statement_of (If' k b x z) = t.if_so (cond_of k) (statement_of x) (part_of z)
  statement_of (While' k b x) = t.while_so (expr_of k) (statement_of x)
  statement_of (For' f k g b x) = t.for_all (part_of f) (option_map expr_of k) (part_of g) (statement_of x)
  statement_of (s.Return p e) = t.returns p (option_map expr_of e)
  statement_of (s.Break p) = t.breaks p
  statement_of (s.Continue p) = t.continues p
  statement_of (s.Declare ty w e) = t.declares (type_of ty) (word_of w) (option_map expr_of e)
  statement_of (s.Assign l op e) = t.assigns (left_of l) op (expr_of e)
  statement_of (s.Count l up) = t.counts (left_of l) up
  statement_of (s.Call x) = t.does (path_of x.path) (args_list x.args.items)

  pub part_of : Held-Statement-If-2 → t.Part
  part_of None' = t.no_part
  part_of (Some' b x) = t.part (statement_of x)

  pub body_of : {m : _} → Row_of-Statement m → t.Body
  body_of end_of-Statement = t.no_more
  body_of (more_of-Statement x rest) = t.then_so (statement_of x) (body_of rest)

-- the statement in a box
abbrev pub boxed_statement : Box Statement → t.Statement
boxed_statement = λ b. statement_of (box_value b)

abbrev pub body_list : List Statement → t.Body
body_list [] = t.no_more
body_list (x ∷ xs) = t.then_so (statement_of x) (body_list xs)

abbrev pub const_of : Const → t.Const
const_of (k.Number minus n u) = t.const_number minus n u
const_of (k.Truth b) = t.const_truth b
const_of (k.Named w) = t.const_named (word_of w)

abbrev pub param_of : Param → t.Param
param_of p = record { of = type_of p.of; word = word_of p.word }

abbrev pub member_of : Member → t.Member
member_of (m.Typedef ty w) = t.typedef (type_of ty) (word_of w)
member_of (m.Constant ty w v) = t.constant (type_of ty) (word_of w) (const_of v)
member_of (m.Field ty w l) = t.field (type_of ty) (word_of w) (option_map width_of l)
member_of (m.Function ty w ps b) = t.function (type_of ty) (word_of w) (map param_of ps.items) (body_list b.items)

abbrev held_in : {X Y : Type 0} → (X → Vec Y) → Type 0
held_in {Y = Y} field = Y

-- what a class has as a member, an `Rc` of it
abbrev pub Shared : Type 0
Shared = held_in (λ (x : Class). x.members)

-- the member that an `Rc` points to
abbrev pub shared_member : Shared → t.Member
shared_member = λ m. member_of (rc_value m)

abbrev pub class_of : Class → t.Class
class_of x = record { quark = x.quark; word = word_of x.word; members = map shared_member x.members.items }

abbrev pub item_of : Item → t.Item
item_of (i.Ulam n) = t.ulam n
item_of (i.Uses w) = t.uses (word_of w)
item_of (i.Class x) = t.class (class_of x)

abbrev pub file_of : File → List t.Item
file_of f = map item_of f.items.items

-- an optional statement that stands alone
abbrev pub part_alone : Option (Box Statement) → t.Part
part_alone None = t.no_part
part_alone (Some b) = t.part (boxed_statement b)
