-- What the walk finds in a body, from the values of the code.
use Rattle.std.specs.Prelude.{ℕ, ◌+◌, List, length, map, Option, Some, option_map, Vec, ℤ}
use Rattle.std.specs.Global.{Box, Global}
use Rattle.feast_base.specs.declared.place.Place.{Place}
use Rattle.ulam_tree.specs.declared.type_ref.Width.{Width}
use Rattle.ulam_tree.specs.declared.type_ref.TypeRef.{TypeRef}
use Rattle.ulam_tree.specs.declared.raw.Word.{Word}
use Rattle.ulam_tree.specs.declared.raw.Path.{Path}
use Rattle.ulam_tree.specs.declared.raw.Expr.{Expr}
use Rattle.ulam_tree.specs.declared.raw.Cond.{Cond}
use Rattle.ulam_tree.specs.declared.raw.Left.{Left}
use Rattle.ulam_tree.specs.declared.raw.Statement.{Statement}
use Rattle.ulam_tree.specs.declared.resolved.Ty.{Ty}
use Rattle.ulam_tree.specs.declared.resolved.Step.{Step}
use Rattle.ulam_tree.specs.declared.resolved.Named.{Named}
use Rattle.ulam_tree.specs.declared.resolved.Cond.{Cond as FoundCond}
use Rattle.ulam_tree.specs.declared.resolved.Statement.{Statement as FoundStatement}
use Rattle.ulam_tree.specs.Raw as t
use Rattle.ulam_tree.specs.Resolved as r
use Rattle.ulam_tree.specs.RawViews.{word_of, width_of, type_of, path_of, expr_of, args_list, cond_of, left_of, statement_of, body_list, part_alone}
use Rattle.ulam_tree.specs.ResolvedViews.{resolved_cond, resolved_statement, resolved_part}
use Rattle.ulam_names.specs.declared.half.HalfClass.{HalfClass}
use Rattle.ulam_names.specs.declared.scope.Entry.{Entry}
use Rattle.ulam_names.specs.declared.scope.Context.{Context}
use Rattle.ulam_names.specs.Faults.{Found}
use Rattle.ulam_names.specs.Scopes as s
use Rattle.ulam_names.specs.Scopes.{Text, Basic, inner_scope, inside_local}
use Rattle.ulam_names.specs.Walk as w
use Rattle.ulam_names.specs.Shown.{head_of, context_of, entries_of, scope_of}
use Rattle.ulam_names.specs.Outcomes.{Outcome}
use Rattle.ulam_names.specs.declared.limits.TheConstants.{MOST_LOCALS}

-- Paths, from a type on

abbrev pub steps_after : List HalfClass → Ty → List Word → Found (List Step)
steps_after heads inside words = w.steps_after (map head_of heads) inside (map word_of words)

abbrev pub path_by : List HalfClass → Place → Step → Ty → List Word → Found r.Path
path_by heads place first inside words = w.path_by place first (steps_after heads inside words)

-- Names of types and classes, which no local hides

abbrev pub basic_in : Context → Text → Option Basic
basic_in context name = w.basic_in (context_of context) name

abbrev pub class_named : Context → Word → Found Named
class_named context word = w.class_named (w.basic_in (context_of context)) (word_of word)

-- Types, paths and expressions, in a context with these entries

module _ (context : Context) (entries : List Entry) where
  abbrev pub constant_in : Text → Option ℤ
  constant_in name = w.constant_in (context_of context) (entries_of entries) name

  abbrev pub width_value : Width → Found ℤ
  width_value x = w.width_value (w.constant_in (context_of context) (entries_of entries)) (width_of x)

  abbrev pub sized_by : Place → Basic → Option Width → Found Ty
  sized_by place base x = w.sized_by (w.constant_in (context_of context) (entries_of entries)) place base (option_map width_of x)

  abbrev pub type_in : TypeRef → Found Named
  type_in x = w.type_in (context_of context) (entries_of entries) (type_of x)

  abbrev pub path : Path → Found r.Path
  path x = w.path (context_of context) (entries_of entries) (path_of x)

  abbrev pub one_word : Word → Found r.Path
  one_word x = w.path (context_of context) (entries_of entries) (w.one_word (word_of x))

  abbrev pub expr : Expr → Found r.Expr
  expr x = w.expr (context_of context) (entries_of entries) (expr_of x)

  abbrev pub args : List Expr → Found r.Args
  args xs = w.args (context_of context) (entries_of entries) (args_list xs)

  -- expressions, from their parts
  abbrev pub call : Path → List Expr → Found r.Expr
  call x xs = w.expr (context_of context) (entries_of entries) (t.calls (path_of x) (args_list xs))

  abbrev pub index : Path → Expr → Found r.Expr
  index x at = w.expr (context_of context) (entries_of entries) (t.index (path_of x) (expr_of at))

  abbrev pub cast : TypeRef → Expr → Place → Found r.Expr
  cast to x place = w.expr (context_of context) (entries_of entries) (t.cast (type_of to) (expr_of x) place)

  abbrev pub is_class : Expr → Word → Place → Found r.Expr
  is_class x word place = w.expr (context_of context) (entries_of entries) (t.is (expr_of x) (word_of word) place)

  abbrev pub maybe_expr : Option Expr → Found (Option r.Expr)
  maybe_expr x = w.maybe_expr (context_of context) (entries_of entries) (option_map expr_of x)

  abbrev pub left_side : Left → Found r.Left
  left_side x = w.left_side (context_of context) (entries_of entries) (left_of x)

  abbrev pub cond : Cond → Found r.Cond
  cond x = w.cond (context_of context) (entries_of entries) (cond_of x)

  -- a name that a local is declared with: the innermost scope begins at the number `from`, and `slot` is the next free one
  abbrev pub may_declare : ℕ → ℕ → Word → Found (Unit {0})
  may_declare from slot word = w.may_declare (context_of context) (scope_of entries from) slot (word_of word)

-- Statements, and how many locals they declare

abbrev pub locals : Statement → ℕ
locals x = w.locals_of (statement_of x)

abbrev pub part_locals : Option (Box Statement) → ℕ
part_locals x = w.locals_part (part_alone x)

abbrev pub body_locals : List Statement → ℕ
body_locals xs = w.locals_in (body_list xs)

abbrev pub statement_in : Context → s.Scope → ℕ → Statement → Found r.Statement
statement_in context scope slot x = w.statement (context_of context) scope slot (statement_of x)

-- the entry of a local that was declared
abbrev pub local : Context → ℕ → Word → FoundStatement → s.Entry
local context slot word x = record { name = word.name; slot = Some slot; inside = inside_local (map head_of context.heads.now) (w.type_of (resolved_statement x)) }

module _ (context : Context) (entries : Vec Entry Global) where
  -- the innermost scope begins at the number `from`, and `slot` is the next free one
  abbrev pub statement : ℕ → ℕ → Statement → Found r.Statement
  statement from slot x = statement_in context (scope_of entries.items from) slot x

  abbrev pub part : ℕ → ℕ → Option (Box Statement) → Found r.Part
  part from slot x = w.part (context_of context) (scope_of entries.items from) slot (part_alone x)

  abbrev pub body : ℕ → ℕ → List Statement → Found r.Body
  body from slot xs = w.body (context_of context) (scope_of entries.items from) slot (body_list xs)

  -- in a scope of its own
  abbrev pub inner : ℕ → Statement → Found r.Statement
  inner slot x = statement_in context (scope_of entries.items (length entries.items)) slot x

  abbrev pub inner_body : ℕ → List Statement → Found r.Body
  inner_body slot xs = w.body (context_of context) (scope_of entries.items (length entries.items)) slot (body_list xs)

  -- the scope with the name that a condition shows, and the first branch in a scope within
  abbrev pub branch_scope : ℕ → Cond → FoundCond → s.Scope
  branch_scope from test found = w.branch_scope (map head_of context.heads.now) (scope_of entries.items from) (cond_of test) (w.shown_element (resolved_cond found))

  abbrev pub branch : ℕ → ℕ → Statement → Cond → FoundCond → Found r.Statement
  branch from slot x test found = statement_in context (inner_scope (branch_scope from test found)) slot x

  -- the scope after a statement
  abbrev pub after : ℕ → ℕ → Statement → FoundStatement → s.Scope
  after from slot x found = w.after (map head_of context.heads.now) (scope_of entries.items from) slot (statement_of x) (resolved_statement found)

  abbrev pub after_part : ℕ → ℕ → Option (Box Statement) → Option (Box FoundStatement) → s.Scope
  after_part from slot x found = w.after_part (map head_of context.heads.now) (scope_of entries.items from) slot (part_alone x) (resolved_part found)

  -- outcomes from a slot on, over so many locals
  abbrev outcome : {A : Type 0} → Found A → ℕ → ℕ → Outcome A
  outcome x slot count = record { found = x; next = slot + count; most = context.params + MOST_LOCALS }

  abbrev pub statement_end : ℕ → ℕ → Statement → Outcome r.Statement
  statement_end from slot x = outcome (statement from slot x) slot (locals x)

  abbrev pub part_end : ℕ → ℕ → Option (Box Statement) → Outcome r.Part
  part_end from slot x = outcome (part from slot x) slot (part_locals x)

  abbrev pub body_end : ℕ → ℕ → List Statement → Outcome r.Body
  body_end from slot xs = outcome (body from slot xs) slot (body_locals xs)

  abbrev pub inner_end : ℕ → Statement → Outcome r.Statement
  inner_end slot x = outcome (inner slot x) slot (locals x)

  abbrev pub branch_end : ℕ → Statement → Cond → FoundCond → Outcome r.Statement
  branch_end slot x test found = outcome (branch 0 slot x test found) slot (locals x)

  -- statements in a scope of their own, from their parts
  abbrev pub block_end : ℕ → List Statement → Outcome r.Statement
  block_end slot xs = outcome (w.statement (context_of context) (scope_of entries.items 0) slot (t.block (body_list xs))) slot (body_locals xs)

  abbrev pub while_end : ℕ → Statement → Expr → Outcome r.Statement
  while_end slot x test = outcome (w.statement (context_of context) (scope_of entries.items 0) slot (t.while_so (expr_of test) (statement_of x))) slot (locals x)
