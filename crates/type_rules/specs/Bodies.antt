-- The walk over a statement: it finds the typed tree, or the first place at which no rule fits.
use Rattle.std.specs.Prelude.{ℕ, true, false, not, List, [], ◌∷◌, slice_get, Option, Some, None, Ok}
use Rattle.feast_base.specs.declared.place.Place.{Place}
use Rattle.sat_math.specs.declared.Kind.TheVariants as k
use Rattle.ulam_tree.specs.declared.resolved.Ty.{Ty}
use Rattle.ulam_tree.specs.declared.resolved.Ty.TheVariants.{Atom, Class}
use Rattle.ulam_tree.specs.declared.resolved.Step.{Step}
use Rattle.ulam_tree.specs.declared.resolved.Step.TheVariants.{Local}
use Rattle.ulam_tree.specs.declared.op.PairOp.{PairOp}
use Rattle.ulam_tree.specs.declared.op.PairOp.TheVariants as op
use Rattle.std.specs.Prelude.{Bool}
use Rattle.ulam_tree.specs.Resolved as r
use Rattle.ulam_tree.specs.Typed as t
use Rattle.ulam_tree.specs.Found.{◌>>=◌, value_or_fault, must}
use Rattle.type_rules.specs.Faults.{wrong_type, not_assignable, bad_as, break_outside, Found}
use Rattle.type_rules.specs.Scopes.{Scope, in_loop, scope_as, is_element, is_value, target_type}
use Rattle.type_rules.specs.Rows.{kind_from, plain_type, pair_found, is_truth, is_void, assignable}
use Rattle.type_rules.specs.Walk.{plain, place_of, expr, call, item}

-- a left side, and its type
abbrev pub left_by : Scope → r.Path → Option r.Expr → Found (t.Left × Ty)
left_by g x None = do
  ty ← value_or_fault (target_type g x.steps) (not_assignable x.place)
  Ok (record { path = x; index = None }, ty)
left_by g x (Some e) = do
  i ← item g x e
  Ok (record { path = x; index = Some i.0 }, i.1)

abbrev pub left_side : Scope → r.Left → Found (t.Left × Ty)
left_side g l = left_by g l.path l.index

-- a value for a type; the place is that of the name or the left side that it is for
abbrev pub value_for : Scope → Place → Ty → r.Expr → Found t.Expr
value_for g p ty e = do
  a ← expr g (kind_from ty) e
  _ ← must (assignable g ty (t.ty_of a)) (not_assignable p)
  Ok a

-- the value of an assignment to a left side of this type, by `=`, or by an operator with `=`
abbrev pub assigned_value : Scope → Place → Ty → Option PairOp → r.Expr → Found t.Expr
assigned_value g p ty None e = value_for g p ty e
assigned_value g p ty (Some op) e = do
  a ← expr g (kind_from ty) e
  sum ← pair_found p op (plain e) ty (t.ty_of a)
  _ ← must (assignable g ty sum) (not_assignable p)
  Ok a

-- a condition
abbrev pub test : Scope → r.Expr → Found t.Expr
test g e = do
  a ← expr g k.Int e
  _ ← must (is_truth (t.ty_of a)) (wrong_type (place_of e))
  Ok a

abbrev pub maybe : (r.Expr → Found t.Expr) → Option r.Expr → Found (Option t.Expr)
maybe walk None = Ok None
maybe walk (Some e) = do
  a ← walk e
  Ok (Some a)

-- a condition, if there is one
abbrev pub maybe_test : Scope → Option r.Expr → Found (Option t.Expr)
maybe_test g e = maybe (test g) e

-- a value for a type, if there is one
abbrev pub maybe_value : Scope → Place → Ty → Option r.Expr → Found (Option t.Expr)
maybe_value g p ty e = maybe (value_for g p ty) e

abbrev pub atom_slot_by : ℕ → Option Ty → Option ℕ
atom_slot_by n (Some Atom) = Some n
atom_slot_by n ty = None

-- the slot that a path of one name means, if it is of type `Atom`
abbrev pub atom_slot : Scope → List Step → Option ℕ
atom_slot g (Local n ∷ []) = atom_slot_by n (slice_get g.slots n)
atom_slot g steps = None

abbrev pub is_element_type : Scope → Ty → Bool
is_element_type g (Class c) = is_element g c
is_element_type g ty = false

-- the condition of an `if`, and the scope of its first branch
abbrev pub cond : Scope → r.Cond → Found (t.Cond × Scope)
cond g (r.seen x c) = do
  n ← value_or_fault (atom_slot g x.steps) (bad_as x.place)
  _ ← must (is_element_type g c.ty) (bad_as c.place)
  Ok (t.seen x c, scope_as g n c.ty)
cond g (r.test e) = do
  a ← test g e
  Ok (t.test a, g)

-- the condition of an `if`, and its first branch, which `first` walks over
abbrev pub branch : Scope → r.Cond → (Scope → Found t.Statement) → Found (t.Cond × t.Statement)
branch g c first = do
  b ← cond g c
  x ← first b.1
  Ok (b.0, x)

-- the value of a `return`, which has one exactly if the function has a result
abbrev pub result : Scope → Place → Option r.Expr → Found (Option t.Expr)
result g p None = do
  _ ← must (is_void g.result) (wrong_type p)
  Ok None
result g p (Some e) = do
  a ← expr g (kind_from g.result) e
  _ ← must (not (is_void g.result)) (wrong_type p)
  _ ← must (assignable g g.result (t.ty_of a)) (not_assignable p)
  Ok (Some a)

unfoldable mutual
  pub statement : Scope → r.Statement → Found t.Statement
  statement g (r.block b) = do
    a ← body g b
    Ok (t.block a)
  statement g r.empty = Ok t.empty
  statement g (r.if_so c x y) = do
    b ← branch g c (λ h. statement h x)
    z ← part g y
    Ok (t.if_so b.0 b.1 z)
  statement g (r.while_so e x) = do
    a ← test g e
    b ← statement (in_loop g) x
    Ok (t.while_so a b)
  statement g (r.for_all x e y z) = do
    a ← part g x
    d ← maybe_test g e
    b ← part g y
    c ← statement (in_loop g) z
    Ok (t.for_all a d b c)
  statement g (r.returns p e) = do
    a ← result g p e
    Ok (t.returns p a)
  statement g (r.breaks p) = do
    _ ← must g.looped (break_outside p)
    Ok (t.breaks p)
  statement g (r.continues p) = do
    _ ← must g.looped (break_outside p)
    Ok (t.continues p)
  statement g (r.declares of n p e) = do
    _ ← must (is_value g of.ty) (wrong_type of.place)
    a ← maybe_value g p of.ty e
    Ok (t.declares of n p a)
  statement g (r.assigns l op e) = do
    a ← left_side g l
    b ← assigned_value g l.path.place a.1 op e
    Ok (t.assigns a.0 op b)
  statement g (r.counts l up) = do
    a ← left_side g l
    sum ← pair_found l.path.place op.Add true a.1 (plain_type (kind_from a.1))
    _ ← must (assignable g a.1 sum) (not_assignable l.path.place)
    Ok (t.counts a.0 up)
  statement g (r.does x es) = do
    c ← call g x es
    Ok (t.does x c.0)

  pub part : Scope → r.Part → Found t.Part
  part g r.no_part = Ok t.no_part
  part g (r.part x) = do
    a ← statement g x
    Ok (t.part a)

  pub body : Scope → r.Body → Found t.Body
  body g r.no_more = Ok t.no_more
  body g (r.then_so x b) = do
    a ← statement g x
    z ← body g b
    Ok (t.then_so a z)
