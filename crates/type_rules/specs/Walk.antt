-- The walk over an expression: it finds the typed tree, or the first place at which no rule fits.
use Rattle.std.specs.Prelude.{ℕ, suc, Bool, true, false, not, nat_eq, List, [], ◌∷◌, length, Ok}
use Rattle.feast_base.specs.declared.place.Place.{Place}
use Rattle.sat_math.specs.declared.Kind.{Kind}
use Rattle.sat_math.specs.declared.Kind.TheVariants as k
use Rattle.ulam_tree.specs.declared.resolved.Ty.{Ty}
use Rattle.ulam_tree.specs.declared.op.PairOp.{PairOp}
use Rattle.ulam_tree.specs.Resolved as r
use Rattle.ulam_tree.specs.Typed as t
use Rattle.type_rules.specs.declared.scope.Want.{Want}
use Rattle.ulam_tree.specs.Found.{◌>>=◌, value_or_fault, must}
use Rattle.type_rules.specs.Faults.{wrong_type, wrong_count, bad_as, Found}
use Rattle.type_rules.specs.Scopes.{Scope, Callee, is_value, value_type, item_type, callee, wants_of}
use Rattle.type_rules.specs.Rows.{unsigned_type, bool, kind_from, beside, plain_type, plain_fits, pair_found, prefix_type, cast_type, is_atom, is_species, instance_type, is_index, taken_want, all_suit, is_built, misfit, result_of}

-- a number without `u`, in any number of brackets
abbrev pub plain : r.Expr → Bool
plain (r.number v u p) = not u
plain (r.group e p) = plain e
plain e = false

-- the place of an expression
abbrev pub place_of : r.Expr → Place
place_of (r.number v u p) = p
place_of (r.truth b p) = p
place_of (r.reads x) = x.place
place_of (r.calls x es) = x.place
place_of (r.index x e) = x.place
place_of (r.instance c) = c.place
place_of (r.group e p) = p
place_of (r.cast c e p) = p
place_of (r.prefix op e p) = p
place_of (r.pair op l r p) = p
place_of (r.is e c p) = p

abbrev pub count : r.Args → ℕ
count r.no_args = 0
count (r.arg e es) = suc (count es)

abbrev pub number : Kind → ℕ → Bool → Place → Found t.Expr
number w v true p = do
  _ ← must (plain_fits k.Unsigned v) (wrong_type p)
  Ok (t.typed (t.number v true p) (unsigned_type 32))
number w v false p = do
  _ ← must (plain_fits w v) (wrong_type p)
  Ok (t.typed (t.number v false p) (plain_type w))

-- In the next definitions `read`, `left` and `right` are the walk over the parts of a form.

-- n arguments, which are as many as are wanted, and each suits what is wanted of it
abbrev pub arguments_by : Scope → Place → Bool → List Want → ℕ → (List Want → Found t.Args) → Found t.Args
arguments_by g p built ws n read = do
  _ ← must (nat_eq (length ws) n) (wrong_count p)
  es ← read ws
  _ ← must (all_suit g ws es) (misfit built p)
  Ok es

-- the arguments of a call of f, and the type of the call
abbrev pub call_found : Scope → Place → Callee → ℕ → (List Want → Found t.Args) → Found (t.Args × Ty)
call_found g p f n read = do
  es ← arguments_by g p (is_built f) (wants_of f) n read
  Ok (es, result_of f es)

abbrev pub called_by : Scope → r.Path → ℕ → (List Want → Found t.Args) → Found (t.Args × Ty)
called_by g x n read = do
  f ← value_or_fault (callee g x.steps) (wrong_type x.place)
  call_found g x.place f n read

-- a call that stands for a value
abbrev pub call_value : Scope → r.Path → t.Args × Ty → Found t.Expr
call_value g x c = do
  _ ← must (is_value g c.1) (wrong_type x.place)
  Ok (t.typed (t.calls x c.0) c.1)

-- an index in square brackets, and the type of what stands at it
abbrev pub index_by : Scope → r.Path → Found t.Expr → Found (t.Expr × Ty)
index_by g x read = do
  ty ← value_or_fault (item_type g x.steps) (wrong_type x.place)
  i ← read
  _ ← must (is_index (t.ty_of i)) (wrong_type x.place)
  Ok (i, ty)

-- the right operand first: the left one is plain, and takes its kind from the right one
abbrev pub right_first : (Kind → Found t.Expr) → (Kind → Found t.Expr) → Found (t.Expr × t.Expr)
right_first left right = do
  b ← right k.Int
  a ← left (kind_from (t.ty_of b))
  Ok (a, b)

abbrev pub left_first : Bool → (Kind → Found t.Expr) → (Kind → Found t.Expr) → Found (t.Expr × t.Expr)
left_first plain left right = do
  a ← left k.Int
  b ← right (beside plain (t.ty_of a))
  Ok (a, b)

-- both operands, in the order that depends on which of them is plain
abbrev pub operands : Bool → Bool → (Kind → Found t.Expr) → (Kind → Found t.Expr) → Found (t.Expr × t.Expr)
operands true false left right = right_first left right
operands true true left right = left_first true left right
operands false plain_right left right = left_first false left right

abbrev pub pair_by : PairOp → Bool → Place → t.Expr × t.Expr → Found t.Expr
pair_by op plain_right p ab = do
  ty ← pair_found p op plain_right (t.ty_of ab.0) (t.ty_of ab.1)
  Ok (t.typed (t.pair op ab.0 ab.1 p) ty)

abbrev pub pair_of : PairOp → Bool → Bool → Place → (Kind → Found t.Expr) → (Kind → Found t.Expr) → Found t.Expr
pair_of op plain_left plain_right p left right = operands plain_left plain_right left right >>= pair_by op plain_right p

-- an expression, where a plain number takes the kind w
unfoldable mutual
  pub expr : Scope → Kind → r.Expr → Found t.Expr
  expr g w (r.number v u p) = number w v u p
  expr g w (r.truth b p) = Ok (t.typed (t.truth b p) bool)
  expr g w (r.reads x) = do
    ty ← value_or_fault (value_type g x.steps) (wrong_type x.place)
    Ok (t.typed (t.reads x) ty)
  expr g w (r.calls x es) = called_by g x (count es) (λ ws. args g ws es) >>= call_value g x
  expr g w (r.index x e) = do
    i ← index_by g x (expr g k.Int e)
    Ok (t.typed (t.index x i.0) i.1)
  expr g w (r.instance c) = do
    _ ← must (is_species g c.ty) (bad_as c.place)
    Ok (t.typed (t.instance c) (instance_type c.ty))
  expr g w (r.group e p) = do
    a ← expr g w e
    Ok (t.typed (t.group a p) (t.ty_of a))
  expr g w (r.cast c e p) = do
    a ← expr g k.Int e
    ty ← value_or_fault (cast_type c.ty (t.ty_of a)) (wrong_type p)
    Ok (t.typed (t.cast c a p) ty)
  expr g w (r.prefix op e p) = do
    a ← expr g k.Int e
    ty ← value_or_fault (prefix_type op (t.ty_of a)) (wrong_type p)
    Ok (t.typed (t.prefix op a p) ty)
  expr g w (r.pair op l r p) = pair_of op (plain l) (plain r) p (λ v. expr g v l) (λ v. expr g v r)
  expr g w (r.is e c p) = do
    a ← expr g k.Int e
    _ ← must (is_atom g (t.ty_of a)) (wrong_type p)
    _ ← must (is_species g c.ty) (bad_as c.place)
    Ok (t.typed (t.is a c p) bool)

  -- arguments, with what is wanted of each
  pub args : Scope → List Want → r.Args → Found t.Args
  args g ws r.no_args = Ok t.no_args
  args g [] (r.arg e es) = Ok t.no_args
  args g (w ∷ ws) (r.arg e es) = do
    a ← expr g (taken_want w) e
    bs ← args g ws es
    Ok (t.arg a bs)

-- Parts of expressions, and of statements

-- arguments, which are as many as are wanted, and each suits what is wanted of it
abbrev pub args_of : Scope → Place → Bool → List Want → r.Args → Found t.Args
args_of g p built ws es = arguments_by g p built ws (count es) (λ ws. args g ws es)

-- the arguments of a call of f, and the type of the call
abbrev pub call_of : Scope → Place → Callee → r.Args → Found (t.Args × Ty)
call_of g p f es = call_found g p f (count es) (λ ws. args g ws es)

-- the arguments of a call by a path, and the type of the call
abbrev pub call : Scope → r.Path → r.Args → Found (t.Args × Ty)
call g x es = called_by g x (count es) (λ ws. args g ws es)

-- an index in square brackets after a path, and the type of what stands at it
abbrev pub item : Scope → r.Path → r.Expr → Found (t.Expr × Ty)
item g x e = index_by g x (expr g k.Int e)
