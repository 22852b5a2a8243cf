-- Which typed tree an expression has, and which a statement has: by cases, and in no order.
use Rattle.std.specs.Prelude.{◌≡◌, ℕ, Bool, true, false, List, [], ◌∷◌, length, Option, Some, None}
use Rattle.feast_base.specs.declared.place.Place.{Place}
use Rattle.sat_math.specs.declared.Kind.{Kind}
use Rattle.sat_math.specs.declared.Kind.TheVariants as k
use Rattle.ulam_tree.specs.declared.resolved.Ty.{Ty}
use Rattle.ulam_tree.specs.declared.op.PairOp.{PairOp}
use Rattle.ulam_tree.specs.declared.op.PairOp.TheVariants as op
use Rattle.ulam_tree.specs.Resolved as r
use Rattle.ulam_tree.specs.Typed as t
use Rattle.type_rules.specs.declared.scope.Want.{Want}
use Rattle.type_rules.specs.Scopes.{Scope, Callee, in_loop, scope_as, is_value, value_type, target_type, item_type, callee, wants_of}
use Rattle.type_rules.specs.Rows.{unsigned_type, bool, kind_from, beside, plain_type, plain_fits, pair_type, prefix_type, cast_type, is_atom, is_species, instance_type, is_index, is_truth, is_void, assignable, taken_want, all_suit, result_of}
use Rattle.type_rules.specs.Walk.{plain, count}
use Rattle.type_rules.specs.Bodies.{atom_slot, is_element_type}

-- Expressions

-- A number with `u` is unsigned; one without has the kind w. Its value is in the range of 32 bits of its kind.
abbrev pub IsNumber : Kind → ℕ → Bool → Place → t.Expr → Type 0
IsNumber w v true p a = (plain_fits k.Unsigned v ≡ true) × (a ≡ t.typed (t.number v true p) (unsigned_type 32))
IsNumber w v false p a = (plain_fits w v ≡ true) × (a ≡ t.typed (t.number v false p) (plain_type w))

-- the typed arguments of a call, and the type of the call
pub record Called : Type 0 where
  pub args : t.Args
  pub ty : Ty

-- the call of a path with n arguments, whose typed trees `AreRead` gives for what is wanted of them
abbrev pub IsCalled : Scope → r.Path → ℕ → (List Want → t.Args → Type 0) → Called → Type 0
IsCalled g x n AreRead c =
    (f : Callee) × (callee g x.steps ≡ Some f) × (length (wants_of f) ≡ n) × AreRead (wants_of f) c.args
    × (all_suit g (wants_of f) c.args ≡ true) × (c.ty ≡ result_of f c.args)

-- An expression, where a plain number takes the kind w. If one of two operands is plain, it takes its kind from the
-- other; if both are plain, each is Int.
unfoldable mutual
  pub IsTyped : Scope → Kind → r.Expr → t.Expr → Type 0
  IsTyped g w (r.number v u p) a = IsNumber w v u p a
  IsTyped g w (r.truth b p) a = a ≡ t.typed (t.truth b p) bool
  IsTyped g w (r.reads x) a = (ty : Ty) × (value_type g x.steps ≡ Some ty) × (a ≡ t.typed (t.reads x) ty)
  IsTyped g w (r.calls x es) a =
      (xs : t.Args) × (ty : Ty) × IsCalled g x (count es) (λ ws bs. AreTyped g ws es bs) (record { args = xs; ty = ty })
      × (is_value g ty ≡ true) × (a ≡ t.typed (t.calls x xs) ty)
  IsTyped g w (r.index x e) a =
      (i : t.Expr) × (ty : Ty) × (item_type g x.steps ≡ Some ty) × IsTyped g k.Int e i × (is_index (t.ty_of i) ≡ true) × (a ≡ t.typed (t.index x i) ty)
  IsTyped g w (r.instance c) a = (is_species g c.ty ≡ true) × (a ≡ t.typed (t.instance c) (instance_type c.ty))
  IsTyped g w (r.group e p) a = (b : t.Expr) × IsTyped g w e b × (a ≡ t.typed (t.group b p) (t.ty_of b))
  IsTyped g w (r.cast c e p) a = (b : t.Expr) × (ty : Ty) × IsTyped g k.Int e b × (cast_type c.ty (t.ty_of b) ≡ Some ty) × (a ≡ t.typed (t.cast c b p) ty)
  IsTyped g w (r.prefix op e p) a = (b : t.Expr) × (ty : Ty) × IsTyped g k.Int e b × (prefix_type op (t.ty_of b) ≡ Some ty) × (a ≡ t.typed (t.prefix op b p) ty)
  IsTyped g w (r.pair op l r p) a =
      (b : t.Expr) × (c : t.Expr) × (ty : Ty)
      × IsTyped g (beside (plain r) (t.ty_of c)) l b × IsTyped g (beside (plain l) (t.ty_of b)) r c
      × (pair_type op (plain r) (t.ty_of b) (t.ty_of c) ≡ Some ty) × (a ≡ t.typed (t.pair op b c p) ty)
  IsTyped g w (r.is e c p) a = (b : t.Expr) × IsTyped g k.Int e b × (is_atom g (t.ty_of b) ≡ true) × (is_species g c.ty ≡ true) × (a ≡ t.typed (t.is b c p) bool)

  -- arguments, with what is wanted of each
  pub AreTyped : Scope → List Want → r.Args → t.Args → Type 0
  AreTyped g ws r.no_args xs = xs ≡ t.no_args
  AreTyped g [] (r.arg e es) xs = xs ≡ t.no_args
  AreTyped g (w ∷ ws) (r.arg e es) xs = (a : t.Expr) × (bs : t.Args) × IsTyped g (taken_want w) e a × AreTyped g ws es bs × (xs ≡ t.arg a bs)

-- the typed arguments of a call, and the type of the call
abbrev pub IsCall : Scope → r.Path → r.Args → t.Args → Ty → Type 0
IsCall g x es xs ty = IsCalled g x (count es) (λ ws bs. AreTyped g ws es bs) (record { args = xs; ty = ty })

-- Statements

abbrev pub IsLeftBy : Scope → r.Path → Option r.Expr → t.Left → Ty → Type 0
IsLeftBy g x None a ty = (target_type g x.steps ≡ Some ty) × (a ≡ record { path = x; index = None })
IsLeftBy g x (Some e) a ty =
    (i : t.Expr) × (item_type g x.steps ≡ Some ty) × IsTyped g k.Int e i × (is_index (t.ty_of i) ≡ true) × (a ≡ record { path = x; index = Some i })

-- a left side, and its type
abbrev pub IsLeftSide : Scope → r.Left → t.Left → Ty → Type 0
IsLeftSide g l a ty = IsLeftBy g l.path l.index a ty

-- a value for a type
abbrev pub IsValueFor : Scope → Ty → r.Expr → t.Expr → Type 0
IsValueFor g ty e a = IsTyped g (kind_from ty) e a × (assignable g ty (t.ty_of a) ≡ true)

-- the value of an assignment to a left side of this type, by `=`, or by an operator with `=`
abbrev pub IsAssigned : Scope → Ty → Option PairOp → r.Expr → t.Expr → Type 0
IsAssigned g ty None e a = IsValueFor g ty e a
IsAssigned g ty (Some op) e a = (sum : Ty) × IsTyped g (kind_from ty) e a × (pair_type op (plain e) ty (t.ty_of a) ≡ Some sum) × (assignable g ty sum ≡ true)

-- a condition
abbrev pub IsTest : Scope → r.Expr → t.Expr → Type 0
IsTest g e a = IsTyped g k.Int e a × (is_truth (t.ty_of a) ≡ true)

abbrev pub IsMaybe : (r.Expr → t.Expr → Type 0) → Option r.Expr → Option t.Expr → Type 0
IsMaybe P None a = a ≡ None
IsMaybe P (Some e) a = (b : t.Expr) × P e b × (a ≡ Some b)

-- the condition of an `if`, and the scope of its first branch
abbrev pub IsCond : Scope → r.Cond → t.Cond → Scope → Type 0
IsCond g (r.seen x c) a h = (n : ℕ) × (atom_slot g x.steps ≡ Some n) × (is_element_type g c.ty ≡ true) × (a ≡ t.seen x c) × (h ≡ scope_as g n c.ty)
IsCond g (r.test e) a h = (b : t.Expr) × IsTest g e b × (a ≡ t.test b) × (h ≡ g)

-- the value of a `return`, which has one exactly if the function has a result
abbrev pub IsResult : Scope → Option r.Expr → Option t.Expr → Type 0
IsResult g None a = (is_void g.result ≡ true) × (a ≡ None)
IsResult g (Some e) a = (b : t.Expr) × (is_void g.result ≡ false) × IsValueFor g g.result e b × (a ≡ Some b)

unfoldable mutual
  pub IsTypedStatement : Scope → r.Statement → t.Statement → Type 0
  IsTypedStatement g (r.block b) u = (a : t.Body) × IsTypedBody g b a × (u ≡ t.block a)
  IsTypedStatement g r.empty u = u ≡ t.empty
  IsTypedStatement g (r.if_so c x y) u =
      (d : t.Cond) × (h : Scope) × (v : t.Statement) × (z : t.Part) × IsCond g c d h × IsTypedStatement h x v × IsTypedPart g y z × (u ≡ t.if_so d v z)
  IsTypedStatement g (r.while_so e x) u = (a : t.Expr) × (v : t.Statement) × IsTest g e a × IsTypedStatement (in_loop g) x v × (u ≡ t.while_so a v)
  IsTypedStatement g (r.for_all x e y z) u =
      (a : t.Part) × (b : Option t.Expr) × (c : t.Part) × (v : t.Statement)
      × IsTypedPart g x a × IsMaybe (IsTest g) e b × IsTypedPart g y c × IsTypedStatement (in_loop g) z v × (u ≡ t.for_all a b c v)
  IsTypedStatement g (r.returns p e) u = (a : Option t.Expr) × IsResult g e a × (u ≡ t.returns p a)
  IsTypedStatement g (r.breaks p) u = (g.looped ≡ true) × (u ≡ t.breaks p)
  IsTypedStatement g (r.continues p) u = (g.looped ≡ true) × (u ≡ t.continues p)
  IsTypedStatement g (r.declares of n p e) u = (a : Option t.Expr) × (is_value g of.ty ≡ true) × IsMaybe (IsValueFor g of.ty) e a × (u ≡ t.declares of n p a)
  IsTypedStatement g (r.assigns l op e) u = (a : t.Left) × (ty : Ty) × (b : t.Expr) × IsLeftSide g l a ty × IsAssigned g ty op e b × (u ≡ t.assigns a op b)
  IsTypedStatement g (r.counts l up) u =
      (a : t.Left) × (ty : Ty) × (sum : Ty) × IsLeftSide g l a ty × (pair_type op.Add true ty (plain_type (kind_from ty)) ≡ Some sum) × (assignable g ty sum ≡ true) × (u ≡ t.counts a up)
  IsTypedStatement g (r.does x es) u = (xs : t.Args) × (ty : Ty) × IsCall g x es xs ty × (u ≡ t.does x xs)

  pub IsTypedPart : Scope → r.Part → t.Part → Type 0
  IsTypedPart g r.no_part u = u ≡ t.no_part
  IsTypedPart g (r.part x) u = (v : t.Statement) × IsTypedStatement g x v × (u ≡ t.part v)

  pub IsTypedBody : Scope → r.Body → t.Body → Type 0
  IsTypedBody g r.no_more u = u ≡ t.no_more
  IsTypedBody g (r.then_so x b) u = (v : t.Statement) × (c : t.Body) × IsTypedStatement g x v × IsTypedBody g b c × (u ≡ t.then_so v c)
