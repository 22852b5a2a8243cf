-- What stands in a program, and what is known where it stands.
use Rattle.std.specs.Prelude.{ℕ, ◌≡◌, ◌≢◌, ◌⊎◌, Bool, true, false, List, [], ◌∷◌, map, length, Contains, slice_get, slice_set, Option, Some, None}
use Rattle.feast_base.specs.declared.place.Place.{Place}
use Rattle.sat_math.specs.declared.Kind.{Kind}
use Rattle.sat_math.specs.declared.Kind.TheVariants as k
use Rattle.ulam_tree.specs.declared.resolved.Ty.{Ty}
use Rattle.ulam_tree.specs.declared.resolved.Ty.TheVariants.{Atom, Nothing}
use Rattle.ulam_tree.specs.declared.resolved.Named.{Named}
use Rattle.ulam_tree.specs.declared.resolved.Step.TheVariants.{Local}
use Rattle.ulam_tree.specs.declared.op.PrefixOp.{PrefixOp}
use Rattle.ulam_tree.specs.declared.op.PairOp.{PairOp}
use Rattle.ulam_tree.specs.Raw.{Word}
use Rattle.ulam_tree.specs.Resolved as r
use Rattle.ulam_tree.specs.Typed as t
use Rattle.type_rules.specs.declared.scope.Want.{Want}
use Rattle.type_rules.specs.declared.scope.Want.TheVariants.{Value}
use Rattle.type_rules.specs.Scopes.{Scope, Callee, wants_of}
use Rattle.type_rules.specs.Walk.{plain, count}
use Rattle.type_rules.specs.Programs.{class_sig, scope_of}
use Rattle.type_rules.specs.Typing.{IsTyped, IsLeftSide}
use Rattle.fault_laws.specs.TypesRows.{IsElement, IsTakenFrom, IsLocal, Calls}

-- What a rule is about: a function with its result, its name, its parameters and its body; a statement; a condition; a left
-- side; a value for a type, with the place of what it is for; a path with an index in square brackets; a call; or an
-- expression, with the kind that it takes if it is a plain number.
pub data Part : Type 0 where
  a_function : Named → Word → List r.Param → r.Body → Part
  a_statement : r.Statement → Part
  a_condition : r.Expr → Part
  a_left : r.Left → Part
  a_value : Place → Ty → r.Expr → Part
  an_item : r.Path → r.Expr → Part
  a_call : r.Path → r.Args → Part
  an_expr : Kind → r.Expr → Part

-- x is one of the statements of a body
abbrev pub IsIn : r.Statement → r.Body → Type 0
IsIn x r.no_more = ⊥
IsIn x (r.then_so y b) = (y ≡ x) ⊎ IsIn x b

-- a statement behind which no other is reached
pub data Stops : r.Statement → Type 0 where
  returning : (p : Place) (e : Option r.Expr) → Stops (r.returns p e)
  breaking : (p : Place) → Stops (r.breaks p)
  continuing : (p : Place) → Stops (r.continues p)
  inside : (b : r.Body) (x : r.Statement) → IsIn x b → Stops x → Stops (r.block b)
  in_both : (c : r.Cond) (x y : r.Statement) → Stops x → Stops y → Stops (r.if_so c x (r.part y))

-- e is one of the arguments, and w is what is wanted of it
abbrev pub IsArg : Want → r.Expr → List Want → r.Args → Type 0
IsArg w e (v ∷ ws) (r.arg d es) = ((v ≡ w) × (d ≡ e)) ⊎ IsArg w e ws es
IsArg w e ws es = ⊥

-- a name alone, of a local or parameter of type `Atom`
abbrev pub IsAtomLocal : Scope → r.Path → ℕ → Type 0
IsAtomLocal g x slot = (x.steps ≡ Local slot ∷ []) × IsLocal g slot Atom

-- what is known in the first branch of an `if`: after `x as T`, x has the type T
abbrev pub Sees : Scope → r.Cond → Scope → Type 0
Sees g (r.seen x c) h = (slot : ℕ) × IsAtomLocal g x slot × IsElement g c.ty × (h ≡ record g { slots = slice_set g.slots slot c.ty })
Sees g (r.test e) h = h ≡ g

-- what is known in the body of a loop
abbrev pub in_a_loop : Scope → Scope
in_a_loop g = record g { looped = true }

-- a left side with its type
pub record TypedLeft (g : Scope) (l : r.Left) : Type 0 where
  pub left : t.Left
  pub ty : Ty
  pub is : IsLeftSide g l left ty

-- the kind that a plain number takes beside e: Int beside a plain number, else that of the type of e
abbrev pub IsBeside : Scope → r.Expr → Kind → Type 0
IsBeside g e v = ((plain e ≡ true) × (v ≡ k.Int)) ⊎ ((plain e ≡ false) × (a : t.Expr) × IsTyped g k.Int e a × IsTakenFrom (t.ty_of a) v)

-- the kind that a plain argument takes: that of its parameter's type, and Int where a site or a bound is wanted
abbrev pub IsWanted : Want → Kind → Type 0
IsWanted (Value ty) v = IsTakenFrom ty v
IsWanted want v = v ≡ k.Int

-- Each part stands in the program, with what is known there.
pub data Stands (cs : List r.Class) : Scope → Part → Type 0 where
  -- functions and statements
  in_class : {c : r.Class} {of : Named} {w : Word} {ps : List r.Param} {b : r.Body} (n : ℕ) → slice_get cs n ≡ Some c → Contains c.members (r.function of w ps b) → Stands cs (scope_of (map class_sig cs) n of.ty ps b) (a_function of w ps b)
  in_body : {g : Scope} {of : Named} {w : Word} {ps : List r.Param} {b : r.Body} (x : r.Statement) → Stands cs g (a_function of w ps b) → IsIn x b → Stands cs g (a_statement x)
  in_block : {g : Scope} {b : r.Body} (x : r.Statement) → Stands cs g (a_statement (r.block b)) → IsIn x b → Stands cs g (a_statement x)
  in_first : {g : Scope} {c : r.Cond} {x : r.Statement} {y : r.Part} (h : Scope) → Stands cs g (a_statement (r.if_so c x y)) → Sees g c h → Stands cs h (a_statement x)
  in_else : {g : Scope} {c : r.Cond} {x y : r.Statement} → Stands cs g (a_statement (r.if_so c x (r.part y))) → Stands cs g (a_statement y)
  in_while : {g : Scope} {e : r.Expr} {x : r.Statement} → Stands cs g (a_statement (r.while_so e x)) → Stands cs (in_a_loop g) (a_statement x)
  in_for : {g : Scope} {x : r.Part} {e : Option r.Expr} {y : r.Part} {z : r.Statement} → Stands cs g (a_statement (r.for_all x e y z)) → Stands cs (in_a_loop g) (a_statement z)
  for_first : {g : Scope} {x : r.Statement} {e : Option r.Expr} {y : r.Part} {z : r.Statement} → Stands cs g (a_statement (r.for_all (r.part x) e y z)) → Stands cs g (a_statement x)
  for_step : {g : Scope} {x : r.Part} {e : Option r.Expr} {y z : r.Statement} → Stands cs g (a_statement (r.for_all x e (r.part y) z)) → Stands cs g (a_statement y)
  -- conditions, left sides, values, items and calls
  if_asks : {g : Scope} {e : r.Expr} {x : r.Statement} {y : r.Part} → Stands cs g (a_statement (r.if_so (r.test e) x y)) → Stands cs g (a_condition e)
  while_asks : {g : Scope} {e : r.Expr} {x : r.Statement} → Stands cs g (a_statement (r.while_so e x)) → Stands cs g (a_condition e)
  for_asks : {g : Scope} {x : r.Part} {e : r.Expr} {y : r.Part} {z : r.Statement} → Stands cs g (a_statement (r.for_all x (Some e) y z)) → Stands cs g (a_condition e)
  assigned : {g : Scope} {l : r.Left} {op : Option PairOp} {e : r.Expr} → Stands cs g (a_statement (r.assigns l op e)) → Stands cs g (a_left l)
  counted : {g : Scope} {l : r.Left} {up : Bool} → Stands cs g (a_statement (r.counts l up)) → Stands cs g (a_left l)
  assigned_value : {g : Scope} {l : r.Left} {e : r.Expr} → Stands cs g (a_statement (r.assigns l None e)) → (to : TypedLeft g l) → Stands cs g (a_value l.path.place to.ty e)
  declared_value : {g : Scope} {of : Named} {n : ℕ} {p : Place} {e : r.Expr} → Stands cs g (a_statement (r.declares of n p (Some e))) → Stands cs g (a_value p of.ty e)
  returned_value : {g : Scope} {p : Place} {e : r.Expr} → Stands cs g (a_statement (r.returns p (Some e))) → g.result ≢ Nothing → Stands cs g (a_value p g.result e)
  left_item : {g : Scope} {l : r.Left} {e : r.Expr} → Stands cs g (a_left l) → l.index ≡ Some e → Stands cs g (an_item l.path e)
  read_item : {g : Scope} {v : Kind} {x : r.Path} {e : r.Expr} → Stands cs g (an_expr v (r.index x e)) → Stands cs g (an_item x e)
  done_call : {g : Scope} {x : r.Path} {es : r.Args} → Stands cs g (a_statement (r.does x es)) → Stands cs g (a_call x es)
  value_call : {g : Scope} {v : Kind} {x : r.Path} {es : r.Args} → Stands cs g (an_expr v (r.calls x es)) → Stands cs g (a_call x es)
  -- expressions
  of_condition : {g : Scope} {e : r.Expr} → Stands cs g (a_condition e) → Stands cs g (an_expr k.Int e)
  of_item : {g : Scope} {x : r.Path} {e : r.Expr} → Stands cs g (an_item x e) → Stands cs g (an_expr k.Int e)
  of_value : {g : Scope} {p : Place} {ty : Ty} {e : r.Expr} {v : Kind} → Stands cs g (a_value p ty e) → IsTakenFrom ty v → Stands cs g (an_expr v e)
  of_return : {g : Scope} {p : Place} {e : r.Expr} {v : Kind} → Stands cs g (a_statement (r.returns p (Some e))) → IsTakenFrom g.result v → Stands cs g (an_expr v e)
  of_update : {g : Scope} {l : r.Left} {op : PairOp} {e : r.Expr} {v : Kind} → Stands cs g (a_statement (r.assigns l (Some op) e)) → (to : TypedLeft g l) → IsTakenFrom to.ty v → Stands cs g (an_expr v e)
  of_call : {g : Scope} {x : r.Path} {es : r.Args} {v : Kind} (f : Callee) (w : Want) (e : r.Expr) → Stands cs g (a_call x es) → Calls g x.steps f → length (wants_of f) ≡ count es → IsArg w e (wants_of f) es → IsWanted w v → Stands cs g (an_expr v e)
  of_group : {g : Scope} {v : Kind} {e : r.Expr} {p : Place} → Stands cs g (an_expr v (r.group e p)) → Stands cs g (an_expr v e)
  of_cast : {g : Scope} {v : Kind} {c : Named} {e : r.Expr} {p : Place} → Stands cs g (an_expr v (r.cast c e p)) → Stands cs g (an_expr k.Int e)
  of_prefix : {g : Scope} {v : Kind} {op : PrefixOp} {e : r.Expr} {p : Place} → Stands cs g (an_expr v (r.prefix op e p)) → Stands cs g (an_expr k.Int e)
  of_is : {g : Scope} {v : Kind} {e : r.Expr} {c : Named} {p : Place} → Stands cs g (an_expr v (r.is e c p)) → Stands cs g (an_expr k.Int e)
  of_left : {g : Scope} {v : Kind} {op : PairOp} {x y : r.Expr} {p : Place} (w : Kind) → Stands cs g (an_expr v (r.pair op x y p)) → (plain x ≡ true → IsBeside g y w) → Stands cs g (an_expr w x)
  of_right : {g : Scope} {v : Kind} {op : PairOp} {x y : r.Expr} {p : Place} (w : Kind) → Stands cs g (an_expr v (r.pair op x y p)) → (plain y ≡ true → IsBeside g x w) → Stands cs g (an_expr w y)
