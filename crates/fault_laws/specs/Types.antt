-- What holds at the place of the first fault of types: for each fault, in the words of its rule.
use Rattle.std.specs.Prelude.{ℕ, ◌≡◌, ◌≢◌, ◌⊎◌, true, false, List, length, Contains, Option, Some, None}
use Rattle.feast_base.specs.declared.place.Place.{Place}
use Rattle.sat_math.specs.declared.Kind.{Kind}
use Rattle.sat_math.specs.declared.Kind.TheVariants as k
use Rattle.ulam_tree.specs.declared.resolved.Ty.{Ty}
use Rattle.ulam_tree.specs.declared.resolved.Ty.TheVariants.{Nothing}
use Rattle.ulam_tree.specs.declared.resolved.Built.{Built}
use Rattle.ulam_tree.specs.declared.op.PairOp.{PairOp}
use Rattle.ulam_tree.specs.Resolved as r
use Rattle.ulam_tree.specs.Typed as t
use Rattle.type_rules.specs.declared.scope.Want.{Want}
use Rattle.type_rules.specs.Faults.{Fault, wrong_type, mixed_signs, not_assignable, wrong_count, bad_as, break_outside, missing_return}
use Rattle.type_rules.specs.Scopes.{Scope, FunctionSig, Callee, function, built, last_step, built_wants, wants_of}
use Rattle.type_rules.specs.Walk.{plain, place_of, count}
use Rattle.type_rules.specs.Programs.{first_fault}
use Rattle.type_rules.specs.Typing.{IsTyped, IsCall}
use Rattle.fault_laws.specs.TypesRows.{IsNumber, IsInt, IsUnsigned, IsBool, IsElement, IsAtom, IsSpecies, IsValue, IsIndex, Takes, Compares, AreMixed, IsForNumbers, IsRefused, TakesOne, IsTooLarge, IsTakenFrom, IsAssignable, MayBeLeft, HasValue, HasItems, Calls, Suits}
use Rattle.fault_laws.specs.TypesParts.{Part, a_function, a_statement, a_condition, a_left, a_value, an_item, a_call, an_expr, IsIn, Stops, IsArg, IsAtomLocal, TypedLeft, IsBeside, IsWanted, Stands}

-- an expression with its type, where it takes the kind Int if it is a plain number
pub record TypedAlone (g : Scope) (e : r.Expr) : Type 0 where
  pub expr : t.Expr
  pub is : IsTyped g k.Int e expr

-- the operands of an operator with their types, where a plain one takes its kind from the other
pub record TypedPair (g : Scope) (x y : r.Expr) : Type 0 where
  pub left : t.Expr
  pub right : t.Expr
  pub left_kind : Kind
  pub right_kind : Kind
  pub left_takes : plain x ≡ true → IsBeside g y left_kind
  pub right_takes : plain y ≡ true → IsBeside g x right_kind
  pub left_is : IsTyped g left_kind x left
  pub right_is : IsTyped g right_kind y right

-- a value with its type, where a plain number takes its kind from the type that it is for
pub record TypedFor (g : Scope) (ty : Ty) (e : r.Expr) : Type 0 where
  pub expr : t.Expr
  pub kind : Kind
  pub takes : IsTakenFrom ty kind
  pub is : IsTyped g kind e expr

-- a left side and what an operator with `=` computes with it, with their types
pub record TypedUpdate (g : Scope) (l : r.Left) (e : r.Expr) : Type 0 where
  pub to : TypedLeft g l
  pub value : TypedFor g to.ty e

-- one of the arguments is not what is wanted of it
pub record Misfit (g : Scope) (ws : List Want) (es : r.Args) : Type 0 where
  pub want : Want
  pub arg : r.Expr
  pub expr : t.Expr
  pub kind : Kind
  pub stands : IsArg want arg ws es
  pub takes : IsWanted want kind
  pub is : IsTyped g kind arg expr
  pub unfit : Suits g want expr → ⊥

-- Wrong type: a result, a parameter or a local that has no type of values; a `return` with a value where there is no result,
-- or without one where there is; a condition that is no truth value; square brackets after what has no items, or around
-- what is no number; a call of what is no function, of a built-in function with another argument than it takes, or
-- without a value where one is needed; a number that is too large; a path without a value; an operator or a cast of types
-- that it does not take; `is` after what is no atom.
abbrev pub IsWrongType : Scope → Part → Place → Type 0
IsWrongType g (a_function of w ps b) p =
    ((p ≡ of.place) × (IsValue g of.ty ⊎ (of.ty ≡ Nothing) → ⊥)) ⊎ ((q : r.Param) × Contains ps q × (p ≡ q.of.place) × (IsValue g q.of.ty → ⊥))
IsWrongType g (a_statement (r.declares of n q e)) p = (p ≡ of.place) × (IsValue g of.ty → ⊥)
IsWrongType g (a_statement (r.returns q None)) p = (p ≡ q) × (g.result ≢ Nothing)
IsWrongType g (a_statement (r.returns q (Some e))) p = (p ≡ q) × (g.result ≡ Nothing)
IsWrongType g (a_statement (r.assigns l (Some op) e)) p = (p ≡ l.path.place) × (u : TypedUpdate g l e) × IsRefused op (plain e) u.to.ty (t.ty_of u.value.expr)
IsWrongType g (a_statement (r.counts l up)) p = (p ≡ l.path.place) × (to : TypedLeft g l) × (IsInt to.ty ⊎ IsUnsigned to.ty → ⊥)
IsWrongType g (a_condition e) p = (p ≡ place_of e) × (a : TypedAlone g e) × (IsBool (t.ty_of a.expr) → ⊥)
IsWrongType g (an_item x e) p = (p ≡ x.place) × ((HasItems g (last_step x.steps) → ⊥) ⊎ ((a : TypedAlone g e) × (IsIndex (t.ty_of a.expr) → ⊥)))
IsWrongType g (a_call x es) p = (p ≡ x.place) × (((f : Callee) → Calls g x.steps f → ⊥) ⊎ ((b : Built) × Calls g x.steps (built b) × Misfit g (built_wants b) es))
IsWrongType g (an_expr kind (r.number v u q)) p = (p ≡ q) × IsTooLarge kind v u
IsWrongType g (an_expr kind (r.reads x)) p = (p ≡ x.place) × (HasValue g (last_step x.steps) → ⊥)
IsWrongType g (an_expr kind (r.calls x es)) p = (p ≡ x.place) × (xs : t.Args) × (ty : Ty) × IsCall g x es xs ty × (IsValue g ty → ⊥)
IsWrongType g (an_expr kind (r.cast c e q)) p = (p ≡ q) × (a : TypedAlone g e) × (IsNumber c.ty × IsNumber (t.ty_of a.expr) → ⊥)
IsWrongType g (an_expr kind (r.prefix op e q)) p = (p ≡ q) × (a : TypedAlone g e) × (TakesOne op (t.ty_of a.expr) → ⊥)
IsWrongType g (an_expr kind (r.pair op x y q)) p = (p ≡ q) × (o : TypedPair g x y) × IsRefused op (plain y) (t.ty_of o.left) (t.ty_of o.right)
IsWrongType g (an_expr kind (r.is e c q)) p = (p ≡ q) × (a : TypedAlone g e) × (IsAtom g (t.ty_of a.expr) → ⊥)
IsWrongType g x p = ⊥

-- Signed with unsigned: an operator for numbers between one with a sign and one without.
abbrev pub IsMixed : Scope → Part → Place → Type 0
IsMixed g (a_statement (r.assigns l (Some op) e)) p = (p ≡ l.path.place) × IsForNumbers op × (u : TypedUpdate g l e) × AreMixed u.to.ty (t.ty_of u.value.expr)
IsMixed g (an_expr kind (r.pair op x y q)) p = (p ≡ q) × IsForNumbers op × (o : TypedPair g x y) × AreMixed (t.ty_of o.left) (t.ty_of o.right)
IsMixed g x p = ⊥

-- Not assignable: what may not stand on a left side; a value for another type, by `=`, in a declaration or a `return`; by an
-- operator with `=` only a truth value, of a comparison, which no text has there; an argument for a parameter of another type.
abbrev pub IsUnassignable : Scope → Part → Place → Type 0
IsUnassignable g (a_left l) p = (p ≡ l.path.place) × (l.index ≡ None) × (MayBeLeft g (last_step l.path.steps) → ⊥)
IsUnassignable g (a_value q ty e) p = (p ≡ q) × (a : TypedFor g ty e) × (IsAssignable g ty (t.ty_of a.expr) → ⊥)
IsUnassignable g (a_statement (r.assigns l (Some op) e)) p =
    (p ≡ l.path.place) × Compares op × (u : TypedUpdate g l e) × Takes op (plain e) u.to.ty (t.ty_of u.value.expr) × (IsBool u.to.ty → ⊥)
IsUnassignable g (a_call x es) p = (p ≡ x.place) × (f : FunctionSig) × Calls g x.steps (function f) × Misfit g f.wants es
IsUnassignable g x p = ⊥

-- Wrong number of arguments: a call of a function that takes more or fewer.
abbrev pub IsMiscounted : Scope → Part → Place → Type 0
IsMiscounted g (a_call x es) p = (p ≡ x.place) × (f : Callee) × Calls g x.steps f × (length (wants_of f) ≢ count es)
IsMiscounted g x p = ⊥

-- Not an element: after `is`, `as` or before `instanceof` a type that is none, or before `as` what is no local of type `Atom`.
abbrev pub IsNoElement : Scope → Part → Place → Type 0
IsNoElement g (a_statement (r.if_so (r.seen x c) y z)) p = ((p ≡ x.place) × ((slot : ℕ) → IsAtomLocal g x slot → ⊥)) ⊎ ((p ≡ c.place) × (IsElement g c.ty → ⊥))
IsNoElement g (an_expr kind (r.instance c)) p = (p ≡ c.place) × (IsSpecies g c.ty → ⊥)
IsNoElement g (an_expr kind (r.is e c q)) p = (p ≡ c.place) × (IsSpecies g c.ty → ⊥)
IsNoElement g x p = ⊥

-- Not in a loop: `break` or `continue` with no loop around.
abbrev pub IsOutside : Scope → Part → Place → Type 0
IsOutside g (a_statement (r.breaks q)) p = (p ≡ q) × (g.looped ≡ false)
IsOutside g (a_statement (r.continues q)) p = (p ≡ q) × (g.looped ≡ false)
IsOutside g x p = ⊥

-- Missing return: a function has a result, and none of its statements stops before its end.
abbrev pub LacksReturn : Scope → Part → Place → Type 0
LacksReturn g (a_function of w ps b) p = (p ≡ w.place) × (of.ty ≢ Nothing) × ((x : r.Statement) → IsIn x b → Stops x → ⊥)
LacksReturn g x p = ⊥

-- a part of the program breaks a rule, at the place
pub record Breaks (cs : List r.Class) (Rule : Scope → Part → Place → Type 0) (place : Place) : Type 0 where
  pub scope : Scope
  pub part : Part
  pub stands : Stands cs scope part
  pub is : Rule scope part place

-- what a fault says of its place
abbrev pub FaultHolds : List r.Class → Fault → Type 0
FaultHolds cs (wrong_type p) = Breaks cs IsWrongType p
FaultHolds cs (mixed_signs p) = Breaks cs IsMixed p
FaultHolds cs (not_assignable p) = Breaks cs IsUnassignable p
FaultHolds cs (wrong_count p) = Breaks cs IsMiscounted p
FaultHolds cs (bad_as p) = Breaks cs IsNoElement p
FaultHolds cs (break_outside p) = Breaks cs IsOutside p
FaultHolds cs (missing_return p) = Breaks cs LacksReturn p

-- wherever a program is refused for a fault, a part of it breaks this rule at the place
abbrev pub BreaksWhere : (Place → Fault) → (Scope → Part → Place → Type 0) → Type 0
BreaksWhere fault Rule = (program : List r.Class) (place : Place) → first_fault program ≡ Some (fault place) → Breaks program Rule place
