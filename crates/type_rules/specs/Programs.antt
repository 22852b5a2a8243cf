-- The walk over a program, class by class: it finds the typed tree, or the first fault.
use Rattle.std.specs.Prelude.{ℕ, ◌+◌, ◌||◌, not, List, [], ◌∷◌, ◌++◌, map, false, Option, Ok}
use Rattle.feast_base.specs.declared.place.Place.{Place}
use Rattle.ulam_tree.specs.declared.resolved.Ty.{Ty}
use Rattle.ulam_tree.specs.declared.resolved.Named.{Named}
use Rattle.ulam_tree.specs.Statements as s
use Rattle.ulam_tree.specs.Resolved as r
use Rattle.ulam_tree.specs.Typed as t
use Rattle.ulam_tree.specs.Locals.{all_locals}
use Rattle.ulam_tree.specs.Completes.{all_complete}
use Rattle.type_rules.specs.declared.scope.FieldSig.{FieldSig}
use Rattle.type_rules.specs.declared.scope.Want.{Want}
use Rattle.type_rules.specs.declared.scope.Want.TheVariants.{Value}
use Rattle.ulam_tree.specs.Found.{◌>>=◌, must, fault_of}
use Rattle.type_rules.specs.Faults.{Fault, wrong_type, missing_return, Found}
use Rattle.type_rules.specs.Scopes.{Scope, FunctionSig, ClassSig, is_value}
use Rattle.type_rules.specs.Rows.{is_void}
use Rattle.type_rules.specs.Bodies as b

-- Classes as expressions see them

abbrev pub fields_of : {E A : Type 0} → List (s.Member E A) → List FieldSig
fields_of [] = []
fields_of (s.field of w n ∷ ms) = record { ty = of.ty; length = n } ∷ fields_of ms
fields_of (s.function of w ps b ∷ ms) = fields_of ms

abbrev pub want_of : s.Param → Want
want_of p = Value p.of.ty

abbrev pub functions_of : {E A : Type 0} → List (s.Member E A) → List FunctionSig
functions_of [] = []
functions_of (s.field of w n ∷ ms) = functions_of ms
functions_of (s.function of w ps b ∷ ms) = record { result = of.ty; wants = map want_of ps } ∷ functions_of ms

abbrev pub class_sig : {E A : Type 0} → s.Class E A → ClassSig
class_sig c = record { quark = c.quark; fields = fields_of c.members; functions = functions_of c.members }

-- Functions

abbrev pub param_type : s.Param → Ty
param_type p = p.of.ty

-- the types of a function's slots: its parameters, and then its locals
abbrev pub slots_of : {E A : Type 0} → List s.Param → s.Body E A → List Ty
slots_of ps b = map param_type ps ++ all_locals b

-- the scope of a function's body
abbrev pub scope_of : {E A : Type 0} → List ClassSig → ℕ → Ty → List s.Param → s.Body E A → Scope
scope_of sigs k result ps b = record { classes = sigs; class = k; slots = slots_of ps b; result = result; looped = false }

abbrev pub params : Scope → List r.Param → Found (Unit {0})
params g [] = Ok tt
params g (p ∷ ps) = do
  _ ← must (is_value g p.of.ty) (wrong_type p.of.place)
  params g ps

-- a function: its result, its parameters and its body. The place p is that of its name.
abbrev pub function : Scope → Named → Place → List r.Param → r.Body → Found t.Body
function g of p ps x = do
  _ ← must (is_value g of.ty || is_void of.ty) (wrong_type of.place)
  _ ← params g ps
  a ← b.body g x
  _ ← must (is_void of.ty || not (all_complete x)) (missing_return p)
  Ok a

abbrev pub member : List ClassSig → ℕ → r.Member → Found t.Member
member sigs k (r.field of w n) = Ok (t.field of w n)
member sigs k (r.function of w ps x) = do
  a ← function (scope_of sigs k of.ty ps x) of w.place ps x
  Ok (t.function of w ps a)

abbrev pub members : List ClassSig → ℕ → List r.Member → Found (List t.Member)
members sigs k [] = Ok []
members sigs k (m ∷ ms) = do
  a ← member sigs k m
  more ← members sigs k ms
  Ok (a ∷ more)

abbrev pub class : List ClassSig → ℕ → r.Class → Found t.Class
class sigs k c = do
  ms ← members sigs k c.members
  Ok (record { quark = c.quark; word = c.word; members = ms })

abbrev pub classes : List ClassSig → ℕ → List r.Class → Found (List t.Class)
classes sigs k [] = Ok []
classes sigs k (c ∷ cs) = do
  a ← class sigs k c
  more ← classes sigs (k + 1) cs
  Ok (a ∷ more)

abbrev pub program : List r.Class → Found (List t.Class)
program cs = classes (map class_sig cs) 0 cs

-- the first fault in the order of the text
abbrev pub first_fault : List r.Class → Option Fault
first_fault cs = fault_of (program cs)
