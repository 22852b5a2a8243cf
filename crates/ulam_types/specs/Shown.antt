-- What the code knows and answers, as the definitions have it.
use Rattle.std.specs.Prelude.{◌≡◌, List, [], ◌∷◌, map, Option, None, Some, MatchOption, Result, Ok, Err}
use Rattle.ulam_tree.specs.Typed as t
use Rattle.ulam_tree.specs.TypedViews.{typed_expr, typed_statement}
use Rattle.ulam_tree.specs.declared.typed.Expr.{Expr}
use Rattle.ulam_tree.specs.declared.typed.Statement.{Statement}
use Rattle.ulam_types.specs.declared.fault.TypeFault.{TypeFault}
use Rattle.ulam_types.specs.declared.fault.TypeFault.TheVariants as e
use Rattle.ulam_types.specs.declared.scope.FunctionSig.{FunctionSig}
use Rattle.ulam_types.specs.declared.scope.ClassSig.{ClassSig}
use Rattle.ulam_types.specs.declared.scope.Scope.{Scope}
use Rattle.ulam_tree.specs.Found.{◌>>=◌}
use Rattle.type_rules.specs.Faults.{Found, wrong_type, mixed_signs, not_assignable, wrong_count, bad_as, break_outside, missing_return}
use Rattle.type_rules.specs.Scopes as s

abbrev pub function_view : FunctionSig → s.FunctionSig
function_view f = record { result = f.result; wants = f.wants.items }

abbrev pub class_view : ClassSig → s.ClassSig
class_view c = record { quark = c.quark; fields = c.fields.items; functions = map function_view c.functions.items }

abbrev pub sigs_view : List ClassSig → List s.ClassSig
sigs_view cs = map class_view cs

-- the scope in which the code is
abbrev pub here : Scope → s.Scope
here g = record { classes = sigs_view g.classes.now; class = g.class; slots = g.slots.now; result = g.result; looped = g.looped }

-- what a function finds is what the definitions find
abbrev pub Finds : {X A : Type 0} → (X → A) → Option X → Option A → Type 0
Finds view result found = MatchOption result (found ≡ None) (λ x. found ≡ Some (view x))

-- the walk ends with this fault, unless memory ran out
abbrev pub Fails : {A : Type 0} → TypeFault → Found A → Type 0
Fails (e.WrongType p) x = x ≡ Err (wrong_type p)
Fails (e.MixedSigns p) x = x ≡ Err (mixed_signs p)
Fails (e.NotAssignable p) x = x ≡ Err (not_assignable p)
Fails (e.WrongCount p) x = x ≡ Err (wrong_count p)
Fails (e.BadAs p) x = x ≡ Err (bad_as p)
Fails (e.BreakOutside p) x = x ≡ Err (break_outside p)
Fails (e.MissingReturn p) x = x ≡ Err (missing_return p)
Fails e.NoMemory x = Unit {0}

-- what a function gives, seen as a tree, is what the walk finds, unless memory ran out
abbrev pub Gives : {X A : Type 0} → (X → A) → Result X TypeFault → Found A → Type 0
Gives view (Ok x) found = found ≡ Ok (view x)
Gives view (Err e) found = Fails e found

-- arguments, and then more
abbrev pub join_args : List Expr → t.Args → t.Args
join_args [] more = more
join_args (e ∷ es) more = t.arg (typed_expr e) (join_args es more)

-- arguments, and then those that the walk finds
abbrev pub with_args : List Expr → Found t.Args → Found t.Args
with_args front found = found >>= λ (more : t.Args). Ok (join_args front more)

-- statements, and then more
abbrev pub join_body : List Statement → t.Body → t.Body
join_body [] more = more
join_body (x ∷ xs) more = t.then_so (typed_statement x) (join_body xs more)

-- statements, and then those that the walk finds
abbrev pub with_body : List Statement → Found t.Body → Found t.Body
with_body front found = found >>= λ (more : t.Body). Ok (join_body front more)
