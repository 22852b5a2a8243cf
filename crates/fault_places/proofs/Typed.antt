-- The first fault of types stands at a place of the classes, and so do the names of typed classes.
use Rattle.std.proofs.Common.{ℕ, ◌+◌, ◌≡◌, true, not, ◌||◌, map, List, [], ◌∷◌, Option, Some, None, sym, subst}
use Rattle.feast_base.specs.declared.place.Place.{Place}
use Rattle.sat_math.specs.declared.Kind.TheVariants as k
use Rattle.ulam_tree.specs.declared.resolved.Ty.{Ty}
use Rattle.ulam_tree.specs.declared.resolved.Named.{Named}
use Rattle.ulam_tree.specs.declared.op.PairOp.{PairOp}
use Rattle.ulam_tree.specs.declared.op.PairOp.TheVariants as op
use Rattle.ulam_tree.specs.Completes.{all_complete}
use Rattle.ulam_tree.specs.Resolved as r
use Rattle.ulam_tree.specs.Typed as t
use Rattle.type_rules.specs.Faults.{Fault, Found}
use Rattle.type_rules.specs.Scopes.{Scope, ClassSig, in_loop, is_value, target_type}
use Rattle.type_rules.specs.Rows.{kind_from, plain_type, pair_found, is_truth, is_void, assignable}
use Rattle.type_rules.specs.Walk.{plain, expr, call, item}
use Rattle.type_rules.specs.Bodies as b
use Rattle.type_rules.specs.Bodies.{atom_slot, is_element_type}
use Rattle.type_rules.specs.Programs as p
use Rattle.type_rules.specs.Programs.{class_sig, scope_of}
use Rattle.type_rules.specs.ProgramTyping.{AreTypedClasses, IsTypedProgram}
use Rattle.fault_places.specs.Common.{OfPlace, IfAny, Each}
use Rattle.fault_places.specs.Faults.{TypesPlace}
use Rattle.fault_places.specs.Resolved.{ExprPlaces, CondPlaces, StatementPlaces, PartPlaces, BodyPlaces, ParamPlaces, MemberPlaces, ClassPlaces, NamePlace, ProgramPlaces}
use Rattle.fault_places.proofs.Ends.{Any, ends_found, ends_must, ends_fault}
use Rattle.fault_places.proofs.Typing.{Fails, fails_then, place_placed, pair_fails, expr_fails, call_fails, item_fails}

-- Parts of statements

left_fails : (P : OfPlace) (g : Scope) (x : r.Path) (e : Option r.Expr) → P x.place → IfAny (ExprPlaces P) e → Fails P (b.left_by g x e)
left_fails P g x None h he = ends_found (TypesPlace P) Any (target_type g x.steps) _ _ h (λ ty. tt)
left_fails P g x (Some e) h he = fails_then P (item g x e) _ (item_fails P g x e h he) (λ i. tt)

value_fails : (P : OfPlace) (g : Scope) (at : Place) (ty : Ty) → P at → (e : r.Expr) → ExprPlaces P e → Fails P (b.value_for g at ty e)
value_fails P g at ty h e he =
    fails_then P (expr g (kind_from ty) e) _ (expr_fails P g (kind_from ty) e he) (λ a.
    ends_must (TypesPlace P) Any (assignable g ty (t.ty_of a)) _ _ h tt)

assigned_fails : (P : OfPlace) (g : Scope) (at : Place) (ty : Ty) (op : Option PairOp) (e : r.Expr) → P at → ExprPlaces P e → Fails P (b.assigned_value g at ty op e)
assigned_fails P g at ty None e h he = value_fails P g at ty h e he
assigned_fails P g at ty (Some op) e h he =
    fails_then P (expr g (kind_from ty) e) _ (expr_fails P g (kind_from ty) e he) (λ a.
    fails_then P (pair_found at op (plain e) ty (t.ty_of a)) _ (pair_fails P at op (plain e) ty (t.ty_of a) h) (λ sum.
    ends_must (TypesPlace P) Any (assignable g ty sum) _ _ h tt))

test_fails : (P : OfPlace) (g : Scope) (e : r.Expr) → ExprPlaces P e → Fails P (b.test g e)
test_fails P g e he =
    fails_then P (expr g k.Int e) _ (expr_fails P g k.Int e he) (λ a.
    ends_must (TypesPlace P) Any (is_truth (t.ty_of a)) _ _ (place_placed P e he) tt)

maybe_fails : (P : OfPlace) (walk : r.Expr → Found t.Expr) → ((e : r.Expr) → ExprPlaces P e → Fails P (walk e)) → (e : Option r.Expr) → IfAny (ExprPlaces P) e → Fails P (b.maybe walk e)
maybe_fails P walk each None he = tt
maybe_fails P walk each (Some e) he = fails_then P (walk e) _ (each e he) (λ a. tt)

cond_fails : (P : OfPlace) (g : Scope) (c : r.Cond) → CondPlaces P c → Fails P (b.cond g c)
cond_fails P g (r.seen x c) h =
    ends_found (TypesPlace P) Any (atom_slot g x.steps) _ _ h.0 (λ n.
    ends_must (TypesPlace P) Any (is_element_type g c.ty) _ _ h.1 tt)
cond_fails P g (r.test e) h = fails_then P (b.test g e) _ (test_fails P g e h) (λ a. tt)

result_fails : (P : OfPlace) (g : Scope) (at : Place) (e : Option r.Expr) → P at → IfAny (ExprPlaces P) e → Fails P (b.result g at e)
result_fails P g at None h he = ends_must (TypesPlace P) Any (is_void g.result) _ _ h tt
result_fails P g at (Some e) h he =
    fails_then P (expr g (kind_from g.result) e) _ (expr_fails P g (kind_from g.result) e he) (λ a.
    ends_must (TypesPlace P) Any (not (is_void g.result)) _ _ h
    (ends_must (TypesPlace P) Any (assignable g g.result (t.ty_of a)) _ _ h tt))

-- Statements

mutual
  unfolding b.statement

  statement_fails : (P : OfPlace) (g : Scope) (x : r.Statement) → StatementPlaces P x → Fails P (b.statement g x)
  statement_fails P g (r.block x) h = fails_then P (b.body g x) _ (body_fails P g x h) (λ a. tt)
  statement_fails P g r.empty h = tt
  statement_fails P g (r.if_so c x y) h =
      fails_then P (b.branch g c (λ s. b.statement s x)) _
      (fails_then P (b.cond g c) _ (cond_fails P g c h.0) (λ d.
      fails_then P (b.statement d.1 x) _ (statement_fails P d.1 x h.1) (λ v. tt)))
      (λ d. fails_then P (b.part g y) _ (part_fails P g y h.2) (λ z. tt))
  statement_fails P g (r.while_so e x) h =
      fails_then P (b.test g e) _ (test_fails P g e h.0) (λ a.
      fails_then P (b.statement (in_loop g) x) _ (statement_fails P (in_loop g) x h.1) (λ v. tt))
  statement_fails P g (r.for_all x e y z) h =
      fails_then P (b.part g x) _ (part_fails P g x h.0) (λ a.
      fails_then P (b.maybe (b.test g) e) _ (maybe_fails P (b.test g) (test_fails P g) e h.1) (λ d.
      fails_then P (b.part g y) _ (part_fails P g y h.2) (λ c.
      fails_then P (b.statement (in_loop g) z) _ (statement_fails P (in_loop g) z h.3) (λ v. tt))))
  statement_fails P g (r.returns at e) h = fails_then P (b.result g at e) _ (result_fails P g at e h.0 h.1) (λ a. tt)
  statement_fails P g (r.breaks at) h = ends_must (TypesPlace P) Any g.looped _ _ h tt
  statement_fails P g (r.continues at) h = ends_must (TypesPlace P) Any g.looped _ _ h tt
  statement_fails P g (r.declares of n at e) h =
      ends_must (TypesPlace P) Any (is_value g of.ty) _ _ h.0
      (fails_then P (b.maybe (b.value_for g at of.ty) e) _ (maybe_fails P (b.value_for g at of.ty) (value_fails P g at of.ty h.1) e h.2) (λ a. tt))
  statement_fails P g (r.assigns l op e) h =
      fails_then P (b.left_side g l) _ (left_fails P g l.path l.index h.0.0 h.0.1) (λ a.
      fails_then P (b.assigned_value g l.path.place a.1 op e) _ (assigned_fails P g l.path.place a.1 op e h.0.0 h.1) (λ d. tt))
  statement_fails P g (r.counts l up) h =
      fails_then P (b.left_side g l) _ (left_fails P g l.path l.index h.0 h.1) (λ a.
      fails_then P (pair_found l.path.place op.Add true a.1 (plain_type (kind_from a.1))) _ (pair_fails P l.path.place op.Add true a.1 (plain_type (kind_from a.1)) h.0) (λ sum.
      ends_must (TypesPlace P) Any (assignable g a.1 sum) _ _ h.0 tt))
  statement_fails P g (r.does x es) h = fails_then P (call g x es) _ (call_fails P g x es h.0 h.1) (λ c. tt)

  part_fails : (P : OfPlace) (g : Scope) (x : r.Part) → PartPlaces P x → Fails P (b.part g x)
  part_fails P g r.no_part h = tt
  part_fails P g (r.part x) h = fails_then P (b.statement g x) _ (statement_fails P g x h) (λ u. tt)

  body_fails : (P : OfPlace) (g : Scope) (x : r.Body) → BodyPlaces P x → Fails P (b.body g x)
  body_fails P g r.no_more h = tt
  body_fails P g (r.then_so x y) h =
      fails_then P (b.statement g x) _ (statement_fails P g x h.0) (λ u.
      fails_then P (b.body g y) _ (body_fails P g y h.1) (λ c. tt))

-- Functions, classes and programs

params_fail : (P : OfPlace) (g : Scope) (ps : List r.Param) → Each (ParamPlaces P) ps → Fails P (p.params g ps)
params_fail P g [] h = tt
params_fail P g (x ∷ ps) h = ends_must (TypesPlace P) Any (is_value g x.of.ty) _ _ h.0.0 (params_fail P g ps h.1)

function_fails : (P : OfPlace) (g : Scope) (of : Named) (at : Place) (ps : List r.Param) (x : r.Body) → P of.place → P at → Each (ParamPlaces P) ps → BodyPlaces P x → Fails P (p.function g of at ps x)
function_fails P g of at ps x ho h hs hx =
    ends_must (TypesPlace P) Any (is_value g of.ty || is_void of.ty) _ _ ho
    (fails_then P (p.params g ps) _ (params_fail P g ps hs) (λ u.
    fails_then P (b.body g x) _ (body_fails P g x hx) (λ a.
    ends_must (TypesPlace P) Any (is_void of.ty || not (all_complete x)) _ _ h tt)))

member_fails : (P : OfPlace) (sigs : List ClassSig) (n : ℕ) (m : r.Member) → MemberPlaces P m → Fails P (p.member sigs n m)
member_fails P sigs n (r.field of w len) h = tt
member_fails P sigs n (r.function of w ps x) h =
    let g = scope_of sigs n of.ty ps x in
    fails_then P (p.function g of w.place ps x) _ (function_fails P g of w.place ps x h.0 h.1 h.2 h.3) (λ a. tt)

members_fail : (P : OfPlace) (sigs : List ClassSig) (n : ℕ) (ms : List r.Member) → Each (MemberPlaces P) ms → Fails P (p.members sigs n ms)
members_fail P sigs n [] h = tt
members_fail P sigs n (m ∷ ms) h =
    fails_then P (p.member sigs n m) _ (member_fails P sigs n m h.0) (λ u.
    fails_then P (p.members sigs n ms) _ (members_fail P sigs n ms h.1) (λ us. tt))

class_fails : (P : OfPlace) (sigs : List ClassSig) (n : ℕ) (c : r.Class) → ClassPlaces P c → Fails P (p.class sigs n c)
class_fails P sigs n c h = fails_then P (p.members sigs n c.members) _ (members_fail P sigs n c.members h.1) (λ ms. tt)

classes_fail : (P : OfPlace) (sigs : List ClassSig) (n : ℕ) (cs : List r.Class) → ProgramPlaces P cs → Fails P (p.classes sigs n cs)
classes_fail P sigs n [] h = tt
classes_fail P sigs n (c ∷ cs) h =
    fails_then P (p.class sigs n c) _ (class_fails P sigs n c h.0) (λ u.
    fails_then P (p.classes sigs (n + 1) cs) _ (classes_fail P sigs (n + 1) cs h.1) (λ us. tt))

pub types_fault_placed : (P : OfPlace) (cs : List r.Class) (fault : Fault) → ProgramPlaces P cs → p.first_fault cs ≡ Some fault → TypesPlace P fault
types_fault_placed P cs fault h is = ends_fault (TypesPlace P) Any (p.program cs) fault (classes_fail P (map class_sig cs) 0 cs h) is

-- the names of typed classes

typed_names : (P : OfPlace) (sigs : List ClassSig) (n : ℕ) (cs : List r.Class) (us : List t.Class) → ProgramPlaces P cs → AreTypedClasses sigs n cs us → Each (NamePlace P) us
typed_names P sigs n [] us h is = subst (Each (NamePlace P)) (sym is) tt
typed_names P sigs n (c ∷ cs) us h is = subst (Each (NamePlace P)) (sym is.4) (h.0.0, typed_names P sigs (n + 1) cs is.1 h.1 is.3)

pub typed_placed : (P : OfPlace) (cs : List r.Class) (us : List t.Class) → ProgramPlaces P cs → IsTypedProgram cs us → Each (NamePlace P) us
typed_placed P cs us h is = typed_names P (map class_sig cs) 0 cs us h is
