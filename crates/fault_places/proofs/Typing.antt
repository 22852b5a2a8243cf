-- The first fault of types in an expression stands at a place of the expression.
use Rattle.std.proofs.Common.{ℕ, Bool, true, false, cond, nat_eq, length, List, [], ◌∷◌, ◌&&◌}
use Rattle.feast_base.specs.declared.place.Place.{Place}
use Rattle.sat_math.specs.declared.Kind.{Kind}
use Rattle.sat_math.specs.declared.Kind.TheVariants as k
use Rattle.ulam_tree.specs.declared.resolved.Ty.{Ty}
use Rattle.ulam_tree.specs.declared.op.PairOp.{PairOp}
use Rattle.ulam_tree.specs.Resolved as r
use Rattle.ulam_tree.specs.Typed as t
use Rattle.ulam_tree.specs.Found.{◌>>=◌}
use Rattle.type_rules.specs.declared.scope.Want.{Want}
use Rattle.type_rules.specs.Faults.{wrong_type, mixed_signs, Found}
use Rattle.type_rules.specs.Scopes.{Scope, is_value, value_type, item_type, callee, wants_of}
use Rattle.type_rules.specs.Rows.{kind_from, plain_fits, pair_type, pair_fault, pair_found, takes_signs, are_mixed, class_of, prefix_type, cast_type, is_atom, is_species, is_index, taken_want, all_suit, is_built, misfit}
use Rattle.type_rules.specs.Walk.{plain, place_of, count, operands, arguments_by, called_by, index_by, expr, args, call, item}
use Rattle.fault_places.specs.Common.{OfPlace}
use Rattle.fault_places.specs.Faults.{TypesPlace}
use Rattle.fault_places.specs.Resolved.{ExprPlaces, ArgsPlaces}
use Rattle.fault_places.proofs.Ends.{Ends, Any, ends_then, ends_found, ends_must, found_ends}

-- P holds of the fault's place, if there is a fault
abbrev pub Fails : {A : Type 0} → OfPlace → Found A → Type 0
Fails P x = Ends (TypesPlace P) Any x

-- one step and then another, of which only faults matter
pub fails_then : {A B : Type 0} (P : OfPlace) (x : Found A) (f : A → Found B) → Fails P x → ((a : A) → Fails P (f a)) → Fails P (x >>= f)
fails_then P x f h k = ends_then (TypesPlace P) Any Any x f h (λ a ha. k a)

-- the place of an expression
pub place_placed : (P : OfPlace) (e : r.Expr) → ExprPlaces P e → P (place_of e)
place_placed P (r.number v u p) h = h
place_placed P (r.truth b p) h = h
place_placed P (r.reads x) h = h
place_placed P (r.calls x es) h = h.0
place_placed P (r.index x e) h = h.0
place_placed P (r.instance c) h = h
place_placed P (r.group e p) h = h.0
place_placed P (r.cast c e p) h = h.0
place_placed P (r.prefix op e p) h = h.0
place_placed P (r.pair op x y p) h = h.0
place_placed P (r.is e c p) h = h.0

-- what is wrong with two operands
pair_fault_placed : (P : OfPlace) (p : Place) (op : PairOp) (a b : Ty) → P p → TypesPlace P (pair_fault p op a b)
pair_fault_placed P p op a b h = go (takes_signs op && are_mixed (class_of a) (class_of b))
  where
    go : (c : Bool) → TypesPlace P (cond c (mixed_signs p) (wrong_type p))
    go true = h
    go false = h

pub pair_fails : (P : OfPlace) (p : Place) (op : PairOp) (plain : Bool) (a b : Ty) → P p → Fails P (pair_found p op plain a b)
pair_fails P p op plain a b h = found_ends (TypesPlace P) (pair_type op plain a b) (pair_fault p op a b) (pair_fault_placed P p op a b h)

misfit_placed : (P : OfPlace) (built : Bool) (p : Place) → P p → TypesPlace P (misfit built p)
misfit_placed P true p h = h
misfit_placed P false p h = h

-- The parts of forms, by the walk over their own parts

called_fails : (P : OfPlace) (g : Scope) (x : r.Path) (n : ℕ) (read : List Want → Found t.Args) → P x.place → ((ws : List Want) → Fails P (read ws)) → Fails P (called_by g x n read)
called_fails P g x n read h reading =
    ends_found (TypesPlace P) Any (callee g x.steps) _ _ h (λ f.
    fails_then P (arguments_by g x.place (is_built f) (wants_of f) n read) _
    (ends_must (TypesPlace P) Any (nat_eq (length (wants_of f)) n) _ _ h
    (fails_then P (read (wants_of f)) _ (reading (wants_of f)) (λ es.
    ends_must (TypesPlace P) Any (all_suit g (wants_of f) es) _ _ (misfit_placed P (is_built f) x.place h) tt)))
    (λ es. tt))

index_fails : (P : OfPlace) (g : Scope) (x : r.Path) (read : Found t.Expr) → P x.place → Fails P read → Fails P (index_by g x read)
index_fails P g x read h reading =
    ends_found (TypesPlace P) Any (item_type g x.steps) _ _ h (λ ty.
    fails_then P read _ reading (λ i. ends_must (TypesPlace P) Any (is_index (t.ty_of i)) _ _ h tt))

operands_fail : (P : OfPlace) (pl pr : Bool) (left right : Kind → Found t.Expr) → ((v : Kind) → Fails P (left v)) → ((v : Kind) → Fails P (right v)) → Fails P (operands pl pr left right)
operands_fail P true false left right hl hr = fails_then P (right k.Int) _ (hr k.Int) (λ b. fails_then P (left (kind_from (t.ty_of b))) _ (hl (kind_from (t.ty_of b))) (λ a. tt))
operands_fail P true true left right hl hr = fails_then P (left k.Int) _ (hl k.Int) (λ a. fails_then P (right k.Int) _ (hr k.Int) (λ b. tt))
operands_fail P false pr left right hl hr = fails_then P (left k.Int) _ (hl k.Int) (λ a. fails_then P (right (kind_from (t.ty_of a))) _ (hr (kind_from (t.ty_of a))) (λ b. tt))

-- Expressions

mutual
  unfolding expr

  pub expr_fails : (P : OfPlace) (g : Scope) (w : Kind) (e : r.Expr) → ExprPlaces P e → Fails P (expr g w e)
  expr_fails P g w (r.number v true p) h = ends_must (TypesPlace P) Any (plain_fits k.Unsigned v) _ _ h tt
  expr_fails P g w (r.number v false p) h = ends_must (TypesPlace P) Any (plain_fits w v) _ _ h tt
  expr_fails P g w (r.truth b p) h = tt
  expr_fails P g w (r.reads x) h = ends_found (TypesPlace P) Any (value_type g x.steps) _ _ h (λ ty. tt)
  expr_fails P g w (r.calls x es) h =
      fails_then P (called_by g x (count es) (λ ws. args g ws es)) _ (called_fails P g x (count es) (λ ws. args g ws es) h.0 (λ ws. args_fail P g ws es h.1)) (λ c.
      ends_must (TypesPlace P) Any (is_value g c.1) _ _ h.0 tt)
  expr_fails P g w (r.index x e) h = fails_then P (index_by g x (expr g k.Int e)) _ (index_fails P g x (expr g k.Int e) h.0 (expr_fails P g k.Int e h.1)) (λ i. tt)
  expr_fails P g w (r.instance c) h = ends_must (TypesPlace P) Any (is_species g c.ty) _ _ h tt
  expr_fails P g w (r.group e p) h = fails_then P (expr g w e) _ (expr_fails P g w e h.1) (λ a. tt)
  expr_fails P g w (r.cast c e p) h =
      fails_then P (expr g k.Int e) _ (expr_fails P g k.Int e h.2) (λ a.
      ends_found (TypesPlace P) Any (cast_type c.ty (t.ty_of a)) _ _ h.0 (λ ty. tt))
  expr_fails P g w (r.prefix op e p) h =
      fails_then P (expr g k.Int e) _ (expr_fails P g k.Int e h.1) (λ a.
      ends_found (TypesPlace P) Any (prefix_type op (t.ty_of a)) _ _ h.0 (λ ty. tt))
  expr_fails P g w (r.pair op x y p) h =
      fails_then P (operands (plain x) (plain y) (λ v. expr g v x) (λ v. expr g v y)) _
      (operands_fail P (plain x) (plain y) (λ v. expr g v x) (λ v. expr g v y) (λ v. expr_fails P g v x h.1) (λ v. expr_fails P g v y h.2)) (λ ab.
      fails_then P (pair_found p op (plain y) (t.ty_of ab.0) (t.ty_of ab.1)) _ (pair_fails P p op (plain y) (t.ty_of ab.0) (t.ty_of ab.1) h.0) (λ ty. tt))
  expr_fails P g w (r.is e c p) h =
      fails_then P (expr g k.Int e) _ (expr_fails P g k.Int e h.1) (λ a.
      ends_must (TypesPlace P) Any (is_atom g (t.ty_of a)) _ _ h.0
      (ends_must (TypesPlace P) Any (is_species g c.ty) _ _ h.2 tt))

  args_fail : (P : OfPlace) (g : Scope) (ws : List Want) (es : r.Args) → ArgsPlaces P es → Fails P (args g ws es)
  args_fail P g ws r.no_args h = tt
  args_fail P g [] (r.arg e es) h = tt
  args_fail P g (w ∷ ws) (r.arg e es) h =
      fails_then P (expr g (taken_want w) e) _ (expr_fails P g (taken_want w) e h.0) (λ a.
      fails_then P (args g ws es) _ (args_fail P g ws es h.1) (λ bs. tt))

pub call_fails : (P : OfPlace) (g : Scope) (x : r.Path) (es : r.Args) → P x.place → ArgsPlaces P es → Fails P (call g x es)
call_fails P g x es h hs = called_fails P g x (count es) (λ ws. args g ws es) h (λ ws. args_fail P g ws es hs)

pub item_fails : (P : OfPlace) (g : Scope) (x : r.Path) (e : r.Expr) → P x.place → ExprPlaces P e → Fails P (item g x e)
item_fails P g x e h he = index_fails P g x (expr g k.Int e) h (expr_fails P g k.Int e he)
