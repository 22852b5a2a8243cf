-- The walk over a statement finds exactly its typed tree.
use Rattle.std.proofs.Common.{◌≡◌, true, not, Option, Some, None, Ok, refl, ap, sym}
use Rattle.std.proofs.lemmas.Bool.{not-true}
use Rattle.feast_base.specs.declared.place.Place.{Place}
use Rattle.sat_math.specs.declared.Kind.TheVariants as k
use Rattle.ulam_tree.specs.declared.resolved.Ty.{Ty}
use Rattle.ulam_tree.specs.declared.op.PairOp.{PairOp}
use Rattle.ulam_tree.specs.declared.op.PairOp.TheVariants as op
use Rattle.ulam_tree.specs.Resolved as r
use Rattle.ulam_tree.specs.Typed as t
use Rattle.type_rules.specs.Faults.{Found}
use Rattle.type_rules.specs.Scopes.{Scope, in_loop, is_value, target_type}
use Rattle.type_rules.specs.Rows.{kind_from, plain_type, pair_type, is_truth, is_void, assignable}
use Rattle.type_rules.specs.Walk.{plain, count, index_by, expr, args, call}
use Rattle.type_rules.specs.Bodies as b
use Rattle.type_rules.specs.Bodies.{atom_slot, is_element_type}
use Rattle.type_rules.specs.Typing.{IsTyped, AreTyped, IsCall, IsLeftBy, IsValueFor, IsAssigned, IsTest, IsMaybe, IsCond, IsResult, IsTypedStatement, IsTypedPart, IsTypedBody}
use Rattle.ulam_tree.proofs.Means.{Means, means_then, means_found, means_must}
use Rattle.ulam_types.proofs.Exprs.{expr_fits, args_fit, called_fits, expr_means, args_mean, called_means, index_means}

left_by_fits : (g : Scope) (x : r.Path) (e : Option r.Expr) (a : t.Left) (ty : Ty) → IsLeftBy g x e a ty → b.left_by g x e ≡ Ok (a, ty)
left_by_fits g x None a ty h = rw h.0 (ap (λ y. Ok (y, ty)) (sym h.1))
left_by_fits g x (Some e) a ty h = rw (h.1, expr_fits g k.Int e h.0 h.2, h.3) (ap (λ y. Ok (y, ty)) (sym h.4))

left_by_means : (g : Scope) (x : r.Path) (e : Option r.Expr) → Means (λ (a : t.Left × Ty). IsLeftBy g x e a.0 a.1) (b.left_by g x e)
left_by_means g x None = means_found (λ (a : t.Left × Ty). IsLeftBy g x None a.0 a.1) (target_type g x.steps) _ _ (λ ty h. (h, refl))
left_by_means g x (Some e) =
    let Q : t.Left × Ty → Type 0 = λ a. IsLeftBy g x (Some e) a.0 a.1 in
    means_then _ Q (index_by g x (expr g k.Int e)) _ (index_means g x (IsTyped g k.Int e) (expr g k.Int e) (expr_means g k.Int e)) (λ i h. (i.0, h.0, h.1, h.2, refl))

value_fits : (g : Scope) (p : Place) (ty : Ty) (e : r.Expr) (a : t.Expr) → IsValueFor g ty e a → b.value_for g p ty e ≡ Ok a
value_fits g p ty e a h = rw (expr_fits g (kind_from ty) e a h.0, h.1) refl

value_means : (g : Scope) (p : Place) (ty : Ty) (e : r.Expr) → Means (IsValueFor g ty e) (b.value_for g p ty e)
value_means g p ty e =
    let Q = IsValueFor g ty e in
    means_then _ Q (expr g (kind_from ty) e) _ (expr_means g (kind_from ty) e) (λ a ha.
    means_must Q (assignable g ty (t.ty_of a)) _ _ (λ hx. (ha, hx)))

assigned_fits : (g : Scope) (p : Place) (ty : Ty) (op : Option PairOp) (e : r.Expr) (a : t.Expr) → IsAssigned g ty op e a → b.assigned_value g p ty op e ≡ Ok a
assigned_fits g p ty None e a h = value_fits g p ty e a h
assigned_fits g p ty (Some op) e a h = rw (expr_fits g (kind_from ty) e a h.1, h.2, h.3) refl

assigned_means : (g : Scope) (p : Place) (ty : Ty) (op : Option PairOp) (e : r.Expr) → Means (IsAssigned g ty op e) (b.assigned_value g p ty op e)
assigned_means g p ty None e = value_means g p ty e
assigned_means g p ty (Some op) e =
    let Q = IsAssigned g ty (Some op) e in
    means_then _ Q (expr g (kind_from ty) e) _ (expr_means g (kind_from ty) e) (λ a ha.
    means_found Q (pair_type op (plain e) ty (t.ty_of a)) _ _ (λ sum hs.
    means_must Q (assignable g ty sum) _ _ (λ hx. (sum, ha, hs, hx))))

test_fits : (g : Scope) (e : r.Expr) (a : t.Expr) → IsTest g e a → b.test g e ≡ Ok a
test_fits g e a h = rw (expr_fits g k.Int e a h.0, h.1) refl

test_means : (g : Scope) (e : r.Expr) → Means (IsTest g e) (b.test g e)
test_means g e =
    let Q = IsTest g e in
    means_then _ Q (expr g k.Int e) _ (expr_means g k.Int e) (λ a ha.
    means_must Q (is_truth (t.ty_of a)) _ _ (λ hx. (ha, hx)))

maybe_fits : (P : r.Expr → t.Expr → Type 0) (walk : r.Expr → Found t.Expr) → ((e : r.Expr) (a : t.Expr) → P e a → walk e ≡ Ok a) →
    (e : Option r.Expr) (a : Option t.Expr) → IsMaybe P e a → b.maybe walk e ≡ Ok a
maybe_fits P walk each None a h = ap Ok (sym h)
maybe_fits P walk each (Some e) a h = rw (each e h.0 h.1) (ap Ok (sym h.2))

maybe_means : (P : r.Expr → t.Expr → Type 0) (walk : r.Expr → Found t.Expr) → ((e : r.Expr) → Means (P e) (walk e)) → (e : Option r.Expr) → Means (IsMaybe P e) (b.maybe walk e)
maybe_means P walk each None = refl
maybe_means P walk each (Some e) = means_then _ (IsMaybe P (Some e)) (walk e) _ (each e) (λ a h. (a, h, refl))

cond_fits : (g : Scope) (c : r.Cond) (a : t.Cond) (h : Scope) → IsCond g c a h → b.cond g c ≡ Ok (a, h)
cond_fits g (r.seen x c) a h i = rw (i.1, i.2, i.3, i.4) refl
cond_fits g (r.test e) a h i = rw (test_fits g e i.0 i.1, i.2, i.3) refl

cond_means : (g : Scope) (c : r.Cond) → Means (λ (a : t.Cond × Scope). IsCond g c a.0 a.1) (b.cond g c)
cond_means g (r.seen x c) =
    let Q : t.Cond × Scope → Type 0 = λ a. IsCond g (r.seen x c) a.0 a.1 in
    means_found Q (atom_slot g x.steps) _ _ (λ n hn.
    means_must Q (is_element_type g c.ty) _ _ (λ hc. (n, hn, hc, refl, refl)))
cond_means g (r.test e) =
    let Q : t.Cond × Scope → Type 0 = λ a. IsCond g (r.test e) a.0 a.1 in
    means_then _ Q (b.test g e) _ (test_means g e) (λ a h. (a, h, refl, refl))

call_fits : (g : Scope) (x : r.Path) (es : r.Args) (xs : t.Args) (ty : Ty) → IsCall g x es xs ty → call g x es ≡ Ok (xs, ty)
call_fits g x es xs ty h = called_fits g x (count es) (λ ws bs. AreTyped g ws es bs) (λ ws. args g ws es) xs ty (λ ws i. args_fit g ws es xs i) h

call_means : (g : Scope) (x : r.Path) (es : r.Args) → Means (λ (c : t.Args × Ty). IsCall g x es c.0 c.1) (call g x es)
call_means g x es = called_means g x (count es) (λ ws bs. AreTyped g ws es bs) (λ ws. args g ws es) (λ ws. args_mean g ws es)

result_fits : (g : Scope) (p : Place) (e : Option r.Expr) (a : Option t.Expr) → IsResult g e a → b.result g p e ≡ Ok a
result_fits g p None a h = rw h.0 (ap Ok (sym h.1))
result_fits g p (Some e) a h = rw (expr_fits g (kind_from g.result) e h.0 h.2.0, h.1, h.2.1) (ap Ok (sym h.3))

result_means : (g : Scope) (p : Place) (e : Option r.Expr) → Means (IsResult g e) (b.result g p e)
result_means g p None = means_must (IsResult g None) (is_void g.result) _ _ (λ h. (h, refl))
result_means g p (Some e) =
    let Q = IsResult g (Some e) in
    means_then _ Q (expr g (kind_from g.result) e) _ (expr_means g (kind_from g.result) e) (λ a ha.
    means_must Q (not (is_void g.result)) _ _ (λ hv.
    means_must Q (assignable g g.result (t.ty_of a)) _ _ (λ hx. (a, not-true _ hv, (ha, hx), refl))))

mutual
  unfolding IsTypedStatement b.statement

  pub statement_fits : (g : Scope) (x : r.Statement) (u : t.Statement) → IsTypedStatement g x u → b.statement g x ≡ Ok u
  statement_fits g (r.block x) u h = rw (body_fits g x h.0 h.1) (ap Ok (sym h.2))
  statement_fits g r.empty u h = ap Ok (sym h)
  statement_fits g (r.if_so c x y) u h = rw (cond_fits g c h.0 h.1 h.4, statement_fits h.1 x h.2 h.5, part_fits g y h.3 h.6) (ap Ok (sym h.7))
  statement_fits g (r.while_so e x) u h = rw (test_fits g e h.0 h.2, statement_fits (in_loop g) x h.1 h.3) (ap Ok (sym h.4))
  statement_fits g (r.for_all x e y z) u h =
      rw (part_fits g x h.0 h.4, maybe_fits (IsTest g) (b.test g) (test_fits g) e h.1 h.5, part_fits g y h.2 h.6, statement_fits (in_loop g) z h.3 h.7) (ap Ok (sym h.8))
  statement_fits g (r.returns p e) u h = rw (result_fits g p e h.0 h.1) (ap Ok (sym h.2))
  statement_fits g (r.breaks p) u h = rw h.0 (ap Ok (sym h.1))
  statement_fits g (r.continues p) u h = rw h.0 (ap Ok (sym h.1))
  statement_fits g (r.declares of n p e) u h = rw (h.1, maybe_fits (IsValueFor g of.ty) (b.value_for g p of.ty) (value_fits g p of.ty) e h.0 h.2) (ap Ok (sym h.3))
  statement_fits g (r.assigns l op e) u h = rw (left_by_fits g l.path l.index h.0 h.1 h.3, assigned_fits g l.path.place h.1 op e h.2 h.4) (ap Ok (sym h.5))
  statement_fits g (r.counts l up) u h = rw (left_by_fits g l.path l.index h.0 h.1 h.3, h.4, h.5) (ap Ok (sym h.6))
  statement_fits g (r.does x es) u h = rw (call_fits g x es h.0 h.1 h.2) (ap Ok (sym h.3))

  pub part_fits : (g : Scope) (x : r.Part) (u : t.Part) → IsTypedPart g x u → b.part g x ≡ Ok u
  part_fits g r.no_part u h = ap Ok (sym h)
  part_fits g (r.part x) u h = rw (statement_fits g x h.0 h.1) (ap Ok (sym h.2))

  pub body_fits : (g : Scope) (x : r.Body) (u : t.Body) → IsTypedBody g x u → b.body g x ≡ Ok u
  body_fits g r.no_more u h = ap Ok (sym h)
  body_fits g (r.then_so x y) u h = rw (statement_fits g x h.0 h.2, body_fits g y h.1 h.3) (ap Ok (sym h.4))

mutual
  unfolding IsTypedStatement b.statement

  pub statement_means : (g : Scope) (x : r.Statement) → Means (IsTypedStatement g x) (b.statement g x)
  statement_means g (r.block x) = means_then _ (IsTypedStatement g (r.block x)) (b.body g x) _ (body_means g x) (λ a h. (a, h, refl))
  statement_means g r.empty = refl
  statement_means g (r.if_so c x y) =
      let Q = IsTypedStatement g (r.if_so c x y) in
      let P : t.Cond × t.Statement → Type 0 = λ d. (h : Scope) × IsCond g c d.0 h × IsTypedStatement h x d.1 in
      means_then P Q (b.branch g c (λ h. b.statement h x)) _
      (means_then _ P (b.cond g c) _ (cond_means g c) (λ d hd.
      means_then _ P (b.statement d.1 x) _ (statement_means d.1 x) (λ v hv. (d.1, hd, hv))))
      (λ d hd. means_then _ Q (b.part g y) _ (part_means g y) (λ z hz. (d.0, hd.0, d.1, z, hd.1, hd.2, hz, refl)))
  statement_means g (r.while_so e x) =
      let Q = IsTypedStatement g (r.while_so e x) in
      means_then _ Q (b.test g e) _ (test_means g e) (λ a ha.
      means_then _ Q (b.statement (in_loop g) x) _ (statement_means (in_loop g) x) (λ v hv. (a, v, ha, hv, refl)))
  statement_means g (r.for_all x e y z) =
      let Q = IsTypedStatement g (r.for_all x e y z) in
      means_then _ Q (b.part g x) _ (part_means g x) (λ a ha.
      means_then _ Q (b.maybe (b.test g) e) _ (maybe_means (IsTest g) (b.test g) (test_means g) e) (λ d hd.
      means_then _ Q (b.part g y) _ (part_means g y) (λ c hc.
      means_then _ Q (b.statement (in_loop g) z) _ (statement_means (in_loop g) z) (λ v hv. (a, d, c, v, ha, hd, hc, hv, refl)))))
  statement_means g (r.returns p e) = means_then _ (IsTypedStatement g (r.returns p e)) (b.result g p e) _ (result_means g p e) (λ a h. (a, h, refl))
  statement_means g (r.breaks p) = means_must (IsTypedStatement g (r.breaks p)) g.looped _ _ (λ h. (h, refl))
  statement_means g (r.continues p) = means_must (IsTypedStatement g (r.continues p)) g.looped _ _ (λ h. (h, refl))
  statement_means g (r.declares of n p e) =
      let Q = IsTypedStatement g (r.declares of n p e) in
      means_must Q (is_value g of.ty) _ _ (λ hv.
      means_then _ Q (b.maybe (b.value_for g p of.ty) e) _ (maybe_means (IsValueFor g of.ty) (b.value_for g p of.ty) (value_means g p of.ty) e) (λ a ha. (a, hv, ha, refl)))
  statement_means g (r.assigns l op e) =
      let Q = IsTypedStatement g (r.assigns l op e) in
      means_then _ Q (b.left_side g l) _ (left_by_means g l.path l.index) (λ a ha.
      means_then _ Q (b.assigned_value g l.path.place a.1 op e) _ (assigned_means g l.path.place a.1 op e) (λ d hd. (a.0, a.1, d, ha, hd, refl)))
  statement_means g (r.counts l up) =
      let Q = IsTypedStatement g (r.counts l up) in
      means_then _ Q (b.left_side g l) _ (left_by_means g l.path l.index) (λ a ha.
      means_found Q (pair_type op.Add true a.1 (plain_type (kind_from a.1))) _ _ (λ sum hs.
      means_must Q (assignable g a.1 sum) _ _ (λ hx. (a.0, a.1, sum, ha, hs, hx, refl))))
  statement_means g (r.does x es) = means_then _ (IsTypedStatement g (r.does x es)) (call g x es) _ (call_means g x es) (λ c hc. (c.0, c.1, hc, refl))

  pub part_means : (g : Scope) (x : r.Part) → Means (IsTypedPart g x) (b.part g x)
  part_means g r.no_part = refl
  part_means g (r.part x) = means_then _ (IsTypedPart g (r.part x)) (b.statement g x) _ (statement_means g x) (λ u h. (u, h, refl))

  pub body_means : (g : Scope) (x : r.Body) → Means (IsTypedBody g x) (b.body g x)
  body_means g r.no_more = refl
  body_means g (r.then_so x y) =
      let Q = IsTypedBody g (r.then_so x y) in
      means_then _ Q (b.statement g x) _ (statement_means g x) (λ u hu.
      means_then _ Q (b.body g y) _ (body_means g y) (λ c hc. (u, c, hu, hc, refl)))
