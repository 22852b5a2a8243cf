-- What a typed tree says by itself, from its typing: statements.
use Rattle.std.proofs.Common.{◌≡◌, Option, Some, None, refl, ap, sym, ◌∙◌, subst}
use Rattle.sat_math.specs.declared.Kind.TheVariants as k
use Rattle.ulam_tree.specs.declared.resolved.Ty.{Ty}
use Rattle.ulam_tree.specs.declared.op.PairOp.{PairOp}
use Rattle.ulam_tree.specs.Resolved as r
use Rattle.ulam_tree.specs.Typed as t
use Rattle.ulam_tree.specs.Locals.{locals, part_locals, all_locals}
use Rattle.ulam_tree.specs.Completes.{completes, part_completes, all_complete}
use Rattle.type_rules.specs.Scopes.{Scope, in_loop}
use Rattle.type_rules.specs.Rows.{kind_from, pair_type}
use Rattle.type_rules.specs.Typing.{IsLeftBy, IsValueFor, IsAssigned, IsTest, IsMaybe, IsCond, IsResult, IsTypedStatement, IsTypedPart, IsTypedBody}
use Rattle.type_rules.specs.Well.{IsWellLeft, IsWellValue, IsWellAssigned, IsWellTest, IfSome, IsWellCond, IsWellResult, IsWellStatement, IsWellPart, IsWellBody}
use Rattle.ulam_types.proofs.Well.{plain_same, well, call_well}

left_well : (g : Scope) (x : r.Path) (e : Option r.Expr) (a : t.Left) (ty : Ty) → IsLeftBy g x e a ty → IsWellLeft g a ty
left_well g x None a ty h = subst (λ z. IsWellLeft g z ty) (sym h.1) h.0
left_well g x (Some e) a ty h = subst (λ z. IsWellLeft g z ty) (sym h.4) (h.1, well g k.Int e h.0 h.2, h.3)

value_well : (g : Scope) (ty : Ty) (e : r.Expr) (a : t.Expr) → IsValueFor g ty e a → IsWellValue g ty a
value_well g ty e a h = (well g (kind_from ty) e a h.0, h.1)

assigned_well : (g : Scope) (ty : Ty) (op : Option PairOp) (e : r.Expr) (a : t.Expr) → IsAssigned g ty op e a → IsWellAssigned g ty op a
assigned_well g ty None e a h = value_well g ty e a h
assigned_well g ty (Some op) e a h =
    (h.0, well g (kind_from ty) e a h.1, subst (λ b. pair_type op b ty (t.ty_of a) ≡ Some h.0) (sym (plain_same g (kind_from ty) e a h.1)) h.2, h.3)

test_well : (g : Scope) (e : r.Expr) (a : t.Expr) → IsTest g e a → IsWellTest g a
test_well g e a h = (well g k.Int e a h.0, h.1)

maybe_well : (P : r.Expr → t.Expr → Type 0) (Q : t.Expr → Type 0) → ((e : r.Expr) (a : t.Expr) → P e a → Q a) → (e : Option r.Expr) (a : Option t.Expr) → IsMaybe P e a → IfSome Q a
maybe_well P Q each None a h = subst (IfSome Q) (sym h) tt
maybe_well P Q each (Some e) a h = subst (IfSome Q) (sym h.2) (each e h.0 h.1)

cond_well : (g : Scope) (c : r.Cond) (a : t.Cond) (h : Scope) → IsCond g c a h → IsWellCond g a h
cond_well g (r.seen x c) a h i = subst (λ z. IsWellCond g z h) (sym i.3) (i.0, i.1, i.2, i.4)
cond_well g (r.test e) a h i = subst (λ z. IsWellCond g z h) (sym i.2) (test_well g e i.0 i.1, i.3)

result_well : (g : Scope) (e : Option r.Expr) (a : Option t.Expr) → IsResult g e a → IsWellResult g a
result_well g None a h = subst (IsWellResult g) (sym h.1) h.0
result_well g (Some e) a h = subst (IsWellResult g) (sym h.3) (h.1, value_well g g.result e h.0 h.2)

mutual
  unfolding IsTypedStatement IsWellStatement

  pub statement_well : (g : Scope) (x : r.Statement) (u : t.Statement) → IsTypedStatement g x u → IsWellStatement g u
  statement_well g (r.block b) u h = subst (IsWellStatement g) (sym h.2) (body_well g b h.0 h.1)
  statement_well g r.empty u h = subst (IsWellStatement g) (sym h) tt
  statement_well g (r.if_so c x y) u h = subst (IsWellStatement g) (sym h.7) (h.1, cond_well g c h.0 h.1 h.4, statement_well h.1 x h.2 h.5, part_well g y h.3 h.6)
  statement_well g (r.while_so e x) u h = subst (IsWellStatement g) (sym h.4) (test_well g e h.0 h.2, statement_well (in_loop g) x h.1 h.3)
  statement_well g (r.for_all x e y z) u h =
      subst (IsWellStatement g) (sym h.8) (part_well g x h.0 h.4, maybe_well (IsTest g) (IsWellTest g) (test_well g) e h.1 h.5, part_well g y h.2 h.6, statement_well (in_loop g) z h.3 h.7)
  statement_well g (r.returns p e) u h = subst (IsWellStatement g) (sym h.2) (result_well g e h.0 h.1)
  statement_well g (r.breaks p) u h = subst (IsWellStatement g) (sym h.1) h.0
  statement_well g (r.continues p) u h = subst (IsWellStatement g) (sym h.1) h.0
  statement_well g (r.declares of n p e) u h = subst (IsWellStatement g) (sym h.3) (h.1, maybe_well (IsValueFor g of.ty) (IsWellValue g of.ty) (value_well g of.ty) e h.0 h.2)
  statement_well g (r.assigns l op e) u h = subst (IsWellStatement g) (sym h.5) (h.1, left_well g l.path l.index h.0 h.1 h.3, assigned_well g h.1 op e h.2 h.4)
  statement_well g (r.counts l up) u h = subst (IsWellStatement g) (sym h.6) (h.1, h.2, left_well g l.path l.index h.0 h.1 h.3, h.4, h.5)
  statement_well g (r.does x es) u h = let c = call_well g x es h.0 h.1 h.2 in subst (IsWellStatement g) (sym h.3) (h.1, c.0, c.1)

  pub part_well : (g : Scope) (x : r.Part) (u : t.Part) → IsTypedPart g x u → IsWellPart g u
  part_well g r.no_part u h = subst (IsWellPart g) (sym h) tt
  part_well g (r.part x) u h = subst (IsWellPart g) (sym h.2) (statement_well g x h.0 h.1)

  pub body_well : (g : Scope) (b : r.Body) (u : t.Body) → IsTypedBody g b u → IsWellBody g u
  body_well g r.no_more u h = subst (IsWellBody g) (sym h) tt
  body_well g (r.then_so x b) u h = subst (IsWellBody g) (sym h.4) (statement_well g x h.0 h.2, body_well g b h.1 h.3)

-- a typed body has the locals of its resolved one
mutual
  unfolding IsTypedStatement locals

  locals_same : (g : Scope) (x : r.Statement) (u : t.Statement) → IsTypedStatement g x u → locals u ≡ locals x
  locals_same g (r.block b) u h = ap locals h.2 ∙ all_locals_same g b h.0 h.1
  locals_same g r.empty u h = ap locals h
  locals_same g (r.if_so c x y) u h = ap locals h.7 ∙ rw (locals_same h.1 x h.2 h.5, part_locals_same g y h.3 h.6) refl
  locals_same g (r.while_so e x) u h = ap locals h.4 ∙ locals_same (in_loop g) x h.1 h.3
  locals_same g (r.for_all x e y z) u h = ap locals h.8 ∙ rw (part_locals_same g x h.0 h.4, part_locals_same g y h.2 h.6, locals_same (in_loop g) z h.3 h.7) refl
  locals_same g (r.returns p e) u h = ap locals h.2
  locals_same g (r.breaks p) u h = ap locals h.1
  locals_same g (r.continues p) u h = ap locals h.1
  locals_same g (r.declares of n p e) u h = ap locals h.3
  locals_same g (r.assigns l op e) u h = ap locals h.5
  locals_same g (r.counts l up) u h = ap locals h.6
  locals_same g (r.does x es) u h = ap locals h.3

  part_locals_same : (g : Scope) (x : r.Part) (u : t.Part) → IsTypedPart g x u → part_locals u ≡ part_locals x
  part_locals_same g r.no_part u h = ap part_locals h
  part_locals_same g (r.part x) u h = ap part_locals h.2 ∙ locals_same g x h.0 h.1

  pub all_locals_same : (g : Scope) (b : r.Body) (u : t.Body) → IsTypedBody g b u → all_locals u ≡ all_locals b
  all_locals_same g r.no_more u h = ap all_locals h
  all_locals_same g (r.then_so x b) u h = ap all_locals h.4 ∙ rw (locals_same g x h.0 h.2, all_locals_same g b h.1 h.3) refl

-- and completes as that does
mutual
  unfolding IsTypedStatement

  completes_same : (g : Scope) (x : r.Statement) (u : t.Statement) → IsTypedStatement g x u → completes u ≡ completes x
  completes_same g (r.block b) u h = ap completes h.2 ∙ all_complete_same g b h.0 h.1
  completes_same g r.empty u h = ap completes h
  completes_same g (r.if_so c x y) u h = ap completes h.7 ∙ rw (completes_same h.1 x h.2 h.5, part_completes_same g y h.3 h.6) refl
  completes_same g (r.while_so e x) u h = ap completes h.4
  completes_same g (r.for_all x e y z) u h = ap completes h.8
  completes_same g (r.returns p e) u h = ap completes h.2
  completes_same g (r.breaks p) u h = ap completes h.1
  completes_same g (r.continues p) u h = ap completes h.1
  completes_same g (r.declares of n p e) u h = ap completes h.3
  completes_same g (r.assigns l op e) u h = ap completes h.5
  completes_same g (r.counts l up) u h = ap completes h.6
  completes_same g (r.does x es) u h = ap completes h.3

  part_completes_same : (g : Scope) (x : r.Part) (u : t.Part) → IsTypedPart g x u → part_completes u ≡ part_completes x
  part_completes_same g r.no_part u h = ap part_completes h
  part_completes_same g (r.part x) u h = ap part_completes h.2 ∙ completes_same g x h.0 h.1

  pub all_complete_same : (g : Scope) (b : r.Body) (u : t.Body) → IsTypedBody g b u → all_complete u ≡ all_complete b
  all_complete_same g r.no_more u h = ap all_complete h
  all_complete_same g (r.then_so x b) u h = ap all_complete h.4 ∙ rw (completes_same g x h.0 h.2, all_complete_same g b h.1 h.3) refl
