-- What a typed tree says by itself, from its typing: expressions.
use Rattle.std.proofs.Common.{◌≡◌, ℕ, suc, true, false, List, [], ◌∷◌, length, Some, refl, ap, sym, ◌∙◌, subst}
use Rattle.sat_math.specs.declared.Kind.{Kind}
use Rattle.sat_math.specs.declared.Kind.TheVariants as k
use Rattle.ulam_tree.specs.declared.resolved.Ty.{Ty}
use Rattle.ulam_tree.specs.Resolved as r
use Rattle.ulam_tree.specs.Typed as t
use Rattle.type_rules.specs.declared.scope.Want.{Want}
use Rattle.type_rules.specs.Scopes.{Scope, wants_of}
use Rattle.type_rules.specs.Rows.{beside, pair_type, taken_want}
use Rattle.type_rules.specs.Walk.{plain, count as count_resolved}
use Rattle.type_rules.specs.Typing.{IsCall, IsTyped, AreTyped}
use Rattle.type_rules.specs.Well.{count, IsCallee, IsWell, AreWell}

pub plain_same : (g : Scope) (w : Kind) (e : r.Expr) (a : t.Expr) → IsTyped g w e a → t.plain a ≡ plain e
unfolding IsTyped
plain_same g w (r.number v true p) a h = ap t.plain h.1
plain_same g w (r.number v false p) a h = ap t.plain h.1
plain_same g w (r.truth b p) a h = ap t.plain h
plain_same g w (r.reads x) a h = ap t.plain h.2
plain_same g w (r.calls x es) a h = ap t.plain h.4
plain_same g w (r.index x e) a h = ap t.plain h.5
plain_same g w (r.instance c) a h = ap t.plain h.1
plain_same g w (r.group e p) a h = ap t.plain h.2 ∙ plain_same g w e h.0 h.1
plain_same g w (r.cast c e p) a h = ap t.plain h.4
plain_same g w (r.prefix op e p) a h = ap t.plain h.4
plain_same g w (r.pair op x y p) a h = ap t.plain h.6
plain_same g w (r.is e c p) a h = ap t.plain h.4

count_same : (g : Scope) (ws : List Want) (es : r.Args) (xs : t.Args) → length ws ≡ count_resolved es → AreTyped g ws es xs → count xs ≡ count_resolved es
unfolding IsTyped
count_same g ws r.no_args xs n h = ap count h
count_same g [] (r.arg e es) xs n h = let z : ℕ.zero ≡ suc (count_resolved es) = n in cc
count_same g (w ∷ ws) (r.arg e es) xs n h = ap count h.4 ∙ ap suc (count_same g ws es h.1 (let m : suc (length ws) ≡ suc (count_resolved es) = n in cc) h.3)

callee_well : (g : Scope) (x : r.Path) (es : r.Args) (xs : t.Args) (ty : Ty) → IsCall g x es xs ty → IsCallee g x xs ty
callee_well g x es xs ty h = (h.0, h.1, h.2 ∙ sym (count_same g (wants_of h.0) es xs h.2 h.3), h.4, h.5)

mutual
  unfolding IsTyped IsWell

  pub well : (g : Scope) (w : Kind) (e : r.Expr) (a : t.Expr) → IsTyped g w e a → IsWell g a
  well g w (r.number v true p) a h = subst (IsWell g) (sym h.1) refl
  well g w (r.number v false p) a h = subst (IsWell g) (sym h.1) (w, h.0, refl)
  well g w (r.truth b p) a h = subst (IsWell g) (sym h) refl
  well g w (r.reads x) a h = subst (IsWell g) (sym h.2) h.1
  well g w (r.calls x es) a h = subst (IsWell g) (sym h.4) (callee_well g x es h.0 h.1 h.2, all_well g (wants_of h.2.0) es h.0 h.2.3, h.3)
  well g w (r.index x e) a h = subst (IsWell g) (sym h.5) (h.2, well g k.Int e h.0 h.3, h.4)
  well g w (r.instance c) a h = subst (IsWell g) (sym h.1) (h.0, refl)
  well g w (r.group e p) a h = subst (IsWell g) (sym h.2) (well g w e h.0 h.1, refl)
  well g w (r.cast c e p) a h = subst (IsWell g) (sym h.4) (well g k.Int e h.0 h.2, h.3)
  well g w (r.prefix op e p) a h = subst (IsWell g) (sym h.4) (well g k.Int e h.0 h.2, h.3)
  well g w (r.pair op x y p) a h =
      let row = subst (λ b. pair_type op b (t.ty_of h.0) (t.ty_of h.1) ≡ Some h.2) (sym (plain_same g (beside (plain x) (t.ty_of h.0)) y h.1 h.4)) h.5 in
      subst (IsWell g) (sym h.6) (well g (beside (plain y) (t.ty_of h.1)) x h.0 h.3, well g (beside (plain x) (t.ty_of h.0)) y h.1 h.4, row)
  well g w (r.is e c p) a h = subst (IsWell g) (sym h.4) (well g k.Int e h.0 h.1, h.2, h.3, refl)

  pub all_well : (g : Scope) (ws : List Want) (es : r.Args) (xs : t.Args) → AreTyped g ws es xs → AreWell g xs
  all_well g ws r.no_args xs h = subst (AreWell g) (sym h) tt
  all_well g [] (r.arg e es) xs h = subst (AreWell g) (sym h) tt
  all_well g (w ∷ ws) (r.arg e es) xs h = subst (AreWell g) (sym h.4) (well g (taken_want w) e h.0 h.2, all_well g ws es h.1 h.3)

pub call_well : (g : Scope) (x : r.Path) (es : r.Args) (xs : t.Args) (ty : Ty) → IsCall g x es xs ty → IsCallee g x xs ty × AreWell g xs
call_well g x es xs ty h = (callee_well g x es xs ty h, all_well g (wants_of h.0) es xs h.3)
