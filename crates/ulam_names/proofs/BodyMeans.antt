-- What is found is a resolution.
use Rattle.std.proofs.Common.{ℕ, ◌+◌, refl, List, [], ◌∷◌, Option, Some, None, Bool, not, ℤ, drop, nat_lt}
use Rattle.std.proofs.lemmas.Bool.{ltb-true, not-true}
use Rattle.std.specs.List.{list_any}
use Rattle.feast_base.specs.declared.place.Place.{Place}
use Rattle.ulam_tree.specs.declared.resolved.Ty.{Ty}
use Rattle.ulam_tree.specs.declared.resolved.Ty.TheVariants as y
use Rattle.ulam_tree.specs.declared.resolved.Step.{Step}
use Rattle.ulam_tree.specs.declared.resolved.Named.{Named}
use Rattle.ulam_tree.specs.Raw as t
use Rattle.ulam_tree.specs.Resolved as r
use Rattle.ulam_tree.proofs.Means.{Means, means_then, means_found, means_must, found_means, must_means}
use Rattle.ulam_names.specs.Scopes.{Text, Basic, sized, whole, Head, Context, Entry, Scope, allows, is_named, inner_scope, next_name, first_name}
use Rattle.ulam_names.specs.declared.limits.TheConstants.{MOST_LOCALS}
use Rattle.ulam_names.specs.Walk as w
use Rattle.ulam_names.specs.Relation.{IsWidth, IsSized, IsType, IsClass, AreSteps, IsPathFrom, IsPath, IsExpr, AreArgs, IsMaybe, IsLeftSide, IsCond, MayDeclare, IsStatement, IsPart, IsBody}

pub width_means : (values : Text → Option ℤ) (d : t.Width) → Means (IsWidth values d) (w.width_value values d)
width_means values (t.wide n) = refl
width_means values (t.wide_as x) = found_means (values x.name) _

sized_means : (values : Text → Option ℤ) (p : Place) (b : Basic) (d : Option t.Width) → Means (IsSized values b d) (w.sized_by values p b d)
sized_means values p (whole b) None = refl
sized_means values p (whole b) (Some d) = tt
sized_means values p (sized k n) None = refl
sized_means values p (sized k n) (Some d) =
    let Q : Ty → Type 0 = IsSized values (sized k n) (Some d) in
    means_then _ Q (w.width_value values d) _ (width_means values d) (λ v hv. means_must Q (allows k v) _ _ (λ ok. (v, hv, ok, refl)))

pub type_means : (basics : Text → Option Basic) (values : Text → Option ℤ) (x : t.TypeRef) → Means (IsType basics values x) (w.type_named basics values x)
type_means basics values x =
    let Q : Named → Type 0 = IsType basics values x in
    means_found Q (basics x.word.name) _ _ (λ b hb. means_then _ Q (w.sized_by values x.word.place b x.width) _ (sized_means values x.word.place b x.width) (λ ty ht. (b, ty, hb, ht, refl)))

pub class_means : (basics : Text → Option Basic) (x : t.Word) → Means (IsClass basics x) (w.class_named basics x)
class_means basics x = means_found (IsClass basics x) (basics x.name) _ _ (λ b hb. (b, hb, refl))

steps_mean : (heads : List Head) (ty : Ty) (ws : List t.Word) → Means (AreSteps heads ty ws) (w.steps_after heads ty ws)
steps_mean heads ty [] = refl
steps_mean heads ty (x ∷ ws) =
    let Q : List Step → Type 0 = AreSteps heads ty (x ∷ ws) in
    means_found Q (next_name heads ty x.name) _ _ (λ a ha. means_then (AreSteps heads a.1 ws) Q (w.steps_after heads a.1 ws) _ (steps_mean heads a.1 ws) (λ more hm. (a, more, ha, hm, refl)))

path_from_means : (c : Context) (es : List Entry) (own : Option Place) (ws : List t.Word) → Means (IsPathFrom c es own ws) (w.path_from c es own ws)
path_from_means c es (Some p) ws =
    let Q : r.Path → Type 0 = IsPathFrom c es (Some p) ws in
    means_then _ Q (w.steps_after c.heads (y.Class c.own) ws) _ (steps_mean c.heads (y.Class c.own) ws) (λ more hm. (more, hm, refl))
path_from_means c es None [] = tt
path_from_means c es None (x ∷ ws) =
    let Q : r.Path → Type 0 = IsPathFrom c es None (x ∷ ws) in
    means_found Q (first_name c es x.name) _ _ (λ a ha. means_then (AreSteps c.heads a.1 ws) Q (w.steps_after c.heads a.1 ws) _ (steps_mean c.heads a.1 ws) (λ more hm. (a, more, ha, hm, refl)))

pub path_means : (c : Context) (es : List Entry) (x : t.Path) → Means (IsPath c es x) (w.path c es x)
path_means c es x = path_from_means c es x.own x.words

mutual
  pub expr_means : (c : Context) (es : List Entry) (e : t.Expr) → Means (IsExpr c es e) (w.expr c es e)
  expr_means c es (t.number n u p) = refl
  expr_means c es (t.truth b p) = refl
  expr_means c es (t.reads g) = means_then _ (IsExpr c es (t.reads g)) (w.path c es g) _ (path_means c es g) (λ q hq. (q, hq, refl))
  expr_means c es (t.calls g xs) =
      let Q : r.Expr → Type 0 = IsExpr c es (t.calls g xs) in
      means_then _ Q (w.path c es g) _ (path_means c es g) (λ q hq. means_then _ Q (w.args c es xs) _ (args_mean c es xs) (λ a ha. (q, a, hq, ha, refl)))
  expr_means c es (t.index g e) =
      let Q : r.Expr → Type 0 = IsExpr c es (t.index g e) in
      means_then _ Q (w.path c es g) _ (path_means c es g) (λ q hq. means_then _ Q (w.expr c es e) _ (expr_means c es e) (λ d hd. (q, d, hq, hd, refl)))
  expr_means c es (t.instance d) = means_then _ (IsExpr c es (t.instance d)) (w.class_named (w.basic_in c) d) _ (class_means (w.basic_in c) d) (λ n hn. (n, hn, refl))
  expr_means c es (t.group e p) = means_then _ (IsExpr c es (t.group e p)) (w.expr c es e) _ (expr_means c es e) (λ d hd. (d, hd, refl))
  expr_means c es (t.cast ty e p) =
      let Q : r.Expr → Type 0 = IsExpr c es (t.cast ty e p) in
      means_then _ Q (w.type_in c es ty) _ (type_means (w.basic_in c) (w.constant_in c es) ty) (λ n hn. means_then _ Q (w.expr c es e) _ (expr_means c es e) (λ d hd. (n, d, hn, hd, refl)))
  expr_means c es (t.prefix op e p) = means_then _ (IsExpr c es (t.prefix op e p)) (w.expr c es e) _ (expr_means c es e) (λ d hd. (d, hd, refl))
  expr_means c es (t.pair op e f p) =
      let Q : r.Expr → Type 0 = IsExpr c es (t.pair op e f p) in
      means_then _ Q (w.expr c es e) _ (expr_means c es e) (λ d hd. means_then _ Q (w.expr c es f) _ (expr_means c es f) (λ g hg. (d, g, hd, hg, refl)))
  expr_means c es (t.is e k p) =
      let Q : r.Expr → Type 0 = IsExpr c es (t.is e k p) in
      means_then _ Q (w.expr c es e) _ (expr_means c es e) (λ d hd. means_then _ Q (w.class_named (w.basic_in c) k) _ (class_means (w.basic_in c) k) (λ n hn. (d, n, hd, hn, refl)))

  args_mean : (c : Context) (es : List Entry) (xs : t.Args) → Means (AreArgs c es xs) (w.args c es xs)
  args_mean c es t.no_args = refl
  args_mean c es (t.arg e xs) =
      let Q : r.Args → Type 0 = AreArgs c es (t.arg e xs) in
      means_then _ Q (w.expr c es e) _ (expr_means c es e) (λ d hd. means_then _ Q (w.args c es xs) _ (args_mean c es xs) (λ a ha. (d, a, hd, ha, refl)))

maybe_means : (c : Context) (es : List Entry) (e : Option t.Expr) → Means (IsMaybe c es e) (w.maybe_expr c es e)
maybe_means c es None = refl
maybe_means c es (Some e) = means_then _ (IsMaybe c es (Some e)) (w.expr c es e) _ (expr_means c es e) (λ d hd. (d, hd, refl))

left_means : (c : Context) (es : List Entry) (l : t.Left) → Means (IsLeftSide c es l) (w.left_side c es l)
left_means c es l =
    let Q : r.Left → Type 0 = IsLeftSide c es l in
    means_then _ Q (w.path c es l.path) _ (path_means c es l.path) (λ q hq. means_then _ Q (w.maybe_expr c es l.index) _ (maybe_means c es l.index) (λ i hi. (q, i, hq, hi, refl)))

cond_means : (c : Context) (es : List Entry) (k : t.Cond) → Means (IsCond c es k) (w.cond c es k)
cond_means c es (t.seen g d) =
    let Q : r.Cond → Type 0 = IsCond c es (t.seen g d) in
    means_then _ Q (w.path c es (w.one_word g)) _ (path_means c es (w.one_word g)) (λ q hq. means_then _ Q (w.class_named (w.basic_in c) d) _ (class_means (w.basic_in c) d) (λ n hn. (q, n, hq, hn, refl)))
cond_means c es (t.test e) = means_then _ (IsCond c es (t.test e)) (w.expr c es e) _ (expr_means c es e) (λ d hd. (d, hd, refl))

declared_means : (c : Context) (s : Scope) (n : ℕ) (x : t.Word) → Means (λ _. MayDeclare c s n x) (w.may_declare c s n x)
declared_means c s n x =
    let Q : Unit {0} → Type 0 = λ _. MayDeclare c s n x in
    means_must Q (nat_lt n (c.params + MOST_LOCALS)) _ _ (λ few.
    let apart : Bool = not (list_any (is_named x.name) (drop s.from s.entries)) in
    must_means Q apart _ (λ new. (ltb-true n (c.params + MOST_LOCALS) few, not-true _ new)))

mutual
  pub statement_means : (c : Context) (s : Scope) (n : ℕ) (f : t.Statement) → Means (IsStatement c s n f) (w.statement c s n f)
  statement_means c s n (t.block b) = means_then _ (IsStatement c s n (t.block b)) (w.body c (inner_scope s) n b) _ (body_means c (inner_scope s) n b) (λ a ha. (a, ha, refl))
  statement_means c s n t.empty = refl
  statement_means c s n (t.if_so k f g) =
      let Q : r.Statement → Type 0 = IsStatement c s n (t.if_so k f g) in
      means_then _ Q (w.cond c s.entries k) _ (cond_means c s.entries k) (λ d hd.
      let s1 : Scope = inner_scope (w.branch_scope c.heads s k (w.shown_element d)) in
      means_then _ Q (w.statement c s1 n f) _ (statement_means c s1 n f) (λ a ha.
      means_then _ Q (w.part c (inner_scope s) (n + w.locals_of f) g) _ (part_means c (inner_scope s) (n + w.locals_of f) g) (λ b hb. (d, a, b, hd, ha, hb, refl))))
  statement_means c s n (t.while_so k f) =
      let Q : r.Statement → Type 0 = IsStatement c s n (t.while_so k f) in
      means_then _ Q (w.expr c s.entries k) _ (expr_means c s.entries k) (λ d hd. means_then _ Q (w.statement c (inner_scope s) n f) _ (statement_means c (inner_scope s) n f) (λ a ha. (d, a, hd, ha, refl)))
  statement_means c s n (t.for_all f k g h) =
      let Q : r.Statement → Type 0 = IsStatement c s n (t.for_all f k g h) in
      means_then _ Q (w.part c (inner_scope s) n f) _ (part_means c (inner_scope s) n f) (λ a ha.
      let s1 : Scope = w.after_part c.heads (inner_scope s) n f a in
      means_then _ Q (w.maybe_expr c s1.entries k) _ (maybe_means c s1.entries k) (λ d hd.
      means_then _ Q (w.part c s1 (n + w.locals_part f) g) _ (part_means c s1 (n + w.locals_part f) g) (λ b hb.
      means_then _ Q (w.statement c (inner_scope s1) (n + w.locals_part f + w.locals_part g) h) _ (statement_means c (inner_scope s1) (n + w.locals_part f + w.locals_part g) h) (λ z hz. (a, d, b, z, ha, hd, hb, hz, refl)))))
  statement_means c s n (t.returns p e) = means_then _ (IsStatement c s n (t.returns p e)) (w.maybe_expr c s.entries e) _ (maybe_means c s.entries e) (λ d hd. (d, hd, refl))
  statement_means c s n (t.breaks p) = refl
  statement_means c s n (t.continues p) = refl
  statement_means c s n (t.declares ty x e) =
      let Q : r.Statement → Type 0 = IsStatement c s n (t.declares ty x e) in
      means_then _ Q (w.type_in c s.entries ty) _ (type_means (w.basic_in c) (w.constant_in c s.entries) ty) (λ m hm.
      means_then _ Q (w.may_declare c s n x) _ (declared_means c s n x) (λ u hu.
      means_then _ Q (w.maybe_expr c s.entries e) _ (maybe_means c s.entries e) (λ d hd. (m, d, hm, hu, hd, refl))))
  statement_means c s n (t.assigns l op e) =
      let Q : r.Statement → Type 0 = IsStatement c s n (t.assigns l op e) in
      means_then _ Q (w.left_side c s.entries l) _ (left_means c s.entries l) (λ m hm. means_then _ Q (w.expr c s.entries e) _ (expr_means c s.entries e) (λ d hd. (m, d, hm, hd, refl)))
  statement_means c s n (t.counts l up) = means_then _ (IsStatement c s n (t.counts l up)) (w.left_side c s.entries l) _ (left_means c s.entries l) (λ m hm. (m, hm, refl))
  statement_means c s n (t.does p xs) =
      let Q : r.Statement → Type 0 = IsStatement c s n (t.does p xs) in
      means_then _ Q (w.path c s.entries p) _ (path_means c s.entries p) (λ q hq. means_then _ Q (w.args c s.entries xs) _ (args_mean c s.entries xs) (λ a ha. (q, a, hq, ha, refl)))

  part_means : (c : Context) (s : Scope) (n : ℕ) (f : t.Part) → Means (IsPart c s n f) (w.part c s n f)
  part_means c s n t.no_part = refl
  part_means c s n (t.part f) = means_then _ (IsPart c s n (t.part f)) (w.statement c s n f) _ (statement_means c s n f) (λ a ha. (a, ha, refl))

  pub body_means : (c : Context) (s : Scope) (n : ℕ) (b : t.Body) → Means (IsBody c s n b) (w.body c s n b)
  body_means c s n t.no_more = refl
  body_means c s n (t.then_so f b) =
      let Q : r.Body → Type 0 = IsBody c s n (t.then_so f b) in
      means_then _ Q (w.statement c s n f) _ (statement_means c s n f) (λ a ha.
      let s1 : Scope = w.after c.heads s n f a in
      means_then _ Q (w.body c s1 (n + w.locals_of f) b) _ (body_means c s1 (n + w.locals_of f) b) (λ z hz. (a, z, ha, hz, refl)))
