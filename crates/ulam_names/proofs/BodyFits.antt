-- What is a resolution is found.
use Rattle.std.proofs.Common.{◌≡◌, ℕ, ◌+◌, refl, sym, ap, ◌∙◌, List, [], ◌∷◌, Option, Some, None, true, Ok, Err, ℤ, nat_lt}
use Rattle.std.proofs.lemmas.Bool.{lt-ltb}
use Rattle.feast_base.specs.declared.place.Place.{Place}
use Rattle.ulam_tree.specs.declared.resolved.Ty.{Ty}
use Rattle.ulam_tree.specs.declared.resolved.Ty.TheVariants as y
use Rattle.ulam_tree.specs.declared.resolved.Step.{Step}
use Rattle.ulam_tree.specs.declared.resolved.Named.{Named}
use Rattle.ulam_tree.specs.Raw as t
use Rattle.ulam_tree.specs.Resolved as r
use Rattle.ulam_names.specs.Faults.{Found}
use Rattle.ulam_names.specs.Scopes.{Text, Basic, sized, whole, Head, Context, Entry, Scope}
use Rattle.ulam_names.specs.Walk as w
use Rattle.ulam_names.specs.Relation.{IsWidth, IsSized, IsType, IsClass, AreSteps, IsPathFrom, IsPath, IsExpr, AreArgs, IsMaybe, IsLeftSide, IsCond, IsStatement, IsPart, IsBody}

pub width_fits : (values : Text → Option ℤ) (d : t.Width) (v : ℤ) → IsWidth values d v → w.width_value values d ≡ Ok v
width_fits values (t.wide n) v h = ap Ok (sym h)
width_fits values (t.wide_as x) v h = rw h refl

sized_fits : (values : Text → Option ℤ) (p : Place) (b : Basic) (d : Option t.Width) (ty : Ty) → IsSized values b d ty → w.sized_by values p b d ≡ Ok ty
sized_fits values p (whole b) None ty h = ap Ok (sym h)
sized_fits values p (whole b) (Some d) ty h = absurd h
sized_fits values p (sized k n) None ty h = ap Ok (sym h)
sized_fits values p (sized k n) (Some d) ty h = rw (width_fits values d h.0 h.1, h.2) (ap Ok (sym h.3))

pub type_fits : (basics : Text → Option Basic) (values : Text → Option ℤ) (x : t.TypeRef) (n : Named) → IsType basics values x n → w.type_named basics values x ≡ Ok n
type_fits basics values x n h = rw (h.2, sized_fits values x.word.place h.0 x.width h.1 h.3) (ap Ok (sym h.4))

pub class_fits : (basics : Text → Option Basic) (x : t.Word) (n : Named) → IsClass basics x n → w.class_named basics x ≡ Ok n
class_fits basics x n h = rw h.1 (ap Ok (sym h.2))

steps_fit : (heads : List Head) (ty : Ty) (ws : List t.Word) (ss : List Step) → AreSteps heads ty ws ss → w.steps_after heads ty ws ≡ Ok ss
steps_fit heads ty [] ss h = ap Ok (sym h)
steps_fit heads ty (x ∷ ws) ss h = rw (h.2, steps_fit heads h.0.1 ws h.1 h.3) (ap Ok (sym h.4))

path_from_fits : (c : Context) (es : List Entry) (own : Option Place) (ws : List t.Word) (q : r.Path) → IsPathFrom c es own ws q → w.path_from c es own ws ≡ Ok q
path_from_fits c es (Some p) ws q h = rw (steps_fit c.heads (y.Class c.own) ws h.0 h.1) (ap Ok (sym h.2))
path_from_fits c es None [] q h = absurd h
path_from_fits c es None (x ∷ ws) q h = rw (h.2, steps_fit c.heads h.0.1 ws h.1 h.3) (ap Ok (sym h.4))

pub path_fits : (c : Context) (es : List Entry) (x : t.Path) (q : r.Path) → IsPath c es x q → w.path c es x ≡ Ok q
path_fits c es x q h = path_from_fits c es x.own x.words q h

mutual
  pub expr_fits : (c : Context) (es : List Entry) (e : t.Expr) (x : r.Expr) → IsExpr c es e x → w.expr c es e ≡ Ok x
  expr_fits c es (t.number n u p) x h = ap Ok (sym h)
  expr_fits c es (t.truth b p) x h = ap Ok (sym h)
  expr_fits c es (t.reads g) x h = rw (path_fits c es g h.0 h.1) (ap Ok (sym h.2))
  expr_fits c es (t.calls g xs) x h = rw (path_fits c es g h.0 h.2, args_fit c es xs h.1 h.3) (ap Ok (sym h.4))
  expr_fits c es (t.index g e) x h = rw (path_fits c es g h.0 h.2, expr_fits c es e h.1 h.3) (ap Ok (sym h.4))
  expr_fits c es (t.instance d) x h = rw (class_fits (w.basic_in c) d h.0 h.1) (ap Ok (sym h.2))
  expr_fits c es (t.group e p) x h = rw (expr_fits c es e h.0 h.1) (ap Ok (sym h.2))
  expr_fits c es (t.cast ty e p) x h = rw (type_fits (w.basic_in c) (w.constant_in c es) ty h.0 h.2, expr_fits c es e h.1 h.3) (ap Ok (sym h.4))
  expr_fits c es (t.prefix op e p) x h = rw (expr_fits c es e h.0 h.1) (ap Ok (sym h.2))
  expr_fits c es (t.pair op e f p) x h = rw (expr_fits c es e h.0 h.2, expr_fits c es f h.1 h.3) (ap Ok (sym h.4))
  expr_fits c es (t.is e d p) x h = rw (expr_fits c es e h.0 h.2, class_fits (w.basic_in c) d h.1 h.3) (ap Ok (sym h.4))

  args_fit : (c : Context) (es : List Entry) (xs : t.Args) (a : r.Args) → AreArgs c es xs a → w.args c es xs ≡ Ok a
  args_fit c es t.no_args a h = ap Ok (sym h)
  args_fit c es (t.arg e xs) a h = rw (expr_fits c es e h.0 h.2, args_fit c es xs h.1 h.3) (ap Ok (sym h.4))

maybe_fits : (c : Context) (es : List Entry) (e : Option t.Expr) (x : Option r.Expr) → IsMaybe c es e x → w.maybe_expr c es e ≡ Ok x
maybe_fits c es None x h = ap Ok (sym h)
maybe_fits c es (Some e) x h = rw (expr_fits c es e h.0 h.1) (ap Ok (sym h.2))

left_fits : (c : Context) (es : List Entry) (l : t.Left) (x : r.Left) → IsLeftSide c es l x → w.left_side c es l ≡ Ok x
left_fits c es l x h = rw (path_fits c es l.path h.0 h.2, maybe_fits c es l.index h.1 h.3) (ap Ok (sym h.4))

cond_fits : (c : Context) (es : List Entry) (k : t.Cond) (x : r.Cond) → IsCond c es k x → w.cond c es k ≡ Ok x
cond_fits c es (t.seen g d) x h = rw (path_fits c es (w.one_word g) h.0 h.2, class_fits (w.basic_in c) d h.1 h.3) (ap Ok (sym h.4))
cond_fits c es (t.test e) x h = rw (expr_fits c es e h.0 h.1) (ap Ok (sym h.2))

mutual
  pub statement_fits : (c : Context) (s : Scope) (n : ℕ) (f : t.Statement) (x : r.Statement) → IsStatement c s n f x → w.statement c s n f ≡ Ok x
  statement_fits c s n (t.block b) x h = rw (body_fits c _ n b h.0 h.1) (ap Ok (sym h.2))
  statement_fits c s n t.empty x h = ap Ok (sym h)
  statement_fits c s n (t.if_so k f g) x h =
      rw (cond_fits c s.entries k h.0 h.3, statement_fits c _ n f h.1 h.4, part_fits c _ _ g h.2 h.5) (ap Ok (sym h.6))
  statement_fits c s n (t.while_so k f) x h = rw (expr_fits c s.entries k h.0 h.2, statement_fits c _ n f h.1 h.3) (ap Ok (sym h.4))
  statement_fits c s n (t.for_all f k g z) x h =
      rw (part_fits c _ n f h.0 h.4, maybe_fits c _ k h.1 h.5, part_fits c _ _ g h.2 h.6, statement_fits c _ _ z h.3 h.7) (ap Ok (sym h.8))
  statement_fits c s n (t.returns p e) x h = rw (maybe_fits c s.entries e h.0 h.1) (ap Ok (sym h.2))
  statement_fits c s n (t.breaks p) x h = ap Ok (sym h)
  statement_fits c s n (t.continues p) x h = ap Ok (sym h)
  statement_fits c s n (t.declares ty d e) x h =
      let few : nat_lt n (c.params + 64) ≡ true = lt-ltb n (c.params + 64) h.3.0 in
      rw (type_fits (w.basic_in c) (w.constant_in c s.entries) ty h.0 h.2, few, h.3.1, maybe_fits c s.entries e h.1 h.4) (ap Ok (sym h.5))
  statement_fits c s n (t.assigns l op e) x h = rw (left_fits c s.entries l h.0 h.2, expr_fits c s.entries e h.1 h.3) (ap Ok (sym h.4))
  statement_fits c s n (t.counts l up) x h = rw (left_fits c s.entries l h.0 h.1) (ap Ok (sym h.2))
  statement_fits c s n (t.does p xs) x h = rw (path_fits c s.entries p h.0 h.2, args_fit c s.entries xs h.1 h.3) (ap Ok (sym h.4))

  part_fits : (c : Context) (s : Scope) (n : ℕ) (f : t.Part) (x : r.Part) → IsPart c s n f x → w.part c s n f ≡ Ok x
  part_fits c s n t.no_part x h = ap Ok (sym h)
  part_fits c s n (t.part f) x h = rw (statement_fits c s n f h.0 h.1) (ap Ok (sym h.2))

  pub body_fits : (c : Context) (s : Scope) (n : ℕ) (b : t.Body) (x : r.Body) → IsBody c s n b x → w.body c s n b ≡ Ok x
  body_fits c s n t.no_more x h = ap Ok (sym h)
  body_fits c s n (t.then_so f b) x h = rw (statement_fits c s n f h.0 h.2, body_fits c _ _ b h.1 h.3) (ap Ok (sym h.4))

abbrev pub answer_or : {A : Type 0} → A → Found A → A
answer_or x (Ok z) = z
answer_or x (Err e) = x

-- a body has one resolution at most
pub one_body : (c : Context) (s : Scope) (n : ℕ) (b : t.Body) (x z : r.Body) → IsBody c s n b x → IsBody c s n b z → x ≡ z
one_body c s n b x z h k = ap (answer_or x) (sym (body_fits c s n b x h) ∙ body_fits c s n b z k)
