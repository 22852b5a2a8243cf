-- Typed expressions name what their resolved ones name.
use Rattle.std.proofs.Common.{ℕ, true, false, Bool, List, [], ◌∷◌, Option, Some, None, sym, subst}
use Rattle.feast_base.specs.declared.place.Place.{Place}
use Rattle.sat_math.specs.declared.Kind.{Kind}
use Rattle.sat_math.specs.declared.Kind.TheVariants as k
use Rattle.ulam_tree.specs.Raw as raw
use Rattle.ulam_tree.specs.Resolved as r
use Rattle.ulam_tree.specs.Typed as t
use Rattle.ulam_names.specs.Scopes.{Context, Entry}
use Rattle.ulam_names.specs.Walk.{constant_in}
use Rattle.ulam_names.specs.Relation as names
use Rattle.type_rules.specs.declared.scope.Want.{Want}
use Rattle.type_rules.specs.Scopes as scopes
use Rattle.type_rules.specs.Rows.{taken_want, beside}
use Rattle.type_rules.specs.Walk.{plain}
use Rattle.type_rules.specs.Typing as types
use Rattle.type_rules.specs.Typing.{IsTyped, AreTyped}
use Rattle.ulam_meaning.specs.Paths.{Scene}
use Rattle.code_gen.specs.Named.{IsNamedPath, IsNamed, AreNamed, IfNamed}
use Rattle.source_laws.proofs.Widths.{plain_number, type_wide}
use Rattle.source_laws.proofs.Entries.{Covers}
use Rattle.source_laws.proofs.Paths.{Stands, path_named}

module _ (c : Context) (z : Scene) (stands : Stands c z) where
  number_named : (w : Kind) (v : ℕ) (u : Bool) (p : Place) (a : t.Expr) → types.IsNumber w v u p a → IsNamed z c.own a
  number_named w v true p a h = subst (IsNamed z c.own) (sym h.1) (plain_number k.Unsigned v h.0)
  number_named w v false p a h = subst (IsNamed z c.own) (sym h.1) (plain_number w v h.0)

  at_path : (es : List Entry) (x : raw.Path) (q : r.Path) → Covers c.heads z es → names.IsPath c es x q → IsNamedPath z c.own q.steps
  at_path es x q cover h = path_named c z stands es x q cover h

  mutual
    unfolding IsTyped

    pub expr_named : (g : scopes.Scope) (w : Kind) (es : List Entry) (e : raw.Expr) (x : r.Expr) (a : t.Expr) → Covers c.heads z es → names.IsExpr c es e x → IsTyped g w x a → IsNamed z c.own a
    expr_named g w es (raw.number v u p) x a cover h i = number_named w v u p a (subst (λ (x : r.Expr). IsTyped g w x a) h i)
    expr_named g w es (raw.truth b p) x a cover h i = let j : IsTyped g w (r.truth b p) a = subst (λ (x : r.Expr). IsTyped g w x a) h i in subst (IsNamed z c.own) (sym j) tt
    expr_named g w es (raw.reads q) x a cover h i =
        let j : IsTyped g w (r.reads h.0) a = subst (λ (x : r.Expr). IsTyped g w x a) h.2 i in
        subst (IsNamed z c.own) (sym j.2) (at_path es q h.0 cover h.1)
    expr_named g w es (raw.calls q xs) x a cover h i =
        let j : IsTyped g w (r.calls h.0 h.1) a = subst (λ (x : r.Expr). IsTyped g w x a) h.4 i in
        subst (IsNamed z c.own) (sym j.4) (at_path es q h.0 cover h.2, args_named g (scopes.wants_of j.2.0) es xs h.1 j.0 cover h.3 j.2.3)
    expr_named g w es (raw.index q e) x a cover h i =
        let j : IsTyped g w (r.index h.0 h.1) a = subst (λ (x : r.Expr). IsTyped g w x a) h.4 i in
        subst (IsNamed z c.own) (sym j.5) (at_path es q h.0 cover h.2, expr_named g k.Int es e h.1 j.0 cover h.3 j.3)
    expr_named g w es (raw.instance d) x a cover h i = let j : IsTyped g w (r.instance h.0) a = subst (λ (x : r.Expr). IsTyped g w x a) h.2 i in subst (IsNamed z c.own) (sym j.1) tt
    expr_named g w es (raw.group e p) x a cover h i =
        let j : IsTyped g w (r.group h.0 p) a = subst (λ (x : r.Expr). IsTyped g w x a) h.2 i in
        subst (IsNamed z c.own) (sym j.2) (expr_named g w es e h.0 j.0 cover h.1 j.1)
    expr_named g w es (raw.cast ty e p) x a cover h i =
        let j : IsTyped g w (r.cast h.0 h.1 p) a = subst (λ (x : r.Expr). IsTyped g w x a) h.4 i in
        subst (IsNamed z c.own) (sym j.4) (type_wide c.typedefs c.classes (constant_in c es) ty h.0 stands.typedefs h.2, expr_named g k.Int es e h.1 j.0 cover h.3 j.2)
    expr_named g w es (raw.prefix o e p) x a cover h i =
        let j : IsTyped g w (r.prefix o h.0 p) a = subst (λ (x : r.Expr). IsTyped g w x a) h.2 i in
        subst (IsNamed z c.own) (sym j.4) (expr_named g k.Int es e h.0 j.0 cover h.1 j.2)
    expr_named g w es (raw.pair o e f p) x a cover h i =
        let j : IsTyped g w (r.pair o h.0 h.1 p) a = subst (λ (x : r.Expr). IsTyped g w x a) h.4 i in
        subst (IsNamed z c.own) (sym j.6)
        (expr_named g (beside (plain h.1) (t.ty_of j.1)) es e h.0 j.0 cover h.2 j.3, expr_named g (beside (plain h.0) (t.ty_of j.0)) es f h.1 j.1 cover h.3 j.4)
    expr_named g w es (raw.is e d p) x a cover h i =
        let j : IsTyped g w (r.is h.0 h.1 p) a = subst (λ (x : r.Expr). IsTyped g w x a) h.4 i in
        subst (IsNamed z c.own) (sym j.4) (expr_named g k.Int es e h.0 j.0 cover h.2 j.1)

    pub args_named : (g : scopes.Scope) (ws : List Want) (es : List Entry) (xs : raw.Args) (ys : r.Args) (as_ : t.Args) → Covers c.heads z es → names.AreArgs c es xs ys → AreTyped g ws ys as_ → AreNamed z c.own as_
    args_named g ws es raw.no_args ys as_ cover h i = let j : AreTyped g ws r.no_args as_ = subst (λ (ys : r.Args). AreTyped g ws ys as_) h i in subst (AreNamed z c.own) (sym j) tt
    args_named g [] es (raw.arg e xs) ys as_ cover h i =
        let j : AreTyped g [] (r.arg h.0 h.1) as_ = subst (λ (ys : r.Args). AreTyped g [] ys as_) h.4 i in
        subst (AreNamed z c.own) (sym j) tt
    args_named g (w ∷ ws) es (raw.arg e xs) ys as_ cover h i =
        let j : AreTyped g (w ∷ ws) (r.arg h.0 h.1) as_ = subst (λ (ys : r.Args). AreTyped g (w ∷ ws) ys as_) h.4 i in
        subst (AreNamed z c.own) (sym j.4) (expr_named g (taken_want w) es e h.0 j.0 cover h.2 j.2, args_named g ws es xs h.1 j.1 cover h.3 j.3)

  -- an expression that may stand there, with what is asked of its type
  pub maybe_named : (P : r.Expr → t.Expr → Type 0) (g : scopes.Scope) → ((d : r.Expr) (b : t.Expr) → P d b → (w : Kind) × IsTyped g w d b) →
      (es : List Entry) (e : Option raw.Expr) (x : Option r.Expr) (a : Option t.Expr) → Covers c.heads z es → names.IsMaybe c es e x → types.IsMaybe P x a → IfNamed z c.own a
  maybe_named P g typed es None x a cover h i = let j : types.IsMaybe P None a = subst (λ (x : Option r.Expr). types.IsMaybe P x a) h i in subst (IfNamed z c.own) (sym j) tt
  maybe_named P g typed es (Some e) x a cover h i =
      let j : types.IsMaybe P (Some h.0) a = subst (λ (x : Option r.Expr). types.IsMaybe P x a) h.2 i in
      let w = typed h.0 j.0 j.1 in
      subst (IfNamed z c.own) (sym j.2) (expr_named g w.0 es e h.0 j.0 cover h.1 w.1)
