-- The walk over an expression finds exactly its typed tree.
use Rattle.std.proofs.Common.{◌≡◌, ℕ, true, false, nat_eq, length, List, [], ◌∷◌, Some, Ok, refl, ap, sym}
use Rattle.std.proofs.lemmas.Bool.{eqb-true, eq-eqb}
use Rattle.sat_math.specs.declared.Kind.{Kind}
use Rattle.sat_math.specs.declared.Kind.TheVariants as k
use Rattle.ulam_tree.specs.declared.resolved.Ty.{Ty}
use Rattle.ulam_tree.specs.Resolved as r
use Rattle.ulam_tree.specs.Typed as t
use Rattle.type_rules.specs.declared.scope.Want.{Want}
use Rattle.type_rules.specs.Faults.{Found}
use Rattle.type_rules.specs.Scopes.{Scope, is_value, value_type, item_type, callee, wants_of}
use Rattle.type_rules.specs.Rows.{beside, plain_fits, pair_type, prefix_type, cast_type, is_atom, is_species, is_index, taken_want, all_suit, is_built}
use Rattle.type_rules.specs.Walk.{plain, count, operands, arguments_by, called_by, index_by, expr, args}
use Rattle.type_rules.specs.Typing.{IsCalled, IsTyped, AreTyped}
use Rattle.ulam_tree.proofs.Means.{Means, means_then, means_found, means_must, means_at}
use Rattle.ulam_types.proofs.Operands.{operands_fit, operands_mean}

-- only a plain number asks for the kind
pub expr_any : (g : Scope) (e : r.Expr) → plain e ≡ false → (v w : Kind) → expr g v e ≡ expr g w e
unfolding expr
expr_any g (r.number n true p) h v w = refl
expr_any g (r.number n false p) h v w = cc
expr_any g (r.truth b p) h v w = refl
expr_any g (r.reads x) h v w = refl
expr_any g (r.calls x es) h v w = refl
expr_any g (r.index x e) h v w = refl
expr_any g (r.instance c) h v w = refl
expr_any g (r.group e p) h v w = rw (expr_any g e h v w) refl
expr_any g (r.cast c e p) h v w = refl
expr_any g (r.prefix op e p) h v w = refl
expr_any g (r.pair op x y p) h v w = refl
expr_any g (r.is e c p) h v w = refl

pub called_fits : (g : Scope) (x : r.Path) (n : ℕ) (AreRead : List Want → t.Args → Type 0) (read : List Want → Found t.Args) (xs : t.Args) (ty : Ty) →
    ((ws : List Want) → AreRead ws xs → read ws ≡ Ok xs) → IsCalled g x n AreRead (record { args = xs; ty = ty }) → called_by g x n read ≡ Ok (xs, ty)
called_fits g x n AreRead read xs ty reading h =
    let many : nat_eq (length (wants_of h.0)) n ≡ true = eq-eqb _ _ h.2 in
    let all : read (wants_of h.0) ≡ Ok xs = reading (wants_of h.0) h.3 in
    rw (h.1, many, all, h.4) (ap (λ y. Ok (xs, y)) (sym h.5))

mutual
  unfolding IsTyped expr

  pub expr_fits : (g : Scope) (w : Kind) (e : r.Expr) (a : t.Expr) → IsTyped g w e a → expr g w e ≡ Ok a
  expr_fits g w (r.number v true p) a h = rw h.0 (ap Ok (sym h.1))
  expr_fits g w (r.number v false p) a h = rw h.0 (ap Ok (sym h.1))
  expr_fits g w (r.truth b p) a h = ap Ok (sym h)
  expr_fits g w (r.reads x) a h = rw h.1 (ap Ok (sym h.2))
  expr_fits g w (r.calls x es) a h =
      let call = called_fits g x (count es) (λ ws bs. AreTyped g ws es bs) (λ ws. args g ws es) h.0 h.1 (λ ws i. args_fit g ws es h.0 i) h.2 in
      rw (call, h.3) (ap Ok (sym h.4))
  expr_fits g w (r.index x e) a h = rw (h.2, expr_fits g k.Int e h.0 h.3, h.4) (ap Ok (sym h.5))
  expr_fits g w (r.instance c) a h = rw h.0 (ap Ok (sym h.1))
  expr_fits g w (r.group e p) a h = rw (expr_fits g w e h.0 h.1) (ap Ok (sym h.2))
  expr_fits g w (r.cast c e p) a h = rw (expr_fits g k.Int e h.0 h.2, h.3) (ap Ok (sym h.4))
  expr_fits g w (r.prefix op e p) a h = rw (expr_fits g k.Int e h.0 h.2, h.3) (ap Ok (sym h.4))
  expr_fits g w (r.pair op x y p) a h =
      let both = operands_fit (plain x) (plain y) (λ v. expr g v x) (λ v. expr g v y) h.0 h.1 (expr_any g x)
      (expr_fits g (beside (plain y) (t.ty_of h.1)) x h.0 h.3) (expr_fits g (beside (plain x) (t.ty_of h.0)) y h.1 h.4) in
      rw (both, h.5) (ap Ok (sym h.6))
  expr_fits g w (r.is e c p) a h = rw (expr_fits g k.Int e h.0 h.1, h.2, h.3) (ap Ok (sym h.4))

  pub args_fit : (g : Scope) (ws : List Want) (es : r.Args) (xs : t.Args) → AreTyped g ws es xs → args g ws es ≡ Ok xs
  args_fit g ws r.no_args xs h = ap Ok (sym h)
  args_fit g [] (r.arg e es) xs h = ap Ok (sym h)
  args_fit g (w ∷ ws) (r.arg e es) xs h = rw (expr_fits g (taken_want w) e h.0 h.2, args_fit g ws es h.1 h.3) (ap Ok (sym h.4))

pub called_means : (g : Scope) (x : r.Path) (n : ℕ) (AreRead : List Want → t.Args → Type 0) (read : List Want → Found t.Args) →
    ((ws : List Want) → Means (AreRead ws) (read ws)) → Means (λ (c : t.Args × Ty). IsCalled g x n AreRead (record { args = c.0; ty = c.1 })) (called_by g x n read)
called_means g x n AreRead read reading =
    let Q : t.Args × Ty → Type 0 = λ c. IsCalled g x n AreRead (record { args = c.0; ty = c.1 }) in
    means_found Q (callee g x.steps) _ _ (λ f hf.
    let P : t.Args → Type 0 = λ xs. (length (wants_of f) ≡ n) × AreRead (wants_of f) xs × (all_suit g (wants_of f) xs ≡ true) in
    means_then P Q (arguments_by g x.place (is_built f) (wants_of f) n read) _
    (means_must P (nat_eq (length (wants_of f)) n) _ _ (λ hn.
    means_then (AreRead (wants_of f)) P (read (wants_of f)) _ (reading (wants_of f)) (λ xs ha.
    means_must P (all_suit g (wants_of f) xs) _ _ (λ hs. (eqb-true _ _ hn, ha, hs)))))
    (λ xs h. (f, hf, h.0, h.1, h.2, refl)))

pub index_means : (g : Scope) (x : r.Path) (IsRead : t.Expr → Type 0) (read : Found t.Expr) → Means IsRead read →
    Means (λ (i : t.Expr × Ty). (item_type g x.steps ≡ Some i.1) × IsRead i.0 × (is_index (t.ty_of i.0) ≡ true)) (index_by g x read)
index_means g x IsRead read reading =
    let P : t.Expr × Ty → Type 0 = λ i. (item_type g x.steps ≡ Some i.1) × IsRead i.0 × (is_index (t.ty_of i.0) ≡ true) in
    means_found P (item_type g x.steps) _ _ (λ ty ht.
    means_then IsRead P read _ reading (λ i hi.
    means_must P (is_index (t.ty_of i)) _ _ (λ hx. (ht, hi, hx))))

mutual
  unfolding IsTyped expr

  pub expr_means : (g : Scope) (w : Kind) (e : r.Expr) → Means (IsTyped g w e) (expr g w e)
  expr_means g w (r.number v true p) = means_must (IsTyped g w (r.number v true p)) (plain_fits k.Unsigned v) _ _ (λ h. (h, refl))
  expr_means g w (r.number v false p) = means_must (IsTyped g w (r.number v false p)) (plain_fits w v) _ _ (λ h. (h, refl))
  expr_means g w (r.truth b p) = refl
  expr_means g w (r.reads x) = means_found (IsTyped g w (r.reads x)) (value_type g x.steps) _ _ (λ ty h. (ty, h, refl))
  expr_means g w (r.calls x es) =
      let Q = IsTyped g w (r.calls x es) in
      means_then _ Q (called_by g x (count es) (λ ws. args g ws es)) _ (called_means g x (count es) (λ ws bs. AreTyped g ws es bs) (λ ws. args g ws es) (λ ws. args_mean g ws es)) (λ c hc.
      means_must Q (is_value g c.1) _ _ (λ hv. (c.0, c.1, hc, hv, refl)))
  expr_means g w (r.index x e) =
      let Q = IsTyped g w (r.index x e) in
      means_then _ Q (index_by g x (expr g k.Int e)) _ (index_means g x (IsTyped g k.Int e) (expr g k.Int e) (expr_means g k.Int e)) (λ i h. (i.0, i.1, h.0, h.1, h.2, refl))
  expr_means g w (r.instance c) = means_must (IsTyped g w (r.instance c)) (is_species g c.ty) _ _ (λ h. (h, refl))
  expr_means g w (r.group e p) = means_then _ (IsTyped g w (r.group e p)) (expr g w e) _ (expr_means g w e) (λ a h. (a, h, refl))
  expr_means g w (r.cast c e p) =
      let Q = IsTyped g w (r.cast c e p) in
      means_then _ Q (expr g k.Int e) _ (expr_means g k.Int e) (λ a ha.
      means_found Q (cast_type c.ty (t.ty_of a)) _ _ (λ ty h. (a, ty, ha, h, refl)))
  expr_means g w (r.prefix op e p) =
      let Q = IsTyped g w (r.prefix op e p) in
      means_then _ Q (expr g k.Int e) _ (expr_means g k.Int e) (λ a ha.
      means_found Q (prefix_type op (t.ty_of a)) _ _ (λ ty h. (a, ty, ha, h, refl)))
  expr_means g w (r.pair op x y p) =
      let Q = IsTyped g w (r.pair op x y p) in
      means_then _ Q (operands (plain x) (plain y) (λ v. expr g v x) (λ v. expr g v y)) _
      (operands_mean (plain x) (plain y) (λ v. expr g v x) (λ v. expr g v y) (expr_any g x)) (λ ab h.
      means_found Q (pair_type op (plain y) (t.ty_of ab.0) (t.ty_of ab.1)) _ _ (λ ty hr. (
        ab.0,
        ab.1,
        ty,
        means_at (IsTyped g (beside (plain y) (t.ty_of ab.1)) x) (expr g (beside (plain y) (t.ty_of ab.1)) x) ab.0 (expr_means g (beside (plain y) (t.ty_of ab.1)) x) h.0,
        means_at (IsTyped g (beside (plain x) (t.ty_of ab.0)) y) (expr g (beside (plain x) (t.ty_of ab.0)) y) ab.1 (expr_means g (beside (plain x) (t.ty_of ab.0)) y) h.1,
        hr,
        refl,
      )))
  expr_means g w (r.is e c p) =
      let Q = IsTyped g w (r.is e c p) in
      means_then _ Q (expr g k.Int e) _ (expr_means g k.Int e) (λ a ha.
      means_must Q (is_atom g (t.ty_of a)) _ _ (λ hs.
      means_must Q (is_species g c.ty) _ _ (λ hc. (a, ha, hs, hc, refl))))

  pub args_mean : (g : Scope) (ws : List Want) (es : r.Args) → Means (AreTyped g ws es) (args g ws es)
  args_mean g ws r.no_args = refl
  args_mean g [] (r.arg e es) = refl
  args_mean g (w ∷ ws) (r.arg e es) =
      let Q = AreTyped g (w ∷ ws) (r.arg e es) in
      means_then _ Q (expr g (taken_want w) e) _ (expr_means g (taken_want w) e) (λ a ha.
      means_then _ Q (args g ws es) _ (args_mean g ws es) (λ bs hb. (a, bs, ha, hb, refl)))
