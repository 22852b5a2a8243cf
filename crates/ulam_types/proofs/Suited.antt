-- Arguments that suit what is wanted, one after the other.
use Rattle.std.proofs.Common.{◌≡◌, ℕ, ◌+◌, ◌≤◌, ◌<◌, true, false, ◌&&◌, length, List, [], ◌∷◌, drop, get_or, refl, ◌∙◌}
use Rattle.std.proofs.lemmas.List.{drop_more, drop_all}
use Rattle.ulam_tree.specs.declared.typed.Expr.{Expr}
use Rattle.ulam_tree.specs.Typed as t
use Rattle.ulam_tree.specs.TypedViews.{typed_expr, typed_args}
use Rattle.type_rules.specs.declared.scope.Want.{Want}
use Rattle.type_rules.specs.Scopes.{Scope}
use Rattle.type_rules.specs.Rows.{suits, all_suit}

suit_next : (g : Scope) (ws : List Want) (es : List Expr) (i : ℕ) (w : Want) (e : Expr) → i < length ws → i < length es →
    all_suit g (drop i ws) (typed_args (drop i es)) ≡ (suits g (get_or ws i w) (typed_expr (get_or es i e)) && all_suit g (drop (i + 1) ws) (typed_args (drop (i + 1) es)))
suit_next g ws es i w e h j = rw (drop_more ws i w h, drop_more es i e j) refl

-- one more argument suits
pub suit_on : (g : Scope) (ws : List Want) (es : List Expr) (i : ℕ) (w : Want) (e : Expr) → i < length ws → i < length es → e ≡ get_or es i e → suits g (get_or ws i w) (typed_expr e) ≡ true →
    all_suit g (drop i ws) (typed_args (drop i es)) ≡ all_suit g (drop (i + 1) ws) (typed_args (drop (i + 1) es))
suit_on g ws es i w e h j b fits =
    let this : suits g (get_or ws i w) (typed_expr (get_or es i e)) ≡ true = rw (← b) fits in
    suit_next g ws es i w e h j ∙ rw this refl

-- an argument that does not suit
pub suit_stop : (g : Scope) (ws : List Want) (es : List Expr) (i : ℕ) (w : Want) (e : Expr) → i < length ws → i < length es → e ≡ get_or es i e → suits g (get_or ws i w) (typed_expr e) ≡ false →
    all_suit g (drop i ws) (typed_args (drop i es)) ≡ false
suit_stop g ws es i w e h j b fits =
    let this : suits g (get_or ws i w) (typed_expr (get_or es i e)) ≡ false = rw (← b) fits in
    suit_next g ws es i w e h j ∙ rw this refl

suit_none : (g : Scope) (ws : List Want) → all_suit g ws t.no_args ≡ true
suit_none g [] = refl
suit_none g (w ∷ ws) = refl

-- all arguments suit
pub suit_done : (g : Scope) (ws : List Want) (es : List Expr) (i : ℕ) → length es ≤ i → all_suit g (drop i ws) (typed_args (drop i es)) ≡ true
suit_done g ws es i h = rw (drop_all i es h) (suit_none g (drop i ws))
