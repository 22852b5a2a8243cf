-- The rule of operands, over that of expressions.
use Rattle.std.proofs.Common.{ℕ, ◌+◌, ◌<◌, ◌≡◌, List, [], ◌∷◌, length, None, Bool, true, false, not, ◌&&◌, refl, ap, sym, ◌∙◌, arith}
use Rattle.feast_base.specs.Places.{no_place}
use Rattle.feast_base.specs.declared.place.Place.{Place}
use Rattle.ulam_tree.specs.Raw.{Word, Expr, truth, instance, group, cast}
use Rattle.ulam_parse.specs.declared.symbol.Symbol.{Symbol}
use Rattle.ulam_parse.specs.declared.symbol.Symbol.TheVariants as s
use Rattle.ulam_parse.specs.declared.symbol.Opening.{Opening}
use Rattle.ulam_parse.specs.declared.symbol.Opening.TheVariants.{Parens, Counts, Nothing}
use Rattle.ulam_parse.specs.Tokens.{Text, Tok, tok}
use Rattle.ulam_parse.specs.Tables.{opening_of}
use Rattle.ulam_parse.specs.Grammar.{Span, ◌⟫◌, Takes, TakesWord, IsType, IsExpr}
use Rattle.ulam_parse.specs.Reading.{Reader, same, sees, sees_second, begins_cast, new_atom, in_parens}
use Rattle.ulam_parse.specs.Sentences.{is_end}
use Rattle.ulam_parse.proofs.Tells.{decide, same_is, first, sees_first, Tells, tells_as, tells_two}
use Rattle.ulam_parse.proofs.Rules.{Free, tells_if, Rule, Then, Map, Into, Back, token, then, map, some_word, none_some}
use Rattle.ulam_parse.proofs.TypeRules.{type_rule}
use Rattle.ulam_parse.proofs.Opened.{opened, no_cast, type_casts, cast_two}
use Rattle.ulam_parse.proofs.Operands.{Reach, ExprLaw, expr_part, paren_reach}

-- behind a bracket

abbrev pub IsInside : Place → Expr → Span
IsInside p (group e q) = λ us rest. (q ≡ p) × (IsExpr 1 e ⟫ Takes s.CloseParen) us rest
IsInside p (cast ty e q) = λ us rest. (q ≡ p) × (IsType ty ⟫ Takes s.CloseParen ⟫ IsExpr 12 e) us rest
IsInside p _ = λ us rest. ⊥

abbrev pub Casts : Place → Expr → Span
Casts p = Then IsType (λ ty. Then (TakesWord s.CloseParen) (λ a. Map (λ (e : Expr). cast ty e p) (IsExpr 12)))

abbrev pub Groups : Place → Expr → Span
Groups p = Then (IsExpr 1) (λ e. Map (λ (a : Word). group e p) (TakesWord s.CloseParen))

pub not_open : (us rest : List Tok) (w : Word) → TakesWord s.CloseParen w us rest → sees s.OpenParen us ≡ false
unfolding same
not_open us rest w h = ap (sees s.OpenParen) h

abbrev pub cast_part : (k : ℕ) (E : ℕ → Reader Expr) → ExprLaw k E → (p : Place) → Rule k Expr (Reach 12) Free
cast_part k E f p = then k (type_rule k) (λ ty. then k (token k s.CloseParen refl) (λ a. map k (λ e. cast ty e p) (expr_part k k 12 E f (omega arith) (omega arith)) (λ a end h. h) (λ a end h. tt)) (λ c b vs end h w. tt)) (λ c b vs end h w. not_open vs h.1 h.0 h.2)

abbrev pub group_part : (k : ℕ) (E : ℕ → Reader Expr) → ExprLaw k E → (p : Place) → Rule k Expr (Reach 12) Free
group_part k E f p = then k (expr_part k k 1 E f (omega arith) (omega arith)) (λ e. map k (λ a. group e p) (token k s.CloseParen refl) (λ a end h. tt) (λ a end h. tt)) (λ c b vs end h w. paren_reach vs end h.0 h.2)

casts_into : (p : Place) → Into (Casts p) (IsInside p)
casts_into p b vs end h = rw h.3.3.1 (refl, (h.1, h.2, (h.3.1, (h.3.0, h.3.2), h.3.3.2)))

groups_into : (p : Place) → Into (Groups p) (IsInside p)
groups_into p b vs end h = rw h.3.1 (refl, (h.1, h.2, (h.3.0, h.3.2)))

casts_back : (p : Place) → Back (λ vs. begins_cast vs ≡ true) (IsInside p) (Casts p) (Reach 12) (Reach 12)
casts_back p (group e q) vs end c h w = let x : true ≡ false = sym c ∙ no_cast 1 e vs h.1.0 h.1.1 in absurd cc
casts_back p (cast ty e q) vs end c h w = ((ty, h.1.0, h.1.1, (h.1.2.1.0, h.1.2.0, h.1.2.1.1, (e, ap (λ x. cast ty e x) h.0, h.1.2.2))), w)
casts_back p _ vs end c h w = absurd h

groups_back : (p : Place) → Back (λ vs. begins_cast vs ≡ false) (IsInside p) (Groups p) (Reach 12) (Reach 12)
groups_back p (group e q) vs end c h w = ((e, h.1.0, h.1.1, (h.1.2.0, ap (λ x. group e x) h.0, h.1.2.1)), w)
groups_back p (cast ty e q) vs end c h w = let x : true ≡ false = sym (type_casts ty vs h.1.0 h.1.2.0 h.1.1 h.1.2.1) ∙ c in absurd cc
groups_back p _ vs end c h w = absurd h

pub both : (a b : Bool) → (a && b) ≡ true → a ≡ true
both true b h = refl
both false b h = h

cast_sees : (us : List Tok) → begins_cast us ≡ true → sees s.TypeName us ≡ true
cast_sees us h = both (sees s.TypeName us) (not (sees_second s.Dot us)) h

no_cast_seen : (us : List Tok) → sees s.TypeName us ≡ false → begins_cast us ≡ false
no_cast_seen us h = rw h refl

pub empty_expr : (n : ℕ) (e : Expr) (us rest : List Tok) → first us ≡ None → IsExpr n e us rest → ⊥
empty_expr n e us rest f h = let x = opened n e us rest h in none_some us x.rest _ f x.is

groups_law : (k : ℕ) (E : ℕ → Reader Expr) (f : ExprLaw k E) (p : Place) (j : Symbol) (v : Text) (q : Place) (ts : List Tok) (b : Bool) → same j s.TypeName ≡ b → length (tok j v q ∷ ts) < k → begins_cast (tok j v q ∷ ts) ≡ false →
    Tells (IsInside p) (Reach 12) Free (tok j v q ∷ ts) ((group_part k E f p).read (tok j v q ∷ ts))
groups_law k E f p j v q ts true d l c = tells_two (Groups p) (IsInside p) (Reach 12) (Reach 12) Free (tok j v q) ts _ ((group_part k E f p).law (tok j v q ∷ ts) l)
    (λ a h. empty_expr 1 h.0 [] h.1 refl h.2)
    (λ g.
    let e = same_is j s.TypeName d in
    let w : Word = record { name = v; place = q } in
    g (tok j v q ∷ tok s.Dot [] no_place ∷ tok s.Instanceof [] no_place ∷ tok s.CloseParen [] no_place ∷ []) (group (instance w) p) [] refl
    (instance w, _, (_, ap (λ x. tok x v q ∷ tok s.Dot [] no_place ∷ tok s.Instanceof [] no_place ∷ tok s.CloseParen [] no_place ∷ []) e, (_, (some_word, refl), (some_word, refl))), (some_word, refl, refl)) (omega arith))
    (groups_into p) (λ b vs end e g h w. groups_back p b vs end (cast_two (tok j v q ∷ ts) vs g e ∙ c) h w)
groups_law k E f p j v q ts false d l c = tells_as (Groups p) (IsInside p) (Reach 12) (Reach 12) Free Free (tok j v q ∷ ts) _ ((group_part k E f p).law (tok j v q ∷ ts) l) (groups_into p)
    (λ b vs end e h w. groups_back p b vs end (no_cast_seen vs (sees_first s.TypeName vs (tok j v q ∷ ts) e ∙ d)) h w) (λ a rest g. g)

pub in_parens_law : (k : ℕ) (E : ℕ → Reader Expr) → ExprLaw k E → (p : Place) (us : List Tok) → length us < k → Tells (IsInside p) (Reach 12) Free us (in_parens E p us)
unfolding in_parens
in_parens_law k E f p [] l = tells_as (Groups p) (IsInside p) (Reach 12) (Reach 12) Free Free [] _ ((group_part k E f p).law [] l) (groups_into p)
    (λ b vs end e h w. groups_back p b vs end (no_cast_seen vs (sees_first s.TypeName vs [] e)) h w) (λ a rest g. g)
in_parens_law k E f p (tok j v q ∷ ts) l = tells_if (IsInside p) (Reach 12) Free (tok j v q ∷ ts) (begins_cast (tok j v q ∷ ts)) _ _
    (λ c. tells_two (Casts p) (IsInside p) (Reach 12) (Reach 12) Free (tok j v q) ts _ ((cast_part k E f p).law (tok j v q ∷ ts) l)
    (λ a h. none_some [] _ _ refl h.2.1)
    (λ g.
    let e = same_is j s.TypeName (cast_sees (tok j v q ∷ ts) c) in
    g (tok j v q ∷ tok s.CloseParen [] no_place ∷ tok s.True [] no_place ∷ []) (cast (record { word = record { name = v; place = q }; width = None }) (truth true no_place) p) [] refl
    (_, _, (_, ap (λ x. tok x v q ∷ tok s.CloseParen [] no_place ∷ tok s.True [] no_place ∷ []) e, refl), (some_word, _, refl, (truth true no_place, refl, (s.True, ([], refl), refl)))) (omega arith))
    (casts_into p) (λ b vs end e g h w. casts_back p b vs end (cast_two (tok j v q ∷ ts) vs g e ∙ c) h w))
    (λ c. groups_law k E f p j v q ts (same j s.TypeName) refl l c)

-- a new atom

abbrev pub New : Expr → Span
New = Then (TakesWord s.TypeName) (λ w. Then (TakesWord s.Dot) (λ a. Map (λ (b : Word). instance w) (TakesWord s.Instanceof)))

abbrev pub new_part : (k : ℕ) → Rule k Expr Free Free
new_part k = then k (token k s.TypeName refl) (λ w. then k (token k s.Dot refl) (λ a. map k (λ b. instance w) (token k s.Instanceof refl) (λ a end h. tt) (λ a end h. tt)) (λ c b vs end h w. tt)) (λ c b vs end h w. tt)

pub new_law : (us : List Tok) → Tells New Free Free us (new_atom us)
unfolding new_atom
new_law us = (new_part (length us + 1)).law us (omega arith)

-- operands by their first token

pub end_opens : (k : Symbol) → is_end k ≡ true → opening_of k ≡ Nothing
end_opens s.End e = refl
end_opens _ e = absurd cc

pub not_end : (k : Symbol) (o : Opening) → opening_of k ≡ o → (o ≡ Nothing → ⊥) → is_end k ≡ false
not_end k o e f = decide (is_end k) (λ t. f (sym e ∙ end_opens k t))

pub parens_only : (k : Symbol) → opening_of k ≡ Parens → k ≡ s.OpenParen
parens_only s.OpenParen e = refl
parens_only _ e = absurd cc

pub counts_only : (k : Symbol) → opening_of k ≡ Counts → k ≡ s.Number
counts_only s.Number e = refl
counts_only _ e = absurd cc
