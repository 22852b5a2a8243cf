-- The rules of arguments and operands, over that of expressions.
use Rattle.std.proofs.Common.{ℕ, zero, suc, ◌+◌, ◌≤◌, ◌<◌, ◌≡◌, List, [], ◌∷◌, length, true, false, refl, ap, sym, ◌∙◌, arith}
use Rattle.feast_base.specs.Places.{no_place}
use Rattle.feast_base.specs.declared.place.Place.{Place}
use Rattle.ulam_tree.specs.Raw.{Word, Path, Expr, truth, reads, calls, index, Args, no_args, arg}
use Rattle.ulam_parse.specs.declared.symbol.Symbol.{Symbol}
use Rattle.ulam_parse.specs.declared.symbol.Symbol.TheVariants as s
use Rattle.ulam_parse.specs.declared.symbol.Infix.TheVariants as i
use Rattle.ulam_parse.specs.Tokens.{Text, Tok, tok}
use Rattle.ulam_parse.specs.Tables.{infix_of}
use Rattle.ulam_parse.specs.Grammar.{Span, ◌⟫◌, Takes, TakesWord, IsExpr, AreArgs, AreMoreArgs}
use Rattle.ulam_parse.specs.Reading.{Reader, same, sees, more_args, args, after_path}
use Rattle.ulam_parse.proofs.Tells.{is_seen, unseen, Tells}
use Rattle.ulam_parse.proofs.Rules.{Free, Rule, Filled, Then, Map, Into, Back, Seen, Unseen, token, then, after, map, here, choice, some_word}
use Rattle.ulam_parse.proofs.Opened.{reach_by, reach, reach_at, no_opens, unopened}

-- no operator of this level or a tighter one follows
abbrev pub Reach : ℕ → Expr → List Tok → Type 0
Reach n e us = reach us < n

-- expressions are read right on lists of fewer than k tokens
abbrev pub ExprLaw : ℕ → (ℕ → Reader Expr) → Type 0
ExprLaw k E = (n : ℕ) → n ≤ 12 → (us : List Tok) → length us < k → Tells (IsExpr n) (Reach n) Free us (E n us)

abbrev pub expr_filled : (n : ℕ) → Filled (IsExpr n)
expr_filled n = record { tree = truth true no_place; fill = λ other. tok s.True [] no_place ∷ other; fits = λ other. (s.True, ([], refl), refl) }

abbrev pub expr_part : (k m n : ℕ) (E : ℕ → Reader Expr) → ExprLaw k E → m ≤ k → n ≤ 12 → Rule m Expr (Reach n) Free
expr_part k m n E f l b = record { rel = IsExpr n; filled = expr_filled n; read = E n; law = λ us h. f n b us (omega (arith, h, l)) }

-- a token that is no operator
pub reach_none : (k : Symbol) (w : Text) (p : Place) (us rest : List Tok) → us ≡ tok k w p ∷ rest → infix_of k ≡ i.Ends → reach us < 1
reach_none k w p us rest e o = let q : reach us ≡ 0 = reach_at k w p us rest e ∙ ap reach_by o in omega (arith, q)

-- arguments

pub more_args_from : Back (Seen s.Comma) AreMoreArgs (Then (TakesWord s.Comma) (λ a. Then (IsExpr 1) (λ e. Map (arg e) AreMoreArgs))) Free Free
more_args_from no_args vs end c h w = let e = is_seen s.Comma s.CloseParen _ _ vs end h.1 c in absurd cc
more_args_from (arg e es) vs end c h w = ((h.1.0, h.0, h.1.1, (e, h.2.0, h.2.1, (es, refl, h.2.2))), tt)

pub more_args_other : Back (Unseen s.Comma) AreMoreArgs (Map (λ (a : Word). no_args) (TakesWord s.CloseParen)) Free Free
more_args_other no_args vs end c h w = ((h.0, refl, h.1), tt)
more_args_other (arg e es) vs end c h w = absurd (unseen s.Comma _ _ vs h.0 h.1.1 c)

pub more_args_reach : (es : Args) (us rest : List Tok) → AreMoreArgs es us rest → reach us < 1
more_args_reach no_args us rest h = reach_none s.CloseParen _ _ us rest h.1 refl
more_args_reach (arg e es) us rest h = reach_none s.Comma _ _ us h.0 h.1.1 refl

abbrev pub more_args_filled : Filled AreMoreArgs
more_args_filled = record { tree = no_args; fill = λ other. tok s.CloseParen [] no_place ∷ other; fits = λ other. (some_word, refl) }

pub more_args_turns : (k : ℕ) (E : ℕ → Reader Expr) → ExprLaw k E → (t : ℕ) → t ≤ k → (us : List Tok) → length us < t → Tells AreMoreArgs Free Free us (more_args E t us)
unfolding more_args
more_args_turns k E f zero l us h = absurd (omega (arith, h))
more_args_turns k E f (suc t) l us h =
    let rest : Rule t Args Free Free = record { rel = AreMoreArgs; filled = more_args_filled; read = more_args E t; law = more_args_turns k E f t (omega (arith, l)) } in
    (choice (suc t) s.Comma
    (after t s.Comma refl (λ a. then t (expr_part k t 1 E f (omega (arith, l)) (omega arith)) (λ e. map t (arg e) rest (λ a end h. tt) (λ a end h. tt)) (λ c b vs end h w. more_args_reach h.0 vs end h.2)))
    (map (suc t) (λ a. no_args) (token (suc t) s.CloseParen refl) (λ a end h. tt) (λ a end h. tt)) AreMoreArgs
    (λ b vs end h. rw h.3.3.1 (h.1, (h.0, h.2), (h.3.1, h.3.2, h.3.3.2))) more_args_from (λ b vs end h. rw h.1 (h.0, h.2)) more_args_other).law us h

abbrev pub more_args_part : (k m : ℕ) (E : ℕ → Reader Expr) → ExprLaw k E → m ≤ k → Rule m Args Free Free
more_args_part k m E f l = record { rel = AreMoreArgs; filled = more_args_filled; read = λ us. more_args E (length us + 1) us; law = λ us h. more_args_turns k E f (length us + 1) (omega (arith, h, l)) us (omega arith) }

pub args_from : Back (Seen s.CloseParen) AreArgs (Map (λ (a : Word). no_args) (TakesWord s.CloseParen)) Free Free
args_from no_args vs end c h w = ((h.0, refl, h.1), tt)
args_from (arg e es) vs end c h w = let q : true ≡ false = sym c ∙ unopened s.CloseParen refl 1 e vs h.0 h.1 in absurd cc

pub args_other : Back (Unseen s.CloseParen) AreArgs (Then (IsExpr 1) (λ e. Map (arg e) AreMoreArgs)) Free Free
args_other no_args vs end c h w = absurd (unseen s.CloseParen _ _ vs end h.1 c)
args_other (arg e es) vs end c h w = ((e, h.0, h.1, (es, refl, h.2)), tt)

abbrev pub args_filled : Filled AreArgs
args_filled = record { tree = no_args; fill = λ other. tok s.CloseParen [] no_place ∷ other; fits = λ other. (some_word, refl) }

pub args_law : (k : ℕ) (E : ℕ → Reader Expr) → ExprLaw k E → (us : List Tok) → length us < k → Tells AreArgs Free Free us (args E us)
unfolding args
args_law k E f us h =
    (choice k s.CloseParen
    (map k (λ a. no_args) (token k s.CloseParen refl) (λ a end h. tt) (λ a end h. tt))
    (then k (expr_part k k 1 E f (omega arith) (omega arith)) (λ e. map k (arg e) (more_args_part k k E f (omega arith)) (λ a end h. tt) (λ a end h. tt)) (λ c b vs end h w. more_args_reach h.0 vs end h.2)) AreArgs
    (λ b vs end h. rw h.1 (h.0, h.2)) args_from (λ b vs end h. rw h.3.1 (h.1, h.2, h.3.2)) args_other).law us h

abbrev pub args_part : (k m : ℕ) (E : ℕ → Reader Expr) → ExprLaw k E → m ≤ k → Rule m Args Free Free
args_part k m E f l = record { rel = AreArgs; filled = args_filled; read = args E; law = λ us h. args_law k E f us (omega (arith, h, l)) }

-- what comes after a path

abbrev pub IsAfter : Path → Expr → Span
IsAfter x (reads y) = λ us rest. (y ≡ x) × (us ≡ rest)
IsAfter x (calls y es) = λ us rest. (y ≡ x) × (Takes s.OpenParen ⟫ AreArgs es) us rest
IsAfter x (index y e) = λ us rest. (y ≡ x) × (Takes s.OpenBracket ⟫ IsExpr 1 e ⟫ Takes s.CloseBracket) us rest
IsAfter x _ = λ us rest. ⊥

abbrev pub Call : Path → Expr → Span
Call x = Then (TakesWord s.OpenParen) (λ a. Map (calls x) AreArgs)

abbrev pub At : Path → Expr → Span
At x = Then (TakesWord s.OpenBracket) (λ a. Then (IsExpr 1) (λ e. Map (λ (b : Word). index x e) (TakesWord s.CloseBracket)))

-- all but a call
abbrev pub IsPlain : Path → Expr → Span
IsPlain x (reads y) = λ us rest. (y ≡ x) × (us ≡ rest)
IsPlain x (index y e) = λ us rest. (y ≡ x) × (Takes s.OpenBracket ⟫ IsExpr 1 e ⟫ Takes s.CloseBracket) us rest
IsPlain x _ = λ us rest. ⊥

pub plain_from : (x : Path) → Back (Seen s.OpenBracket) (IsPlain x) (At x) (Reach 12) Free
plain_from x (reads y) vs end c h w = let q : true ≡ false = sym c ∙ ap (sees s.OpenBracket) h.1 ∙ no_opens s.OpenBracket refl end (omega (arith, w)) in absurd cc
plain_from x (index y e) vs end c h w = ((h.1.1.0, h.1.0, h.1.1.1, (e, h.1.2.0, h.1.2.1, (h.1.2.2.0, ap (λ z. index z e) h.0, h.1.2.2.1))), tt)
plain_from x _ vs end c h w = absurd h

pub plain_other : (x : Path) → Back (Unseen s.OpenBracket) (IsPlain x) (λ b us rest. (b ≡ reads x) × (us ≡ rest)) (Reach 12) Free
plain_other x (reads y) vs end c h w = ((ap reads h.0, h.1), tt)
plain_other x (index y e) vs end c h w = absurd (unseen s.OpenBracket _ _ vs h.1.0 h.1.1.1 c)
plain_other x _ vs end c h w = absurd h

pub after_from : (x : Path) → Back (Seen s.OpenParen) (IsAfter x) (Call x) (Reach 12) Free
after_from x (reads y) vs end c h w = let q : true ≡ false = sym c ∙ ap (sees s.OpenParen) h.1 ∙ no_opens s.OpenParen refl end (omega (arith, w)) in absurd cc
after_from x (calls y es) vs end c h w = ((h.1.1.0, h.1.0, h.1.1.1, (es, ap (λ z. calls z es) h.0, h.1.2)), tt)
after_from x (index y e) vs end c h w = let q = is_seen s.OpenParen s.OpenBracket _ _ vs h.1.0 h.1.1.1 c in absurd cc
after_from x _ vs end c h w = absurd h

pub after_other : (x : Path) → Back (Unseen s.OpenParen) (IsAfter x) (IsPlain x) (Reach 12) (Reach 12)
after_other x (reads y) vs end c h w = (h, w)
after_other x (calls y es) vs end c h w = absurd (unseen s.OpenParen _ _ vs h.1.0 h.1.1.1 c)
after_other x (index y e) vs end c h w = (h, w)
after_other x _ vs end c h w = absurd h

pub plain_into : (x : Path) → Into (IsPlain x) (IsAfter x)
plain_into x (reads y) vs end h = h
plain_into x (index y e) vs end h = h
plain_into x _ vs end h = absurd h

pub bracket_reach : (us rest : List Tok) (w : Word) → TakesWord s.CloseBracket w us rest → reach us < 1
bracket_reach us rest w h = reach_none s.CloseBracket _ _ us rest h refl

pub paren_reach : (us rest : List Tok) (w : Word) → TakesWord s.CloseParen w us rest → reach us < 1
paren_reach us rest w h = reach_none s.CloseParen _ _ us rest h refl

abbrev pub after_filled : (x : Path) → Filled (IsAfter x)
after_filled x = record { tree = reads x; fill = λ other. other; fits = λ other. (refl, refl) }

pub after_path_law : (k : ℕ) (E : ℕ → Reader Expr) → ExprLaw k E → (x : Path) (us : List Tok) → length us < k → Tells (IsAfter x) (Reach 12) Free us (after_path E x us)
unfolding after_path
after_path_law k E f x us h =
    (choice k s.OpenParen
    (then k (token k s.OpenParen refl) (λ a. map k (calls x) (args_part k k E f (omega arith)) (λ a end h. tt) (λ a end h. tt)) (λ c b vs end h w. tt))
    (choice k s.OpenBracket
    (then k (token k s.OpenBracket refl) (λ a. then k (expr_part k k 1 E f (omega arith) (omega arith)) (λ e. map k (λ b. index x e) (token k s.CloseBracket refl) (λ a end h. tt) (λ a end h. tt)) (λ c b vs end h w. bracket_reach vs end h.0 h.2)) (λ c b vs end h w. tt))
    (here k (reads x)) (IsPlain x)
    (λ b vs end h. rw h.3.3.1 (refl, (h.1, (h.0, h.2), (h.3.1, h.3.2, (h.3.3.0, h.3.3.2))))) (plain_from x) (λ b vs end h. rw h.0 (refl, h.1)) (plain_other x))
    (IsAfter x)
    (λ b vs end h. rw h.3.1 (refl, (h.1, (h.0, h.2), h.3.2))) (after_from x) (plain_into x) (after_other x)).law us h

abbrev pub after_path_part : (k : ℕ) (E : ℕ → Reader Expr) → ExprLaw k E → (x : Path) → Rule k Expr (Reach 12) Free
after_path_part k E f x = record { rel = IsAfter x; filled = after_filled x; read = after_path E x; law = after_path_law k E f x }

pub after_dot : (x : Path) (e : Expr) (us rest : List Tok) → IsAfter x e us rest → reach rest < 12 → sees s.Dot us ≡ false
unfolding same
after_dot x (reads y) us rest h w = ap (sees s.Dot) h.1 ∙ no_opens s.Dot refl rest (omega (arith, w))
after_dot x (calls y es) us rest h w = ap (sees s.Dot) h.1.1.1
after_dot x (index y e) us rest h w = ap (sees s.Dot) h.1.1.1
after_dot x _ us rest h w = absurd h
