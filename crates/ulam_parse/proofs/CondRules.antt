-- The rule of conditions.
use Rattle.std.proofs.Common.{ℕ, ◌+◌, ◌≤◌, ◌<◌, ◌≡◌, ◌⊎◌, inl, inr, List, [], ◌∷◌, length, Option, Some, None, Bool, true, false, ◌&&◌, ◌||◌, refl, ap, sym, ◌∙◌, arith}
use Rattle.std.proofs.lemmas.Bool.{or_cases}
use Rattle.feast_base.specs.Places.{no_place}
use Rattle.feast_base.specs.declared.place.Place.{Place}
use Rattle.ulam_tree.specs.Raw.{Word, Path, Expr, number, truth, reads, calls, index, instance, group, cast, prefix, pair, is, Args, Cond, seen, test}
use Rattle.ulam_parse.specs.declared.symbol.Symbol.{Symbol}
use Rattle.ulam_parse.specs.declared.symbol.Symbol.TheVariants as s
use Rattle.ulam_parse.specs.declared.symbol.Infix.TheVariants as i
use Rattle.ulam_parse.specs.declared.symbol.Opening.{Opening}
use Rattle.ulam_parse.specs.declared.symbol.Opening.TheVariants as o
use Rattle.ulam_parse.specs.Tokens.{Text, Tok, tok}
use Rattle.ulam_parse.specs.Tables.{infix_of, opening_of}
use Rattle.ulam_parse.specs.Grammar.{Span, TakesWord, AreDotted, IsPathOf, IsExpr, AreArgs, IsCond}
use Rattle.ulam_parse.specs.Reading.{same, sees, sees_second, expr, all_args, expr_in}
use Rattle.ulam_parse.specs.Statements as r
use Rattle.ulam_parse.proofs.Tells.{decide, same_self, same_is, first, tail, sees_first, Tells, tells_as, tells_two}
use Rattle.ulam_parse.proofs.Rules.{Free, tells_if, Rule, Then, Map, Into, Back, token, then, map, some_word, none_some}
use Rattle.ulam_parse.proofs.Opened.{reach}
use Rattle.ulam_parse.proofs.Operands.{expr_filled, args_filled, args_law, reach_none}
use Rattle.ulam_parse.proofs.Primaries.{both, empty_expr}
use Rattle.ulam_parse.proofs.Chains.{Link, joined, tested, IsChain, chained, level_most}
use Rattle.ulam_parse.proofs.ExprRule.{expr_in_law, expr_law}

-- no operator of this level or a tighter one follows
abbrev pub Under : {A : Type 0} → ℕ → A → List Tok → Type 0
Under n a us = reach us < n

-- `;` or `)` follows
abbrev pub closes : List Tok → Bool
closes us = sees s.Semi us || sees s.CloseParen us

abbrev pub Closed : {A : Type 0} → A → List Tok → Type 0
Closed a us = closes us ≡ true

closing : (us : List Tok) → closes us ≡ true → (sees s.Semi us ≡ true) ⊎ (sees s.CloseParen us ≡ true)
closing us h = or_cases (sees s.Semi us) (sees s.CloseParen us) h

-- whether a name and `as` come first, by the tokens
pub seen_at : (k : Symbol) (us : List Tok) → sees k us ≡ true → (w : Text) × (p : Place) × (rest : List Tok) × (us ≡ tok k w p ∷ rest)
seen_at k [] h = absurd cc
seen_at k (tok j w p ∷ ts) h = (w, p, ts, ap (λ x. tok x w p ∷ ts) (same_is j k h))

pub semi_closes : (us rest : List Tok) (w : Word) → TakesWord s.Semi w us rest → closes us ≡ true
unfolding same
semi_closes us rest w h = ap closes h

pub paren_closes : (us rest : List Tok) (w : Word) → TakesWord s.CloseParen w us rest → closes us ≡ true
unfolding same
paren_closes us rest w h = ap closes h

pub closed_reach : (us : List Tok) → closes us ≡ true → reach us < 1
closed_reach us h = elim (closing us h) as (λ x. reach us < 1) [
  | inl e ↦ let x = seen_at s.Semi us e in reach_none s.Semi x.0 x.1 us x.2 x.3 refl
  | inr e ↦ let x = seen_at s.CloseParen us e in reach_none s.CloseParen x.0 x.1 us x.2 x.3 refl
]

pub closed_not : (k : Symbol) → same s.Semi k ≡ false → same s.CloseParen k ≡ false → (us : List Tok) → closes us ≡ true → sees k us ≡ false
closed_not k f g us h = elim (closing us h) as (λ x. sees k us ≡ false) [
  | inl e ↦ let x = seen_at s.Semi us e in ap (sees k) x.3 ∙ f
  | inr e ↦ let x = seen_at s.CloseParen us e in ap (sees k) x.3 ∙ g
]

abbrev pub expr_rule : (n l : ℕ) → l ≤ 12 → Rule n Expr (Under l) Free
expr_rule n l b = record { rel = IsExpr l; filled = expr_filled l; read = expr l; law = λ us h. expr_law l b us }

pub all_args_law : (n : ℕ) (us : List Tok) → length us < n → Tells AreArgs Free Free us (all_args us)
all_args_law n us h = args_law (length us + 1) (expr_in (length us + 1)) (expr_in_law (length us + 1)) us (omega arith)

abbrev pub args_rule : (n : ℕ) → Rule n Args Free Free
args_rule n = record { rel = AreArgs; filled = args_filled; read = all_args; law = all_args_law n }

-- conditions

abbrev Sights : Cond → Span
Sights = Then (TakesWord s.Name) (λ w. Then (TakesWord s.As) (λ a. Map (seen w) (TakesWord s.TypeName)))

abbrev Tests : Cond → Span
Tests = Map test (IsExpr 1)

abbrev sight_part : (n : ℕ) → Rule n Cond (Under 1) Free
sight_part n = then n (token n s.Name refl) (λ w. then n (token n s.As refl) (λ a. map n (seen w) (token n s.TypeName refl) (λ a end h. tt) (λ a end h. tt)) (λ c b vs end h w. tt)) (λ c b vs end h w. tt)

abbrev test_part : (n : ℕ) → Rule n Cond (Under 1) Free
test_part n = map n test (expr_rule n 1 (omega arith)) (λ a end h. h) (λ a end h. tt)

sights_into : Into Sights IsCond
sights_into b vs end h = rw h.3.3.1 (h.1, h.2, (h.3.1, (h.3.0, h.3.2), h.3.3.2))

tests_into : Into Tests IsCond
tests_into b vs end h = rw h.1 h.2

-- a name and `as` come first
abbrev sees_as : List Tok → Bool
sees_as us = sees s.Name us && sees_second s.As us

second_as : (us : List Tok) → sees_second s.As us ≡ sees s.As (tail us)
second_as [] = refl
second_as (t ∷ ts) = refl

as_two : (us vs : List Tok) → first vs ≡ first us → first (tail vs) ≡ first (tail us) → sees_as vs ≡ sees_as us
as_two us vs e f = let a = sees_first s.Name vs us e in let b = second_as vs ∙ sees_first s.As (tail vs) (tail us) f ∙ sym (second_as us) in rw (a, b) refl

-- an expression does not begin with a name and `as`, unless `as` follows the whole of it

unnamed : (k : Symbol) (w : Text) (p : Place) (us ts : List Tok) → us ≡ tok k w p ∷ ts → (k ≡ s.Name → ⊥) → sees_as us ≡ false
unnamed k w p us ts e f = let q : same k s.Name ≡ false = decide (same k s.Name) (λ t. f (same_is k s.Name t)) in rw (e, q) refl

chain_as : (least top : ℕ) (ls : List Link) (us rest : List Tok) → IsChain least top ls us rest → sees s.As rest ≡ false → sees s.As us ≡ false
unfolding same
chain_as least top [] us rest h w = ap (sees s.As) h ∙ w
chain_as least top (joined op r p ∷ ls) us rest h w =
    ap (sees s.As) h.2.1.1.1 ∙ decide (same h.2.1.0 s.As) (λ t. let q : i.Ends ≡ i.Joins op = sym (ap infix_of (same_is h.2.1.0 s.As t)) ∙ h.2.1.2 in cc)
chain_as least top (tested c p ∷ ls) us rest h w = ap (sees s.As) h.2.1.1

dotted_as : (ws : List Word) (us rest : List Tok) → AreDotted ws us rest → sees s.As rest ≡ false → sees s.As us ≡ false
unfolding same
dotted_as [] us rest h w = ap (sees s.As) h ∙ w
dotted_as (x ∷ ws) us rest h w = ap (sees s.As) h.1.1

path_as : (own : Option Place) (ws : List Word) (us rest : List Tok) → IsPathOf own ws us rest → sees s.As rest ≡ false → sees_as us ≡ false
path_as (Some p) ws us rest h w = unnamed s.Own _ _ us h.0 h.1.1 (λ e. cc)
path_as None [] us rest h w = absurd h
path_as None (x ∷ ws) us rest h w = let d = dotted_as ws h.0 rest h.2 w in rw (h.1, d, same_self s.Name) refl

opens_other : (k : Symbol) (v : Opening) → opening_of k ≡ v → (v ≡ o.Names → ⊥) → k ≡ s.Name → ⊥
opens_other k v e f q = f (sym e ∙ ap opening_of q)

operand_as : (e : Expr) (us rest : List Tok) → IsExpr 12 e us rest → sees s.As rest ≡ false → sees_as us ≡ false
unfolding same
operand_as (pair op l r p) us rest h w = absurd (omega (arith, h.0, level_most op))
operand_as (is e c p) us rest h w = absurd (omega (arith, h.0))
operand_as (number v u p) us rest h w = unnamed s.Number _ _ us rest h.1 (λ e. cc)
operand_as (truth v p) us rest h w = unnamed h.0 _ _ us rest h.1.1 (opens_other h.0 _ h.2 (λ e. cc))
operand_as (reads x) us rest h w = path_as x.own x.words us rest h w
operand_as (calls x es) us rest h w = path_as x.own x.words us h.0 h.1 (ap (sees s.As) h.2.1.1)
operand_as (index x e) us rest h w = path_as x.own x.words us h.0 h.1 (ap (sees s.As) h.2.1.1)
operand_as (instance c) us rest h w = unnamed s.TypeName _ _ us h.0 h.1 (λ e. cc)
operand_as (group e p) us rest h w = unnamed s.OpenParen _ _ us h.0 h.1.1 (λ e. cc)
operand_as (cast ty e p) us rest h w = unnamed s.OpenParen _ _ us h.0 h.1.1 (λ e. cc)
operand_as (prefix op e p) us rest h w = unnamed h.1.0 _ _ us h.0 h.1.1.1 (opens_other h.1.0 _ h.1.2 (λ e. cc))

not_as : (e : Expr) (us rest : List Tok) → IsExpr 1 e us rest → sees s.As rest ≡ false → sees_as us ≡ false
not_as e us rest h w = let c = chained 1 e us rest h in operand_as c.operand us c.mid c.is_operand (chain_as 1 12 c.links c.mid rest c.is_chain w)

-- a condition that begins with a name and `as` asks for a class, and any other is a test
sights_back : Back (λ vs. sees_as vs ≡ true) IsCond Sights Closed (Under 1)
unfolding same
sights_back (seen w d) vs end c h u = ((w, h.0, h.1, (h.2.1.0, h.2.0, h.2.1.1, (d, refl, h.2.2))), closed_reach end u)
sights_back (test e) vs end c h u = let q : true ≡ false = sym c ∙ not_as e vs end h (closed_not s.As refl refl end u) in absurd cc

tests_back : Back (λ vs. sees_as vs ≡ false) IsCond Tests Closed (Under 1)
tests_back (seen w d) vs end c h u =
    let q : sees s.As h.0 ≡ true = ap (sees s.As) h.2.1.1 ∙ same_self s.As in
    let a : sees_as vs ≡ true = rw (h.1, q, same_self s.Name) refl in
    let f : true ≡ false = sym a ∙ c in absurd cc
tests_back (test e) vs end c h u = ((e, refl, h), closed_reach end u)

name_seen : (us : List Tok) → sees_as us ≡ true → sees s.Name us ≡ true
name_seen us h = both (sees s.Name us) (sees_second s.As us) h

as_unseen : (us : List Tok) → sees s.Name us ≡ false → sees_as us ≡ false
as_unseen us h = rw h refl

tests_law : (n : ℕ) (j : Symbol) (v : Text) (q : Place) (ts : List Tok) (b : Bool) → same j s.Name ≡ b → length (tok j v q ∷ ts) < n → sees_as (tok j v q ∷ ts) ≡ false →
    Tells IsCond Closed Free (tok j v q ∷ ts) ((test_part n).read (tok j v q ∷ ts))
tests_law n j v q ts true d l c = tells_two Tests IsCond (Under 1) Closed Free (tok j v q) ts _ ((test_part n).law (tok j v q ∷ ts) l)
    (λ a h. empty_expr 1 h.0 [] [] refl h.2)
    (λ g.
    let e = same_is j s.Name d in
    let w : Word = record { name = v; place = q } in
    let x : Path = record { own = None; words = w ∷ [] } in
    g (tok j v q ∷ []) (test (reads x)) [] refl (reads x, refl, ([], ap (λ y. tok y v q ∷ []) e, refl)) (omega arith))
    tests_into (λ b vs end e g h w. tests_back b vs end (as_two (tok j v q ∷ ts) vs g e ∙ c) h w)
tests_law n j v q ts false d l c = tells_as Tests IsCond (Under 1) Closed Free Free (tok j v q ∷ ts) _ ((test_part n).law (tok j v q ∷ ts) l) tests_into
    (λ b vs end e h w. tests_back b vs end (as_unseen vs (sees_first s.Name vs (tok j v q ∷ ts) e ∙ d)) h w) (λ a rest g. g)

pub cond_law : (n : ℕ) (us : List Tok) → length us < n → Tells IsCond Closed Free us (r.cond us)
unfolding r.cond
cond_law n [] l = tells_as Tests IsCond (Under 1) Closed Free Free [] _ ((test_part n).law [] l) tests_into (λ b vs end e h w. tests_back b vs end (as_unseen vs (sees_first s.Name vs [] e)) h w) (λ a rest g. g)
cond_law n (tok j v q ∷ ts) l = tells_if IsCond Closed Free (tok j v q ∷ ts) (sees_as (tok j v q ∷ ts)) _ _
    (λ c. tells_two Sights IsCond (Under 1) Closed Free (tok j v q) ts _ ((sight_part n).law (tok j v q ∷ ts) l)
    (λ a h. none_some [] _ _ refl h.2)
    (λ g.
    let e = same_is j s.Name (name_seen (tok j v q ∷ ts) c) in
    let w : Word = record { name = v; place = q } in
    g (tok j v q ∷ tok s.As [] no_place ∷ tok s.TypeName [] no_place ∷ []) (seen w some_word) [] refl
    (w, _, ap (λ y. tok y v q ∷ tok s.As [] no_place ∷ tok s.TypeName [] no_place ∷ []) e, (some_word, _, refl, (some_word, refl, refl))) (omega arith))
    sights_into (λ b vs end e g h w. sights_back b vs end (as_two (tok j v q ∷ ts) vs g e ∙ c) h w))
    (λ c. tests_law n j v q ts (same j s.Name) refl l c)

abbrev pub cond_rule : (n : ℕ) → Rule n Cond Closed Free
cond_rule n = record { rel = IsCond; filled = record { tree = test (expr_filled 1).tree; fill = (expr_filled 1).fill; fits = (expr_filled 1).fits }; read = r.cond; law = cond_law n }
