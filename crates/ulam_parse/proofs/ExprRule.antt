-- The rule of expressions.
use Rattle.std.proofs.Common.{ℕ, zero, suc, ◌+◌, ◌≤◌, ◌<◌, ◌≡◌, List, [], ◌∷◌, length, Option, Some, None, Bool, true, false, ◌&&◌, Ok, refl, ap, sym, ◌∙◌, subst, arith}
use Rattle.std.specs.Prelude.{nat_le}
use Rattle.std.proofs.lemmas.Bool.{le-leb, leb-true}
use Rattle.list_laws.proofs.Tests.{both}
use Rattle.feast_base.specs.declared.place.Place.{Place}
use Rattle.ulam_tree.specs.declared.op.PairOp.{PairOp}
use Rattle.ulam_tree.specs.Raw.{Word, Expr, pair, is}
use Rattle.ulam_parse.specs.declared.symbol.Symbol.{Symbol}
use Rattle.ulam_parse.specs.declared.symbol.Symbol.TheVariants as s
use Rattle.ulam_parse.specs.declared.symbol.Infix.{Infix}
use Rattle.ulam_parse.specs.declared.symbol.Infix.TheVariants.{Joins, Tests, Opens, Ends}
use Rattle.ulam_parse.specs.Tokens.{Text, Tok, tok}
use Rattle.ulam_parse.specs.Tables.{infix_of, level}
use Rattle.ulam_parse.specs.Grammar.{Span, TakesWord, IsExpr}
use Rattle.ulam_parse.specs.Reading.{Reader, Front, operand, more_by, more, climb, expr_in, expr}
use Rattle.ulam_parse.specs.Sentences.{is_end}
use Rattle.ulam_parse.proofs.Tells.{decide, first, tail, one_first, Found, Tells, tells_as, tells_behind, Behind}
use Rattle.ulam_parse.proofs.Rules.{Free, tells_if, Rule, Filled, Then, Into, token, then, then_law}
use Rattle.ulam_parse.proofs.Chains.{Link, joined, tested, build, IsChain, build_is, chained, level_most}
use Rattle.ulam_parse.proofs.Opened.{reach_by, reach, reach_at}
use Rattle.ulam_parse.proofs.Operands.{Reach, ExprLaw, expr_part}
use Rattle.ulam_parse.proofs.OperandRule.{same_first, behind_first, place_in, operand_law}

-- the rest of an expression
abbrev pub More : ℕ → ℕ → Expr → Expr → Span
More least top e b us rest = (ls : List Link) × (b ≡ build e ls) × IsChain least top ls us rest

abbrev pub more_filled : (least top : ℕ) (e : Expr) → Filled (More least top e)
more_filled least top e = record { tree = e; fill = λ other. other; fits = λ other. ([], refl, refl) }

-- an operator that follows an operand is looser than it
pub chain_reach : (least top : ℕ) (ls : List Link) (us rest : List Tok) → IsChain least top ls us rest → reach rest < least → least ≤ 12 → reach us < 12
chain_reach least top [] us rest h w b = let q : reach us ≡ reach rest = ap reach h in omega (arith, q, w, b)
chain_reach least top (joined op r p ∷ ls) us rest h w b =
    let q : reach us ≡ level op = reach_at h.2.1.0 _ _ us h.2.0 h.2.1.1.1 ∙ ap reach_by h.2.1.2 in omega (arith, q, level_most op)
chain_reach least top (tested c p ∷ ls) us rest h w b = let q : reach us ≡ 8 = reach_at s.Is _ _ us h.2.0 h.2.1.1 in omega (arith, q)

-- and so is one that follows a right operand
pub chain_top : (least top : ℕ) (ls : List Link) (us rest : List Tok) → IsChain least top ls us rest → reach rest < least → least ≤ top → reach us < top + 1
chain_top least top [] us rest h w b = let q : reach us ≡ reach rest = ap reach h in omega (arith, q, w, b)
chain_top least top (joined op r p ∷ ls) us rest h w b =
    let q : reach us ≡ level op = reach_at h.2.1.0 _ _ us h.2.0 h.2.1.1.1 ∙ ap reach_by h.2.1.2 in omega (arith, q, h.1)
chain_top least top (tested c p ∷ ls) us rest h w b = let q : reach us ≡ 8 = reach_at s.Is _ _ us h.2.0 h.2.1.1 in omega (arith, q, h.1)

-- this symbol joins nothing here
abbrev Barred : ℕ → ℕ → Infix → Type 0
Barred least top (Joins op) = least ≤ level op → level op ≤ top → ⊥
Barred least top Tests = least ≤ 8 → 9 ≤ top → ⊥
Barred least top Opens = Unit {0}
Barred least top Ends = Unit {0}

abbrev BarredAt : ℕ → ℕ → Option Tok → Type 0
BarredAt least top None = Unit {0}
BarredAt least top (Some (tok k w p)) = Barred least top (infix_of k)

barred_moved : (least top : ℕ) (a b : Option Tok) → a ≡ b → BarredAt least top b → BarredAt least top a
barred_moved least top a b e h = let F : Option Tok → Type 0 = λ x. BarredAt least top x in subst F (sym e) h

no_link : (least top : ℕ) (e : Expr) (ls : List Link) (us rest : List Tok) → IsChain least top ls us rest → BarredAt least top (first us) → (build e ls ≡ e) × (rest ≡ us)
no_link least top e [] us rest h b = (refl, sym h)
no_link least top e (joined op r p ∷ ls) us rest h b =
    let F : Infix → Type 0 = λ x. Barred least top x in
    let x = subst F h.2.1.2 (barred_moved least top _ (first us) (sym (ap first h.2.1.1.1)) b) in
    absurd (x h.0 h.1)
no_link least top e (tested c p ∷ ls) us rest h b =
    let x = barred_moved least top _ (first us) (sym (ap first h.2.1.1)) b in
    absurd (x h.0 h.1)

-- nothing is joined
stays : (least top : ℕ) (e : Expr) (us : List Tok) → BarredAt least top (first us) → Found (More least top e) (Reach least) Free us e us
stays least top e us b = record {
  front = [];
  is = refl;
  no_end = refl;
  gives = tt;
  again = λ other. ([], refl, refl);
  only = λ other c end f q w. let x = no_link least top e q.0 other end q.2 (barred_moved least top (first other) (first us) f b) in (q.1 ∙ x.0, x.1);
}

-- symbols that are no operators
infix_end : (k : Symbol) → is_end k ≡ true → infix_of k ≡ Ends
infix_end s.End e = refl
infix_end _ e = absurd cc

joins_end : (k : Symbol) (i : Infix) → infix_of k ≡ i → (i ≡ Ends → ⊥) → is_end k ≡ false
joins_end k i e f = decide (is_end k) (λ t. f (sym e ∙ infix_end k t))

tests_only : (k : Symbol) → infix_of k ≡ Tests → k ≡ s.Is
tests_only s.Is e = refl
tests_only _ e = absurd cc

op_in : PairOp → Infix → PairOp
op_in d (Joins op) = op
op_in d _ = d

one_op : (a b : PairOp) → Joins a ≡ Joins b → a ≡ b
unfolding op_in
one_op a b e = ap (op_in a) e

level_fits : (op : PairOp) → level op + 1 ≤ 12
level_fits op = omega (arith, level_most op)

-- a right operand, and then more
abbrev Joined : ℕ → PairOp → Expr → Place → Expr → Span
Joined least op e p = Then (IsExpr (level op + 1)) (λ r. More least (level op) (pair op e r p))

abbrev Tested : ℕ → Expr → Place → Expr → Span
Tested least e p = Then (TakesWord s.TypeName) (λ c. More least 8 (is e c p))

joined_into : (least top : ℕ) (op : PairOp) (e : Expr) (k : Symbol) (w : Text) (p : Place) → infix_of k ≡ Joins op → least ≤ level op → level op ≤ top →
    Into (Behind (tok k w p) (Joined least op e p)) (More least top e)
joined_into least top op e k w p i l m b vs end h = (joined op h.2.0 p ∷ h.2.3.0, h.2.3.1, (l, m, (h.0, (k, (w, h.1), i), (h.2.1, h.2.2, h.2.3.2))))

first_tail : (us : List Tok) (t : Tok) → first us ≡ Some t → us ≡ t ∷ tail us
first_tail [] t e = absurd cc
first_tail (u ∷ us) t e = behind_first (u ∷ us) us t u refl e

joined_back : (least top : ℕ) (op : PairOp) (e : Expr) (k : Symbol) (w : Text) (p : Place) → infix_of k ≡ Joins op → least ≤ level op → (b : Expr) (ls : List Link) (vs end : List Tok) → first vs ≡ Some (tok k w p) →
    b ≡ build e ls → IsChain least top ls vs end → reach end < least → Behind (tok k w p) (Joined least op e p) b vs end
joined_back least top op e k w p i l b [] vs end f q h u =
    let x : reach (tok k w p ∷ tail vs) ≡ level op = ap reach_by i in
    let y : vs ≡ tok k w p ∷ tail vs = first_tail vs (tok k w p) f in
    let z : reach vs ≡ level op = ap reach y ∙ x in
    let v : reach vs ≡ reach end = ap reach h in
    absurd (omega (arith, z, v, u, l))
joined_back least top op e k w p i l b (joined op2 r p2 ∷ ls) vs end f q h u =
    let t = same_first vs h.2.0 (tok k w p) _ h.2.1.1.1 f in
    let o : op2 ≡ op = one_op op2 op (sym h.2.1.2 ∙ ap infix_of (one_first k h.2.1.0 _ w _ p vs h.2.0 h.2.1.1.1 f) ∙ i) in
    let x : p2 ≡ p = ap place_in t in
    let F : PairOp → Type 0 = λ y. Joined least y e p2 b h.2.0 end in
    let G : Place → Type 0 = λ y. Joined least op e y b h.2.0 end in
    (h.2.0, behind_first vs h.2.0 (tok k w p) _ h.2.1.1.1 f, subst G x (subst F o (r, h.2.2.0, h.2.2.1, (ls, q, h.2.2.2))))
joined_back least top op e k w p i l b (tested c p2 ∷ ls) vs end f q h u =
    let x : Tests ≡ Joins op = ap infix_of (one_first k s.Is _ w _ p vs h.2.0 h.2.1.1 f) ∙ i in absurd cc

tested_into : (least top : ℕ) (e : Expr) (k : Symbol) (w : Text) (p : Place) → infix_of k ≡ Tests → least ≤ 8 → 9 ≤ top → Into (Behind (tok k w p) (Tested least e p)) (More least top e)
tested_into least top e k w p i l m b vs end h =
    (tested h.2.0 p ∷ h.2.3.0, h.2.3.1, (l, m, (h.0, (w, h.1 ∙ ap (λ x. tok x w p ∷ h.0) (tests_only k i)), (h.2.1, h.2.2, h.2.3.2))))

tested_back : (least top : ℕ) (e : Expr) (k : Symbol) (w : Text) (p : Place) → infix_of k ≡ Tests → least ≤ 8 → (b : Expr) (ls : List Link) (vs end : List Tok) → first vs ≡ Some (tok k w p) →
    b ≡ build e ls → IsChain least top ls vs end → reach end < least → Behind (tok k w p) (Tested least e p) b vs end
tested_back least top e k w p i l b [] vs end f q h u =
    let x : reach (tok k w p ∷ tail vs) ≡ 8 = ap reach_by i in
    let y : vs ≡ tok k w p ∷ tail vs = first_tail vs (tok k w p) f in
    let z : reach vs ≡ 8 = ap reach y ∙ x in
    let v : reach vs ≡ reach end = ap reach h in
    absurd (omega (arith, z, v, u, l))
tested_back least top e k w p i l b (joined op2 r p2 ∷ ls) vs end f q h u =
    let x : Joins op2 ≡ Tests = sym h.2.1.2 ∙ ap infix_of (one_first k h.2.1.0 _ w _ p vs h.2.0 h.2.1.1.1 f) ∙ i in absurd cc
tested_back least top e k w p i l b (tested c p2 ∷ ls) vs end f q h u =
    let t = same_first vs h.2.0 (tok k w p) _ h.2.1.1 f in
    let x : p2 ≡ p = ap place_in t in
    let G : Place → Type 0 = λ y. Tested least e y b h.2.0 end in
    (h.2.0, behind_first vs h.2.0 (tok k w p) _ h.2.1.1 f, subst G x (c, h.2.2.0, h.2.2.1, (ls, q, h.2.2.2)))

-- on lists of fewer than t tokens it reads the rest of every expression right
abbrev Goes : ℕ → ℕ → (Front → Reader Expr) → Type 0
Goes t least go = (top : ℕ) (e : Expr) → least ≤ top → (us : List Tok) → length us < t → Tells (More least top e) (Reach least) Free us (go (record { tree = e; level = top }) us)

and_not : (a b : Bool) → (a && b) ≡ false → a ≡ true → b ≡ true → ⊥
and_not true true e f g = absurd (let q : true ≡ false = e in cc)
and_not true false e f g = absurd (let q : false ≡ true = g in cc)
and_not false b e f g = absurd (let q : false ≡ true = f in cc)

more_by_law : (k t : ℕ) (E : ℕ → Reader Expr) → ExprLaw k E → t ≤ k → (least top : ℕ) → Goes t least (more E least t) → least ≤ top → (e : Expr) (i : Infix) (j : Symbol) (w : Text) (p : Place) (ts : List Tok) → infix_of j ≡ i → length ts < t →
    Tells (More least top e) (Reach least) Free (tok j w p ∷ ts) (more_by E least (more E least t) i (record { tree = e; level = top }) (tok j w p) ts)
more_by_law k t E f l least top g m e (Joins op) j w p ts i n =
    tells_if (More least top e) (Reach least) Free (tok j w p ∷ ts) (nat_le least (level op) && nat_le (level op) top) _ (Ok (e, tok j w p ∷ ts))
    (λ c.
    let d = both (nat_le least (level op)) (nat_le (level op) top) c in
    let a : least ≤ level op = leb-true least (level op) d.0 in
    let b : level op ≤ top = leb-true (level op) top d.1 in
    let R : Expr → Rule t Expr (Reach least) Free = λ r. record { rel = More least (level op) (pair op e r p); filled = more_filled least (level op) (pair op e r p); read = more E least t (record { tree = pair op e r p; level = level op }); law = g (level op) (pair op e r p) a } in
    tells_as (Behind (tok j w p) (Joined least op e p)) (More least top e) (Reach least) (Reach least) Free Free (tok j w p ∷ ts) _
    (tells_behind (Joined least op e p) (Reach least) Free j w p ts _ (joins_end j (Joins op) i (λ q. cc))
    ((then t (expr_part k t (level op + 1) E f l (level_fits op)) R (λ r y vs end h u. chain_top least (level op) h.0 vs end h.2 u a)).law ts n))
    (joined_into least top op e j w p i a b) (λ y vs end f h u. (joined_back least top op e j w p i a y h.0 vs end f h.1 h.2 u, u)) (λ a rest g. g))
    (λ c. stays least top e (tok j w p ∷ ts) (let F : Infix → Type 0 = λ x. Barred least top x in subst F (sym i) (λ a b. and_not (nat_le least (level op)) (nat_le (level op) top) c (le-leb least (level op) a) (le-leb (level op) top b))))
more_by_law k t E f l least top g m e Tests j w p ts i n =
    tells_if (More least top e) (Reach least) Free (tok j w p ∷ ts) (nat_le least 8 && nat_le 9 top) _ (Ok (e, tok j w p ∷ ts))
    (λ c.
    let d = both (nat_le least 8) (nat_le 9 top) c in
    let a : least ≤ 8 = leb-true least 8 d.0 in
    let b : 9 ≤ top = leb-true 9 top d.1 in
    let R : Word → Rule t Expr (Reach least) Free = λ c. record { rel = More least 8 (is e c p); filled = more_filled least 8 (is e c p); read = more E least t (record { tree = is e c p; level = 8 }); law = g 8 (is e c p) a } in
    tells_as (Behind (tok j w p) (Tested least e p)) (More least top e) (Reach least) (Reach least) Free Free (tok j w p ∷ ts) _
    (tells_behind (Tested least e p) (Reach least) Free j w p ts _ (joins_end j Tests i (λ q. cc)) ((then t (token t s.TypeName refl) R (λ r y vs end h u. tt)).law ts n))
    (tested_into least top e j w p i a b) (λ y vs end f h u. (tested_back least top e j w p i a y h.0 vs end f h.1 h.2 u, u)) (λ a rest g. g))
    (λ c. stays least top e (tok j w p ∷ ts) (let F : Infix → Type 0 = λ x. Barred least top x in subst F (sym i) (λ a b. and_not (nat_le least 8) (nat_le 9 top) c (le-leb least 8 a) (le-leb 9 top b))))
more_by_law k t E f l least top g m e Opens j w p ts i n = stays least top e (tok j w p ∷ ts) (let F : Infix → Type 0 = λ x. Barred least top x in subst F (sym i) tt)
more_by_law k t E f l least top g m e Ends j w p ts i n = stays least top e (tok j w p ∷ ts) (let F : Infix → Type 0 = λ x. Barred least top x in subst F (sym i) tt)

more_law : (k : ℕ) (E : ℕ → Reader Expr) → ExprLaw k E → (t : ℕ) → t ≤ suc k → (least : ℕ) → Goes t least (more E least t)
unfolding more
more_law k E f zero l least top e m us h = absurd (omega (arith, h))
more_law k E f (suc t) l least top e m [] h = stays least top e [] tt
more_law k E f (suc t) l least top e m (tok j w p ∷ ts) h = more_by_law k t E f (omega (arith, l)) least top (more_law k E f t (omega (arith, l)) least) m e (infix_of j) j w p ts refl (omega (arith, h))

climb_law : (k : ℕ) (E : ℕ → Reader Expr) → ExprLaw k E → (n : ℕ) → n ≤ 12 → (us : List Tok) → length us < suc k → Tells (IsExpr n) (Reach n) Free us (climb E n us)
unfolding climb
climb_law k E f n b us h =
    tells_as (Then (IsExpr 12) (λ x. More n 12 x)) (IsExpr n) (Reach n) (Reach n) Free Free us _
    (then_law (IsExpr 12) (Reach 12) Free (λ x. More n 12 x) (Reach n) Free us (operand E us) (λ (x : Expr × List Tok). more E n (length x.1 + 1) (record { tree = x.0; level = 12 }) x.1)
    (λ c y vs end q w. chain_reach n 12 q.0 vs end q.2 w b) (λ c. more_filled n 12 c) (operand_law k E f us h)
    (λ x mid here l g. more_law k E f (length mid + 1) (omega (arith, l, h)) n 12 x b mid (omega arith)))
    (λ y vs end q. let F : Expr → Type 0 = λ z. IsExpr n z vs end in subst F (sym q.3.1) (build_is q.3.0 n 12 q.0 vs q.1 end b q.2 q.3.2))
    (λ y vs end e q w. let c = chained n y vs end q in ((c.operand, c.mid, c.is_operand, (c.links, c.is_built, c.is_chain)), w)) (λ a rest g. g)

pub expr_in_law : (k : ℕ) → ExprLaw k (expr_in k)
unfolding expr_in
expr_in_law zero n b us h = absurd (omega (arith, h))
expr_in_law (suc k) n b us h = climb_law k (expr_in k) (expr_in_law k) n b us h

-- an expression is read right on every list
pub expr_law : (n : ℕ) → n ≤ 12 → (us : List Tok) → Tells (IsExpr n) (Reach n) Free us (expr n us)
expr_law n b us = expr_in_law (length us + 1) n b us (omega arith)
