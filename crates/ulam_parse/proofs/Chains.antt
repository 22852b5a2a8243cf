-- An expression as its first operand and what is joined to it, from the left.
use Rattle.std.proofs.Common.{ℕ, ◌+◌, ◌≤◌, ◌≡◌, List, [], ◌∷◌, ◌++◌, refl, ap, sym, ◌∙◌, subst, arith}
use Rattle.feast_base.specs.declared.place.Place.{Place}
use Rattle.ulam_tree.specs.declared.op.PairOp.{PairOp}
use Rattle.ulam_tree.specs.declared.op.PairOp.TheVariants as o
use Rattle.ulam_tree.specs.Raw.{Word, Expr, number, truth, reads, calls, index, instance, group, cast, prefix, pair, is}
use Rattle.ulam_parse.specs.declared.symbol.Symbol.TheVariants as s
use Rattle.ulam_parse.specs.Tokens.{Tok}
use Rattle.ulam_parse.specs.Tables.{level}
use Rattle.ulam_parse.specs.Grammar.{Span, ◌⟫◌, TakesAt, TakesWord, TakesPair, IsExpr}

-- an operator with its right operand, or `is` with a class
pub data Link : Type 0 where
  joined : PairOp → Expr → Place → Link
  tested : Word → Place → Link

-- an expression with links
abbrev pub build : Expr → List Link → Expr
build e [] = e
build e (joined op r p ∷ ls) = build (pair op e r p) ls
build e (tested w p ∷ ls) = build (is e w p) ls

-- links after an expression of level `top`, each of level `least` or tighter, which group from the left
abbrev pub IsChain : ℕ → ℕ → List Link → Span
IsChain least top [] = λ us rest. us ≡ rest
IsChain least top (joined op r p ∷ ls) = λ us rest. (least ≤ level op) × (level op ≤ top) × (TakesPair op p ⟫ IsExpr (level op + 1) r ⟫ IsChain least (level op) ls) us rest
IsChain least top (tested w p ∷ ls) = λ us rest. (least ≤ 8) × (9 ≤ top) × (TakesAt s.Is p ⟫ TakesWord s.TypeName w ⟫ IsChain least 8 ls) us rest

pub looser : (m n : ℕ) (e : Expr) (us rest : List Tok) → n ≤ m → IsExpr m e us rest → IsExpr n e us rest
looser m n (pair op l r p) us rest b h = (omega (arith, h.0), h.1)
looser m n (is e w p) us rest b h = (omega (arith, h.0), h.1)
looser m n (number v u p) us rest b h = h
looser m n (truth v p) us rest b h = h
looser m n (reads x) us rest b h = h
looser m n (calls x es) us rest b h = h
looser m n (index x e) us rest b h = h
looser m n (instance w) us rest b h = h
looser m n (group e p) us rest b h = h
looser m n (cast ty e p) us rest b h = h
looser m n (prefix op e p) us rest b h = h

-- with links it is an expression
pub build_is : (ls : List Link) (least top : ℕ) (x : Expr) (us a rest : List Tok) → least ≤ top → IsExpr top x us a → IsChain least top ls a rest → IsExpr least (build x ls) us rest
build_is [] least top x us a rest b h c = let F : List Tok → Type 0 = λ v. IsExpr least x us v in subst F c (looser top least x us a b h)
build_is (joined op r p ∷ ls) least top x us a rest b h c =
    build_is ls least (level op) (pair op x r p) us c.2.2.0 rest c.0 (omega arith, (a, looser top (level op) x us a c.1 h, (c.2.0, c.2.1, c.2.2.1))) c.2.2.2
build_is (tested w p ∷ ls) least top x us a rest b h c =
    build_is ls least 8 (is x w p) us c.2.2.0 rest c.0 (omega arith, (a, looser top 9 x us a c.1 h, (c.2.0, c.2.1, c.2.2.1))) c.2.2.2

build_more : (ls ks : List Link) (x : Expr) → build x (ls ++ ks) ≡ build (build x ls) ks
build_more [] ks x = refl
build_more (joined op r p ∷ ls) ks x = build_more ls ks (pair op x r p)
build_more (tested w p ∷ ls) ks x = build_more ls ks (is x w p)

one_joined : (ls : List Link) (m top n : ℕ) (op : PairOp) (r : Expr) (p : Place) (a mid rest : List Tok) → IsChain m top ls a mid → (TakesPair op p ⟫ IsExpr (level op + 1) r) mid rest →
    n ≤ level op → level op ≤ m → m ≤ top → IsChain n top (ls ++ (joined op r p ∷ [])) a rest
one_joined [] m top n op r p a mid rest c t g h i =
    let F : List Tok → Type 0 = λ v. (TakesPair op p ⟫ IsExpr (level op + 1) r) v rest in
    let u = subst F (sym c) t in
    (g, omega (arith, h, i), (u.0, u.1, (rest, u.2, refl)))
one_joined (joined op2 r2 p2 ∷ ls) m top n op r p a mid rest c t g h i =
    (omega (arith, g, h, c.0), c.1, (c.2.0, c.2.1, (c.2.2.0, c.2.2.1, one_joined ls m (level op2) n op r p c.2.2.0 mid rest c.2.2.2 t g h c.0)))
one_joined (tested w2 p2 ∷ ls) m top n op r p a mid rest c t g h i =
    (omega (arith, g, h, c.0), c.1, (c.2.0, c.2.1, (c.2.2.0, c.2.2.1, one_joined ls m 8 n op r p c.2.2.0 mid rest c.2.2.2 t g h c.0)))

one_tested : (ls : List Link) (top n : ℕ) (w : Word) (p : Place) (a mid rest : List Tok) → IsChain 9 top ls a mid → (TakesAt s.Is p ⟫ TakesWord s.TypeName w) mid rest →
    n ≤ 8 → 9 ≤ top → IsChain n top (ls ++ (tested w p ∷ [])) a rest
one_tested [] top n w p a mid rest c t g i =
    let F : List Tok → Type 0 = λ v. (TakesAt s.Is p ⟫ TakesWord s.TypeName w) v rest in
    let u = subst F (sym c) t in
    (g, i, (u.0, u.1, (rest, u.2, refl)))
one_tested (joined op2 r2 p2 ∷ ls) top n w p a mid rest c t g i =
    (omega (arith, g, c.0), c.1, (c.2.0, c.2.1, (c.2.2.0, c.2.2.1, one_tested ls (level op2) n w p c.2.2.0 mid rest c.2.2.2 t g c.0)))
one_tested (tested w2 p2 ∷ ls) top n w p a mid rest c t g i = absurd (omega (arith, c.0))

-- an expression as an operand and links
pub record Chained (n : ℕ) (b : Expr) (us rest : List Tok) : Type 0 where
  pub operand : Expr
  pub links : List Link
  pub mid : List Tok
  pub is_built : b ≡ build operand links
  pub is_operand : IsExpr 12 operand us mid
  pub is_chain : IsChain n 12 links mid rest

pub level_most : (op : PairOp) → level op ≤ 11
level_most o.Add = omega arith
level_most o.Sub = omega arith
level_most o.Mul = omega arith
level_most o.Div = omega arith
level_most o.Rem = omega arith
level_most o.And = omega arith
level_most o.Or = omega arith
level_most o.Xor = omega arith
level_most o.Shl = omega arith
level_most o.Shr = omega arith
level_most o.Both = omega arith
level_most o.Either = omega arith
level_most o.Eq = omega arith
level_most o.Ne = omega arith
level_most o.Lt = omega arith
level_most o.Le = omega arith
level_most o.Gt = omega arith
level_most o.Ge = omega arith

alone : (n : ℕ) (b : Expr) (us rest : List Tok) → IsExpr 12 b us rest → Chained n b us rest
alone n b us rest h = record { operand = b; links = []; mid = rest; is_built = refl; is_operand = h; is_chain = refl }

pub chained : (n : ℕ) (b : Expr) (us rest : List Tok) → IsExpr n b us rest → Chained n b us rest
chained n (pair op l r p) us rest h =
    let c = chained (level op) l us h.1.0 h.1.1 in
    record {
      operand = c.operand;
      links = c.links ++ (joined op r p ∷ []);
      mid = c.mid;
      is_built = ap (λ x. pair op x r p) c.is_built ∙ sym (build_more c.links (joined op r p ∷ []) c.operand);
      is_operand = c.is_operand;
      is_chain = one_joined c.links (level op) 12 n op r p c.mid h.1.0 rest c.is_chain h.1.2 h.0 (omega arith) (omega (arith, level_most op));
    }
chained n (is e w p) us rest h =
    let c = chained 9 e us h.1.0 h.1.1 in
    record {
      operand = c.operand;
      links = c.links ++ (tested w p ∷ []);
      mid = c.mid;
      is_built = ap (λ x. is x w p) c.is_built ∙ sym (build_more c.links (tested w p ∷ []) c.operand);
      is_operand = c.is_operand;
      is_chain = one_tested c.links 12 n w p c.mid h.1.0 rest c.is_chain h.1.2 h.0 (omega arith);
    }
chained n (number v u p) us rest h = alone n (number v u p) us rest h
chained n (truth v p) us rest h = alone n (truth v p) us rest h
chained n (reads x) us rest h = alone n (reads x) us rest h
chained n (calls x es) us rest h = alone n (calls x es) us rest h
chained n (index x e) us rest h = alone n (index x e) us rest h
chained n (instance w) us rest h = alone n (instance w) us rest h
chained n (group e p) us rest h = alone n (group e p) us rest h
chained n (cast ty e p) us rest h = alone n (cast ty e p) us rest h
chained n (prefix op e p) us rest h = alone n (prefix op e p) us rest h
