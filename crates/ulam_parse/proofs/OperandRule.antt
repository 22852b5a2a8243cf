-- The rule of operands, by their first token.
use Rattle.std.proofs.Common.{ℕ, suc, ◌+◌, ◌≤◌, ◌<◌, ◌≡◌, List, [], ◌∷◌, length, Option, Some, None, Bool, Ok, refl, ap, sym, ◌∙◌, subst, arith}
use Rattle.feast_base.specs.declared.place.Place.{Place}
use Rattle.ulam_tree.specs.declared.op.PrefixOp.{PrefixOp}
use Rattle.ulam_tree.specs.Raw.{Word, Path, Expr, number, truth, reads, calls, index, instance, group, cast, prefix, pair, is}
use Rattle.ulam_parse.specs.declared.symbol.Symbol.{Symbol}
use Rattle.ulam_parse.specs.declared.symbol.Symbol.TheVariants as s
use Rattle.ulam_parse.specs.declared.symbol.Opening.{Opening}
use Rattle.ulam_parse.specs.declared.symbol.Opening.TheVariants.{Signs, Parens, Counts, Says, Classes, Names, Owns, Nothing}
use Rattle.ulam_parse.specs.Tokens.{Text, Tok, tok, value_of, unsigned_of}
use Rattle.ulam_parse.specs.Tables.{level, opening_of}
use Rattle.ulam_parse.specs.Grammar.{Span, IsPathOf, IsPath, IsExpr, AreDotted}
use Rattle.ulam_parse.specs.Reading.{Reader, ◌>>=◌, path, after_path, operand_by, operand}
use Rattle.ulam_parse.proofs.Tells.{first, one_first, Tells, tells_as, tells_behind, Behind}
use Rattle.ulam_parse.proofs.Rules.{Free, Then, Map, Into, here, then_law, map_law}
use Rattle.ulam_parse.proofs.TypeRules.{Not, path_law}
use Rattle.ulam_parse.proofs.Chains.{level_most}
use Rattle.ulam_parse.proofs.Opened.{Form, opened, no_form}
use Rattle.ulam_parse.proofs.Operands.{Reach, ExprLaw, expr_filled, IsAfter, after_filled, after_path_law, after_dot}
use Rattle.ulam_parse.proofs.Primaries.{IsInside, in_parens_law, New, new_law, empty_expr, not_end, parens_only, counts_only}

tok_in : Tok → Option Tok → Tok
tok_in t None = t
tok_in t (Some u) = u

-- the same first token
pub same_first : (us mid : List Tok) (t u : Tok) → us ≡ u ∷ mid → first us ≡ Some t → u ≡ t
unfolding tok_in
same_first us mid t u e f = ap (tok_in t) (sym (ap first e) ∙ f)

pub behind_first : (us mid : List Tok) (t u : Tok) → us ≡ u ∷ mid → first us ≡ Some t → us ≡ t ∷ mid
behind_first us mid t u e f = e ∙ ap (λ x. x ∷ mid) (same_first us mid t u e f)

abbrev pub place_in : Tok → Place
place_in (tok k w p) = p

abbrev pub text_in : Tok → Text
text_in (tok k w p) = w

-- no operand is a pair
no_pair : (op : _) → 12 ≤ level op → ⊥
no_pair op h = omega (arith, h, level_most op)

signs_back : (op : PrefixOp) (k : Symbol) (w : Text) (p : Place) (b : Expr) (vs end : List Tok) → Form (Signs op) b → first vs ≡ Some (tok k w p) → IsExpr 12 b vs end →
    Behind (tok k w p) (Map (λ (e : Expr). prefix op e p) (IsExpr 12)) b vs end
signs_back op k w p (prefix op2 e p2) vs end f g h =
    let t = same_first vs h.0 (tok k w p) _ h.1.1.1 g in
    (h.0, behind_first vs h.0 (tok k w p) _ h.1.1.1 g, (e, ap (λ o. prefix o e p2) f ∙ ap (λ x. prefix op e (place_in x)) t, h.2))
signs_back op k w p (pair op2 l r q) vs end f g h = absurd (no_pair op2 h.0)
signs_back op k w p (is e c q) vs end f g h = absurd (omega (arith, h.0))
signs_back op k w p _ vs end f g h = absurd f

parens_back : (k : Symbol) (w : Text) (p : Place) (b : Expr) (vs end : List Tok) → Form Parens b → first vs ≡ Some (tok k w p) → IsExpr 12 b vs end → Behind (tok k w p) (IsInside p) b vs end
parens_back k w p (group e q) vs end f g h = (h.0, behind_first vs h.0 (tok k w p) _ h.1.1 g, (ap place_in (same_first vs h.0 (tok k w p) _ h.1.1 g), h.2))
parens_back k w p (cast ty e q) vs end f g h = (h.0, behind_first vs h.0 (tok k w p) _ h.1.1 g, (ap place_in (same_first vs h.0 (tok k w p) _ h.1.1 g), h.2))
parens_back k w p (pair op2 l r q) vs end f g h = absurd (no_pair op2 h.0)
parens_back k w p (is e c q) vs end f g h = absurd (omega (arith, h.0))
parens_back k w p _ vs end f g h = absurd f

abbrev Exactly : Expr → Expr → Span
Exactly v b us rest = (b ≡ v) × (us ≡ rest)

counts_back : (k : Symbol) (w : Text) (p : Place) (b : Expr) (vs end : List Tok) → Form Counts b → first vs ≡ Some (tok k w p) → IsExpr 12 b vs end →
    Behind (tok k w p) (Exactly (number (value_of w) (unsigned_of w) p)) b vs end
counts_back k w p (number v u q) vs end f g h =
    let t = same_first vs end (tok k w p) _ h.1 g in (
      end,
      behind_first vs end (tok k w p) _ h.1 g,
      (ap (λ x. number x u q) (sym h.2) ∙ ap (λ x. number (value_of h.0) x q) (sym h.3) ∙ ap (λ x. number (value_of (text_in x)) (unsigned_of (text_in x)) (place_in x)) t, refl),
    )
counts_back k w p (pair op2 l r q) vs end f g h = absurd (no_pair op2 h.0)
counts_back k w p (is e c q) vs end f g h = absurd (omega (arith, h.0))
counts_back k w p _ vs end f g h = absurd f

says_back : (v : Bool) (k : Symbol) (w : Text) (p : Place) (b : Expr) (vs end : List Tok) → Form (Says v) b → first vs ≡ Some (tok k w p) → IsExpr 12 b vs end → Behind (tok k w p) (Exactly (truth v p)) b vs end
says_back v k w p (truth v2 q) vs end f g h =
    let t = same_first vs end (tok k w p) _ h.1.1 g in
    (end, behind_first vs end (tok k w p) _ h.1.1 g, (ap (λ x. truth x q) f ∙ ap (λ x. truth v (place_in x)) t, refl))
says_back v k w p (pair op2 l r q) vs end f g h = absurd (no_pair op2 h.0)
says_back v k w p (is e c q) vs end f g h = absurd (omega (arith, h.0))
says_back v k w p _ vs end f g h = absurd f

classes_back : (b : Expr) (vs end : List Tok) → Form Classes b → IsExpr 12 b vs end → New b vs end
classes_back (instance w) vs end f h = (w, h.0, h.1, (h.2.1.0, h.2.0, h.2.1.1, (h.2.2.0, refl, h.2.2.1)))
classes_back (pair op2 l r q) vs end f h = absurd (no_pair op2 h.0)
classes_back (is e c q) vs end f h = absurd (omega (arith, h.0))
classes_back _ vs end f h = absurd f

abbrev Pathed : Expr → Span
Pathed = Then IsPath IsAfter

pathed_into : Into Pathed (IsExpr 12)
pathed_into (reads y) vs end h = let F : Path → Type 0 = λ x. IsPath x vs end in let G : List Tok → Type 0 = λ v. IsPath h.0 vs v in subst F (sym h.3.0) (subst G h.3.1 h.2)
pathed_into (calls y es) vs end h = let F : Path → Type 0 = λ x. IsPath x vs h.1 in (h.1, subst F (sym h.3.0) h.2, h.3.1)
pathed_into (index y e) vs end h = let F : Path → Type 0 = λ x. IsPath x vs h.1 in (h.1, subst F (sym h.3.0) h.2, h.3.1)
pathed_into _ vs end h = absurd h.3

names_back : (b : Expr) (vs end : List Tok) → Form Names b → IsExpr 12 b vs end → Pathed b vs end
names_back (reads y) vs end f h = (y, end, h, (refl, refl))
names_back (calls y es) vs end f h = (y, h.0, h.1, (refl, h.2))
names_back (index y e) vs end f h = (y, h.0, h.1, (refl, h.2))
names_back (pair op2 l r q) vs end f h = absurd (no_pair op2 h.0)
names_back (is e c q) vs end f h = absurd (omega (arith, h.0))
names_back _ vs end f h = absurd f

owns_back : (b : Expr) (vs end : List Tok) → Form Owns b → IsExpr 12 b vs end → Pathed b vs end
owns_back (reads y) vs end f h = (y, end, h, (refl, refl))
owns_back (calls y es) vs end f h = (y, h.0, h.1, (refl, h.2))
owns_back (index y e) vs end f h = (y, h.0, h.1, (refl, h.2))
owns_back (pair op2 l r q) vs end f h = absurd (no_pair op2 h.0)
owns_back (is e c q) vs end f h = absurd (omega (arith, h.0))
owns_back _ vs end f h = absurd f

-- a path takes a token
words_less : (ws : List Word) (us rest : List Tok) → AreDotted ws us rest → length rest ≤ length us
words_less [] us rest h = omega (arith, ap length h)
words_less (w ∷ ws) us rest h = omega (arith, ap length h.1.1, ap length h.2.1, words_less ws h.2.0 rest h.2.2)

path_of_less : (own : Option Place) (words : List Word) (us rest : List Tok) → IsPathOf own words us rest → length rest < length us
path_of_less (Some p) ws us rest h = omega (arith, ap length h.1.1, words_less ws h.0 rest h.2)
path_of_less None [] us rest h = absurd h
path_of_less None (w ∷ ws) us rest h = omega (arith, ap length h.1, words_less ws h.0 rest h.2)

pub path_less : (x : Path) (us rest : List Tok) → IsPath x us rest → length rest < length us
path_less x us rest h = path_of_less x.own x.words us rest h

pathed_law : (k : ℕ) (E : ℕ → Reader Expr) → ExprLaw k E → (us : List Tok) → length us < suc k → Tells Pathed (Reach 12) Free us (path us >>= λ (x : Path × List Tok). after_path E x.0 x.1)
pathed_law k E f us l = then_law IsPath (Not s.Dot) Free IsAfter (Reach 12) Free us (path us) (λ (x : Path × List Tok). after_path E x.0 x.1) (λ c b vs end h w. after_dot c b vs end h w) (λ c. after_filled c) (path_law (length us + 1) us (omega arith))
    (λ x mid here m g. after_path_law k E f x mid (omega (arith, path_less x us mid here, l)))

-- the form of an operand, by what its first token opens
form_at : (k : Symbol) (w : Text) (p : Place) (o : Opening) → opening_of k ≡ o → (b : Expr) (vs end : List Tok) → first vs ≡ Some (tok k w p) → IsExpr 12 b vs end → Form o b
form_at k w p o e b vs end f h =
    let x = opened 12 b vs end h in
    let F : Opening → Type 0 = λ y. Form y b in
    subst F (ap opening_of (one_first k x.symbol x.text w x.place p vs x.rest x.is f) ∙ e) x.form

inside_into : (k : Symbol) (w : Text) (p : Place) → opening_of k ≡ Parens → Into (Behind (tok k w p) (IsInside p)) (IsExpr 12)
inside_into k w p e (group x q) vs end h = (h.0, (w, h.1 ∙ ap (λ y. tok y w p ∷ h.0) (parens_only k e) ∙ ap (λ y. tok s.OpenParen w y ∷ h.0) (sym h.2.0)), h.2.1)
inside_into k w p e (cast ty x q) vs end h = (h.0, (w, h.1 ∙ ap (λ y. tok y w p ∷ h.0) (parens_only k e) ∙ ap (λ y. tok s.OpenParen w y ∷ h.0) (sym h.2.0)), h.2.1)
inside_into k w p e _ vs end h = absurd h.2

operand_by_law : (k : ℕ) (E : ℕ → Reader Expr) → ExprLaw k E → (o : Opening) (j : Symbol) (w : Text) (p : Place) (ts : List Tok) → opening_of j ≡ o → length (tok j w p ∷ ts) < suc k →
    Tells (IsExpr 12) (Reach 12) Free (tok j w p ∷ ts) (operand_by E o (tok j w p) ts)
operand_by_law k E f (Signs op) j w p ts e l =
    tells_as (Behind (tok j w p) (Map (λ (x : Expr). prefix op x p) (IsExpr 12))) (IsExpr 12) (Reach 12) (Reach 12) Free Free (tok j w p ∷ ts) _
    (tells_behind (Map (λ (x : Expr). prefix op x p) (IsExpr 12)) (Reach 12) Free j w p ts _ (not_end j (Signs op) e (λ q. cc))
    (map_law (λ (x : Expr). prefix op x p) (IsExpr 12) (Reach 12) Free (Reach 12) Free ts (E 12 ts) (λ a end h. h) (λ a end h. tt) (f 12 (omega arith) ts (omega (arith, l)))))
    (λ b vs end h. rw h.2.1 (h.0, (j, (w, h.1), e), h.2.2)) (λ b vs end g h u. (signs_back op j w p b vs end (form_at j w p (Signs op) e b vs end g h) g h, u)) (λ a rest g. g)
operand_by_law k E f Parens j w p ts e l =
    tells_as (Behind (tok j w p) (IsInside p)) (IsExpr 12) (Reach 12) (Reach 12) Free Free (tok j w p ∷ ts) _
    (tells_behind (IsInside p) (Reach 12) Free j w p ts _ (not_end j Parens e (λ q. cc)) (in_parens_law k E f p ts (omega (arith, l))))
    (inside_into j w p e) (λ b vs end g h u. (parens_back j w p b vs end (form_at j w p Parens e b vs end g h) g h, u)) (λ a rest g. g)
operand_by_law k E f Counts j w p ts e l =
    tells_as (Behind (tok j w p) (Exactly (number (value_of w) (unsigned_of w) p))) (IsExpr 12) (Reach 12) (Reach 12) Free Free (tok j w p ∷ ts) (Ok (number (value_of w) (unsigned_of w) p, ts))
    (tells_behind (Exactly (number (value_of w) (unsigned_of w) p)) (Reach 12) Free j w p ts (Ok (number (value_of w) (unsigned_of w) p, ts)) (not_end j Counts e (λ q. cc)) ((here {S = Reach 12} (length ts + 1) (number (value_of w) (unsigned_of w) p)).law ts (omega arith)))
    (λ b vs end h. let q : vs ≡ tok s.Number w p ∷ end = h.1 ∙ ap (λ x. tok x w p ∷ h.0) (counts_only j e) ∙ ap (λ x. tok s.Number w p ∷ x) h.2.1 in rw h.2.0 (w, q, refl, refl))
    (λ b vs end g h u. (counts_back j w p b vs end (form_at j w p Counts e b vs end g h) g h, u)) (λ a rest g. g)
operand_by_law k E f (Says v) j w p ts e l =
    tells_as (Behind (tok j w p) (Exactly (truth v p))) (IsExpr 12) (Reach 12) (Reach 12) Free Free (tok j w p ∷ ts) (Ok (truth v p, ts))
    (tells_behind (Exactly (truth v p)) (Reach 12) Free j w p ts (Ok (truth v p, ts)) (not_end j (Says v) e (λ q. cc)) ((here {S = Reach 12} (length ts + 1) (truth v p)).law ts (omega arith)))
    (λ b vs end h. rw h.2.0 (j, (w, h.1 ∙ ap (λ x. tok j w p ∷ x) h.2.1), e))
    (λ b vs end g h u. (says_back v j w p b vs end (form_at j w p (Says v) e b vs end g h) g h, u)) (λ a rest g. g)
operand_by_law k E f Classes j w p ts e l =
    tells_as New (IsExpr 12) Free (Reach 12) Free Free (tok j w p ∷ ts) _ (new_law (tok j w p ∷ ts))
    (λ b vs end h. rw h.3.3.1 (h.1, h.2, (h.3.1, (h.3.0, h.3.2), (h.3.3.0, h.3.3.2)))) (λ b vs end g h u. (classes_back b vs end (form_at j w p Classes e b vs end g h) h, tt)) (λ a rest g. g)
operand_by_law k E f Names j w p ts e l =
    tells_as Pathed (IsExpr 12) (Reach 12) (Reach 12) Free Free (tok j w p ∷ ts) _ (pathed_law k E f (tok j w p ∷ ts) l) pathed_into
    (λ b vs end g h u. (names_back b vs end (form_at j w p Names e b vs end g h) h, u)) (λ a rest g. g)
operand_by_law k E f Owns j w p ts e l =
    tells_as Pathed (IsExpr 12) (Reach 12) (Reach 12) Free Free (tok j w p ∷ ts) _ (pathed_law k E f (tok j w p ∷ ts) l) pathed_into
    (λ b vs end g h u. (owns_back b vs end (form_at j w p Owns e b vs end g h) h, u)) (λ a rest g. g)
operand_by_law k E f Nothing j w p ts e l = record {
  front = [];
  left = tok j w p ∷ ts;
  is = refl;
  long = refl;
  no_end = refl;
  tree = (expr_filled 12).tree;
  fill = (expr_filled 12).fill;
  goes = (expr_filled 12).fits;
  none = λ other b end g h u. no_form b (form_at j w p Nothing e b other end g h);
}

pub operand_law : (k : ℕ) (E : ℕ → Reader Expr) → ExprLaw k E → (us : List Tok) → length us < suc k → Tells (IsExpr 12) (Reach 12) Free us (operand E us)
unfolding operand
operand_law k E f [] l = record {
  front = [];
  left = [];
  is = refl;
  long = refl;
  no_end = refl;
  tree = (expr_filled 12).tree;
  fill = (expr_filled 12).fill;
  goes = (expr_filled 12).fits;
  none = λ other b end g h u. empty_expr 12 b other end g h;
}
operand_law k E f (tok j w p ∷ ts) l = operand_by_law k E f (opening_of j) j w p ts refl l
