-- What the first tokens of an expression tell.
use Rattle.std.proofs.Common.{ℕ, ◌≤◌, ◌≡◌, List, [], ◌∷◌, Option, Some, None, true, false, refl, ap, sym, ◌∙◌, subst, arith}
use Rattle.feast_base.specs.declared.place.Place.{Place}
use Rattle.ulam_tree.specs.Raw.{Word, Width, TypeRef, Path, Expr, number, truth, reads, calls, index, instance, group, cast, prefix, pair, is}
use Rattle.ulam_parse.specs.declared.symbol.Symbol.{Symbol}
use Rattle.ulam_parse.specs.declared.symbol.Symbol.TheVariants as s
use Rattle.ulam_parse.specs.declared.symbol.Infix.{Infix}
use Rattle.ulam_parse.specs.declared.symbol.Infix.TheVariants as i
use Rattle.ulam_parse.specs.declared.symbol.Opening.{Opening}
use Rattle.ulam_parse.specs.declared.symbol.Opening.TheVariants.{Signs, Parens, Counts, Says, Classes, Names, Owns, Nothing}
use Rattle.ulam_parse.specs.Tokens.{Text, Tok, tok}
use Rattle.ulam_parse.specs.Tables.{infix_of, level, opening_of}
use Rattle.ulam_parse.specs.Grammar.{Takes, IsSize, IsType, IsPathOf, IsExpr}
use Rattle.ulam_parse.specs.Reading.{same, sees, sees_second, begins_cast}
use Rattle.ulam_parse.proofs.Tells.{decide, same_self, same_is, first, tail, sees_first}

-- the level of an operator that comes first; more than any level for what continues a path, and 0 for what is no operator
abbrev pub reach_by : Infix → ℕ
reach_by (i.Joins op) = level op
reach_by i.Tests = 8
reach_by i.Opens = 13
reach_by i.Ends = 0

abbrev pub reach : List Tok → ℕ
reach [] = 0
reach (tok k w p ∷ ts) = reach_by (infix_of k)

pub reach_at : (k : Symbol) (w : Text) (p : Place) (us rest : List Tok) → us ≡ tok k w p ∷ rest → reach us ≡ reach_by (infix_of k)
reach_at k w p us rest e = rw e refl

-- no symbol that continues a path comes first
pub no_opens : (j : Symbol) → infix_of j ≡ i.Opens → (us : List Tok) → reach us ≤ 12 → sees j us ≡ false
no_opens j o [] h = refl
no_opens j o (tok k w p ∷ ts) h =
    decide (same k j) (λ e. let q : reach_by (infix_of k) ≡ 13 = ap (λ x. reach_by (infix_of x)) (same_is k j e) ∙ ap reach_by o in omega (arith, q, h))

-- which expressions a symbol may begin
abbrev pub Form : Opening → Expr → Type 0
Form o (pair op l r p) = Form o l
Form o (is e w p) = Form o e
Form (Signs op) (prefix op2 e p) = op2 ≡ op
Form Parens (group e p) = Unit {0}
Form Parens (cast ty e p) = Unit {0}
Form Counts (number v u p) = Unit {0}
Form (Says v) (truth v2 p) = v2 ≡ v
Form Classes (instance w) = Unit {0}
Form Names (reads x) = Unit {0}
Form Names (calls x es) = Unit {0}
Form Names (index x e) = Unit {0}
Form Owns (reads x) = Unit {0}
Form Owns (calls x es) = Unit {0}
Form Owns (index x e) = Unit {0}
Form _ _ = ⊥

-- an expression begins with a token, of a form that it may have
pub record Opened (e : Expr) (us : List Tok) : Type 0 where
  pub symbol : Symbol
  pub text : Text
  pub place : Place
  pub rest : List Tok
  pub is : us ≡ tok symbol text place ∷ rest
  pub form : Form (opening_of symbol) e

opened_path : (x : Path) (e : Expr) → Form Names e → Form Owns e → (own : Option Place) (words : List Word) (us rest : List Tok) → IsPathOf own words us rest → Opened e us
opened_path x e f g (Some p) ws us rest h = record { symbol = s.Own; text = h.1.0; place = p; rest = h.0; is = h.1.1; form = g }
opened_path x e f g None [] us rest h = absurd h
opened_path x e f g None (w ∷ ws) us rest h = record { symbol = s.Name; text = w.name; place = w.place; rest = h.0; is = h.1; form = f }

pub opened : (n : ℕ) (e : Expr) (us rest : List Tok) → IsExpr n e us rest → Opened e us
opened n (pair op l r p) us rest h = let x = opened (level op) l us h.1.0 h.1.1 in record { symbol = x.symbol; text = x.text; place = x.place; rest = x.rest; is = x.is; form = x.form }
opened n (is e w p) us rest h = let x = opened 9 e us h.1.0 h.1.1 in record { symbol = x.symbol; text = x.text; place = x.place; rest = x.rest; is = x.is; form = x.form }
opened n (number v u p) us rest h = record { symbol = s.Number; text = h.0; place = p; rest = rest; is = h.1; form = tt }
opened n (truth v p) us rest h = record { symbol = h.0; text = h.1.0; place = p; rest = rest; is = h.1.1; form = let F : Opening → Type 0 = λ o. Form o (truth v p) in subst F (sym h.2) refl }
opened n (reads x) us rest h = opened_path x (reads x) tt tt x.own x.words us rest h
opened n (calls x es) us rest h = opened_path x (calls x es) tt tt x.own x.words us h.0 h.1
opened n (index x e) us rest h = opened_path x (index x e) tt tt x.own x.words us h.0 h.1
opened n (instance w) us rest h = record { symbol = s.TypeName; text = w.name; place = w.place; rest = h.0; is = h.1; form = tt }
opened n (group e p) us rest h = record { symbol = s.OpenParen; text = h.1.0; place = p; rest = h.0; is = h.1.1; form = tt }
opened n (cast ty e p) us rest h = record { symbol = s.OpenParen; text = h.1.0; place = p; rest = h.0; is = h.1.1; form = tt }
opened n (prefix op e p) us rest h = record { symbol = h.1.0; text = h.1.1.0; place = p; rest = h.0; is = h.1.1.1; form = let F : Opening → Type 0 = λ o. Form o (prefix op e p) in subst F (sym h.1.2) refl }

pub no_form : (e : Expr) → Form Nothing e → ⊥
no_form (pair op l r p) f = no_form l f
no_form (is e w p) f = no_form e f
no_form (number v u p) f = f
no_form (truth v p) f = f
no_form (reads x) f = f
no_form (calls x es) f = f
no_form (index x e) f = f
no_form (instance w) f = f
no_form (group e p) f = f
no_form (cast ty e p) f = f
no_form (prefix op e p) f = f

-- no expression begins with a symbol that opens nothing
pub unopened : (j : Symbol) → opening_of j ≡ Nothing → (n : ℕ) (e : Expr) (us rest : List Tok) → IsExpr n e us rest → sees j us ≡ false
unopened j o n e us rest h =
    let x = opened n e us rest h in
    let F : Opening → Type 0 = λ y. Form y e in
    let q : same x.symbol j ≡ false = decide (same x.symbol j) (λ t. no_form e (subst F (ap opening_of (same_is x.symbol j t) ∙ o) x.form)) in
    ap (sees j) x.is ∙ q

-- which expressions begin as a cast does not

no_cast_at : (k : Symbol) (w : Text) (p : Place) (us ts : List Tok) → us ≡ tok k w p ∷ ts → (k ≡ s.TypeName → ⊥) → begins_cast us ≡ false
no_cast_at k w p us ts e f = let q : same k s.TypeName ≡ false = decide (same k s.TypeName) (λ t. f (same_is k s.TypeName t)) in rw (e, q) refl

no_cast_path : (own : Option Place) (words : List Word) (us rest : List Tok) → IsPathOf own words us rest → begins_cast us ≡ false
no_cast_path (Some p) ws us rest h = no_cast_at s.Own _ _ us h.0 h.1.1 (λ e. cc)
no_cast_path None [] us rest h = absurd h
no_cast_path None (w ∷ ws) us rest h = no_cast_at s.Name _ _ us h.0 h.1 (λ e. cc)

classes_only : (k : Symbol) (o : Opening) → opening_of k ≡ o → (o ≡ Classes → ⊥) → k ≡ s.TypeName → ⊥
classes_only k o e f q = f (sym e ∙ ap opening_of q)

pub no_cast : (n : ℕ) (e : Expr) (us rest : List Tok) → IsExpr n e us rest → begins_cast us ≡ false
no_cast n (pair op l r p) us rest h = no_cast (level op) l us h.1.0 h.1.1
no_cast n (is e w p) us rest h = no_cast 9 e us h.1.0 h.1.1
no_cast n (number v u p) us rest h = no_cast_at s.Number _ _ us rest h.1 (λ e. cc)
no_cast n (truth v p) us rest h = no_cast_at h.0 _ _ us rest h.1.1 (classes_only h.0 (Says v) h.2 (λ e. cc))
no_cast n (reads x) us rest h = no_cast_path x.own x.words us rest h
no_cast n (calls x es) us rest h = no_cast_path x.own x.words us h.0 h.1
no_cast n (index x e) us rest h = no_cast_path x.own x.words us h.0 h.1
no_cast n (instance w) us rest h =
    let d : sees s.Dot h.0 ≡ true = ap (sees s.Dot) h.2.1.1 ∙ same_self s.Dot in
    rw (h.1, d, same_self s.TypeName) refl
no_cast n (group e p) us rest h = no_cast_at s.OpenParen _ _ us h.0 h.1.1 (λ e. cc)
no_cast n (cast ty e p) us rest h = no_cast_at s.OpenParen _ _ us h.0 h.1.1 (λ e. cc)
no_cast n (prefix op e p) us rest h = no_cast_at h.1.0 _ _ us h.0 h.1.1.1 (classes_only h.1.0 (Signs op) h.1.2 (λ e. cc))

-- a type and `)` begin as a cast does

other_dot : (k : Symbol) (w : Text) (p : Place) (us rest : List Tok) → us ≡ tok k w p ∷ rest → same k s.Dot ≡ false → sees s.Dot us ≡ false
other_dot k w p us rest e d = ap (sees s.Dot) e ∙ d

size_dot : (d : Option Width) (us a rest : List Tok) → IsSize d us a → Takes s.CloseParen a rest → sees s.Dot us ≡ false
unfolding same
size_dot None us a rest h c = ap (sees s.Dot) h ∙ other_dot s.CloseParen _ _ a rest c.1 refl
size_dot (Some d) us a rest h c = other_dot s.OpenParen _ _ us h.0 h.1.1 refl

pub type_casts : (ty : TypeRef) (us a rest : List Tok) → IsType ty us a → Takes s.CloseParen a rest → begins_cast us ≡ true
type_casts ty us a rest h c = let d = size_dot ty.width h.0 a rest h.2 c in rw (h.1, d, same_self s.TypeName) refl

second_first : (us : List Tok) → sees_second s.Dot us ≡ sees s.Dot (tail us)
second_first [] = refl
second_first (t ∷ ts) = refl

-- the first two tokens decide it
pub cast_two : (us vs : List Tok) → first vs ≡ first us → first (tail vs) ≡ first (tail us) → begins_cast vs ≡ begins_cast us
cast_two us vs e f = let a = sees_first s.TypeName vs us e in let b = second_first vs ∙ sees_first s.Dot (tail vs) (tail us) f ∙ sym (second_first us) in rw (a, b) refl
