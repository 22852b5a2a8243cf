-- The rules of declarations, assignments, counts and calls.
use Rattle.std.proofs.Common.{ℕ, ◌+◌, ◌<◌, ◌≡◌, List, [], ◌∷◌, length, Option, Some, None, Bool, true, false, Ok, refl, ap, sym, ◌∙◌, subst, arith}
use Rattle.feast_base.specs.Places.{no_place}
use Rattle.feast_base.specs.declared.place.Place.{Place}
use Rattle.ulam_tree.specs.declared.op.PairOp.{PairOp}
use Rattle.ulam_tree.specs.Raw.{Word, Expr, Left, Statement, declares, assigns, counts}
use Rattle.ulam_parse.specs.declared.symbol.Symbol.{Symbol}
use Rattle.ulam_parse.specs.declared.symbol.Symbol.TheVariants as s
use Rattle.ulam_parse.specs.declared.symbol.Assigning.{Assigning}
use Rattle.ulam_parse.specs.declared.symbol.Assigning.TheVariants.{Assigns, Counts, Nothing}
use Rattle.ulam_parse.specs.Tokens.{Text, Tok, tok}
use Rattle.ulam_parse.specs.Tables.{assigning_of}
use Rattle.ulam_parse.specs.Grammar.{Span, ◌⟫◌, TakesWord, TakesAssign, TakesCount, IsType, IsPath, IsExpr, IsIndex, IsLeftSide, IsMaybe, IsStart, IsDeclare}
use Rattle.ulam_parse.specs.Reading.{same, sees, expr}
use Rattle.ulam_parse.specs.Statements as r
use Rattle.ulam_parse.specs.Sentences.{is_end}
use Rattle.ulam_parse.proofs.Tells.{decide, first, unseen, one_first, Tells, tells_as, tells_behind, Behind}
use Rattle.ulam_parse.proofs.Rules.{Free, Rule, Filled, Then, Map, Back, Seen, Unseen, Always, token, then, map, named, here, choice, map_law, some_word, none_some}
use Rattle.ulam_parse.proofs.TypeRules.{Not, type_rule, path_rule}
use Rattle.ulam_parse.proofs.Opened.{reach, no_opens, unopened}
use Rattle.ulam_parse.proofs.Operands.{bracket_reach}
use Rattle.ulam_parse.proofs.OperandRule.{behind_first}
use Rattle.ulam_parse.proofs.ExprRule.{expr_law}
use Rattle.ulam_parse.proofs.CondRules.{Under, closes, Closed, closed_reach, closed_not, expr_rule}

-- no expression begins with `;` or `)`
pub expr_unseen : (k : Symbol) (e : Expr) (vs end : List Tok) → sees k vs ≡ true → sees k vs ≡ false → ⊥
expr_unseen k e vs end f g = let q : true ≡ false = sym f ∙ g in absurd cc

-- an index

abbrev pub Indexed : Option Expr → Span
Indexed = Then (TakesWord s.OpenBracket) (λ a. Then (IsExpr 1) (λ e. Map (λ (b : Word). Some e) (TakesWord s.CloseBracket)))

abbrev pub index_part : (n : ℕ) → Rule n (Option Expr) Free Free
index_part n = then n (token n s.OpenBracket refl) (λ a. then n (expr_rule n 1 (omega arith)) (λ e. map n (λ b. Some e) (token n s.CloseBracket refl) (λ a end h. tt) (λ a end h. tt)) (λ c b vs end h w. bracket_reach vs end h.0 h.2)) (λ c b vs end h w. tt)

pub index_from : Back (Seen s.OpenBracket) IsIndex Indexed (Not s.OpenBracket) Free
index_from None vs end c h w = let q : true ≡ false = sym c ∙ ap (sees s.OpenBracket) h ∙ w in absurd cc
index_from (Some e) vs end c h w = ((h.1.0, h.0, h.1.1, (e, h.2.0, h.2.1, (h.2.2.0, refl, h.2.2.1))), tt)

pub index_other : Back (Unseen s.OpenBracket) IsIndex (λ b us rest. (b ≡ None) × (us ≡ rest)) (Not s.OpenBracket) Free
index_other None vs end c h w = ((refl, h), tt)
index_other (Some e) vs end c h w = absurd (unseen s.OpenBracket _ _ vs h.0 h.1.1 c)

abbrev pub index_filled : Filled IsIndex
index_filled = record { tree = None; fill = λ other. other; fits = λ other. refl }

pub index_law : (n : ℕ) (us : List Tok) → length us < n → Tells IsIndex (Not s.OpenBracket) Free us (r.index_in us)
unfolding r.index_in
index_law n us h =
    (choice n s.OpenBracket (index_part n) (here n None) IsIndex (λ b vs end h. rw h.3.3.1 (h.1, (h.0, h.2), (h.3.1, h.3.2, (h.3.3.0, h.3.3.2)))) index_from (λ b vs end h. rw h.0 h.1) index_other).law us h

abbrev pub index_rule : (n : ℕ) → Rule n (Option Expr) (Not s.OpenBracket) Free
index_rule n = record { rel = IsIndex; filled = index_filled; read = r.index_in; law = index_law n }

pub index_dot : (i : Option Expr) (us rest : List Tok) → IsIndex i us rest → reach rest < 12 → sees s.Dot us ≡ false
unfolding same
index_dot None us rest h w = ap (sees s.Dot) h ∙ no_opens s.Dot refl rest (omega (arith, w))
index_dot (Some e) us rest h w = ap (sees s.Dot) h.1.1

-- what is assigned to

abbrev pub Lefts : Left → Span
Lefts = Then IsPath (λ x. Map (λ (i : Option Expr). record { path = x; index = i }) IsIndex)

abbrev pub left_made : (n : ℕ) → Rule n Left (Under 12) Free
left_made n = named n
    (then n (path_rule n) (λ x. map n (λ i. record { path = x; index = i }) (index_rule n) (λ a end h. no_opens s.OpenBracket refl end (omega (arith, h))) (λ a end h. tt)) (λ c b vs end h w. index_dot h.0 vs end h.2 w)) IsLeftSide
    (λ b vs end h. rw h.3.1 (h.1, h.2, h.3.2)) (λ b vs end c h w. ((b.path, h.0, h.1, (b.index, refl, h.2)), w))

pub left_law : (n : ℕ) (us : List Tok) → length us < n → Tells IsLeftSide (Under 12) Free us (r.left_side us)
unfolding r.left_side
left_law n us h = (left_made n).law us h

abbrev pub left_rule : (n : ℕ) → Rule n Left (Under 12) Free
left_rule n = record { rel = IsLeftSide; filled = (left_made n).filled; read = r.left_side; law = left_law n }

-- what is optional

-- `;` follows
abbrev pub Ended : {A : Type 0} → A → List Tok → Type 0
Ended a us = sees s.Semi us ≡ true

pub ended_closes : (us : List Tok) → sees s.Semi us ≡ true → closes us ≡ true
ended_closes us h = rw h refl

pub maybe_from : Back (Seen s.Semi) IsMaybe (λ b us rest. (b ≡ None) × (us ≡ rest)) Ended Free
maybe_from None vs end c h w = ((refl, h), tt)
maybe_from (Some e) vs end c h w = let q : true ≡ false = sym c ∙ unopened s.Semi refl 1 e vs end h in absurd cc

pub maybe_other : Back (Unseen s.Semi) IsMaybe (Map Some (IsExpr 1)) Ended (Under 1)
maybe_other None vs end c h w = let q : true ≡ false = sym w ∙ sym (ap (sees s.Semi) h) ∙ c in absurd cc
maybe_other (Some e) vs end c h w = ((e, refl, h), closed_reach end (ended_closes end w))

abbrev pub maybe_filled : Filled IsMaybe
maybe_filled = record { tree = None; fill = λ other. other; fits = λ other. refl }

pub maybe_law : (n : ℕ) (us : List Tok) → length us < n → Tells IsMaybe Ended Free us (r.maybe us)
unfolding r.maybe
maybe_law n us h =
    (choice n s.Semi (here n None) (map n Some (expr_rule n 1 (omega arith)) (λ a end h. h) (λ a end h. tt)) IsMaybe (λ b vs end h. rw h.0 h.1) maybe_from (λ b vs end h. rw h.1 h.2) maybe_other).law us h

abbrev pub maybe_rule : (n : ℕ) → Rule n (Option Expr) Ended Free
maybe_rule n = record { rel = IsMaybe; filled = maybe_filled; read = r.maybe; law = maybe_law n }

pub start_from : Back (Seen s.Set) IsStart (Then (TakesWord s.Set) (λ a. Map Some (IsExpr 1))) Closed (Under 1)
unfolding same
start_from None vs end c h w = let q : true ≡ false = sym c ∙ ap (sees s.Set) h ∙ closed_not s.Set refl refl end w in absurd cc
start_from (Some e) vs end c h w = ((h.1.0, h.0, h.1.1, (e, refl, h.2)), closed_reach end w)

pub start_other : Back (Unseen s.Set) IsStart (λ b us rest. (b ≡ None) × (us ≡ rest)) Closed Free
start_other None vs end c h w = ((refl, h), tt)
start_other (Some e) vs end c h w = absurd (unseen s.Set _ _ vs h.0 h.1.1 c)

abbrev pub start_filled : Filled IsStart
start_filled = record { tree = None; fill = λ other. other; fits = λ other. refl }

pub start_law : (n : ℕ) (us : List Tok) → length us < n → Tells IsStart Closed Free us (r.start us)
unfolding r.start
start_law n us h =
    (choice n s.Set (then n (token n s.Set refl) (λ a. map n Some (expr_rule n 1 (omega arith)) (λ a end h. h) (λ a end h. tt)) (λ c b vs end h w. tt)) (here n None) IsStart
    (λ b vs end h. rw h.3.1 (h.1, (h.0, h.2), h.3.2)) start_from (λ b vs end h. rw h.0 h.1) start_other).law us h

abbrev pub start_rule : (n : ℕ) → Rule n (Option Expr) Closed Free
start_rule n = record { rel = IsStart; filled = start_filled; read = r.start; law = start_law n }

-- declarations

abbrev pub Declares : Statement → Span
Declares = Then IsType (λ ty. Then (TakesWord s.Name) (λ w. Map (declares ty w) IsStart))

pub name_open : (us rest : List Tok) (w : Word) → TakesWord s.Name w us rest → sees s.OpenParen us ≡ false
unfolding same
name_open us rest w h = ap (sees s.OpenParen) h

pub declare_back : Back Always IsDeclare Declares Closed Closed
declare_back (declares ty x e) vs end c h w = ((ty, h.0, h.1, (x, h.2.0, h.2.1, (e, refl, h.2.2))), w)
declare_back _ vs end c h w = absurd h

abbrev pub declare_made : (n : ℕ) → Rule n Statement Closed Free
declare_made n = named n
    (then n (type_rule n) (λ ty. then n (token n s.Name refl) (λ w. map n (declares ty w) (start_rule n) (λ a end h. h) (λ a end h. tt)) (λ c b vs end h w. tt)) (λ c b vs end h w. name_open vs h.1 h.0 h.2)) IsDeclare
    (λ b vs end h. rw h.3.3.1 (h.1, h.2, (h.3.1, h.3.2, h.3.3.2))) declare_back

pub declare_law : (n : ℕ) (us : List Tok) → length us < n → Tells IsDeclare Closed Free us (r.declare us)
unfolding r.declare
declare_law n us h = (declare_made n).law us h

abbrev pub declare_rule : (n : ℕ) → Rule n Statement Closed Free
declare_rule n = record { rel = IsDeclare; filled = (declare_made n).filled; read = r.declare; law = declare_law n }

-- what is done to a place

abbrev pub IsAssign : Left → Statement → Span
IsAssign l (assigns x op e) = λ us rest. (x ≡ l) × (TakesAssign op ⟫ IsExpr 1 e) us rest
IsAssign l (counts x up) = λ us rest. (x ≡ l) × TakesCount up us rest
IsAssign l _ = λ us rest. ⊥

-- which statements a symbol makes of a place
abbrev Makes : Assigning → Statement → Type 0
Makes (Assigns op) (assigns x op2 e) = op2 ≡ op
Makes (Counts up) (counts x up2) = up2 ≡ up
Makes _ _ = ⊥

assign_first : (l : Left) (k : Symbol) (w : Text) (p : Place) (b : Statement) (vs end : List Tok) → first vs ≡ Some (tok k w p) → IsAssign l b vs end → Makes (assigning_of k) b
assign_first l k w p (assigns x op e) vs end f h =
    let F : Assigning → Type 0 = λ y. Makes y (assigns x op e) in
    subst F (sym h.1.1.2 ∙ ap assigning_of (one_first k h.1.1.0 _ w _ p vs h.1.0 h.1.1.1.1 f)) refl
assign_first l k w p (counts x up) vs end f h =
    let F : Assigning → Type 0 = λ y. Makes y (counts x up) in
    subst F (sym h.1.2 ∙ ap assigning_of (one_first k h.1.0 _ w _ p vs end h.1.1.1 f)) refl
assign_first l k w p _ vs end f h = absurd h

end_assigns : (k : Symbol) → is_end k ≡ true → assigning_of k ≡ Nothing
end_assigns s.End e = refl
end_assigns _ e = absurd cc

assigns_end : (k : Symbol) (v : Assigning) → assigning_of k ≡ v → (v ≡ Nothing → ⊥) → is_end k ≡ false
assigns_end k v e f = decide (is_end k) (λ t. f (sym e ∙ end_assigns k t))

abbrev pub assign_filled : (l : Left) → Filled (IsAssign l)
assign_filled l = record { tree = counts l true; fill = λ other. tok s.PlusPlus [] no_place ∷ other; fits = λ other. (refl, (s.PlusPlus, (some_word, refl), refl)) }

assigns_back : (l : Left) (op : Option PairOp) (k : Symbol) (w : Text) (p : Place) (b : Statement) (vs end : List Tok) → Makes (Assigns op) b → first vs ≡ Some (tok k w p) → IsAssign l b vs end →
    Behind (tok k w p) (Map (assigns l op) (IsExpr 1)) b vs end
assigns_back l op k w p (assigns x op2 e) vs end m f h =
    (h.1.0, behind_first vs h.1.0 (tok k w p) _ h.1.1.1.1 f, (e, ap (λ y. assigns y op2 e) h.0 ∙ ap (λ y. assigns l y e) m, h.1.2))
assigns_back l op k w p _ vs end m f h = absurd m

counts_back : (l : Left) (up : Bool) (k : Symbol) (w : Text) (p : Place) (b : Statement) (vs end : List Tok) → Makes (Counts up) b → first vs ≡ Some (tok k w p) → IsAssign l b vs end →
    Behind (tok k w p) (λ c us rest. (c ≡ counts l up) × (us ≡ rest)) b vs end
counts_back l up k w p (counts x up2) vs end m f h =
    (end, behind_first vs end (tok k w p) _ h.1.1.1 f, (ap (λ y. counts y up2) h.0 ∙ ap (counts l) m, refl))
counts_back l up k w p _ vs end m f h = absurd m

no_makes : (b : Statement) → Makes Nothing b → ⊥
no_makes b m = m

assign_by_law : (l : Left) (v : Assigning) (j : Symbol) (w : Text) (p : Place) (ts : List Tok) → assigning_of j ≡ v → Tells (IsAssign l) Closed Free (tok j w p ∷ ts) (r.assign_by l v (tok j w p) ts)
assign_by_law l (Assigns op) j w p ts e =
    tells_as (Behind (tok j w p) (Map (assigns l op) (IsExpr 1))) (IsAssign l) (Under 1) Closed Free Free (tok j w p ∷ ts) _
    (tells_behind (Map (assigns l op) (IsExpr 1)) (Under 1) Free j w p ts _ (assigns_end j (Assigns op) e (λ q. cc))
    (map_law (assigns l op) (IsExpr 1) (Under 1) Free (Under 1) Free ts (expr 1 ts) (λ a end h. h) (λ a end h. tt) (expr_law 1 (omega arith) ts)))
    (λ b vs end h. rw h.2.1 (refl, (h.0, (j, (record { name = w; place = p }, h.1), e), h.2.2)))
    (λ b vs end g h u. (assigns_back l op j w p b vs end (let F : Assigning → Type 0 = λ y. Makes y b in subst F e (assign_first l j w p b vs end g h)) g h, closed_reach end u)) (λ a rest g. g)
assign_by_law l (Counts up) j w p ts e =
    tells_as (Behind (tok j w p) (λ c us rest. (c ≡ counts l up) × (us ≡ rest))) (IsAssign l) Closed Closed Free Free (tok j w p ∷ ts) (Ok (counts l up, ts))
    (tells_behind (λ c us rest. (c ≡ counts l up) × (us ≡ rest)) Closed Free j w p ts (Ok (counts l up, ts)) (assigns_end j (Counts up) e (λ q. cc)) ((here {S = Closed} (length ts + 1) (counts l up)).law ts (omega arith)))
    (λ b vs end h. rw h.2.0 (refl, (j, (record { name = w; place = p }, h.1 ∙ ap (λ x. tok j w p ∷ x) h.2.1), e)))
    (λ b vs end g h u. (counts_back l up j w p b vs end (let F : Assigning → Type 0 = λ y. Makes y b in subst F e (assign_first l j w p b vs end g h)) g h, u)) (λ a rest g. g)
assign_by_law l Nothing j w p ts e = record {
  front = [];
  left = tok j w p ∷ ts;
  is = refl;
  long = refl;
  no_end = refl;
  tree = (assign_filled l).tree;
  fill = (assign_filled l).fill;
  goes = (assign_filled l).fits;
  none = λ other b end g h u. no_makes b (let F : Assigning → Type 0 = λ y. Makes y b in subst F e (assign_first l j w p b other end g h));
}

empty_assign : (l : Left) (b : Statement) (us rest : List Tok) → first us ≡ None → IsAssign l b us rest → ⊥
empty_assign l (assigns x op e) us rest f h = none_some us h.1.0 _ f h.1.1.1.1
empty_assign l (counts x up) us rest f h = none_some us rest _ f h.1.1.1
empty_assign l _ us rest f h = absurd h

pub assign_law : (l : Left) (us : List Tok) → Tells (IsAssign l) Closed Free us (r.assign l us)
unfolding r.assign
assign_law l [] = record {
  front = [];
  left = [];
  is = refl;
  long = refl;
  no_end = refl;
  tree = (assign_filled l).tree;
  fill = (assign_filled l).fill;
  goes = (assign_filled l).fits;
  none = λ other b end g h u. empty_assign l b other end g h;
}
assign_law l (tok j w p ∷ ts) = assign_by_law l (assigning_of j) j w p ts refl

abbrev pub assign_rule : (n : ℕ) (l : Left) → Rule n Statement Closed Free
assign_rule n l = record { rel = IsAssign l; filled = assign_filled l; read = r.assign l; law = λ us h. assign_law l us }
