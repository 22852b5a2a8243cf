-- The rules of what comes before `;`, and of the heads of `if`, `while` and `for`.
use Rattle.std.proofs.Common.{ℕ, ◌<◌, ◌≡◌, ◌⊎◌, inl, inr, List, [], ◌∷◌, length, Option, Some, None, Bool, true, false, refl, ap, sym, ◌∙◌, subst, arith}
use Rattle.std.proofs.Math.Bool.{or-true}
use Rattle.feast_base.specs.Places.{no_place}
use Rattle.feast_base.specs.declared.place.Place.{Place}
use Rattle.ulam_tree.specs.Raw.{Word, Path, Expr, reads, Cond, Left, Statement, declares, assigns, counts, does, Part, no_part, part}
use Rattle.ulam_parse.specs.declared.symbol.Symbol.{Symbol}
use Rattle.ulam_parse.specs.declared.symbol.Symbol.TheVariants as s
use Rattle.ulam_parse.specs.declared.symbol.Opening.TheVariants as o
use Rattle.ulam_parse.specs.declared.symbol.Assigning.{Assigning}
use Rattle.ulam_parse.specs.declared.symbol.Assigning.TheVariants.{Assigns, Counts, Nothing}
use Rattle.ulam_parse.specs.Tokens.{Tok, tok}
use Rattle.ulam_parse.specs.Tables.{opening_of, assigning_of}
use Rattle.ulam_parse.specs.Grammar.{Span, ◌⟫◌, Takes, TakesWord, TakesAssign, TakesCount, IsPathOf, IsPath, IsExpr, AreArgs, IsIndex, IsLeftSide, IsSimple, IsDeclare, IsFirst, IsStep}
use Rattle.ulam_parse.specs.Reading.{same, sees}
use Rattle.ulam_parse.specs.Statements as r
use Rattle.ulam_parse.specs.Statements.{ForHead}
use Rattle.ulam_parse.specs.Sentences.{is_end}
use Rattle.ulam_parse.proofs.Tells.{decide, same_self, same_is, is_seen, unseen, Tells}
use Rattle.ulam_parse.proofs.Rules.{Free, Rule, Filled, Then, Map, Into, Back, Seen, Unseen, token, then, map, here, choice, some_word}
use Rattle.ulam_parse.proofs.TypeRules.{path_rule}
use Rattle.ulam_parse.proofs.Opened.{reach, unopened}
use Rattle.ulam_parse.proofs.Operands.{paren_reach}
use Rattle.ulam_parse.proofs.CondRules.{Under, closes, Closed, closed_reach, paren_closes, expr_rule, args_rule, cond_rule}
use Rattle.ulam_parse.proofs.SimpleRules.{index_rule, left_rule, Ended, ended_closes, maybe_rule, declare_rule, IsAssign, assign_rule}

-- a call, or what is done to a place, after its names

abbrev pub IsDone : Path → Statement → Span
IsDone x (does y es) = λ us rest. (y ≡ x) × (Takes s.OpenParen ⟫ AreArgs es) us rest
IsDone x (assigns l op e) = λ us rest. (l.path ≡ x) × (IsIndex l.index ⟫ TakesAssign op ⟫ IsExpr 1 e) us rest
IsDone x (counts l up) = λ us rest. (l.path ≡ x) × (IsIndex l.index ⟫ TakesCount up) us rest
IsDone x _ = λ us rest. ⊥

abbrev pub Does : Path → Statement → Span
Does x = Then (TakesWord s.OpenParen) (λ a. Map (does x) AreArgs)

abbrev pub DoesTo : Path → Statement → Span
DoesTo x = Then IsIndex (λ i. IsAssign (record { path = x; index = i }))

-- no assigning sign is a bracket
assign_unseen : (k j : Symbol) (op : Option _) → assigning_of j ≡ Nothing → assigning_of k ≡ Assigns op → same k j ≡ false
assign_unseen k j op e f = decide (same k j) (λ t. let q : Nothing ≡ Assigns op = sym e ∙ sym (ap assigning_of (same_is k j t)) ∙ f in cc)

count_unseen : (k j : Symbol) (up : Bool) → assigning_of j ≡ Nothing → assigning_of k ≡ Counts up → same k j ≡ false
count_unseen k j up e f = decide (same k j) (λ t. let q : Nothing ≡ Counts up = sym e ∙ sym (ap assigning_of (same_is k j t)) ∙ f in cc)

pub assign_no : (j : Symbol) → assigning_of j ≡ Nothing → (l : Left) (b : Statement) (us rest : List Tok) → IsAssign l b us rest → sees j us ≡ false
assign_no j e l (assigns x op d) us rest h = ap (sees j) h.1.1.1.1 ∙ assign_unseen h.1.1.0 j op e h.1.1.2
assign_no j e l (counts x up) us rest h = ap (sees j) h.1.1.1 ∙ count_unseen h.1.0 j up e h.1.2
assign_no j e l _ us rest h = absurd h

index_no : (i : Option Expr) (j : Symbol) (us rest : List Tok) → same s.OpenBracket j ≡ false → IsIndex i us rest → sees j rest ≡ false → sees j us ≡ false
index_no None j us rest e h w = ap (sees j) h ∙ w
index_no (Some x) j us rest e h w = ap (sees j) h.1.1 ∙ e

pub done_no : (j : Symbol) → assigning_of j ≡ Nothing → same s.OpenBracket j ≡ false → same s.OpenParen j ≡ false → (x : Path) (b : Statement) (us rest : List Tok) → IsDone x b us rest → sees j us ≡ false
done_no j e f g x (does y es) us rest h = ap (sees j) h.1.1.1 ∙ g
done_no j e f g x (assigns l op d) us rest h = index_no l.index j us h.1.0 f h.1.1 (ap (sees j) h.1.2.1.1.1 ∙ assign_unseen h.1.2.1.0 j op e h.1.2.1.2)
done_no j e f g x (counts l up) us rest h = index_no l.index j us h.1.0 f h.1.1 (ap (sees j) h.1.2.1.1 ∙ count_unseen h.1.2.0 j up e h.1.2.2)
done_no j e f g x _ us rest h = absurd h

pub done_dot : (x : Path) (b : Statement) (us rest : List Tok) → IsDone x b us rest → sees s.Dot us ≡ false
unfolding same
done_dot x b us rest h = done_no s.Dot refl refl refl x b us rest h

done_from : (x : Path) → Back (Seen s.OpenParen) (IsDone x) (Does x) Closed Free
unfolding same
done_from x (does y es) vs end c h w = ((h.1.1.0, h.1.0, h.1.1.1, (es, ap (λ z. does z es) h.0, h.1.2)), tt)
done_from x (assigns l op e) vs end c h w =
    let q : true ≡ false = sym c ∙ index_no l.index s.OpenParen vs h.1.0 refl h.1.1 (ap (sees s.OpenParen) h.1.2.1.1.1 ∙ assign_unseen h.1.2.1.0 s.OpenParen op refl h.1.2.1.2) in absurd cc
done_from x (counts l up) vs end c h w =
    let q : true ≡ false = sym c ∙ index_no l.index s.OpenParen vs h.1.0 refl h.1.1 (ap (sees s.OpenParen) h.1.2.1.1 ∙ count_unseen h.1.2.0 s.OpenParen up refl h.1.2.2) in absurd cc
done_from x _ vs end c h w = absurd h

done_other : (x : Path) → Back (Unseen s.OpenParen) (IsDone x) (DoesTo x) Closed Closed
done_other x (does y es) vs end c h w = absurd (unseen s.OpenParen _ _ vs h.1.0 h.1.1.1 c)
done_other x (assigns l op e) vs end c h w = ((l.index, h.1.0, h.1.1, (ap (λ z. record { path = z; index = l.index }) h.0, h.1.2)), w)
done_other x (counts l up) vs end c h w = ((l.index, h.1.0, h.1.1, (ap (λ z. record { path = z; index = l.index }) h.0, h.1.2)), w)
done_other x _ vs end c h w = absurd h

does_to_into : (x : Path) → Into (DoesTo x) (IsDone x)
does_to_into x (assigns l op e) vs end h =
    let F : Option Expr → Type 0 = λ z. IsIndex z vs h.1 in
    let q : l.index ≡ h.0 = ap (λ (z : Left). z.index) h.3.0 in
    (ap (λ (z : Left). z.path) h.3.0, (h.1, subst F (sym q) h.2, h.3.1))
does_to_into x (counts l up) vs end h =
    let F : Option Expr → Type 0 = λ z. IsIndex z vs h.1 in
    let q : l.index ≡ h.0 = ap (λ (z : Left). z.index) h.3.0 in
    (ap (λ (z : Left). z.path) h.3.0, (h.1, subst F (sym q) h.2, h.3.1))
does_to_into x _ vs end h = absurd h.3

abbrev pub done_filled : (x : Path) → Filled (IsDone x)
done_filled x = record { tree = counts (record { path = x; index = None }) true; fill = λ other. tok s.PlusPlus [] no_place ∷ other; fits = λ other. (refl, (_, refl, (s.PlusPlus, (some_word, refl), refl))) }

pub done_law : (n : ℕ) (x : Path) (us : List Tok) → length us < n → Tells (IsDone x) Closed Free us (r.after_names x us)
unfolding r.after_names
done_law n x us h =
    (choice n s.OpenParen (then n (token n s.OpenParen refl) (λ a. map n (does x) (args_rule n) (λ a end h. tt) (λ a end h. tt)) (λ c b vs end h w. tt))
    (then n (index_rule n) (λ i. assign_rule n (record { path = x; index = i })) (λ i b vs end h w. assign_no s.OpenBracket refl (record { path = x; index = i }) b vs end h)) (IsDone x)
    (λ b vs end h. rw h.3.1 (refl, (h.1, (h.0, h.2), h.3.2))) (done_from x) (does_to_into x) (done_other x)).law us h

abbrev pub done_rule : (n : ℕ) (x : Path) → Rule n Statement Closed Free
done_rule n x = record { rel = IsDone x; filled = done_filled x; read = r.after_names x; law = done_law n x }

-- an assignment, a count or a call

abbrev pub Counted : Symbol → Bool → Statement → Span
Counted k up = Then (TakesWord k) (λ a. Map (λ (l : Left). counts l up) IsLeftSide)

abbrev pub counted_made : (n : ℕ) (k : Symbol) (up : Bool) → is_end k ≡ false → Rule n Statement (Under 12) Free
counted_made n k up e = then n (token n k e) (λ a. map n (λ l. counts l up) (left_rule n) (λ a end h. h) (λ a end h. tt)) (λ c b vs end h w. tt)

pub counted_law : (n : ℕ) (k : Symbol) (up : Bool) (e : is_end k ≡ false) (us : List Tok) → length us < n → Tells (Counted k up) (Under 12) Free us (r.count_statement k up us)
unfolding r.count_statement
counted_law n k up e us h = (counted_made n k up e).law us h

abbrev pub counted_rule : (n : ℕ) (k : Symbol) (up : Bool) → is_end k ≡ false → Rule n Statement (Under 12) Free
counted_rule n k up e = record { rel = Counted k up; filled = (counted_made n k up e).filled; read = r.count_statement k up; law = counted_law n k up e }

counted_into : (k : Symbol) (up : Bool) → assigning_of k ≡ Counts up → Into (Counted k up) IsSimple
counted_into k up e b vs end h = rw h.3.1 (inr (h.1, (k, (h.0, h.2), e), h.3.2))

-- a path begins with no symbol that opens nothing
path_unseen : (j : Symbol) → opening_of j ≡ o.Nothing → (x : Path) (us rest : List Tok) → IsPath x us rest → sees j us ≡ false
path_unseen j e x us rest h = unopened j e 12 (reads x) us rest h

closed_12 : (us : List Tok) → closes us ≡ true → reach us < 12
closed_12 us h = omega (arith, closed_reach us h)

up_in : Bool → Assigning → Bool
up_in d (Counts up) = up
up_in d _ = d

simple_from : (k : Symbol) (up : Bool) → assigning_of k ≡ Counts up → opening_of k ≡ o.Nothing → Back (Seen k) IsSimple (Counted k up) Closed (Under 12)
unfolding up_in
simple_from k up e f (assigns l op d) vs end c h w = let q : true ≡ false = sym c ∙ path_unseen k f l.path vs h.1.0 h.1.1 in absurd cc
simple_from k up e f (counts l v) vs end c (inl h) w = let q : true ≡ false = sym c ∙ path_unseen k f l.path vs h.1.0 h.1.1 in absurd cc
simple_from k up e f (counts l v) vs end c (inr h) w =
    let q = is_seen k h.1.0 _ _ vs h.0 h.1.1.1 c in
    let u : v ≡ up = ap (up_in v) (sym h.1.2 ∙ ap assigning_of q ∙ e) in
    ((h.1.1.0, h.0, h.1.1.1 ∙ ap (λ x. tok x h.1.1.0.name h.1.1.0.place ∷ h.0) q, (l, ap (λ x. counts l x) u, h.2)), closed_12 end w)
simple_from k up e f (does x es) vs end c h w = let q : true ≡ false = sym c ∙ path_unseen k f x vs h.0 h.1 in absurd cc
simple_from k up e f _ vs end c h w = absurd h

path_type : (own : Option Place) (ws : List Word) (us rest : List Tok) → IsPathOf own ws us rest → sees s.TypeName us ≡ false
unfolding same
path_type (Some p) ws us rest h = ap (sees s.TypeName) h.1.1
path_type None [] us rest h = absurd h
path_type None (w ∷ ws) us rest h = ap (sees s.TypeName) h.1

-- symbols that begin no assignment, count or call
pub simple_no : (j : Symbol) → assigning_of j ≡ Nothing → ((x : Path) (us rest : List Tok) → IsPath x us rest → sees j us ≡ false) → (b : Statement) (us rest : List Tok) → IsSimple b us rest → sees j us ≡ false
simple_no j e f (assigns l op d) us rest h = f l.path us h.1.0 h.1.1
simple_no j e f (counts l up) us rest (inl h) = f l.path us h.1.0 h.1.1
simple_no j e f (counts l up) us rest (inr h) = ap (sees j) h.1.1.1 ∙ count_unseen h.1.0 j up e h.1.2
simple_no j e f (does x es) us rest h = f x us h.0 h.1
simple_no j e f _ us rest h = absurd h

abbrev pub DoneNames : Statement → Span
DoneNames = Then IsPath IsDone

names_into : Into DoneNames IsSimple
names_into (assigns l op e) vs end h = let F : Path → Type 0 = λ x. IsPath x vs h.1 in (h.3.1.0, (h.1, subst F (sym h.3.0) h.2, h.3.1.1), h.3.1.2)
names_into (counts l up) vs end h = let F : Path → Type 0 = λ x. IsPath x vs h.1 in inl (h.3.1.0, (h.1, subst F (sym h.3.0) h.2, h.3.1.1), h.3.1.2)
names_into (does y es) vs end h = let F : Path → Type 0 = λ x. IsPath x vs h.1 in (h.1, subst F (sym h.3.0) h.2, h.3.1)
names_into _ vs end h = absurd h.3

count_signs : (k : Symbol) (v : Bool) → assigning_of k ≡ Counts v → (k ≡ s.PlusPlus) ⊎ (k ≡ s.MinusMinus)
count_signs s.PlusPlus v e = inl refl
count_signs s.MinusMinus v e = inr refl
count_signs _ v e = absurd cc

names_back : (b : Statement) (vs end : List Tok) → sees s.PlusPlus vs ≡ false → sees s.MinusMinus vs ≡ false → IsSimple b vs end → DoneNames b vs end
names_back (assigns l op e) vs end f g h = (l.path, h.1.0, h.1.1, (refl, (h.0, h.1.2, h.2)))
names_back (counts l v) vs end f g (inl h) = (l.path, h.1.0, h.1.1, (refl, (h.0, h.1.2, h.2)))
names_back (counts l v) vs end f g (inr h) = elim (count_signs h.1.0 v h.1.2) as (λ x. DoneNames (counts l v) vs end) [
  | inl e ↦ absurd (unseen s.PlusPlus _ _ vs h.0 (h.1.1.1 ∙ ap (λ x. tok x h.1.1.0.name h.1.1.0.place ∷ h.0) e) f)
  | inr e ↦ absurd (unseen s.MinusMinus _ _ vs h.0 (h.1.1.1 ∙ ap (λ x. tok x h.1.1.0.name h.1.1.0.place ∷ h.0) e) g)
]
names_back (does y es) vs end f g h = (y, h.0, h.1, (refl, h.2))
names_back _ vs end f g h = absurd h

-- one that begins with no `++`
abbrev Uncounted : Statement → Span
Uncounted b us rest = IsSimple b us rest × (sees s.PlusPlus us ≡ false)

minus_into : Into (Counted s.MinusMinus false) Uncounted
unfolding same
minus_into b vs end h = (counted_into s.MinusMinus false refl b vs end h, ap (sees s.PlusPlus) h.2)

abbrev pub names_made : (n : ℕ) → Rule n Statement Closed Free
names_made n = then n (path_rule n) (λ x. done_rule n x) (λ x b vs end h w. done_dot x b vs end h)

pub simple_law : (n : ℕ) (us : List Tok) → length us < n → Tells IsSimple Closed Free us (r.simple us)
unfolding r.simple
simple_law n us h =
    (choice n s.PlusPlus (counted_rule n s.PlusPlus true refl)
    (choice n s.MinusMinus (counted_rule n s.MinusMinus false refl) (names_made n) Uncounted
    minus_into (λ b vs end c q w. simple_from s.MinusMinus false refl refl b vs end c q.0 w)
    (λ b vs end q. (names_into b vs end q, path_unseen s.PlusPlus refl q.0 vs q.1 q.2)) (λ b vs end c q w. (names_back b vs end q.1 c q.0, w)))
    IsSimple (counted_into s.PlusPlus true refl) (simple_from s.PlusPlus true refl refl) (λ b vs end q. q.0) (λ b vs end c q w. ((q, c), w))).law us h

abbrev pub simple_filled : Filled IsSimple
simple_filled = record {
  tree = counts (record { path = record { own = Some no_place; words = [] }; index = None }) true;
  fill = λ other. tok s.PlusPlus [] no_place ∷ tok s.Own [] no_place ∷ other;
  fits = λ other. inr (_, (s.PlusPlus, (some_word, refl), refl), (_, (_, ([], refl), refl), refl));
}

abbrev pub simple_rule : (n : ℕ) → Rule n Statement Closed Free
simple_rule n = record { rel = IsSimple; filled = simple_filled; read = r.simple; law = simple_law n }

-- the parts of a `for`

declare_no : (j : Symbol) → same s.TypeName j ≡ false → (b : Statement) (us rest : List Tok) → IsDeclare b us rest → sees j us ≡ false
declare_no j e (declares ty x d) us rest h = ap (sees j) h.1.1 ∙ e
declare_no j e _ us rest h = absurd h

declare_type : (b : Statement) (us rest : List Tok) → IsDeclare b us rest → sees s.TypeName us ≡ false → ⊥
declare_type (declares ty x d) us rest h f = unseen s.TypeName _ _ us h.1.0 h.1.1 f
declare_type _ us rest h f = h

first_from : Back (Seen s.Semi) IsFirst (λ b us rest. (b ≡ no_part) × (us ≡ rest)) Ended Free
unfolding same
first_from no_part vs end c h w = ((refl, h), tt)
first_from (part x) vs end c (inl h) w = let q : true ≡ false = sym c ∙ declare_no s.Semi refl x vs end h in absurd cc
first_from (part x) vs end c (inr h) w = let q : true ≡ false = sym c ∙ simple_no s.Semi refl (path_unseen s.Semi refl) x vs end h in absurd cc

-- one that is there
abbrev IsThere : (Part → Span) → Part → Span
IsThere P b us rest = P b us rest × (sees s.Semi us ≡ false)

type_from : Back (Seen s.TypeName) (IsThere IsFirst) (Map part IsDeclare) Ended Closed
type_from no_part vs end c h w = let q : true ≡ false = sym w ∙ sym (ap (sees s.Semi) h.0) ∙ h.1 in absurd cc
type_from (part x) vs end c (inl h, f) w = ((x, refl, h), ended_closes end w)
type_from (part x) vs end c (inr h, f) w = let q : true ≡ false = sym c ∙ simple_no s.TypeName refl (λ y us rest k. path_type y.own y.words us rest k) x vs end h in absurd cc

type_other : Back (Unseen s.TypeName) (IsThere IsFirst) (Map part IsSimple) Ended Closed
type_other no_part vs end c h w = let q : true ≡ false = sym w ∙ sym (ap (sees s.Semi) h.0) ∙ h.1 in absurd cc
type_other (part x) vs end c (inl h, f) w = absurd (declare_type x vs end h c)
type_other (part x) vs end c (inr h, f) w = ((x, refl, h), ended_closes end w)

first_declare : Into (Map part IsDeclare) (IsThere IsFirst)
unfolding same
first_declare b vs end h = (rw h.1 (inl h.2), declare_no s.Semi refl h.0 vs end h.2)

first_simple : Into (Map part IsSimple) (IsThere IsFirst)
first_simple b vs end h = (rw h.1 (inr h.2), simple_no s.Semi refl (path_unseen s.Semi refl) h.0 vs end h.2)

pub first_law : (n : ℕ) (us : List Tok) → length us < n → Tells IsFirst Ended Free us (r.first_part us)
unfolding r.first_part
first_law n us h =
    (choice n s.Semi (here n no_part)
    (choice n s.TypeName (map n part (declare_rule n) (λ a end h. h) (λ a end h. tt)) (map n part (simple_rule n) (λ a end h. h) (λ a end h. tt)) (IsThere IsFirst) first_declare type_from first_simple type_other)
    IsFirst (λ b vs end q. rw q.0 q.1) first_from (λ b vs end q. q.0) (λ b vs end c q w. ((q, c), w))).law us h

abbrev pub first_rule : (n : ℕ) → Rule n Part Ended Free
first_rule n = record { rel = IsFirst; filled = record { tree = no_part; fill = λ other. other; fits = λ other. refl }; read = r.first_part; law = first_law n }

-- `)` follows
abbrev pub Bracketed : {A : Type 0} → A → List Tok → Type 0
Bracketed a us = sees s.CloseParen us ≡ true

bracketed_closes : (us : List Tok) → sees s.CloseParen us ≡ true → closes us ≡ true
bracketed_closes us h = rw h (or-true (sees s.Semi us))

step_from : Back (Seen s.CloseParen) IsStep (λ b us rest. (b ≡ no_part) × (us ≡ rest)) Bracketed Free
step_from no_part vs end c h w = ((refl, h), tt)
step_from (part x) vs end c h w = let q : true ≡ false = sym c ∙ simple_no s.CloseParen refl (path_unseen s.CloseParen refl) x vs end h in absurd cc

step_other : Back (Unseen s.CloseParen) IsStep (Map part IsSimple) Bracketed Closed
step_other no_part vs end c h w = let q : true ≡ false = sym w ∙ sym (ap (sees s.CloseParen) h) ∙ c in absurd cc
step_other (part x) vs end c h w = ((x, refl, h), bracketed_closes end w)

pub step_law : (n : ℕ) (us : List Tok) → length us < n → Tells IsStep Bracketed Free us (r.step_part us)
unfolding r.step_part
step_law n us h =
    (choice n s.CloseParen (here n no_part) (map n part (simple_rule n) (λ a end h. h) (λ a end h. tt)) IsStep (λ b vs end q. rw q.0 q.1) step_from (λ b vs end q. rw q.1 q.2) step_other).law us h

abbrev pub step_rule : (n : ℕ) → Rule n Part Bracketed Free
step_rule n = record { rel = IsStep; filled = record { tree = no_part; fill = λ other. other; fits = λ other. refl }; read = r.step_part; law = step_law n }

pub seen_word : (k : Symbol) (us rest : List Tok) (w : Word) → TakesWord k w us rest → sees k us ≡ true
seen_word k us rest w h = ap (sees k) h ∙ same_self k

-- the heads

abbrev pub for_head_made : (n : ℕ) → Rule n ForHead Free Free
for_head_made n =
    then n (token n s.OpenParen refl) (λ a.
    then n (first_rule n) (λ f.
    then n (token n s.Semi refl) (λ b.
    then n (maybe_rule n) (λ e.
    then n (token n s.Semi refl) (λ c.
    then n (step_rule n) (λ g. map n (λ d. record { first = f; cond = e; step = g }) (token n s.CloseParen refl) (λ a end h. tt) (λ a end h. tt)) (λ g b vs end h w. seen_word s.CloseParen vs end h.0 h.2)) (λ c b vs end h w. tt))
    (λ e b vs end h w. seen_word s.Semi vs h.1 h.0 h.2)) (λ c b vs end h w. tt))
    (λ f b vs end h w. seen_word s.Semi vs h.1 h.0 h.2)) (λ c b vs end h w. tt)

abbrev pub IsForHead : ForHead → Span
IsForHead = (for_head_made 0).rel

pub for_head_law : (n : ℕ) (us : List Tok) → length us < n → Tells IsForHead Free Free us (r.for_head us)
unfolding r.for_head
for_head_law n us h = (for_head_made n).law us h

abbrev pub for_head_rule : (n : ℕ) → Rule n ForHead Free Free
for_head_rule n = record { rel = IsForHead; filled = (for_head_made n).filled; read = r.for_head; law = for_head_law n }

abbrev pub if_head_made : (n : ℕ) → Rule n Cond Free Free
if_head_made n = then n (token n s.OpenParen refl) (λ a. then n (cond_rule n) (λ c. map n (λ b. c) (token n s.CloseParen refl) (λ a end h. tt) (λ a end h. tt)) (λ c b vs end h w. paren_closes vs end h.0 h.2)) (λ c b vs end h w. tt)

abbrev pub IsIfHead : Cond → Span
IsIfHead = (if_head_made 0).rel

pub if_head_law : (n : ℕ) (us : List Tok) → length us < n → Tells IsIfHead Free Free us (r.if_head us)
unfolding r.if_head
if_head_law n us h = (if_head_made n).law us h

abbrev pub if_head_rule : (n : ℕ) → Rule n Cond Free Free
if_head_rule n = record { rel = IsIfHead; filled = (if_head_made n).filled; read = r.if_head; law = if_head_law n }

abbrev pub while_head_made : (n : ℕ) → Rule n Expr Free Free
while_head_made n = then n (token n s.OpenParen refl) (λ a. then n (expr_rule n 1 (omega arith)) (λ c. map n (λ b. c) (token n s.CloseParen refl) (λ a end h. tt) (λ a end h. tt)) (λ c b vs end h w. paren_reach vs end h.0 h.2)) (λ c b vs end h w. tt)

abbrev pub IsWhileHead : Expr → Span
IsWhileHead = (while_head_made 0).rel

pub while_head_law : (n : ℕ) (us : List Tok) → length us < n → Tells IsWhileHead Free Free us (r.while_head us)
unfolding r.while_head
while_head_law n us h = (while_head_made n).law us h

abbrev pub while_head_rule : (n : ℕ) → Rule n Expr Free Free
while_head_rule n = record { rel = IsWhileHead; filled = (while_head_made n).filled; read = r.while_head; law = while_head_law n }
