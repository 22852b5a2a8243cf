-- The rule of statements.
use Rattle.std.proofs.Common.{ℕ, ◌≤◌, ◌<◌, ◌≡◌, List, [], ◌∷◌, length, true, false, Ok, refl, ap, sym, ◌∙◌, subst, arith}
use Rattle.feast_base.specs.Places.{no_place}
use Rattle.feast_base.specs.declared.place.Place.{Place}
use Rattle.ulam_tree.specs.Raw.{Word, Cond, Statement, empty, if_so, while_so, for_all, returns, Part, no_part, part}
use Rattle.ulam_parse.specs.declared.symbol.Symbol.TheVariants as s
use Rattle.ulam_parse.specs.Tokens.{Tok, tok}
use Rattle.ulam_parse.specs.Grammar.{Span, TakesWord, IsMaybe, IsStatement, IsElse, ends_open, part_open}
use Rattle.ulam_parse.specs.Reading.{Reader, ◌>>=◌, sees}
use Rattle.ulam_parse.specs.Statements as r
use Rattle.ulam_parse.specs.Statements.{ForHead}
use Rattle.ulam_parse.proofs.Tells.{decide, first, unseen, sees_first, Tells, tells_as}
use Rattle.ulam_parse.proofs.Rules.{tells_if, Rule, Filled, Then, Map, Back, Seen, token, then, map, then_law, map_law, some_word}
use Rattle.ulam_parse.proofs.SimpleRules.{maybe_rule}
use Rattle.ulam_parse.proofs.PartRules.{seen_word, IsForHead, for_head_rule, IsIfHead, if_head_rule, IsWhileHead, while_head_rule}

-- no `else` follows a statement that ends in an `if` without `else`
abbrev pub Shut : Statement → List Tok → Type 0
Shut x us = ends_open x ≡ true → sees s.Else us ≡ false

abbrev pub ShutPart : Part → List Tok → Type 0
ShutPart y us = part_open y ≡ true → sees s.Else us ≡ false

-- statements are read right on lists of fewer than k tokens
abbrev pub StatementLaw : ℕ → Reader Statement → Type 0
StatementLaw k S = (us : List Tok) → length us < k → Tells IsStatement Shut Shut us (S us)

abbrev pub statement_filled : Filled IsStatement
statement_filled = record { tree = empty; fill = λ other. tok s.Semi [] no_place ∷ other; fits = λ other. (some_word, refl) }

abbrev pub statement_part : (k m : ℕ) (S : Reader Statement) → StatementLaw k S → m ≤ k → Rule m Statement Shut Shut
statement_part k m S f l = record { rel = IsStatement; filled = statement_filled; read = S; law = λ us h. f us (omega (arith, h, l)) }

-- `;` after a statement

abbrev pub Semi : Statement → Statement → Span
Semi x = Map (λ (a : Word). x) (TakesWord s.Semi)

abbrev pub semi_part : (n : ℕ) (x : Statement) → ends_open x ≡ false → Rule n Statement Shut Shut
semi_part n x e = map n (λ a. x) (token n s.Semi refl) (λ a end h. tt) (λ a end h q. let f : true ≡ false = sym q ∙ e in absurd cc)

pub ended_law : (n : ℕ) (x : Statement) → ends_open x ≡ false → (us : List Tok) → length us < n → Tells (Semi x) Shut Shut us (r.end_statement x us)
unfolding r.end_statement
ended_law n x e us h = (semi_part n x e).law us h

abbrev pub ended_rule : (n : ℕ) (x : Statement) → ends_open x ≡ false → Rule n Statement Shut Shut
ended_rule n x e = record { rel = Semi x; filled = (semi_part n x e).filled; read = r.end_statement x; law = ended_law n x e }

abbrev pub Returned : Place → Statement → Span
Returned p = Then IsMaybe (λ e. Semi (returns p e))

pub return_law : (n : ℕ) (p : Place) (us : List Tok) → length us < n → Tells (Returned p) Shut Shut us (r.return_rest p us)
unfolding r.return_rest
return_law n p us h = (then n (maybe_rule n) (λ e. ended_rule n (returns p e) refl) (λ e b vs end h w. seen_word s.Semi vs end h.0 h.2)).law us h

-- `else`

else_none : (x : Statement) (us : List Tok) → sees s.Else us ≡ false → (other : List Tok) (b : Part) (end : List Tok) → first other ≡ first us → IsElse (ends_open x) b other end → (b ≡ no_part) × (end ≡ other)
else_none x us f other no_part end e q = (refl, sym q)
else_none x us f other (part y) end e q = absurd (unseen s.Else _ _ other q.1.0 q.1.1.1 (sees_first s.Else other us e ∙ f))

else_here : (x : Statement) (us : List Tok) → sees s.Else us ≡ false → Tells (IsElse (ends_open x)) ShutPart ShutPart us (Ok (no_part, us))
else_here x us f = record { front = []; is = refl; no_end = refl; gives = λ e. f; again = λ other. refl; only = λ other b end e q w. else_none x us f other b end e q }

else_back : (x : Statement) → Back (Seen s.Else) (IsElse (ends_open x)) (Then (TakesWord s.Else) (λ a. Map part IsStatement)) ShutPart ShutPart
else_back x no_part vs end c q w = let f : true ≡ false = sym c ∙ ap (sees s.Else) q ∙ w refl in absurd cc
else_back x (part y) vs end c q w = ((q.1.1.0, q.1.0, q.1.1.1, (y, refl, q.1.2)), w)

pub else_law : (k : ℕ) (S : Reader Statement) → StatementLaw k S → (x : Statement) (us : List Tok) → length us < k → Shut x us → Tells (IsElse (ends_open x)) ShutPart ShutPart us (r.else_part S us)
unfolding r.else_part
else_law k S f x us h g = tells_if (IsElse (ends_open x)) ShutPart ShutPart us (sees s.Else us) _ _
    (λ c.
    let o : ends_open x ≡ false = decide (ends_open x) (λ e. let q : true ≡ false = sym c ∙ g e in cc) in
    tells_as (Then (TakesWord s.Else) (λ a. Map part IsStatement)) (IsElse (ends_open x)) ShutPart ShutPart ShutPart ShutPart us _
    ((then k (token k s.Else refl) (λ a. map k part (statement_part k k S f (omega arith)) (λ y end q. q) (λ y end q. q)) (λ c b vs end q w. tt)).law us h)
    (λ b vs end q. rw q.3.1 (o, (q.1, (q.0, q.2), q.3.2))) (λ b vs end e q w. else_back x b vs end (sees_first s.Else vs us e ∙ c) q w) (λ y rest q. q))
    (λ c. else_here x us c)

-- what comes after a condition

abbrev pub Branches : Cond → Statement → Span
Branches c = Then IsStatement (λ x. Map (if_so c x) (IsElse (ends_open x)))

pub branch_follow : (x : Statement) (y : Part) (vs end : List Tok) → IsElse (ends_open x) y vs end → ShutPart y end → Shut x vs
branch_follow x no_part vs end q w e = ap (sees s.Else) q ∙ w refl
branch_follow x (part y) vs end q w e = let f : true ≡ false = sym e ∙ q.0 in absurd cc

pub branches_follow : (c : Cond) (x b : Statement) (vs end : List Tok) → Map (if_so c x) (IsElse (ends_open x)) b vs end → Shut b end → Shut x vs
branches_follow c x b vs end q w = branch_follow x q.0 vs end q.2 (let F : Statement → Type 0 = λ z. Shut z end in subst F q.1 w)

abbrev pub branches_part : (k : ℕ) (S : Reader Statement) → StatementLaw k S → (c : Cond) → Rule k Statement Shut Shut
branches_part k S f c = record {
  rel = Branches c;
  filled = record { tree = if_so c empty no_part; fill = λ other. tok s.Semi [] no_place ∷ other; fits = λ other. (empty, other, (some_word, refl), (no_part, refl, refl)) };
  read = λ us. S us >>= λ (x : Statement × List Tok). (r.else_part S x.1 >>= λ (y : Part × List Tok). Ok (if_so c x.0 y.0, y.1));
  law = λ us h. then_law IsStatement Shut Shut (λ x. Map (if_so c x) (IsElse (ends_open x))) Shut Shut us (S us) (λ (x : Statement × List Tok). (r.else_part S x.1 >>= λ (y : Part × List Tok). Ok (if_so c x.0 y.0, y.1)))
      (branches_follow c) (λ x. record { tree = if_so c x no_part; fill = λ other. other; fits = λ other. (no_part, refl, refl) }) (f us h)
      (λ x mid at l g. map_law (if_so c x) (IsElse (ends_open x)) ShutPart ShutPart Shut Shut mid (r.else_part S mid) (λ y end q. q) (λ y end q. q) (else_law k S f x mid (omega (arith, l, h)) g));
}

abbrev pub Ifs : Statement → Span
Ifs = Then IsIfHead Branches

pub if_law : (k : ℕ) (S : Reader Statement) → StatementLaw k S → (us : List Tok) → length us < k → Tells Ifs Shut Shut us (r.if_rest S us)
unfolding r.if_rest
if_law k S f us h = (then k (if_head_rule k) (λ c. branches_part k S f c) (λ c b vs end q w. tt)).law us h

abbrev pub Whiles : Statement → Span
Whiles = Then IsWhileHead (λ e. Map (while_so e) IsStatement)

pub while_law : (k : ℕ) (S : Reader Statement) → StatementLaw k S → (us : List Tok) → length us < k → Tells Whiles Shut Shut us (r.while_rest S us)
unfolding r.while_rest
while_law k S f us h = (then k (while_head_rule k) (λ e. map k (while_so e) (statement_part k k S f (omega arith)) (λ x end q. q) (λ x end q. q)) (λ c b vs end q w. tt)).law us h

abbrev pub Fors : Statement → Span
Fors = Then IsForHead (λ g. Map (for_all g.first g.cond g.step) IsStatement)

pub for_law : (k : ℕ) (S : Reader Statement) → StatementLaw k S → (us : List Tok) → length us < k → Tells Fors Shut Shut us (r.for_rest S us)
unfolding r.for_rest
for_law k S f us h = (then k (for_head_rule k) (λ g. map k (for_all g.first g.cond g.step) (statement_part k k S f (omega arith)) (λ x end q. q) (λ x end q. q)) (λ c b vs end q w. tt)).law us h
