-- The rule of statements by their first token, and that of bodies.
use Rattle.std.proofs.Common.{ℕ, zero, suc, ◌+◌, ◌≤◌, ◌<◌, ◌≡◌, inl, inr, List, [], ◌∷◌, length, Option, Some, None, Bool, true, false, Ok, refl, ap, sym, ◌∙◌, subst, arith}
use Rattle.feast_base.specs.Places.{no_place}
use Rattle.feast_base.specs.declared.place.Place.{Place}
use Rattle.ulam_tree.specs.Raw.{Word, Statement, block, empty, if_so, while_so, for_all, returns, breaks, continues, declares, assigns, counts, does, Body, no_more, then_so}
use Rattle.ulam_parse.specs.declared.symbol.Symbol.{Symbol}
use Rattle.ulam_parse.specs.declared.symbol.Symbol.TheVariants as s
use Rattle.ulam_parse.specs.declared.symbol.Assigning.TheVariants as a
use Rattle.ulam_parse.specs.declared.symbol.Starting.{Starting}
use Rattle.ulam_parse.specs.declared.symbol.Starting.TheVariants as t
use Rattle.ulam_parse.specs.Tokens.{Text, Tok, tok}
use Rattle.ulam_parse.specs.Tables.{assigning_of, starting_of}
use Rattle.ulam_parse.specs.Grammar.{Span, Takes, TakesWord, IsPathOf, IsSimple, IsDeclare, IsStatement, IsBody, ends_open}
use Rattle.ulam_parse.specs.Reading.{Read, Reader, ◌>>=◌, same, sees}
use Rattle.ulam_parse.specs.Statements as r
use Rattle.ulam_parse.specs.Sentences.{is_end}
use Rattle.ulam_parse.proofs.Tells.{decide, same_is, first, unseen, one_first, Tells, tells_as, tells_behind, Behind}
use Rattle.ulam_parse.proofs.Rules.{Free, Rule, Filled, Then, Map, Into, Back, Seen, Unseen, token, further, map, choice, then_law, map_law, some_word, none_some}
use Rattle.ulam_parse.proofs.OperandRule.{same_first, behind_first, place_in}
use Rattle.ulam_parse.proofs.CondRules.{Closed}
use Rattle.ulam_parse.proofs.SimpleRules.{ended_closes, declare_rule}
use Rattle.ulam_parse.proofs.PartRules.{simple_rule, seen_word}
use Rattle.ulam_parse.proofs.StatementRule.{Shut, StatementLaw, statement_filled, statement_part, Semi, ended_law, Returned, return_law, Ifs, if_law, Whiles, while_law, Fors, for_law}

-- which statements a symbol may begin
abbrev pub Form : Starting → Statement → Type 0
Form t.Block (block b) = Unit {0}
Form t.Empty empty = Unit {0}
Form t.If (if_so c x y) = Unit {0}
Form t.While (while_so e x) = Unit {0}
Form t.For (for_all f e g x) = Unit {0}
Form t.Return (returns p e) = Unit {0}
Form t.Break (breaks p) = Unit {0}
Form t.Continue (continues p) = Unit {0}
Form t.Declare (declares ty w e) = Unit {0}
Form t.Simple (assigns l op e) = Unit {0}
Form t.Simple (counts l up) = Unit {0}
Form t.Simple (does x es) = Unit {0}
Form _ _ = ⊥

-- a statement begins with a token, of a form that it may have
pub record Started (b : Statement) (us : List Tok) : Type 0 where
  pub symbol : Symbol
  pub text : Text
  pub place : Place
  pub rest : List Tok
  pub is : us ≡ tok symbol text place ∷ rest
  pub form : Form (starting_of symbol) b

started_path : (b : Statement) → Form t.Simple b → (own : Option Place) (ws : List Word) (us rest : List Tok) → IsPathOf own ws us rest → Started b us
started_path b f (Some p) ws us rest h = record { symbol = s.Own; text = h.1.0; place = p; rest = h.0; is = h.1.1; form = f }
started_path b f None [] us rest h = absurd h
started_path b f None (w ∷ ws) us rest h = record { symbol = s.Name; text = w.name; place = w.place; rest = h.0; is = h.1; form = f }

count_starts : (k : Symbol) (up : Bool) → assigning_of k ≡ a.Counts up → starting_of k ≡ t.Simple
count_starts s.PlusPlus up e = refl
count_starts s.MinusMinus up e = refl
count_starts _ up e = absurd cc

started_simple : (b : Statement) (us rest : List Tok) → IsSimple b us rest → Started b us
started_simple (assigns l op e) us rest h = started_path (assigns l op e) tt l.path.own l.path.words us h.1.0 h.1.1
started_simple (counts l up) us rest (inl h) = started_path (counts l up) tt l.path.own l.path.words us h.1.0 h.1.1
started_simple (counts l up) us rest (inr h) =
    record { symbol = h.1.0; text = h.1.1.0.name; place = h.1.1.0.place; rest = h.0; is = h.1.1.1; form = let F : Starting → Type 0 = λ x. Form x (counts l up) in subst F (sym (count_starts h.1.0 up h.1.2)) tt }
started_simple (does x es) us rest h = started_path (does x es) tt x.own x.words us h.0 h.1
started_simple _ us rest h = absurd h

pub started : (b : Statement) (us rest : List Tok) → IsStatement b us rest → Started b us
started (block b) us rest h = record { symbol = s.OpenBrace; text = h.1.0.name; place = h.1.0.place; rest = h.0; is = h.1.1; form = tt }
started empty us rest h = record { symbol = s.Semi; text = h.0.name; place = h.0.place; rest = rest; is = h.1; form = tt }
started (if_so c x y) us rest h = record { symbol = s.If; text = h.1.0.name; place = h.1.0.place; rest = h.0; is = h.1.1; form = tt }
started (while_so e x) us rest h = record { symbol = s.While; text = h.1.0.name; place = h.1.0.place; rest = h.0; is = h.1.1; form = tt }
started (for_all f e g x) us rest h = record { symbol = s.For; text = h.1.0.name; place = h.1.0.place; rest = h.0; is = h.1.1; form = tt }
started (returns p e) us rest h = record { symbol = s.Return; text = h.1.0; place = p; rest = h.0; is = h.1.1; form = tt }
started (breaks p) us rest h = record { symbol = s.Break; text = h.1.0; place = p; rest = h.0; is = h.1.1; form = tt }
started (continues p) us rest h = record { symbol = s.Continue; text = h.1.0; place = p; rest = h.0; is = h.1.1; form = tt }
started (declares ty w e) us rest h = record { symbol = s.TypeName; text = ty.word.name; place = ty.word.place; rest = h.1.1.0; is = h.1.1.1; form = tt }
started (assigns l op e) us rest h = started_simple (assigns l op e) us h.0 h.1
started (counts l up) us rest h = started_simple (counts l up) us h.0 h.1
started (does x es) us rest h = started_simple (does x es) us h.0 h.1

pub no_form : (b : Statement) → Form t.Nothing b → ⊥
no_form b f = f

pub empty_statement : (b : Statement) (us rest : List Tok) → first us ≡ None → IsStatement b us rest → ⊥
empty_statement b us rest e h = let x = started b us rest h in none_some us x.rest _ e x.is

-- no statement begins with `else`, and no body does
statement_else : (b : Statement) (us rest : List Tok) → IsStatement b us rest → sees s.Else us ≡ false
statement_else b us rest h =
    let x = started b us rest h in
    let F : Starting → Type 0 = λ y. Form y b in
    ap (sees s.Else) x.is ∙ decide (same x.symbol s.Else) (λ e. no_form b (subst F (ap starting_of (same_is x.symbol s.Else e)) x.form))

pub body_else : (b : Body) (us rest : List Tok) → IsBody b us rest → sees s.Else us ≡ false
unfolding same
body_else no_more us rest h = ap (sees s.Else) h.1
body_else (then_so x b) us rest h = statement_else x us h.0 h.1

-- bodies

statement_close : (b : Statement) (us rest : List Tok) → IsStatement b us rest → sees s.CloseBrace us ≡ false
statement_close b us rest h =
    let x = started b us rest h in
    let F : Starting → Type 0 = λ y. Form y b in
    ap (sees s.CloseBrace) x.is ∙ decide (same x.symbol s.CloseBrace) (λ e. no_form b (subst F (ap starting_of (same_is x.symbol s.CloseBrace e)) x.form))

body_from : Back (Seen s.CloseBrace) IsBody (Map (λ (a : Word). no_more) (TakesWord s.CloseBrace)) Free Free
body_from no_more vs end c h w = ((h.0, refl, h.1), tt)
body_from (then_so x b) vs end c h w = let q : true ≡ false = sym c ∙ statement_close x vs h.0 h.1 in absurd cc

body_other : Back (Unseen s.CloseBrace) IsBody (Then IsStatement (λ x. Map (then_so x) IsBody)) Free Free
body_other no_more vs end c h w = absurd (unseen s.CloseBrace _ _ vs end h.1 c)
body_other (then_so x b) vs end c h w = ((x, h.0, h.1, (b, refl, h.2)), tt)

abbrev pub body_filled : Filled IsBody
body_filled = record { tree = no_more; fill = λ other. tok s.CloseBrace [] no_place ∷ other; fits = λ other. (some_word, refl) }

pub body_turns : (k : ℕ) (S : Reader Statement) → StatementLaw k S → (t : ℕ) → t ≤ k → (us : List Tok) → length us < t → Tells IsBody Free Free us (r.body S t us)
unfolding r.body
body_turns k S f zero l us h = absurd (omega (arith, h))
body_turns k S f (suc t) l us h =
    let rest : Rule t Body Free Free = record { rel = IsBody; filled = body_filled; read = r.body S t; law = body_turns k S f t (omega (arith, l)) } in
    (choice (suc t) s.CloseBrace
    (map (suc t) (λ a. no_more) (token (suc t) s.CloseBrace refl) (λ a end h. tt) (λ a end h. tt))
    (further t (statement_part k (suc t) S f l) (λ x. map t (then_so x) rest (λ a end h. tt) (λ a end h. tt)) (λ x b vs end q w e. body_else q.0 vs end q.2) (λ x q. empty_statement x [] [] refl q)) IsBody
    (λ b vs end q. rw q.1 (q.0, q.2)) body_from (λ b vs end q. rw q.3.1 (q.1, q.2, q.3.2)) body_other).law us h

block_law : (k : ℕ) (S : Reader Statement) → StatementLaw k S → (us : List Tok) → length us < k → Tells (Map block IsBody) Shut Shut us (r.block_rest S us)
unfolding r.block_rest
block_law k S f us h = map_law block IsBody Free Free Shut Shut us (r.body S (length us + 1) us) (λ a end q. tt) (λ a end q e. absurd (let x : true ≡ false = sym e in cc)) (body_turns k S f (length us + 1) (omega (arith, h)) us (omega arith))

-- by the first token

end_starts : (k : Symbol) → is_end k ≡ true → starting_of k ≡ t.Nothing
end_starts s.End e = refl
end_starts _ e = absurd cc

starts_end : (k : Symbol) (v : Starting) → starting_of k ≡ v → (v ≡ t.Nothing → ⊥) → is_end k ≡ false
starts_end k v e f = decide (is_end k) (λ t. f (sym e ∙ end_starts k t))

block_only : (k : Symbol) → starting_of k ≡ t.Block → k ≡ s.OpenBrace
block_only s.OpenBrace e = refl
block_only _ e = absurd cc

empty_only : (k : Symbol) → starting_of k ≡ t.Empty → k ≡ s.Semi
empty_only s.Semi e = refl
empty_only _ e = absurd cc

if_only : (k : Symbol) → starting_of k ≡ t.If → k ≡ s.If
if_only s.If e = refl
if_only _ e = absurd cc

while_only : (k : Symbol) → starting_of k ≡ t.While → k ≡ s.While
while_only s.While e = refl
while_only _ e = absurd cc

for_only : (k : Symbol) → starting_of k ≡ t.For → k ≡ s.For
for_only s.For e = refl
for_only _ e = absurd cc

return_only : (k : Symbol) → starting_of k ≡ t.Return → k ≡ s.Return
return_only s.Return e = refl
return_only _ e = absurd cc

break_only : (k : Symbol) → starting_of k ≡ t.Break → k ≡ s.Break
break_only s.Break e = refl
break_only _ e = absurd cc

continue_only : (k : Symbol) → starting_of k ≡ t.Continue → k ≡ s.Continue
continue_only s.Continue e = refl
continue_only _ e = absurd cc

abbrev Exactly : Statement → Statement → Span
Exactly v b us rest = (b ≡ v) × (us ≡ rest)

-- what follows the first token of a statement
abbrev Tail : Starting → Place → Statement → Span
Tail t.Block p = Map block IsBody
Tail t.Empty p = Exactly empty
Tail t.If p = Ifs
Tail t.While p = Whiles
Tail t.For p = Fors
Tail t.Return p = Returned p
Tail t.Break p = Semi (breaks p)
Tail t.Continue p = Semi (continues p)
Tail t.Declare p = λ b us rest. ⊥
Tail t.Simple p = λ b us rest. ⊥
Tail t.Nothing p = λ b us rest. ⊥

-- statements that begin with a keyword or a sign of their own
abbrev Keyed : Starting → Type 0
Keyed t.Declare = ⊥
Keyed t.Simple = ⊥
Keyed t.Nothing = ⊥
Keyed _ = Unit {0}

word_as : (j k : Symbol) (w : Text) (p : Place) (vs mid : List Tok) → j ≡ k → vs ≡ tok j w p ∷ mid → vs ≡ tok k w p ∷ mid
word_as j k w p vs mid e h = h ∙ ap (λ x. tok x w p ∷ mid) e

tail_into : (v : Starting) → Keyed v → (j : Symbol) (w : Text) (p : Place) → starting_of j ≡ v → Into (Behind (tok j w p) (Tail v p)) IsStatement
tail_into t.Block g j w p e b vs end h = rw h.2.1 (h.0, (record { name = w; place = p }, word_as j s.OpenBrace w p vs h.0 (block_only j e) h.1), h.2.2)
tail_into t.Empty g j w p e b vs end h = rw h.2.0 (record { name = w; place = p }, word_as j s.Semi w p vs h.0 (empty_only j e) h.1 ∙ ap (λ x. tok s.Semi w p ∷ x) h.2.1)
tail_into t.If g j w p e b vs end h =
    let k = h.2.2 in
    rw (h.2.3.3.1, k.3.3.1) (h.0, (record { name = w; place = p }, word_as j s.If w p vs h.0 (if_only j e) h.1), (k.1, (k.0, k.2), (k.3.1, k.3.2, (h.2.1, (k.3.3.0, k.3.3.2), (h.2.3.1, h.2.3.2, h.2.3.3.2)))))
tail_into t.While g j w p e b vs end h =
    let k = h.2.2 in
    rw (h.2.3.1, k.3.3.1) (h.0, (record { name = w; place = p }, word_as j s.While w p vs h.0 (while_only j e) h.1), (k.1, (k.0, k.2), (k.3.1, k.3.2, (h.2.1, (k.3.3.0, k.3.3.2), h.2.3.2))))
tail_into t.For g j w p e b vs end h =
    let k = h.2.2 in
    let f = k.3 in
    let m = f.3.3 in
    let n = m.3.3 in
    rw (h.2.3.1, n.3.1) (
      h.0,
      (record { name = w; place = p }, word_as j s.For w p vs h.0 (for_only j e) h.1),
      (k.1, (k.0, k.2), (f.1, f.2, (f.3.1, (f.3.0, f.3.2), (m.1, m.2, (m.3.1, (m.3.0, m.3.2), (n.1, n.2, (h.2.1, (n.3.0, n.3.2), h.2.3.2))))))),
    )
tail_into t.Return g j w p e b vs end h = rw h.2.3.1 (h.0, (w, word_as j s.Return w p vs h.0 (return_only j e) h.1), (h.2.1, h.2.2, (h.2.3.0, h.2.3.2)))
tail_into t.Break g j w p e b vs end h = rw h.2.1 (h.0, (w, word_as j s.Break w p vs h.0 (break_only j e) h.1), (h.2.0, h.2.2))
tail_into t.Continue g j w p e b vs end h = rw h.2.1 (h.0, (w, word_as j s.Continue w p vs h.0 (continue_only j e) h.1), (h.2.0, h.2.2))
tail_into _ g j w p e b vs end h = absurd g

tail_back : (v : Starting) → Keyed v → (j : Symbol) (w : Text) (p : Place) (b : Statement) (vs end : List Tok) → Form v b → first vs ≡ Some (tok j w p) → IsStatement b vs end → Behind (tok j w p) (Tail v p) b vs end
tail_back t.Block g j w p (block b) vs end f e h = (h.0, behind_first vs h.0 (tok j w p) _ h.1.1 e, (b, refl, h.2))
tail_back t.Empty g j w p empty vs end f e h = (end, behind_first vs end (tok j w p) _ h.1 e, (refl, refl))
tail_back t.If g j w p (if_so c x y) vs end f e h =
    let k = h.2.2.2 in
    (h.0, behind_first vs h.0 (tok j w p) _ h.1.1 e, (c, k.0, (h.2.1.0, h.2.0, h.2.1.1, (c, h.2.2.0, h.2.2.1, (k.1.0, refl, k.1.1))), (x, k.2.0, k.2.1, (y, refl, k.2.2))))
tail_back t.While g j w p (while_so c x) vs end f e h =
    let k = h.2.2.2 in
    (h.0, behind_first vs h.0 (tok j w p) _ h.1.1 e, (c, k.0, (h.2.1.0, h.2.0, h.2.1.1, (c, h.2.2.0, h.2.2.1, (k.1.0, refl, k.1.1))), (x, refl, k.2)))
tail_back t.For g j w p (for_all i c u x) vs end f e h =
    let k = h.2.2 in
    let m = k.2 in
    let n = m.2.2 in
    let o = n.2 in (
      h.0,
      behind_first vs h.0 (tok j w p) _ h.1.1 e,
      (
        record { first = i; cond = c; step = u },
        o.2.0,
        (h.2.1.0, h.2.0, h.2.1.1, (i, k.0, k.1, (m.1.0, m.0, m.1.1, (c, m.2.0, m.2.1, (n.1.0, n.0, n.1.1, (u, o.0, o.1, (o.2.1.0, refl, o.2.1.1))))))),
        (x, refl, o.2.2),
      ),
    )
tail_back t.Return g j w p (returns q c) vs end f e h =
    (h.0, behind_first vs h.0 (tok j w p) _ h.1.1 e, (c, h.2.0, h.2.1, (h.2.2.0, ap (λ x. returns (place_in x) c) (same_first vs h.0 (tok j w p) _ h.1.1 e), h.2.2.1)))
tail_back t.Break g j w p (breaks q) vs end f e h =
    (h.0, behind_first vs h.0 (tok j w p) _ h.1.1 e, (h.2.0, ap (λ x. breaks (place_in x)) (same_first vs h.0 (tok j w p) _ h.1.1 e), h.2.1))
tail_back t.Continue g j w p (continues q) vs end f e h =
    (h.0, behind_first vs h.0 (tok j w p) _ h.1.1 e, (h.2.0, ap (λ x. continues (place_in x)) (same_first vs h.0 (tok j w p) _ h.1.1 e), h.2.1))
tail_back t.Declare g j w p b vs end f e h = absurd g
tail_back t.Simple g j w p b vs end f e h = absurd g
tail_back t.Nothing g j w p b vs end f e h = absurd g
tail_back _ g j w p b vs end f e h = absurd f

form_at : (k : Symbol) (w : Text) (p : Place) (v : Starting) → starting_of k ≡ v → (b : Statement) (vs end : List Tok) → first vs ≡ Some (tok k w p) → IsStatement b vs end → Form v b
form_at k w p v e b vs end f h =
    let x = started b vs end h in
    let F : Starting → Type 0 = λ y. Form y b in
    subst F (ap starting_of (one_first k x.symbol x.text w x.place p vs x.rest x.is f) ∙ e) x.form

keyed_law : (v : Starting) → Keyed v → (v ≡ t.Nothing → ⊥) → (j : Symbol) (w : Text) (p : Place) (ts : List Tok) (x : Read Statement) → starting_of j ≡ v → Tells (Tail v p) Shut Shut ts x → Tells IsStatement Shut Shut (tok j w p ∷ ts) x
keyed_law v g n j w p ts x e h =
    tells_as (Behind (tok j w p) (Tail v p)) IsStatement Shut Shut Shut Shut (tok j w p ∷ ts) x (tells_behind (Tail v p) Shut Shut j w p ts x (starts_end j v e n) h)
    (tail_into v g j w p e) (λ b vs end f q u. (tail_back v g j w p b vs end (form_at j w p v e b vs end f q) f q, u)) (λ y rest q. q)

-- a statement and its `;`
abbrev Declared : Statement → Span
Declared = Then IsDeclare Semi

abbrev Simples : Statement → Span
Simples = Then IsSimple Semi

declare_shut : (b : Statement) (us rest : List Tok) → IsDeclare b us rest → ends_open b ≡ false
declare_shut (declares ty w e) us rest h = refl
declare_shut _ us rest h = absurd h

simple_shut : (b : Statement) (us rest : List Tok) → IsSimple b us rest → ends_open b ≡ false
simple_shut (assigns l op e) us rest h = refl
simple_shut (counts l up) us rest h = refl
simple_shut (does x es) us rest h = refl
simple_shut _ us rest h = absurd h

declared_is : (x : Statement) (us mid rest : List Tok) → IsDeclare x us mid → Takes s.Semi mid rest → IsStatement x us rest
declared_is (declares ty w e) us mid rest h q = (mid, h, q)
declared_is _ us mid rest h q = absurd h

declared_into : Into Declared IsStatement
declared_into b vs end h = rw h.3.1 (declared_is h.0 vs h.1 end h.2 (h.3.0, h.3.2))

simple_is : (x : Statement) (us mid rest : List Tok) → IsSimple x us mid → Takes s.Semi mid rest → IsStatement x us rest
simple_is (assigns l op e) us mid rest h q = (mid, h, q)
simple_is (counts l up) us mid rest h q = (mid, h, q)
simple_is (does x es) us mid rest h q = (mid, h, q)
simple_is _ us mid rest h q = absurd h

simples_into : Into Simples IsStatement
simples_into b vs end h = rw h.3.1 (simple_is h.0 vs h.1 end h.2 (h.3.0, h.3.2))

declared_back : (b : Statement) (vs end : List Tok) → Form t.Declare b → IsStatement b vs end → Declared b vs end
declared_back (declares ty w e) vs end f h = (declares ty w e, h.0, h.1, (h.2.0, refl, h.2.1))
declared_back _ vs end f h = absurd f

simples_back : (b : Statement) (vs end : List Tok) → Form t.Simple b → IsStatement b vs end → Simples b vs end
simples_back (assigns l op e) vs end f h = (assigns l op e, h.0, h.1, (h.2.0, refl, h.2.1))
simples_back (counts l up) vs end f h = (counts l up, h.0, h.1, (h.2.0, refl, h.2.1))
simples_back (does x es) vs end f h = (does x es, h.0, h.1, (h.2.0, refl, h.2.1))
simples_back _ vs end f h = absurd f

-- That a statement ends in no open `if` is known only once it is read, so the law of the `;` after it goes by cases on the answer.
statement_then : (P : Statement → Span) (T : Statement → List Tok → Type 0) → ((b : Statement) (us rest : List Tok) → P b us rest → ends_open b ≡ false) → (us : List Tok) (x : Read Statement) →
    ((a : Statement) (end : List Tok) → sees s.Semi end ≡ true → T a end) → Tells P T Free us x → Tells (Then P Semi) Shut Shut us (x >>= λ (y : Statement × List Tok). r.end_statement y.0 y.1)
statement_then P T shut us x closes h =
    then_law P T Free Semi Shut Shut us x (λ (y : Statement × List Tok). r.end_statement y.0 y.1) (λ c b vs end q w. closes c vs (seen_word s.Semi vs end q.0 q.2))
    (λ c. record { tree = c; fill = λ other. tok s.Semi [] no_place ∷ other; fits = λ other. (some_word, refl, refl) }) h
    (λ a mid here l g. ended_law (length mid + 1) a (shut a us mid here) mid (omega arith))

statement_by_law : (k : ℕ) (S : Reader Statement) → StatementLaw k S → (v : Starting) (j : Symbol) (w : Text) (p : Place) (ts : List Tok) → starting_of j ≡ v → length (tok j w p ∷ ts) < suc k →
    Tells IsStatement Shut Shut (tok j w p ∷ ts) (r.statement_by S v (tok j w p) ts)
statement_by_law k S f t.Block j w p ts e l = keyed_law t.Block tt (λ q. cc) j w p ts _ e (block_law k S f ts (omega (arith, l)))
statement_by_law k S f t.Empty j w p ts e l = keyed_law t.Empty tt (λ q. cc) j w p ts (Ok (empty, ts)) e
    (record { front = []; is = refl; no_end = refl; gives = λ q. absurd (let x : true ≡ false = sym q in cc); again = λ other. (refl, refl); only = λ other b end g q u. (q.0, sym q.1) })
statement_by_law k S f t.If j w p ts e l = keyed_law t.If tt (λ q. cc) j w p ts _ e (if_law k S f ts (omega (arith, l)))
statement_by_law k S f t.While j w p ts e l = keyed_law t.While tt (λ q. cc) j w p ts _ e (while_law k S f ts (omega (arith, l)))
statement_by_law k S f t.For j w p ts e l = keyed_law t.For tt (λ q. cc) j w p ts _ e (for_law k S f ts (omega (arith, l)))
statement_by_law k S f t.Return j w p ts e l = keyed_law t.Return tt (λ q. cc) j w p ts _ e (return_law (length ts + 1) p ts (omega arith))
statement_by_law k S f t.Break j w p ts e l = keyed_law t.Break tt (λ q. cc) j w p ts _ e (ended_law (length ts + 1) (breaks p) refl ts (omega arith))
statement_by_law k S f t.Continue j w p ts e l = keyed_law t.Continue tt (λ q. cc) j w p ts _ e (ended_law (length ts + 1) (continues p) refl ts (omega arith))
statement_by_law k S f t.Declare j w p ts e l =
    let us = tok j w p ∷ ts in
    tells_as Declared IsStatement Shut Shut Shut Shut us _ (statement_then IsDeclare Closed declare_shut us _ (λ a end q. ended_closes end q) ((declare_rule (length us + 1)).law us (omega arith))) declared_into
    (λ b vs end g q u. (declared_back b vs end (form_at j w p t.Declare e b vs end g q) q, u)) (λ y rest q. q)
statement_by_law k S f t.Simple j w p ts e l =
    let us = tok j w p ∷ ts in
    tells_as Simples IsStatement Shut Shut Shut Shut us _ (statement_then IsSimple Closed simple_shut us _ (λ a end q. ended_closes end q) ((simple_rule (length us + 1)).law us (omega arith))) simples_into
    (λ b vs end g q u. (simples_back b vs end (form_at j w p t.Simple e b vs end g q) q, u)) (λ y rest q. q)
statement_by_law k S f t.Nothing j w p ts e l = record {
  front = [];
  left = tok j w p ∷ ts;
  is = refl;
  long = refl;
  no_end = refl;
  tree = statement_filled.tree;
  fill = statement_filled.fill;
  goes = statement_filled.fits;
  none = λ other b end g q u. no_form b (form_at j w p t.Nothing e b other end g q);
}

any_law : (k : ℕ) (S : Reader Statement) → StatementLaw k S → StatementLaw (suc k) (r.any_statement S)
unfolding r.any_statement
any_law k S f [] l = record {
  front = [];
  left = [];
  is = refl;
  long = refl;
  no_end = refl;
  tree = statement_filled.tree;
  fill = statement_filled.fill;
  goes = statement_filled.fits;
  none = λ other b end g q u. empty_statement b other end g q;
}
any_law k S f (tok j w p ∷ ts) l = statement_by_law k S f (starting_of j) j w p ts refl l

pub statement_law : (k : ℕ) → StatementLaw k (r.statement_in k)
unfolding r.statement_in
statement_law zero us h = absurd (omega (arith, h))
statement_law (suc k) us h = any_law k (r.statement_in k) (statement_law k) us h

pub whole_body_law : (n : ℕ) (us : List Tok) → length us < n → Tells IsBody Free Free us (r.whole_body us)
whole_body_law n us h = body_turns (length us + 1) (r.statement_in (length us + 1)) (statement_law (length us + 1)) (length us + 1) (omega arith) us (omega arith)

abbrev pub body_rule : (n : ℕ) → Rule n Body Free Free
body_rule n = record { rel = IsBody; filled = body_filled; read = r.whole_body; law = whole_body_law n }
