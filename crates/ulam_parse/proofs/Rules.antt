-- Rules of a grammar with how they are read, and how they are put together.
use Rattle.std.proofs.Common.{ℕ, suc, ◌≤◌, ◌<◌, ◌≡◌, List, [], ◌∷◌, ◌++◌, length, Option, Some, None, Bool, true, false, cond, Ok, Err, refl, ap, sym, ◌∙◌, subst, arith, append_assoc, length-append}
use Rattle.feast_base.specs.Places.{no_place}
use Rattle.ulam_tree.specs.Raw.{Word}
use Rattle.ulam_parse.specs.declared.symbol.Symbol.{Symbol}
use Rattle.ulam_parse.specs.declared.symbol.Symbol.TheVariants as s
use Rattle.ulam_parse.specs.Tokens.{Tok, tok}
use Rattle.ulam_parse.specs.Grammar.{Span, TakesWord}
use Rattle.ulam_parse.specs.Reading.{stops, tired, Read, Reader, ◌>>=◌, same, sees, expect}
use Rattle.ulam_parse.specs.Sentences.{is_end}
use Rattle.ulam_parse.proofs.Tells.{same_self, same_is, first, no_end_append, first_append, sees_first, Found, Stopped, Tells, tells_as, tail}

-- nothing is asked of the tokens, or known of them
abbrev pub Free : {A : Type 0} → A → List Tok → Type 0
Free a us = Unit {0}

pub tells_if : {A : Type 0} (P : A → Span) (S G : A → List Tok → Type 0) (us : List Tok) (b : Bool) (x y : Read A) → (b ≡ true → Tells P S G us x) → (b ≡ false → Tells P S G us y) → Tells P S G us (cond b x y)
tells_if P S G us true x y f g = f refl
tells_if P S G us false x y f g = g refl

abbrev pub some_word : Word
some_word = record { name = []; place = no_place }

word_first : List Tok → Word
word_first [] = some_word
word_first (tok k w p ∷ ts) = record { name = w; place = p }

symbol_first : Option Tok → Symbol
symbol_first None = s.End
symbol_first (Some (tok k w p)) = k

pub none_some : (us rest : List Tok) (t : Tok) → first us ≡ None → us ≡ t ∷ rest → ⊥
none_some us rest t e q = let c : None ≡ Some t = sym e ∙ ap first q in absurd cc

-- one token
pub token_law : (k : Symbol) → is_end k ≡ false → (us : List Tok) → Tells (TakesWord k) Free Free us (expect k us)
unfolding word_first symbol_first
token_law k n [] = record {
  front = [];
  left = [];
  is = refl;
  long = refl;
  no_end = refl;
  tree = some_word;
  fill = λ other. tok k [] no_place ∷ other;
  goes = λ other. refl;
  none = λ other b end e q w. none_some other end _ e q;
}
token_law k n (tok j w p ∷ ts) = tells_if (TakesWord k) Free Free (tok j w p ∷ ts) (same j k) _ _
    (λ t.
    let e = same_is j k t in
    record {
      front = tok j w p ∷ [];
      is = refl;
      no_end = let c : is_end j ≡ false = ap is_end e ∙ n in rw c refl;
      gives = tt;
      again = λ other. ap (λ x. tok x w p ∷ other) e;
      only = λ other b end f q h. (sym (ap word_first q), sym (ap tail q));
    })
    (λ t. record {
      front = [];
      left = tok j w p ∷ ts;
      is = refl;
      long = refl;
      no_end = refl;
      tree = some_word;
      fill = λ other. tok k [] no_place ∷ other;
      goes = λ other. refl;
      none = λ other b end e q h.
          let c : k ≡ j = sym (ap (λ x. symbol_first (first x)) q) ∙ ap symbol_first e in
          let d : same j k ≡ true = ap (λ x. same j x) c ∙ same_self j in
          let f : true ≡ false = sym d ∙ t in absurd cc;
    })

-- one thing, and then what depends on it
abbrev pub Then : {A B : Type 0} → (A → Span) → (A → B → Span) → B → Span
Then {A = A} P Q b us rest = (a : A) × (mid : List Tok) × P a us mid × Q a b mid rest

moved : {A : Type 0} (P : A → Span) (a : A) (x y z end : List Tok) → P a ((x ++ y) ++ z) end → P a (x ++ (y ++ z)) end
moved P a x y z end h = let F : List Tok → Type 0 = λ us. P a us end in subst F (append_assoc x y z) h

moved_back : {A : Type 0} (P : A → Span) (a : A) (x y z end : List Tok) → P a (x ++ (y ++ z)) end → P a ((x ++ y) ++ z) end
moved_back P a x y z end h = let F : List Tok → Type 0 = λ us. P a us end in subst F (sym (append_assoc x y z)) h

then_found : {A B : Type 0} (P : A → Span) (S G : A → List Tok → Type 0) (Q : A → B → Span) (T H : B → List Tok → Type 0) (us : List Tok) (a : A) (mid : List Tok) →
    ((c : A) (b : B) (vs end : List Tok) → Q c b vs end → T b end → S c vs) → Found P S G us a mid → (r : Read B) → Tells (Q a) T H mid r → Tells (Then P Q) T H us r
then_found {A = A} P S G Q T H us a mid follows h (Ok x) g = record {
  front = h.front ++ g.front;
  is = h.is ∙ ap (λ v. h.front ++ v) g.is ∙ sym (append_assoc h.front g.front x.1);
  no_end = no_end_append h.front g.front h.no_end g.no_end;
  gives = g.gives;
  again = λ other. (a, g.front ++ other, moved_back P a h.front g.front other (g.front ++ other) (h.again (g.front ++ other)), g.again other);
  only = λ other b end e q w.
      let f : first (g.front ++ other) ≡ first mid = first_append g.front other x.1 e ∙ ap first (sym g.is) in
      let o = h.only (g.front ++ other) q.0 q.1 f (moved P q.0 h.front g.front other q.1 q.2) (follows q.0 b q.1 end q.3 w) in
      let C : A → Type 0 = λ c. Q c b q.1 end in
      let D : List Tok → Type 0 = λ v. Q a b v end in
      g.only other b end e (subst D o.1 (subst C o.0 q.3)) w;
}
then_found {A = A} P S G Q T H us a mid follows h (Err (stops n)) g = record {
  front = h.front ++ g.front;
  left = g.left;
  is = h.is ∙ ap (λ v. h.front ++ v) g.is ∙ sym (append_assoc h.front g.front g.left);
  long = g.long;
  no_end = no_end_append h.front g.front h.no_end g.no_end;
  tree = g.tree;
  fill = g.fill;
  goes = λ other. (a, g.front ++ g.fill other, moved_back P a h.front g.front (g.fill other) (g.front ++ g.fill other) (h.again (g.front ++ g.fill other)), g.goes other);
  none = λ other b end e q w.
      let f : first (g.front ++ other) ≡ first mid = first_append g.front other g.left e ∙ ap first (sym g.is) in
      let o = h.only (g.front ++ other) q.0 q.1 f (moved P q.0 h.front g.front other q.1 q.2) (follows q.0 b q.1 end q.3 w) in
      let C : A → Type 0 = λ c. Q c b q.1 end in
      let D : List Tok → Type 0 = λ v. Q a b v end in
      g.none other b end e (subst D o.1 (subst C o.0 q.3)) w;
}
then_found {A = A} P S G Q T H us a mid follows h (Err tired) g = g

-- one thing of a kind, and tokens that are it
pub record Filled {B : Type 0} (Q : B → Span) : Type 0 where
  pub tree : B
  pub fill : List Tok → List Tok
  pub fits : (other : List Tok) → Q tree (fill other) other

then_stopped : {A B : Type 0} (P : A → Span) (S : A → List Tok → Type 0) (Q : A → B → Span) (T : B → List Tok → Type 0) (us : List Tok) (n : ℕ) →
    ((c : A) (b : B) (vs end : List Tok) → Q c b vs end → T b end → S c vs) → ((c : A) → Filled (Q c)) → Stopped P S us n → Stopped (Then P Q) T us n
then_stopped P S Q T us n follows filled h =
    let c = filled h.tree in
    record {
      front = h.front;
      left = h.left;
      is = h.is;
      long = h.long;
      no_end = h.no_end;
      tree = c.tree;
      fill = λ other. h.fill (c.fill other);
      goes = λ other. (h.tree, c.fill other, h.goes (c.fill other), c.fits other);
      none = λ other b end e q w. h.none other q.0 q.1 e q.2 (follows q.0 b q.1 end q.3 w);
    }

pub then_law : {A B : Type 0} (P : A → Span) (S G : A → List Tok → Type 0) (Q : A → B → Span) (T H : B → List Tok → Type 0) (us : List Tok) (r : Read A) (f : A × List Tok → Read B) →
    ((c : A) (b : B) (vs end : List Tok) → Q c b vs end → T b end → S c vs) → ((c : A) → Filled (Q c)) → Tells P S G us r →
    ((a : A) (mid : List Tok) → P a us mid → length mid ≤ length us → G a mid → Tells (Q a) T H mid (f (a, mid))) → Tells (Then P Q) T H us (r >>= f)
then_law P S G Q T H us (Ok x) f follows filled h k =
    let F : List Tok → Type 0 = λ v. P x.0 v x.1 in
    let here : P x.0 us x.1 = subst F (sym h.is) (h.again x.1) in
    let l : length x.1 ≤ length us = omega (arith, ap length h.is, length-append h.front x.1) in
    then_found P S G Q T H us x.0 x.1 follows h (f x) (k x.0 x.1 here l h.gives)
then_law P S G Q T H us (Err (stops n)) f follows filled h k = then_stopped P S Q T us n follows filled h
then_law P S G Q T H us (Err tired) f follows filled h k = h

found_some : {A : Type 0} (P : A → Span) (S G : A → List Tok → Type 0) (us : List Tok) (a : A) (mid : List Tok) → (h : Found P S G us a mid) → (front : List Tok) → us ≡ front ++ mid → P a (front ++ []) [] → (P a [] [] → ⊥) → length mid < length us
found_some P S G us a mid h [] e p n = absurd (n p)
found_some P S G us a mid h (t ∷ front) e p n = omega (arith, ap length e, length-append (t ∷ front) mid)

-- something that takes at least one token, so the rest is shorter
pub further_law : {A B : Type 0} (P : A → Span) (S G : A → List Tok → Type 0) (Q : A → B → Span) (T H : B → List Tok → Type 0) (us : List Tok) (r : Read A) (f : A × List Tok → Read B) →
    ((c : A) (b : B) (vs end : List Tok) → Q c b vs end → T b end → S c vs) → ((c : A) → Filled (Q c)) → Tells P S G us r → ((a : A) → P a [] [] → ⊥) →
    ((a : A) (mid : List Tok) → length mid < length us → G a mid → Tells (Q a) T H mid (f (a, mid))) → Tells (Then P Q) T H us (r >>= f)
further_law P S G Q T H us (Ok x) f follows filled h some k =
    then_found P S G Q T H us x.0 x.1 follows h (f x) (k x.0 x.1 (found_some P S G us x.0 x.1 h h.front h.is (h.again []) (some x.0)) h.gives)
further_law P S G Q T H us (Err (stops n)) f follows filled h some k = then_stopped P S Q T us n follows filled h
further_law P S G Q T H us (Err tired) f follows filled h some k = h

-- what is made of a thing
abbrev pub Map : {A B : Type 0} → (A → B) → (A → Span) → B → Span
Map {A = A} f P b us rest = (a : A) × (b ≡ f a) × P a us rest

pub map_law : {A B : Type 0} (f : A → B) (P : A → Span) (S G : A → List Tok → Type 0) (T H : B → List Tok → Type 0) (us : List Tok) (r : Read A) →
    ((a : A) (end : List Tok) → T (f a) end → S a end) → ((a : A) (end : List Tok) → G a end → H (f a) end) → Tells P S G us r → Tells (Map f P) T H us (r >>= λ (x : A × List Tok). Ok (f x.0, x.1))
map_law f P S G T H us (Ok x) asks gives h = record {
  front = h.front;
  is = h.is;
  no_end = h.no_end;
  gives = gives x.0 x.1 h.gives;
  again = λ other. (x.0, refl, h.again other);
  only = λ other b end e q w.
      let F : _ → Type 0 = λ c. T c end in
      let o = h.only other q.0 end e q.2 (asks q.0 end (subst F q.1 w)) in
      (q.1 ∙ ap f o.0, o.1);
}
map_law f P S G T H us (Err (stops n)) asks gives h = record {
  front = h.front;
  left = h.left;
  is = h.is;
  long = h.long;
  no_end = h.no_end;
  tree = f h.tree;
  fill = h.fill;
  goes = λ other. (h.tree, refl, h.goes other);
  none = λ other b end e q w. let F : _ → Type 0 = λ c. T c end in h.none other q.0 end e q.2 (asks q.0 end (subst F q.1 w));
}
map_law f P S G T H us (Err tired) asks gives h = h

-- A rule: what it describes, something that it describes, and how it is read on lists of fewer than n tokens. S is asked of what follows, and G is known of it.
pub record Rule (n : ℕ) (A : Type 0) (S G : A → List Tok → Type 0) : Type 1 where
  pub rel : A → Span
  pub filled : Filled rel
  pub read : Reader A
  pub law : (us : List Tok) → length us < n → Tells rel S G us (read us)

abbrev pub token : (n : ℕ) (k : Symbol) → is_end k ≡ false → Rule n Word Free Free
token n k e = record {
  rel = TakesWord k;
  filled = record { tree = some_word; fill = λ other. tok k [] no_place ∷ other; fits = λ other. refl };
  read = expect k;
  law = λ us h. token_law k e us;
}

abbrev pub then : {A B : Type 0} {S G : A → List Tok → Type 0} {T H : B → List Tok → Type 0} (n : ℕ) (p : Rule n A S G) (q : A → Rule n B T H) →
    ((c : A) (b : B) (vs end : List Tok) → (q c).rel b vs end → T b end → S c vs) → Rule n B T H
then {A = A} n p q follows = record {
  rel = Then p.rel (λ a. (q a).rel);
  filled = record {
    tree = (q p.filled.tree).filled.tree;
    fill = λ other. p.filled.fill ((q p.filled.tree).filled.fill other);
    fits = λ other. (p.filled.tree, (q p.filled.tree).filled.fill other, p.filled.fits ((q p.filled.tree).filled.fill other), (q p.filled.tree).filled.fits other);
  };
  read = λ us. p.read us >>= λ (x : A × List Tok). (q x.0).read x.1;
  law = λ us h. then_law p.rel _ _ (λ a. (q a).rel) _ _ us (p.read us) (λ (x : A × List Tok). (q x.0).read x.1) follows (λ c. (q c).filled) (p.law us h) (λ a mid here l g. (q a).law mid (omega (arith, l, h)));
}

-- a token, so the rest is shorter
abbrev pub after : {B : Type 0} {T H : B → List Tok → Type 0} (n : ℕ) (k : Symbol) → is_end k ≡ false → (q : Word → Rule n B T H) → Rule (suc n) B T H
after n k e q = record {
  rel = Then (TakesWord k) (λ a. (q a).rel);
  filled = record {
    tree = (q some_word).filled.tree;
    fill = λ other. tok k [] no_place ∷ (q some_word).filled.fill other;
    fits = λ other. (some_word, (q some_word).filled.fill other, refl, (q some_word).filled.fits other);
  };
  read = λ us. expect k us >>= λ (x : Word × List Tok). (q x.0).read x.1;
  law = λ us h. then_law (TakesWord k) Free Free (λ a. (q a).rel) _ _ us (expect k us) (λ (x : Word × List Tok). (q x.0).read x.1) (λ c b vs end f w. tt) (λ c. (q c).filled) (token_law k e us)
      (λ a mid here l g. (q a).law mid (omega (arith, ap length here, h)));
}

abbrev pub map : {A B : Type 0} {S G : A → List Tok → Type 0} {T H : B → List Tok → Type 0} (n : ℕ) (f : A → B) (p : Rule n A S G) →
    ((a : A) (end : List Tok) → T (f a) end → S a end) → ((a : A) (end : List Tok) → G a end → H (f a) end) → Rule n B T H
map {A = A} n f p asks gives = record {
  rel = Map f p.rel;
  filled = record { tree = f p.filled.tree; fill = p.filled.fill; fits = λ other. (p.filled.tree, refl, p.filled.fits other) };
  read = λ us. p.read us >>= λ (x : A × List Tok). Ok (f x.0, x.1);
  law = λ us h. map_law f p.rel _ _ _ _ us (p.read us) asks gives (p.law us h);
}

-- the same on tokens that begin alike
abbrev pub Back : {A : Type 0} → (List Tok → Type 0) → (A → Span) → (A → Span) → (A → List Tok → Type 0) → (A → List Tok → Type 0) → Type 0
Back {A = A} C R P T S = (b : A) (vs end : List Tok) → C vs → R b vs end → T b end → P b vs end × S b end

abbrev pub Into : {A : Type 0} → (A → Span) → (A → Span) → Type 0
Into {A = A} P R = (b : A) (vs end : List Tok) → P b vs end → R b vs end

-- this symbol comes first, or does not
abbrev pub Seen : Symbol → List Tok → Type 0
Seen k us = sees k us ≡ true

abbrev pub Unseen : Symbol → List Tok → Type 0
Unseen k us = sees k us ≡ false

abbrev pub Always : List Tok → Type 0
Always us = Unit {0}

-- a rule in other words
abbrev pub named : {A : Type 0} {S G T : A → List Tok → Type 0} (n : ℕ) (p : Rule n A S G) (R : A → Span) → Into p.rel R → Back Always R p.rel T S → Rule n A T G
named n p R to from = record {
  rel = R;
  filled = record { tree = p.filled.tree; fill = p.filled.fill; fits = λ other. to _ _ _ (p.filled.fits other) };
  read = p.read;
  law = λ us h. tells_as p.rel R _ _ _ _ us (p.read us) (p.law us h) to (λ b vs end e q w. from b vs end tt q w) (λ a rest g. g);
}

-- nothing is read
abbrev pub here : {A : Type 0} {S : A → List Tok → Type 0} (n : ℕ) (v : A) → Rule n A S Free
here n v = record {
  rel = λ b us rest. (b ≡ v) × (us ≡ rest);
  filled = record { tree = v; fill = λ other. other; fits = λ other. (refl, refl) };
  read = λ us. Ok (v, us);
  law = λ us h. record { front = []; is = refl; no_end = refl; gives = tt; again = λ other. (refl, refl); only = λ other b end e q w. (q.0, sym q.1) };
}

-- one rule if this symbol comes first, and otherwise another
abbrev pub choice : {A : Type 0} {S T U G : A → List Tok → Type 0} (n : ℕ) (k : Symbol) (p : Rule n A S G) (q : Rule n A T G) (R : A → Span) →
    Into p.rel R → Back (Seen k) R p.rel U S → Into q.rel R → Back (Unseen k) R q.rel U T → Rule n A U G
choice n k p q R to from to_other from_other = record {
  rel = R;
  filled = record { tree = p.filled.tree; fill = p.filled.fill; fits = λ other. to _ _ _ (p.filled.fits other) };
  read = λ us. cond (sees k us) (p.read us) (q.read us);
  law = λ us h. tells_if R _ _ us (sees k us) (p.read us) (q.read us)
      (λ t. tells_as p.rel R _ _ _ _ us (p.read us) (p.law us h) to (λ b vs end e r w. from b vs end (sees_first k vs us e ∙ t) r w) (λ a rest g. g))
      (λ t. tells_as q.rel R _ _ _ _ us (q.read us) (q.law us h) to_other (λ b vs end e r w. from_other b vs end (sees_first k vs us e ∙ t) r w) (λ a rest g. g));
}

abbrev pub further : {A B : Type 0} {S G : A → List Tok → Type 0} {T H : B → List Tok → Type 0} (n : ℕ) (p : Rule (suc n) A S G) (q : A → Rule n B T H) →
    ((c : A) (b : B) (vs end : List Tok) → (q c).rel b vs end → T b end → S c vs) → ((a : A) → p.rel a [] [] → ⊥) → Rule (suc n) B T H
further {A = A} n p q follows some = record {
  rel = Then p.rel (λ a. (q a).rel);
  filled = record {
    tree = (q p.filled.tree).filled.tree;
    fill = λ other. p.filled.fill ((q p.filled.tree).filled.fill other);
    fits = λ other. (p.filled.tree, (q p.filled.tree).filled.fill other, p.filled.fits ((q p.filled.tree).filled.fill other), (q p.filled.tree).filled.fits other);
  };
  read = λ us. p.read us >>= λ (x : A × List Tok). (q x.0).read x.1;
  law = λ us h. further_law p.rel _ _ (λ a. (q a).rel) _ _ us (p.read us) (λ (x : A × List Tok). (q x.0).read x.1) follows (λ c. (q c).filled) (p.law us h) some (λ a mid l g. (q a).law mid (omega (arith, l, h)));
}
