-- What the answer of a reader tells of a relation, and how the answers of parts tell it of a whole.
use Rattle.std.proofs.Common.{ℕ, ◌≡◌, List, [], ◌∷◌, ◌++◌, length, Option, Some, None, Bool, true, false, Ok, Err, refl, ap, sym, ◌∙◌, subst, rules}
use Rattle.std.proofs.lemmas.Bool.{or_parts}
use denote.Enum.Bare.{same_true, true_same}
use Rattle.feast_base.specs.declared.place.Place.{Place}
use Rattle.ulam_parse.specs.contracts.symbol.Symbol.{the_type}
use Rattle.ulam_parse.specs.declared.symbol.Symbol.{Symbol}
use Rattle.ulam_parse.specs.declared.symbol.Symbol.TheVariants as s
use Rattle.ulam_parse.specs.Tokens.{Text, Tok, tok}
use Rattle.ulam_parse.specs.Grammar.{Span}
use Rattle.ulam_parse.specs.Reading.{stops, tired, Read, same, sees}
use Rattle.ulam_parse.specs.Sentences.{is_end, has_end}

pub decide : (b : Bool) → (b ≡ true → ⊥) → b ≡ false
decide true f = absurd (f refl)
decide false f = refl

pub same_self : (k : Symbol) → same k k ≡ true
unfolding same
same_self k = true_same the_type k k refl

pub same_is : (k j : Symbol) → same k j ≡ true → k ≡ j
unfolding same
same_is k j e = same_true the_type (search rules) k j e

abbrev pub first : List Tok → Option Tok
first [] = None
first (t ∷ ts) = Some t

pub no_end_append : (a b : List Tok) → has_end a ≡ false → has_end b ≡ false → has_end (a ++ b) ≡ false
no_end_append [] b h g = g
no_end_append (tok k w p ∷ ts) b h g =
    let c = or_parts (is_end k) (has_end ts) h in
    rw (c.0, no_end_append ts b c.1 g) refl

pub first_append : (front a b : List Tok) → first a ≡ first b → first (front ++ a) ≡ first (front ++ b)
first_append [] a b e = e
first_append (t ∷ ts) a b e = refl

option_sees : Symbol → Option Tok → Bool
option_sees k None = false
option_sees k (Some t) = sees k (t ∷ [])

sees_at : (k : Symbol) (us : List Tok) → sees k us ≡ option_sees k (first us)
unfolding option_sees
sees_at k [] = refl
sees_at k (tok j w p ∷ ts) = refl

symbol_first : Option Tok → Symbol
symbol_first None = s.End
symbol_first (Some (tok k w p)) = k

-- what is known of the first token
pub is_seen : (j k : Symbol) (w : Text) (p : Place) (us rest : List Tok) → us ≡ tok k w p ∷ rest → sees j us ≡ true → k ≡ j
is_seen j k w p us rest e h = let q : same k j ≡ true = sym (ap (sees j) e) ∙ h in same_is k j q

pub unseen : (k : Symbol) (w : Text) (p : Place) (us rest : List Tok) → us ≡ tok k w p ∷ rest → sees k us ≡ false → ⊥
unseen k w p us rest e h = let q : true ≡ false = sym (same_self k) ∙ sym (ap (sees k) e) ∙ h in absurd cc

pub one_first : (j k : Symbol) (w v : Text) (p q : Place) (us rest : List Tok) → us ≡ tok k w p ∷ rest → first us ≡ Some (tok j v q) → k ≡ j
unfolding symbol_first
one_first j k w v p q us rest e f = ap symbol_first (sym (ap first e) ∙ f)

pub sees_first : (k : Symbol) (a b : List Tok) → first a ≡ first b → sees k a ≡ sees k b
sees_first k a b e = sees_at k a ∙ ap (option_sees k) e ∙ sym (sees_at k b)

-- A tree was found before the rest, and no other tree is there.
pub record Found {A : Type 0} (P : A → Span) (S G : A → List Tok → Type 0) (us : List Tok) (a : A) (rest : List Tok) : Type 0 where
  -- the tokens of the tree
  pub front : List Tok
  pub is : us ≡ front ++ rest
  pub no_end : has_end front ≡ false
  -- what is known of the rest
  pub gives : G a rest
  -- they are this tree before any other tokens
  pub again : (other : List Tok) → P a (front ++ other) other
  -- before tokens that begin as the rest they are no other tree, nor with some of those tokens
  pub only : (other : List Tok) (b : A) (end : List Tok) → first other ≡ first rest → P b (front ++ other) end → S b end → (b ≡ a) × (end ≡ other)

-- The tokens before the last n begin a tree, and with the next token they begin none.
pub record Stopped {A : Type 0} (P : A → Span) (S : A → List Tok → Type 0) (us : List Tok) (n : ℕ) : Type 0 where
  pub front : List Tok
  pub left : List Tok
  pub is : us ≡ front ++ left
  pub long : n ≡ length left
  pub no_end : has_end front ≡ false
  -- some tokens complete it
  pub tree : A
  pub fill : List Tok → List Tok
  pub goes : (other : List Tok) → P tree (front ++ fill other) other
  -- no tokens that begin as the last n do
  pub none : (other : List Tok) (b : A) (end : List Tok) → first other ≡ first left → P b (front ++ other) end → S b end → ⊥

-- What a reader's answer tells of a relation. S says which tokens may follow a tree, and G what is known of those after a tree that was found.
abbrev pub Tells : {A : Type 0} → (A → Span) → (A → List Tok → Type 0) → (A → List Tok → Type 0) → List Tok → Read A → Type 0
Tells P S G us (Ok x) = Found P S G us x.0 x.1
Tells P S G us (Err (stops n)) = Stopped P S us n
Tells P S G us (Err tired) = ⊥

-- the same of another relation that agrees on tokens which begin as these do
pub tells_as : {A : Type 0} (P R : A → Span) (S T G H : A → List Tok → Type 0) (us : List Tok) (r : Read A) → Tells P S G us r →
    ((b : A) (vs end : List Tok) → P b vs end → R b vs end) → ((b : A) (vs end : List Tok) → first vs ≡ first us → R b vs end → T b end → P b vs end × S b end) →
    ((a : A) (rest : List Tok) → G a rest → H a rest) → Tells R T H us r
tells_as P R S T G H us (Ok x) h to from gives = record {
  front = h.front;
  is = h.is;
  no_end = h.no_end;
  gives = gives x.0 x.1 h.gives;
  again = λ other. to x.0 (h.front ++ other) other (h.again other);
  only = λ other b end e q w.
      let pq = from b (h.front ++ other) end (first_append h.front other x.1 e ∙ ap first (sym h.is)) q w in
      h.only other b end e pq.0 pq.1;
}
tells_as P R S T G H us (Err (stops n)) h to from gives = record {
  front = h.front;
  left = h.left;
  is = h.is;
  long = h.long;
  no_end = h.no_end;
  tree = h.tree;
  fill = h.fill;
  goes = λ other. to h.tree (h.front ++ h.fill other) other (h.goes other);
  none = λ other b end e q w.
      let pq = from b (h.front ++ other) end (first_append h.front other h.left e ∙ ap first (sym h.is)) q w in
      h.none other b end e pq.0 pq.1;
}
tells_as P R S T G H us (Err tired) h to from gives = h

-- one token, and then the rest
abbrev pub Behind : {A : Type 0} → Tok → (A → Span) → A → Span
Behind t P b us rest = (mid : List Tok) × (us ≡ t ∷ mid) × P b mid rest

abbrev pub tail : List Tok → List Tok
tail [] = []
tail (t ∷ ts) = ts

pub tells_behind : {A : Type 0} (P : A → Span) (S G : A → List Tok → Type 0) (k : Symbol) (w : Text) (p : Place) (ts : List Tok) (r : Read A) → is_end k ≡ false → Tells P S G ts r →
    Tells (Behind (tok k w p) P) S G (tok k w p ∷ ts) r
tells_behind P S G k w p ts (Ok x) n h = record {
  front = tok k w p ∷ h.front;
  is = ap (λ us. tok k w p ∷ us) h.is;
  no_end = rw (n, h.no_end) refl;
  gives = h.gives;
  again = λ other. (h.front ++ other, refl, h.again other);
  only = λ other b end e q w. h.only other b end e (let F : List Tok → Type 0 = λ us. P b us end in subst F (sym (ap tail q.1)) q.2) w;
}
tells_behind P S G k w p ts (Err (stops m)) n h = record {
  front = tok k w p ∷ h.front;
  left = h.left;
  is = ap (λ us. tok k w p ∷ us) h.is;
  long = h.long;
  no_end = rw (n, h.no_end) refl;
  tree = h.tree;
  fill = h.fill;
  goes = λ other. (h.front ++ h.fill other, refl, h.goes other);
  none = λ other b end e q w. h.none other b end e (let F : List Tok → Type 0 = λ us. P b us end in subst F (sym (ap tail q.1)) q.2) w;
}
tells_behind P S G k w p ts (Err tired) n h = h

found_two : {A : Type 0} (P R : A → Span) (S T G : A → List Tok → Type 0) (t : Tok) (ts : List Tok) (a : A) (rest : List Tok) → Found P S G (t ∷ ts) a rest → (front : List Tok) → t ∷ ts ≡ front ++ rest →
    ((other : List Tok) → P a (front ++ other) other) → ((other : List Tok) (b : A) (end : List Tok) → first other ≡ first rest → P b (front ++ other) end → S b end → (b ≡ a) × (end ≡ other)) →
    has_end front ≡ false → ((a : A) → P a [] [] → ⊥) → ((b : A) (vs end : List Tok) → P b vs end → R b vs end) →
    ((b : A) (vs end : List Tok) → first (tail vs) ≡ first ts → first vs ≡ Some t → R b vs end → T b end → P b vs end × S b end) → Found R T G (t ∷ ts) a rest
found_two P R S T G t ts a rest h [] is again only clean full to from = absurd (full a (again []))
found_two P R S T G t ts a rest h (u ∷ front) is again only clean full to from = record {
  front = u ∷ front;
  is = is;
  no_end = clean;
  gives = h.gives;
  again = λ other. to a ((u ∷ front) ++ other) other (again other);
  only = λ other b end e q w.
      let pq = from b ((u ∷ front) ++ other) end (first_append front other rest e ∙ sym (ap first (ap tail is))) (sym (ap first is)) q w in
      only other b end e pq.0 pq.1;
}

stopped_two : {A : Type 0} (P R : A → Span) (S T G : A → List Tok → Type 0) (t : Tok) (ts : List Tok) (n : ℕ) → (h : Stopped P S (t ∷ ts) n) → (front : List Tok) → t ∷ ts ≡ front ++ h.left →
    ((other : List Tok) → P h.tree (front ++ h.fill other) other) → ((other : List Tok) (b : A) (end : List Tok) → first other ≡ first h.left → P b (front ++ other) end → S b end → ⊥) →
    has_end front ≡ false → (((other : List Tok) (b : A) (end : List Tok) → first other ≡ Some t → P b other end → S b end → ⊥) → ⊥) → ((b : A) (vs end : List Tok) → P b vs end → R b vs end) →
    ((b : A) (vs end : List Tok) → first (tail vs) ≡ first ts → first vs ≡ Some t → R b vs end → T b end → P b vs end × S b end) → Stopped R T (t ∷ ts) n
stopped_two P R S T G t ts n h [] is goes none clean some to from = absurd (some (λ other b end e p w. none other b end (e ∙ ap first is) p w))
stopped_two P R S T G t ts n h (u ∷ front) is goes none clean some to from = record {
  front = u ∷ front;
  left = h.left;
  is = is;
  long = h.long;
  no_end = clean;
  tree = h.tree;
  fill = h.fill;
  goes = λ other. to h.tree ((u ∷ front) ++ h.fill other) other (goes other);
  none = λ other b end e q w.
      let pq = from b ((u ∷ front) ++ other) end (first_append front other h.left e ∙ sym (ap first (ap tail is))) (sym (ap first is)) q w in
      none other b end e pq.0 pq.1;
}

-- the same where at least one token is read, so that the relations need agree only on tokens whose first two are these
pub tells_two : {A : Type 0} (P R : A → Span) (S T G : A → List Tok → Type 0) (t : Tok) (ts : List Tok) (r : Read A) → Tells P S G (t ∷ ts) r →
    ((a : A) → P a [] [] → ⊥) → (((other : List Tok) (b : A) (end : List Tok) → first other ≡ Some t → P b other end → S b end → ⊥) → ⊥) →
    ((b : A) (vs end : List Tok) → P b vs end → R b vs end) → ((b : A) (vs end : List Tok) → first (tail vs) ≡ first ts → first vs ≡ Some t → R b vs end → T b end → P b vs end × S b end) → Tells R T G (t ∷ ts) r
tells_two P R S T G t ts (Ok x) h full some to from = found_two P R S T G t ts x.0 x.1 h h.front h.is h.again h.only h.no_end full to from
tells_two P R S T G t ts (Err (stops n)) h full some to from = stopped_two P R S T G t ts n h h.front h.is h.goes h.none h.no_end some to from
tells_two P R S T G t ts (Err tired) h full some to from = h
