-- What reading all tokens says of sentences and faults.
use Rattle.std.proofs.Common.{◌≡◌, ◌⊎◌, inl, inr, List, [], ◌∷◌, ◌++◌, true, Ok, Err, refl, ap, sym, ◌∙◌, subst, arith, append_assoc, append-nil}
use Rattle.std.specs.Prelude.{IfOk, IfErr, MatchResult, IsErrAnd, Result}
use Rattle.feast_base.specs.declared.place.Place.{Place}
use Rattle.ulam_tree.specs.Raw.{Item}
use Rattle.ulam_parse.specs.declared.symbol.Symbol.TheVariants as s
use Rattle.ulam_parse.specs.declared.fault.ParseFault.{ParseFault}
use Rattle.ulam_parse.specs.declared.fault.ParseFault.TheVariants.{Syntax, TooDeep, NoMemory}
use Rattle.ulam_parse.specs.Tokens.{Text, Tok, tok}
use Rattle.ulam_parse.specs.Grammar.{AreItems, IsFile, Begins}
use Rattle.ulam_parse.specs.Reading.{stops, tired, Read, sees}
use Rattle.ulam_parse.specs.Files.{whole_file}
use Rattle.ulam_parse.specs.Sentences.{place_at, IsSentence, IsSyntaxFault, IsDepthFault, IsFaultOf}
use Rattle.ulam_parse.proofs.Tells.{same_self, tail, Tells}
use Rattle.ulam_parse.proofs.Rules.{Free}
use Rattle.ulam_parse.proofs.FileRules.{AtEnd, file_law}

-- one tree

at_end : (mid : List Tok) (w : Text) (p : Place) (rest : List Tok) → mid ≡ tok s.End w p ∷ rest → sees s.End mid ≡ true
at_end mid w p rest e = ap (sees s.End) e ∙ same_self s.End

same_items : (us : List Tok) (r : Read (List Item)) → Tells AreItems AtEnd Free us r → (xs ys : List Item) (a b : List Tok) → AreItems xs us a → AreItems ys us b → sees s.End a ≡ true → sees s.End b ≡ true → xs ≡ ys
same_items us (Ok x) h xs ys a b f g c d =
    let F : List Tok → Type 0 = λ v. AreItems xs v a in
    let G : List Tok → Type 0 = λ v. AreItems ys v b in
    let e = h.only x.1 xs a refl (subst F h.is f) c in
    let k = h.only x.1 ys b refl (subst G h.is g) d in
    e.0 ∙ sym k.0
same_items us (Err (stops n)) h xs ys a b f g c d = let F : List Tok → Type 0 = λ v. AreItems xs v a in absurd (h.none h.left xs a refl (subst F h.is f) c)
same_items us (Err tired) h xs ys a b f g c d = absurd h

pub one_tree : (us : List Tok) (xs ys : List Item) → IsFile xs us → IsFile ys us → xs ≡ ys
one_tree us xs ys f g = same_items us (whole_file us) (file_law us) xs ys f.0 g.0 f.1 g.1 (at_end f.0 _ _ [] f.2.1) (at_end g.0 _ _ [] g.2.1)

-- prefixes

pub begins_front : (a b : List Tok) → Begins (a ++ b) → Begins a
begins_front a b h = let F : List Tok → Type 0 = λ v. IsFile h.0 v in (h.0, b ++ h.1, subst F (append_assoc a b h.1) h.2)

pub file_begins : (xs : List Item) (us : List Tok) → IsFile xs us → Begins us
file_begins xs us h = let F : List Tok → Type 0 = λ v. IsFile xs v in (xs, [], subst F (sym (append-nil us)) h)

-- of two splits of tokens at a token, the front of one goes on with the token of the other, or they are the same split
abbrev pub Before : List Tok → Tok → List Tok → Type 0
Before f a g = (m : List Tok) × (g ≡ f ++ (a ∷ m))

empty_not : (a : Tok) (f b : List Tok) → [] ≡ f ++ (a ∷ b) → ⊥
empty_not a [] b e = absurd cc
empty_not a (t ∷ f) b e = absurd cc

tok_first : Tok → List Tok → Tok
tok_first d [] = d
tok_first d (t ∷ ts) = t

pub two_splits : (f g : List Tok) (a b : Tok) (x y : List Tok) → f ++ (a ∷ x) ≡ g ++ (b ∷ y) → ((f ≡ g) × (a ≡ b) × (x ≡ y)) ⊎ (Before f a g ⊎ Before g b f)
unfolding tok_first
two_splits [] [] a b x y e = inl (refl, ap (tok_first a) e, ap tail e)
two_splits [] (t ∷ g) a b x y e = inr (inl (g, ap (λ z. z ∷ g) (sym (ap (tok_first a) e))))
two_splits (t ∷ f) [] a b x y e = inr (inr (f, ap (λ z. z ∷ f) (ap (tok_first t) e)))
two_splits (t ∷ f) (u ∷ g) a b x y e =
    let h : t ≡ u = ap (tok_first t) e in
    elim (two_splits f g a b x y (ap tail e)) as (λ z. ((t ∷ f ≡ u ∷ g) × (a ≡ b) × (x ≡ y)) ⊎ (Before (t ∷ f) a (u ∷ g) ⊎ Before (u ∷ g) b (t ∷ f))) [
      | inl k ↦ inl (ap (λ z. z ∷ f) h ∙ ap (λ z. u ∷ z) k.0, k.1, k.2)
      | inr k ↦ elim k as (λ z. ((t ∷ f ≡ u ∷ g) × (a ≡ b) × (x ≡ y)) ⊎ (Before (t ∷ f) a (u ∷ g) ⊎ Before (u ∷ g) b (t ∷ f))) [
        | inl l ↦ inr (inl (l.0, ap (λ z. z ∷ g) (sym h) ∙ ap (λ z. t ∷ z) l.1))
        | inr l ↦ inr (inr (l.0, ap (λ z. z ∷ f) h ∙ ap (λ z. u ∷ z) l.1))
      ]
    ]

-- a front and a token after it, as one front
with_one : (f : List Tok) (a : Tok) (m : List Tok) → f ++ (a ∷ m) ≡ (f ++ (a ∷ [])) ++ m
with_one f a m = sym (append_assoc f (a ∷ []) m)

begins_one : (f : List Tok) (a : Tok) (m : List Tok) → Begins (f ++ (a ∷ m)) → Begins (f ++ (a ∷ []))
begins_one f a m h = begins_front (f ++ (a ∷ [])) m (let F : List Tok → Type 0 = Begins in subst F (with_one f a m) h)

-- one first fault

one_syntax : (ts : List Tok) (p q : Place) → IsSyntaxFault ts p → IsSyntaxFault ts q → p ≡ q
one_syntax ts p q f g = elim (two_splits f.front g.front f.at g.at f.back g.back (sym f.split ∙ g.split)) as (λ z. p ≡ q) [
  | inl k ↦ f.placed ∙ ap place_at k.1 ∙ sym g.placed
  | inr k ↦ elim k as (λ z. p ≡ q) [
    | inl m ↦ let F : List Tok → Type 0 = Begins in absurd (f.none (begins_one f.front f.at m.0 (subst F m.1 g.begins)))
    | inr m ↦ let F : List Tok → Type 0 = Begins in absurd (g.none (begins_one g.front g.at m.0 (subst F m.1 f.begins)))
  ]
]

one_depth : (ts : List Tok) (p q : Place) → IsDepthFault ts p → IsDepthFault ts q → p ≡ q
one_depth ts p q f g = elim (two_splits f.front g.front f.at g.at f.back g.back (sym f.split ∙ g.split)) as (λ z. p ≡ q) [
  | inl k ↦ f.placed ∙ ap place_at k.1 ∙ sym g.placed
  | inr k ↦ elim k as (λ z. p ≡ q) [
    | inl m ↦ let l = g.shallow (f.front ++ (f.at ∷ [])) m.0 (m.1 ∙ with_one f.front f.at m.0) in absurd (omega (arith, l, f.deep))
    | inr m ↦ let l = f.shallow (g.front ++ (g.at ∷ [])) m.0 (m.1 ∙ with_one g.front g.at m.0) in absurd (omega (arith, l, g.deep))
  ]
]

not_both : (ts : List Tok) (p q : Place) → IsSyntaxFault ts p → IsDepthFault ts q → ⊥
not_both ts p q f g = elim (two_splits f.front g.front f.at g.at f.back g.back (sym f.split ∙ g.split)) as (λ z. ⊥) [
  | inl k ↦ let F : List Tok → Type 0 = λ v. Begins (v ++ (g.at ∷ [])) in let G : Tok → Type 0 = λ a. Begins (f.front ++ (a ∷ [])) in f.none (subst G (sym k.1) (subst F (sym k.0) g.begins))
  | inr k ↦ elim k as (λ z. ⊥) [
    | inl m ↦
        let F : List Tok → Type 0 = λ v. Begins (v ++ (g.at ∷ [])) in
        let G : List Tok → Type 0 = Begins in
        f.none (begins_one f.front f.at (m.0 ++ (g.at ∷ [])) (subst G (append_assoc f.front (f.at ∷ m.0) (g.at ∷ [])) (subst F m.1 g.begins)))
    | inr m ↦ let l = f.shallow (g.front ++ (g.at ∷ [])) m.0 (m.1 ∙ with_one g.front g.at m.0) in absurd (omega (arith, l, g.deep))
  ]
]

pub one_fault : (ts : List Tok) (e f : ParseFault) → IsFaultOf ts e → IsFaultOf ts f → e ≡ f
one_fault ts (Syntax p) (Syntax q) h k = ap Syntax (one_syntax ts p q h k)
one_fault ts (Syntax p) (TooDeep q) h k = absurd (not_both ts p q h k)
one_fault ts (TooDeep p) (Syntax q) h k = absurd (not_both ts q p k h)
one_fault ts (TooDeep p) (TooDeep q) h k = ap TooDeep (one_depth ts p q h k)
one_fault ts NoMemory f h k = absurd h
one_fault ts e NoMemory h k = absurd k

-- a sentence has no fault

pub no_fault : (ts : List Tok) (xs : List Item) (e : ParseFault) → IsSentence xs ts → IsFaultOf ts e → ⊥
no_fault ts xs (Syntax p) h k = let F : List Tok → Type 0 = Begins in k.none (begins_one k.front k.at k.back (subst F k.split (file_begins xs ts h.0)))
no_fault ts xs (TooDeep p) h k = let l = h.1 (k.front ++ (k.at ∷ [])) k.back (k.split ∙ with_one k.front k.at k.back) in omega (arith, l, k.deep)
no_fault ts xs NoMemory h k = k

-- what is given is the tokens' own tree or fault, so it is no other

pub only_tree : {V : Type 0} (view : V → List Item) (ts : List Tok) (given : Result V ParseFault) → IfOk given (λ v. IsSentence (view v) ts) → IfErr given (λ e. (e ≡ NoMemory) ⊎ IsFaultOf ts e) →
    (xs : List Item) → IsSentence xs ts → MatchResult given (λ v. view v ≡ xs) (λ e. e ≡ NoMemory)
only_tree view ts (Ok v) own fault xs h = one_tree ts (view v) xs own.0 h.0
only_tree view ts (Err e) own (inl m) xs h = m
only_tree view ts (Err e) own (inr f) xs h = absurd (no_fault ts xs e h f)

pub only_fault : {V : Type 0} (view : V → List Item) (ts : List Tok) (given : Result V ParseFault) → IfOk given (λ v. IsSentence (view v) ts) → IfErr given (λ e. (e ≡ NoMemory) ⊎ IsFaultOf ts e) →
    (f : ParseFault) → IsFaultOf ts f → IsErrAnd given (λ e. (e ≡ NoMemory) ⊎ (e ≡ f))
only_fault view ts (Ok v) own fault f h = absurd (no_fault ts (view v) f own h)
only_fault view ts (Err e) own (inl m) f h = inl m
only_fault view ts (Err e) own (inr k) f h = inr (one_fault ts e f k h)
