-- The first token at which tokens nest too deep.
use Rattle.std.proofs.Common.{ℕ, ◌+◌, ◌≤◌, ◌<◌, ◌≡◌, ◌⊎◌, inl, inr, List, [], ◌∷◌, ◌++◌, length, Some, None, cond, refl, ap, sym, ◌∙◌, subst, arith}
use Rattle.std.specs.Prelude.{fold}
use Rattle.std.proofs.lemmas.Bool.{lt-ltb, le-ltb, cases_lt}
use Rattle.list_laws.proofs.Options.{value_or}
use Rattle.ulam_parse.specs.Tokens.{Tok}
use Rattle.ulam_parse.specs.Nesting.{Nest, outside, depth, nest_step, symbol_at, IsShallow}
use Rattle.ulam_parse.specs.Sentences.{deep_from}
use Rattle.ulam_parse.proofs.Tells.{tail}

abbrev pub after : Nest → List Tok → Nest
after n ts = fold (λ (m : Nest) (t : Tok). nest_step m (symbol_at t)) n ts

abbrev tok_first : Tok → List Tok → Tok
tok_first d [] = d
tok_first d (t ∷ ts) = t

-- no prefix of the tokens nests too deep after a nest of others
abbrev pub ShallowFrom : Nest → List Tok → Type 0
ShallowFrom n ts = (front back : List Tok) → ts ≡ front ++ back → depth (after n front) ≤ 64

some_is : (a b : ℕ) → Some a ≡ Some b → a ≡ b
some_is a b e = ap (value_or a) e

-- a prefix of a token and more tokens
front_cons : (t : Tok) (ts front back : List Tok) → t ∷ ts ≡ front ++ back → (front ≡ []) ⊎ ((more : List Tok) × (front ≡ t ∷ more) × (ts ≡ more ++ back))
front_cons t ts [] back e = inl refl
front_cons t ts (u ∷ more) back e = inr (more, ap (λ z. z ∷ more) (sym (ap (tok_first t) e)), ap tail e)

only_empty : (n : Nest) (front back : List Tok) → depth n ≤ 64 → [] ≡ front ++ back → depth (after n front) ≤ 64
only_empty n [] back h q = h
only_empty n (t ∷ ts) back h q = absurd cc

shallow_cons : (n : Nest) (t : Tok) (ts : List Tok) → depth n ≤ 64 → ShallowFrom (nest_step n (symbol_at t)) ts → ShallowFrom n (t ∷ ts)
shallow_cons n t ts h f front back q = elim (front_cons t ts front back q) as (λ z. depth (after n front) ≤ 64) [
  | inl e ↦ let F : List Tok → Type 0 = λ v. depth (after n v) ≤ 64 in subst F (sym e) h
  | inr e ↦ let F : List Tok → Type 0 = λ v. depth (after n v) ≤ 64 in subst F (sym e.1) (f e.0 back e.2)
]

same_start : (k i : ℕ) → k ≡ i → i ≡ k + 0
same_start k i e = omega (arith, e)

one_longer : (i k : ℕ) (t : Tok) (ts : List Tok) → i ≡ k + 1 + length ts → i ≡ k + length (t ∷ ts)
one_longer i k t ts e = omega (arith, e)

shallow_none : (k : ℕ) (n : Nest) (ts : List Tok) → depth n ≤ 64 → deep_from k n ts ≡ None → ShallowFrom n ts
shallow_none k n [] h e [] back q = h
shallow_none k n [] h e (u ∷ more) back q = absurd cc
shallow_none k n (t ∷ ts) h e front back q =
    let m = nest_step n (symbol_at t) in
    let d = depth m in
    elim (cases_lt 64 d) as (λ z. depth (after n front) ≤ 64) [
      | inl l ↦ let y : Some k ≡ None = sym (ap (λ b. cond b (Some k) (deep_from (k + 1) m ts)) (lt-ltb 64 d l)) ∙ e in absurd cc
      | inr l ↦
          let z : deep_from (k + 1) m ts ≡ None = sym (ap (λ b. cond b (Some k) (deep_from (k + 1) m ts)) (le-ltb 64 d l)) ∙ e in
          shallow_cons n t ts h (shallow_none (k + 1) m ts l z) front back q
    ]

-- where one is found: the tokens before it, and the token itself
pub record DeepAt (k : ℕ) (n : Nest) (ts : List Tok) (at_place : ℕ) : Type 0 where
  pub front : List Tok
  pub at : Tok
  pub back : List Tok
  pub split : ts ≡ front ++ (at ∷ back)
  pub long : at_place ≡ k + length front
  pub shallow : ShallowFrom n front
  pub deep : 64 < depth (after n (front ++ (at ∷ [])))

deep_some : (k : ℕ) (n : Nest) (ts : List Tok) (i : ℕ) → depth n ≤ 64 → deep_from k n ts ≡ Some i → DeepAt k n ts i
deep_some k n [] i h e = absurd cc
deep_some k n (t ∷ ts) i h e =
    let m = nest_step n (symbol_at t) in
    let d = depth m in
    elim (cases_lt 64 d) as (λ z. DeepAt k n (t ∷ ts) i) [
      | inl l ↦
          let y : Some k ≡ Some i = sym (ap (λ b. cond b (Some k) (deep_from (k + 1) m ts)) (lt-ltb 64 d l)) ∙ e in
          record { front = []; at = t; back = ts; split = refl; long = same_start k i (some_is k i y); shallow = λ front back q. only_empty n front back h q; deep = l }
      | inr l ↦
          let y : deep_from (k + 1) m ts ≡ Some i = sym (ap (λ b. cond b (Some k) (deep_from (k + 1) m ts)) (le-ltb 64 d l)) ∙ e in
          let r = deep_some (k + 1) m ts i l y in
          record {
            front = t ∷ r.front;
            at = r.at;
            back = r.back;
            split = ap (λ z. t ∷ z) r.split;
            long = one_longer i k t r.front r.long;
            shallow = shallow_cons n t r.front h r.shallow;
            deep = r.deep;
          }
    ]

-- none is found: no prefix nests too deep
pub shallow_is : (ts : List Tok) → deep_from 0 outside ts ≡ None → IsShallow ts
shallow_is ts e front back q = shallow_none 0 outside ts (omega arith) e front back q

pub deep_is : (ts : List Tok) (k : ℕ) → deep_from 0 outside ts ≡ Some k → DeepAt 0 outside ts k
deep_is ts k e = deep_some 0 outside ts k (omega arith) e
