-- The list of functions is closed under calls, where the code is not too long.
use Rattle.std.proofs.Common.{◌≡◌, ℕ, zero, suc, ◌+◌, ◌<◌, ◌≤◌, ◌⊎◌, inl, inr, ⊎_elim, List, [], ◌∷◌, ◌++◌, length, Option, Some, None, refl, sym, ap, ◌∙◌, subst, arith, Bool, true, false, length-append, append_assoc, append-nil}
use Rattle.std.specs.Prelude.{slice_get, nat_eq, ◌&&◌, if◌then◌else◌}
use Rattle.std.proofs.lemmas.Bool.{cases_lt, eq-eqb}
use Rattle.list_laws.proofs.Tests.{together}
use Rattle.code_gen.specs.Pieces.{Key, Piece, none, seq, plain, asks, pick, only, loop, ever, out, next, gives, leaves, same_key, has_key, add_calls}
use Rattle.code_gen.specs.Drafts.{Drafts, key_piece, on_key, reach, keys, total}
use Rattle.code_gen.proofs.Laid.{Called}
use Rattle.code_gen.proofs.Passed.{key_some}

more_by : (b : Bool) (x y : Bool) → (x ≡ true → y ≡ true) → (if b then true else x) ≡ true → (if b then true else y) ≡ true
more_by true x y f e = refl
more_by false x y f e = f e

has_more : (ks ms : List Key) (f : Key) → has_key ks f ≡ true → has_key (ks ++ ms) f ≡ true
has_more [] ms f e = cc
has_more (k ∷ ks) ms f e = more_by (same_key k f) (has_key ks f) (has_key (ks ++ ms) f) (has_more ks ms f) e

called_more : (q : Piece) (ks ms : List Key) → Called ks q → Called (ks ++ ms) q
called_more none ks ms h = tt
called_more (seq a b) ks ms h = (called_more a ks ms h.0, called_more b ks ms h.1)
called_more (plain i) ks ms h = tt
called_more (asks f) ks ms h = has_more ks ms f h
called_more (pick a b) ks ms h = (called_more a ks ms h.0, called_more b ks ms h.1)
called_more (only a) ks ms h = called_more a ks ms h
called_more (loop t a b) ks ms h = (called_more t ks ms h.0, called_more a ks ms h.1, called_more b ks ms h.2)
called_more (ever a b) ks ms h = (called_more a ks ms h.0, called_more b ks ms h.1)
called_more out ks ms h = tt
called_more next ks ms h = tt
called_more gives ks ms h = tt
called_more leaves ks ms h = tt

-- a list that goes on from another
abbrev pub Grown : List Key → List Key → Type 0
Grown ks ls = (ms : List Key) × (ls ≡ ks ++ ms)

grown_same : (ks : List Key) → Grown ks ks
grown_same ks = ([], sym (append-nil ks))

grown_on : (a b c : List Key) → Grown a b → Grown b c → Grown a c
grown_on a b c x y = (x.0 ++ y.0, y.1 ∙ ap (λ l. l ++ y.0) x.1 ∙ append_assoc a x.0 y.0)

called_on : (q : Piece) (a b : List Key) → Grown a b → Called a q → Called b q
called_on q a b x h = subst (λ l. Called l q) (sym x.1) (called_more q a x.0 h)

key_grown : (ks : List Key) (f : Key) (b : Bool) → Grown ks (if b then ks else ks ++ (f ∷ []))
key_grown ks f true = grown_same ks
key_grown ks f false = (f ∷ [], refl)

pub calls_grown : (q : Piece) (ks : List Key) → Grown ks (add_calls q ks)
calls_grown none ks = grown_same ks
calls_grown (seq a b) ks = grown_on ks (add_calls a ks) (add_calls b (add_calls a ks)) (calls_grown a ks) (calls_grown b (add_calls a ks))
calls_grown (plain i) ks = grown_same ks
calls_grown (asks f) ks = key_grown ks f (has_key ks f)
calls_grown (pick a b) ks = grown_on ks (add_calls a ks) (add_calls b (add_calls a ks)) (calls_grown a ks) (calls_grown b (add_calls a ks))
calls_grown (only a) ks = calls_grown a ks
calls_grown (loop t a b) ks = grown_on ks (add_calls t ks) (add_calls b (add_calls a (add_calls t ks))) (calls_grown t ks) (grown_on (add_calls t ks) (add_calls a (add_calls t ks)) (add_calls b (add_calls a (add_calls t ks))) (calls_grown a (add_calls t ks)) (calls_grown b (add_calls a (add_calls t ks))))
calls_grown (ever a b) ks = grown_on ks (add_calls a ks) (add_calls b (add_calls a ks)) (calls_grown a ks) (calls_grown b (add_calls a ks))
calls_grown out ks = grown_same ks
calls_grown next ks = grown_same ks
calls_grown gives ks = grown_same ks
calls_grown leaves ks = grown_same ks

pub key_fields : (f : Key) → same_key f f ≡ true
key_fields f = together (nat_eq f.class f.class) (nat_eq f.function f.function && nat_eq f.base f.base) (eq-eqb f.class f.class refl) (together (nat_eq f.function f.function) (nat_eq f.base f.base) (eq-eqb f.function f.function refl) (eq-eqb f.base f.base refl))

last_by : (b : Bool) (x : Bool) → x ≡ true → (if b then true else x) ≡ true
last_by true x e = refl
last_by false x e = e

has_last : (ks : List Key) (f : Key) → has_key (ks ++ (f ∷ [])) f ≡ true
has_last [] f = ap (λ (b : Bool). if b then true else false) (key_fields f)
has_last (k ∷ ks) f = last_by (same_key k f) (has_key (ks ++ (f ∷ [])) f) (has_last ks f)

key_added : (ks : List Key) (f : Key) (b : Bool) → has_key ks f ≡ b → has_key (if b then ks else ks ++ (f ∷ [])) f ≡ true
key_added ks f true e = e
key_added ks f false e = has_last ks f

-- the calls of a piece are among those that were added
calls_added : (q : Piece) (ks : List Key) → Called (add_calls q ks) q
calls_added none ks = tt
calls_added (seq a b) ks = (called_on a (add_calls a ks) (add_calls b (add_calls a ks)) (calls_grown b (add_calls a ks)) (calls_added a ks), calls_added b (add_calls a ks))
calls_added (plain i) ks = tt
calls_added (asks f) ks = key_added ks f (has_key ks f) refl
calls_added (pick a b) ks = (called_on a (add_calls a ks) (add_calls b (add_calls a ks)) (calls_grown b (add_calls a ks)) (calls_added a ks), calls_added b (add_calls a ks))
calls_added (only a) ks = calls_added a ks
calls_added (loop t a b) ks =
    let kt = add_calls t ks in
    let ka = add_calls a kt in
    let kb = add_calls b ka in
    (called_on t kt kb (grown_on kt ka kb (calls_grown a kt) (calls_grown b ka)) (calls_added t ks), called_on a ka kb (calls_grown b ka) (calls_added a kt), calls_added b ka)
calls_added (ever a b) ks = (called_on a (add_calls a ks) (add_calls b (add_calls a ks)) (calls_grown b (add_calls a ks)) (calls_added a ks), calls_added b (add_calls a ks))
calls_added out ks = tt
calls_added next ks = tt
calls_added gives ks = tt
calls_added leaves ks = tt

pub get_front : (ks ms : List Key) (j : ℕ) → j < length ks → slice_get (ks ++ ms) j ≡ slice_get ks j
get_front [] ms j lt = absurd (omega arith)
get_front (k ∷ ks) ms zero lt = refl
get_front (k ∷ ks) ms (suc j) lt = get_front ks ms j (omega arith)

pub get_none : (ks : List Key) (k : ℕ) → slice_get ks k ≡ None → length ks ≤ k
get_none [] k e = omega arith
get_none (x ∷ ks) zero e = cc
get_none (x ∷ ks) (suc k) e = omega (arith, get_none ks k e)

pub get_some : (ks : List Key) (k : ℕ) (f : Key) → slice_get ks k ≡ Some f → k < length ks
get_some [] k f e = cc
get_some (x ∷ ks) zero f e = omega arith
get_some (x ∷ ks) (suc k) f e = omega (arith, get_some ks k f e)

module _ (g : Drafts) where
  -- the calls of the first k functions are among them
  abbrev ClosedTo : ℕ → List Key → Type 0
  ClosedTo k ks = (j : ℕ) (f : Key) → j < k → slice_get ks j ≡ Some f → Called ks (key_piece g f)

  closed_next : (k : ℕ) (ks : List Key) (f : Key) → slice_get ks k ≡ Some f → ClosedTo k ks → ClosedTo (suc k) (add_calls (key_piece g f) ks)
  closed_next k ks f e c j o lt at =
      let q = key_piece g f in
      let gr = calls_grown q ks in
      let long = get_some ks k f e in
      let at1 : slice_get ks j ≡ Some o = sym (get_front ks gr.0 j (omega arith)) ∙ ap (λ l. slice_get l j) (sym gr.1) ∙ at in
      ⊎_elim (λ less. called_on (key_piece g o) ks (add_calls q ks) gr (c j o less at1))
      (λ le. let same : j ≡ k = omega arith in
      let w : f ≡ o = some_same (sym e ∙ ap (slice_get ks) (sym same) ∙ at1) in
      subst (λ o. Called (add_calls q ks) (key_piece g o)) w (calls_added q ks)) (cases_lt j k)
    where
      some_same : {A : Type 0} {x y : A} → Some x ≡ Some y → x ≡ y
      some_same e = cc

  reach_by : (n k : ℕ) (ks : List Key) → ClosedTo k ks → k ≤ length ks → ((ls : List Key) → ClosedTo (suc k) ls → suc k ≤ length ls → (ClosedTo (length (reach g n (suc k) ls)) (reach g n (suc k) ls)) ⊎ (suc k + n ≤ length (reach g n (suc k) ls))) → (o : Option Key) → slice_get ks k ≡ o →
      (ClosedTo (length (on_key o ks (λ f. reach g n (suc k) (add_calls (key_piece g f) ks)))) (on_key o ks (λ f. reach g n (suc k) (add_calls (key_piece g f) ks)))) ⊎ (k + suc n ≤ length (on_key o ks (λ f. reach g n (suc k) (add_calls (key_piece g f) ks))))
  reach_by n k ks c le rec None e = inl (λ j f lt at. c j f (omega (arith, get_none ks k e)) at)
  reach_by n k ks c le rec (Some f) e =
      let gr = calls_grown (key_piece g f) ks in
      let long : suc k ≤ length (add_calls (key_piece g f) ks) = omega (arith, get_some ks k f e, ap length gr.1, length-append ks gr.0) in
      ⊎_elim (λ x. inl x) (λ x. inr (omega (arith, x))) (rec (add_calls (key_piece g f) ks) (closed_next k ks f e c) long)

  reach_closed : (n k : ℕ) (ks : List Key) → ClosedTo k ks → k ≤ length ks → (ClosedTo (length (reach g n k ks)) (reach g n k ks)) ⊎ (k + n ≤ length (reach g n k ks))
  unfolding reach
  reach_closed zero k ks c le = inr (omega arith)
  reach_closed (suc n) k ks c le = reach_by n k ks c le (λ ls d more. reach_closed n (suc k) ls d more) (slice_get ks k) refl

  grown_by : (o : Option Key) (ks : List Key) (go : Key → List Key) → ((f : Key) → Grown ks (go f)) → Grown ks (on_key o ks go)
  grown_by None ks go h = grown_same ks
  grown_by (Some f) ks go h = h f

  pub reach_grown : (n k : ℕ) (ks : List Key) → Grown ks (reach g n k ks)
  unfolding reach
  reach_grown zero k ks = grown_same ks
  reach_grown (suc n) k ks = grown_by (slice_get ks k) ks (λ f. reach g n (suc k) (add_calls (key_piece g f) ks)) (λ f. grown_on ks (add_calls (key_piece g f) ks) (reach g n (suc k) (add_calls (key_piece g f) ks)) (calls_grown (key_piece g f) ks) (reach_grown n (suc k) (add_calls (key_piece g f) ks)))

  pub few_keys : (ks : List Key) → length ks ≤ total g ks
  few_keys [] = omega arith
  few_keys (f ∷ ks) = omega (arith, few_keys ks, key_some g f)

  -- all calls of all functions are among them, where the code is not too long
  pub keys_closed : (main : Key) → total g (keys g main) ≤ 65536 → ClosedTo (length (keys g main)) (keys g main)
  unfolding keys
  keys_closed main few = ⊎_elim (λ x. x) (λ x. absurd (omega (arith, x, few, few_keys (keys g main)))) (reach_closed 65537 0 (main ∷ []) (λ j f lt at. absurd (omega arith)) (omega arith))

  pub keys_first : (main : Key) → (rest : List Key) × (keys g main ≡ main ∷ rest)
  unfolding keys
  keys_first main = reach_grown 65537 0 (main ∷ [])
