-- The worklist gives each function once, in the order of first calls.
use Rattle.std.proofs.Common.{◌≡◌, ℕ, zero, suc, ◌+◌, ◌<◌, ◌≤◌, ◌⊎◌, inl, inr, ⊎_elim, List, [], ◌∷◌, ◌++◌, length, take, Option, Some, None, refl, sym, ap, ◌∙◌, subst, arith, Bool, true, false, length-append, append_assoc, append-nil}
use Rattle.std.specs.Prelude.{slice_get, if◌then◌else◌}
use Rattle.std.proofs.lemmas.List.Concat.{flat_map-append}
use Rattle.list_laws.proofs.Members.{In, in_left, in_right, in_either, place_in, contains_in, in_contains}
use Rattle.code_gen.specs.Pieces.{Key, Piece, none, seq, plain, asks, pick, only, loop, ever, out, next, gives, leaves, same_key, key_number, has_key, add_key, add_calls}
use Rattle.code_gen.specs.Drafts.{Drafts, key_piece, on_key, reach, keys}
use Rattle.code_gen.specs.Limits.{IsShort}
use Rattle.code_gen.specs.FirstCalls.{calls, all_calls, IsFirst, AreByFirstCall}
use Rattle.code_gen.proofs.Laid.{key_there}
use Rattle.code_gen.proofs.Closed.{key_fields, calls_grown, get_front, get_none, get_some, few_keys}
use Rattle.code_gen.proofs.Worklist.{take_past, take_more, next_taken, calls_long}

-- Places in lists of functions

some_same : {A : Type 0} {x y : A} → Some x ≡ Some y → x ≡ y
some_same e = cc

get_in : (fs : List Key) (i : ℕ) (f : Key) → slice_get fs i ≡ Some f → In f fs
get_in [] i f e = cc
get_in (x ∷ fs) zero f e = inl (sym (some_same e))
get_in (x ∷ fs) (suc i) f e = inr (get_in fs i f e)

no_key : (fs : List Key) (f : Key) → has_key fs f ≡ false → In f fs → ⊥
no_key [] f e i = i
no_key (k ∷ fs) f e i = go (same_key k f) refl e (no_key fs f)
  where
    go : (b : Bool) → same_key k f ≡ b → (if b then true else has_key fs f) ≡ false → (has_key fs f ≡ false → In f fs → ⊥) → ⊥
    go true is h rec = cc
    go false is h rec = ⊎_elim (λ same. let t : same_key k f ≡ true = subst (λ k. same_key k f ≡ true) same (key_fields f) in absurd (cc (t, is))) (λ j. rec h j) i

-- what stands in a list with one more: in the list itself, or at its end
last_place : (fs : List Key) (f h : Key) (i : ℕ) → slice_get (fs ++ (f ∷ [])) i ≡ Some h → (slice_get fs i ≡ Some h) ⊎ ((i ≡ length fs) × (h ≡ f))
last_place [] f h zero e = inr (refl, sym (some_same e))
last_place [] f h (suc i) e = cc
last_place (x ∷ fs) f h zero e = inl e
last_place (x ∷ fs) f h (suc i) e = ⊎_elim (λ old. inl old) (λ end. inr (ap suc end.0, end.1)) (last_place fs f h i e)

-- the first place of a function, before and after one more call
first_old : (cs : List Key) (c f : Key) (a : ℕ) → In f cs → IsFirst (cs ++ (c ∷ [])) f a → IsFirst cs f a
first_old cs c f a i x =
    let p = place_in cs f i in
    let within = get_some cs p.0 f p.1 in
    ⊎_elim {C = IsFirst cs f a} (λ (old : slice_get cs a ≡ Some f). record { here = old; not_before = λ j lt e. x.not_before j lt (get_front cs (c ∷ []) j (get_some cs j f e) ∙ e) })
    (λ (end : (a ≡ length cs) × (f ≡ c)). absurd (x.not_before p.0 (omega (arith, within, end.0)) (get_front cs (c ∷ []) p.0 within ∙ p.1))) (last_place cs c f a x.here)

first_new : (cs : List Key) (c f : Key) (a : ℕ) → f ≡ c → (In c cs → ⊥) → IsFirst (cs ++ (c ∷ [])) f a → a ≡ length cs
first_new cs c f a same absent x = ⊎_elim (λ old. absurd (absent (subst (λ k. In k cs) same (get_in cs a f old)))) (λ end. end.0) (last_place cs c f a x.here)

-- the functions of some calls, each once and in the order of their first calls
record Firsts (cs fs : List Key) : Type 0 where
  once : (i j : ℕ) (f : Key) → slice_get fs i ≡ Some f → slice_get fs j ≡ Some f → i ≡ j
  from : (f : Key) → In f fs → In f cs
  to : (f : Key) → In f cs → In f fs
  order : (i j a b : ℕ) (f h : Key) → i < j → slice_get fs i ≡ Some f → slice_get fs j ≡ Some h → IsFirst cs f a → IsFirst cs h b → a < b

firsts_none : Firsts [] []
firsts_none = record { once = λ i j f p q. cc; from = λ f i. i; to = λ f i. i; order = λ i j a b f h lt p q x y. cc }

-- one more call
module _ (cs fs : List Key) (c : Key) (x : Firsts cs fs) where
  again : has_key fs c ≡ true → Firsts (cs ++ (c ∷ [])) fs
  again e =
      let there : In c fs = get_in fs (key_number fs c) c (key_there fs c e) in
      record {
        once = x.once;
        from = λ h i. in_left cs (c ∷ []) h (x.from h i);
        to = λ h i. ⊎_elim (λ old. x.to h old) (λ end. ⊎_elim (λ same. subst (λ k. In k fs) (sym same) there) (λ n. absurd n) end) (in_either cs (c ∷ []) h i);
        order = λ i j a b m n lt p q s t. x.order i j a b m n lt p q (first_old cs c m a (x.from m (get_in fs i m p)) s) (first_old cs c n b (x.from n (get_in fs j n q)) t);
      }

  module _ (absent : In c fs → ⊥) where
    once_more : (i j : ℕ) (h : Key) → ((slice_get fs i ≡ Some h) ⊎ ((i ≡ length fs) × (h ≡ c))) → ((slice_get fs j ≡ Some h) ⊎ ((j ≡ length fs) × (h ≡ c))) → i ≡ j
    once_more i j h (inl p) (inl q) = x.once i j h p q
    once_more i j h (inl p) (inr q) = absurd (absent (subst (λ k. In k fs) q.1 (get_in fs i h p)))
    once_more i j h (inr p) (inl q) = absurd (absent (subst (λ k. In k fs) p.1 (get_in fs j h q)))
    once_more i j h (inr p) (inr q) = p.0 ∙ sym q.0

    in_turn : (i j a b : ℕ) (m n : Key) → i < j → ((slice_get fs i ≡ Some m) ⊎ ((i ≡ length fs) × (m ≡ c))) → ((slice_get fs j ≡ Some n) ⊎ ((j ≡ length fs) × (n ≡ c))) → IsFirst (cs ++ (c ∷ [])) m a → IsFirst (cs ++ (c ∷ [])) n b → a < b
    in_turn i j a b m n lt (inl p) (inl q) s t = x.order i j a b m n lt p q (first_old cs c m a (x.from m (get_in fs i m p)) s) (first_old cs c n b (x.from n (get_in fs j n q)) t)
    in_turn i j a b m n lt (inl p) (inr q) s t =
        let before = first_old cs c m a (x.from m (get_in fs i m p)) s in
        let within = get_some cs a m before.here in
        let end = first_new cs c n b q.1 (λ i. absent (x.to c i)) t in
        omega (arith, within, end)
    in_turn i j a b m n lt (inr p) (inl q) s t = let within = get_some fs j n q in absurd (omega (arith, within, p.0, lt))
    in_turn i j a b m n lt (inr p) (inr q) s t = absurd (omega (arith, p.0, q.0, lt))

    first_time : Firsts (cs ++ (c ∷ [])) (fs ++ (c ∷ []))
    first_time = record {
      once = λ i j h p q. once_more i j h (last_place fs c h i p) (last_place fs c h j q);
      from = λ h i. ⊎_elim (λ old. in_left cs (c ∷ []) h (x.from h old)) (λ end. in_right cs (c ∷ []) h end) (in_either fs (c ∷ []) h i);
      to = λ h i. ⊎_elim (λ old. in_left fs (c ∷ []) h (x.to h old)) (λ end. in_right fs (c ∷ []) h end) (in_either cs (c ∷ []) h i);
      order = λ i j a b m n lt p q s t. in_turn i j a b m n lt (last_place fs c m i p) (last_place fs c n j q) s t;
    }

  one_more : (b : Bool) → has_key fs c ≡ b → Firsts (cs ++ (c ∷ [])) (if b then fs else fs ++ (c ∷ []))
  one_more true e = again e
  one_more false e = first_time (no_key fs c e)

-- Calls added one after another

abbrev add_all : List Key → List Key → List Key
add_all fs [] = fs
add_all fs (c ∷ cs) = add_all (add_key fs c) cs

add_join : (fs a b : List Key) → add_all fs (a ++ b) ≡ add_all (add_all fs a) b
add_join fs [] b = refl
add_join fs (c ∷ a) b = add_join (add_key fs c) a b

add_two : (a b : Piece) (fs : List Key) → ((gs : List Key) → add_calls a gs ≡ add_all gs (calls a)) → ((gs : List Key) → add_calls b gs ≡ add_all gs (calls b)) → add_calls b (add_calls a fs) ≡ add_all fs (calls a ++ calls b)
add_two a b fs x y = y (add_calls a fs) ∙ ap (λ l. add_all l (calls b)) (x fs) ∙ sym (add_join fs (calls a) (calls b))

calls_are : (q : Piece) (fs : List Key) → add_calls q fs ≡ add_all fs (calls q)
calls_are none fs = refl
calls_are (seq a b) fs = add_two a b fs (calls_are a) (calls_are b)
calls_are (plain i) fs = refl
calls_are (asks f) fs = refl
calls_are (pick a b) fs = add_two a b fs (calls_are a) (calls_are b)
calls_are (only a) fs = calls_are a fs
calls_are (loop t a b) fs =
    add_two a b (add_calls t fs) (calls_are a) (calls_are b)
    ∙ ap (λ l. add_all l (calls a ++ calls b)) (calls_are t fs)
    ∙ sym (add_join fs (calls t) (calls a ++ calls b))
calls_are (ever a b) fs = add_two a b fs (calls_are a) (calls_are b)
calls_are out fs = refl
calls_are next fs = refl
calls_are gives fs = refl
calls_are leaves fs = refl

firsts_all : (cs fs more : List Key) → Firsts cs fs → Firsts (cs ++ more) (add_all fs more)
firsts_all cs fs [] x = subst (λ l. Firsts l fs) (sym (append-nil cs)) x
firsts_all cs fs (c ∷ more) x =
    let y = firsts_all (cs ++ (c ∷ [])) (add_key fs c) more (one_more cs fs c x (has_key fs c) refl) in
    subst (λ l. Firsts l (add_all (add_key fs c) more)) (append_assoc cs (c ∷ []) more) y

-- what stands in the longer list stood there before, or is behind and was called
added_from : (fs more : List Key) (j : ℕ) (f : Key) → slice_get (add_all fs more) j ≡ Some f → (slice_get fs j ≡ Some f) ⊎ ((length fs ≤ j) × In f more)
added_from fs [] j f e = inl e
added_from fs (c ∷ more) j f e = ⊎_elim (λ old. one_from (has_key fs c) old) (λ x. let le = longer (has_key fs c) in inr (omega (arith, le, x.0), inr x.1)) (added_from (add_key fs c) more j f e)
  where
    longer : (b : Bool) → length fs ≤ length (if b then fs else fs ++ (c ∷ []))
    longer true = omega arith
    longer false = omega (arith, length-append fs (c ∷ []))

    one_from : (b : Bool) → slice_get (if b then fs else fs ++ (c ∷ [])) j ≡ Some f → (slice_get fs j ≡ Some f) ⊎ ((length fs ≤ j) × In f (c ∷ more))
    one_from true old = inl old
    one_from false old = ⊎_elim (λ p. inl p) (λ end. inr (omega (arith, end.0), inl end.1)) (last_place fs c f j old)

-- The worklist

module _ (g : Drafts) where
  taken_more : (m n : ℕ) (fs : List Key) (f : Key) → m ≤ n → In f (all_calls g (take m fs)) → In f (all_calls g (take n fs))
  taken_more zero n fs f le i = absurd i
  taken_more (suc m) n [] f le i = absurd i
  taken_more (suc m) zero (h ∷ fs) f le i = absurd (omega arith)
  taken_more (suc m) (suc n) (h ∷ fs) f le i =
      ⊎_elim (λ here. in_left (calls (key_piece g h)) (all_calls g (take n fs)) f here)
      (λ there. in_right (calls (key_piece g h)) (all_calls g (take n fs)) f (taken_more m n fs f (omega arith) there))
      (in_either (calls (key_piece g h)) (all_calls g (take m fs)) f i)

  module _ (main : Key) where
    -- the functions that the calls of the first k give
    record Walk (k : ℕ) (fs : List Key) : Type 0 where
      first : slice_get fs 0 ≡ Some main
      firsts : Firsts (main ∷ all_calls g (take k fs)) fs
      called : (j : ℕ) (f : Key) → slice_get fs (suc j) ≡ Some f → In f (all_calls g (take (suc j) fs))

    walk_start : Walk 0 (main ∷ [])
    walk_start = record { first = refl; firsts = one_more [] [] main firsts_none false refl; called = λ j f e. cc }

    module _ (k : ℕ) (fs : List Key) (f : Key) (at : slice_get fs k ≡ Some f) (w : Walk k fs) where
      abbrev grown : List Key
      grown = add_calls (key_piece g f) fs

      taken : all_calls g (take (suc k) grown) ≡ all_calls g (take k fs) ++ calls (key_piece g f)
      taken = ap (all_calls g) (next_taken g k fs f at) ∙ flat_map-append (λ h. calls (key_piece g h)) (take k fs) (f ∷ []) ∙ ap (λ l. all_calls g (take k fs) ++ l) (append-nil (calls (key_piece g f)))

      called_next : (j : ℕ) (h : Key) → ((slice_get fs (suc j) ≡ Some h) ⊎ ((length fs ≤ suc j) × In h (calls (key_piece g f)))) → In h (all_calls g (take (suc j) grown))
      called_next j h (inl old) =
          let more = calls_grown (key_piece g f) fs in
          let within = get_some fs (suc j) h old in
          let same : take (suc j) grown ≡ take (suc j) fs = ap (take (suc j)) more.1 ∙ take_more fs more.0 (suc j) (omega (arith, within)) in
          subst (λ l. In h (all_calls g l)) (sym same) (w.called j h old)
      called_next j h (inr x) =
          let within = get_some fs k f at in
          let here : In h (all_calls g (take (suc k) grown)) = subst (In h) (sym taken) (in_right (all_calls g (take k fs)) (calls (key_piece g f)) h x.1) in
          taken_more (suc k) (suc j) grown h (omega (arith, within, x.0)) here

      walk_next : Walk (suc k) grown
      walk_next =
          let q = key_piece g f in
          let more = calls_grown q fs in
          let some = get_some fs 0 main w.first in
          let x : Firsts (main ∷ (all_calls g (take k fs) ++ calls q)) (add_all fs (calls q)) = firsts_all (main ∷ all_calls g (take k fs)) fs (calls q) w.firsts in
          record {
            first = ap (λ l. slice_get l 0) more.1 ∙ get_front fs more.0 0 some ∙ w.first;
            firsts = subst (λ l. Firsts (main ∷ l) grown) (sym taken) (subst (λ l. Firsts (main ∷ (all_calls g (take k fs) ++ calls q)) l) (sym (calls_are q fs)) x);
            called = λ j h e. called_next j h (added_from fs (calls q) (suc j) h (ap (λ l. slice_get l (suc j)) (sym (calls_are q fs)) ∙ e));
          }

    -- the walk ends where all functions were looked at
    module _ (fs : List Key) (first : slice_get fs 0 ≡ Some main) (x : Firsts (main ∷ all_calls g fs) fs) where
      later : (i a : ℕ) (f : Key) → slice_get fs (suc i) ≡ Some f → IsFirst (all_calls g fs) f a → IsFirst (main ∷ all_calls g fs) f (suc a)
      later i a f at y = record { here = y.here; not_before = none_before }
        where
          none_before : (j : ℕ) → j < suc a → slice_get (main ∷ all_calls g fs) j ≡ Some f → ⊥
          none_before zero lt e = let same = x.once 0 (suc i) f (first ∙ e) at in absurd (omega (arith, same))
          none_before (suc j) lt e = y.not_before j (omega arith) e

    walk_end : (k : ℕ) (fs : List Key) → length fs ≤ k → Walk k fs → AreByFirstCall g main fs
    walk_end k fs le w =
        let x : Firsts (main ∷ all_calls g fs) fs = subst (λ l. Firsts (main ∷ all_calls g l) fs) (take_past fs k le) w.firsts in
        record {
          first = w.first;
          once = x.once;
          called = λ j f e. in_contains (all_calls g (take (suc j) fs)) f (w.called j f e);
          whole = λ f c. in_contains fs f (x.to f (inr (contains_in (all_calls g fs) f c)));
          order = λ i j a b f h lt p q s t. let r = x.order (suc i) (suc j) (suc a) (suc b) f h (omega (arith, lt)) p q (later fs w.first x i a f p s) (later fs w.first x j b h q t) in omega (arith, r);
        }

    abbrev Ends : ℕ → ℕ → List Key → Type 0
    Ends n k fs = AreByFirstCall g main fs ⊎ (k + n ≤ length fs)

    ends_by : (n k : ℕ) (fs : List Key) → Walk k fs → ((gs : List Key) → Walk (suc k) gs → suc k ≤ length gs → Ends n (suc k) (reach g n (suc k) gs)) → (o : Option Key) → slice_get fs k ≡ o → Ends (suc n) k (on_key o fs (λ f. reach g n (suc k) (add_calls (key_piece g f) fs)))
    ends_by n k fs w rec None e = inl (walk_end k fs (get_none fs k e) w)
    ends_by n k fs w rec (Some f) e =
        let within = get_some fs k f e in
        let long = calls_long g f fs in
        ⊎_elim (λ x. inl x) (λ x. inr (omega (arith, x))) (rec (add_calls (key_piece g f) fs) (walk_next k fs f e w) (omega (arith, within, long)))

    walk : (n k : ℕ) (fs : List Key) → Walk k fs → k ≤ length fs → Ends n k (reach g n k fs)
    unfolding reach
    walk zero k fs w le = inr (omega (arith, le))
    walk (suc n) k fs w le = ends_by n k fs w (λ gs v more. walk n (suc k) gs v more) (slice_get fs k) refl

pub by_first_call : (g : Drafts) (main : Key) → IsShort g main → AreByFirstCall g main (keys g main)
unfolding keys
by_first_call g main short = ⊎_elim (λ x. x) (λ x. absurd (omega (arith, x, short.few, few_keys g (keys g main)))) (walk g main 65537 0 (main ∷ []) (walk_start g main) (omega arith))
