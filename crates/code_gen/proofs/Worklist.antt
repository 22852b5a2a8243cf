-- One round of the worklist, and its end.
use Rattle.std.proofs.Common.{◌≡◌, ℕ, zero, suc, ◌+◌, ◌≤◌, List, [], ◌∷◌, ◌++◌, length, Some, None, refl, ap, ◌∙◌, arith, take, length-append}
use Rattle.std.specs.Prelude.{slice_get, map}
use Rattle.std.proofs.lemmas.List.{length-take}
use Rattle.code_gen.specs.Pieces.{Key, size, add_calls}
use Rattle.code_gen.specs.Drafts.{Drafts, key_piece, on_key, reach, total}
use Rattle.code_gen.proofs.Closed.{get_front, get_some, Grown, calls_grown, reach_grown, few_keys}

get_past : (ks : List Key) (k : ℕ) → length ks ≤ k → slice_get ks k ≡ None
get_past [] k le = refl
get_past (x ∷ ks) zero le = absurd (omega arith)
get_past (x ∷ ks) (suc k) le = get_past ks k (omega arith)

pub take_past : {A : Type 0} (ks : List A) (k : ℕ) → length ks ≤ k → take k ks ≡ ks
take_past [] zero le = refl
take_past [] (suc k) le = refl
take_past (x ∷ ks) zero le = absurd (omega arith)
take_past (x ∷ ks) (suc k) le = ap (λ l. x ∷ l) (take_past ks k (omega arith))

pub take_one : {A : Type 0} (xs : List A) (k : ℕ) (x : A) → slice_get xs k ≡ Some x → take (suc k) xs ≡ take k xs ++ (x ∷ [])
take_one [] k x e = cc
take_one (y ∷ xs) zero x e = let s : y ≡ x = cc in ap (λ y. y ∷ []) s
take_one (y ∷ xs) (suc k) x e = ap (λ l. y ∷ l) (take_one xs k x e)

pub take_more : (xs ys : List Key) (k : ℕ) → k ≤ length xs → take k (xs ++ ys) ≡ take k xs
take_more xs ys zero le = refl
take_more [] ys (suc k) le = absurd (omega arith)
take_more (x ∷ xs) ys (suc k) le = ap (λ l. x ∷ l) (take_more xs ys k (omega arith))

pub total_join : (g : Drafts) (a b : List Key) → total g (a ++ b) ≡ total g a + total g b
total_join g [] b = omega arith
total_join g (f ∷ a) b = omega (arith, total_join g a b)

map_join : {A B : Type 0} (f : A → B) (a b : List A) → map f (a ++ b) ≡ map f a ++ map f b
map_join f [] b = refl
map_join f (x ∷ a) b = ap (λ l. f x ∷ l) (map_join f a b)

pub total_take : (g : Drafts) (k : ℕ) (ks : List Key) → total g (take k ks) ≤ total g ks
total_take g zero ks = omega arith
total_take g (suc k) [] = omega arith
total_take g (suc k) (f ∷ ks) = omega (arith, total_take g k ks)

total_grown : (g : Drafts) (a b : List Key) → Grown a b → total g a ≤ total g b
total_grown g a b x = omega (arith, ap (total g) x.1, total_join g a x.0)

module _ (g : Drafts) where
  pub reach_done : (n k : ℕ) (ks : List Key) → length ks ≤ k → reach g n k ks ≡ ks
  unfolding reach
  reach_done zero k ks le = refl
  reach_done (suc n) k ks le = ap (λ o. on_key o ks (λ f. reach g n (suc k) (add_calls (key_piece g f) ks))) (get_past ks k le)

  pub reach_step : (n k : ℕ) (ks : List Key) (f : Key) → slice_get ks k ≡ Some f → reach g (suc n) k ks ≡ reach g n (suc k) (add_calls (key_piece g f) ks)
  unfolding reach
  reach_step n k ks f e = ap (λ o. on_key o ks (λ f. reach g n (suc k) (add_calls (key_piece g f) ks))) e

  -- the pieces and the sum, one function further
  pub next_taken : (k : ℕ) (ks : List Key) (f : Key) → slice_get ks k ≡ Some f → take (suc k) (add_calls (key_piece g f) ks) ≡ take k ks ++ (f ∷ [])
  next_taken k ks f e =
      let x = calls_grown (key_piece g f) ks in
      let lt = get_some ks k f e in
      ap (take (suc k)) x.1 ∙ take_one (ks ++ x.0) k f (get_front ks x.0 k lt ∙ e) ∙ ap (λ l. l ++ (f ∷ [])) (take_more ks x.0 k (omega (arith, lt)))

  pub next_total : (k : ℕ) (ks : List Key) (f : Key) → slice_get ks k ≡ Some f → total g (take (suc k) (add_calls (key_piece g f) ks)) ≡ total g (take k ks) + size (key_piece g f)
  next_total k ks f e = ap (total g) (next_taken k ks f e) ∙ (let h = total_join g (take k ks) (f ∷ []) in omega (arith, h))

  -- what was counted is in the end's sum
  pub reach_total : (n k j : ℕ) (ks : List Key) → total g (take j ks) ≤ total g (reach g n k ks)
  reach_total n k j ks = omega (arith, total_take g j ks, total_grown g ks (reach g n k ks) (reach_grown g n k ks))

  pub taken_some : (k : ℕ) (ks : List Key) → k ≤ length ks → k ≤ total g (take k ks)
  taken_some k ks le = omega (arith, few_keys g (take k ks), length-take k ks)

  pub calls_long : (f : Key) (ks : List Key) → length ks ≤ length (add_calls (key_piece g f) ks)
  calls_long f ks = let x = calls_grown (key_piece g f) ks in omega (arith, ap length x.1, length-append ks x.0)
