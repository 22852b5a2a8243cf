-- Laws of readers that are made of others.
use Rattle.std.proofs.Common.{◌≡◌, ℕ, zero, suc, ◌≤◌, List, [], ◌∷◌, ◌++◌, length, drop, Ok, refl, sym, ap, subst, ◌∙◌, append_assoc, arith}
use Rattle.std.specs.List.{AllByRecursion, flat_map}
use Rattle.std.proofs.lemmas.List.{append-nil, drop_at, drop_all}
use Rattle.code_file.specs.Numbers.{be, with_length}
use Rattle.code_file.specs.Reading.{Reader, ◌>>=◌, both, counted_at, gather, map_reader, number_at, times}
use Rattle.code_file.proofs.Laws.{Laws, bind_laws, pure_laws, same_laws}

pub made_laws : {A B : Type 0} (r : Reader A) (f : A → B) (sp1 : A → List ℕ) (F1 : A → Type 0) (sp : B → List ℕ) (F : B → Type 0) → Laws r sp1 F1
    → ((a : A) → F1 a → F (f a) × (sp (f a) ≡ sp1 a)) → ((b : B) → F b → (a : A) × F1 a × (b ≡ f a)) → Laws (map_reader r f) sp F
made_laws {A = A} {B = B} r f sp1 F1 sp F l to from =
    bind_laws A B r (λ a bytes. Ok (f a, bytes)) sp1 F1 (λ a c. []) (λ a c. c ≡ f a) sp F
    (record {
      join = λ a c f1 e. (subst F (sym e) (to a f1).0, ap sp e ∙ (to a f1).1 ∙ sym (append-nil (sp1 a)));
      split = from;
    }) l (λ a f1. pure_laws (f a))

pub both_laws : {A B : Type 0} (r : Reader A) (s : Reader B) (sp1 : A → List ℕ) (F1 : A → Type 0) (sp2 : B → List ℕ) (F2 : B → Type 0) → Laws r sp1 F1 → Laws s sp2 F2
    → Laws (both r s) (λ (p : A × B). sp1 p.0 ++ sp2 p.1) (λ (p : A × B). F1 p.0 × F2 p.1)
both_laws {A = A} {B = B} r s sp1 F1 sp2 F2 l1 l2 =
    bind_laws A (A × B) r (λ a bytes. s bytes >>= λ y. Ok ((a, y.0), y.1)) sp1 F1 (λ a c. sp2 c.1) (λ a c. F2 c.1 × (c.0 ≡ a)) (λ p. sp1 p.0 ++ sp2 p.1) (λ p. F1 p.0 × F2 p.1)
    (record {
      join = λ a c f1 f2. ((subst F1 (sym f2.1) f1, f2.0), ap (λ x. sp1 x ++ sp2 c.1) f2.1);
      split = λ c f. (c.0, f.0, (f.1, refl));
    }) l1 (λ a f1. made_laws s (λ y. (a, y)) sp2 F2 (λ (c : A × B). sp2 c.1) (λ (c : A × B). F2 c.1 × (c.0 ≡ a)) l2 (λ y f2. ((f2, refl), refl)) (λ c f. (c.1, f.0, λ i. (f.1 i, c.1))))

-- so many values behind those that are done, each by what stands before it and how many follow it
abbrev pub AreGathered : {A : Type 0} → (List A → ℕ → A → Type 0) → ℕ → List A → List A → Type 0
AreGathered P zero done [] = Unit {0}
AreGathered P zero done (x ∷ xs) = ⊥
AreGathered P (suc n) done [] = ⊥
AreGathered P (suc n) done (x ∷ xs) = P done n x × AreGathered P n (done ++ x ∷ []) xs

pub record Behind {A : Type 0} (P : List A → ℕ → A → Type 0) (n : ℕ) (done c : List A) : Type 0 where
  pub more : List A
  pub is : c ≡ done ++ more
  pub each : AreGathered P n done more

module _ (A : Type 0) (item : List A → ℕ → Reader A) (sp : A → List ℕ) (P : List A → ℕ → A → Type 0) (Can : List A → ℕ → Type 0)
    (laws : (done : List A) (n : ℕ) → Can done (suc n) → Laws (item done n) sp (P done n)) (step : (done : List A) (n : ℕ) (x : A) → Can done (suc n) → P done n x → Can (done ++ x ∷ []) n) where
  abbrev spelled : List A → List A → List ℕ
  spelled done c = flat_map sp (drop (length done) c)

  joined : (n : ℕ) (done : List A) (a : A) (c : List A) → P done n a → Behind P n (done ++ a ∷ []) c → Behind P (suc n) done c × (spelled done c ≡ sp a ++ spelled (done ++ a ∷ []) c)
  joined n done a c p b =
      let is : c ≡ done ++ a ∷ b.more = b.is ∙ append_assoc done (a ∷ []) b.more in
      let whole : spelled done c ≡ sp a ++ flat_map sp b.more = ap (spelled done) is ∙ ap (flat_map sp) (drop_at done (a ∷ b.more) (length done) refl) in
      let rest : spelled (done ++ a ∷ []) c ≡ flat_map sp b.more = ap (spelled (done ++ a ∷ [])) b.is ∙ ap (flat_map sp) (drop_at (done ++ a ∷ []) b.more (length (done ++ a ∷ [])) refl) in
      (record { more = a ∷ b.more; is = is; each = (p, b.each) }, whole ∙ ap (λ z. sp a ++ z) (sym rest))

  parted : (n : ℕ) (done c : List A) → Behind P (suc n) done c → (a : A) × P done n a × Behind P n (done ++ a ∷ []) c
  parted n done c b = by b.more b.is b.each
    where
      by : (more : List A) → c ≡ done ++ more → AreGathered P (suc n) done more → (a : A) × P done n a × Behind P n (done ++ a ∷ []) c
      by [] is each = absurd each
      by (x ∷ xs) is each = (x, each.0, record { more = xs; is = is ∙ sym (append_assoc done (x ∷ []) xs); each = each.1 })

  nothing : (done c : List A) → Behind P zero done c → c ≡ done
  nothing done c b = by b.more b.is b.each
    where
      by : (more : List A) → c ≡ done ++ more → AreGathered P zero done more → c ≡ done
      by [] is each = is ∙ append-nil done
      by (x ∷ xs) is each = absurd each

  pub gather_from : (n : ℕ) (done : List A) → Can done n → Laws (gather item n done) (spelled done) (Behind P n done)
  unfolding gather
  gather_from zero done can = same_laws (λ bytes. Ok (done, bytes)) (λ c. []) (spelled done) (λ c. c ≡ done) (Behind P zero done) (pure_laws done)
      (λ c e. record { more = []; is = e ∙ sym (append-nil done); each = tt }) (nothing done)
      (λ c b. sym (ap (flat_map sp) (ap (drop (length done)) (nothing done c b) ∙ drop_all (length done) done (omega arith))))
  gather_from (suc n) done can = bind_laws A (List A) (item done n) (λ a. gather item n (done ++ a ∷ [])) sp (P done n) (λ a. spelled (done ++ a ∷ [])) (λ a. Behind P n (done ++ a ∷ [])) (spelled done) (Behind P (suc n) done)
      (record { join = joined n done; split = parted n done }) (laws done n can) (λ a p. gather_from n (done ++ a ∷ []) (step done n a can p))

  pub gather_laws : (n : ℕ) → Can [] n → Laws (gather item n []) (flat_map sp) (AreGathered P n [])
  gather_laws n can = same_laws (gather item n []) (spelled []) (flat_map sp) (Behind P n []) (AreGathered P n []) (gather_from n [] can)
      (λ c b. subst (AreGathered P n []) (sym b.is) b.each) (λ c each. record { more = c; is = refl; each = each }) (λ c each. refl)

-- so many of one kind
all_of : {A : Type 0} (F : A → Type 0) (n : ℕ) (done xs : List A) → AreGathered (λ d k. F) n done xs → (length xs ≡ n) × AllByRecursion F xs
all_of F zero done [] h = (refl, tt)
all_of F zero done (x ∷ xs) h = absurd h
all_of F (suc n) done [] h = absurd h
all_of F (suc n) done (x ∷ xs) h = let r = all_of F n (done ++ x ∷ []) xs h.1 in (ap suc r.0, (h.0, r.1))

of_all : {A : Type 0} (F : A → Type 0) (n : ℕ) (done xs : List A) → (length xs ≡ n) × AllByRecursion F xs → AreGathered (λ d k. F) n done xs
of_all F zero done [] h = tt
of_all F zero done (x ∷ xs) h = absurd (omega (arith, h.0))
of_all F (suc n) done [] h = absurd (omega (arith, h.0))
of_all F (suc n) done (x ∷ xs) h = (h.1.0, of_all F n (done ++ x ∷ []) xs (omega (arith, h.0), h.1.1))

pub times_laws : {A : Type 0} (r : Reader A) (sp : A → List ℕ) (F : A → Type 0) (n : ℕ) → Laws r sp F → Laws (times r n) (flat_map sp) (λ xs. (length xs ≡ n) × AllByRecursion F xs)
times_laws {A = A} r sp F n l =
    same_laws (times r n) (flat_map sp) (flat_map sp) (AreGathered (λ d k. F) n []) (λ xs. (length xs ≡ n) × AllByRecursion F xs)
    (gather_laws A (λ done left. r) sp (λ d k. F) (λ done left. Unit {0}) (λ done k can. l) (λ done k x can p. tt) n tt)
    (all_of F n []) (of_all F n []) (λ c f. refl)

-- a list behind its length
pub counted_laws : {A : Type 0} (w least greatest : ℕ) (r : Reader A) (sp : A → List ℕ) (F : A → Type 0) → Laws (number_at w least greatest) (be w) (λ n. (least ≤ n) × (n ≤ greatest)) → Laws r sp F
    → Laws (counted_at w least greatest r) (with_length w sp) (λ xs. ((least ≤ length xs) × (length xs ≤ greatest)) × AllByRecursion F xs)
counted_laws {A = A} w least greatest r sp F number l =
    bind_laws ℕ (List A) (number_at w least greatest) (λ n. times r n) (be w) (λ n. (least ≤ n) × (n ≤ greatest)) (λ n. flat_map sp) (λ n xs. (length xs ≡ n) × AllByRecursion F xs) (with_length w sp) (λ xs. ((least ≤ length xs) × (length xs ≤ greatest)) × AllByRecursion F xs)
    (record {
      join = λ n xs f1 f2. ((subst (λ k. (least ≤ k) × (k ≤ greatest)) (sym f2.0) f1, f2.1), ap (λ k. be w k ++ flat_map sp xs) f2.0);
      split = λ xs f. (length xs, f.0, (refl, f.1));
    }) number (λ n f. times_laws r sp F n l)
