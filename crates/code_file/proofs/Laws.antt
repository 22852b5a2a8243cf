-- Laws of readers: what is read is spelled so, what is spelled so is read again, and where a reader stops, no value goes on
-- with the next byte.
use Rattle.std.proofs.Common.{◌≡◌, ℕ, suc, ◌<◌, Bool, true, false, cond, List, [], ◌∷◌, ◌++◌, length, get_or, Result, Ok, Err, refl, sym, ap, subst, ◌∙◌, append_assoc, arith, inl, inr}
use Rattle.std.specs.Prelude.{◌⊎◌}
use Rattle.code_file.specs.Reading.{Reader, ◌>>=◌, byte_at}

abbrev pub IsBytes : List ℕ → Type 0
IsBytes bytes = (i : ℕ) → get_or bytes i 0 < 256

pub no_bytes : IsBytes []
no_bytes i = omega arith

pub bytes_tail : (front rest : List ℕ) → IsBytes (front ++ rest) → IsBytes rest
bytes_tail [] rest h = h
bytes_tail (b ∷ front) rest h = bytes_tail front rest (λ i. h (suc i))

-- one list parted in two ways: one front goes on with the other
pub parted : (a b c d : List ℕ) → a ++ b ≡ c ++ d → ((m : List ℕ) × (a ≡ c ++ m)) ⊎ ((m : List ℕ) × (c ≡ a ++ m))
parted a b [] d e = inl (a, refl)
parted [] b (x ∷ c) d e = inr (x ∷ c, refl)
parted (y ∷ a) b (x ∷ c) d e =
    let h : y ≡ x = cc in
    let t : a ++ b ≡ c ++ d = cc in
    elim (parted a b c d t) [ inl p ↦ inl (p.0, λ i. h i ∷ p.1 i) | inr p ↦ inr (p.0, λ i. (sym h) i ∷ p.1 i) ]

pub bind_ok : {A B : Type 0} (r : Result A ℕ) (f : A → Result B ℕ) (y : B) → (r >>= f) ≡ Ok y → (x : A) × (r ≡ Ok x) × (f x ≡ Ok y)
bind_ok (Ok x) f y e = (x, refl, e)
bind_ok (Err d) f y e = absurd cc

pub bind_err : {A B : Type 0} (r : Result A ℕ) (f : A → Result B ℕ) (d : ℕ) → (r >>= f) ≡ Err d → (r ≡ Err d) ⊎ ((x : A) × (r ≡ Ok x) × (f x ≡ Err d))
bind_err (Ok x) f d e = inr (x, refl, e)
bind_err (Err c) f d e = let same : c ≡ d = cc in inl (ap Err same)

abbrev read : {A : Type 0} → A → List ℕ → Result (A × List ℕ) ℕ
read a rest = Ok (a, rest)

pub ok_parts : {A : Type 0} (a b : A) (x y : List ℕ) → read a x ≡ read b y → (a ≡ b) × (x ≡ y)
ok_parts {A = A} a b x y e =
    let pair : (a, x) ≡ (b, y) = cc in
    (ap (λ (p : A × List ℕ). p.0) pair, ap (λ (p : A × List ℕ). p.1) pair)

-- no value goes on with the next byte
abbrev pub IsWrong : {A : Type 0} → (A → List ℕ) → (A → Type 0) → List ℕ → List ℕ → Type 0
IsWrong sp F before [] = Unit {0}
IsWrong {A = A} sp F before (b ∷ after) = (a : A) (more : List ℕ) → F a → sp a ≡ (before ++ b ∷ []) ++ more → ⊥

-- a reader stopped: what stands before begins a value, and with the next byte nothing does
pub record Stops {A : Type 0} (sp : A → List ℕ) (F : A → Type 0) (bytes : List ℕ) (left : ℕ) : Type 0 where
  pub before : List ℕ
  pub after : List ℕ
  pub parts : bytes ≡ before ++ after
  pub left_is : left ≡ length after
  pub value : A
  pub fits : F value
  pub more : List ℕ
  pub begins : sp value ≡ before ++ more
  pub wrong : IsWrong sp F before after

-- a reader of the values that fit, each of which has one spelling
pub record Laws {A : Type 0} (r : Reader A) (sp : A → List ℕ) (F : A → Type 0) : Type 0 where
  pub got : (bytes : List ℕ) (a : A) (rest : List ℕ) → IsBytes bytes → r bytes ≡ Ok (a, rest) → F a × (bytes ≡ sp a ++ rest)
  pub again : (a : A) (rest : List ℕ) → F a → r (sp a ++ rest) ≡ Ok (a, rest)
  pub bad : (bytes : List ℕ) (left : ℕ) → IsBytes bytes → r bytes ≡ Err left → Stops sp F bytes left

-- some value fits
pub some : {A : Type 0} (r : Reader A) (sp : A → List ℕ) (F : A → Type 0) → Laws r sp F → (a : A) × F a
some {A = A} r sp F l = by (r []) refl
  where
    by : (o : Result (A × List ℕ) ℕ) → r [] ≡ o → (a : A) × F a
    by (Ok x) e = (x.0, (l.got [] x.0 x.1 no_bytes e).0)
    by (Err d) e = let s = l.bad [] d no_bytes e in (s.value, s.fits)

-- nothing is read
pub pure_laws : {A : Type 0} (a : A) → Laws (λ bytes. Ok (a, bytes)) (λ (c : A). []) (λ c. c ≡ a)
pure_laws {A = A} a = record {
  got = λ bytes c rest bs e. let p = ok_parts a c bytes rest e in (sym p.0, p.1);
  again = λ c rest f. ap (λ (x : A). read x rest) (sym f);
  bad = λ bytes left bs e. absurd cc;
}

-- the same reader, with another way to say what is spelled and what fits
pub same_laws : {A : Type 0} (r : Reader A) (sp sp' : A → List ℕ) (F F' : A → Type 0) → Laws r sp F → ((a : A) → F a → F' a) → ((a : A) → F' a → F a) → ((a : A) → F' a → sp a ≡ sp' a) → Laws r sp' F'
same_laws r sp sp' F F' l to from spelled = record {
  got = λ bytes a rest bs e. let g = l.got bytes a rest bs e in (to a g.0, g.1 ∙ ap (λ z. z ++ rest) (spelled a (to a g.0)));
  again = λ a rest f. ap (λ z. r (z ++ rest)) (sym (spelled a f)) ∙ l.again a rest (from a f);
  bad = λ bytes left bs e.
      let s = l.bad bytes left bs e in
      record { before = s.before; after = s.after; parts = s.parts; left_is = s.left_is; value = s.value; fits = to s.value s.fits; more = s.more; begins = sym (spelled s.value (to s.value s.fits)) ∙ s.begins; wrong = turned s.before s.after s.wrong };
}
  where
    turned : (before after : List ℕ) → IsWrong sp F before after → IsWrong sp' F' before after
    turned before [] w = tt
    turned before (b ∷ after) w = λ a more f e. w a more (from a f) (spelled a f ∙ e)

-- a byte that passes a test, where some byte does
pub byte_laws : (ok : ℕ → Bool) (b : ℕ) → b < 256 → ok b ≡ true → Laws (byte_at ok) (λ b. b ∷ []) (λ b. (b < 256) × (ok b ≡ true))
byte_laws ok x small fine = record { got = taken; again = λ a rest f. ap (λ t. cond t (Ok (a, rest)) (Err (suc (length rest)))) f.1; bad = stopped }
  where
    taken : (bytes : List ℕ) (a : ℕ) (rest : List ℕ) → IsBytes bytes → byte_at ok bytes ≡ Ok (a, rest) → ((a < 256) × (ok a ≡ true)) × (bytes ≡ (a ∷ []) ++ rest)
    taken [] a rest bs e = absurd cc
    taken (b ∷ bytes) a rest bs e = by (ok b) refl e
      where
        by : (t : Bool) → ok b ≡ t → cond t (read b bytes) (Err (suc (length bytes))) ≡ read a rest → ((a < 256) × (ok a ≡ true)) × (b ∷ bytes ≡ (a ∷ []) ++ rest)
        by true h e = let p = ok_parts b a bytes rest e in ((subst (λ y. y < 256) p.0 (bs 0), ap ok (sym p.0) ∙ h), λ i. p.0 i ∷ p.1 i)
        by false h e = absurd cc

    stopped : (bytes : List ℕ) (left : ℕ) → IsBytes bytes → byte_at ok bytes ≡ Err left → Stops (λ b. b ∷ []) (λ b. (b < 256) × (ok b ≡ true)) bytes left
    stopped [] left bs e = let z : 0 ≡ left = cc in record { before = []; after = []; parts = refl; left_is = sym z; value = x; fits = (small, fine); more = x ∷ []; begins = refl; wrong = tt }
    stopped (b ∷ bytes) left bs e = by (ok b) refl e
      where
        by : (t : Bool) → ok b ≡ t → cond t (read b bytes) (Err (suc (length bytes))) ≡ Err left → Stops (λ b. b ∷ []) (λ b. (b < 256) × (ok b ≡ true)) (b ∷ bytes) left
        by true h e = absurd cc
        by false h e =
            let z : suc (length bytes) ≡ left = cc in
            record {
              before = [];
              after = b ∷ bytes;
              parts = refl;
              left_is = sym z;
              value = x;
              fits = (small, fine);
              more = x ∷ [];
              begins = refl;
              wrong = λ a more f g. let same : a ≡ b = cc in let never : true ≡ false = sym f.1 ∙ ap ok same ∙ h in absurd cc;
            }

-- a value of two parts, the second of which is read by what the first is
pub record Joins {A C : Type 0} (sp1 : A → List ℕ) (F1 : A → Type 0) (sp2 : A → C → List ℕ) (F2 : A → C → Type 0) (sp : C → List ℕ) (F : C → Type 0) : Type 0 where
  pub join : (a : A) (c : C) → F1 a → F2 a c → F c × (sp c ≡ sp1 a ++ sp2 a c)
  pub split : (c : C) → F c → (a : A) × F1 a × F2 a c

module _ (A C : Type 0) (r1 : Reader A) (r2 : A → Reader C) (sp1 : A → List ℕ) (F1 : A → Type 0) (sp2 : A → C → List ℕ) (F2 : A → C → Type 0) (sp : C → List ℕ) (F : C → Type 0) (j : Joins sp1 F1 sp2 F2 sp F) (l1 : Laws r1 sp1 F1) (l2 : (a : A) → F1 a → Laws (r2 a) (sp2 a) (F2 a)) where
  then_got : (bytes : List ℕ) (c : C) (rest : List ℕ) → IsBytes bytes → (r1 bytes >>= λ x. r2 x.0 x.1) ≡ Ok (c, rest) → F c × (bytes ≡ sp c ++ rest)
  then_got bytes c rest bs e =
      let x = bind_ok (r1 bytes) (λ x. r2 x.0 x.1) (c, rest) e in
      let g1 = l1.got bytes x.0.0 x.0.1 bs x.1 in
      let g2 = (l2 x.0.0 g1.0).got x.0.1 c rest (bytes_tail (sp1 x.0.0) x.0.1 (subst IsBytes g1.1 bs)) x.2 in
      let k = j.join x.0.0 c g1.0 g2.0 in
      (k.0, g1.1 ∙ ap (λ z. sp1 x.0.0 ++ z) g2.1 ∙ sym (append_assoc (sp1 x.0.0) (sp2 x.0.0 c) rest) ∙ ap (λ z. z ++ rest) (sym k.1))

  then_again : (c : C) (rest : List ℕ) → F c → (r1 (sp c ++ rest) >>= λ x. r2 x.0 x.1) ≡ Ok (c, rest)
  then_again c rest f =
      let s = j.split c f in
      let k = j.join s.0 c s.1 s.2 in
      let e : sp c ++ rest ≡ sp1 s.0 ++ (sp2 s.0 c ++ rest) = ap (λ z. z ++ rest) k.1 ∙ append_assoc (sp1 s.0) (sp2 s.0 c) rest in
      ap (λ bytes. r1 bytes >>= λ x. r2 x.0 x.1) e ∙ ap (λ (o : Result (A × List ℕ) ℕ). o >>= λ x. r2 x.0 x.1) (l1.again s.0 (sp2 s.0 c ++ rest) s.1) ∙ (l2 s.0 s.1).again c rest s.2

  first_wrong : (bytes : List ℕ) (left : ℕ) → r1 bytes ≡ Err left → (before after : List ℕ) → bytes ≡ before ++ after → IsWrong sp1 F1 before after → IsWrong sp F before after
  first_wrong bytes left e before [] parts w = tt
  first_wrong bytes left e before (b ∷ after) parts w = λ c more f is.
      let s = j.split c f in
      let k = j.join s.0 c s.1 s.2 in
      elim (parted (sp1 s.0) (sp2 s.0 c) (before ++ b ∷ []) more (sym k.1 ∙ is)) [
        | inl p ↦ w s.0 p.0 s.1 p.1
        | inr p ↦
            let whole : bytes ≡ sp1 s.0 ++ (p.0 ++ after) = parts ∙ sym (append_assoc before (b ∷ []) after) ∙ ap (λ z. z ++ after) p.1 ∙ append_assoc (sp1 s.0) p.0 after in
            let never = sym e ∙ ap r1 whole ∙ l1.again s.0 (p.0 ++ after) s.1 in
            absurd cc
      ]

  second_wrong : (a : A) → F1 a → (before after : List ℕ) → IsWrong (sp2 a) (F2 a) before after → IsWrong sp F (sp1 a ++ before) after
  second_wrong a f1 before [] w = tt
  second_wrong a f1 before (b ∷ after) w = λ c more f is.
      let s = j.split c f in
      let k = j.join s.0 c s.1 s.2 in
      let e : sp1 s.0 ++ sp2 s.0 c ≡ sp1 a ++ ((before ++ b ∷ []) ++ more) = sym k.1 ∙ is ∙ ap (λ z. z ++ more) (append_assoc (sp1 a) before (b ∷ [])) ∙ append_assoc (sp1 a) (before ++ b ∷ []) more in
      let o = ok_parts s.0 a (sp2 s.0 c) ((before ++ b ∷ []) ++ more) (sym (l1.again s.0 (sp2 s.0 c) s.1) ∙ ap r1 e ∙ l1.again a ((before ++ b ∷ []) ++ more) f1) in
      w c more (subst (λ x. F2 x c) o.0 s.2) (ap (λ x. sp2 x c) (sym o.0) ∙ o.1)

  then_bad : (bytes : List ℕ) (left : ℕ) → IsBytes bytes → (r1 bytes >>= λ x. r2 x.0 x.1) ≡ Err left → Stops sp F bytes left
  then_bad bytes left bs e = elim (bind_err (r1 bytes) (λ x. r2 x.0 x.1) left e) [
    | inl h ↦
        let s = l1.bad bytes left bs h in
        let t = some (r2 s.value) (sp2 s.value) (F2 s.value) (l2 s.value s.fits) in
        let k = j.join s.value t.0 s.fits t.1 in
        record {
          before = s.before;
          after = s.after;
          parts = s.parts;
          left_is = s.left_is;
          value = t.0;
          fits = k.0;
          more = s.more ++ sp2 s.value t.0;
          begins = k.1 ∙ ap (λ z. z ++ sp2 s.value t.0) s.begins ∙ append_assoc s.before s.more (sp2 s.value t.0);
          wrong = first_wrong bytes left h s.before s.after s.parts s.wrong;
        }
    | inr x ↦
        let a = x.0.0 in
        let g = l1.got bytes a x.0.1 bs x.1 in
        let s = (l2 a g.0).bad x.0.1 left (bytes_tail (sp1 a) x.0.1 (subst IsBytes g.1 bs)) x.2 in
        let k = j.join a s.value g.0 s.fits in
        record {
          before = sp1 a ++ s.before;
          after = s.after;
          parts = g.1 ∙ ap (λ z. sp1 a ++ z) s.parts ∙ sym (append_assoc (sp1 a) s.before s.after);
          left_is = s.left_is;
          value = s.value;
          fits = k.0;
          more = s.more;
          begins = k.1 ∙ ap (λ z. sp1 a ++ z) s.begins ∙ sym (append_assoc (sp1 a) s.before s.more);
          wrong = second_wrong a g.0 s.before s.after s.wrong;
        }
  ]

  pub bind_laws : Laws (λ bytes. r1 bytes >>= λ x. r2 x.0 x.1) sp F
  bind_laws = record { got = then_got; again = then_again; bad = then_bad }
