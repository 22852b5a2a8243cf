-- A line that is read has the digits and the name that its form asks for.
use Rattle.std.proofs.Common.{ℕ, suc, ◌≡◌, ◌+◌, ◌*◌, ◌^◌, ◌<◌, ◌==◌, Bool, true, false, ◌&&◌, List, [], ◌∷◌, length, fold, refl, arith, Option, Some, None, option_map, subst, bytes_eq, codes, if◌then◌else◌}
use Rattle.std.specs.List.{list_all}
use Rattle.std.proofs.Math.Nat.{pow-suc}
use Rattle.list_laws.proofs.Tests.{both}
use Rattle.feast_base.specs.TypeNames.{is_type_name}
use Rattle.text_lines.specs.Fields.{fields, hex_of, hex_worth, is_nibble, nibble}
use Rattle.text_lines.specs.Forms.{with, take_number, one_field, one_number, one_seed, two_numbers}
use Rattle.text_lines.proofs.Digits.{nibble_in}
use Rattle.world_text.specs.Line.{Line, IsFormed, header, tiles, size, off, seed, attempts, try, atom, order_seed, order}
use Rattle.world_text.specs.Forms.{line_of, form_of, form, plane_form, short_form, order_form, version_form, version_of, try_form, atom_form, name_state, state_of, numbers_of}

-- what digits are worth behind others
worth_below : (ds : List ℕ) (v k : ℕ) → list_all is_nibble ds ≡ true → v < 16 ^ k → fold (λ (v d : ℕ). v * 16 + nibble d) v ds < 16 ^ (k + length ds)
worth_below [] v k all small = subst (λ j. v < 16 ^ j) (omega arith) small
worth_below (d ∷ ds) v k all small =
    let h = both (is_nibble d) (list_all is_nibble ds) all in
    let digit = (nibble_in d h.0).1 in
    let size : 16 ^ (k + 1) ≡ 16 * 16 ^ k = let e : k + 1 ≡ suc k = omega arith in rw (e, pow-suc 16 k) (flip (16 ^ k)) in
    let next : v * 16 + nibble d < 16 ^ (k + 1) = rw size (more v (nibble d) (16 ^ k) small digit) in
    let count : k + 1 + length ds ≡ k + suc (length ds) = omega arith in
    subst (λ j. fold (λ (v d : ℕ). v * 16 + nibble d) (v * 16 + nibble d) ds < 16 ^ j) count (worth_below ds (v * 16 + nibble d) (k + 1) h.1 next)
  where
    flip : (p : ℕ) → p * 16 ≡ 16 * p
    flip p = omega arith

    more : (v d p : ℕ) → v < p → d < 16 → v * 16 + d < 16 * p
    more v d p a b = omega (arith, a, b)

seed_below : (f : List ℕ) (n : ℕ) → hex_of 16 f ≡ Some n → n < 2 ^ 64
seed_below f n h = on (length f == 16) (list_all is_nibble f) refl refl h
  where
    on : (a b : Bool) → (length f == 16) ≡ a → list_all is_nibble f ≡ b → (if a && b then Some (hex_worth f) else None) ≡ Some n → n < 2 ^ 64
    on false b e g h = cc
    on true false e g h = cc
    on true true e g h =
        let long : length f ≡ 16 = grind arith in
        let below = worth_below f 0 0 g (omega arith) in
        let is : hex_worth f ≡ n = cc in
        let size : 0 + length f ≡ 16 = omega (arith, long) in
        let small : hex_worth f < 16 ^ 16 = subst (λ k. hex_worth f < 16 ^ k) size below in
        omega (arith, small, is)

seed_form : (args : List (List ℕ)) (n : ℕ) → one_seed args ≡ Some n → n < 2 ^ 64
seed_form args n h = on (one_field args) h
  where
    on : (o : Option (List ℕ)) → with o (hex_of 16) ≡ Some n → n < 2 ^ 64
    on None e = cc
    on (Some f) e = seed_below f n e

-- a property of what comes of an answer
through : {X : Type 0} (P : Line → Type 0) (o : Option X) (next : X → Option Line) → ((x : X) (l : Line) → next x ≡ Some l → P l) → (l : Line) → with o next ≡ Some l → P l
through P None next so l e = cc
through P (Some x) next so l e = so x l e

mapped : {X : Type 0} (P : Line → Type 0) (o : Option X) (f : X → Line) → ((x : X) → o ≡ Some x → P (f x)) → (l : Line) → option_map f o ≡ Some l → P l
mapped P None f so l e = cc
mapped P (Some x) f so l e = let same : f x ≡ l = cc in subst P same (so x refl)

pub named_state : (args : List (List ℕ)) (p : List ℕ × ℕ) → name_state args ≡ Some p → is_type_name p.0 ≡ true
unfolding name_state
named_state [] p e = cc
named_state (f ∷ fs) p e = on (is_type_name f) (state_of fs) refl e
  where
    on : (b : Bool) (o : Option ℕ) → is_type_name f ≡ b → (if b then option_map (λ s. (f, s)) o else None) ≡ Some p → is_type_name p.0 ≡ true
    on false o is e = cc
    on true None is e = cc
    on true (Some s) is e = let same : (f, s) ≡ p = cc in subst (λ (q : List ℕ × ℕ). is_type_name q.0 ≡ true) same is

order_formed : (args : List (List ℕ)) (l : Line) → order_form args ≡ Some l → IsFormed l
unfolding order_form
order_formed [] l e = cc
order_formed (f ∷ fs) l e = on (bytes_eq f (codes "seed")) e
  where
    on : (b : Bool) → (if b then option_map order_seed (one_number fs) else option_map order (numbers_of (f ∷ fs))) ≡ Some l → IsFormed l
    on true e = mapped IsFormed (one_number fs) order_seed (λ x is. tt {0}) l e
    on false e = mapped IsFormed (numbers_of (f ∷ fs)) order (λ x is. tt {0}) l e

version_formed : (f : List ℕ) (l : Line) → version_of f ≡ Some l → IsFormed l
version_formed f l e = on (bytes_eq f (codes "1")) (bytes_eq f (codes "2")) e
  where
    on : (a b : Bool) → (if a then Some (header false) else (if b then Some (header true) else None)) ≡ Some l → IsFormed l
    on true b e = let same : header false ≡ l = cc in subst IsFormed same (tt {0})
    on false true e = let same : header true ≡ l = cc in subst IsFormed same (tt {0})
    on false false e = cc

short_formed : (word : List ℕ) (args : List (List ℕ)) (l : Line) → short_form word args ≡ Some l → IsFormed l
unfolding short_form plane_form
short_formed word args l e =
    on (bytes_eq word (codes "off")) (bytes_eq word (codes "seed")) (bytes_eq word (codes "attempts")) (bytes_eq word (codes "size")) (bytes_eq word (codes "tiles")) (bytes_eq word (codes "feast")) e
  where
    on : (a b c d f g : Bool) →
        (if a then option_map off (one_number args)
        else (if b then option_map seed (one_number args)
        else (if c then option_map attempts (one_number args)
        else (if d then option_map (λ p. size p.0 p.1) (two_numbers args)
        else (if f then option_map (λ p. tiles p.0 p.1) (two_numbers args)
        else (if g then version_form args
        else None)))))) ≡ Some l → IsFormed l
    on true b c d f g e = mapped IsFormed (one_number args) off (λ x is. tt {0}) l e
    on false true c d f g e = mapped IsFormed (one_number args) seed (λ x is. tt {0}) l e
    on false false true d f g e = mapped IsFormed (one_number args) attempts (λ x is. tt {0}) l e
    on false false false true f g e = mapped IsFormed (two_numbers args) (λ p. size p.0 p.1) (λ x is. tt {0}) l e
    on false false false false true g e = mapped IsFormed (two_numbers args) (λ p. tiles p.0 p.1) (λ x is. tt {0}) l e
    on false false false false false true e = through IsFormed (one_field args) version_of version_formed l e
    on false false false false false false e = cc

try_formed : (args : List (List ℕ)) (l : Line) → try_form args ≡ Some l → IsFormed l
try_formed args l e =
    through IsFormed (take_number args) _
    (λ t m. through IsFormed (take_number t.1) _
    (λ x n. through IsFormed (take_number x.1) _
    (λ y o. mapped IsFormed (one_seed y.1) (try t.0 x.0 y.0) (λ s is. seed_form y.1 s is) o) n) m) l e

atom_formed : (args : List (List ℕ)) (l : Line) → atom_form args ≡ Some l → IsFormed l
atom_formed args l e =
    through IsFormed (take_number args) _
    (λ x m. through IsFormed (take_number x.1) _
    (λ y n. mapped IsFormed (name_state y.1) (λ p. atom x.0 y.0 p.0 p.1) (λ p is. named_state y.1 p is) n) m) l e

pub line_formed_by : (fs : List (List ℕ)) (l : Line) → form_of fs ≡ Some l → IsFormed l
unfolding form_of form
line_formed_by [] l e = cc
line_formed_by (word ∷ args) l e = on (bytes_eq word (codes "try")) (bytes_eq word (codes "atom")) (bytes_eq word (codes "order")) e
  where
    on : (a b c : Bool) → (if a then try_form args else (if b then atom_form args else (if c then order_form args else short_form word args))) ≡ Some l → IsFormed l
    on true b c e = try_formed args l e
    on false true c e = atom_formed args l e
    on false false true e = order_formed args l e
    on false false false e = short_formed word args l e

pub line_formed : (text : List ℕ) (l : Line) → line_of text ≡ Some l → IsFormed l
line_formed text l e = line_formed_by (fields text) l e
