-- What is printed is read.
use Rattle.std.proofs.Common.{ℕ, zero, suc, ◌≡◌, ◌≢◌, ◌+◌, ◌-◌, ◌*◌, ◌/◌, ◌%◌, ◌^◌, ◌<◌, ◌≤◌, ◌==◌, Bool, true, not, ◌&&◌, ◌||◌, List, [], ◌∷◌, ◌++◌, length, get_or, fold, decimal, refl, ap, ◌∙◌, arith, Some, nat_le, inl, inr}
use Rattle.std.specs.List.{list_all}
use Rattle.std.specs.Char.{is_ascii_uppercase}
use Rattle.std.proofs.lemmas.Fmt.{decimal_by_steps, decimal_nonempty, first_decimal, length-decimal-le, decimal_digit}
use Rattle.std.proofs.lemmas.List.Folds.{list_all-append}
use Rattle.std.proofs.lemmas.List.Sums.{fold-append}
use Rattle.std.proofs.lemmas.List.Elements.{All-cons}
use Rattle.std.proofs.lemmas.Nat.{mod-pow-add, pow-add}
use Rattle.std.proofs.lemmas.Bool.Decides.{eqb_tells}
use Rattle.std.proofs.Math.Nat.{mod-eq_of_lt}
use Rattle.list_laws.proofs.Tests.{both}
use Rattle.feast_base.specs.Digits.{glyph, hex}
use Rattle.feast_base.specs.TypeNames.{is_type_name, is_word_byte}
use Rattle.feast_base.specs.declared.type_name.TheConstants.{LONGEST_NAME}
use Rattle.text_lines.specs.Fields.{Lacks, field_number, is_canonical, is_digit, worth, is_nibble, nibble, hex_worth, hex_of}
use Rattle.text_lines.specs.Printed.{is_high, is_field}

digit_byte : (d : ℕ) → d < 10 → is_digit (48 + d) ≡ true
digit_byte d h = grind arith

digit_worth : (d : ℕ) → 48 + d - 48 ≡ d
digit_worth d = omega arith

-- the digits of a number, and what they are worth
pub decimal_digits : (n : ℕ) → n < 2 ^ 64 → (list_all is_digit (decimal n) ≡ true) × (worth (decimal n) ≡ n)
decimal_digits = decimal_by_steps (λ n ds. (list_all is_digit ds ≡ true) × (worth ds ≡ n)) one more
  where
    one : (n : ℕ) → n < 10 → (list_all is_digit ((48 + n) ∷ []) ≡ true) × (worth ((48 + n) ∷ []) ≡ n)
    one n h = (rw (digit_byte n h) refl, omega arith)

    more : (n : ℕ) (ds : List ℕ) → 10 ≤ n → (list_all is_digit ds ≡ true) × (worth ds ≡ n / 10) →
        (list_all is_digit (ds ++ ((48 + n % 10) ∷ [])) ≡ true) × (worth (ds ++ ((48 + n % 10) ∷ [])) ≡ n)
    more n ds h p =
        let e = fold-append (λ (v d : ℕ). v * 10 + (d - 48)) 0 ds ((48 + n % 10) ∷ []) in (
          list_all-append is_digit ds ((48 + n % 10) ∷ []) ∙ rw (p.0, digit_byte (n % 10) (omega arith)) refl,
          e ∙ ap (λ v. v * 10 + (48 + n % 10 - 48)) p.1 ∙ (omega arith),
        )

canonical_by : (xs : List ℕ) → 0 < length xs → list_all is_digit xs ≡ true → (get_or xs 0 0 ≡ 48 → length xs ≡ 1) → length xs ≤ 20 → is_canonical xs ≡ true
canonical_by [] some all first few = absurd (omega arith)
canonical_by (x ∷ xs) some all first few =
    let part : (not (x == 48) || length xs == 0) ≡ true = elim (eqb_tells x 48) [
      | inl t ↦ let z : length xs ≡ 0 = omega (arith, first t.1) in rw (z, t.0) refl
      | inr f ↦ rw f.0 refl
    ] in
    let small : nat_le (length (x ∷ xs)) 20 ≡ true = le_true (length (x ∷ xs)) 20 few in
    rw (all, part, small) refl
  where
    le_true : (a b : ℕ) → a ≤ b → nat_le a b ≡ true
    le_true a b h = grind arith

first_digit : (n : ℕ) → n < 2 ^ 64 → get_or (decimal n) 0 0 ≡ 48 → length (decimal n) ≡ 1
first_digit zero fits e = ap length (decimal_digit 0 (omega arith))
first_digit (suc n) fits e = let h = first_decimal (suc n) (omega arith) fits in absurd (omega (arith, h, e))

pub number_decimal : (n : ℕ) → n < 2 ^ 64 → field_number (decimal n) ≡ Some n
number_decimal n fits =
    let p = decimal_digits n fits in
    let c = canonical_by (decimal n) (decimal_nonempty n fits) p.0 (first_digit n fits) (length-decimal-le 20 n (omega arith) (omega arith) fits) in
    rw c (ap (λ v. Some v) p.1)

-- hexadecimal digits
glyph_is : (d : ℕ) → d < 16 → (is_nibble (glyph d) ≡ true) × (nibble (glyph d) ≡ d)
glyph_is d h = (grind arith, grind arith)

hex_all : (k n : ℕ) → list_all is_nibble (hex k n) ≡ true
unfolding hex
hex_all zero n = refl
hex_all (suc k) n = rw ((glyph_is (n / 2 ^ (4 * k) % 16) (omega arith)).0) (hex_all k n)

hex_value : (k n v : ℕ) → fold (λ (v d : ℕ). v * 16 + nibble d) v (hex k n) ≡ v * 2 ^ (4 * k) + n % 2 ^ (4 * k)
unfolding hex
hex_value zero n v = omega arith
hex_value (suc k) n v =
    let d = n / 2 ^ (4 * k) % 16 in
    let digit : nibble (glyph d) ≡ d = (glyph_is d (omega arith)).1 in
    let size : 2 ^ (4 * suc k) ≡ 16 * 2 ^ (4 * k) = let e : 4 * suc k ≡ 4 + 4 * k = omega arith in rw (e, pow-add 2 4 (4 * k)) refl in
    let low : n % 2 ^ (4 * suc k) ≡ d * 2 ^ (4 * k) + n % 2 ^ (4 * k) = let e : 4 * suc k ≡ 4 + 4 * k = omega arith in rw e (mod-pow-add n 4 (4 * k)) in
    ap (λ z. fold (λ (v d : ℕ). v * 16 + nibble d) (v * 16 + z) (hex k n)) digit ∙ hex_value k n (v * 16 + d) ∙ rw (low, size) (regroup v d (2 ^ (4 * k)) (n % 2 ^ (4 * k)))
  where
    regroup : (v d p r : ℕ) → (v * 16 + d) * p + r ≡ v * (16 * p) + (d * p + r)
    regroup v d p r = grind arith

pub hex_length : (k n : ℕ) → length (hex k n) ≡ k
unfolding hex
hex_length zero n = refl
hex_length (suc k) n = let e = hex_length k n in omega (arith, e)

pub hex_hex : (k n : ℕ) → n < 2 ^ (4 * k) → hex_of k (hex k n) ≡ Some n
hex_hex k n fits =
    let value : hex_worth (hex k n) ≡ n = hex_value k n 0 ∙ (let z : 0 * 2 ^ (4 * k) + n % 2 ^ (4 * k) ≡ n % 2 ^ (4 * k) = omega arith in z) ∙ mod-eq_of_lt fits in
    let size : (length (hex k n) == k) ≡ true = rw (hex_length k n) (same k) in
    rw (size, hex_all k n) (ap (λ v. Some v) value)
  where
    same : (k : ℕ) → (k == k) ≡ true
    same k = grind arith

all_of : (p q : ℕ → Bool) (xs : List ℕ) → ((b : ℕ) → p b ≡ true → q b ≡ true) → list_all p xs ≡ true → list_all q xs ≡ true
all_of p q [] so all = refl
all_of p q (b ∷ bs) so all =
    let h = both (p b) (list_all p bs) all in
    rw (so b h.0, all_of p q bs so h.1) refl

digit_high : (b : ℕ) → is_digit b ≡ true → is_high b ≡ true
digit_high b h = grind arith

nibble_high : (b : ℕ) → is_nibble b ≡ true → is_high b ≡ true
nibble_high b h = grind arith

word_high : (b : ℕ) → is_word_byte b ≡ true → is_high b ≡ true
word_high b h = grind arith

pub decimal_high : (n : ℕ) → n < 2 ^ 64 → list_all is_high (decimal n) ≡ true
decimal_high n fits = all_of is_digit is_high (decimal n) digit_high (decimal_digits n fits).0

pub hex_high : (k n : ℕ) → list_all is_high (hex k n) ≡ true
hex_high k n = all_of is_nibble is_high (hex k n) nibble_high (hex_all k n)

upper_high : (b : ℕ) → is_ascii_uppercase b ≡ true → is_high b ≡ true
upper_high b h = grind arith

pub name_high : (name : List ℕ) → is_type_name name ≡ true → is_field name ≡ true
name_high [] named = refl
name_high (b ∷ bs) named =
    let p = both (is_ascii_uppercase b && list_all is_word_byte bs) (nat_le (length bs + 1) LONGEST_NAME) named in
    let q = both (is_ascii_uppercase b) (list_all is_word_byte bs) p.0 in
    rw (upper_high b q.0, all_of is_word_byte is_high bs word_high q.1) refl

-- high bytes are none that is low
pub high_lacks : (xs : List ℕ) (end : ℕ) → list_all is_high xs ≡ true → end < 48 → Lacks xs end
high_lacks [] end all low = λ i d lt. absurd (omega arith)
high_lacks (b ∷ bs) end all low =
    let h = both (is_high b) (list_all is_high bs) all in
    All-cons (λ v. v ≢ end) b bs (λ e. high_not b end h.0 e low) (high_lacks bs end h.1 low)
  where
    high_not : (b end : ℕ) → is_high b ≡ true → b ≡ end → end < 48 → ⊥
    high_not b end h e low = grind arith
