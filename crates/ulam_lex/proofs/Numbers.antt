-- Numbers at the front of a text.
use Rattle.std.proofs.Common.{◌≡◌, ℕ, ◌+◌, ◌*◌, ◌<◌, ◌≤◌, ◌^◌, Bool, true, false, cond, List, [], ◌∷◌, ◌++◌, length, get_or, take, drop, refl, sym, ap, ◌∙◌, subst, inl, inr, ◌⊎◌, arith, codes, append_assoc, append-nil, add-zero, take-append-drop}
use Rattle.std.specs.Prelude.{◌==◌, if◌then◌else◌}
use Rattle.std.specs.Char.{is_digit, digit_value, is_ascii_digit}
use Rattle.std.specs.List.{prefix_len, AllPass}
use Rattle.std.proofs.lemmas.Bool.{cases_lt, false≢true, ltb-true, cases_eq, eqb-true, eqb-false, cond-true, cond-false, cases_Bool}
use Rattle.std.proofs.lemmas.Bool.Decides.{nat_tests}
use Rattle.std.proofs.lemmas.List.{length-take-le, length-append, get_or_append_left, get_or-append-add, take_at, drop_at, get_or-take, take-take, drop_more, drop_all}
use Rattle.std.proofs.lemmas.List.Sums.{prefix_len-le-length, fold-append, prefix_len_is, AllPass-from_list_all}
use Rattle.std.proofs.Math.Nat.{mul-le-mul_left}
use Rattle.ulam_lex.specs.declared.token.TokenKind.TheVariants.{Number}
use Rattle.ulam_lex.specs.declared.numeral.Base.{Base}
use Rattle.ulam_lex.specs.declared.numeral.Base.TheVariants.{Binary, Decimal, Hexadecimal}
use Rattle.ulam_lex.specs.declared.scan.PieceKind.TheVariants.{Token}
use Rattle.ulam_lex.specs.declared.scan.Start.TheVariants.{Piece, BadByte}
use Rattle.ulam_lex.specs.declared.bytes.Class.TheVariants.{White, Small, Capital, Digit, Mark}
use Rattle.ulam_lex.specs.Bytes.{class_of}
use Rattle.ulam_lex.specs.Pieces.{IsNumberToken, IsNumeral, AreDigits, prefix_of, radix_of, suffix_of, worth_after}
use Rattle.ulam_lex.specs.Starts.{IsStart, IsBaseAt, digit_count, body_of, digits_of, rest_of, BeginsTooLarge, LacksDigit, IsDigitless}
use Rattle.ulam_lex.proofs.Fronts.{first_of, front_class, open_class, only_digit, run_bounds, run_passes}
use Rattle.ulam_lex.proofs.Words.{run_some}

grows_by : (n r : ℕ) → 0 < r → n ≤ n * r
grows_by n r some = let one : 1 ≤ r = omega arith in omega (arith, mul-le-mul_left n one)

-- more digits are worth no less
worth_grows : (radix n : ℕ) (digits : List ℕ) → 0 < radix → n ≤ worth_after radix n digits
worth_grows radix n [] some = omega arith
worth_grows radix n (d ∷ digits) some =
    let more = worth_grows radix (n * radix + digit_value d) digits some in
    let product : n ≤ n * radix = grows_by n radix some in
    omega arith

radix_some : (base : Base) → 0 < radix_of base
radix_some Binary = omega arith
radix_some Decimal = omega arith
radix_some Hexadecimal = omega arith

worth_of_front : (base : Base) (front back : List ℕ) → worth_after (radix_of base) 0 front ≤ worth_after (radix_of base) 0 (front ++ back)
worth_of_front base front back =
    let whole = fold-append (λ (v d : ℕ). v * radix_of base + digit_value d) 0 front back in
    rw whole (worth_grows (radix_of base) (worth_after (radix_of base) 0 front) back (radix_some base))

-- the digits of a numeral are within the digits at the front
digits_bound : (base : Base) (body digits rest : List ℕ) → body ≡ digits ++ rest → AreDigits base digits → length digits ≤ digit_count base body
digits_bound Binary body digits rest e d = run_bounds (λ b. is_digit b 2) body digits rest e d.each
digits_bound Hexadecimal body digits rest e d = run_bounds (λ b. is_digit b 16) body digits rest e d.each
digits_bound Decimal body digits rest e d =
    let first = first_of body digits rest e d.some in
    let run = run_bounds (λ b. is_digit b 10) body digits rest e d.each in
    elim (cases_Bool (get_or body 0 0 == 48)) [
      | inl zero_first ↦
          let one : length digits ≡ 1 = d.canonical (sym first ∙ eqb-true (get_or body 0 0) 48 zero_first) in
          rw (cond-true (get_or body 0 0 == 48) 1 (prefix_len (λ b. is_digit b 10) body) zero_first) (omega arith)
      | inr other ↦ rw (cond-false (get_or body 0 0 == 48) 1 (prefix_len (λ b. is_digit b 10) body) other) run
    ]

-- `0` by itself
zero_digit : AreDigits Decimal (48 ∷ [])
zero_digit = record {
  some = omega arith;
  each = AllPass-from_list_all (λ b. is_digit b 10) (48 ∷ []) refl;
  canonical = λ first. refl;
}

one_zero : (body : List ℕ) → (get_or body 0 0 == 48) ≡ true → (0 < length body) × (take 1 body ≡ 48 ∷ [])
one_zero [] first = absurd (false≢true first)
one_zero (b ∷ body) first = (omega arith, ap (λ n. n ∷ []) (eqb-true b 48 first))

-- how many decimal digits stand at the front, by the first byte
decimal_one : (body : List ℕ) → (get_or body 0 0 == 48) ≡ true → digit_count Decimal body ≡ 1
decimal_one body first = cond-true (get_or body 0 0 == 48) 1 (prefix_len (λ b. is_digit b 10) body) first

decimal_run : (body : List ℕ) → (get_or body 0 0 == 48) ≡ false → digit_count Decimal body ≡ prefix_len (λ b. is_digit b 10) body
decimal_run body other = cond-false (get_or body 0 0 == 48) 1 (prefix_len (λ b. is_digit b 10) body) other

decimal_within : (body : List ℕ) → ((get_or body 0 0 == 48) ≡ true) ⊎ ((get_or body 0 0 == 48) ≡ false) → digit_count Decimal body ≤ length body
decimal_within body (inl first) = rw (decimal_one body first) (one_zero body first).0
decimal_within body (inr other) = rw (decimal_run body other) (prefix_len-le-length (λ b. is_digit b 10) body)

pub count_within : (base : Base) (body : List ℕ) → digit_count base body ≤ length body
count_within Binary body = prefix_len-le-length (λ b. is_digit b 2) body
count_within Decimal body = decimal_within body (cases_Bool (get_or body 0 0 == 48))
count_within Hexadecimal body = prefix_len-le-length (λ b. is_digit b 16) body

decimal_digits : (body : List ℕ) → 0 < digit_count Decimal body → ((get_or body 0 0 == 48) ≡ true) ⊎ ((get_or body 0 0 == 48) ≡ false) → AreDigits Decimal (take (digit_count Decimal body) body)
decimal_digits body some (inl first) = rw (decimal_one body first, (one_zero body first).1) zero_digit
decimal_digits body some (inr other) =
    let n = prefix_len (λ b. is_digit b 10) body in
    let count : digit_count Decimal body ≡ n = decimal_run body other in
    let more : 0 < n = rw count at some in
    let within = prefix_len-le-length (λ b. is_digit b 10) body in
    let whole : length (take n body) ≡ n = length-take-le n body within in
    let same : get_or (take n body) 0 0 ≡ get_or body 0 0 = get_or-take n body 0 0 more in
    rw count (record {
      some = omega arith;
      each = run_passes (λ b. is_digit b 10) body n (omega arith);
      canonical = λ first. absurd (eqb-false (get_or body 0 0) 48 other (sym same ∙ first));
    })

-- the digits that stand at the front
digits_are : (base : Base) (body : List ℕ) → 0 < digit_count base body → AreDigits base (take (digit_count base body) body)
digits_are Binary body some = record {
  some = omega (arith, length-take-le (digit_count Binary body) body (prefix_len-le-length (λ b. is_digit b 2) body));
  each = run_passes (λ b. is_digit b 2) body (digit_count Binary body) (omega arith);
  canonical = tt;
}
digits_are Hexadecimal body some = record {
  some = omega (arith, length-take-le (digit_count Hexadecimal body) body (prefix_len-le-length (λ b. is_digit b 16) body));
  each = run_passes (λ b. is_digit b 16) body (digit_count Hexadecimal body) (omega arith);
  canonical = tt;
}
digits_are Decimal body some = decimal_digits body some (cases_Bool (get_or body 0 0 == 48))

-- whether `u` follows the digits, and how long the number is
abbrev pub is_unsigned : Base → List ℕ → Bool
is_unsigned base text = get_or (rest_of base text) 0 0 == 117

abbrev pub number_len : Base → List ℕ → ℕ
number_len base text = length (prefix_of base) + digit_count base (body_of base text) + (if is_unsigned base text then 1 else 0)

-- the text is the base's prefix and the body
text_is : (base : Base) (text : List ℕ) → IsBaseAt base text → text ≡ prefix_of base ++ body_of base text
text_is Binary text h = h
text_is Decimal text h = refl
text_is Hexadecimal text h = h

-- a front that begins with a base's prefix is of that base, or is short and worth nothing
zero_then : (text digits rest : List ℕ) (x : ℕ) (more : List ℕ) → text ≡ 48 ∷ x ∷ more → text ≡ digits ++ rest → AreDigits Decimal digits → (length digits ≡ 1) × (digits ≡ 48 ∷ [])
zero_then text digits rest x more e f d =
    let first : get_or digits 0 0 ≡ 48 = sym (first_of text digits rest f d.some) ∙ ap (λ l. get_or l 0 0) e in
    let one = d.canonical first in
    (one, only_one digits one first)
  where
    only_one : (digits : List ℕ) → length digits ≡ 1 → get_or digits 0 0 ≡ 48 → digits ≡ 48 ∷ []
    only_one [] one first = absurd (omega arith)
    only_one (d ∷ []) one first = ap (λ n. n ∷ []) first
    only_one (d ∷ e ∷ digits) one first = absurd (omega arith)

suffix_len : (unsigned : Bool) → length (suffix_of unsigned) ≤ 1
suffix_len true = omega arith
suffix_len false = omega arith

-- how long a numeral of the text's base may be, and what it may be worth
abbrev Bounds : Base → List ℕ → Base → List ℕ → Bool → Type 0
Bounds base text other digits unsigned =
    (length (prefix_of other) + (length digits + length (suffix_of unsigned)) ≤ number_len base text) × (worth_after (radix_of other) 0 digits ≤ worth_after (radix_of base) 0 (digits_of base text))

-- where all digits are taken, a `u` that follows is taken too
suffix_bound : (base : Base) (text digits back : List ℕ) (unsigned : Bool) → body_of base text ≡ digits ++ (suffix_of unsigned ++ back) → length digits ≤ digit_count base (body_of base text) →
    length digits + length (suffix_of unsigned) ≤ digit_count base (body_of base text) + (if is_unsigned base text then 1 else 0)
suffix_bound base text digits back false e within = omega arith
suffix_bound base text digits back true e within = elim (cases_lt (length digits) (digit_count base (body_of base text))) [
  | inl shorter ↦ omega arith
  | inr all ↦
      let whole : length digits ≡ digit_count base (body_of base text) = omega arith in
      let behind : rest_of base text ≡ 117 ∷ back = ap (drop (digit_count base (body_of base text))) e ∙ drop_at digits (117 ∷ back) (digit_count base (body_of base text)) whole in
      let follows : is_unsigned base text ≡ true = ap (λ l. get_or l 0 0 == 117) behind in
      rw follows (omega arith)
]

same_base : (base : Base) (text digits back : List ℕ) (unsigned : Bool) → text ≡ prefix_of base ++ (digits ++ (suffix_of unsigned ++ back)) → AreDigits base digits → Bounds base text base digits unsigned
same_base base text digits back unsigned e d =
    let body = body_of base text in
    let body_is : body ≡ digits ++ (suffix_of unsigned ++ back) = ap (drop (length (prefix_of base))) e ∙ drop_at (prefix_of base) (digits ++ (suffix_of unsigned ++ back)) (length (prefix_of base)) refl in
    let within = digits_bound base body digits (suffix_of unsigned ++ back) body_is d in
    let suffix = suffix_bound base text digits back unsigned body_is within in
    let front : take (length digits) body ≡ digits = ap (take (length digits)) body_is ∙ take_at digits (suffix_of unsigned ++ back) (length digits) refl in
    let inner : take (length digits) (digits_of base text) ≡ digits = take-take (length digits) (digit_count base body) body within ∙ front in
    let split : digits ++ drop (length digits) (digits_of base text) ≡ digits_of base text = ap (λ l. l ++ drop (length digits) (digits_of base text)) (sym inner) ∙ take-append-drop (length digits) (digits_of base text) in
    (omega arith, rw split at (worth_of_front base digits (drop (length digits) (digits_of base text))))

-- `0` before the letter of a prefix
zero_bound : (base : Base) (text digits back : List ℕ) (unsigned : Bool) (x : ℕ) (more : List ℕ) → length (prefix_of base) ≡ 2 → text ≡ 48 ∷ x ∷ more → text ≡ digits ++ (suffix_of unsigned ++ back) → AreDigits Decimal digits →
    Bounds base text Decimal digits unsigned
zero_bound base text digits back unsigned x more two e f d =
    let zero_digits = zero_then text digits (suffix_of unsigned ++ back) x more e f d in
    let short = suffix_len unsigned in
    let nothing : worth_after 10 0 digits ≡ 0 = ap (worth_after 10 0) zero_digits.1 in
    (omega (arith, zero_digits.0), omega arith)

bound_by : (base other : Base) (text digits back : List ℕ) (unsigned : Bool) → IsBaseAt base text → text ≡ prefix_of other ++ (digits ++ (suffix_of unsigned ++ back)) → AreDigits other digits → Bounds base text other digits unsigned
bound_by Binary Binary text digits back unsigned b e d = same_base Binary text digits back unsigned e d
bound_by Binary Decimal text digits back unsigned b e d = zero_bound Binary text digits back unsigned 98 (drop 2 text) refl b e d
bound_by Binary Hexadecimal text digits back unsigned b e d = absurd (apart (ap (λ l. get_or l 1 0) b) (ap (λ l. get_or l 1 0) e))
  where
    apart : get_or text 1 0 ≡ 98 → get_or text 1 0 ≡ 120 → ⊥
    apart h k = omega arith
bound_by Decimal Binary text digits back unsigned b e d = absurd (b.0 _ e)
bound_by Decimal Decimal text digits back unsigned b e d = same_base Decimal text digits back unsigned e d
bound_by Decimal Hexadecimal text digits back unsigned b e d = absurd (b.1 _ e)
bound_by Hexadecimal Binary text digits back unsigned b e d = absurd (apart (ap (λ l. get_or l 1 0) b) (ap (λ l. get_or l 1 0) e))
  where
    apart : get_or text 1 0 ≡ 120 → get_or text 1 0 ≡ 98 → ⊥
    apart h k = omega arith
bound_by Hexadecimal Decimal text digits back unsigned b e d = zero_bound Hexadecimal text digits back unsigned 120 (drop 2 text) refl b e d
bound_by Hexadecimal Hexadecimal text digits back unsigned b e d = same_base Hexadecimal text digits back unsigned e d

-- no numeral at the front is longer than the number there, or worth more
numeral_bound : (base : Base) (text front back : List ℕ) (value : ℕ) (unsigned : Bool) → IsBaseAt base text → text ≡ front ++ back → IsNumeral front value unsigned →
    (length front ≤ number_len base text) × (value ≤ worth_after (radix_of base) 0 (digits_of base text))
numeral_bound base text front back value unsigned b e n =
    let written : text ≡ prefix_of n.base ++ (n.digits ++ (suffix_of unsigned ++ back)) =
    e ∙ ap (λ l. l ++ back) n.written ∙ append_assoc (prefix_of n.base) (n.digits ++ suffix_of unsigned) back ∙ ap (λ l. prefix_of n.base ++ l) (append_assoc n.digits (suffix_of unsigned) back) in
    let bounds = bound_by base n.base text n.digits back unsigned b written n.are_digits in
    let long : length front ≡ length (prefix_of n.base) + (length n.digits + length (suffix_of unsigned)) =
    ap length n.written ∙ length-append (prefix_of n.base) (n.digits ++ suffix_of unsigned) ∙ ap (λ k. length (prefix_of n.base) + k) (length-append n.digits (suffix_of unsigned)) in
    (omega (arith, bounds.0), omega (arith, bounds.1, n.worth))

-- a `u` at the front, or nothing
suffix_splits : (rest : List ℕ) → (after : List ℕ) × (rest ≡ suffix_of (get_or rest 0 0 == 117) ++ after)
suffix_splits [] = ([], refl)
suffix_splits (b ∷ rest) = elim (cases_Bool (b == 117)) [
  | inl u ↦ (rest, rw (eqb-true b 117 u) refl)
  | inr other ↦ (b ∷ rest, rw other refl)
]

suffix_counts : (unsigned : Bool) → length (suffix_of unsigned) ≡ (if unsigned then 1 else 0)
suffix_counts true = refl
suffix_counts false = refl

-- the text is the prefix, the digits, the suffix and the rest
pub record NumberAt (base : Base) (text : List ℕ) : Type 0 where
  pub after : List ℕ
  pub split : text ≡ (prefix_of base ++ (digits_of base text ++ suffix_of (is_unsigned base text))) ++ after
  pub long : length (prefix_of base ++ (digits_of base text ++ suffix_of (is_unsigned base text))) ≡ number_len base text

number_at : (base : Base) (text : List ℕ) → IsBaseAt base text → NumberAt base text
number_at base text b =
    let prefix = prefix_of base in
    let digits = digits_of base text in
    let suffix = suffix_of (is_unsigned base text) in
    let after = (suffix_splits (rest_of base text)).0 in
    let behind : rest_of base text ≡ suffix ++ after = (suffix_splits (rest_of base text)).1 in
    let body : digits ++ rest_of base text ≡ body_of base text = take-append-drop (digit_count base (body_of base text)) (body_of base text) in
    let counted : length digits ≡ digit_count base (body_of base text) = length-take-le (digit_count base (body_of base text)) (body_of base text) (count_within base (body_of base text)) in
    record {
      after = after;
      split = text_is base text b ∙ ap (λ l. prefix ++ l) (sym body ∙ ap (λ l. digits ++ l) behind ∙ sym (append_assoc digits suffix after)) ∙ sym (append_assoc prefix (digits ++ suffix) after);
      long = length-append prefix (digits ++ suffix) ∙ ap (λ k. length prefix + k) (length-append digits suffix) ∙ omega (arith, counted, suffix_counts (is_unsigned base text));
    }

-- after a prefix without digits there is no digit of the base
none_passes : (p : ℕ → Bool) (bytes : List ℕ) → p (get_or bytes 0 0) ≡ false → prefix_len p bytes ≡ 0
none_passes p [] h = refl
none_passes p (b ∷ bytes) h = cond-false (p b) (1 + prefix_len p bytes) 0 h

body_after : (base : Base) (text bare rest : List ℕ) → text ≡ bare ++ rest → bare ≡ prefix_of base → body_of base text ≡ rest
body_after base text bare rest e f = ap (drop (length (prefix_of base))) (e ∙ ap (λ l. l ++ rest) f) ∙ drop_at (prefix_of base) rest (length (prefix_of base)) refl

lacks_binary : (text bare rest : List ℕ) → LacksDigit Binary text bare rest → digit_count Binary (body_of Binary text) ≡ 0
lacks_binary text bare rest h = rw (body_after Binary text bare rest h.0 h.1) (none_passes (λ d. is_digit d 2) rest h.2)

lacks_hexadecimal : (text bare rest : List ℕ) → LacksDigit Hexadecimal text bare rest → digit_count Hexadecimal (body_of Hexadecimal text) ≡ 0
lacks_hexadecimal text bare rest h = rw (body_after Hexadecimal text bare rest h.0 h.1) (none_passes (λ d. is_digit d 16) rest h.2)

two_letters : (text rest more : List ℕ) → text ≡ codes "0b" ++ rest → text ≡ codes "0x" ++ more → ⊥
two_letters text rest more e f = apart (ap (λ l. get_or l 1 0) e) (ap (λ l. get_or l 1 0) f)
  where
    apart : get_or text 1 0 ≡ 98 → get_or text 1 0 ≡ 120 → ⊥
    apart h k = omega arith

-- where a digit stands, no prefix lacks one
has_digit : (base : Base) (text bare rest : List ℕ) → IsBaseAt base text → 0 < digit_count base (body_of base text) → IsDigitless text bare rest → ⊥
has_digit Binary text bare rest b some (inl h) = two_letters text (drop 2 text) rest b (h.0 ∙ ap (λ l. l ++ rest) h.1)
has_digit Binary text bare rest b some (inr h) = let none = lacks_binary text bare rest h in omega arith
has_digit Decimal text bare rest b some (inl h) = b.1 rest (h.0 ∙ ap (λ l. l ++ rest) h.1)
has_digit Decimal text bare rest b some (inr h) = b.0 rest (h.0 ∙ ap (λ l. l ++ rest) h.1)
has_digit Hexadecimal text bare rest b some (inl h) = let none = lacks_hexadecimal text bare rest h in omega arith
has_digit Hexadecimal text bare rest b some (inr h) = two_letters text rest (drop 2 text) (h.0 ∙ ap (λ l. l ++ rest) h.1) b

-- a number stands at the front
pub number_start : (base : Base) (text : List ℕ) → class_of (get_or text 0 0) ≡ Digit → IsBaseAt base text → 0 < digit_count base (body_of base text) →
    worth_after (radix_of base) 0 (digits_of base text) < 2 ^ 32 → IsStart text (Piece (Token Number) (number_len base text))
number_start base text class b some small =
    let at = number_at base text b in
    let n = number_len base text in
    let front = prefix_of base ++ (digits_of base text ++ suffix_of (is_unsigned base text)) in
    let taken : take n text ≡ front = ap (take n) at.split ∙ take_at front at.after n at.long in
    let within : n ≤ length text = omega (arith, at.long, ap length at.split, length-append front at.after) in
    let counted : length (take n text) ≡ n = length-take-le n text within in (
      omega arith,
      within,
      record {
        split = sym (take-append-drop n text);
        piece = (
          worth_after (radix_of base) 0 (digits_of base text),
          is_unsigned base text,
          record { base = base; digits = digits_of base text; are_digits = digits_are base (body_of base text) some; written = taken; worth = refl },
          small,
        );
        longest = λ other longer rest e p.
            let number = only_digit other longer (sym (front_class other text longer rest e p) ∙ class) p in
            rw counted (numeral_bound base text longer rest number.0 number.1 b e number.2).0;
        closed = λ h. let mark = open_class text h in cc;
        small = λ (front, back, value, unsigned, e, numeral, large). let bound = (numeral_bound base text front back value unsigned b e numeral).1 in omega arith;
        complete = λ bare rest h. has_digit base text bare rest b some h;
      },
    )

-- a number that is too large stands at the front
pub large_start : (base : Base) (text : List ℕ) → IsBaseAt base text → 0 < digit_count base (body_of base text) → 2 ^ 32 ≤ worth_after (radix_of base) 0 (digits_of base text) → BeginsTooLarge text
large_start base text b some large =
    let body : digits_of base text ++ rest_of base text ≡ body_of base text = take-append-drop (digit_count base (body_of base text)) (body_of base text) in (
      prefix_of base ++ digits_of base text,
      rest_of base text,
      worth_after (radix_of base) 0 (digits_of base text),
      false,
      text_is base text b ∙ ap (λ l. prefix_of base ++ l) (sym body) ∙ sym (append_assoc (prefix_of base) (digits_of base text) (rest_of base text)),
      record {
        base = base;
        digits = digits_of base text;
        are_digits = digits_are base (body_of base text) some;
        written = ap (λ l. prefix_of base ++ l) (sym (append-nil (digits_of base text)));
        worth = refl;
      },
      large,
    )

-- no digit passes where none was counted
no_digit : (radix : ℕ) (bytes : List ℕ) → is_digit 0 radix ≡ false → prefix_len (λ d. is_digit d radix) bytes ≡ 0 → is_digit (get_or bytes 0 0) radix ≡ false
no_digit radix [] z h = z
no_digit radix (b ∷ bytes) z h = elim (cases_Bool (is_digit b radix)) [
  | inl digit ↦
      let more : prefix_len (λ d. is_digit d radix) (b ∷ bytes) ≡ 1 + prefix_len (λ d. is_digit d radix) bytes = cond-true (is_digit b radix) (1 + prefix_len (λ d. is_digit d radix) bytes) 0 digit in
      absurd (omega arith)
  | inr other ↦ other
]

digit_chain : (w s c d : Bool) → cond w White (cond s Small (cond c Capital (cond d Digit Mark))) ≡ Digit → d ≡ true
digit_chain true s c d h = cc
digit_chain false true c d h = cc
digit_chain false false true d h = cc
digit_chain false false false true h = refl
digit_chain false false false false h = cc

is_decimal : (b : ℕ) → is_ascii_digit b ≡ true → is_digit b 10 ≡ true
is_decimal b h = grind (arith, nat_tests)

decimal_some : (text : List ℕ) → 0 < length text → class_of (get_or text 0 0) ≡ Digit → 0 < digit_count Decimal text
decimal_some text some class = elim (cases_Bool (get_or text 0 0 == 48)) [
  | inl first ↦ rw (decimal_one text first) (omega arith)
  | inr other ↦ rw (decimal_run text other) (run_some (λ d. is_digit d 10) text some (is_decimal (get_or text 0 0) (digit_chain _ _ _ _ class)))
]

bare_front : (base : Base) (text : List ℕ) → text ≡ prefix_of base ++ body_of base text → take (length (prefix_of base)) text ≡ prefix_of base
bare_front base text e = ap (take (length (prefix_of base))) e ∙ take_at (prefix_of base) (body_of base text) (length (prefix_of base)) refl

-- a prefix without a digit stands at the front
pub bare_start : (base : Base) (text : List ℕ) → 0 < length text → class_of (get_or text 0 0) ≡ Digit → IsBaseAt base text → digit_count base (body_of base text) ≡ 0 → IsStart text (BadByte (length (prefix_of base)))
bare_start Binary text some class b none = (
  omega (arith, ap length b),
  inr (inr (sym (take-append-drop 2 text), bare_front Binary text b, no_digit 2 (drop 2 text) refl none)),
)
bare_start Decimal text some class b none = let more = decimal_some text some class in absurd (omega arith)
bare_start Hexadecimal text some class b none = (
  omega (arith, ap length b),
  inr (inl (sym (take-append-drop 2 text), bare_front Hexadecimal text b, no_digit 16 (drop 2 text) refl none)),
)

-- with one more digit that makes it too large, the whole is too large
pub large_with : (base : Base) (value i : ℕ) (digits : List ℕ) → i < length digits → worth_after (radix_of base) value (drop i digits) ≡ worth_after (radix_of base) 0 digits →
    2 ^ 32 ≤ value * radix_of base + digit_value (get_or digits i 0) → 2 ^ 32 ≤ worth_after (radix_of base) 0 digits
large_with base value i digits within rest large =
    let more : worth_after (radix_of base) value (drop i digits) ≡ worth_after (radix_of base) (value * radix_of base + digit_value (get_or digits i 0)) (drop (i + 1) digits) = ap (worth_after (radix_of base) value) (drop_more digits i 0 within) in
    let grows = worth_grows (radix_of base) (value * radix_of base + digit_value (get_or digits i 0)) (drop (i + 1) digits) (radix_some base) in
    omega arith

pub small_end : (base : Base) (value i : ℕ) (digits : List ℕ) → length digits ≤ i → worth_after (radix_of base) value (drop i digits) ≡ worth_after (radix_of base) 0 digits → value ≡ worth_after (radix_of base) 0 digits
small_end base value i digits past rest = sym (ap (worth_after (radix_of base) value) (drop_all i digits past)) ∙ rest

-- a base's prefix is in the text
pub prefix_within : (base : Base) (text : List ℕ) → IsBaseAt base text → length (prefix_of base) ≤ length text
prefix_within base text b = omega (arith, ap length (text_is base text b), length-append (prefix_of base) (body_of base text))

-- a prefix without a digit is that of the base there
pub binary_at : (text bare rest : List ℕ) → LacksDigit Binary text bare rest → IsBaseAt Binary text
binary_at text bare rest h = let whole : text ≡ codes "0b" ++ rest = h.0 ∙ ap (λ l. l ++ rest) h.1 in whole ∙ ap (λ l. codes "0b" ++ l) (sym (ap (drop 2) whole))

pub hexadecimal_at : (text bare rest : List ℕ) → LacksDigit Hexadecimal text bare rest → IsBaseAt Hexadecimal text
hexadecimal_at text bare rest h = let whole : text ≡ codes "0x" ++ rest = h.0 ∙ ap (λ l. l ++ rest) h.1 in whole ∙ ap (λ l. codes "0x" ++ l) (sym (ap (drop 2) whole))

-- no digits have the value 0
worth_of_none : (base : Base) (text : List ℕ) → digit_count base (body_of base text) ≡ 0 → worth_after (radix_of base) 0 (digits_of base text) ≡ 0
worth_of_none base text none = ap (λ n. worth_after (radix_of base) 0 (take n (body_of base text))) none

pub bare_is_small : (text bare rest : List ℕ) → IsDigitless text bare rest → BeginsTooLarge text → ⊥
bare_is_small text bare rest (inl h) (front, back, value, unsigned, e, n, large) =
    let bound = (numeral_bound Hexadecimal text front back value unsigned (hexadecimal_at text bare rest h) e n).1 in
    let none = worth_of_none Hexadecimal text (lacks_hexadecimal text bare rest h) in
    omega arith
bare_is_small text bare rest (inr h) (front, back, value, unsigned, e, n, large) =
    let bound = (numeral_bound Binary text front back value unsigned (binary_at text bare rest h) e n).1 in
    let none = worth_of_none Binary text (lacks_binary text bare rest h) in
    omega arith

-- a numeral begins with a number of one digit
pub digit_is_number : (d : ℕ) → is_digit d 10 ≡ true → IsNumberToken (d ∷ [])
digit_is_number d h = (
  digit_value d,
  false,
  record {
    base = Decimal;
    digits = d ∷ [];
    are_digits = record {
      some = omega arith;
      each = AllPass-from_list_all (λ b. is_digit b 10) (d ∷ []) (rw h refl);
      canonical = λ first. refl;
    };
    written = refl;
    worth = omega arith;
  },
  (let small : digit_value d < 10 = ltb-true (digit_value d) 10 h in omega arith),
)

pub numeral_begins : (text front back : List ℕ) (value : ℕ) (unsigned : Bool) → text ≡ front ++ back → IsNumeral front value unsigned → (d : ℕ) × (rest : List ℕ) × (text ≡ (d ∷ []) ++ rest) × IsNumberToken (d ∷ [])
numeral_begins text front back value unsigned e n = elim_first text (first_digit n.base n.digits (suffix_of unsigned ++ back) n.are_digits) written
  where
    written : text ≡ prefix_of n.base ++ (n.digits ++ (suffix_of unsigned ++ back))
    written = e ∙ ap (λ l. l ++ back) n.written ∙ append_assoc (prefix_of n.base) (n.digits ++ suffix_of unsigned) back ∙ ap (λ l. prefix_of n.base ++ l) (append_assoc n.digits (suffix_of unsigned) back)

    first_digit : (base : Base) (digits rest : List ℕ) → AreDigits base digits → is_digit (get_or (prefix_of base ++ (digits ++ rest)) 0 0) 10 ≡ true
    first_digit Binary digits rest d = refl
    first_digit Decimal digits rest d = ap (λ b. is_digit b 10) (get_or_append_left digits rest 0 0 d.some) ∙ d.each 0 0 d.some
    first_digit Hexadecimal digits rest d = refl

    elim_first : (text : List ℕ) {whole : List ℕ} → is_digit (get_or whole 0 0) 10 ≡ true → text ≡ whole → (d : ℕ) × (rest : List ℕ) × (text ≡ (d ∷ []) ++ rest) × IsNumberToken (d ∷ [])
    elim_first [] h e = absurd (false≢true (ap (λ l. is_digit (get_or l 0 0) 10) e ∙ h))
    elim_first (b ∷ text) h e = (b, text, refl, digit_is_number b (ap (λ l. is_digit (get_or l 0 0) 10) e ∙ h))

pub digits_length : (base : Base) (text : List ℕ) → length (digits_of base text) ≡ digit_count base (body_of base text)
digits_length base text = length-take-le (digit_count base (body_of base text)) (body_of base text) (count_within base (body_of base text))

-- the digits of a numeral alone are all those at its front
exact_run : (radix : ℕ) (digits : List ℕ) (unsigned : Bool) → is_digit 117 radix ≡ false → AllPass (λ d. is_digit d radix) digits → prefix_len (λ d. is_digit d radix) (digits ++ suffix_of unsigned) ≡ length digits
exact_run radix digits true u each = prefix_len_is (λ d. is_digit d radix) (digits ++ codes "u") (length digits) 0
    (omega (arith, length-append digits (codes "u")))
    (λ k lt. ap (λ d. is_digit d radix) (get_or_append_left digits (codes "u") 0 k lt) ∙ each k 0 lt)
    (λ lt. ap (λ d. is_digit d radix) (ap (λ k. get_or (digits ++ codes "u") k 0) (sym (add-zero (length digits))) ∙ get_or-append-add digits (codes "u") 0 0) ∙ u)
exact_run radix digits false u each = prefix_len_is (λ d. is_digit d radix) (digits ++ []) (length digits) 0
    (omega (arith, length-append digits []))
    (λ k lt. ap (λ d. is_digit d radix) (get_or_append_left digits [] 0 k lt) ∙ each k 0 lt)
    (λ lt. absurd (omega (arith, ap length (append-nil digits))))

exact_decimal : (digits : List ℕ) (unsigned : Bool) → AreDigits Decimal digits → ((get_or (digits ++ suffix_of unsigned) 0 0 == 48) ≡ true) ⊎ ((get_or (digits ++ suffix_of unsigned) 0 0 == 48) ≡ false) → digit_count Decimal (digits ++ suffix_of unsigned) ≡ length digits
exact_decimal digits unsigned d (inl first) =
    let own : get_or digits 0 0 ≡ 48 = sym (get_or_append_left digits (suffix_of unsigned) 0 0 d.some) ∙ eqb-true (get_or (digits ++ suffix_of unsigned) 0 0) 48 first in
    decimal_one (digits ++ suffix_of unsigned) first ∙ sym (d.canonical own)
exact_decimal digits unsigned d (inr other) = decimal_run (digits ++ suffix_of unsigned) other ∙ exact_run 10 digits unsigned refl d.each

exact_count : (base : Base) (digits : List ℕ) (unsigned : Bool) → AreDigits base digits → digit_count base (digits ++ suffix_of unsigned) ≡ length digits
exact_count Binary digits unsigned d = exact_run 2 digits unsigned refl d.each
exact_count Decimal digits unsigned d = exact_decimal digits unsigned d (cases_Bool (get_or (digits ++ suffix_of unsigned) 0 0 == 48))
exact_count Hexadecimal digits unsigned d = exact_run 16 digits unsigned refl d.each

-- a numeral alone has the base that its first bytes tell
no_letter : (text digits : List ℕ) (unsigned : Bool) (x : ℕ) (more : List ℕ) → text ≡ 48 ∷ x ∷ more → text ≡ digits ++ suffix_of unsigned → AreDigits Decimal digits → (x ≡ 117 → ⊥) → ⊥
no_letter text digits true x more e f d other = other (ap (λ l. get_or l 1 0) (sym e ∙ f ∙ ap (λ l. l ++ codes "u") (zero_then text digits (codes "u") x more e f d).1))
no_letter text digits false x more e f d other = let one = (zero_then text digits [] x more e f d).0 in omega (arith, ap length e, ap length f, length-append digits [])

own_base : (base other : Base) (text digits : List ℕ) (unsigned : Bool) → IsBaseAt base text → text ≡ prefix_of other ++ (digits ++ suffix_of unsigned) → AreDigits other digits → other ≡ base
own_base Binary Binary text digits unsigned b e d = refl
own_base Binary Decimal text digits unsigned b e d = absurd (no_letter text digits unsigned 98 (drop 2 text) b e d (λ h. omega arith))
own_base Binary Hexadecimal text digits unsigned b e d = absurd (two_letters text _ _ b e)
own_base Decimal Binary text digits unsigned b e d = absurd (b.0 _ e)
own_base Decimal Decimal text digits unsigned b e d = refl
own_base Decimal Hexadecimal text digits unsigned b e d = absurd (b.1 _ e)
own_base Hexadecimal Binary text digits unsigned b e d = absurd (two_letters text _ _ e b)
own_base Hexadecimal Decimal text digits unsigned b e d = absurd (no_letter text digits unsigned 120 (drop 2 text) b e d (λ h. omega arith))
own_base Hexadecimal Hexadecimal text digits unsigned b e d = refl

suffix_follows : (unsigned : Bool) → (get_or (suffix_of unsigned) 0 0 == 117) ≡ unsigned
suffix_follows true = refl
suffix_follows false = refl

-- the digits and the suffix of a numeral alone, and so its value
parts_are : (base : Base) (text digits : List ℕ) (unsigned : Bool) → text ≡ prefix_of base ++ (digits ++ suffix_of unsigned) → AreDigits base digits → (digits_of base text ≡ digits) × (rest_of base text ≡ suffix_of unsigned)
parts_are base text digits unsigned e d =
    let body : body_of base text ≡ digits ++ suffix_of unsigned = ap (drop (length (prefix_of base))) e ∙ drop_at (prefix_of base) (digits ++ suffix_of unsigned) (length (prefix_of base)) refl in
    let count : digit_count base (body_of base text) ≡ length digits = ap (digit_count base) body ∙ exact_count base digits unsigned d in (
      ap (λ n. take n (body_of base text)) count ∙ ap (take (length digits)) body ∙ take_at digits (suffix_of unsigned) (length digits) refl,
      ap (λ n. drop n (body_of base text)) count ∙ ap (drop (length digits)) body ∙ drop_at digits (suffix_of unsigned) (length digits) refl,
    )

pub numeral_value : (base : Base) (text : List ℕ) (value : ℕ) (unsigned : Bool) → IsBaseAt base text → IsNumeral text value unsigned → (value ≡ worth_after (radix_of base) 0 (digits_of base text)) × (unsigned ≡ (get_or (rest_of base text) 0 0 == 117))
numeral_value base text value unsigned b n =
    let same : n.base ≡ base = own_base base n.base text n.digits unsigned b n.written n.are_digits in
    let written : text ≡ prefix_of base ++ (n.digits ++ suffix_of unsigned) = n.written ∙ ap (λ o. prefix_of o ++ (n.digits ++ suffix_of unsigned)) same in
    let parts = parts_are base text n.digits unsigned written (subst (λ o. AreDigits o n.digits) same n.are_digits) in (
      n.worth ∙ ap (λ o. worth_after (radix_of o) 0 n.digits) same ∙ ap (worth_after (radix_of base) 0) (sym parts.0),
      sym (ap (λ l. get_or l 0 0 == 117) parts.1 ∙ suffix_follows unsigned),
    )

-- a base stands at the front of each text
pub any_base : (text : List ℕ) → (base : Base) × IsBaseAt base text
any_base [] = (Decimal, (λ rest e. omega (arith, ap length e), λ rest e. omega (arith, ap length e)))
any_base (a ∷ []) = (Decimal, (λ rest e. omega (arith, ap length e), λ rest e. omega (arith, ap length e)))
any_base (a ∷ b ∷ more) = elim (cases_eq a 48) [
  | inr other ↦ (Decimal, (λ rest e. other (ap (λ l. get_or l 0 0) e), λ rest e. other (ap (λ l. get_or l 0 0) e)))
  | inl zero_first ↦ elim (cases_eq b 120) [
    | inl x ↦ (Hexadecimal, ap (λ n. n ∷ b ∷ more) zero_first ∙ ap (λ n. 48 ∷ n ∷ more) x)
    | inr not_x ↦ elim (cases_eq b 98) [
      | inl letter ↦ (Binary, ap (λ n. n ∷ b ∷ more) zero_first ∙ ap (λ n. 48 ∷ n ∷ more) letter)
      | inr neither ↦ (Decimal, (λ rest e. neither (ap (λ l. get_or l 1 0) e), λ rest e. not_x (ap (λ l. get_or l 1 0) e)))
    ]
  ]
]

-- a numeral has one value
pub one_value : (text : List ℕ) (value other : ℕ) (unsigned more : Bool) → IsNumeral text value unsigned → IsNumeral text other more → (value ≡ other) × (unsigned ≡ more)
one_value text value other unsigned more n m =
    let base = any_base text in
    let one = numeral_value base.0 text value unsigned base.1 n in
    let two = numeral_value base.0 text other more base.1 m in
    (one.0 ∙ sym two.0, one.1 ∙ sym two.1)
