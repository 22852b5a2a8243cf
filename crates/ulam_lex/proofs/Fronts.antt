-- The first byte of a piece tells its class, and how long a run of bytes is.
use Rattle.std.proofs.Common.{◌≡◌, ℕ, ◌<◌, ◌≤◌, Bool, true, false, not, ◌||◌, List, [], ◌∷◌, ◌++◌, length, get_or, take, drop, refl, sym, ap, ◌∙◌, inl, inr, ◌⊎◌, arith, nat_eq, nat_lt, nat_le, append_assoc, add-zero}
use Rattle.std.specs.List.{list_any, list_all, prefix_len, AllPass}
use Rattle.std.specs.Prelude.{bytes_eq}
use Rattle.std.specs.Char.{is_digit}
use Rattle.std.proofs.lemmas.Bool.{and_parts, or_cases, eqb-true, ltb-true, agree_below_at, cond-true, cases_lt, false≢true, leb-true}
use Rattle.std.proofs.lemmas.Bool.Decides.{nat_tests}
use Rattle.std.proofs.lemmas.Slice.Eq.{bytes_eq-Decides}
use Rattle.std.proofs.lemmas.List.{get_or_append_left, get_or_past, get_or-drop, get_or-take, length-take-le, length-append}
use Rattle.std.proofs.lemmas.List.Sums.{prefix_len_passes, prefix_len_stops, prefix_len-le-length, AllPass-from_list_all}
use Rattle.feast_base.specs.TypeNames.{is_word_byte}
use Rattle.ulam_lex.specs.declared.token.TokenKind.TheVariants.{Name, TypeName, Keyword, Number, Sign, End}
use Rattle.ulam_lex.specs.declared.numeral.Base.{Base}
use Rattle.ulam_lex.specs.declared.numeral.Base.TheVariants.{Binary, Decimal, Hexadecimal}
use Rattle.ulam_lex.specs.declared.scan.PieceKind.{PieceKind}
use Rattle.ulam_lex.specs.declared.scan.PieceKind.TheVariants.{Space, Comment, Token}
use Rattle.ulam_lex.specs.declared.bytes.Class.{Class}
use Rattle.ulam_lex.specs.declared.bytes.Class.TheVariants.{White, Small, Capital, Digit, Mark}
use Rattle.ulam_lex.specs.Bytes.{is_white, class_of, keywords, is_keyword, signs, is_sign}
use Rattle.ulam_lex.specs.Pieces.{IsSpace, IsLineComment, IsBlockComment, AreDigits, IsNumberToken, IsPiece, IsWord, prefix_of}
use Rattle.ulam_lex.specs.Starts.{LeavesOpen, BeginsTooLarge, IsDigitless}

-- classes as numbers
abbrev pub rank : Class → ℕ
rank White = 0
rank Small = 1
rank Capital = 2
rank Digit = 3
rank Mark = 4

rank_small : (c : Class) → rank c ≡ 1 → c ≡ Small
rank_small White h = absurd (omega arith)
rank_small Small h = refl
rank_small Capital h = absurd (omega arith)
rank_small Digit h = absurd (omega arith)
rank_small Mark h = absurd (omega arith)

rank_digit : (c : Class) → rank c ≡ 3 → c ≡ Digit
rank_digit White h = absurd (omega arith)
rank_digit Small h = absurd (omega arith)
rank_digit Capital h = absurd (omega arith)
rank_digit Digit h = refl
rank_digit Mark h = absurd (omega arith)

rank_mark : (c : Class) → rank c ≡ 4 → c ≡ Mark
rank_mark White h = absurd (omega arith)
rank_mark Small h = absurd (omega arith)
rank_mark Capital h = absurd (omega arith)
rank_mark Digit h = absurd (omega arith)
rank_mark Mark h = refl

-- what is in a table passes each test that the whole table passes
pub in_table : (q : List ℕ → Bool) (table : List (List ℕ)) (bytes : List ℕ) → list_all q table ≡ true → list_any (λ s. bytes_eq s bytes) table ≡ true → q bytes ≡ true
in_table q [] bytes all found = absurd (false≢true found)
in_table q (s ∷ table) bytes all found =
    let parts = and_parts (q s) (list_all q table) all in
    elim (or_cases (bytes_eq s bytes) (list_any (λ s. bytes_eq s bytes) table) found) [
      | inl here ↦ ap q (sym ((bytes_eq-Decides s bytes).0 here)) ∙ parts.0
      | inr there ↦ in_table q table bytes parts.1 there
    ]

pub keyword_passes : (q : List ℕ → Bool) (bytes : List ℕ) → list_all q keywords ≡ true → is_keyword bytes ≡ true → q bytes ≡ true
keyword_passes q bytes all found = in_table q keywords bytes all found

pub sign_passes : (q : List ℕ → Bool) (bytes : List ℕ) → list_all q signs ≡ true → is_sign bytes ≡ true → q bytes ≡ true
sign_passes q bytes all found = in_table q signs bytes all found

-- the class of the first byte of a piece of a kind
abbrev pub class_by : PieceKind → Class
class_by Space = White
class_by Comment = Mark
class_by (Token Name) = Small
class_by (Token TypeName) = Capital
class_by (Token Keyword) = Small
class_by (Token Number) = Digit
class_by (Token Sign) = Mark
class_by (Token End) = Mark

white_class : (b : ℕ) → is_white b ≡ true → class_of b ≡ White
white_class b h = cond-true (is_white b) White _ h

-- a digit is one of ten bytes
below_58 : (b : ℕ) → is_digit b 10 ≡ true → b < 58
below_58 b h = grind (arith, nat_tests)

pub decimal_class : (b : ℕ) → is_digit b 10 ≡ true → class_of b ≡ Digit
decimal_class b h =
    let tested : (not (is_digit b 10) || nat_eq (rank (class_of b)) 3) ≡ true = agree_below_at (λ n. not (is_digit n 10) || nat_eq (rank (class_of n)) 3) (λ n. true) 58 b refl (below_58 b h) in
    rank_digit (class_of b) (elim (or_cases (not (is_digit b 10)) (nat_eq (rank (class_of b)) 3) tested) [
      | inl other ↦ absurd (false≢true (sym (ap not h) ∙ other))
      | inr same ↦ eqb-true _ 3 same
    ])

pub keyword_class : (bytes : List ℕ) → is_keyword bytes ≡ true → class_of (get_or bytes 0 0) ≡ Small
unfolding keywords
keyword_class bytes h = rank_small _ (eqb-true _ 1 (keyword_passes (λ s. nat_eq (rank (class_of (get_or s 0 0))) 1) bytes refl h))

pub sign_class : (bytes : List ℕ) → is_sign bytes ≡ true → class_of (get_or bytes 0 0) ≡ Mark
unfolding signs
sign_class bytes h = rank_mark _ (eqb-true _ 4 (sign_passes (λ s. nat_eq (rank (class_of (get_or s 0 0))) 4) bytes refl h))

-- a list that begins with another
pub first_of : (text front back : List ℕ) → text ≡ front ++ back → 0 < length front → get_or text 0 0 ≡ get_or front 0 0
first_of text front back e some = ap (λ l. get_or l 0 0) e ∙ get_or_append_left front back 0 0 some

numeral_class : (base : Base) (digits rest : List ℕ) → AreDigits base digits → class_of (get_or (prefix_of base ++ (digits ++ rest)) 0 0) ≡ Digit
numeral_class Binary digits rest d = refl
numeral_class Decimal digits rest d = ap class_of (get_or_append_left digits rest 0 0 d.some) ∙ decimal_class (get_or digits 0 0) (d.each 0 0 d.some)
numeral_class Hexadecimal digits rest d = refl

pub piece_class : (kind : PieceKind) (front : List ℕ) → IsPiece kind front → class_of (get_or front 0 0) ≡ class_by kind
piece_class Space front p = white_class (get_or front 0 0) (p.1 0 0 p.0)
piece_class Comment front (inl p) = ap (λ l. class_of (get_or l 0 0)) p.1
piece_class Comment front (inr p) = ap (λ l. class_of (get_or l 0 0)) p.1
piece_class (Token Name) front p = p.0
piece_class (Token TypeName) front p = p.0
piece_class (Token Keyword) front p = keyword_class front p
piece_class (Token Number) front p = ap (λ l. class_of (get_or l 0 0)) p.2.written ∙ numeral_class _ _ _ p.2.are_digits
piece_class (Token Sign) front p = sign_class front p
piece_class (Token End) front p = absurd p

-- byte 0 begins no word, so a piece isn't empty
mark_at_nothing : (front : List ℕ) → length front ≡ 0 → class_of (get_or front 0 0) ≡ Mark
mark_at_nothing [] e = refl
mark_at_nothing (b ∷ front) e = absurd (omega arith)

sign_some : (bytes : List ℕ) → is_sign bytes ≡ true → 0 < length bytes
unfolding signs
sign_some bytes h = ltb-true 0 (length bytes) (sign_passes (λ s. nat_lt 0 (length s)) bytes refl h)

pub piece_some : (kind : PieceKind) (front : List ℕ) → IsPiece kind front → 0 < length front
piece_some Space front p = p.0
piece_some Comment front (inl p) = omega (arith, ap length p.1)
piece_some Comment front (inr p) = omega (arith, ap length p.1)
piece_some (Token Name) front p = elim (cases_lt 0 (length front)) [ inl some ↦ some | inr none ↦ let e : length front ≡ 0 = omega arith in let m = mark_at_nothing front e in let s = p.0 in cc ]
piece_some (Token TypeName) front p = elim (cases_lt 0 (length front)) [ inl some ↦ some | inr none ↦ let e : length front ≡ 0 = omega arith in let m = mark_at_nothing front e in let s = p.0 in cc ]
piece_some (Token Keyword) front p = elim (cases_lt 0 (length front)) [ inl some ↦ some | inr none ↦ let e : length front ≡ 0 = omega arith in let m = mark_at_nothing front e in let s = keyword_class front p in cc ]
piece_some (Token Number) front p = omega (arith, p.2.are_digits.some, ap length p.2.written, length-append (prefix_of p.2.base), length-append p.2.digits)
piece_some (Token Sign) front p = sign_some front p
piece_some (Token End) front p = absurd p

-- all pieces that begin at one place have one class
pub front_class : (kind : PieceKind) (text front back : List ℕ) → text ≡ front ++ back → IsPiece kind front → class_of (get_or text 0 0) ≡ class_by kind
front_class kind text front back e p = ap class_of (first_of text front back e (piece_some kind front p)) ∙ piece_class kind front p

pub open_class : (text : List ℕ) → LeavesOpen text → class_of (get_or text 0 0) ≡ Mark
open_class text h = ap (λ l. class_of (get_or l 0 0)) h.1

pub large_class : (text : List ℕ) → BeginsTooLarge text → class_of (get_or text 0 0) ≡ Digit
large_class text (front, back, value, unsigned, e, n, large) =
    let written : text ≡ prefix_of n.base ++ (n.digits ++ (_ ++ back)) = e ∙ ap (λ l. l ++ back) n.written ∙ append_assoc (prefix_of n.base) _ back ∙ ap (λ l. prefix_of n.base ++ l) (append_assoc n.digits _ back) in
    ap (λ l. class_of (get_or l 0 0)) written ∙ numeral_class n.base n.digits _ n.are_digits

pub bare_class : (text front back : List ℕ) → IsDigitless text front back → class_of (get_or text 0 0) ≡ Digit
bare_class text front back (inl h) = ap (λ l. class_of (get_or l 0 0)) (h.0 ∙ ap (λ l. l ++ back) h.1)
bare_class text front back (inr h) = ap (λ l. class_of (get_or l 0 0)) (h.0 ∙ ap (λ l. l ++ back) h.1)

-- which kinds begin with a class
pub only_space : (kind : PieceKind) (front : List ℕ) → class_by kind ≡ White → IsPiece kind front → IsSpace front
only_space Space front c p = p
only_space Comment front c p = cc
only_space (Token Name) front c p = cc
only_space (Token TypeName) front c p = cc
only_space (Token Keyword) front c p = cc
only_space (Token Number) front c p = cc
only_space (Token Sign) front c p = cc
only_space (Token End) front c p = cc

keyword_is_word : (bytes : List ℕ) → is_keyword bytes ≡ true → IsWord bytes
unfolding keywords
keyword_is_word bytes h = (
  leb-true (length bytes) 255 (keyword_passes (λ s. nat_le (length s) 255) bytes refl h),
  AllPass-from_list_all is_word_byte bytes (keyword_passes (λ s. list_all is_word_byte s) bytes refl h),
)

pub only_small : (kind : PieceKind) (front : List ℕ) → class_by kind ≡ Small → IsPiece kind front → IsWord front
only_small Space front c p = cc
only_small Comment front c p = cc
only_small (Token Name) front c p = p.1
only_small (Token TypeName) front c p = cc
only_small (Token Keyword) front c p = keyword_is_word front p
only_small (Token Number) front c p = cc
only_small (Token Sign) front c p = cc
only_small (Token End) front c p = cc

pub only_capital : (kind : PieceKind) (front : List ℕ) → class_by kind ≡ Capital → IsPiece kind front → IsWord front
only_capital Space front c p = cc
only_capital Comment front c p = cc
only_capital (Token Name) front c p = cc
only_capital (Token TypeName) front c p = p.1
only_capital (Token Keyword) front c p = cc
only_capital (Token Number) front c p = cc
only_capital (Token Sign) front c p = cc
only_capital (Token End) front c p = cc

pub only_digit : (kind : PieceKind) (front : List ℕ) → class_by kind ≡ Digit → IsPiece kind front → IsNumberToken front
only_digit Space front c p = cc
only_digit Comment front c p = cc
only_digit (Token Name) front c p = cc
only_digit (Token TypeName) front c p = cc
only_digit (Token Keyword) front c p = cc
only_digit (Token Number) front c p = p
only_digit (Token Sign) front c p = cc
only_digit (Token End) front c p = cc

pub only_mark : (kind : PieceKind) (front : List ℕ) → class_by kind ≡ Mark → IsPiece kind front → (IsLineComment front ⊎ IsBlockComment front) ⊎ (is_sign front ≡ true)
only_mark Space front c p = cc
only_mark Comment front c p = inl p
only_mark (Token Name) front c p = cc
only_mark (Token TypeName) front c p = cc
only_mark (Token Keyword) front c p = cc
only_mark (Token Number) front c p = cc
only_mark (Token Sign) front c p = inr p
only_mark (Token End) front c p = absurd p

-- a front of bytes that pass is within the run that passes
pub run_bounds : (p : ℕ → Bool) (text front back : List ℕ) → text ≡ front ++ back → AllPass p front → length front ≤ prefix_len p text
run_bounds p text front back e passes = elim (cases_lt (prefix_len p text) (length front)) [
  | inl shorter ↦
      let n = prefix_len p text in
      let within : n < length text = omega (arith, ap length e, length-append front back) in
      let stops : p (get_or text n 0) ≡ false = prefix_len_stops p text 0 within in
      let same : get_or text n 0 ≡ get_or front n 0 = ap (λ l. get_or l n 0) e ∙ get_or_append_left front back 0 n shorter in
      absurd (false≢true (sym stops ∙ ap p same ∙ passes n 0 shorter))
  | inr enough ↦ enough
]

-- a front of the run passes
pub run_passes : (p : ℕ → Bool) (text : List ℕ) (n : ℕ) → n ≤ prefix_len p text → AllPass p (take n text)
run_passes p text n within = λ k d lt.
    let short : n ≤ length text = omega (arith, prefix_len-le-length p text) in
    let below : k < n = omega (arith, length-take-le n text short) in
    ap p (get_or-take n text k d below) ∙ prefix_len_passes p text k d (omega arith)

-- the byte after the whole run does not pass
pub run_ends : (p : ℕ → Bool) (text : List ℕ) → p 0 ≡ false → p (get_or (drop (prefix_len p text) text) 0 0) ≡ false
run_ends p text zero_fails = ap p (get_or-drop (prefix_len p text) text 0 0 ∙ ap (λ i. get_or text i 0) (add-zero (prefix_len p text))) ∙
    elim (cases_lt (prefix_len p text) (length text)) [
      | inl within ↦ prefix_len_stops p text 0 within
      | inr beyond ↦ ap p (get_or_past text (prefix_len p text) 0 beyond) ∙ zero_fails
    ]
