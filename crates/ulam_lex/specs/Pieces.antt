-- The pieces that a text is made of: white space, comments and tokens.
use Rattle.std.specs.Prelude.{◌≡◌, ◌⊎◌, ℕ, ◌+◌, ◌*◌, ◌<◌, ◌≤◌, ◌^◌, ◌==◌, Bool, true, false, not, List, [], ◌++◌, length, slice_index, fold, codes}
use Rattle.std.specs.List.{AllPass}
use Rattle.std.specs.Char.{digit_value, is_digit}
use Rattle.feast_base.specs.TypeNames.{is_word_byte}
use Rattle.feast_base.specs.declared.type_name.TheConstants.{LONGEST_NAME}
use Rattle.ulam_lex.specs.declared.bytes.Class.TheVariants.{Small, Capital}
use Rattle.ulam_lex.specs.declared.token.TokenKind.{TokenKind}
use Rattle.ulam_lex.specs.declared.token.TokenKind.TheVariants.{Name, TypeName, Keyword, Number, Sign, End}
use Rattle.ulam_lex.specs.declared.numeral.Base.{Base}
use Rattle.ulam_lex.specs.declared.numeral.Base.TheVariants.{Binary, Decimal, Hexadecimal}
use Rattle.ulam_lex.specs.declared.scan.PieceKind.{PieceKind}
use Rattle.ulam_lex.specs.declared.scan.PieceKind.TheVariants.{Space, Comment, Token}
use Rattle.ulam_lex.specs.Bytes.{is_white, class_of, is_keyword, is_sign}

-- one or more bytes of white space
abbrev pub IsSpace : List ℕ → Type 0
IsSpace bytes = (0 < length bytes) × AllPass is_white bytes

-- a byte other than LF
abbrev pub is_in_line : ℕ → Bool
is_in_line b = not (b == 10)

-- `//` and then no LF
abbrev pub IsLineComment : List ℕ → Type 0
IsLineComment bytes = (body : List ℕ) × (bytes ≡ codes "//" ++ body) × AllPass is_in_line body

-- the part occurs somewhere in the bytes
abbrev pub Holds : List ℕ → List ℕ → Type 0
Holds bytes part = (front : List ℕ) × (back : List ℕ) × (bytes ≡ front ++ (part ++ back))

-- `/*`, then no `*/`, and then `*/`
abbrev pub IsBlockComment : List ℕ → Type 0
IsBlockComment bytes = (body : List ℕ) × (bytes ≡ codes "/*" ++ (body ++ codes "*/")) × ¬ Holds body (codes "*/")

-- letters, digits and `_`, no more than a name may have
abbrev pub IsWord : List ℕ → Type 0
IsWord bytes = (length bytes ≤ LONGEST_NAME) × AllPass is_word_byte bytes

-- what a number in a base begins with
abbrev pub prefix_of : Base → List ℕ
prefix_of Binary = codes "0b"
prefix_of Decimal = []
prefix_of Hexadecimal = codes "0x"

-- how many digits a base has
abbrev pub radix_of : Base → ℕ
radix_of Binary = 2
radix_of Decimal = 10
radix_of Hexadecimal = 16

-- the value of digits that follow the number n
abbrev pub worth_after : ℕ → ℕ → List ℕ → ℕ
worth_after radix n digits = fold (λ (v d : ℕ). v * radix + digit_value d) n digits

-- in base ten only 0 itself begins with 0
abbrev pub IsCanonical : Base → List ℕ → Type 0
IsCanonical Binary digits = Unit {0}
IsCanonical Decimal digits = slice_index digits 0 ≡ 48 → length digits ≡ 1
IsCanonical Hexadecimal digits = Unit {0}

-- one or more digits of a base
pub record AreDigits (base : Base) (digits : List ℕ) : Type 0 where
  pub some : 0 < length digits
  pub each : AllPass (λ d. is_digit d (radix_of base)) digits
  pub canonical : IsCanonical base digits

-- a numeral may end in `u`
abbrev pub suffix_of : Bool → List ℕ
suffix_of true = codes "u"
suffix_of false = []

-- a number as it is written, of any size: `0`, a decimal that begins with 1 to 9, `0x` and hexadecimal digits or `0b` and binary digits, then maybe `u`
pub record IsNumeral (bytes : List ℕ) (value : ℕ) (unsigned : Bool) : Type 0 where
  pub base : Base
  pub digits : List ℕ
  pub are_digits : AreDigits base digits
  pub written : bytes ≡ prefix_of base ++ (digits ++ suffix_of unsigned)
  pub worth : value ≡ worth_after (radix_of base) 0 digits

-- the numeral of a number below 2 ^ 32
abbrev pub IsNumberToken : List ℕ → Type 0
IsNumberToken bytes = (value : ℕ) × (unsigned : Bool) × IsNumeral bytes value unsigned × (value < 2 ^ 32)

-- a token of a kind. The token at the end of a text is not a piece of it
abbrev pub IsToken : TokenKind → List ℕ → Type 0
IsToken Name bytes = (class_of (slice_index bytes 0) ≡ Small) × IsWord bytes × (is_keyword bytes ≡ false)
IsToken TypeName bytes = (class_of (slice_index bytes 0) ≡ Capital) × IsWord bytes
IsToken Keyword bytes = is_keyword bytes ≡ true
IsToken Number bytes = IsNumberToken bytes
IsToken Sign bytes = is_sign bytes ≡ true
IsToken End bytes = ⊥

-- a piece of a kind
abbrev pub IsPiece : PieceKind → List ℕ → Type 0
IsPiece Space bytes = IsSpace bytes
IsPiece Comment bytes = IsLineComment bytes ⊎ IsBlockComment bytes
IsPiece (Token kind) bytes = IsToken kind bytes
