-- What is at the front of a text.
use Rattle.std.specs.Prelude.{◌≡◌, ◌≢◌, ◌⊎◌, ℕ, ◌+◌, ◌<◌, ◌≤◌, ◌^◌, ◌==◌, Bool, false, List, [], ◌++◌, length, slice_index, take, drop, codes, if◌then◌else◌}
use Rattle.std.specs.List.{prefix_len}
use Rattle.std.specs.Char.{is_digit}
use Rattle.ulam_lex.specs.declared.numeral.Base.{Base}
use Rattle.ulam_lex.specs.declared.numeral.Base.TheVariants.{Binary, Decimal, Hexadecimal}
use Rattle.ulam_lex.specs.declared.scan.PieceKind.{PieceKind}
use Rattle.ulam_lex.specs.declared.scan.Start.{Start}
use Rattle.ulam_lex.specs.declared.scan.Start.TheVariants.{Piece, BadByte, OpenComment, NumberTooLarge}
use Rattle.ulam_lex.specs.Pieces.{Holds, IsPiece, IsNumeral, prefix_of, radix_of}

-- a comment is opened at the front, and not closed
abbrev pub LeavesOpen : List ℕ → Type 0
LeavesOpen text = (after : List ℕ) × (text ≡ codes "/*" ++ after) × ¬ Holds after (codes "*/")

-- the text begins with a numeral of 2 ^ 32 or more
abbrev pub BeginsTooLarge : List ℕ → Type 0
BeginsTooLarge text = (front : List ℕ) × (back : List ℕ) × (value : ℕ) × (unsigned : Bool) × (text ≡ front ++ back) × IsNumeral front value unsigned × (2 ^ 32 ≤ value)

-- the text is a base's prefix, followed by no digit of the base
abbrev pub LacksDigit : Base → List ℕ → List ℕ → List ℕ → Type 0
LacksDigit base text front back = (text ≡ front ++ back) × (front ≡ prefix_of base) × (is_digit (slice_index back 0) (radix_of base) ≡ false)

-- the text begins with `0x` or `0b`, and no digit follows
abbrev pub IsDigitless : List ℕ → List ℕ → List ℕ → Type 0
IsDigitless text front back = LacksDigit Hexadecimal text front back ⊎ LacksDigit Binary text front back

-- the text begins with no piece
abbrev pub BeginsNothing : List ℕ → List ℕ → List ℕ → Type 0
BeginsNothing text front back = (text ≡ front ++ back) × (front ≡ []) × (0 < length text) × ((kind : PieceKind) (piece rest : List ℕ) → text ≡ piece ++ rest → IsPiece kind piece → ⊥)

-- the front of the text is a piece, the longest that begins there, and nothing is wrong with it
pub record Stands (kind : PieceKind) (text front back : List ℕ) : Type 0 where
  pub split : text ≡ front ++ back
  pub piece : IsPiece kind front
  pub longest : (other : PieceKind) (longer rest : List ℕ) → text ≡ longer ++ rest → IsPiece other longer → length longer ≤ length front
  pub closed : ¬ LeavesOpen text
  pub small : ¬ BeginsTooLarge text
  pub complete : (bare rest : List ℕ) → ¬ IsDigitless text bare rest

-- what was found at the front of a text
abbrev pub IsStart : List ℕ → Start → Type 0
IsStart text (Piece kind n) = (0 < n) × (n ≤ length text) × Stands kind text (take n text) (drop n text)
IsStart text (BadByte n) = (n ≤ length text) × (BeginsNothing text (take n text) (drop n text) ⊎ IsDigitless text (take n text) (drop n text))
IsStart text OpenComment = LeavesOpen text
IsStart text NumberTooLarge = BeginsTooLarge text

-- the base of the number at the front of a text
abbrev pub IsBaseAt : Base → List ℕ → Type 0
IsBaseAt Binary text = text ≡ codes "0b" ++ drop 2 text
IsBaseAt Decimal text = ((rest : List ℕ) → text ≢ codes "0b" ++ rest) × ((rest : List ℕ) → text ≢ codes "0x" ++ rest)
IsBaseAt Hexadecimal text = text ≡ codes "0x" ++ drop 2 text

-- how many digits of a base are at the front
abbrev pub digit_count : Base → List ℕ → ℕ
digit_count Binary bytes = prefix_len (λ d. is_digit d 2) bytes
digit_count Decimal bytes = if (slice_index bytes 0 == 48) then 1 else prefix_len (λ d. is_digit d 10) bytes
digit_count Hexadecimal bytes = prefix_len (λ d. is_digit d 16) bytes

-- what follows the prefix of a base, the digits that it begins with, and what follows these
abbrev pub body_of : Base → List ℕ → List ℕ
body_of base text = drop (length (prefix_of base)) text

abbrev pub digits_of : Base → List ℕ → List ℕ
digits_of base text = take (digit_count base (body_of base text)) (body_of base text)

abbrev pub rest_of : Base → List ℕ → List ℕ
rest_of base text = drop (digit_count base (body_of base text)) (body_of base text)

-- no comment begins at the front
abbrev pub OpensNone : List ℕ → Type 0
OpensNone text = ((rest : List ℕ) → text ≢ codes "//" ++ rest) × ((rest : List ℕ) → text ≢ codes "/*" ++ rest)

-- `*/` is at this index
abbrev pub ClosesAt : List ℕ → ℕ → Type 0
ClosesAt text at = (slice_index text at ≡ 42) × (slice_index text (at + 1) ≡ 47)

-- it is not
abbrev pub StaysOpenAt : List ℕ → ℕ → Type 0
StaysOpenAt text at = slice_index text at ≡ 42 → slice_index text (at + 1) ≡ 47 → ⊥
