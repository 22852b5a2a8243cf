-- Which list of tokens a text has, or where and why it has none.
use Rattle.std.specs.Prelude.{◌≡◌, ◌⊎◌, ℕ, ◌+◌, ◌<◌, ◌≤◌, ◌==◌, Bool, true, false, ◌&&◌, List, [], ◌∷◌, ◌++◌, length, slice_index, slice_range, flat_map, count_by}
use Rattle.std.specs.List.{suffix_len}
use Rattle.feast_base.specs.TypeNames.{is_word_byte}
use Rattle.feast_base.specs.declared.place.Place.{Place}
use Rattle.ulam_lex.specs.declared.token.TokenKind.{TokenKind}
use Rattle.ulam_lex.specs.declared.token.TokenKind.TheVariants.{Name, TypeName, Keyword, Number, Sign, End}
use Rattle.ulam_lex.specs.declared.token.Token.{Token}
use Rattle.ulam_lex.specs.declared.token.LexFault.{LexFault}
use Rattle.ulam_lex.specs.declared.token.LexFault.TheVariants.{BadByte, OpenComment, NumberTooLarge, TooManyTokens, NoMemory}
use Rattle.ulam_lex.specs.declared.scan.PieceKind.{PieceKind}
use Rattle.ulam_lex.specs.declared.scan.PieceKind.TheVariants as piece
use Rattle.ulam_lex.specs.Pieces.{is_in_line, IsToken}
use Rattle.ulam_lex.specs.Starts.{Stands, BeginsNothing, IsDigitless, LeavesOpen, BeginsTooLarge}
use Rattle.ulam_lex.specs.declared.lexer.TheConstants.{MOST_TOKENS}

-- a piece of a text
pub record TextPiece : Type 0 where
  pub kind : PieceKind
  pub bytes : List ℕ

-- the bytes of pieces, one after another
abbrev pub bytes_of_pieces : List TextPiece → List ℕ
bytes_of_pieces pieces = flat_map (λ (p : TextPiece). p.bytes) pieces

-- the kinds that no letter, digit or `_` may follow
abbrev pub is_word_kind : PieceKind → Bool
is_word_kind piece.Space = false
is_word_kind piece.Comment = false
is_word_kind (piece.Token Name) = true
is_word_kind (piece.Token TypeName) = true
is_word_kind (piece.Token Keyword) = true
is_word_kind (piece.Token Number) = true
is_word_kind (piece.Token Sign) = false
is_word_kind (piece.Token End) = false

-- a letter, a digit or `_` directly follows a word or a number
abbrev pub is_joined : PieceKind → List ℕ → Bool
is_joined kind back = is_word_kind kind && is_word_byte (slice_index back 0)

-- these pieces come one after another, and then the rest
abbrev pub ArePieces : List TextPiece → List ℕ → Type 0
ArePieces [] rest = Unit {0}
ArePieces (p ∷ ps) rest = Stands p.kind (p.bytes ++ (bytes_of_pieces ps ++ rest)) p.bytes (bytes_of_pieces ps ++ rest) × (is_joined p.kind (bytes_of_pieces ps ++ rest) ≡ false) × ArePieces ps rest

-- the place after some bytes of a file: its line is 1 more than the LFs among them, and its column 1 more than the bytes after the last LF
abbrev pub place_after : ℕ → List ℕ → Place
place_after file before = record { file = file; line = 1 + count_by (λ b. b == 10) before; column = 1 + suffix_len is_in_line before }

-- the token of a piece, if it is one
abbrev pub token_list : PieceKind → ℕ → ℕ → Place → List Token
token_list piece.Space first end place = []
token_list piece.Comment first end place = []
token_list (piece.Token kind) first end place = record { kind = kind; first = first; end = end; place = place } ∷ []

-- the tokens of pieces that follow some bytes
abbrev pub tokens_after : ℕ → List ℕ → List TextPiece → List Token
tokens_after file before [] = []
tokens_after file before (p ∷ ps) = token_list p.kind (length before) (length before + length p.bytes) (place_after file before) ++ tokens_after file (before ++ p.bytes) ps

-- the token at the end of a text
abbrev pub end_token : ℕ → List ℕ → Token
end_token file text = record { kind = End; first = length text; end = length text; place = place_after file text }

-- the text has this list of tokens: it is a list of pieces, and these are its tokens, and `End`
abbrev pub IsTokensOf : ℕ → List ℕ → List Token → Type 0
IsTokensOf file text tokens = (pieces : List TextPiece) × (text ≡ bytes_of_pieces pieces) × ArePieces pieces [] × (tokens ≡ tokens_after file [] pieces ++ end_token file text ∷ [])

-- the text has this list of tokens, and it is no longer than it may be
abbrev pub IsTokenList : ℕ → List ℕ → List Token → Type 0
IsTokenList file text tokens = IsTokensOf file text tokens × (length tokens ≤ MOST_TOKENS + 1)

-- a letter, a digit or `_` directly follows the word or number at the front, and there is room for that token
abbrev pub JoinsWord : ℕ → List ℕ → List ℕ → List ℕ → Type 0
JoinsWord count text front back = (kind : PieceKind) × Stands kind text front back × (is_joined kind back ≡ true) × (count < MOST_TOKENS)

-- a byte that can't be there follows the front
abbrev pub IsBadBehind : ℕ → List ℕ → List ℕ → List ℕ → Type 0
IsBadBehind count text front back = BeginsNothing text front back ⊎ (IsDigitless text front back ⊎ JoinsWord count text front back)

-- one token more than a text may have is at the front
abbrev pub IsOneTooMany : ℕ → List ℕ → Type 0
IsOneTooMany count text = (count ≡ MOST_TOKENS) × (kind : TokenKind) × (front : List ℕ) × (back : List ℕ) × Stands (piece.Token kind) text front back

-- after some bytes with this many tokens, this fault is in the rest
abbrev pub IsFaultAt : ℕ → List ℕ → ℕ → List ℕ → LexFault → Type 0
IsFaultAt file before count rest (BadByte place) = (front : List ℕ) × (back : List ℕ) × IsBadBehind count rest front back × (place ≡ place_after file (before ++ front))
IsFaultAt file before count rest (OpenComment place) = LeavesOpen rest × (place ≡ place_after file before)
IsFaultAt file before count rest (NumberTooLarge place) = BeginsTooLarge rest × (place ≡ place_after file before)
IsFaultAt file before count rest (TooManyTokens place) = IsOneTooMany count rest × (place ≡ place_after file before)
IsFaultAt file before count rest NoMemory = ⊥

-- how many of the pieces are tokens
abbrev pub token_count : List TextPiece → ℕ
token_count pieces = length (tokens_after 0 [] pieces)

-- the first fault of a text: the pieces before it have no more tokens than a text may have
abbrev pub IsFaultOf : ℕ → List ℕ → LexFault → Type 0
IsFaultOf file text fault = (pieces : List TextPiece) × (rest : List ℕ) × (text ≡ bytes_of_pieces pieces ++ rest) × ArePieces pieces rest × (token_count pieces ≤ MOST_TOKENS) × IsFaultAt file (bytes_of_pieces pieces) (token_count pieces) rest fault

-- each token comes after the one before it and is one of its kind; the last is at the end of the text, and no other is `End`
abbrev pub AreInOrder : List ℕ → ℕ → List Token → Type 0
AreInOrder text from [] = ⊥
AreInOrder text from (t ∷ []) = (t.kind ≡ End) × (from ≤ t.first) × (t.first ≡ length text) × (t.end ≡ length text)
AreInOrder text from (t ∷ u ∷ ts) = IsToken t.kind (slice_range text t.first t.end) × (from ≤ t.first) × (t.first < t.end) × (t.end ≤ length text) × AreInOrder text t.end (u ∷ ts)
