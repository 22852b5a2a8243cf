-- What the lexer does with one piece, and what it has done up to a place.
use Rattle.std.specs.Prelude.{◌≡◌, ℕ, ◌+◌, ◌<◌, ◌≤◌, ◌==◌, false, List, [], ◌++◌, length, take, drop, if◌then◌else◌, Result, Ok, Err}
use Rattle.feast_base.specs.declared.place.Place.{Place}
use Rattle.ulam_lex.specs.declared.token.TokenKind.{TokenKind}
use Rattle.ulam_lex.specs.declared.token.Token.{Token}
use Rattle.ulam_lex.specs.declared.token.LexFault.{LexFault}
use Rattle.ulam_lex.specs.declared.token.LexFault.TheVariants.{BadByte, OpenComment, NumberTooLarge, TooManyTokens, NoMemory}
use Rattle.ulam_lex.specs.declared.scan.PieceKind.{PieceKind}
use Rattle.ulam_lex.specs.declared.scan.PieceKind.TheVariants as piece
use Rattle.ulam_lex.specs.Starts.{Stands}
use Rattle.ulam_lex.specs.Texts.{TextPiece, bytes_of_pieces, is_joined, ArePieces, place_after, token_list, tokens_after, IsFaultAt}
use Rattle.ulam_lex.specs.declared.lexer.TheConstants.{MOST_TOKENS}

-- the place after one more byte
abbrev pub next_place : Place → ℕ → Place
next_place p b = if (b == 10) then record { file = p.file; line = p.line + 1; column = 1 } else record { file = p.file; line = p.line; column = p.column + 1 }

-- a file cut in two where the lexer is: the number of the file, the bytes before the cut, and the rest
pub record Cut : Type 0 where
  pub file : ℕ
  pub before : List ℕ
  pub rest : List ℕ

-- the cut at an index of a text
abbrev pub cut_at : ℕ → List ℕ → ℕ → Cut
cut_at file text at = record { file = file; before = take at text; rest = drop at text }

-- the place of the first byte of the rest
abbrev pub place_of : Cut → Place
place_of cut = place_after cut.file cut.before

-- a piece where it stands in a text: its kind, the index of its first byte, the index after its last, and its place
pub record StandingPiece : Type 0 where
  pub kind : PieceKind
  pub first : ℕ
  pub end : ℕ
  pub place : Place

abbrev pub standing : PieceKind → ℕ → ℕ → Place → StandingPiece
standing kind first end place = record { kind = kind; first = first; end = end; place = place }

-- if the piece is a token, it was added to the old tokens, or it is one too many; any other piece adds nothing
abbrev pub IsAdded : StandingPiece → List Token → List Token → Result (Unit {0}) LexFault → Type 0
IsAdded p old new (Ok x) = (new ≡ old ++ token_list p.kind p.first p.end p.place) × (length new ≤ MOST_TOKENS)
IsAdded p old new (Err (BadByte at)) = ⊥
IsAdded p old new (Err (OpenComment at)) = ⊥
IsAdded p old new (Err (NumberTooLarge at)) = ⊥
IsAdded p old new (Err (TooManyTokens at)) = (length old ≡ MOST_TOKENS) × (at ≡ p.place) × ((token : TokenKind) × (p.kind ≡ piece.Token token))
IsAdded p old new (Err NoMemory) = Unit {0}

-- after this many tokens the fault is in the rest, unless memory ran out
abbrev pub IsFaultIn : Cut → ℕ → LexFault → Type 0
IsFaultIn cut count (BadByte at) = IsFaultAt cut.file cut.before count cut.rest (BadByte at)
IsFaultIn cut count (OpenComment at) = IsFaultAt cut.file cut.before count cut.rest (OpenComment at)
IsFaultIn cut count (NumberTooLarge at) = IsFaultAt cut.file cut.before count cut.rest (NumberTooLarge at)
IsFaultIn cut count (TooManyTokens at) = IsFaultAt cut.file cut.before count cut.rest (TooManyTokens at)
IsFaultIn cut count NoMemory = Unit {0}

-- the first n bytes of the rest are a piece; if it is a token, it was added; and the next place is that after the piece
pub record TakesPiece (cut : Cut) (old new : List Token) (n : ℕ) (next : Place) : Type 0 where
  pub kind : PieceKind
  pub some : 0 < n
  pub within : n ≤ length cut.rest
  pub stands : Stands kind cut.rest (take n cut.rest) (drop n cut.rest)
  pub apart : is_joined kind (drop n cut.rest) ≡ false
  pub added : new ≡ old ++ token_list kind (length cut.before) (length cut.before + n) (place_of cut)
  pub few : length new ≤ MOST_TOKENS
  pub placed : next ≡ place_after cut.file (cut.before ++ take n cut.rest)

-- a piece was taken, and its length and the place after it are given, or there is a fault
abbrev pub IsStep : Cut → List Token → List Token → Result (ℕ × Place) LexFault → Type 0
IsStep cut old new (Ok taken) = TakesPiece cut old new taken.0 taken.1
IsStep cut old new (Err fault) = IsFaultIn cut (length old) fault

-- the bytes before a place are pieces, and their tokens are these
pub record IsRead (file : ℕ) (text : List ℕ) (at : ℕ) (tokens : List Token) (place : Place) : Type 0 where
  pub pieces : List TextPiece
  pub within : at ≤ length text
  pub before : take at text ≡ bytes_of_pieces pieces
  pub are_pieces : ArePieces pieces (drop at text)
  pub listed : tokens ≡ tokens_after file [] pieces
  pub few : length tokens ≤ MOST_TOKENS
  pub placed : place ≡ place_after file (take at text)
