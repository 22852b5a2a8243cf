-- Tokens as the grammar sees them.
use Rattle.std.specs.Prelude.{ℕ, ◌==◌, Bool, List, [], ◌∷◌, map, codes, bytes_eq, slice_index, slice_range, take, if◌then◌else◌}
use Rattle.feast_base.specs.declared.place.Place.{Place}
use Rattle.ulam_lex.specs.declared.token.TokenKind.{TokenKind}
use Rattle.ulam_lex.specs.declared.token.TokenKind.TheVariants as k
use Rattle.ulam_lex.specs.declared.token.Token.{Token}
use Rattle.ulam_lex.specs.declared.numeral.Base.{Base}
use Rattle.ulam_lex.specs.declared.numeral.Base.TheVariants.{Binary, Decimal, Hexadecimal}
use Rattle.ulam_lex.specs.Pieces.{radix_of, worth_after}
use Rattle.ulam_lex.specs.Starts.{digits_of, rest_of}
use Rattle.ulam_parse.specs.declared.symbol.Symbol.{Symbol}
use Rattle.ulam_parse.specs.declared.symbol.Symbol.TheVariants as s

-- the bytes of a token
abbrev pub Text : Type 0
Text = List ℕ

-- a token: what it is to the grammar, its text and its place
pub data Tok : Type 0 where
  tok : Symbol → Text → Place → Tok

abbrev pub place_at : Tok → Place
place_at (tok k w p) = p

abbrev pub text_in : Tok → Text
text_in (tok k w p) = w

-- The symbol that a table has for a text. A text that it lacks gets `:`, which no rule of the grammar uses.
abbrev pub symbol_in : List (Text × Symbol) → Text → Symbol
symbol_in [] text = s.Colon
symbol_in (entry ∷ entries) text = if bytes_eq entry.0 text then entry.1 else symbol_in entries text

unfoldable pub keywords : List (Text × Symbol)
keywords =
    (codes "element", s.Element) ∷ (codes "quark", s.Quark) ∷ (codes "ulam", s.Ulam) ∷ (codes "use", s.Use) ∷ (codes "typedef", s.Typedef)
    ∷ (codes "constant", s.Constant) ∷ (codes "if", s.If) ∷ (codes "else", s.Else) ∷ (codes "while", s.While) ∷ (codes "for", s.For)
    ∷ (codes "return", s.Return) ∷ (codes "break", s.Break) ∷ (codes "continue", s.Continue) ∷ (codes "is", s.Is) ∷ (codes "as", s.As)
    ∷ (codes "self", s.Own) ∷ (codes "true", s.True) ∷ (codes "false", s.False) ∷ (codes "instanceof", s.Instanceof) ∷ []

unfoldable pub signs : List (Text × Symbol)
signs =
    (codes "{", s.OpenBrace) ∷ (codes "}", s.CloseBrace) ∷ (codes "(", s.OpenParen) ∷ (codes ")", s.CloseParen) ∷ (codes "[", s.OpenBracket)
    ∷ (codes "]", s.CloseBracket) ∷ (codes ";", s.Semi) ∷ (codes ":", s.Colon) ∷ (codes ",", s.Comma) ∷ (codes ".", s.Dot) ∷ (codes "=", s.Set)
    ∷ (codes "==", s.Eq) ∷ (codes "!=", s.Ne) ∷ (codes "<", s.Lt) ∷ (codes "<=", s.Le) ∷ (codes ">", s.Gt) ∷ (codes ">=", s.Ge) ∷ (codes "+", s.Plus)
    ∷ (codes "-", s.Minus) ∷ (codes "*", s.Star) ∷ (codes "/", s.Slash) ∷ (codes "%", s.Percent) ∷ (codes "&", s.Amp) ∷ (codes "|", s.Bar)
    ∷ (codes "^", s.Caret) ∷ (codes "~", s.Tilde) ∷ (codes "!", s.Bang) ∷ (codes "&&", s.AmpAmp) ∷ (codes "||", s.BarBar) ∷ (codes "<<", s.ShiftLeft)
    ∷ (codes ">>", s.ShiftRight) ∷ (codes "++", s.PlusPlus) ∷ (codes "--", s.MinusMinus) ∷ (codes "+=", s.SetPlus) ∷ (codes "-=", s.SetMinus)
    ∷ (codes "*=", s.SetStar) ∷ (codes "/=", s.SetSlash) ∷ (codes "%=", s.SetPercent) ∷ (codes "&=", s.SetAmp) ∷ (codes "|=", s.SetBar)
    ∷ (codes "^=", s.SetCaret) ∷ (codes "<<=", s.SetShiftLeft) ∷ (codes ">>=", s.SetShiftRight) ∷ []

-- what a token of a kind, with this text, is to the grammar
abbrev pub symbol_of : TokenKind → Text → Symbol
symbol_of k.Name text = s.Name
symbol_of k.TypeName text = s.TypeName
symbol_of k.Number text = s.Number
symbol_of k.End text = s.End
symbol_of k.Keyword text = symbol_in keywords text
symbol_of k.Sign text = symbol_in signs text

-- a token of the lexer's
abbrev pub tok_of : List ℕ → Token → Tok
tok_of bytes t = let text = slice_range bytes t.first t.end in tok (symbol_of t.kind text) text t.place

-- the tokens of a text
abbrev pub toks : List ℕ → List Token → List Tok
toks bytes tokens = map (tok_of bytes) tokens

-- the base that a number is written in
abbrev pub base_of : Text → Base
base_of text = if bytes_eq (take 2 text) (codes "0x") then Hexadecimal else (if bytes_eq (take 2 text) (codes "0b") then Binary else Decimal)

-- the value of a number, and whether `u` follows it
abbrev pub value_of : Text → ℕ
value_of text = worth_after (radix_of (base_of text)) 0 (digits_of (base_of text) text)

abbrev pub unsigned_of : Text → Bool
unsigned_of text = slice_index (rest_of (base_of text) text) 0 == 117
